-- Compounds of stores and of codes have arguments.
use Rattle.std.proofs.Common.{◌≡◌, ℕ, zero, suc, ◌+◌, ◌<◌, ◌≤◌, Bool, true, false, List, [], ◌∷◌, ◌++◌, Option, Some, None, refl, sym, ap, ◌∙◌, subst, arith, length, take, drop, length-drop, get_or, nat_eq, cond}
use Rattle.std.proofs.lemmas.List.{length-take-le}
use Rattle.pl_terms.specs.Trees.{Tree, var, int, atom, comp, nil, cons}
use Rattle.unifier_model.specs.Substitution.{apply, replace}
use Rattle.pl_unify.specs.Prefix.{trees}
use Rattle.pl_unify.specs.declared.word.Ref.{Ref}
use Rattle.pl_unify.specs.declared.word.View.{View}
use Rattle.pl_unify.specs.declared.word.View.TheVariants as V
use Rattle.pl_unify.specs.declared.word.Word.{Word}
use Rattle.pl_unify.specs.declared.word.Word.TheVariants as W
use Rattle.pl_unify.specs.Words.{word_tree, Link, no_link, no_word, bound_onto, WordIn}
use Rattle.pl_unify.specs.Shape.{root}
use Rattle.pl_unify.specs.State.{State, base, bound, tree_at, IsRef, IsStore, LinkIn}
use Rattle.pl_unify.proofs.Shapes.{get_or-bases}
use Rattle.pl_unify.proofs.Grown.{length-bases_nil}
use Rattle.unit_model.specs.Facts.{Indicator}
use Rattle.pl_store.specs.Rules.{indicator_of}
use Rattle.clause_code.specs.Heads.{IsNamed}
use Rattle.pl_terms.specs.Cells.{cells, IsTerm}
use Rattle.goal_moves.specs.Clauses.{IsProper}

proper_comp : (f : ℕ) (ts : List (Tree ℕ)) → 0 < length ts → IsProper (comp f (trees ts))
proper_comp f [] h = absurd (omega (arith, h))
proper_comp f (t ∷ ts) h = tt

proper_block : (f k first : ℕ) (ts : List (Tree ℕ)) → first + k ≤ length ts → 0 < k → IsProper (comp f (trees (take k (drop first ts))))
proper_block f k first ts within some =
    let low : k ≤ length (drop first ts) = omega (arith, length-drop first ts, within) in
    proper_comp f (take k (drop first ts)) (omega (arith, length-take-le k (drop first ts) low, some))

word_proper : (ts : List (Tree ℕ)) (cells next : ℕ) (w : Word) → cells ≤ length ts → WordIn cells next w → IsProper (word_tree ts w)
word_proper ts cells next (W.Var n) le h = tt
word_proper ts cells next (W.Int z) le h = tt
word_proper ts cells next (W.Name a) le h = tt
word_proper ts cells next (W.Comp k f first) le h = proper_block f.0 k first ts (omega (arith, le, h.0)) h.1

-- the tree of a term's cells
pub term_proper : (t : Tree ℕ) → IsTerm (cells t) → IsProper t
term_proper (var n) h = tt
term_proper (int z) h = tt
term_proper (atom a) h = tt
term_proper (comp f nil) h = let k = h.whole.0 in absurd (omega (arith, k))
term_proper (comp f (cons t ts)) h = tt

-- ---- the trees of a store

abbrev BoundProper : List (ℕ × Tree ℕ) → Type 0
BoundProper [] = Unit {0}
BoundProper (b ∷ bs) = IsProper b.1 × BoundProper bs

bound_push : (bs : List (ℕ × Tree ℕ)) (n : ℕ) (t : Tree ℕ) → BoundProper bs → IsProper t → BoundProper (bs ++ (n, t) ∷ [])
bound_push [] n t h p = (p, tt)
bound_push (b ∷ bs) n t h p = (h.0, bound_push bs n t h.1 p)

replace_proper : (n : ℕ) (u t : Tree ℕ) → IsProper u → IsProper t → IsProper (replace n u t)
replace_proper n u (var m) p q = go (nat_eq n m)
  where
    go : (b : Bool) → IsProper (cond b u (var m))
    go true = p
    go false = tt
replace_proper n u (int z) p q = tt
replace_proper n u (atom a) p q = tt
replace_proper n u (comp f nil) p q = absurd q
replace_proper n u (comp f (cons t ts)) p q = tt

apply_proper : (bs : List (ℕ × Tree ℕ)) (t : Tree ℕ) → BoundProper bs → IsProper t → IsProper (apply bs t)
apply_proper [] t h p = p
apply_proper (b ∷ bs) t h p = apply_proper bs (replace b.0 b.1 t) h.1 (replace_proper b.0 b.1 t h.0 p)

links_proper : (ts : List (Tree ℕ)) (cells next : ℕ) (done : List (ℕ × Tree ℕ)) (ls : List Link) → cells ≤ length ts → BoundProper done
    → ((i : ℕ) → i < length ls → LinkIn cells next (get_or ls i no_link)) → BoundProper (bound_onto ts done ls)
links_proper ts cells next done [] le h ins = h
links_proper ts cells next done (l ∷ ls) le h ins =
    links_proper ts cells next (done ++ (l.var, apply done (word_tree ts l.word)) ∷ []) ls le
    (bound_push done l.var (apply done (word_tree ts l.word)) h (apply_proper done (word_tree ts l.word) h (word_proper ts cells next l.word le (ins 0 (omega arith)).word)))
    (λ i lt. ins (suc i) (omega (arith, lt)))

pub store_proper : (s : State) (r : Ref) → IsStore s → IsRef s r → IsProper (tree_at s r)
store_proper s r store is =
    let size = length-bases_nil s.cells in
    let within : WordIn r.0 s.next (get_or s.cells r.0 no_word) = store.cells_in r.0 is in
    apply_proper (bound s) (get_or (base s) r.0 (var 0))
    (links_proper (base s) (length s.cells) s.next [] s.links (omega (arith, size)) tt store.links_in)
    (subst IsProper (sym (get_or-bases s.cells r.0 s.next is within)) (word_proper (base s) r.0 s.next (get_or s.cells r.0 no_word) (omega (arith, size, is)) within))

-- ---- what stands at the root of a goal

abbrev seen : Option (Indicator ℕ) → View
seen None = V.Var 0
seen (Some i) = elim i.arity [ zero ↦ V.Name (record { 0 = i.name }) | suc k ↦ V.Comp (record { 0 = i.name }) (suc k) ]

root_seen : (t : Tree ℕ) (i : Indicator ℕ) → IsProper t → indicator_of t ≡ Some i → root t ≡ seen (indicator_of t)
root_seen (var n) i p is = cc
root_seen (int z) i p is = cc
root_seen (atom s) i p is = refl
root_seen (comp s nil) i p is = absurd p
root_seen (comp s (cons t ts)) i p is = refl

-- goals and heads of one procedure have the same root
pub roots_agree : (t u : Tree ℕ) (i : Indicator ℕ) → IsProper t → IsProper u → indicator_of t ≡ Some i → indicator_of u ≡ Some i → root t ≡ root u
roots_agree t u i p q is are = root_seen t i p is ∙ ap seen (is ∙ sym are) ∙ sym (root_seen u i q are)

pub root_named : (t : Tree ℕ) (i : Indicator ℕ) → indicator_of t ≡ Some i → IsNamed (root t)
root_named (var n) i is = cc
root_named (int z) i is = cc
root_named (atom s) i is = tt
root_named (comp s ts) i is = tt
