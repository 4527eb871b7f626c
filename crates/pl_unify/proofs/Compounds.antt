-- Places that are put behind those of a state, one after another.
use Rattle.std.proofs.Common.{◌≡◌, ◌∙◌, ℕ, zero, suc, ◌+◌, ◌<◌, ◌≤◌, List, [], ◌∷◌, ◌++◌, take, drop, length, map, get_or, refl, ap, sym, arith}
use Rattle.std.proofs.lemmas.List.{map-append, drop_all, length-append, take-map, take_all, get_or_push}
use Rattle.pl_atoms.specs.declared.names.NameId.{NameId}
use Rattle.pl_terms.specs.Trees.{Tree, var, comp}
use Rattle.unifier_model.specs.Substitution.{apply}
use Rattle.unifier_model.proofs.Replaced.{apply-comp}
use Rattle.pl_unify.specs.declared.word.Ref.{Ref}
use Rattle.pl_unify.specs.declared.word.Word.{Word}
use Rattle.pl_unify.specs.declared.word.Word.TheVariants.{Comp}
use Rattle.pl_unify.specs.Prefix.{trees}
use Rattle.pl_unify.specs.Words.{word_tree}
use Rattle.pl_unify.specs.State.{State, IsRef, Grows, tree_at, tree_of_word, base, bound}
use Rattle.pl_unify.specs.Making.{AreRefs}
use Rattle.pl_unify.proofs.Grown.{length-bases_nil}
use Rattle.pl_unify.proofs.Loading.{Grows-refl, Grows-trans}
use Rattle.pl_unify.proofs.Shapes.{apply_all-trees}

pub AreRefs-at : (s : State) (rs : List Ref) (i : ℕ) (d : Ref) → i < length rs → AreRefs s rs → IsRef s (get_or rs i d)
AreRefs-at s [] i d l h = absurd (omega arith)
AreRefs-at s (r ∷ rs) zero d l h = h.0
AreRefs-at s (r ∷ rs) (suc i) d l h = AreRefs-at s rs i d (omega arith) h.1

drop_push : {X : Type 0} (n : ℕ) (xs : List X) (y : X) → n ≤ length xs → drop n (xs ++ y ∷ []) ≡ drop n xs ++ y ∷ []
drop_push zero xs y l = refl
drop_push (suc n) [] y l = absurd (omega arith)
drop_push (suc n) (x ∷ xs) y l = drop_push n xs y (omega arith)

-- the added places have these trees
pub record Copied (old s : State) (ts : List (Tree ℕ)) : Type 0 where
  pub grows : Grows old s
  pub next : s.next ≡ old.next
  pub trees : map (apply (bound old)) (drop (length old.cells) (base s)) ≡ ts
  pub count : length s.cells ≡ length old.cells + length ts

pub copied-none : (s : State) → Copied s s []
copied-none s = record {
  grows = Grows-refl s;
  next = refl;
  trees = ap (map (apply (bound s))) (drop_all (length s.cells) (base s) (omega (arith, length-bases_nil s.cells)));
  count = omega arith;
}

pub copied-more : (old s new : State) (ts : List (Tree ℕ)) (w : Word) (t : Tree ℕ) → Copied old s ts → Grows s new → new.next ≡ s.next
    → base new ≡ base s ++ word_tree (base s) w ∷ [] → length new.cells ≡ length s.cells + 1 → tree_of_word s w ≡ t → Copied old new (ts ++ t ∷ [])
copied-more old s new ts w t h g n b k e = record {
  grows = Grows-trans old s new h.grows g;
  next = n ∙ h.next;
  trees = ap (λ x. map (apply (bound old)) (drop (length old.cells) x)) b
      ∙ (ap (map (apply (bound old))) (drop_push (length old.cells) (base s) (word_tree (base s) w) (omega (arith, length-bases_nil s.cells, h.count)))
      ∙ (map-append (apply (bound old)) (drop (length old.cells) (base s)) (word_tree (base s) w ∷ [])
      ∙ (ap (λ x. x ++ apply (bound old) (word_tree (base s) w) ∷ []) h.trees
      ∙ ap (λ x. ts ++ x ∷ []) (ap (λ x. apply x (word_tree (base s) w)) (sym h.grows.bound) ∙ e))));
  count = omega (arith, k, h.count, length-append ts (t ∷ []));
}

-- a compound over all of them
pub copied_compound : (old s new : State) (ts : List (Tree ℕ)) (f : NameId) (k : ℕ) → Copied old s ts → Grows s new → k ≡ length ts
    → base new ≡ base s ++ word_tree (base s) (Comp k f (length old.cells)) ∷ [] → tree_at new (record { 0 = length s.cells }) ≡ comp f.0 (trees ts)
copied_compound old s new ts f k h g e b =
    let added : List (Tree ℕ) = drop (length old.cells) (base s) in
    ap (λ x. apply x (get_or (base new) (length s.cells) (var 0))) (g.bound ∙ h.grows.bound)
    ∙ (ap (apply (bound old)) (ap (λ x. get_or x (length s.cells) (var 0)) b
    ∙ get_or_push (base s) (word_tree (base s) (Comp k f (length old.cells))) (var 0) (length s.cells) (length-bases_nil s.cells))
    ∙ (apply-comp (bound old) f.0 (trees (take k added))
    ∙ ap (comp f.0) (apply_all-trees (bound old) (take k added)
    ∙ ap trees (sym (take-map (apply (bound old)) k added) ∙ (ap (take k) h.trees ∙ take_all k ts (omega arith))))))

-- one place with the tree of a word
pub put_tree : (s new : State) (w : Word) → Grows s new → base new ≡ base s ++ word_tree (base s) w ∷ [] → tree_at new (record { 0 = length s.cells }) ≡ tree_of_word s w
put_tree s new w g b =
    ap (λ x. apply x (get_or (base new) (length s.cells) (var 0))) g.bound
    ∙ ap (apply (bound s)) (ap (λ x. get_or x (length s.cells) (var 0)) b ∙ get_or_push (base s) (word_tree (base s) w) (var 0) (length s.cells) (length-bases_nil s.cells))
