-- The variables of terms, found one after another.
use Rattle.std.proofs.Common.{◌≡◌, ◌∙◌, ℕ, suc, List, [], ◌∷◌, ◌++◌, length, map, nat_eq, refl, ap, sym, arith, Bool, true, false, if◌then◌else◌, not, Option, Some, None}
use Rattle.std.specs.Prelude.{is_some}
use Rattle.std.specs.List.{list_any}
use Rattle.std.proofs.lemmas.List.{append-nil, append_assoc, map-append}
use Rattle.indexmap.specs.IndexSet.{insert_key, insert_all}
use Rattle.pl_terms.specs.Trees.{Tree, var}
use Rattle.pl_terms.specs.Occurrence.{occurrences, first_after, variables}
use Rattle.pl_builtin_terms.proofs.Firsts.{insert_key-first_after}
use Rattle.pl_unify.specs.declared.word.Ref.{Ref}
use Rattle.pl_unify.specs.State.{State, tree_at}
use Rattle.builtin_model.specs.Deeds.{is_ground}
use Rattle.pl_builtin_terms.specs.Walk.{occurrences_at, IsNext}

-- putting the others into a set of the first ones
insert_all-first_after : (done rest : List ℕ) → insert_all nat_eq (first_after [] done) rest ≡ first_after [] (done ++ rest)
insert_all-first_after done [] = ap (first_after []) (sym (append-nil done))
insert_all-first_after done (n ∷ ns) =
    ap (λ ks. insert_all nat_eq ks ns) (insert_key-first_after done n)
    ∙ (insert_all-first_after (done ++ n ∷ []) ns ∙ ap (first_after []) (append_assoc done (n ∷ []) ns))

pub insert_all-variables : (t : Tree ℕ) → insert_all nat_eq [] (occurrences t) ≡ variables t
insert_all-variables t = insert_all-first_after [] (occurrences t)

-- a term without variables
no_more : (ns : List ℕ) → ns ≡ [] → true ≡ nat_eq (length (first_after [] ns)) 0
no_more ns e = ap (λ ms. nat_eq (length (first_after [] ms)) 0) (sym e)

some_more : (n : ℕ) (ns ms : List ℕ) → ns ≡ n ∷ ms → false ≡ nat_eq (length (first_after [] ns)) 0
some_more n ns ms e = positive (length (first_after (n ∷ []) ms)) ∙ ap (λ ks. nat_eq (length (first_after [] ks)) 0) (sym e)
  where
    positive : (k : ℕ) → false ≡ nat_eq (suc k) 0
    positive k = search arith

pub ground-found : (s : State) (t : Ref) (old new : List Ref) (found : Option (ℕ × Ref)) (none : Bool) → old ≡ t ∷ [] → IsNext s old new found → is_some found ≡ not none → none ≡ is_ground (tree_at s t)
ground-found s t old new None true e h k = no_more (occurrences (tree_at s t)) (sym (append-nil (occurrences (tree_at s t))) ∙ (ap (occurrences_at s) (sym e) ∙ h))
ground-found s t old new None false e h k = cc
ground-found s t old new (Some p) true e h k = cc
ground-found s t old new (Some p) false e h k =
    some_more p.0 (occurrences (tree_at s t)) (occurrences_at s new) (sym (append-nil (occurrences (tree_at s t))) ∙ (ap (occurrences_at s) (sym e) ∙ h.occurrences))

pub added-keys : (ks : List ℕ) (n : ℕ) (b : Bool) → b ≡ true → b ≡ not (list_any (nat_eq n) ks) → insert_key nat_eq ks n ≡ ks ++ n ∷ []
added-keys ks n b t e = by (list_any (nat_eq n) ks) (sym e ∙ t)
  where
    by : (q : Bool) → not q ≡ true → (if q then ks else ks ++ n ∷ []) ≡ ks ++ n ∷ []
    by true h = cc
    by false h = refl

pub met-trees : (s : State) (ps ps2 : List Ref) (p : Ref) (n : ℕ) (ks ks2 : List ℕ) → ps2 ≡ ps ++ p ∷ [] → ks2 ≡ ks ++ n ∷ [] → tree_at s p ≡ var n → map (tree_at s) ps ≡ map var ks → map (tree_at s) ps2 ≡ map var ks2
met-trees s ps ps2 p n ks ks2 e f t h =
    ap (map (tree_at s)) e
    ∙ (map-append (tree_at s) ps (p ∷ [])
    ∙ (ap (λ ts. ts ++ tree_at s p ∷ []) h
    ∙ (ap (λ u. map var ks ++ u ∷ []) t
    ∙ (sym (map-append var ks (n ∷ [])) ∙ ap (map var) (sym f)))))

-- a variable that was met, new or not
pub met-whole : (s : State) (keys keys2 old new : List ℕ) (n : ℕ) (all : List ℕ) → old ≡ n ∷ new → keys2 ≡ insert_key nat_eq keys n → insert_all nat_eq keys old ≡ all → insert_all nat_eq keys2 new ≡ all
met-whole s keys keys2 old new n all e k w = ap (λ ks. insert_all nat_eq ks new) k ∙ (ap (insert_all nat_eq keys) (sym e) ∙ w)
