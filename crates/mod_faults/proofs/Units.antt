-- The names of a unit's facts are in its table.
use mathlib.Core.Bool.{Bool-set}
use Rattle.std.proofs.Common.{◌≡◌, ℕ, zero, suc, ◌+◌, ◌<◌, List, [], ◌∷◌, ◌++◌, length, take, get_or, true, ltb, ltb-true, lt-ltb, refl, sym, ap, subst, ◌∙◌, arith}
use Rattle.std.proofs.Math.Logic.{∥∥₁_elim}
use Rattle.std.specs.List.{AllByRecursion, flat_map, list_all}
use Rattle.std.proofs.lemmas.Bool.{and_parts, and_from}
use Rattle.std.proofs.lemmas.List.{take_more}
use Rattle.unit_model.specs.Facts.{names_of}
use Rattle.unit_model.specs.Directives.{Text}
use Rattle.unit_model.specs.Views.{facts_view}
use Rattle.unit_model.specs.declared.facts.Facts.{Facts}
use Rattle.unit_format.specs.Units.{IsUnitOf}
use Rattle.unit_format.specs.Uses.{need_uses, section_uses, facts_uses}
use Rattle.unit_format.proofs.Renaming.{AllBy-parts}
use Rattle.unit_format.proofs.UseLaws.{names_of-view}
use Rattle.unit_format.proofs.Places.{are_new, in_range}
use Rattle.mod_visible.specs.Placing.{AllBelow}

from_test : (n : ℕ) (ks : List ℕ) → list_all (λ k. ltb k n) ks ≡ true → AllBelow n ks
from_test n [] h = tt
from_test n (k ∷ ks) h = let p = and_parts (ltb k n) (list_all (λ k. ltb k n) ks) h in (ltb-true k n p.0, from_test n ks p.1)

to_test : (n : ℕ) (ks : List ℕ) → AllBelow n ks → list_all (λ k. ltb k n) ks ≡ true
to_test n [] h = refl
to_test n (k ∷ ks) h = and_from (ltb k n) (list_all (λ k. ltb k n) ks) (lt-ltb k n h.0) (to_test n ks h.1)

names_below : (names : List Text) (f : Facts) → ∥ IsUnitOf names f ∥₁ → AllBelow (length names) (facts_uses f)
names_below names f h =
    let uses = names_of (facts_view f) in
    subst (AllBelow (length names)) (names_of-view f)
    (from_test (length names) uses (∥∥₁_elim h (Bool-set (list_all (λ k. ltb k (length names)) uses) true)
    (λ u. to_test (length names) uses (in_range names (are_new [] names u.order.distinct) uses u.order.used))))

below_parts : {X : Type 0} (n : ℕ) (uses : X → List ℕ) (xs : List X) → AllBelow n (flat_map uses xs) → AllByRecursion (λ x. AllBelow n (uses x)) xs
below_parts n uses [] h = tt
below_parts n uses (x ∷ xs) h = let p = AllBy-parts (λ (k : ℕ). k < n) (uses x) (flat_map uses xs) h in (p.0, below_parts n uses xs p.1)

pub sections_below : (names : List Text) (f : Facts) → ∥ IsUnitOf names f ∥₁ → AllByRecursion (λ s. AllBelow (length names) (section_uses s)) f.sections
sections_below names f h = below_parts (length names) section_uses f.sections (AllBy-parts (λ (k : ℕ). k < length names) (flat_map need_uses f.needs) (flat_map section_uses f.sections) (names_below names f h)).1

pub needs_below : (names : List Text) (f : Facts) → ∥ IsUnitOf names f ∥₁ → AllByRecursion (λ n. AllBelow (length names) (need_uses n)) f.needs
needs_below names f h = below_parts (length names) need_uses f.needs (AllBy-parts (λ (k : ℕ). k < length names) (flat_map need_uses f.needs) (flat_map section_uses f.sections) (names_below names f h)).0

-- ---- elements in turn

pub AllBy-at : {A : Type 0} (P : A → Type 0) (xs : List A) (k : ℕ) (x : A) → k < length xs → x ≡ get_or xs k x → AllByRecursion P xs → P x
AllBy-at P [] k x lt is h = absurd (omega arith)
AllBy-at P (y ∷ xs) zero x lt is h = subst P (sym is) h.0
AllBy-at P (y ∷ xs) (suc k) x lt is h = AllBy-at P xs k x (omega arith) is h.1

pub more_taken : {A : Type 0} (xs : List A) (k : ℕ) (x : A) → k < length xs → x ≡ get_or xs k x → take (k + 1) xs ≡ take k xs ++ x ∷ []
more_taken xs k x lt is = take_more xs k x lt ∙ ap (λ y. take k xs ++ y ∷ []) (sym is)

pub get_or-itself : {A : Type 0} (xs : List A) (k : ℕ) (d : A) → k < length xs → get_or xs k d ≡ get_or xs k (get_or xs k d)
get_or-itself [] k d lt = absurd (omega arith)
get_or-itself (x ∷ xs) zero d lt = refl
get_or-itself (x ∷ xs) (suc k) d lt = get_or-itself xs k d (omega arith)
