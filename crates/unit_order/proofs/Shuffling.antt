-- Facts of a unit under numbers in another order: what the tests begin with.
use Rattle.std.proofs.Common.{◌≡◌, ℕ, zero, suc, ◌+◌, ◌-◌, ◌<◌, ◌≤◌, List, [], ◌∷◌, map, length, true, ltb, refl, sym, ap, subst, ◌∙◌, arith, ◌⊎◌, inl, inr}
use Rattle.std.specs.List.{AllByRecursion, list_all}
use Rattle.std.proofs.Math.Logic.{∥∥₁_elim}
use Rattle.std.proofs.Math.Bool.{Bool-set}
use Rattle.std.proofs.lemmas.Bool.{and_parts, and_from, ltb-true, lt-ltb, cases_lt}
use Rattle.pl_atoms.specs.Names.{with_text, with_texts, AreDistinct}
use Rattle.pl_atoms.proofs.Numbers.{IsFront-with_text, get_or-front, length-front}
use Rattle.unit_model.specs.Facts.{Facts as FactsOf, names_of, facts_by}
use Rattle.unit_model.specs.Encoding.{text_at, facts_in}
use Rattle.unit_model.specs.Validity.{IsName, IsValid, FitsNeed, FitsSection}
use Rattle.unit_model.specs.Views.{facts_view}
use Rattle.unit_model.specs.declared.facts.Facts.{Facts}
use Rattle.unit_format.specs.Units.{IsUnitOf}
use Rattle.unit_format.proofs.Renaming.{names_of-by}
use Rattle.unit_format.proofs.Places.{are_new, in_range}
use Rattle.unit_model.specs.Entries.{FactsBelow, IsSound, IsSoundNeed, IsSoundSection}
use Rattle.unit_order.specs.Numbering.{noted, all_noted, number_in, down_from}
use Rattle.unit_order.proofs.Order.{AreFresh, IsNoted, place_held, fresh, all_of_uses, uses_noted}
use Rattle.unit_order.proofs.Texts.{text_again}
use Rattle.unit_order.proofs.Renaming.{Over, facts_over}
use Rattle.unit_order.proofs.Valid.{IsNumbering, table_whole, table_length}
use Rattle.std.proofs.lemmas.List.{append-nil}

abbrev Texts : Type 0
Texts = List (List ℕ)

-- ---- a loop from the last down

pub turned_more : (count place : ℕ) (used next total : List ℕ) → place < count → next ≡ noted used (count - 1 - place) → all_noted used (down_from (count - place)) ≡ total → all_noted next (down_from (count - (place + 1))) ≡ total
turned_more count place used next total lt step so_far =
    let k : count - place ≡ suc (count - 1 - place) = omega arith in
    let j : count - (place + 1) ≡ count - 1 - place = omega arith in
    ap (λ m. all_noted next (down_from m)) j ∙ ap (λ l. all_noted l (down_from (count - 1 - place))) step ∙ sym (ap (λ m. all_noted used (down_from m)) k) ∙ so_far

pub turned_whole : (count place : ℕ) (used total : List ℕ) → count ≤ place → all_noted used (down_from (count - place)) ≡ total → used ≡ total
turned_whole count place used total le so_far =
    let z : count - place ≡ 0 = omega arith in
    sym (ap (λ m. all_noted used (down_from m)) z) ∙ so_far

all_weaker : (P Q : ℕ → Type 0) → ((n : ℕ) → P n → Q n) → (ns : List ℕ) → AllByRecursion P ns → AllByRecursion Q ns
all_weaker P Q f [] h = tt
all_weaker P Q f (n ∷ ns) h = (f n h.0, all_weaker P Q f ns h.1)

down_below : (n : ℕ) → AllByRecursion (λ k. k < n) (down_from n)
down_below zero = tt
down_below (suc n) = (omega arith, all_weaker (λ k. k < n) (λ k. k < suc n) (λ k h. omega arith) (down_from n) (down_below n))

down_has : (P : ℕ → Type 0) (n : ℕ) → AllByRecursion P (down_from n) → (k : ℕ) → k < n → P k
down_has P zero h k lt = absurd (omega arith)
down_has P (suc n) h k lt = go (cases_lt k n) (down_has P n h.1 k)
  where
    go : (k < n) ⊎ (n ≤ k) → (k < n → P k) → P k
    go (inl less) ih = ih less
    go (inr more) ih = let same : n ≡ k = omega arith in subst P same h.0

pub down_used : (n : ℕ) (used : List ℕ) → used ≡ all_noted [] (down_from n) → AllByRecursion (λ k. k < n) used
down_used n used was = subst (AllByRecursion (λ k. k < n)) (sym was) (all_of_uses (λ k. k < n) [] (down_from n) tt (down_below n))

-- ---- the names of a unit are in its table

from_test : (n : ℕ) (ns : List ℕ) → list_all (λ k. ltb k n) ns ≡ true → AllByRecursion (λ k. k < n) ns
from_test n [] h = tt
from_test n (k ∷ ns) h = let p = and_parts (ltb k n) (list_all (λ k. ltb k n) ns) h in (ltb-true k n p.0, from_test n ns p.1)

to_test : (n : ℕ) (ns : List ℕ) → AllByRecursion (λ k. k < n) ns → list_all (λ k. ltb k n) ns ≡ true
to_test n [] h = refl
to_test n (k ∷ ns) h = and_from (ltb k n) (list_all (λ k. ltb k n) ns) (lt-ltb k n h.0) (to_test n ns h.1)

names_below : (names : Texts) (f : Facts) → ∥ IsUnitOf names f ∥₁ → AllByRecursion (λ k. k < length names) (names_of (facts_view f))
names_below names f h =
    let uses = names_of (facts_view f) in
    from_test (length names) uses (∥∥₁_elim h (Bool-set (list_all (λ k. ltb k (length names)) uses) true)
    (λ u. to_test (length names) uses (in_range names (are_new [] names u.order.distinct) uses u.order.used)))

-- ---- the same facts

module _ (names : Texts) (f : Facts) (used : List ℕ) (distinct : AreDistinct names) (unit : ∥ IsUnitOf names f ∥₁) (was : used ≡ all_noted [] (down_from (length names))) where
  numbering : IsNumbering names (facts_view f) used
  numbering = record {
    fresh = subst (AreFresh []) (sym was) (fresh [] (down_from (length names)) tt);
    below = down_used (length names) used was;
    noted = all_weaker (λ k. k < length names) (IsNoted used) (λ k lt. down_has (IsNoted used) (length names) (uses_noted used [] (down_from (length names)) (sym was)) k lt) (names_of (facts_view f)) (names_below names f unit);
  }

  module _ (table more : Texts) (t : List ℕ) (made : table ≡ with_texts [] (map (text_at names) used)) (added : more ≡ with_text table t) (g : Facts) (numbered : facts_view g ≡ facts_by (number_in used) (facts_view f)) where
    long : length table ≡ length used
    long = table_length names (facts_view f) used distinct numbering table made

    longer : length used ≤ length more
    longer = omega (arith, long, length-front table (with_text table t) (IsFront-with_text table t), ap length added)

    number_below : (n : ℕ) → IsNoted used n → number_in used n < length used
    number_below n h = subst (λ l. number_in l n < length used) (append-nil used) (place_held n used [] h)

    all_number_below : (ns : List ℕ) → AllByRecursion (IsNoted used) ns → AllByRecursion (λ k. k < length more) (map (number_in used) ns)
    all_number_below [] h = tt
    all_number_below (n ∷ ns) h = (omega (arith, number_below n h.0, longer), all_number_below ns h.1)

    pub still_below : FactsBelow (length more) (facts_view g)
    still_below = subst (AllByRecursion (λ k. k < length more)) (sym (ap names_of numbered ∙ names_of-by (number_in used) (facts_view f))) (all_number_below (names_of (facts_view f)) numbering.noted)

    text_there : (n : ℕ) → IsNoted used n → text_at more (number_in used n) ≡ text_at names n
    text_there n h =
        ap (λ l. text_at l (number_in used n)) added
        ∙ get_or-front table (with_text table t) (IsFront-with_text table t) (number_in used n) (omega (arith, long, number_below n h))
        ∙ ap (λ l. text_at l (number_in used n)) (table_whole names (facts_view f) used distinct numbering table made)
        ∙ text_again names used n h

    all_there : (ns : List ℕ) → AllByRecursion (IsNoted used) ns → AllByRecursion (Over (number_in used) (text_at more) (text_at names)) ns
    all_there [] h = tt
    all_there (n ∷ ns) h = (text_there n h.0, all_there ns h.1)

    pub still_same : facts_in more (facts_view g) ≡ facts_in names (facts_view f)
    still_same = ap (facts_in more) numbered ∙ facts_over (number_in used) (text_at more) (text_at names) (facts_view f) (all_there (names_of (facts_view f)) numbering.noted)

-- ---- valid facts are sound

each : {A : Type 0} (P Q : A → Type 0) → ((a : A) → P a → Q a) → (xs : List A) → AllByRecursion P xs → AllByRecursion Q xs
each P Q f [] h = tt
each P Q f (x ∷ xs) h = (f x h.0, each P Q f xs h.1)

pub is_sound : (f : FactsOf (List ℕ)) → IsValid f → IsSound f
is_sound f h = record {
  needs = each (FitsNeed IsName) IsSoundNeed (λ n k. record { byte = k.byte; of = k.of; operators = k.operators }) f.needs h.fits.needs;
  sections = each (FitsSection IsName) IsSoundSection (λ s k. record { byte = k.byte; of = k.of; entries = k.entries }) f.sections h.fits.sections;
  rules = h.rules;
}
