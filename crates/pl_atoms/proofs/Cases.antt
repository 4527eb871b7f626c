-- Rows that ascend, and a search among them.
use Rattle.std.proofs.Common.{◌≡◌, ℕ, ◌+◌, ◌<◌, Bool, true, false, cond, nat_lt, nat_eq, ◌&&◌, List, [], ◌∷◌, length, get_or, None, Some, refl, sym, ap, ◌∙◌, arith, inl, inr, position, eq-eqb, Result, Ok, Err}
use Rattle.std.specs.List.{AllByRecursion, IsAllAdjacentAnswer}
use Rattle.std.specs.List.Sorted.{IsStrictlySortedBy, IsNonDecreasingBy, IsSearchInRange, IsBinarySearchResult}
use Rattle.std.specs.Result.{result_ok}
use Rattle.std.specs.Cmp.{IsTotalOrder, nat_cmp_total, then_total, on_total, tied_itself, unsigned_ties}
use Rattle.std.specs.Cmp.Lexicographic.{slice_cmp, nat_list_cmp_total, texts_ties}
use Rattle.std.specs.Ordering.{nat_cmp, ordering_then, is_lt, is_eq, ordering_index, ordering_reverse}
use Rattle.std.specs.declared.cmp.Ordering.{Ordering}
use Rattle.std.specs.declared.cmp.Ordering.TheVariants.{Less, Equal, Greater}
use Rattle.std.proofs.lemmas.Bool.{and_parts, and_from, eqb-true, false≢true, lt-ltb, le-ltb, false_from_ne_true, cases_lt}
use Rattle.std.proofs.lemmas.Cmp.{alike_right}
use Rattle.std.proofs.lemmas.List.Sorted.{searchable_from_sorted}
use Rattle.std.proofs.lemmas.List.{length-map, get_or-map}
use Rattle.std.proofs.lemmas.List.Sums.{position_or_len_is}
use Rattle.std.proofs.lemmas.Map.Keys.{Less-from_sorted, sorted_from_all_adjacent}
use Rattle.pl_atoms.specs.Names.{same_text}
use Rattle.pl_atoms.specs.declared.case_table.CaseRow.{CaseRow}
use Rattle.pl_atoms.specs.CaseTable.{Case, case_of, cases_of, case_cmp, ascends_from, ascends, is_case, case_place}
use Rattle.pl_atoms.proofs.Texts.{same_text-is, same_text-itself, position-map}

case_cmp_total : IsTotalOrder case_cmp
case_cmp_total = then_total (on_total (λ (c : Case). c.name) nat_list_cmp_total) (on_total (λ (c : Case). c.arity) nat_cmp_total)

-- ascending, as std says it
is_lt-Less : (o : Ordering) → is_lt o ≡ true → o ≡ Less
is_lt-Less Less h = refl
is_lt-Less Equal h = absurd (false≢true h)
is_lt-Less Greater h = absurd (false≢true h)

below_all : (c d : Case) (ds : List Case) → case_cmp c d ≡ Less → AllByRecursion (λ e. case_cmp d e ≡ Less) ds → AllByRecursion (λ e. case_cmp c e ≡ Less) ds
below_all c d [] lt h = tt
below_all c d (e ∷ es) lt h = (case_cmp_total.trans c d e lt h.0, below_all c d es lt h.1)

sorted_from_ascends : (c : Case) (cs : List Case) → ascends_from c cs ≡ true → IsStrictlySortedBy case_cmp (c ∷ cs)
unfolding IsStrictlySortedBy
sorted_from_ascends c [] h = (tt, tt)
sorted_from_ascends c (d ∷ ds) h =
    let both = and_parts (is_lt (case_cmp c d)) (ascends_from d ds) h in
    let lt = is_lt-Less (case_cmp c d) both.0 in
    let rest = sorted_from_ascends d ds both.1 in
    ((lt, below_all c d ds lt rest.0), rest)

pub ascends-sorted : (cs : List Case) → ascends cs ≡ true → IsStrictlySortedBy case_cmp cs
unfolding IsStrictlySortedBy
ascends-sorted [] h = tt
ascends-sorted (c ∷ cs) h = sorted_from_ascends c cs h

ascends_from-sorted : (c : Case) (cs : List Case) → IsStrictlySortedBy case_cmp (c ∷ cs) → ascends_from c cs ≡ true
unfolding IsStrictlySortedBy
ascends_from-sorted c [] h = refl
ascends_from-sorted c (d ∷ ds) h = ap (λ o. is_lt o && ascends_from d ds) h.0.0 ∙ ascends_from-sorted d ds h.1

pub sorted-ascends : (cs : List Case) → IsStrictlySortedBy case_cmp cs → ascends cs ≡ true
sorted-ascends [] h = refl
sorted-ascends (c ∷ cs) h = ascends_from-sorted c cs h

both_level : (o p : Ordering) → ordering_then o p ≡ Equal → (o ≡ Equal) × (p ≡ Equal)
both_level Less p h = absurd (cc)
both_level Equal p h = (refl, h)
both_level Greater p h = absurd (cc)

level_numbers : (m n : ℕ) → nat_cmp m n ≡ Equal → m ≡ n
level_numbers m n h = eqb-true m n (unsigned_ties m n ∙ ap is_eq h)

Less≢Equal : Less ≡ Equal → ⊥
Less≢Equal h = cc

Greater≢Equal : Greater ≡ Equal → ⊥
Greater≢Equal h = cc

not_below : (c d : Case) → case_cmp c d ≡ Less → is_lt (case_cmp d c) ≡ false
not_below c d h = ap is_lt (case_cmp_total.antisymm d c) ∙ ap (λ o. is_lt (ordering_reverse o)) h

-- the place of the first that passes a test
position_at : {X : Type 0} (xs : List X) (i : ℕ) (p : X → Bool) → i < length xs → ((d : X) → p (get_or xs i d) ≡ true) → ((k : ℕ) (d : X) → k < i → p (get_or xs k d) ≡ false) → position p xs ≡ Some i
position_at [] i p within here before = absurd (omega arith)
position_at (x ∷ xs) i p within here before =
    let e = position_or_len_is p (x ∷ xs) i x (omega arith) (λ k. before k x) (λ _. here x) in
    ap (λ n. cond (nat_lt n (length (x ∷ xs))) (Some n) None) e ∙ ap (λ b. cond b (Some i) None) (lt-ltb i (length (x ∷ xs)) within)

position_none : {X : Type 0} (xs : List X) (p : X → Bool) → ((k : ℕ) (d : X) → k < length xs → p (get_or xs k d) ≡ false) → position p xs ≡ None
position_none [] p none = refl
position_none (x ∷ xs) p none =
    let e = position_or_len_is p (x ∷ xs) (length (x ∷ xs)) x (omega arith) (λ k. none k x) (λ h. absurd (omega arith)) in
    ap (λ n. cond (nat_lt n (length (x ∷ xs))) (Some n) None) e ∙ ap (λ b. cond b (Some (length (x ∷ xs))) None) (le-ltb (length (x ∷ xs)) (length (x ∷ xs)) (omega arith))

-- a case is the one that is sought exactly where it stands level with it
module _ (name : List ℕ) (arity : ℕ) where
  abbrev pub sought : Case
  sought = record { name = name; arity = arity; value = 0 }

  pub level_from_is_case : (c : Case) → is_case name arity c ≡ true → case_cmp c sought ≡ Equal
  level_from_is_case c h =
      let both = and_parts (same_text name c.name) (nat_eq arity c.arity) h in
      let n : c.name ≡ name = sym (same_text-is name c.name both.0) in
      let a : c.arity ≡ arity = sym (eqb-true arity c.arity both.1) in
      ap (λ s. ordering_then (slice_cmp nat_cmp s name) (nat_cmp c.arity arity)) n
      ∙ ap (λ k. ordering_then (slice_cmp nat_cmp name name) (nat_cmp k arity)) a
      ∙ tied_itself case_cmp_total (record { name = name; arity = arity; value = 0 })

  pub is_case_from_level : (c : Case) → case_cmp c sought ≡ Equal → is_case name arity c ≡ true
  is_case_from_level c h =
      let both = both_level (slice_cmp nat_cmp c.name name) (nat_cmp c.arity arity) h in
      let n : c.name ≡ name = same_text-is c.name name (texts_ties c.name name ∙ ap is_eq both.0) in
      let a : c.arity ≡ arity = level_numbers c.arity arity both.1 in
      and_from (same_text name c.name) (nat_eq arity c.arity) (ap (same_text name) n ∙ same_text-itself name) (eq-eqb arity c.arity (sym a))

-- rows that ascend
abbrev pub at : List CaseRow → ℕ → CaseRow → Case
at rows k d = case_of (get_or rows k d)

module _ (rows : List CaseRow) (up : ascends (cases_of rows) ≡ true) where
  pub rises : (i j : ℕ) (d : CaseRow) → i < j → j < length rows → case_cmp (at rows i d) (at rows j d) ≡ Less
  rises i j d lt within =
      let inside : j < length (cases_of rows) = omega (arith, length-map rows case_of) in
      let before : i < length rows = omega arith in
      ap (λ c. case_cmp c (at rows j d)) (sym (get_or-map case_of rows i d (case_of d) before))
      ∙ ap (case_cmp (get_or (cases_of rows) i (case_of d))) (sym (get_or-map case_of rows j d (case_of d) within))
      ∙ Less-from_sorted case_cmp (cases_of rows) i j (case_of d) (ascends-sorted (cases_of rows) up) lt inside

  -- what a binary search among them asks
  searchable : (c : Case) → IsNonDecreasingBy (λ row. ordering_index (case_cmp (case_of row) c)) rows
  searchable c = searchable_from_sorted case_cmp_total case_of rows c (λ k d low lt. not_below (at rows k d) (at rows (k + 1) d) (rises k (k + 1) d (omega arith) lt))

  module _ (name : List ℕ) (arity : ℕ) where
    -- no row before one that is sought is sought
    is_case-before : (i k : ℕ) (d : CaseRow) → case_cmp (at rows i d) (sought name arity) ≡ Equal → i < length rows → k < i → is_case name arity (at rows k d) ≡ false
    is_case-before i k d level within lt = false_from_ne_true _ (λ h.
        let e : case_cmp (at rows k d) (at rows i d) ≡ Equal =
        alike_right case_cmp_total (at rows i d) (sought name arity) (at rows k d) level ∙ level_from_is_case name arity (at rows k d) h in
        Less≢Equal (sym (rises k i d lt within) ∙ e))

    case_place-Some : (i : ℕ) → ((d : CaseRow) → case_cmp (at rows i d) (sought name arity) ≡ Equal) → i < length rows → case_place (cases_of rows) name arity ≡ Some i
    case_place-Some i level within =
        position-map case_of (is_case name arity) rows
        ∙ position_at rows i (λ row. is_case name arity (case_of row)) within (λ d. is_case_from_level name arity (at rows i d) (level d)) (λ k d lt. is_case-before i k d (level d) within lt)

    case_place-None : ((k : ℕ) (d : CaseRow) → k < length rows → case_cmp (at rows k d) (sought name arity) ≡ Equal → ⊥) → case_place (cases_of rows) name arity ≡ None
    case_place-None apart =
        position-map case_of (is_case name arity) rows
        ∙ position_none rows (λ row. is_case name arity (case_of row)) (λ k d lt. false_from_ne_true _ (λ h. apart k d lt (level_from_is_case name arity (at rows k d) h)))

    -- what the search answers
    pub search_place : (r : Result ℕ ℕ) → IsSearchInRange r (length rows) → IsBinarySearchResult (λ row. case_cmp (case_of row) (sought name arity)) rows r → result_ok r ≡ case_place (cases_of rows) name arity
    search_place (Ok i) within level = sym (case_place-Some i level within)
    search_place (Err i) within splits =
        let point = splits (searchable (sought name arity)) in
        sym (case_place-None (λ k d lt level. elim (cases_lt k i) [
          | inl before ↦ Less≢Equal (sym (point.0 k d (omega arith) before) ∙ level)
          | inr after ↦ Greater≢Equal (sym (point.1 k d after lt) ∙ level)
        ]))

-- rows that are each below the next ascend, and no others do
pub ascends-adjacent : (rows : List CaseRow) → ((k : ℕ) (d : CaseRow) → k + 1 < length rows → is_lt (case_cmp (at rows k d) (at rows (k + 1) d)) ≡ true) → ascends (cases_of rows) ≡ true
ascends-adjacent [] h = refl
ascends-adjacent (row ∷ rows) h = sorted-ascends (cases_of (row ∷ rows)) (sorted_from_all_adjacent case_cmp_total (cases_of (row ∷ rows)) (case_of row) (λ k lt.
    let within : k + 1 < length (row ∷ rows) = omega (arith, length-map (row ∷ rows) case_of) in
    let before : k < length (row ∷ rows) = omega arith in
    ap (λ c. case_cmp c (get_or (cases_of (row ∷ rows)) (k + 1) (case_of row))) (get_or-map case_of (row ∷ rows) k row (case_of row) before)
    ∙ ap (case_cmp (at (row ∷ rows) k row)) (get_or-map case_of (row ∷ rows) (k + 1) row (case_of row) within)
    ∙ is_lt-Less (case_cmp (at (row ∷ rows) k row) (at (row ∷ rows) (k + 1) row)) (h k row within)))

pub ascends_answer : (rows : List CaseRow) (r : Bool) → IsAllAdjacentAnswer (λ x y b. b ≡ is_lt (case_cmp (case_of x) (case_of y))) rows r → r ≡ ascends (cases_of rows)
ascends_answer rows true h = sym (ascends-adjacent rows (λ k d lt. sym (h k d lt)))
ascends_answer rows false h = sym (false_from_ne_true (ascends (cases_of rows)) (λ up. fails rows h up))
  where
    fails : (rows : List CaseRow) → (k : ℕ) × (k + 1 < length rows) × ((d : CaseRow) → false ≡ is_lt (case_cmp (at rows k d) (at rows (k + 1) d))) → ascends (cases_of rows) ≡ true → ⊥
    fails [] h up = let lt = h.1 in omega arith
    fails (row ∷ rows) h up = false≢true (h.2 row ∙ ap is_lt (rises (row ∷ rows) up h.0 (h.0 + 1) row (omega arith) h.1))
