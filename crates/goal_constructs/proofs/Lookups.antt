-- A look-up of cases by the numbers of their names finds what a look-up by the names does.
use Rattle.std.proofs.Common.{subst, lit<, ◌≡◌, ◌∙◌, ℕ, suc, ◌+◌, ◌<◌, Bool, true, false, cond, not, nat_eq, nat_lt, ◌&&◌, List, [], ◌∷◌, map, length, slice_get, get_or, Option, Some, None, refl, sym, ap, arith, eq-eqb, position, if◌then◌else◌}
use Rattle.std.specs.List.{position_or_len}
use Rattle.std.proofs.lemmas.Bool.{eqb-true, ltb-true, and_parts, false≢true, false_from_ne_true, lt-ltb}
use Rattle.pl_atoms.specs.declared.names.NameId.{NameId}
use Rattle.pl_atoms.specs.declared.case_table.CaseRow.{CaseRow}
use Rattle.pl_atoms.specs.Names.{same_text, AreDistinct}
use Rattle.pl_atoms.specs.CaseTable.{Case, cases_of, is_case, case_place}
use Rattle.unit_model.specs.Builtins.{builtins}
use Rattle.builtin_model.specs.Naming.{by_numbers}
use Rattle.goal_constructs.specs.Numbers.{goal_texts, numbers_in, AreIn, entry_place}
use Rattle.goal_constructs.specs.Constructs.{IsNumber, AreGoalNames, AreConstructs, place_found}
use Rattle.goal_constructs.specs.declared.names.GoalNames.{GoalNames}
use Rattle.goal_constructs.specs.declared.constructs.Constructs.{Constructs}
use Rattle.goal_constructs.proofs.Tables.{AreIn-at, number-here}

-- the place of the first that passes a test, counted from a number on
abbrev pub first_from : {X : Type 0} → (X → Bool) → List X → ℕ → Option ℕ
first_from p [] i = None
first_from p (x ∷ xs) i = if p x then Some i else first_from p xs (suc i)

module _ {X : Type 0} (p : X → Bool) where
  less-suc : (m n : ℕ) → nat_lt (1 + m) (suc n) ≡ nat_lt m n
  less-suc m n = grind arith

  first-placed : (xs : List X) (i : ℕ) → first_from p xs i ≡ (if nat_lt (position_or_len p xs) (length xs) then Some (i + position_or_len p xs) else None)
  first-placed [] i = refl
  first-placed (x ∷ xs) i = by (p x) (first-placed xs (suc i))
    where
      by : (b : Bool) → first_from p xs (suc i) ≡ (if nat_lt (position_or_len p xs) (length xs) then Some (suc i + position_or_len p xs) else None)
          → (if b then Some i else first_from p xs (suc i))
          ≡ (if nat_lt (cond (not b) (1 + position_or_len p xs) 0) (suc (length xs)) then Some (i + cond (not b) (1 + position_or_len p xs) 0) else None)
      by true h =
          let e : i ≡ i + 0 = omega arith in
          let t : nat_lt 0 (suc (length xs)) ≡ true = lt-ltb 0 (suc (length xs)) (omega arith) in
          ap Some e ∙ ap (λ c. if c then Some (i + 0) else None) (sym t)
      by false h =
          let e : suc i + position_or_len p xs ≡ i + (1 + position_or_len p xs) = omega arith in
          h ∙ (ap (λ k. if nat_lt (position_or_len p xs) (length xs) then Some k else None) e
          ∙ ap (λ c. if c then Some (i + (1 + position_or_len p xs)) else None) (sym (less-suc (position_or_len p xs) (length xs))))

  pub first-position : (xs : List X) → first_from p xs 0 ≡ position p xs
  first-position xs =
      let e : 0 + position_or_len p xs ≡ position_or_len p xs = omega arith in
      first-placed xs 0 ∙ ap (λ k. if nat_lt (position_or_len p xs) (length xs) then Some k else None) e

-- ---- cases

nat_eq-turned : (a b : ℕ) → nat_eq a b ≡ nat_eq b a
nat_eq-turned a b = by (nat_eq b a) refl
  where
    by : (c : Bool) → nat_eq b a ≡ c → nat_eq a b ≡ nat_eq b a
    by true e = eq-eqb a b (sym (eqb-true b a e)) ∙ sym e
    by false e = false_from_ne_true (nat_eq a b) (λ h. false≢true (sym e ∙ eq-eqb b a (sym (eqb-true a b h)))) ∙ sym e

abbrev pub all_named : List Case → Bool
all_named [] = true
all_named (c ∷ cs) = nat_lt 0 (length c.name) && all_named cs

pub builtins-named : all_named builtins ≡ true
unfolding builtins
builtins-named = refl

abbrev pub names_of : List Case → List (List ℕ)
names_of cases = map (λ c. c.name) cases

pub names_of-rows : (rows : List CaseRow) → names_of (cases_of rows) ≡ map (λ r. r.name.now) rows
names_of-rows [] = refl
names_of-rows (r ∷ rs) = ap (λ l. r.name.now ∷ l) (names_of-rows rs)

module _ (table : List (List ℕ)) (distinct : AreDistinct table) (f k : ℕ) where
  pub entries-first : (cases : List Case) (ids : List NameId) (i : ℕ) → all_named cases ≡ true → AreIn table (names_of cases) ids
      → entry_place ids cases f k i ≡ first_from (is_case (get_or table f []) k) cases i
  entries-first [] [] i named e = refl
  entries-first [] (n ∷ ns) i named e = refl
  entries-first (c ∷ cs) [] i named e = absurd (cc)
  entries-first (c ∷ cs) (n ∷ ns) i named e =
      let here : slice_get table n.0 ≡ Some c.name = cc in
      let rest : AreIn table (names_of cs) ns = cc in
      let parts = and_parts (nat_lt 0 (length c.name)) (all_named cs) named in
      let some : 0 < length c.name = ltb-true 0 (length c.name) parts.0 in
      let number : IsNumber (by_numbers table) c.name n = number-here table distinct c.name n some here in
      let test : (nat_eq n.0 f && nat_eq c.arity k) ≡ is_case (get_or table f []) k c =
      ap (λ b. b && nat_eq c.arity k) (nat_eq-turned n.0 f ∙ sym (number.known f)) ∙ ap (λ b. same_text (get_or table f []) c.name && b) (nat_eq-turned c.arity k) in
      ap (λ b. if b then Some i else entry_place ns cs f k (suc i)) test
      ∙ ap (λ o. if is_case (get_or table f []) k c then Some i else o) (entries-first cs ns (suc i) parts.1 rest)

-- ---- the constructs

pub goal_names : (table : List (List ℕ)) → AreDistinct table → (g : GoalNames) → AreIn table goal_texts (numbers_in g) → AreGoalNames (by_numbers table) g
goal_names table distinct g are = record {
  conjunction = at 0 (lit< tt) (lit< tt);
  disjunction = at 1 (lit< tt) (lit< tt);
  implication = at 2 (lit< tt) (lit< tt);
  cut = at 3 (lit< tt) (lit< tt);
  truth = at 4 (lit< tt) (lit< tt);
  call = at 5 (lit< tt) (lit< tt);
  colon = at 6 (lit< tt) (lit< tt);
  nil = at 7 (lit< tt) (lit< tt);
  dot = at 8 (lit< tt) (lit< tt);
  slash = at 9 (lit< tt) (lit< tt);
  error = at 10 (lit< tt) (lit< tt);
  instantiation_error = at 11 (lit< tt) (lit< tt);
  type_error = at 12 (lit< tt) (lit< tt);
  existence_error = at 13 (lit< tt) (lit< tt);
  representation_error = at 14 (lit< tt) (lit< tt);
  max_arity = at 15 (lit< tt) (lit< tt);
  callable_word = at 16 (lit< tt) (lit< tt);
  list_word = at 17 (lit< tt) (lit< tt);
  atom_word = at 18 (lit< tt) (lit< tt);
  module_word = at 19 (lit< tt) (lit< tt);
  procedure_word = at 20 (lit< tt) (lit< tt);
  user_word = at 21 (lit< tt) (lit< tt);
  system_word = at 22 (lit< tt) (lit< tt);
}
  where
    at : (i : ℕ) → i < length goal_texts → 0 < length (get_or goal_texts i []) → IsNumber (by_numbers table) (get_or goal_texts i []) (get_or (numbers_in g) i (record { 0 = 0 }))
    at i h some = number-here table distinct (get_or goal_texts i []) (get_or (numbers_in g) i (record { 0 = 0 })) some (AreIn-at table goal_texts (numbers_in g) i (record { 0 = 0 }) are h)

pub constructs : (table : List (List ℕ)) → AreDistinct table → (c : Constructs) (rows : List CaseRow) (ids : List NameId) → AreIn table goal_texts (numbers_in c.names)
    → cases_of rows ≡ builtins → AreIn table (map (λ r. r.name.now) rows) ids
    → ((f k : ℕ) → place_found c.rows.places.entries f k ≡ entry_place ids (cases_of rows) f k 0) → AreConstructs (by_numbers table) c
constructs table distinct c rows ids names is are found = record {
  names = goal_names table distinct c.names names;
  rows = λ f k.
      found f k
      ∙ (entries-first table distinct f k (cases_of rows) ids 0 (ap all_named is ∙ builtins-named) (subst (λ ts. AreIn table ts ids) (sym (names_of-rows rows)) are)
      ∙ (first-position (is_case (get_or table f []) k) (cases_of rows) ∙ ap (λ cs. case_place cs (get_or table f []) k) is));
}
