-- Rows of the table of evaluable functors, and the operations that they give.
use Rattle.std.proofs.Common.{◌≡◌, ◌∙◌, ℕ, ◌<◌, List, [], length, get_or, refl, ap, sym, subst, Bool, true, false, ◌&&◌, nat_eq, nat_lt, Option, Some, None, arith}
use Rattle.std.specs.Option.{option_map}
use Rattle.std.specs.List.{range_with_len}
use Rattle.std.proofs.lemmas.Bool.{and_parts, eqb-true, ltb-true, false≢true}
use Rattle.std.proofs.lemmas.List.FromFn.{get_or-range_with_len}
use Rattle.std.proofs.lemmas.List.{length-map, get_or-map}
use Rattle.std.proofs.lemmas.List.Quantifiers.{position-Some}
use Rattle.std.proofs.lemmas.List.Sums.{AllPass-from_list_all}
use Rattle.pl_atoms.specs.declared.case_table.CaseRow.{CaseRow}
use Rattle.pl_atoms.specs.Names.{same_text}
use Rattle.pl_atoms.specs.CaseTable.{Case, case_of, cases_of, is_case, case_place}
use Rattle.value_model.specs.declared.Unary.{Unary}
use Rattle.value_model.specs.declared.Operation.{Operation}
use Rattle.value_model.specs.declared.Operation.TheVariants.{One, Two}
use Rattle.pl_atoms.proofs.Texts.{same_text-is}
use Rattle.pl_arith.specs.Keys.{key, places, likely_place}
use Rattle.value_model.specs.Value.{row, evaluables, operation_at, operation_of}

abbrev pub arity_of : Operation → ℕ
arity_of (One op) = 1
arity_of (Two op) = 2

abbrev at : ℕ → Case
at i = get_or evaluables i (row [] 0 0)

arities : (i : ℕ) → i < length evaluables → arity_of (operation_at (at i).value) ≡ (at i).arity
unfolding evaluables
arities i h = eqb-true _ _ (AllPass-from_list_all (λ (c : Case). nat_eq (arity_of (operation_at c.value)) c.arity) evaluables refl i (row [] 0 0) h)

values_below : (i : ℕ) → i < length evaluables → (at i).value < 14
unfolding evaluables
values_below i h = ltb-true (at i).value 14 (AllPass-from_list_all (λ (c : Case). nat_lt c.value 14) evaluables refl i (row [] 0 0) h)

-- an operation has as many arguments as it was looked for with
pub operation_of-arity : (name : List ℕ) (k : ℕ) (op : Operation) → operation_of name k ≡ Some op → arity_of op ≡ k
operation_of-arity name k op e = by (case_place evaluables name k) refl e
  where
    by : (place : Option ℕ) → case_place evaluables name k ≡ place → option_map (λ i. operation_at (at i).value) place ≡ Some op → arity_of op ≡ k
    by None p e = cc
    by (Some i) p e =
        let found = position-Some (is_case name k) evaluables i (row [] 0 0) p in
        let fits = and_parts (same_text name (at i).name) (nat_eq k (at i).arity) found.1 in
        let is : operation_at (at i).value ≡ op = cc in
        ap arity_of (sym is) ∙ arities i found.0 ∙ sym (eqb-true k (at i).arity fits.1)

-- no operation on one integer is looked for with two arguments
pub none_of_one : (name : List ℕ) (op : Unary) → Some (One op) ≡ operation_of name 2 → ⊥
none_of_one name op h = omega (arith, operation_of-arity name 2 (One op) (sym h))

-- each row stands where its key says, and is the first with its name and number of arguments
abbrev or_end : Option ℕ → ℕ
or_end None = 14
or_end (Some i) = i

or_end-Some : (o : Option ℕ) (i : ℕ) → i < 14 → or_end o ≡ i → o ≡ Some i
or_end-Some None i h e = absurd (omega arith)
or_end-Some (Some j) i h e = ap Some e

abbrev is_in_place : ℕ → Bool
is_in_place i = nat_eq (likely_place (at i).name (at i).arity) i && nat_eq (or_end (case_place evaluables (at i).name (at i).arity)) i

all_in_place : (i : ℕ) → i < 14 → is_in_place i ≡ true
unfolding evaluables places
all_in_place i h =
    let e : i ≡ get_or (range_with_len 0 14) i 0 = omega (arith, get_or-range_with_len 0 14 i 0 h) in
    ap is_in_place e ∙ AllPass-from_list_all is_in_place (range_with_len 0 14) refl i 0 h

likely_is : (i : ℕ) → i < 14 → likely_place (at i).name (at i).arity ≡ i
likely_is i h = eqb-true _ _ (and_parts _ _ (all_in_place i h)).0

case_is : (i : ℕ) → i < 14 → case_place evaluables (at i).name (at i).arity ≡ Some i
case_is i h = or_end-Some _ i h (eqb-true _ _ (and_parts _ _ (all_in_place i h)).1)

rows_count : length evaluables ≡ 14
unfolding evaluables
rows_count = refl

places_low : (n : ℕ) → n < 32 → get_or places n 0 < 14
unfolding places
places_low n h = ltb-true _ _ (AllPass-from_list_all (λ p. nat_lt p 14) places refl n 0 h)

pub likely_low : (name : List ℕ) (k : ℕ) → key name k < 32 → likely_place name k < 14
likely_low name k h = places_low (key name k) h

module _ (name : List ℕ) (k : ℕ) where
  likely_found : (p : ℕ) → p < 14 → is_case name k (at p) ≡ true → case_place evaluables name k ≡ Some p
  likely_found p h is =
      let fits = and_parts (same_text name (at p).name) (nat_eq k (at p).arity) is in
      let n : name ≡ (at p).name = same_text-is name (at p).name fits.0 in
      let a : k ≡ (at p).arity = eqb-true k (at p).arity fits.1 in
      (λ j. case_place evaluables (n j) (a j)) ∙ case_is p h

  -- no other row has the name and number of arguments
  likely_none : is_case name k (at (likely_place name k)) ≡ false → case_place evaluables name k ≡ None
  likely_none none = by (case_place evaluables name k) refl
    where
      by : (place : Option ℕ) → case_place evaluables name k ≡ place → place ≡ None
      by None e = refl
      by (Some i) e =
          let found = position-Some (is_case name k) evaluables i (row [] 0 0) e in
          let low : i < 14 = subst (λ l. i < l) rows_count found.0 in
          let fits = and_parts (same_text name (at i).name) (nat_eq k (at i).arity) found.1 in
          let n : name ≡ (at i).name = same_text-is name (at i).name fits.0 in
          let a : k ≡ (at i).arity = eqb-true k (at i).arity fits.1 in
          let p : likely_place name k ≡ i = (λ j. likely_place (n j) (a j)) ∙ likely_is i low in
          absurd (false≢true (sym none ∙ ap (λ q. is_case name k (at q)) p ∙ found.1))

pub inside : (rows : List CaseRow) (i : ℕ) → cases_of rows ≡ evaluables → i < 14 → i < length rows
inside rows i is within = omega (arith, within, length-map rows case_of, ap length is, rows_count)

module _ (rows : List CaseRow) (is : cases_of rows ≡ evaluables) (i : ℕ) (within : i < 14) (d : CaseRow) where
  row_case : case_of (get_or rows i d) ≡ at i
  row_case = sym (get_or-map {X = CaseRow} case_of rows i d (row [] 0 0) (inside rows i is within)) ∙ ap (λ l. get_or l i (row [] 0 0)) is

  pub row_value_below : (get_or rows i d).value < 14
  row_value_below = subst (λ (c : Case). c.value < 14) (sym row_case) (values_below i (subst (λ l. i < l) (sym rows_count) within))

  pub operation_found : (name : List ℕ) (k : ℕ) → is_case name k (case_of (get_or rows i d)) ≡ true → Some (operation_at (get_or rows i d).value) ≡ operation_of name k
  operation_found name k h =
      ap (λ (c : Case). Some (operation_at c.value)) row_case
      ∙ ap (option_map (λ j. operation_at (at j).value)) (sym (likely_found name k i within (ap (is_case name k) (sym row_case) ∙ h)))

  pub no_operation_found : (name : List ℕ) (k : ℕ) → i ≡ likely_place name k → is_case name k (case_of (get_or rows i d)) ≡ false → None ≡ operation_of name k
  no_operation_found name k e h =
      ap (option_map (λ j. operation_at (at j).value)) (sym (likely_none name k (ap (λ j. is_case name k (at j)) (sym e) ∙ ap (is_case name k) (sym row_case) ∙ h)))
