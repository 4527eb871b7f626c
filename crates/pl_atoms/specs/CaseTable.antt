-- Tables of cases: rows in strictly ascending order of name, then number of arguments.
use Rattle.std.specs.Prelude.{ℕ, List, [], ◌∷◌, map, nat_eq, Bool, true, ◌&&◌, Option, position}
use Rattle.std.specs.Ordering.{nat_cmp, ordering_then, is_lt}
use Rattle.std.specs.Cmp.Lexicographic.{slice_cmp}
use Rattle.std.specs.declared.cmp.Ordering.{Ordering}
use Rattle.pl_atoms.specs.Names.{same_text}
use Rattle.pl_atoms.specs.declared.case_table.CaseRow.{CaseRow}

-- a row, with its name as a text
pub record Case : Type 0 where
  pub name : List ℕ
  pub arity : ℕ
  pub value : ℕ

abbrev pub case_of : CaseRow → Case
case_of row = record { name = row.name.now; arity = row.arity; value = row.value }

abbrev pub cases_of : List CaseRow → List Case
cases_of = map case_of

-- by name, then number of arguments
abbrev pub case_cmp : Case → Case → Ordering
case_cmp a b = ordering_then (slice_cmp nat_cmp a.name b.name) (nat_cmp a.arity b.arity)

-- each is below the next, which the first is below
abbrev pub ascends_from : Case → List Case → Bool
ascends_from c [] = true
ascends_from c (d ∷ ds) = is_lt (case_cmp c d) && ascends_from d ds

abbrev pub ascends : List Case → Bool
ascends [] = true
ascends (c ∷ cs) = ascends_from c cs

-- a case has this name and number of arguments
abbrev pub is_case : List ℕ → ℕ → Case → Bool
is_case name arity c = same_text name c.name && nat_eq arity c.arity

-- the place of the case with this name and number of arguments, where there is one
abbrev pub case_place : List Case → List ℕ → ℕ → Option ℕ
case_place cases name arity = position (is_case name arity) cases
