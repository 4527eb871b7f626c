-- New numbers of names: each name's is its place in the order of first use.
use Rattle.std.specs.Prelude.{◌≡◌, ℕ, zero, suc, List, [], ◌∷◌, ◌++◌, fold, nat_eq, slice_index_or, Option, Some, None, if◌then◌else◌}
use Rattle.std.specs.List.{list_any}
use Rattle.std.specs.Option.{option_map}
use Rattle.pl_terms.specs.Occurrence.{place_of}
use Rattle.pl_terms.specs.declared.cell.Cell.{Cell}
use Rattle.pl_terms.specs.declared.cell.Cell.TheVariants.{Var, Int, Name, Comp}

-- the numbers, with this one last unless it is there
abbrev pub noted : List ℕ → ℕ → List ℕ
noted used n = if list_any (nat_eq n) used then used else used ++ n ∷ []

-- the numbers, with each of these in turn
abbrev pub all_noted : List ℕ → List ℕ → List ℕ
all_noted = fold noted

abbrev pub number_in : List ℕ → ℕ → ℕ
number_in used n = place_of n used

-- the cell with its name's number replaced
abbrev pub cell_by_name : (ℕ → ℕ) → Cell → Cell
cell_by_name f (Var n) = Var n
cell_by_name f (Int z) = Int z
cell_by_name f (Name s) = Name (record { 0 = f s.0 })
cell_by_name f (Comp s k) = Comp (record { 0 = f s.0 }) k

-- the numbers below a number, the last first
abbrev pub down_from : ℕ → List ℕ
down_from zero = []
down_from (suc n) = n ∷ down_from n

-- the place of a number in a list, where it is there
abbrev pub known_place : ℕ → List ℕ → Option ℕ
known_place n [] = None
known_place n (m ∷ ms) = if nat_eq n m then Some 0 else option_map suc (known_place n ms)

-- at each number its place
abbrev pub ArePlaces : List (Option ℕ) → List ℕ → Type 0
ArePlaces places used = (n : ℕ) → slice_index_or places n None ≡ known_place n used
