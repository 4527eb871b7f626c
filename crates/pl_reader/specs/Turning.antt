-- From cells with each compound behind its arguments to cells in prefix order, read from the right. A state is the compounds that
-- wait for arguments, the innermost first, and the cells so far in reverse.
use Rattle.std.specs.Prelude.{ℕ, ◌-◌, List, [], ◌∷◌, ◌++◌, nat_lt, if◌then◌else◌}
use Rattle.pl_terms.specs.Trees.{Tree, var, int, atom, comp, Trees, nil, cons, count}
use Rattle.pl_reader.specs.Stands.{id}
use Rattle.pl_terms.specs.declared.cell.Cell.{Cell}
use Rattle.pl_terms.specs.declared.cell.Cell.TheVariants.{Var, Int, Name, Comp}
use Rattle.pl_reader.specs.declared.prefix.Pending.{Pending}

abbrev pub State : Type 0
State = List Pending × List Cell

abbrev pub settle : List Pending → List Cell → State
settle [] out = ([], out)
settle (p ∷ ps) out = if nat_lt 1 p.missing then (record { cell = p.cell; missing = p.missing - 1 } ∷ ps, out) else settle ps (out ++ p.cell ∷ [])

abbrev pub missing_of : Cell → ℕ
missing_of (Var n) = 0
missing_of (Int z) = 0
missing_of (Name s) = 0
missing_of (Comp s k) = k

-- one cell, from the right
abbrev pub take_cell : Cell → State → State
take_cell c s = if nat_lt 0 (missing_of c) then (record { cell = c; missing = missing_of c } ∷ s.0, s.1) else settle s.0 (s.1 ++ c ∷ [])

-- all cells, from the right
abbrev pub turned : List Cell → State → State
turned [] s = s
turned (c ∷ cs) s = take_cell c (turned cs s)

-- a stack as the code keeps it, the innermost last
abbrev pub backed : List Pending → List Pending
backed [] = []
backed (p ∷ ps) = backed ps ++ p ∷ []

module _ (num : List ℕ → ℕ) where
  -- cells in prefix order, by name numbers
  abbrev mutual
    pub in_front : Tree (List ℕ) → List Cell
    in_front (var n) = Var n ∷ []
    in_front (int z) = Int z ∷ []
    in_front (atom s) = Name (id num s) ∷ []
    in_front (comp s ts) = Comp (id num s) (count ts) ∷ all_in_front ts

    pub all_in_front : Trees (List ℕ) → List Cell
    all_in_front nil = []
    all_in_front (cons t ts) = in_front t ++ all_in_front ts
