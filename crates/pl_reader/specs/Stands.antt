-- How the reader's stack and output stand for the machine's frames. The output has the finished operands' cells, each
-- operator after its operands; num gives a name's number.
use Rattle.std.specs.Prelude.{ℕ, List, [], ◌∷◌, ◌++◌}
use Rattle.pl_terms.specs.Trees.{Tree, var, int, atom, comp, Trees, nil, cons, count}
use Rattle.text_model.specs.Grammar.{Parse, meaning}
use Rattle.pl_reader.specs.Machine.{Frame, waits_prefix, waits_joined, waits_conjoined}
use Rattle.pl_atoms.specs.declared.names.NameId.{NameId}
use Rattle.pl_terms.specs.declared.cell.Cell.{Cell}
use Rattle.pl_terms.specs.declared.cell.Cell.TheVariants.{Var, Int, Name, Comp}

module _ (num : List ℕ → ℕ) where
  abbrev pub id : List ℕ → NameId
  id s = record { 0 = num s }

  -- a tree's cells, each compound after its arguments
  abbrev mutual
    pub behind : Tree (List ℕ) → List Cell
    behind (var n) = Var n ∷ []
    behind (int z) = Int z ∷ []
    behind (atom s) = Name (id s) ∷ []
    behind (comp s ts) = all_behind ts ++ Comp (id s) (count ts) ∷ []

    pub all_behind : Trees (List ℕ) → List Cell
    all_behind nil = []
    all_behind (cons t ts) = behind t ++ all_behind ts

  abbrev pub output : Parse → List Cell
  output e = behind (meaning e)

  abbrev pub left_output : Frame → List Cell
  left_output (waits_prefix o s) = []
  left_output (waits_joined l o s) = output l
  left_output (waits_conjoined l) = output l

  abbrev pub outputs : List Frame → List Cell
  outputs [] = []
  outputs (f ∷ fs) = outputs fs ++ left_output f
