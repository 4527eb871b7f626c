-- Cells within the ranges of their numbers.
use Rattle.std.specs.Prelude.{◌≤◌}
use Rattle.pl_terms.specs.declared.cell.Cell.{Cell}
use Rattle.pl_terms.specs.declared.cell.Cell.TheVariants.{Var, Int, Name, Comp}
use Rattle.text_model.specs.ReadBack.{IsInt}

abbrev pub IsRanged : Cell → Type 0
IsRanged (Var n) = Unit {0}
IsRanged (Int z) = IsInt z
IsRanged (Name s) = Unit {0}
IsRanged (Comp s k) = k ≤ 255
