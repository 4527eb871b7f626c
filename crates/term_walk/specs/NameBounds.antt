-- A test of the numbers of names.
use Rattle.std.specs.Prelude.{ℕ, nat_lt, Bool, true}
use Rattle.pl_terms.specs.declared.cell.Cell.{Cell}
use Rattle.pl_terms.specs.declared.cell.Cell.TheVariants.{Var, Int, Name, Comp}

-- a cell's name is below this number
abbrev pub is_below : ℕ → Cell → Bool
is_below n (Var m) = true
is_below n (Int z) = true
is_below n (Name s) = nat_lt s.0 n
is_below n (Comp s k) = nat_lt s.0 n
