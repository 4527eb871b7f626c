-- The numbers of names in a tree are below a limit.
use Rattle.std.specs.Prelude.{ℕ, ◌<◌}
use Rattle.pl_terms.specs.Trees.{Tree, var, int, atom, comp, Trees, nil, cons}
use Rattle.pl_terms.specs.declared.cell.Cell.{Cell}
use Rattle.pl_terms.specs.declared.cell.Cell.TheVariants.{Var, Int, Name, Comp}

abbrev mutual
  pub NamesBelow : ℕ → Tree ℕ → Type 0
  NamesBelow limit (var n) = Unit {0}
  NamesBelow limit (int z) = Unit {0}
  NamesBelow limit (atom s) = s < limit
  NamesBelow limit (comp s ts) = (s < limit) × AllNamesBelow limit ts

  pub AllNamesBelow : ℕ → Trees ℕ → Type 0
  AllNamesBelow limit nil = Unit {0}
  AllNamesBelow limit (cons t ts) = NamesBelow limit t × AllNamesBelow limit ts

-- the number of a cell's name is
abbrev pub NameBelow : ℕ → Cell → Type 0
NameBelow limit (Var n) = Unit {0}
NameBelow limit (Int z) = Unit {0}
NameBelow limit (Name s) = s.0 < limit
NameBelow limit (Comp s k) = s.0 < limit
