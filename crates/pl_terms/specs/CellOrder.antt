-- The order of cells, by which the standard order of terms is that of their lists of cells.
use Rattle.std.specs.Prelude.{ℕ, List}
use Rattle.std.specs.Ordering.{nat_cmp, ordering_then, int_cmp}
use Rattle.std.specs.declared.cmp.Ordering.{Ordering}
use Rattle.std.specs.declared.cmp.Ordering.TheVariants.{Less, Greater}
use Rattle.pl_terms.specs.Order.{text_cmp, text_of}
use Rattle.pl_terms.specs.declared.cell.Cell.{Cell}
use Rattle.pl_terms.specs.declared.cell.Cell.TheVariants.{Var, Int, Name, Comp}

-- variables, integers, atoms, compound terms by arity and then by name
abbrev pub cell_cmp : (ℕ → ℕ → Ordering) → Cell → Cell → Ordering
cell_cmp R (Var m) (Var n) = nat_cmp m n
cell_cmp R (Var m) (Int z) = Less
cell_cmp R (Var m) (Name s) = Less
cell_cmp R (Var m) (Comp s k) = Less
cell_cmp R (Int y) (Var n) = Greater
cell_cmp R (Int y) (Int z) = int_cmp y z
cell_cmp R (Int y) (Name s) = Less
cell_cmp R (Int y) (Comp s k) = Less
cell_cmp R (Name r) (Var n) = Greater
cell_cmp R (Name r) (Int z) = Greater
cell_cmp R (Name r) (Name s) = R r.0 s.0
cell_cmp R (Name r) (Comp s k) = Less
cell_cmp R (Comp r j) (Var n) = Greater
cell_cmp R (Comp r j) (Int z) = Greater
cell_cmp R (Comp r j) (Name s) = Greater
cell_cmp R (Comp r j) (Comp s k) = ordering_then (nat_cmp j k) (R r.0 s.0)

-- names go by their texts
abbrev pub name_cmp : List (List ℕ) → ℕ → ℕ → Ordering
name_cmp names m n = text_cmp (text_of names m) (text_of names n)
