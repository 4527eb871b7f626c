-- A linked program, as a search sees it. N is the type of names.
use Rattle.std.specs.Prelude.{ℕ, List, Bool, Option}
use Rattle.pl_terms.specs.Trees.{Tree}
use Rattle.unit_model.specs.Facts.{Indicator}

-- a clause, with its variables numbered from 0 in order of first occurrence in the head and then in the body
pub record Clause (N : Type 0) : Type 0 where
  -- how many variables it has
  pub width : ℕ
  pub head : Tree N
  pub body : Tree N

-- the clauses of a definer's procedure, in their order
abbrev pub Clauses : Type 0 → Type 0
Clauses N = N → Indicator N → List (Clause N)

pub record Program (N : Type 0) : Type 0 where
  -- whether there is a module of this name
  pub exists : N → Bool
  -- the module that defines the procedure visible from a module
  pub visible : N → Indicator N → Option N
  -- which arguments are goals, where the definer declares the procedure a metapredicate
  pub modes : N → Indicator N → Option (List Bool)
  pub clauses : Clauses N
