-- Reading a clause from its head and its converted body.
use Rattle.std.specs.Prelude.{◌≡◌, ℕ, ◌<◌, List, length, Bool, ◌||◌, Option, Some, None, Result, Ok, Err, IfOk, if◌then◌else◌}
use Rattle.std.specs.List.{AllByRecursion}
use Rattle.pl_terms.specs.Trees.{Tree}
use Rattle.pl_terms.specs.Order.{text_of}
use Rattle.unit_model.specs.Builtins.{is_builtin}
use Rattle.unit_model.specs.Directives.{Text, head_indicator}
use Rattle.unit_model.specs.Facts.{Indicator, What, clause, what_by, what_names}
use Rattle.unit_model.specs.Views.{what_view}
use Rattle.unit_model.specs.declared.facts.What.{What as CodeWhat}
use Rattle.mod_directives.specs.declared.fault.DirFault.{DirFault}
use Rattle.mod_directives.specs.declared.fault.DirFault.TheVariants.{Fault}

abbrev pub clause_of : ℕ → Bool → Tree Text → Option (Indicator Text) → Option (Tree Text) → Result (What Text) ℕ
clause_of n grammar head None body = Err 13
clause_of n grammar head (Some i) None = Err 13
clause_of n grammar head (Some i) (Some b) = if grammar || is_builtin i.name i.arity then Err 14 else Ok (clause n head b)

-- with its number of variables, and whether the term is a grammar rule
abbrev pub clause_by : ℕ → Bool → Tree Text → Option (Tree Text) → Result (What Text) ℕ
clause_by n grammar head body = clause_of n grammar head (head_indicator head) body

-- the result is a clause, or its fault
pub record IsClause (names : List (List ℕ)) (c : Result (What Text) ℕ) (r : Result CodeWhat DirFault) : Type 0 where
  pub ok : IfOk r (λ w. c ≡ Ok (what_by (text_of names) (what_view w)))
  pub bound : IfOk r (λ w. AllByRecursion (λ k. k < length names) (what_names (what_view w)))
  pub fault : (n : ℕ) → r ≡ Err (Fault n) → c ≡ Err n
