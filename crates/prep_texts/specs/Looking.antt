-- What tables look up after declarations, and which operators of an interface they accept.
use Rattle.std.specs.Prelude.{ℕ, List, [], ◌∷◌, Bool, true, not, ◌&&◌, Option, Some, None, is_some, Result, Ok, Err}
use Rattle.pl_ops.specs.declared.op.Op.{Op as Operator}
use Rattle.pl_ops.specs.Tables.{Declaration, Operators, operator, last_declared, unless_zero}
use Rattle.unit_model.specs.Facts.{OperatorOf, What}
use Rattle.unit_model.specs.Directives.{Text}
use Rattle.unit_model.specs.Preparing.{declaration, refusal_of_operator, Saying}

abbrev pub over : Option Operator → Option Operator → Option Operator
over None o = o
over (Some p) o = unless_zero (Some p)

-- what is looked up after these declarations
abbrev pub extended : Operators → List Declaration → Operators
extended look ds c name = over (last_declared c name ds) (look c name)

-- whether these operators of an interface are accepted in their order
abbrev pub accepts_all : List (OperatorOf Text) → Operators → Bool
accepts_all [] look = true
accepts_all (o ∷ os) look = not (is_some (refusal_of_operator look o)) && accepts_all os (extended look (declaration o ∷ []))

-- what a term says by itself: its entries, and what is looked up after it
abbrev pub SayingSeen : Type 0
SayingSeen = Result (List (What Text) × Operators) ℕ

abbrev pub saying_seen : Saying → SayingSeen
saying_seen (Err n) = Err n
saying_seen (Ok l) = Ok (l.entries, operator l.table)
