-- What a linked program asks of what is added to it.
use Rattle.std.specs.Prelude.{◌≡◌, ◌<◌, ◌^◌, ℕ, List, [], ◌++◌, length, Bool, true, false, ◌||◌, Option, None, Some}
use Rattle.std.specs.List.{list_any}
use Rattle.pl_terms.specs.Trees.{Tree, var, int, atom, comp, count}
use Rattle.pl_terms.specs.Order.{texts_of}
use Rattle.pl_terms.specs.Occurrence.{occurrences, first_after, from_to}
use Rattle.pl_terms.specs.NameBounds.{NamesBelow}
use Rattle.unit_model.specs.Facts.{Indicator}
use Rattle.unit_model.specs.Validity.{is_converted}
use Rattle.goal_model.specs.Program.{Clause}
use Rattle.pl_store.specs.Linked.{Linked, is_system, is_module, is_procedure, procedure_at, visible_in}

-- a module, or system
abbrev pub IsExisting : Linked → ℕ → Type 0
IsExisting l m = (is_system l.names m || is_module l m) ≡ true

abbrev pub IsNewProcedure : Linked → ℕ → Indicator ℕ → Type 0
IsNewProcedure l m i = list_any (is_procedure m i) l.procedures ≡ false

abbrev pub HasArity : ℕ → Option (List Bool) → Type 0
HasArity k None = Unit {0}
HasArity k (Some modes) = length modes ≡ k

abbrev pub IsUnseen : Linked → ℕ → Indicator ℕ → Type 0
IsUnseen l m i = visible_in l.rows m i ≡ None

-- the name and number of arguments of a head
abbrev pub indicator_of : Tree ℕ → Option (Indicator ℕ)
indicator_of (var n) = None
indicator_of (int z) = None
indicator_of (atom s) = Some (record { name = s; arity = 0 })
indicator_of (comp s ts) = Some (record { name = s; arity = count ts })

-- a clause of a procedure: names are the program's, the body is converted, and the variables are 0, 1, 2 and so on
pub record IsClauseOf (l : Linked) (p : ℕ) (c : Clause ℕ) : Type 0 where
  pub head : indicator_of c.head ≡ Some (procedure_at l p).indicator
  pub head_names : NamesBelow (length l.names) c.head
  pub body_names : NamesBelow (length l.names) c.body
  pub converted : is_converted (texts_of l.names c.body) ≡ true
  pub numbered : first_after [] (occurrences c.head ++ occurrences c.body) ≡ from_to 0 c.width
  pub width : c.width < 2 ^ 63
