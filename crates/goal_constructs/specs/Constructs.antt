-- What the numbers of names and the look-up of built-in procedures mean.
use Rattle.std.specs.Prelude.{◌≡◌, ℕ, List, codes, nat_eq, Bool, ◌&&◌, Option}
use Rattle.std.specs.Map.{lookup}
use Rattle.pl_atoms.specs.CaseTable.{case_place}
use Rattle.pl_atoms.specs.declared.names.NameId.{NameId}
use Rattle.unit_model.specs.Builtins.{builtins}
use Rattle.builtin_model.specs.Naming.{Naming}
use Rattle.goal_model.specs.Bodies.{is_named}
use Rattle.goal_constructs.specs.declared.names.GoalNames.{GoalNames}
use Rattle.goal_constructs.specs.declared.constructs.RowKey.{RowKey}
use Rattle.goal_constructs.specs.declared.constructs.Constructs.{Constructs}

-- the number of a text: terms that are made have it, and no other number stands for the text
pub record IsNumber (n : Naming ℕ) (text : List ℕ) (name : NameId) : Type 0 where
  pub made : n.name text ≡ name.0
  pub known : (f : ℕ) → is_named n f text ≡ nat_eq f name.0

pub record AreGoalNames (n : Naming ℕ) (g : GoalNames) : Type 0 where
  pub conjunction : IsNumber n (codes ",") g.control.conjunction
  pub disjunction : IsNumber n (codes ";") g.control.disjunction
  pub implication : IsNumber n (codes "->") g.control.implication
  pub cut : IsNumber n (codes "!") g.control.cut
  pub truth : IsNumber n (codes "true") g.control.truth
  pub call : IsNumber n (codes "call") g.call
  pub colon : IsNumber n (codes ":") g.colon
  pub nil : IsNumber n (codes "[]") g.nil
  pub dot : IsNumber n (codes ".") g.dot
  pub slash : IsNumber n (codes "/") g.slash
  pub error : IsNumber n (codes "error") g.error
  pub instantiation_error : IsNumber n (codes "instantiation_error") g.instantiation_error
  pub type_error : IsNumber n (codes "type_error") g.type_error
  pub existence_error : IsNumber n (codes "existence_error") g.existence_error
  pub representation_error : IsNumber n (codes "representation_error") g.representation_error
  pub max_arity : IsNumber n (codes "max_arity") g.max_arity
  pub callable_word : IsNumber n (codes "callable") g.callable_word
  pub list_word : IsNumber n (codes "list") g.list_word
  pub atom_word : IsNumber n (codes "atom") g.atom_word
  pub module_word : IsNumber n (codes "module") g.module_word
  pub procedure_word : IsNumber n (codes "procedure") g.procedure_word
  pub user_word : IsNumber n (codes "user") g.user_word
  pub system_word : IsNumber n (codes "system") g.system_word

abbrev pub same_key : RowKey → RowKey → Bool
same_key a b = nat_eq a.name b.name && nat_eq a.arity b.arity

abbrev pub row_key : ℕ → ℕ → RowKey
row_key f k = record { name = f; arity = k }

-- the place in the table of built-in procedures that is found for a name's number and a number of arguments
abbrev pub place_found : List (RowKey × ℕ) → ℕ → ℕ → Option ℕ
place_found entries f k = lookup (same_key (row_key f k)) entries

-- the numbers are those of the names, and a look-up by number finds the built-in procedure of the name
pub record AreConstructs (n : Naming ℕ) (c : Constructs) : Type 0 where
  pub names : AreGoalNames n c.names
  pub rows : (f k : ℕ) → place_found c.rows.places.entries f k ≡ case_place builtins (n.text f) k
