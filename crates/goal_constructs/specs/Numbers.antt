-- The numbers of names in a table.
use Rattle.std.specs.Prelude.{◌≡◌, ℕ, suc, List, [], ◌∷◌, map, slice_get, nat_eq, ◌&&◌, codes, Option, Some, None, if◌then◌else◌}
use Rattle.pl_atoms.specs.declared.names.NameId.{NameId}
use Rattle.pl_atoms.specs.CaseTable.{Case}
use Rattle.goal_constructs.specs.declared.names.GoalNames.{GoalNames}

-- the texts that goals and the errors of goals are made of
abbrev pub goal_texts : List (List ℕ)
goal_texts =
    codes "," ∷ codes ";" ∷ codes "->" ∷ codes "!" ∷ codes "true" ∷ codes "call" ∷ codes ":" ∷ codes "[]" ∷ codes "." ∷ codes "/"
    ∷ codes "error" ∷ codes "instantiation_error" ∷ codes "type_error" ∷ codes "existence_error" ∷ codes "representation_error" ∷ codes "max_arity"
    ∷ codes "callable" ∷ codes "list" ∷ codes "atom" ∷ codes "module" ∷ codes "procedure" ∷ codes "user" ∷ codes "system" ∷ []

-- their numbers
abbrev pub numbers_in : GoalNames → List NameId
numbers_in g =
    g.control.conjunction ∷ g.control.disjunction ∷ g.control.implication ∷ g.control.cut ∷ g.control.truth ∷ g.call ∷ g.colon ∷ g.nil ∷ g.dot ∷ g.slash
    ∷ g.error ∷ g.instantiation_error ∷ g.type_error ∷ g.existence_error ∷ g.representation_error ∷ g.max_arity
    ∷ g.callable_word ∷ g.list_word ∷ g.atom_word ∷ g.module_word ∷ g.procedure_word ∷ g.user_word ∷ g.system_word ∷ []

-- the numbers are those of the texts, one by one
abbrev pub AreIn : List (List ℕ) → List (List ℕ) → List NameId → Type 0
AreIn table texts ids = map (λ id. slice_get table id.0) ids ≡ map Some texts

-- the place of the first case whose name has the number f and whose number of arguments is k, counted from i on
abbrev pub entry_place : List NameId → List Case → ℕ → ℕ → ℕ → Option ℕ
entry_place [] cases f k i = None
entry_place (id ∷ ids) [] f k i = None
entry_place (id ∷ ids) (c ∷ cs) f k i = if nat_eq id.0 f && nat_eq c.arity k then Some i else entry_place ids cs f k (suc i)
