-- Machines whose records are seen and changed from outside.
use Rattle.std.specs.Prelude.{◌≡◌, ℕ, ◌+◌, ◌≤◌, List, ◌∷◌, reverse, take}
use Rattle.std.specs.List.{All}
use Rattle.pl_unify.specs.State.{state_at}
use Rattle.goal_state.specs.declared.choice.Choice.{Choice}
use Rattle.goal_state.specs.declared.choice.ChoiceKind.{ChoiceKind}
use Rattle.goal_state.specs.declared.choice.ChoiceKind.TheVariants.{Collect}
use Rattle.goal_state.specs.Denotation.{state_of, answers_of, outer_of, outer_answers}
use Rattle.goal_state.specs.Well.{IsCompiled, IsWellWith}
use Rattle.pl_machine.specs.declared.machine.Machine.{Machine}

-- a machine inside a move, in a node of this depth: its records are in order for one of the node
pub record IsInside (m : Machine) (node : ℕ) : Type 0 where
  pub compiled : IsCompiled m.compiled
  pub well : IsWellWith m.compiled m.path (reverse m.path.choices.items) node
  pub depth : m.path.depth ≡ node + 1

-- the last record was taken off, and the machine went back to its node
pub record WentBack (old new : Machine) (c : Choice) : Type 0 where
  pub choices : reverse old.path.choices.items ≡ c ∷ reverse new.path.choices.items
  pub state : state_of new.path ≡ state_at c.mark (state_of old.path)
  pub frames : new.path.frames ≡ take c.rest old.path.frames
  pub depth : new.path.depth ≡ c.depth + 1
  pub template : new.path.template ≡ outer_of c.kind old.path.template
  pub gathered : answers_of new.path ≡ outer_answers c.kind (answers_of old.path)
  pub others : new ≡ record old { path = record old.path { store = new.path.store; frames = new.path.frames; choices = new.path.choices; gathered = new.path.gathered; template = new.path.template; depth = new.path.depth } }

-- a record of a nested search
abbrev pub IsNested : ChoiceKind → Type 0
IsNested (Collect list outer) = Unit {0}
IsNested kind = ⊥

-- no record of this depth or above is of a nested search
abbrev pub Unnested : ℕ → List Choice → Type 0
Unnested depth cs = All (λ c. depth ≤ c.depth → IsNested c.kind → ⊥) cs
