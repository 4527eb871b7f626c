-- What the activation of a goal leaves untried in its node.
use Rattle.std.specs.Prelude.{◌≡◌, ℕ, ◌≤◌, suc, nat_eq, nat_lt, Bool, false, if◌then◌else◌, is_some, List, [], ◌∷◌, length, map}
use Rattle.std.specs.List.{list_any}
use Rattle.pl_unify.specs.State.{tree_at}
use Rattle.solver_model.specs.Search.{Call, At, Over, Tries, Catches, Collects, Ends, Opens, PointOf}
use Rattle.solver_model.specs.Configurations.{Configuration}
use Rattle.builtin_model.specs.Naming.{Naming}
use Rattle.goal_model.specs.Choices.{is_untried, is_open}
use Rattle.goal_model.specs.Program.{Clauses}
use Rattle.goal_model.specs.Table.{Alternative, resolves, attempt, Items, World, Moved as Activation}
use Rattle.pl_store.specs.Runs.{program_of}
use Rattle.goal_state.specs.Frames.{env_of}
use Rattle.goal_state.specs.declared.compiled.CompiledProgram.{CompiledProgram}
use Rattle.goal_state.specs.declared.path.Path.{Path}
use Rattle.goal_state.specs.Denotation.{linked, naming, language_of, clauses_on, state_of, items_here, world_here}
use Rattle.goal_moves.specs.declared.procedures.Attempt.{Attempt}

-- the alternatives behind the first one that can be taken
abbrev pub behind_taken : Naming ℕ → Clauses ℕ → List (Alternative ℕ) → List (Alternative ℕ)
behind_taken n c [] = []
behind_taken n c (a ∷ others) = if is_some (attempt n nat_eq a c) then others else behind_taken n c others

-- Whether one of the alternatives is untried when the first one that can be taken was taken.
abbrev pub leaves_one : Naming ℕ → Clauses ℕ → List (Alternative ℕ) → Bool
leaves_one n c alternatives = list_any (is_untried nat_eq) (behind_taken n c alternatives)

-- Whether the node that an activation opens has something untried when its first alternative was taken. Where an error is thrown in
-- place of a catch's goal, none is taken.
abbrev pub node_leaves : Naming ℕ → Clauses ℕ → Activation ℕ → Bool
node_leaves n c (Ends events e) = false
node_leaves n c (Opens events (At s) frame) = is_open nat_eq frame
node_leaves n c (Opens events (Over e) (Tries depth alternatives)) = leaves_one n c alternatives
node_leaves n c (Opens events (Over e) (Catches depth r)) = false
node_leaves n c (Opens events (Over e) (Collects depth answers g)) = false

-- whether the activation of the goal that stands first leaves something untried
module _ (b : CompiledProgram) where
  abbrev pub items_leave : ℕ → Items ℕ → World ℕ → Clauses ℕ → Bool
  items_leave depth (Call g ∷ rest) w c = node_leaves (naming b) c ((language_of b).activate depth g rest w c)
  items_leave depth _ w c = false

  abbrev pub point_leaves : PointOf (language_of b) → Clauses ℕ → Bool
  point_leaves (At s) c = items_leave s.depth s.items s.world c
  point_leaves (Over e) c = false

  abbrev pub leaves_untried : Configuration (language_of b) → Bool
  leaves_untried x = point_leaves x.point x.clauses

-- whether there are more records than before
abbrev pub has_more : Path → Path → Bool
has_more old new = nat_lt (length old.choices.items) (length new.choices.items)

-- there are more records than before exactly where the goal that stands first in a configuration leaves something untried
abbrev pub Leaves : (b : CompiledProgram) → Path → Path → (ℕ → Configuration (language_of b)) → Type 0
Leaves b old new x = (left : ℕ) → has_more old new ≡ leaves_untried b (x left)

-- the same of the alternatives of clauses that are tried for a goal, from one on
abbrev pub clause_alternatives : (b : CompiledProgram) → Path → Attempt → ℕ → List (Alternative ℕ)
clause_alternatives b p a clause = map (resolves (record {
  depth = a.setting.depth;
  goal = tree_at (state_of p) a.goal;
  env = env_of a.setting;
  rest = items_here b p a.rest.f a.rest.pc;
  world = world_here b p;
})) (clauses_on (linked b) clause)

abbrev pub TriesLeave : CompiledProgram → Path → Path → Attempt → ℕ → Type 0
TriesLeave b old new a clause =
    has_more old new ≡ leaves_one (naming b) (program_of (linked b)).clauses (clause_alternatives b old a clause)

-- the newest record was taken off, if there was one, and none was put
abbrev pub TakesOff : Path → Path → Type 0
TakesOff old new = (n : ℕ) → length old.choices.items ≤ suc n → length new.choices.items ≤ n
