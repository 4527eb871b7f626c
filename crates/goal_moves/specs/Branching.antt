-- Instructions of control constructs that stand first on a path.
use Rattle.std.specs.Prelude.{ℕ, Option}
use Rattle.pl_unify.specs.State.{State}
use Rattle.goal_model.specs.Table.{Items}
use Rattle.goal_code.specs.Continuations.{items_from}
use Rattle.goal_code.specs.declared.instruction.Instruction.TheVariants as I
use Rattle.goal_state.specs.declared.frames.Setting.{Setting}
use Rattle.goal_code.specs.BodyCode.{BodyCode}
use Rattle.goal_state.specs.Frames.{running}
use Rattle.goal_state.specs.declared.compiled.CompiledProgram.{CompiledProgram}
use Rattle.goal_state.specs.declared.path.Path.{Path}
use Rattle.goal_moves.specs.Moves.{IsCode}

-- a cut that goes on at a place
abbrev pub AtCut : CompiledProgram → Path → ℕ → Setting → Type 0
AtCut b p next st = (goal : ℕ) × IsCode b p (I.Cut goal next) st

-- a disjunction whose sides begin at these places
abbrev pub AtEither : CompiledProgram → Path → ℕ → ℕ → Setting → Type 0
AtEither b p left right st = (goal : ℕ) × (next : ℕ) × IsCode b p (I.Either goal left right next) st

-- an if-then-else, or an if-then, whose condition and other part begin at these places, and what follows it
abbrev pub AtIf : CompiledProgram → Path → ℕ → Option ℕ → ℕ → Setting → Type 0
AtIf b p condition otherwise next st = (goal : ℕ) × (end : ℕ) × IsCode b p (I.If goal condition end otherwise next) st

-- the items of a condition from its first place on, whose cuts cut to a depth, where `around` goes on from the places around it
abbrev pub condition_from : (ℕ → BodyCode) → State → Setting → ℕ → (ℕ → Items ℕ) → ℕ → ℕ → Items ℕ
condition_from code s st depth around next condition = items_from (running code s (record st { depth = depth })) (around next) around condition
