-- Goals that are to be run one after another.
use Rattle.std.specs.Prelude.{ℕ, List, [], ◌∷◌}
use Rattle.pl_unify.specs.declared.word.Ref.{Ref}
use Rattle.pl_unify.specs.State.{State, tree_at}
use Rattle.solver_model.specs.Search.{Item, Call}
use Rattle.goal_model.specs.Bodies.{Goal}
use Rattle.goal_model.specs.Table.{Items}
use Rattle.goal_state.specs.declared.frames.Setting.{Setting}
use Rattle.goal_state.specs.Frames.{env_of}

-- the call of the goal at a place
abbrev pub call_at : State → Setting → Ref → Item (Goal ℕ)
call_at s st r = Call (record { tree = tree_at s r; env = env_of st; reach = st.depth })

-- the calls of the goals at places, and then what follows
abbrev pub calls_at : State → Setting → List Ref → Items ℕ → Items ℕ
calls_at s st [] after = after
calls_at s st (r ∷ rs) after = call_at s st r ∷ calls_at s st rs after
