use Rattle.std.proofs.Common.{◌++◌, subst}
use Rattle.goal_state.specs.Frames.{env_of}
use Rattle.goal_state.specs.declared.frames.Setting.{Setting}
use Rattle.goal_model.specs.Bodies.{flat, goal_of}
use Rattle.goal_state.specs.Denotation.{naming, state_of, items_here}
use Rattle.pl_unify.specs.State.{tree_at}
use Rattle.goal_constructs.specs.Calling.{IsCalled}
use Rattle.goal_moves.specs.Moves.{Entered, here}
use Rattle.goal_moves.proofs.RetryLaws.{IfOk-then}
use Rattle.pl_machine.proofs.StartLaws.{first, call_name, raised_begins, goals_begin}
use Rattle.pl_machine.proofs.machine.begin.Goals as goal

pub returns-in-Ball-clause-begins : goal.returns-in-Ball-clause-begins
returns-in-Ball-clause-begins c =
    let b = c.args.compiled.now in
    let p = c.args.path.now in
    IfOk-then c.raise.result c.raise.ensures.moved (λ g m goal left fresh called.
    raised_begins b p goal fresh c.raise.new.path c.in-Ball.ball g (subst (IsCalled (state_of p) (goal_of (naming b) goal (call_name b) 1)) c.in-Ball.is called) m left)

pub returns-in_ok-enter_goals-in-Goal-clause-begins : goal.returns-in_ok-enter_goals-in-Goal-clause-begins
returns-in_ok-enter_goals-in-Goal-clause-begins c =
    let b = c.args.compiled.now in
    let p = c.args.path.now in
    let q = c.enter_goals.new.path in
    λ goal left fresh called.
    goals_begin b p goal fresh c.requires.compiled c.requires.well q c.in-Goal.goal
    (subst (λ (s : Setting). Entered b p q first (here q) (flat (naming b) (tree_at (state_of p) c.in-Goal.goal) (env_of s) s.depth ++ items_here b p 0 0)) c.outermost-setting.ensures c.in_ok-enter_goals-in-Goal.ensures)
    (subst (IsCalled (state_of p) (goal_of (naming b) goal (call_name b) 1)) c.in-Goal.is called) left
