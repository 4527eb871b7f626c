use Rattle.goal_moves.proofs.Committing.{IfOk-then}
use Rattle.goal_moves.proofs.TakenMoves.{grown_well}
use Rattle.goal_moves.proofs.ArgumentMoves.{goal_ref, ball_ref, once_goal, once_ball}
use Rattle.std.proofs.Common.{◌∙◌, false}
use Rattle.goal_model.specs.Rows.{once}
use Rattle.pl_unify.specs.State.{tree_at}
use Rattle.goal_state.specs.Denotation.{state_of, items_here}
use Rattle.goal_moves.specs.Control.{committing}
use Rattle.goal_moves.specs.Moves.{here}
use Rattle.goal_moves.proofs.UntriedLaws.{entered_records, grew_records, same_records, same_taken_off}
use Rattle.goal_moves.proofs.UntriedRows.{leaves_row, quiet_once}
use Rattle.goal_moves.proofs.term_control.once.Goals as goal

pub enter_committing-requires-clause-place : goal.enter_committing-requires-clause-place
enter_committing-requires-clause-place c =
    goal_ref c.args.compiled.now c.args.path.now c.taken_for_goal.new.path c.args.active c.requires.ready c.in_ok-taken.ensures.grew c.args.goal c.in_ok-taken.taken c.in_ok-taken.ensures.goal c.in-Goal.body c.in-Goal.is

pub enter_committing-requires-clause-well : goal.enter_committing-requires-clause-well
enter_committing-requires-clause-well c = grown_well c.args.compiled.now c.args.path.now c.taken_for_goal.new.path c.args.active c.requires.ready c.in_ok-taken.ensures.grew

pub returns-in_ok-enter_committing-in-Goal-clause-moved : goal.returns-in_ok-enter_committing-in-Goal-clause-moved
returns-in_ok-enter_committing-in-Goal-clause-moved c =
    once_goal c.args.compiled.now c.args.path.now c.taken_for_goal.new.path c.args.active c.requires.ready c.in_ok-taken.ensures.grew c.args.goal c.in_ok-taken.taken c.in_ok-taken.ensures.goal c.enter_committing.new.path c.in-Goal.body c.requires.row.1 c.in-Goal.is c.in_ok-enter_committing-in-Goal.ensures

pub raise-requires-clause-well : goal.raise-requires-clause-well
raise-requires-clause-well c = grown_well c.args.compiled.now c.args.path.now c.taken_for_goal.new.path c.args.active c.requires.ready c.in_ok-taken.ensures.grew

pub raise-requires-clause-ball : goal.raise-requires-clause-ball
raise-requires-clause-ball c =
    ball_ref c.args.compiled.now c.args.path.now c.taken_for_goal.new.path c.args.active c.requires.ready c.in_ok-taken.ensures.grew c.args.goal c.in_ok-taken.taken c.in_ok-taken.ensures.goal c.in-Ball.ball c.in-Ball.is

pub returns-in-Ball-clause-moved : goal.returns-in-Ball-clause-moved
returns-in-Ball-clause-moved c =
    IfOk-then c.raise.result c.raise.ensures.moved (λ g m. once_ball c.args.compiled.now c.args.path.now c.taken_for_goal.new.path c.args.active c.requires.ready c.in_ok-taken.ensures.grew c.args.goal c.in_ok-taken.taken c.in_ok-taken.ensures.goal c.raise.new.path c.in-Ball.ball g c.requires.row.1 c.in-Ball.is m)

pub returns-in_ok-enter_committing-in-Goal-clause-untried : goal.returns-in_ok-enter_committing-in-Goal-clause-untried
returns-in_ok-enter_committing-in-Goal-clause-untried c =
    let b = c.args.compiled.now in
    let p = c.args.path.now in
    let a = c.args.active in
    let q = c.taken_for_goal.new.path in
    let s = c.enter_committing.new.path in
    leaves_row b p s a (once (tree_at (state_of p) c.args.goal)) false c.requires.row.1 (quiet_once b p a (tree_at (state_of p) c.args.goal))
    (same_records p s
    (entered_records b q s a.rest (here s) (committing b q a c.in-Goal.body (items_here b q a.rest.f a.rest.pc)) c.in_ok-enter_committing-in-Goal.ensures ∙ grew_records p q c.in_ok-taken.ensures.grew))

pub returns-in-Ball-clause-untried : goal.returns-in-Ball-clause-untried
returns-in-Ball-clause-untried c =
    let b = c.args.compiled.now in
    let p = c.args.path.now in
    let q = c.taken_for_goal.new.path in
    IfOk-then c.raise.result c.raise.ensures.fewer (λ g off.
    leaves_row b p c.raise.new.path c.args.active (once (tree_at (state_of p) c.args.goal)) false c.requires.row.1 (quiet_once b p c.args.active (tree_at (state_of p) c.args.goal))
    (same_taken_off p q c.raise.new.path (grew_records p q c.in_ok-taken.ensures.grew) off))
