use Rattle.goal_moves.proofs.Committing.{IfOk-then}
use Rattle.goal_moves.proofs.TakenMoves.{grown_well}
use Rattle.goal_moves.proofs.ArgumentMoves.{throwing_ball}
use Rattle.std.proofs.Common.{refl, false}
use Rattle.goal_model.specs.Rows.{throwing}
use Rattle.pl_unify.specs.State.{tree_at}
use Rattle.goal_state.specs.Denotation.{state_of}
use Rattle.goal_moves.proofs.UntriedLaws.{grew_records, same_taken_off}
use Rattle.goal_moves.proofs.UntriedRows.{leaves_row}
use Rattle.goal_moves.proofs.term_control.throwing.Goals as goal

pub raise-requires-clause-well : goal.raise-requires-clause-well
raise-requires-clause-well c = grown_well c.args.compiled.now c.args.path.now c.ball_of.new.path c.args.active c.requires.ready c.in_ok-ball.ensures.grew

pub returns-clause-moved : goal.returns-clause-moved
returns-clause-moved c =
    IfOk-then c.raise.result c.raise.ensures.moved (λ g m. throwing_ball c.args.compiled.now c.args.path.now c.ball_of.new.path c.raise.new.path c.args.active c.requires.ready c.in_ok-ball.ensures.grew c.args.ball c.in_ok-ball.ball g c.requires.row.1 c.in_ok-ball.ensures.ball m)

pub returns-clause-untried : goal.returns-clause-untried
returns-clause-untried c =
    let b = c.args.compiled.now in
    let p = c.args.path.now in
    let q = c.ball_of.new.path in
    IfOk-then c.raise.result c.raise.ensures.fewer (λ g off.
    leaves_row b p c.raise.new.path c.args.active (throwing (tree_at (state_of p) c.args.ball)) false c.requires.row.1 refl
    (same_taken_off p q c.raise.new.path (grew_records p q c.in_ok-ball.ensures.grew) off))
