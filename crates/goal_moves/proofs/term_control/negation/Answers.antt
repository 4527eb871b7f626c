use Rattle.std.proofs.Common.{◌∙◌, ◌∷◌, true, false}
use Rattle.goal_moves.proofs.Steady.{floor_fits}
use Rattle.goal_moves.proofs.Committing.{IfOk-then}
use Rattle.goal_moves.proofs.TakenMoves.{grown_well, grown_ready, denied_within, denied_well, denied_base, failing_well, failing_ref, failing_base, failing_steady}
use Rattle.goal_moves.proofs.ArgumentMoves.{goal_ref, ball_ref, negation_goal, negation_ball}
use Rattle.solver_model.specs.Search.{Fail}
use Rattle.goal_model.specs.Rows.{negation}
use Rattle.pl_unify.specs.State.{tree_at}
use Rattle.goal_state.specs.Denotation.{state_of, items_here}
use Rattle.goal_state.specs.declared.choice.ChoiceKind.TheVariants.{Branch}
use Rattle.goal_moves.specs.Control.{committing}
use Rattle.goal_moves.specs.Moves.{here}
use Rattle.goal_moves.proofs.UntriedLaws.{entered_records, grew_records, opened_more, same_taken_off}
use Rattle.goal_moves.proofs.UntriedRows.{leaves_row, negation_opens, negation_quiet}
use Rattle.goal_moves.proofs.term_control.negation.Goals as goal

pub open_here-requires-clause-place : goal.open_here-requires-clause-place
open_here-requires-clause-place c = (grown_ready c.args.compiled.now c.args.path.now c.taken_for_goal.new.path c.args.active c.requires.ready c.in_ok-taken.ensures.grew).rest

pub open_here-requires-clause-floor : goal.open_here-requires-clause-floor
open_here-requires-clause-floor c = let p = c.taken_for_goal.new.path in floor_fits c.args.compiled.now p p.depth (grown_well c.args.compiled.now c.args.path.now p c.args.active c.requires.ready c.in_ok-taken.ensures.grew)

pub enter_part-requires-clause-rest : goal.enter_part-requires-clause-rest
enter_part-requires-clause-rest c = denied_within c.args.compiled.now c.args.path.now c.taken_for_goal.new.path c.args.active c.requires.ready c.in_ok-taken.ensures.grew c.open_here.new.path c.in_ok-open_here-in-Goal.ensures

pub enter_part-requires-clause-floor : goal.enter_part-requires-clause-floor
enter_part-requires-clause-floor c =
    let q = c.open_here.new.path in
    floor_fits c.args.compiled.now q q.depth (denied_well c.args.compiled.now c.args.path.now c.taken_for_goal.new.path c.args.active c.requires.ready c.in_ok-taken.ensures.grew q c.in_ok-open_here-in-Goal.ensures)

pub enter_part-requires-clause-base : goal.enter_part-requires-clause-base
enter_part-requires-clause-base c = denied_base c.args.compiled.now c.args.path.now c.taken_for_goal.new.path c.args.active c.requires.ready c.in_ok-taken.ensures.grew c.open_here.new.path c.in_ok-open_here-in-Goal.ensures

pub enter_committing-requires-clause-place : goal.enter_committing-requires-clause-place
enter_committing-requires-clause-place c =
    let b = c.args.compiled.now in
    failing_ref b c.args.path.now c.taken_for_goal.new.path c.args.active c.requires.ready c.in_ok-taken.ensures.grew c.open_here.new.path c.in_ok-open_here-in-Goal.ensures c.enter_part.new.path c.in_ok-fail-in-Goal.fail (c.in_ok-fail-in-Goal.ensures b) c.in-Goal.body
    (goal_ref b c.args.path.now c.taken_for_goal.new.path c.args.active c.requires.ready c.in_ok-taken.ensures.grew c.args.goal c.in_ok-taken.taken c.in_ok-taken.ensures.goal c.in-Goal.body c.in-Goal.is)

pub enter_committing-requires-clause-depth : goal.enter_committing-requires-clause-depth
enter_committing-requires-clause-depth c =
    let b = c.args.compiled.now in
    (failing_steady b c.args.path.now c.taken_for_goal.new.path c.args.active c.requires.ready c.in_ok-taken.ensures.grew c.open_here.new.path c.in_ok-open_here-in-Goal.ensures c.enter_part.new.path c.in_ok-fail-in-Goal.fail (c.in_ok-fail-in-Goal.ensures b)).depth ∙ c.requires.ready.depth

pub enter_committing-requires-clause-rest : goal.enter_committing-requires-clause-rest
enter_committing-requires-clause-rest c = (c.in_ok-fail-in-Goal.ensures c.args.compiled.now).at_within

pub enter_committing-requires-clause-well : goal.enter_committing-requires-clause-well
enter_committing-requires-clause-well c =
    let b = c.args.compiled.now in
    failing_well b c.args.path.now c.taken_for_goal.new.path c.args.active c.requires.ready c.in_ok-taken.ensures.grew c.open_here.new.path c.in_ok-open_here-in-Goal.ensures c.enter_part.new.path c.in_ok-fail-in-Goal.fail (c.in_ok-fail-in-Goal.ensures b)

pub enter_committing-requires-clause-base : goal.enter_committing-requires-clause-base
enter_committing-requires-clause-base c =
    let b = c.args.compiled.now in
    failing_base b c.args.path.now c.taken_for_goal.new.path c.args.active c.requires.ready c.in_ok-taken.ensures.grew c.open_here.new.path c.in_ok-open_here-in-Goal.ensures c.enter_part.new.path c.in_ok-fail-in-Goal.fail (c.in_ok-fail-in-Goal.ensures b)

pub returns-in_ok-enter_committing-in-Goal-clause-moved : goal.returns-in_ok-enter_committing-in-Goal-clause-moved
returns-in_ok-enter_committing-in-Goal-clause-moved c =
    let b = c.args.compiled.now in
    negation_goal b c.args.path.now c.taken_for_goal.new.path c.args.active c.requires.ready c.in_ok-taken.ensures.grew c.args.goal c.in_ok-taken.taken c.in_ok-taken.ensures.goal c.open_here.new.path c.enter_part.new.path c.enter_committing.new.path c.in-Goal.body c.in_ok-open_here-in-Goal.ensures c.in_ok-fail-in-Goal.fail (c.in_ok-fail-in-Goal.ensures b) c.requires.row.1 c.in-Goal.is c.in_ok-enter_committing-in-Goal.ensures

pub raise-requires-clause-well : goal.raise-requires-clause-well
raise-requires-clause-well c = grown_well c.args.compiled.now c.args.path.now c.taken_for_goal.new.path c.args.active c.requires.ready c.in_ok-taken.ensures.grew

pub raise-requires-clause-ball : goal.raise-requires-clause-ball
raise-requires-clause-ball c =
    ball_ref c.args.compiled.now c.args.path.now c.taken_for_goal.new.path c.args.active c.requires.ready c.in_ok-taken.ensures.grew c.args.goal c.in_ok-taken.taken c.in_ok-taken.ensures.goal c.in-Ball.ball c.in-Ball.is

pub returns-in-Ball-clause-moved : goal.returns-in-Ball-clause-moved
returns-in-Ball-clause-moved c =
    IfOk-then c.raise.result c.raise.ensures.moved (λ g m. negation_ball c.args.compiled.now c.args.path.now c.taken_for_goal.new.path c.args.active c.requires.ready c.in_ok-taken.ensures.grew c.args.goal c.in_ok-taken.taken c.in_ok-taken.ensures.goal c.raise.new.path c.in-Ball.ball g c.requires.row.1 c.in-Ball.is m)

pub returns-in_ok-enter_committing-in-Goal-clause-untried : goal.returns-in_ok-enter_committing-in-Goal-clause-untried
returns-in_ok-enter_committing-in-Goal-clause-untried c =
    let b = c.args.compiled.now in
    let p = c.args.path.now in
    let a = c.args.active in
    let q = c.taken_for_goal.new.path in
    let r = c.open_here.new.path in
    let s = c.enter_part.new.path in
    let t = c.enter_committing.new.path in
    let fail = c.in_ok-fail-in-Goal.fail in
    leaves_row b p t a (negation (tree_at (state_of p) c.args.goal)) true c.requires.row.1 (negation_opens b p a q c.args.goal c.in_ok-taken.taken c.in_ok-taken.ensures.goal c.in-Goal.body c.in-Goal.is)
    (opened_more p q r t Branch a.rest.f a.rest.pc a.setting a.node
    (grew_records p q c.in_ok-taken.ensures.grew) c.in_ok-open_here-in-Goal.ensures
    (entered_records b s t fail (here t) (committing b s a c.in-Goal.body (items_here b s fail.f fail.pc)) c.in_ok-enter_committing-in-Goal.ensures
    ∙ entered_records b r s a.rest fail (Fail ∷ items_here b r a.rest.f a.rest.pc) (c.in_ok-fail-in-Goal.ensures b)))

pub returns-in-Ball-clause-untried : goal.returns-in-Ball-clause-untried
returns-in-Ball-clause-untried c =
    let b = c.args.compiled.now in
    let p = c.args.path.now in
    let q = c.taken_for_goal.new.path in
    IfOk-then c.raise.result c.raise.ensures.fewer (λ g off.
    leaves_row b p c.raise.new.path c.args.active (negation (tree_at (state_of p) c.args.goal)) false c.requires.row.1 (negation_quiet b p c.args.active q c.args.goal c.in_ok-taken.taken c.in_ok-taken.ensures.goal c.in-Ball.ball c.in-Ball.is)
    (same_taken_off p q c.raise.new.path (grew_records p q c.in_ok-taken.ensures.grew) off))
