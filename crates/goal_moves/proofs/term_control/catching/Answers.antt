use Rattle.goal_moves.proofs.Steady.{floor_fits}
use Rattle.goal_moves.proofs.Committing.{IfOk-then, entered_items}
use Rattle.goal_moves.proofs.TakenMoves.{grown_ready, grown_well}
use Rattle.goal_moves.proofs.CatchMoves.{caught_well, caught_within, caught_base, exit_well, exit_base, caught_goal_ref, caught_ball_ref, caught_goal, caught_ball}
use Rattle.std.proofs.Common.{◌∷◌, ◌∙◌, arith, true, false}
use Rattle.solver_model.specs.Search.{Pop}
use Rattle.goal_model.specs.Rows.{catching}
use Rattle.pl_unify.specs.State.{tree_at}
use Rattle.goal_state.specs.Denotation.{state_of, items_here}
use Rattle.goal_state.specs.declared.choice.ChoiceKind.TheVariants.{Catch}
use Rattle.goal_moves.specs.Moves.{here}
use Rattle.goal_moves.proofs.UntriedLaws.{entered_records, grew_records, opened_length, opened_more, taken_off}
use Rattle.goal_moves.proofs.UntriedRows.{leaves_row, catch_opens, catch_quiet}
use Rattle.goal_moves.proofs.term_control.catching.Goals as goal

pub open_here-requires-clause-place : goal.open_here-requires-clause-place
open_here-requires-clause-place c = (grown_ready c.args.compiled.now c.args.path.now c.taken_for_goal.new.path c.args.active c.requires.ready c.in_ok-taken.ensures.grew).rest

pub open_here-requires-clause-floor : goal.open_here-requires-clause-floor
open_here-requires-clause-floor c = let p = c.taken_for_goal.new.path in floor_fits c.args.compiled.now p p.depth (grown_well c.args.compiled.now c.args.path.now p c.args.active c.requires.ready c.in_ok-taken.ensures.grew)

pub enter_part-requires-clause-rest : goal.enter_part-requires-clause-rest
enter_part-requires-clause-rest c = caught_within c.args.compiled.now c.args.path.now c.taken_for_goal.new.path c.args.active c.requires.ready c.in_ok-taken.ensures.grew c.construct_of.result.0 c.args.catcher c.args.recovery c.requires.row.1 c.requires.row.2 c.construct_of.ensures.name c.args.path.now.depth c.argument_setting-inner.result c.requires.ready.depth c.argument_setting-inner.ensures c.open_here.new.path c.in_ok-open_here.ensures

pub enter_part-requires-clause-floor : goal.enter_part-requires-clause-floor
enter_part-requires-clause-floor c = let q = c.open_here.new.path in floor_fits c.args.compiled.now q q.depth (caught_well c.args.compiled.now c.args.path.now c.taken_for_goal.new.path c.args.active c.requires.ready c.in_ok-taken.ensures.grew c.construct_of.result.0 c.args.catcher c.args.recovery c.requires.row.1 c.requires.row.2 c.construct_of.ensures.name c.args.path.now.depth c.argument_setting-inner.result c.requires.ready.depth c.argument_setting-inner.ensures c.open_here.new.path c.in_ok-open_here.ensures)

pub enter_part-requires-clause-base : goal.enter_part-requires-clause-base
enter_part-requires-clause-base c = caught_base c.args.compiled.now c.args.path.now c.taken_for_goal.new.path c.args.active c.requires.ready c.in_ok-taken.ensures.grew c.construct_of.result.0 c.args.catcher c.args.recovery c.requires.row.1 c.requires.row.2 c.construct_of.ensures.name c.args.path.now.depth c.argument_setting-inner.result c.requires.ready.depth c.argument_setting-inner.ensures c.open_here.new.path c.in_ok-open_here.ensures c.reaching-outer.result c.reaching-outer.ensures

pub enter_goals-requires-clause-term : goal.enter_goals-requires-clause-term
enter_goals-requires-clause-term c = caught_goal_ref c.args.compiled.now c.args.path.now c.taken_for_goal.new.path c.args.active c.requires.ready c.in_ok-taken.ensures.grew c.construct_of.result.0 c.args.catcher c.args.recovery c.requires.row.1 c.requires.row.2 c.construct_of.ensures.name c.args.path.now.depth c.argument_setting-inner.result c.requires.ready.depth c.argument_setting-inner.ensures c.open_here.new.path c.in_ok-open_here.ensures c.reaching-outer.result c.reaching-outer.ensures c.enter_part.new.path c.in_ok-exit.exit (c.in_ok-exit.ensures c.args.compiled.now) c.args.goal c.in_ok-taken.taken c.in_ok-taken.ensures.goal c.requires.row.3 c.in-Goal.body c.in-Goal.is

pub enter_goals-requires-clause-rest : goal.enter_goals-requires-clause-rest
enter_goals-requires-clause-rest c = (c.in_ok-exit.ensures c.args.compiled.now).at_within

pub enter_goals-requires-clause-floor : goal.enter_goals-requires-clause-floor
enter_goals-requires-clause-floor c = let r = c.enter_part.new.path in floor_fits c.args.compiled.now r r.depth (exit_well c.args.compiled.now c.args.path.now c.taken_for_goal.new.path c.args.active c.requires.ready c.in_ok-taken.ensures.grew c.construct_of.result.0 c.args.catcher c.args.recovery c.requires.row.1 c.requires.row.2 c.construct_of.ensures.name c.args.path.now.depth c.argument_setting-inner.result c.requires.ready.depth c.argument_setting-inner.ensures c.open_here.new.path c.in_ok-open_here.ensures c.reaching-outer.result c.reaching-outer.ensures c.enter_part.new.path c.in_ok-exit.exit (c.in_ok-exit.ensures c.args.compiled.now))

pub enter_goals-requires-clause-base : goal.enter_goals-requires-clause-base
enter_goals-requires-clause-base c = exit_base c.args.compiled.now c.args.path.now c.taken_for_goal.new.path c.args.active c.requires.ready c.in_ok-taken.ensures.grew c.construct_of.result.0 c.args.catcher c.args.recovery c.requires.row.1 c.requires.row.2 c.construct_of.ensures.name c.args.path.now.depth c.argument_setting-inner.result c.requires.ready.depth c.argument_setting-inner.ensures c.open_here.new.path c.in_ok-open_here.ensures c.reaching-outer.result c.reaching-outer.ensures c.enter_part.new.path c.in_ok-exit.exit (c.in_ok-exit.ensures c.args.compiled.now)

pub returns-in_ok-enter_goals-in-Goal-clause-moved : goal.returns-in_ok-enter_goals-in-Goal-clause-moved
returns-in_ok-enter_goals-in-Goal-clause-moved c = caught_goal c.args.compiled.now c.args.path.now c.taken_for_goal.new.path c.args.active c.requires.ready c.in_ok-taken.ensures.grew c.construct_of.result.0 c.args.catcher c.args.recovery c.requires.row.1 c.requires.row.2 c.construct_of.ensures.name c.args.path.now.depth c.argument_setting-inner.result c.requires.ready.depth c.argument_setting-inner.ensures c.open_here.new.path c.in_ok-open_here.ensures c.reaching-outer.result c.reaching-outer.ensures c.enter_part.new.path c.in_ok-exit.exit (c.in_ok-exit.ensures c.args.compiled.now) c.args.goal c.in_ok-taken.taken c.in_ok-taken.ensures.goal c.requires.row.3 c.enter_goals.new.path c.in-Goal.body c.in-Goal.is c.in_ok-enter_goals-in-Goal.ensures

pub raise-requires-clause-well : goal.raise-requires-clause-well
raise-requires-clause-well c = exit_well c.args.compiled.now c.args.path.now c.taken_for_goal.new.path c.args.active c.requires.ready c.in_ok-taken.ensures.grew c.construct_of.result.0 c.args.catcher c.args.recovery c.requires.row.1 c.requires.row.2 c.construct_of.ensures.name c.args.path.now.depth c.argument_setting-inner.result c.requires.ready.depth c.argument_setting-inner.ensures c.open_here.new.path c.in_ok-open_here.ensures c.reaching-outer.result c.reaching-outer.ensures c.enter_part.new.path c.in_ok-exit.exit (c.in_ok-exit.ensures c.args.compiled.now)

pub raise-requires-clause-ball : goal.raise-requires-clause-ball
raise-requires-clause-ball c = caught_ball_ref c.args.compiled.now c.args.path.now c.taken_for_goal.new.path c.args.active c.requires.ready c.in_ok-taken.ensures.grew c.construct_of.result.0 c.args.catcher c.args.recovery c.requires.row.1 c.requires.row.2 c.construct_of.ensures.name c.args.path.now.depth c.argument_setting-inner.result c.requires.ready.depth c.argument_setting-inner.ensures c.open_here.new.path c.in_ok-open_here.ensures c.reaching-outer.result c.reaching-outer.ensures c.enter_part.new.path c.in_ok-exit.exit (c.in_ok-exit.ensures c.args.compiled.now) c.args.goal c.in_ok-taken.taken c.in_ok-taken.ensures.goal c.requires.row.3 c.in-Ball.ball c.in-Ball.is

pub returns-in-Ball-clause-moved : goal.returns-in-Ball-clause-moved
returns-in-Ball-clause-moved c = IfOk-then c.raise.result c.raise.ensures.moved (λ g m. caught_ball c.args.compiled.now c.args.path.now c.taken_for_goal.new.path c.args.active c.requires.ready c.in_ok-taken.ensures.grew c.construct_of.result.0 c.args.catcher c.args.recovery c.requires.row.1 c.requires.row.2 c.construct_of.ensures.name c.args.path.now.depth c.argument_setting-inner.result c.requires.ready.depth c.argument_setting-inner.ensures c.open_here.new.path c.in_ok-open_here.ensures c.reaching-outer.result c.reaching-outer.ensures c.enter_part.new.path c.in_ok-exit.exit (c.in_ok-exit.ensures c.args.compiled.now) c.args.goal c.in_ok-taken.taken c.in_ok-taken.ensures.goal c.requires.row.3 c.raise.new.path c.in-Ball.ball g c.in-Ball.is m)

pub returns-in_ok-enter_goals-in-Goal-clause-untried : goal.returns-in_ok-enter_goals-in-Goal-clause-untried
returns-in_ok-enter_goals-in-Goal-clause-untried c =
    let b = c.args.compiled.now in
    let p = c.args.path.now in
    let a = c.args.active in
    let q = c.taken_for_goal.new.path in
    let r = c.open_here.new.path in
    let s = c.enter_part.new.path in
    let t = c.enter_goals.new.path in
    let exit = c.in_ok-exit.exit in
    leaves_row b p t a (catching (tree_at (state_of p) c.args.goal) (tree_at (state_of p) c.args.catcher) (tree_at (state_of p) c.args.recovery)) true c.requires.row.3
    (catch_opens b p a q c.args.goal c.in_ok-taken.taken c.in_ok-taken.ensures.goal c.args.catcher c.args.recovery c.in-Goal.body c.in-Goal.is)
    (opened_more p q r t (Catch c.construct_of.result.0 c.args.catcher c.args.recovery) a.rest.f a.rest.pc c.argument_setting-inner.result a.node
    (grew_records p q c.in_ok-taken.ensures.grew) c.in_ok-open_here.ensures
    (entered_records b s t exit (here t) (entered_items b s c.in-Goal.body c.argument_setting-inner.result (items_here b s exit.f exit.pc)) c.in_ok-enter_goals-in-Goal.ensures
    ∙ entered_records b r s a.rest exit (Pop c.reaching-outer.result.depth ∷ items_here b r a.rest.f a.rest.pc) (c.in_ok-exit.ensures b)))

pub returns-in-Ball-clause-untried : goal.returns-in-Ball-clause-untried
returns-in-Ball-clause-untried c =
    let b = c.args.compiled.now in
    let p = c.args.path.now in
    let a = c.args.active in
    let q = c.taken_for_goal.new.path in
    let r = c.open_here.new.path in
    let s = c.enter_part.new.path in
    let exit = c.in_ok-exit.exit in
    let more = opened_length p q r s (Catch c.construct_of.result.0 c.args.catcher c.args.recovery) a.rest.f a.rest.pc c.argument_setting-inner.result a.node (grew_records p q c.in_ok-taken.ensures.grew) c.in_ok-open_here.ensures
    (entered_records b r s a.rest exit (Pop c.reaching-outer.result.depth ∷ items_here b r a.rest.f a.rest.pc) (c.in_ok-exit.ensures b)) in
    IfOk-then c.raise.result c.raise.ensures.fewer (λ g off.
    leaves_row b p c.raise.new.path a (catching (tree_at (state_of p) c.args.goal) (tree_at (state_of p) c.args.catcher) (tree_at (state_of p) c.args.recovery)) false c.requires.row.3
    (catch_quiet b p a q c.args.goal c.in_ok-taken.taken c.in_ok-taken.ensures.goal c.args.catcher c.args.recovery c.in-Ball.ball c.in-Ball.is)
    (taken_off p s c.raise.new.path (omega (arith, more)) off))
