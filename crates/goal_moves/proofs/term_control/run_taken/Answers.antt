use Rattle.std.proofs.Common.{◌≤◌, sym, subst, refl}
use Rattle.goal_state.specs.Denotation.{state_of, items_here}
use Rattle.goal_moves.proofs.Steady.{floor_fits}
use Rattle.goal_moves.proofs.Committing.{IfOk-then, entered_items}
use Rattle.goal_moves.proofs.RowMoves.{ready_well}
use Rattle.goal_moves.proofs.TakenMoves.{runs_goal, runs_ball, runs_ref, throws_ref}
use Rattle.goal_moves.specs.Moves.{here}
use Rattle.goal_moves.proofs.UntriedLaws.{entered_records, same_records, same_taken_off}
use Rattle.goal_moves.proofs.UntriedRows.{leaves_running}
use Rattle.goal_moves.proofs.term_control.run_taken.Goals as goal

pub enter_goals-requires-clause-term : goal.enter_goals-requires-clause-term
enter_goals-requires-clause-term c = runs_ref c.args.compiled.now c.args.path.now c.args.active c.requires.ready c.args.setting c.args.taken c.in-Goal.body c.requires.runs c.in-Goal.is

pub enter_goals-requires-clause-rest : goal.enter_goals-requires-clause-rest
enter_goals-requires-clause-rest c = c.requires.ready.rest

pub enter_goals-requires-clause-floor : goal.enter_goals-requires-clause-floor
enter_goals-requires-clause-floor c = floor_fits c.args.compiled.now c.args.path.now c.args.active.node c.requires.ready.well

pub enter_goals-requires-clause-base : goal.enter_goals-requires-clause-base
enter_goals-requires-clause-base c = subst (λ n. n ≤ (state_of c.args.path.now).next) (sym c.requires.runs.base) c.requires.ready.base

pub returns-in_ok-enter_goals-in-Goal-clause-moved : goal.returns-in_ok-enter_goals-in-Goal-clause-moved
returns-in_ok-enter_goals-in-Goal-clause-moved c = runs_goal c.args.compiled.now c.args.path.now c.args.active c.requires.ready c.args.setting c.enter_goals.new.path c.args.taken c.in-Goal.body c.requires.runs c.in-Goal.is c.in_ok-enter_goals-in-Goal.ensures

pub raise-requires-clause-well : goal.raise-requires-clause-well
raise-requires-clause-well c = ready_well c.args.compiled.now c.args.path.now c.args.active c.requires.ready

pub raise-requires-clause-ball : goal.raise-requires-clause-ball
raise-requires-clause-ball c = throws_ref c.args.compiled.now c.args.path.now c.args.active c.requires.ready c.args.setting c.args.taken c.in-Ball.ball c.requires.runs c.in-Ball.is

pub returns-in-Ball-clause-moved : goal.returns-in-Ball-clause-moved
returns-in-Ball-clause-moved c =
    IfOk-then c.raise.result c.raise.ensures.moved (λ g m. runs_ball c.args.compiled.now c.args.path.now c.args.active c.requires.ready c.args.setting c.raise.new.path c.args.taken c.in-Ball.ball g c.requires.runs c.in-Ball.is m)

pub returns-in_ok-enter_goals-in-Goal-clause-untried : goal.returns-in_ok-enter_goals-in-Goal-clause-untried
returns-in_ok-enter_goals-in-Goal-clause-untried c =
    let b = c.args.compiled.now in
    let p = c.args.path.now in
    let a = c.args.active in
    let s = c.enter_goals.new.path in
    leaves_running b p a s c.args.setting c.args.taken c.requires.runs
    (same_records p s (entered_records b p s a.rest (here s) (entered_items b p c.in-Goal.body c.args.setting (items_here b p a.rest.f a.rest.pc)) c.in_ok-enter_goals-in-Goal.ensures))

pub returns-in-Ball-clause-untried : goal.returns-in-Ball-clause-untried
returns-in-Ball-clause-untried c =
    let p = c.args.path.now in
    IfOk-then c.raise.result c.raise.ensures.fewer (λ g off. leaves_running c.args.compiled.now p c.args.active c.raise.new.path c.args.setting c.args.taken c.requires.runs (same_taken_off p p c.raise.new.path refl off))
