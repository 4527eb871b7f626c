use Rattle.std.proofs.Common.{subst}
use Rattle.goal_moves.specs.Goals.{IsOfTarget}
use Rattle.goal_moves.specs.Moves.{called, goal_items}
use Rattle.goal_moves.proofs.Committing.{IfOk-then}
use Rattle.goal_moves.proofs.ActivationMoves.{activated}
use Rattle.goal_moves.proofs.code_goals.run_target.Goals as goal

pub do_row-requires-clause-row : goal.do_row-requires-clause-row
do_row-requires-clause-row c = subst (IsOfTarget c.args.compiled.now c.args.path.now c.args.active c.args.home.0) c.in-Plain.is c.requires.target

pub returns-in-User-Some-clause-activated : goal.returns-in-User-Some-clause-activated
returns-in-User-Some-clause-activated c =
    let b = c.args.compiled.now in
    let p = c.args.path.now in
    IfOk-then c.call_clauses.result c.call_clauses.ensures.moved (λ g m. activated b p c.call_clauses.new.path (called b p c.args.active.node (goal_items b p c.args.active)) c.args.text.now g m)
