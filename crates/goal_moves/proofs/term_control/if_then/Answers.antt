use Rattle.goal_moves.proofs.RowMoves.{ready_well, moved_if_then}
use Rattle.std.proofs.Common.{refl, false}
use Rattle.goal_model.specs.Rows.{if_then}
use Rattle.pl_unify.specs.State.{tree_at}
use Rattle.goal_state.specs.Denotation.{state_of, items_here}
use Rattle.goal_moves.specs.Control.{condition_items}
use Rattle.goal_moves.specs.Moves.{here}
use Rattle.goal_moves.proofs.UntriedLaws.{entered_records, same_records}
use Rattle.goal_moves.proofs.UntriedRows.{leaves_row}
use Rattle.goal_moves.proofs.term_control.if_then.Goals as goal

pub enter_condition-requires-clause-well : goal.enter_condition-requires-clause-well
enter_condition-requires-clause-well c = ready_well c.args.compiled.now c.args.path.now c.args.active c.requires.ready

pub returns-clause-moved : goal.returns-clause-moved
returns-clause-moved c = moved_if_then c.args.compiled.now c.args.path.now c.args.active c.enter_condition.new.path c.args.condition c.args.«then» c.requires.ready c.requires.row.2 c.in_ok-enter_condition.ensures

pub returns-clause-untried : goal.returns-clause-untried
returns-clause-untried c =
    let b = c.args.compiled.now in
    let p = c.args.path.now in
    let a = c.args.active in
    let s = c.enter_condition.new.path in
    leaves_row b p s a (if_then (tree_at (state_of p) c.args.condition) (tree_at (state_of p) c.args.«then»)) false c.requires.row.2 refl
    (same_records p s (entered_records b p s a.rest (here s) (condition_items b p a c.args.condition c.args.«then» (items_here b p a.rest.f a.rest.pc)) c.in_ok-enter_condition.ensures))
