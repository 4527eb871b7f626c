use Rattle.std.proofs.Common.{◌∷◌, refl, true}
use Rattle.solver_model.specs.Search.{Call}
use Rattle.goal_state.specs.Denotation.{items_here}
use Rattle.goal_moves.specs.Control.{goal_at}
use Rattle.goal_moves.proofs.Committing.{after_floor}
use Rattle.goal_moves.proofs.RowMoves.{moved_repeat}
use Rattle.goal_model.specs.Rows.{repeat}
use Rattle.goal_state.specs.declared.choice.ChoiceKind.TheVariants.{Branch}
use Rattle.goal_moves.proofs.UntriedLaws.{entered_records, opened_more}
use Rattle.goal_moves.proofs.UntriedRows.{leaves_row}
use Rattle.goal_moves.proofs.term_control.repeat.Goals as goal

pub open_here-requires-clause-place : goal.open_here-requires-clause-place
open_here-requires-clause-place c = (c.in_ok-again.ensures c.args.compiled.now).at_within

pub open_here-requires-clause-floor : goal.open_here-requires-clause-floor
open_here-requires-clause-floor c =
    let b = c.args.compiled.now in
    after_floor b c.args.path.now c.enter_part.new.path c.args.active.rest c.in_ok-again.again (Call (goal_at c.args.path.now c.args.active) ∷ items_here b c.args.path.now c.args.active.rest.f c.args.active.rest.pc) (c.in_ok-again.ensures b) c.args.active.node c.requires.ready.well

pub returns-clause-moved : goal.returns-clause-moved
returns-clause-moved c =
    let b = c.args.compiled.now in
    moved_repeat b c.args.path.now c.args.active c.requires.ready c.enter_part.new.path c.open_here.new.path c.in_ok-again.again (Call (goal_at c.args.path.now c.args.active) ∷ items_here b c.args.path.now c.args.active.rest.f c.args.active.rest.pc) (c.in_ok-again.ensures b) c.in_ok-open_here.ensures c.requires.row refl

pub returns-clause-untried : goal.returns-clause-untried
returns-clause-untried c =
    let b = c.args.compiled.now in
    let p = c.args.path.now in
    let a = c.args.active in
    let q = c.enter_part.new.path in
    let r = c.open_here.new.path in
    leaves_row b p (record r { f = a.rest.f; pc = a.rest.pc }) a repeat true c.requires.row refl
    (opened_more p q r (record r { f = a.rest.f; pc = a.rest.pc }) Branch c.in_ok-again.again.f c.in_ok-again.again.pc a.setting a.node
    (entered_records b p q a.rest c.in_ok-again.again (Call (goal_at p a) ∷ items_here b p a.rest.f a.rest.pc) (c.in_ok-again.ensures b))
    c.in_ok-open_here.ensures refl)
