use Rattle.std.proofs.Common.{refl, false}
use Rattle.goal_state.specs.Denotation.{items_here}
use Rattle.goal_moves.specs.Control.{goal_at}
use Rattle.goal_moves.proofs.CutMoves.{moved_cut}
use Rattle.goal_model.specs.Rows.{commit}
use Rattle.goal_moves.proofs.UntriedLaws.{cut_no_more}
use Rattle.goal_moves.proofs.UntriedRows.{leaves_row}
use Rattle.goal_moves.proofs.term_control.commit.Goals as goal

pub returns-clause-moved : goal.returns-clause-moved
returns-clause-moved c =
    let b = c.args.compiled.now in
    let p = c.args.path.now in
    let a = c.args.active in
    moved_cut b p c.cut.new.self a.node (goal_at p a) (items_here b p a.rest.f a.rest.pc) c.requires.ready.depth c.requires.ready.well c.cut.ensures.choices c.cut.ensures.template c.cut.ensures.gathered c.cut.ensures.others a.rest.f a.rest.pc c.requires.row refl

pub returns-clause-untried : goal.returns-clause-untried
returns-clause-untried c =
    let p = c.args.path.now in
    leaves_row c.args.compiled.now p (record c.cut.new.self { f = c.args.active.rest.f; pc = c.args.active.rest.pc }) c.args.active commit false c.requires.row refl
    (cut_no_more p c.cut.new.self c.args.active.setting.depth c.cut.ensures.choices)
