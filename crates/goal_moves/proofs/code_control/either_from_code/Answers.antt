use Rattle.std.proofs.Common.{◌≤◌, length, sym, subst, refl}
use Rattle.goal_code.specs.declared.instruction.Instruction.TheVariants as I
use Rattle.goal_state.specs.declared.choice.ChoiceKind.TheVariants.{Branch}
use Rattle.goal_moves.specs.Control.{OpenedHere}
use Rattle.goal_moves.proofs.Steady.{floor_fits}
use Rattle.goal_moves.proofs.CodeMoves.{frame_there}
use Rattle.goal_moves.proofs.BranchMoves.{moved_either_from, leaves_either_from}
use Rattle.goal_moves.proofs.UntriedLaws.{opened_more}
use Rattle.goal_moves.proofs.code_control.either_from_code.Goals as goal

pub open_here-requires-clause-place : goal.open_here-requires-clause-place
open_here-requires-clause-place c =
    subst (λ r. r.f ≤ length c.args.path.now.frames) (sym c.at_place-other.ensures)
    (frame_there c.args.compiled.now c.args.path.now (I.Either c.requires.code.0 c.args.left c.args.right c.requires.code.1) c.args.setting c.requires.code.2)

pub open_here-requires-clause-floor : goal.open_here-requires-clause-floor
open_here-requires-clause-floor c = floor_fits c.args.compiled.now c.args.path.now c.args.node c.requires.well

pub returns-clause-moved : goal.returns-clause-moved
returns-clause-moved c =
    moved_either_from c.args.compiled.now c.requires.compiled c.args.path.now c.requires.code.0 c.args.left c.args.right c.requires.code.1 c.args.setting c.requires.code.2 c.get-frame.ensures.linked
    c.args.node c.requires.well c.requires.depth c.open_here.new.path
    (subst (λ r. OpenedHere c.args.path.now c.open_here.new.path Branch r.f r.pc c.args.setting c.args.node) c.at_place-other.ensures c.in_ok-open_here.ensures)

pub returns-clause-untried : goal.returns-clause-untried
returns-clause-untried c =
    let p = c.args.path.now in
    let q = c.open_here.new.path in
    leaves_either_from c.args.compiled.now c.requires.compiled p c.requires.code.0 c.args.left c.args.right c.requires.code.1 c.args.setting c.requires.code.2 c.get-frame.ensures.linked
    c.args.node c.requires.well c.requires.depth q
    (subst (λ r. OpenedHere p q Branch r.f r.pc c.args.setting c.args.node) c.at_place-other.ensures c.in_ok-open_here.ensures)
    (record q { pc = c.args.left })
    (opened_more p p q (record q { pc = c.args.left }) Branch c.at_place-other.result.f c.at_place-other.result.pc c.args.setting c.args.node refl c.in_ok-open_here.ensures refl)
