use Rattle.std.proofs.Common.{◌≤◌, length, Some, refl, sym, subst}
use Rattle.goal_code.specs.declared.instruction.Instruction.TheVariants as I
use Rattle.goal_state.specs.declared.choice.ChoiceKind.TheVariants.{Branch}
use Rattle.goal_moves.specs.Control.{OpenedHere}
use Rattle.goal_moves.proofs.Steady.{floor_fits}
use Rattle.goal_moves.proofs.CodeMoves.{frame_there}
use Rattle.goal_moves.proofs.BranchMoves.{opened_within, opened_floor, opened_base, moved_else_from, leaves_else_from}
use Rattle.goal_state.specs.Denotation.{bodies, state_of, items_here}
use Rattle.goal_moves.specs.Branching.{condition_from}
use Rattle.goal_moves.specs.Moves.{here}
use Rattle.goal_moves.proofs.UntriedLaws.{entered_records, opened_more}
use Rattle.goal_moves.proofs.code_control.if_then_else.Goals as goal

pub open_here-requires-clause-place : goal.open_here-requires-clause-place
open_here-requires-clause-place c =
    subst (λ r. r.f ≤ length c.args.path.now.frames) (sym c.at_place-other.ensures)
    (frame_there c.args.compiled.now c.args.path.now (I.If c.requires.code.0 c.args.condition c.requires.code.1 (Some c.args.otherwise) c.args.next) c.args.setting c.requires.code.2)

pub open_here-requires-clause-floor : goal.open_here-requires-clause-floor
open_here-requires-clause-floor c = floor_fits c.args.compiled.now c.args.path.now c.args.node c.requires.well

pub enter_condition-requires-clause-first : goal.enter_condition-requires-clause-first
enter_condition-requires-clause-first c = opened_within c.args.compiled.now c.requires.compiled c.args.path.now (I.If c.requires.code.0 c.args.condition c.requires.code.1 (Some c.args.otherwise) c.args.next) c.args.setting c.requires.code.2 c.get-frame.ensures.linked c.args.node c.requires.well c.requires.depth c.open_here.new.path c.args.otherwise
    (subst (λ r. OpenedHere c.args.path.now c.open_here.new.path Branch r.f r.pc c.args.setting c.args.node) c.at_place-other.ensures c.in_ok-open_here.ensures)

pub enter_condition-requires-clause-floor : goal.enter_condition-requires-clause-floor
enter_condition-requires-clause-floor c = opened_floor c.args.compiled.now c.requires.compiled c.args.path.now (I.If c.requires.code.0 c.args.condition c.requires.code.1 (Some c.args.otherwise) c.args.next) c.args.setting c.requires.code.2 c.get-frame.ensures.linked c.args.node c.requires.well c.requires.depth c.open_here.new.path c.args.otherwise
    (subst (λ r. OpenedHere c.args.path.now c.open_here.new.path Branch r.f r.pc c.args.setting c.args.node) c.at_place-other.ensures c.in_ok-open_here.ensures)

pub enter_condition-requires-clause-base : goal.enter_condition-requires-clause-base
enter_condition-requires-clause-base c = opened_base c.args.compiled.now c.requires.compiled c.args.path.now (I.If c.requires.code.0 c.args.condition c.requires.code.1 (Some c.args.otherwise) c.args.next) c.args.setting c.requires.code.2 c.get-frame.ensures.linked c.args.node c.requires.well c.requires.depth c.open_here.new.path c.args.otherwise
    (subst (λ r. OpenedHere c.args.path.now c.open_here.new.path Branch r.f r.pc c.args.setting c.args.node) c.at_place-other.ensures c.in_ok-open_here.ensures)

pub returns-clause-moved : goal.returns-clause-moved
returns-clause-moved c =
    moved_else_from c.args.compiled.now c.requires.compiled c.args.path.now c.requires.code.0 c.args.condition c.requires.code.1 (Some c.args.otherwise) c.args.next c.args.setting c.requires.code.2 c.get-frame.ensures.linked
    c.args.node c.requires.well c.requires.depth c.args.otherwise refl c.open_here.new.path c.enter_condition.new.path
    (subst (λ r. OpenedHere c.args.path.now c.open_here.new.path Branch r.f r.pc c.args.setting c.args.node) c.at_place-other.ensures c.in_ok-open_here.ensures)
    (c.in_ok-enter_condition.ensures c.args.compiled.now)

pub returns-clause-untried : goal.returns-clause-untried
returns-clause-untried c =
    let b = c.args.compiled.now in
    let p = c.args.path.now in
    let q = c.open_here.new.path in
    let s = c.enter_condition.new.path in
    leaves_else_from b c.requires.compiled p c.requires.code.0 c.args.condition c.requires.code.1 (Some c.args.otherwise) c.args.next c.args.setting c.requires.code.2 c.get-frame.ensures.linked
    c.args.node c.requires.well c.requires.depth c.args.otherwise refl s
    (opened_more p p q s Branch c.at_place-other.result.f c.at_place-other.result.pc c.args.setting c.args.node refl c.in_ok-open_here.ensures
    (entered_records b q s (record { f = q.f; pc = c.args.next }) (here s) (condition_from (bodies b) (state_of q) c.args.setting q.depth (items_here b q q.f) c.args.next c.args.condition) (c.in_ok-enter_condition.ensures b)))
