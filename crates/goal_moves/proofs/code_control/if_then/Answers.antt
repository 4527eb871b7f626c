use Rattle.std.proofs.Common.{None, refl}
use Rattle.goal_code.specs.declared.instruction.Instruction.TheVariants as I
use Rattle.goal_moves.proofs.Steady.{floor_fits}
use Rattle.goal_moves.proofs.CodeMoves.{frame_there, code_base}
use Rattle.goal_moves.proofs.BranchMoves.{moved_then_from, leaves_then_from}
use Rattle.goal_state.specs.Denotation.{bodies, state_of, items_here}
use Rattle.goal_moves.specs.Branching.{condition_from}
use Rattle.goal_moves.specs.Moves.{here}
use Rattle.goal_moves.proofs.UntriedLaws.{entered_records, same_records}
use Rattle.goal_moves.proofs.code_control.if_then.Goals as goal

pub enter_condition-requires-clause-first : goal.enter_condition-requires-clause-first
enter_condition-requires-clause-first c = frame_there c.args.compiled.now c.args.path.now (I.If c.requires.code.0 c.args.condition c.requires.code.1 None c.args.next) c.args.setting c.requires.code.2

pub enter_condition-requires-clause-floor : goal.enter_condition-requires-clause-floor
enter_condition-requires-clause-floor c = floor_fits c.args.compiled.now c.args.path.now c.args.node c.requires.well

pub enter_condition-requires-clause-base : goal.enter_condition-requires-clause-base
enter_condition-requires-clause-base c = code_base c.args.compiled.now c.args.path.now (I.If c.requires.code.0 c.args.condition c.requires.code.1 None c.args.next) c.args.setting c.requires.code.2 c.args.node c.requires.well

pub returns-clause-moved : goal.returns-clause-moved
returns-clause-moved c =
    moved_then_from c.args.compiled.now c.requires.compiled c.args.path.now c.requires.code.0 c.args.condition c.requires.code.1 None c.args.next c.args.setting c.requires.code.2 c.get-frame.ensures.linked
    c.args.node c.requires.well c.requires.depth refl c.enter_condition.new.path (c.in_ok-enter_condition.ensures c.args.compiled.now)

pub returns-clause-untried : goal.returns-clause-untried
returns-clause-untried c =
    let b = c.args.compiled.now in
    let p = c.args.path.now in
    let s = c.enter_condition.new.path in
    leaves_then_from b c.requires.compiled p c.requires.code.0 c.args.condition c.requires.code.1 None c.args.next c.args.setting c.requires.code.2 c.get-frame.ensures.linked
    c.args.node c.requires.well c.requires.depth refl s
    (same_records p s (entered_records b p s (record { f = p.f; pc = c.args.next }) (here s) (condition_from (bodies b) (state_of p) c.args.setting p.depth (items_here b p p.f) c.args.next c.args.condition) (c.in_ok-enter_condition.ensures b)))
