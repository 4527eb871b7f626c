use Rattle.goal_moves.proofs.BranchMoves.{moved_cut_from, leaves_cut_from}
use Rattle.goal_moves.proofs.UntriedLaws.{cut_no_more}
use Rattle.goal_moves.proofs.code_control.cut_from_code.Goals as goal

pub returns-clause-moved : goal.returns-clause-moved
returns-clause-moved c =
    moved_cut_from c.args.compiled.now c.requires.compiled c.args.path.now c.requires.code.0 c.args.next c.args.setting c.requires.code.1 c.get-frame.ensures.linked c.args.node c.requires.well c.requires.depth
    c.cut.new.self c.cut.ensures.choices c.cut.ensures.template c.cut.ensures.gathered c.cut.ensures.others

pub returns-clause-untried : goal.returns-clause-untried
returns-clause-untried c =
    let p = c.args.path.now in
    leaves_cut_from c.args.compiled.now c.requires.compiled p c.requires.code.0 c.args.next c.args.setting c.requires.code.1 c.get-frame.ensures.linked c.args.node (record c.cut.new.self { pc = c.args.next })
    (cut_no_more p c.cut.new.self c.args.setting.depth c.cut.ensures.choices)
