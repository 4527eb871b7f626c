use Rattle.std.proofs.Common.{refl}
use Rattle.pl_store.specs.Linked.{key_view}
use Rattle.goal_moves.specs.Moves.{Moved, called, goal_items, tried}
use Rattle.goal_moves.specs.Untried.{Leaves, TriesLeave}
use Rattle.goal_moves.proofs.CallLaws.{attempt_of, none_left, first_trying, first_tried, if_ok_map}
use Rattle.goal_moves.proofs.UntriedCalls.{none_leaves, first_leaves}
use Rattle.goal_moves.proofs.procedures.call_clauses.Goals as goal

pub returns-in_default-clause-moved : goal.returns-in_default-clause-moved
returns-in_default-clause-moved c =
    none_left c.args.compiled.now c.requires.compiled c.args.path.now c.args.active c.requires.ready c.requires.row c.args.proc.0 c.requires.seen c.passed.new.path (attempt_of c.args.compiled.now c.args.active c.args.proc.0 c.in_ok-goal.goal)
    c.in_ok-goal.ensures.others c.in_ok-goal.ensures.grows c.in_ok-goal.ensures.next c.in_ok-goal.ensures.tree refl refl refl (key_view c.key_of-key.result) c.key_of-key.ensures c.in_ok-goal.ensures.store c.in_default.ensures

pub try_from-requires-clause-trying : goal.try_from-requires-clause-trying
try_from-requires-clause-trying c =
    first_trying c.args.compiled.now c.requires.compiled c.args.path.now c.args.active c.requires.ready c.requires.row c.args.proc.0 c.requires.seen c.passed.new.path (record { goal = c.in_ok-goal.goal; setting = c.body_setting.result; rest = c.args.active.rest })
    c.in_ok-goal.ensures.others c.in_ok-goal.ensures.grows c.in_ok-goal.ensures.next c.in_ok-goal.ensures.tree c.body_setting.ensures.env c.body_setting.ensures.depth refl (key_view c.key_of-key.result) c.in-Some.first.0 c.in-Some.ensures c.in_ok-goal.ensures.store c.in_ok-goal.ensures.place c.body_setting.ensures.base

pub returns-clause-moved : goal.returns-clause-moved
returns-clause-moved c =
    if_ok_map c.try_from.result
    (λ g. Moved c.args.compiled.now c.passed.new.path c.try_from.new.path (tried c.args.compiled.now c.passed.new.path (record { goal = c.in_ok-goal.goal; setting = c.body_setting.result; rest = c.args.active.rest }) c.in-Some.first.0) g)
    (λ g. Moved c.args.compiled.now c.args.path.now c.try_from.new.path (called c.args.compiled.now c.args.path.now c.args.active.node (goal_items c.args.compiled.now c.args.path.now c.args.active)) g)
    (λ g h. first_tried c.args.compiled.now c.requires.compiled c.args.path.now c.args.active c.requires.ready c.requires.row c.args.proc.0 c.requires.seen c.passed.new.path (record { goal = c.in_ok-goal.goal; setting = c.body_setting.result; rest = c.args.active.rest })
    c.in_ok-goal.ensures.others c.in_ok-goal.ensures.grows c.in_ok-goal.ensures.next c.in_ok-goal.ensures.tree c.body_setting.ensures.env c.body_setting.ensures.depth refl (key_view c.key_of-key.result) c.in-Some.first.0 c.try_from.new.path g c.key_of-key.ensures c.in-Some.ensures h)
    c.try_from.ensures.moved

pub returns-in_default-clause-untried : goal.returns-in_default-clause-untried
returns-in_default-clause-untried c =
    none_leaves c.args.compiled.now c.requires.compiled c.args.path.now c.args.active c.requires.ready c.requires.row c.args.proc.0 c.requires.seen c.passed.new.path (attempt_of c.args.compiled.now c.args.active c.args.proc.0 c.in_ok-goal.goal)
    c.in_ok-goal.ensures.others c.in_ok-goal.ensures.grows c.in_ok-goal.ensures.next c.in_ok-goal.ensures.tree refl refl refl (key_view c.key_of-key.result) c.key_of-key.ensures c.in_default.ensures

pub returns-clause-untried : goal.returns-clause-untried
returns-clause-untried c =
    if_ok_map c.try_from.result
    (λ g. TriesLeave c.args.compiled.now c.passed.new.path c.try_from.new.path (record { goal = c.in_ok-goal.goal; setting = c.body_setting.result; rest = c.args.active.rest }) c.in-Some.first.0)
    (λ g. Leaves c.args.compiled.now c.args.path.now c.try_from.new.path (called c.args.compiled.now c.args.path.now c.args.active.node (goal_items c.args.compiled.now c.args.path.now c.args.active)))
    (λ g h. first_leaves c.args.compiled.now c.requires.compiled c.args.path.now c.args.active c.requires.ready c.requires.row c.args.proc.0 c.requires.seen c.passed.new.path (record { goal = c.in_ok-goal.goal; setting = c.body_setting.result; rest = c.args.active.rest })
    c.in_ok-goal.ensures.others c.in_ok-goal.ensures.grows c.in_ok-goal.ensures.next c.in_ok-goal.ensures.tree c.body_setting.ensures.env c.body_setting.ensures.depth refl (key_view c.key_of-key.result) c.in-Some.first.0 c.try_from.new.path c.key_of-key.ensures c.in-Some.ensures h)
    c.try_from.ensures.untried
