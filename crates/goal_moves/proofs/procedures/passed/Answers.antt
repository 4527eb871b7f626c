use Rattle.std.proofs.Common.{◌∙◌}
use Rattle.pl_unify.specs.State.{tree_at}
use Rattle.goal_state.specs.Denotation.{linked, naming, state_of}
use Rattle.goal_moves.proofs.Proper.{store_proper}
use Rattle.goal_moves.proofs.GoalLaws.{modes_count, passed_none, passed_some, colon_known}
use Rattle.goal_moves.proofs.procedures.passed.Goals as goal

pub returns-in_default-clause-tree : goal.returns-in_default-clause-tree
returns-in_default-clause-tree c =
    passed_none c.args.compiled.now (tree_at (state_of c.args.path.now) c.args.active.goal) c.args.active.setting.context.0 c.args.proc.0 (store_proper (state_of c.args.path.now) c.args.active.goal c.requires.store c.requires.goal) c.requires.seen.indicator c.in_default.ensures

pub qualify-requires-clause-modes : goal.qualify-requires-clause-modes
qualify-requires-clause-modes c = modes_count (linked c.args.compiled.now) c.args.proc.0 (tree_at (state_of c.args.path.now) c.args.active.goal) c.in-Some.modes.now c.requires.compiled.facts c.requires.seen.within c.requires.seen.indicator c.in-Some.ensures

pub returns-clause-tree : goal.returns-clause-tree
returns-clause-tree c =
    c.in_ok-goal.ensures.tree (naming c.args.compiled.now) (colon_known (naming c.args.compiled.now) c.args.compiled.now.constructs c.names.result c.names.ensures c.requires.compiled.constructs)
    ∙ passed_some c.args.compiled.now (tree_at (state_of c.args.path.now) c.args.active.goal) c.args.active.setting.context.0 c.args.proc.0 (store_proper (state_of c.args.path.now) c.args.active.goal c.requires.store c.requires.goal) c.requires.seen.indicator c.in-Some.modes.now c.in-Some.ensures
