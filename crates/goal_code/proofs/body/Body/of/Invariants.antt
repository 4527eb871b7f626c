use Rattle.std.proofs.Common.{◌≡◌, true, reverse}
use Rattle.pl_unify.specs.Code.{last_tree}
use Rattle.goal_code.specs.Shapes.{body_goals}
use Rattle.goal_code.specs.Settled.{is_settled}
use Rattle.goal_code.specs.Tasks.{UnderWay, WorkSettled, owed}
use Rattle.goal_code.proofs.body.Body.of.Given as goal

abbrev pub invariant-loop-task : goal.invariant-loop-task
invariant-loop-task l = record {
  under_way : UnderWay l.names l.code.words (body_goals l.names (last_tree l.code.words)) l.work.instructions.items l.work.at (reverse l.work.tasks.items);
  settled : is_settled l.names (last_tree l.code.words) ≡ true → WorkSettled l.names l.code.words l.work.instructions.items (reverse l.work.tasks.items);
}

abbrev pub decreases-loop-task : goal.decreases-loop-task
decreases-loop-task l = owed l.code.words (reverse l.work.tasks.items)
