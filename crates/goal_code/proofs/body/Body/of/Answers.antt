use Rattle.std.proofs.Common.{◌≡◌, [], ◌∷◌, reverse, ap, ◌∙◌, subst}
use Rattle.std.proofs.lemmas.List.{reverse-append}
use Rattle.pl_unify.specs.Code.{last_tree}
use Rattle.goal_code.specs.Shapes.{body_goals}
use Rattle.goal_code.specs.Tasks.{UnderWay, WorkSettled}
use Rattle.goal_code.proofs.body.Body.of.Goals as goal

pub loop-task-preserved : goal.loop-task-preserved
loop-task-preserved c =
    let w = c.loop-task.work in
    let final = body_goals c.args.names (last_tree c.args.code.now.words) in
    let next : reverse w.tasks.items ≡ c.in-Some.task ∷ reverse c.pop.new.self.items = ap reverse c.in-Some.ensures.items ∙ reverse-append c.pop.new.self.items (c.in-Some.task ∷ []) in
    record {
      under_way = c.in_ok-carry_out.ensures.goes final (subst (UnderWay c.args.names c.args.code.now.words final w.instructions.items w.at) next c.loop-task.invariant.under_way);
      settled = λ h. c.in_ok-carry_out.ensures.settled (subst (WorkSettled c.args.names c.args.code.now.words w.instructions.items) next (c.loop-task.invariant.settled h));
    }
