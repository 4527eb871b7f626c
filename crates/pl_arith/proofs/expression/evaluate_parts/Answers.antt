use Rattle.std.proofs.Common.{◌∙◌, length, ap, subst, sym, reverse}
use Rattle.pl_arith.specs.Tasks.{TasksOk, LeavesOne, run}
use Rattle.pl_arith.proofs.Tasks.{reverse-pop}
use Rattle.pl_arith.proofs.expression.evaluate_parts.Goals as goal

pub loop-task-preserved : goal.loop-task-preserved
loop-task-preserved c =
    let off = reverse-pop c.loop-task.work.items c.pop.new.self.items c.in-Some.task c.in-Some.ensures.items in
    record {
      ok = c.in_ok-step.ensures.ok.ok (subst (TasksOk c.args.store.now.state) off c.loop-task.invariant.ok);
      enough = c.in_ok-step.ensures.ok.one_left (subst (λ ts. LeavesOne ts (length (reverse c.loop-task.numbers.items))) off c.loop-task.invariant.enough);
      same = c.in_ok-step.ensures.ok.same ∙ (ap (λ ts. run c.args.store.now.state c.args.names.now ts (reverse c.loop-task.numbers.items)) (sym off) ∙ c.loop-task.invariant.same);
    }

pub step-requires-clause-enough : goal.step-requires-clause-enough
step-requires-clause-enough c =
    subst (λ ts. LeavesOne ts (length (reverse c.loop-task.numbers.items))) (reverse-pop c.loop-task.work.items c.pop.new.self.items c.in-Some.task c.in-Some.ensures.items) c.loop-task.invariant.enough
