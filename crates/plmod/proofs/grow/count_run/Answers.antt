use Rattle.std.proofs.Common.{List, refl}
use Rattle.unit_model.specs.Facts.{Facts}
use Rattle.unit_model.specs.Directives.{Text}
use Rattle.mod_linker.specs.Linking.{IsLinkOf}
use Rattle.pl_machine.specs.declared.run.Show.TheVariants.{Count}
use Rattle.plmod.specs.declared.status.Status.TheVariants.{GoalFault}
use Rattle.plmod.specs.Outcome.{told}
use Rattle.plmod.specs.Growing.{grow_goal}
use Rattle.plmod.specs.Runs.{goal_line}
use Rattle.plmod.specs.Last.{HasRun}
use Rattle.plmod.proofs.GrowRuns.{none_counted, end_counted, stopped_count}
use Rattle.plmod.proofs.LastLaws.{no_run_told, run_left, has_run, machine_of}
use Rattle.plmod.proofs.grow.count_run.Goals as goal

pub returns-in-Ok-NoGoal-clause-output : goal.returns-in-Ok-NoGoal-clause-output
returns-in-Ok-NoGoal-clause-output g c = λ us o linked gives.
    let ends = c.in-Ok-NoGoal.ensures.ends us linked in
    none_counted c.goals_are_decided.ensures us c.args.budget o c.in-Ok-NoGoal.number c.in-Ok-NoGoal.byte c.faulty_goal.result c.told_or_not.result
    (g.O.Sink.written c.args.out.now) (g.O.Sink.written c.run_goal.new.out) (g.O.Sink.written c.told_or_not.new.out)
    c.told_or_not.ensures.read (rw c.in-Ok-NoGoal.field-0-is at ends) c.faulty_goal.ensures.gives c.told_or_not.ensures.output gives

pub returns-in-Ok-Ended-clause-output : goal.returns-in-Ok-Ended-clause-output
returns-in-Ok-Ended-clause-output g c = λ us o linked gives.
    let ends = c.in-Ok-Ended.ensures.ends us linked in
    end_counted c.goals_are_decided.ensures us c.args.budget o c.in-Ok-Ended.finished c.counts_of.result c.told_or_not-status.result
    (g.O.Sink.written c.args.out.now) (g.O.Sink.written c.run_goal.new.out) (g.O.Sink.written c.told_or_not-status.new.out)
    c.told_or_not-status.ensures.read (rw c.in-Ok-Ended.field-0-is at ends) c.counts_of.ensures.gives c.told_or_not-status.ensures.output gives

pub returns-in-Err-WriteFault-clause-output : goal.returns-in-Err-WriteFault-clause-output
returns-in-Err-WriteFault-clause-output g c = λ us o linked gives.
    stopped_count us c.args.budget o (g.O.Sink.written c.args.out.now) (g.O.Sink.written c.run_goal.new.out) (c.in-Err-WriteFault.ensures.front us linked) gives

pub returns-in-Err-NoMemory-clause-output : goal.returns-in-Err-NoMemory-clause-output
returns-in-Err-NoMemory-clause-output g c = λ us o linked gives.
    stopped_count us c.args.budget o (g.O.Sink.written c.args.out.now) (g.O.Sink.written c.run_goal.new.out) (c.in-Err-NoMemory.ensures.front us linked) gives

pub returns-in-Ok-NoGoal-clause-leaves : goal.returns-in-Ok-NoGoal-clause-leaves
returns-in-Ok-NoGoal-clause-leaves g c =
    let o = told (goal_line c.in-Ok-NoGoal.number c.in-Ok-NoGoal.byte) GoalFault in
    no_run_told (λ m. (us : List (Facts Text)) → IsLinkOf us c.args.program → HasRun us c.args.budget grow_goal m) c.args.last.now c.told_or_not.result o
    (g.O.Sink.written c.run_goal.new.out) (g.O.Sink.written c.told_or_not.new.out) refl (c.told_or_not.ensures.output o c.faulty_goal.ensures.gives) c.requires

pub returns-in-Ok-Ended-clause-leaves : goal.returns-in-Ok-Ended-clause-leaves
returns-in-Ok-Ended-clause-leaves g c =
    let f = c.in-Ok-Ended.finished in
    run_left (λ m. (us : List (Facts Text)) → IsLinkOf us c.args.program → HasRun us c.args.budget grow_goal m) c.machine_after.result c.told_or_not-status.result f.machine c.machine_after.ensures
    (machine_of _ f c.in-Ok-Ended.field-0-is c.in-Ok-Ended.ensures.machine)
    (λ us linked. (let ends = c.in-Ok-Ended.ensures.ends us linked in
    has_run us c.args.budget grow_goal Count (g.O.Sink.written c.args.out.now) (g.O.Sink.written c.run_goal.new.out) f (rw c.in-Ok-Ended.field-0-is at ends)))
