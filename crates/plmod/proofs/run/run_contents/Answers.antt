use Rattle.std.proofs.Common.{◌≡◌, [], get_or, map, refl, None}
use Rattle.unit_format.specs.Views.{unit_facts}
use Rattle.link_model.specs.Faults.{first_link}
use Rattle.prep_report.specs.Lines.{not_unit_text}
use Rattle.plmod.specs.declared.status.Status.TheVariants.{NotUnit}
use Rattle.plmod.specs.Prepares.{AreUnits}
use Rattle.plmod.specs.Outcome.{told}
use Rattle.plmod.specs.Last.{HasRun, HasRunOver, AreLinked, has_ended}
use Rattle.plmod.proofs.GoalLaws.{made_same}
use Rattle.plmod.proofs.LastLaws.{no_run_told, leaves_as}
use Rattle.plmod.proofs.RunLaws.{of_no_unit, of_units}
use Rattle.plmod.proofs.run.run_contents.Goals as goal

pub returns-in-Ok-NoUnit-clause-output : goal.returns-in-Ok-NoUnit-clause-output
returns-in-Ok-NoUnit-clause-output g c = λ o gives.
    c.told_or_not.ensures.output o
    (made_same c.no_unit.result (told (not_unit_text (get_or c.args.names.now c.in-Ok-NoUnit.place [])) NotUnit) o
    (of_no_unit c.args.names.now c.args.contents.now c.in-Ok-NoUnit.place c.args.budget c.args.goal.now o c.requires.same (rw c.in-Ok-NoUnit.field-0-is at c.in-Ok-NoUnit.ensures) gives)
    c.no_unit.ensures.gives)

pub returns-in-Ok-All-clause-output : goal.returns-in-Ok-All-clause-output
returns-in-Ok-All-clause-output g c = λ o gives.
    c.run_linked.ensures.output o
    (of_units c.args.names.now c.args.contents.now (map unit_facts c.as_slice.result.now) c.args.budget c.args.goal.now o
    (rw c.as_slice.ensures.value (rw c.in-Ok-All.field-0-is at c.in-Ok-All.ensures)) gives)

pub returns-in-Ok-NoUnit-clause-leaves : goal.returns-in-Ok-NoUnit-clause-leaves
returns-in-Ok-NoUnit-clause-leaves g c =
    let o = told (not_unit_text (get_or c.args.names.now c.in-Ok-NoUnit.place [])) NotUnit in
    no_run_told (HasRunOver (AreLinked c.args.contents.now) c.args.budget c.args.goal.now) c.args.last.now c.told_or_not.result o
    (g.O.Sink.written c.args.out.now) (g.O.Sink.written c.told_or_not.new.out) refl (c.told_or_not.ensures.output o c.no_unit.ensures.gives) c.requires.none

pub returns-in-Ok-All-clause-leaves : goal.returns-in-Ok-All-clause-leaves
returns-in-Ok-All-clause-leaves g c =
    let us = map unit_facts c.as_slice.result.now in
    let are : AreUnits c.args.contents.now (map unit_facts c.as_slice.result.now) = rw c.as_slice.ensures.value (rw c.in-Ok-All.field-0-is at c.in-Ok-All.ensures) in
    leaves_as (has_ended c.run_linked.result) (λ m. (first_link us ≡ None) × HasRun us c.args.budget c.args.goal.now m) (HasRunOver (AreLinked c.args.contents.now) c.args.budget c.args.goal.now)
    c.run_linked.new.last (λ m h. (us, (are, h.0), h.1)) c.run_linked.ensures.leaves
