use Rattle.std.proofs.Common.{◌≡◌, List, map, refl, None}
use Rattle.unit_model.specs.Facts.{Facts}
use Rattle.unit_model.specs.Directives.{Text}
use Rattle.unit_format.specs.Views.{unit_facts}
use Rattle.link_model.specs.Faults.{fault, first_link}
use Rattle.mod_linker.specs.Linking.{IsLinkOf}
use Rattle.plmod.specs.Links.{link_faulty}
use Rattle.plmod.specs.Last.{HasRun, has_ended}
use Rattle.plmod.proofs.GoalLaws.{made_same}
use Rattle.plmod.proofs.LastLaws.{no_run_told, leaves_as}
use Rattle.plmod.proofs.RunLaws.{of_linked, of_link_fault}
use Rattle.plmod.proofs.run.run_linked.Goals as goal

pub returns-in-Ok-clause-output : goal.returns-in-Ok-clause-output
returns-in-Ok-clause-output g c = λ o gives.
    let us = map unit_facts c.args.units.now in
    c.run_program.ensures.output us o c.in-Ok.ensures.program (of_linked c.args.names.now us c.args.budget c.args.goal.now (first_link us) o c.in-Ok.ensures.none gives)

pub returns-in-Err-Fault-clause-output : goal.returns-in-Err-Fault-clause-output
returns-in-Err-Fault-clause-output g c = λ o gives.
    let us = map unit_facts c.args.units.now in
    let f = fault c.in-Err-Fault.unit c.in-Err-Fault.byte c.in-Err-Fault.number in
    c.told_or_not.ensures.output o
    (made_same c.faulty_link.result (link_faulty c.args.names.now f) o
    (of_link_fault c.args.names.now us c.args.budget c.args.goal.now (first_link us) f o (rw c.in-Err-Fault.field-0-is at c.in-Err-Fault.ensures.fault) gives)
    c.faulty_link.ensures.gives)

pub returns-in-Ok-clause-leaves : goal.returns-in-Ok-clause-leaves
returns-in-Ok-clause-leaves g c =
    let us = map unit_facts c.args.units.now in
    leaves_as (has_ended c.run_program.result) (λ m. (vs : List (Facts Text)) → IsLinkOf vs c.in-Ok.program → HasRun vs c.args.budget c.args.goal.now m)
    (λ m. (first_link us ≡ None) × HasRun us c.args.budget c.args.goal.now m) c.run_program.new.last (λ m h. (c.in-Ok.ensures.none, h us c.in-Ok.ensures.program)) c.run_program.ensures.leaves

pub returns-in-Err-Fault-clause-leaves : goal.returns-in-Err-Fault-clause-leaves
returns-in-Err-Fault-clause-leaves g c =
    let us = map unit_facts c.args.units.now in
    let o = link_faulty c.args.names.now (fault c.in-Err-Fault.unit c.in-Err-Fault.byte c.in-Err-Fault.number) in
    no_run_told (λ m. (first_link us ≡ None) × HasRun us c.args.budget c.args.goal.now m) c.args.last.now c.told_or_not.result o
    (g.O.Sink.written c.args.out.now) (g.O.Sink.written c.told_or_not.new.out) refl (c.told_or_not.ensures.output o c.faulty_link.ensures.gives) c.requires
