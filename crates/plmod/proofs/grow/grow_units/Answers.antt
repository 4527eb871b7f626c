use Rattle.std.proofs.Common.{List, [], map, refl}
use Rattle.unit_model.specs.Facts.{Facts}
use Rattle.unit_model.specs.Directives.{Text}
use Rattle.unit_format.specs.Views.{unit_facts}
use Rattle.link_model.specs.Faults.{fault}
use Rattle.mod_linker.specs.Linking.{IsLinkOf}
use Rattle.plmod.specs.Growing.{grow_texts, grow_goal}
use Rattle.plmod.specs.Links.{link_faulty}
use Rattle.plmod.specs.Last.{HasRun, HasRunOver, AreOfTexts, has_ended}
use Rattle.plmod.proofs.GoalLaws.{made_same}
use Rattle.plmod.proofs.TogetherLaws.{linked_program, linked_fault}
use Rattle.plmod.proofs.GrowRuns.{grown, grown_apart}
use Rattle.plmod.proofs.LastLaws.{no_run_told, leaves_as}
use Rattle.plmod.proofs.grow.grow_units.Goals as goal

pub returns-in-Ok-clause-output : goal.returns-in-Ok-clause-output
returns-in-Ok-clause-output g c = λ o gives.
    let us = map unit_facts c.args.units.now in
    c.grow_program.ensures.output us o c.in-Ok.ensures.program
    (grown c.texts_are_one_whole.ensures c.args.count c.args.budget us o (linked_program (grow_texts c.args.count) us c.in-Ok.ensures.none c.requires.whole) gives)

pub returns-in-Err-Fault-clause-output : goal.returns-in-Err-Fault-clause-output
returns-in-Err-Fault-clause-output g c = λ o gives.
    let us = map unit_facts c.args.units.now in
    let f = fault c.in-Err-Fault.unit c.in-Err-Fault.byte c.in-Err-Fault.number in
    c.told_or_not.ensures.output o
    (made_same c.faulty_link.result (link_faulty [] f) o
    (grown_apart c.texts_are_one_whole.ensures c.args.count c.args.budget f o
    (linked_fault (grow_texts c.args.count) us f (rw c.in-Err-Fault.field-0-is at c.in-Err-Fault.ensures.fault) c.requires.whole) gives)
    c.faulty_link.ensures.gives)

pub returns-in-Ok-clause-leaves : goal.returns-in-Ok-clause-leaves
returns-in-Ok-clause-leaves g c =
    let us = map unit_facts c.args.units.now in
    leaves_as (has_ended c.grow_program.result) (λ m. (vs : List (Facts Text)) → IsLinkOf vs c.in-Ok.program → HasRun vs c.args.budget grow_goal m) (HasRunOver (AreOfTexts (grow_texts c.args.count)) c.args.budget grow_goal)
    c.grow_program.new.last (λ m h. (us, linked_program (grow_texts c.args.count) us c.in-Ok.ensures.none c.requires.whole, h us c.in-Ok.ensures.program)) c.grow_program.ensures.leaves

pub returns-in-Err-Fault-clause-leaves : goal.returns-in-Err-Fault-clause-leaves
returns-in-Err-Fault-clause-leaves g c =
    let o = link_faulty [] (fault c.in-Err-Fault.unit c.in-Err-Fault.byte c.in-Err-Fault.number) in
    no_run_told (HasRunOver (AreOfTexts (grow_texts c.args.count)) c.args.budget grow_goal) c.args.last.now c.told_or_not.result o
    (g.O.Sink.written c.args.out.now) (g.O.Sink.written c.told_or_not.new.out) refl (c.told_or_not.ensures.output o c.faulty_link.ensures.gives) c.requires.none
