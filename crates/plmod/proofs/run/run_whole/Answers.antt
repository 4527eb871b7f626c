use Rattle.std.proofs.Common.{List, [], get_or, refl}
use Rattle.unit_model.specs.Facts.{Facts}
use Rattle.unit_model.specs.Directives.{Text}
use Rattle.link_model.specs.Faults.{fault}
use Rattle.plmod.specs.Links.{link_faulty}
use Rattle.plmod.specs.Prepares.{faulty}
use Rattle.mod_linker.specs.Linking.{IsLinkOf}
use Rattle.plmod.specs.Last.{HasRun, HasRunOver, AreOfTexts, has_ended}
use Rattle.plmod.proofs.LastLaws.{no_run_told, leaves_as}
use Rattle.plmod.proofs.GoalLaws.{made_same}
use Rattle.plmod.proofs.RunLaws.{of_text_fault, of_whole_fault, of_program}
use Rattle.plmod.proofs.run.run_whole.Goals as goal

pub returns-in-Ok-clause-output : goal.returns-in-Ok-clause-output
returns-in-Ok-clause-output g c = λ o gives.
    let p = c.in-Ok.ensures.program in
    c.run_program.ensures.output p.0 o p.2 (of_program c.texts_are_one_whole.ensures c.args.names.now c.args.contents.now c.args.budget c.args.goal.now p.0 o p.1 gives)

pub returns-in-Err-Prep-clause-output : goal.returns-in-Err-Prep-clause-output
returns-in-Err-Prep-clause-output g c = λ o gives.
    c.told_or_not.ensures.output o
    (made_same c.faulty_text.result (faulty (get_or c.args.names.now c.in-Err-Prep.text []) c.in-Err-Prep.number c.in-Err-Prep.byte) o
    (of_text_fault c.texts_are_one_whole.ensures c.args.names.now c.args.contents.now c.args.budget c.args.goal.now c.in-Err-Prep.number c.in-Err-Prep.text c.in-Err-Prep.byte o
    (rw c.in-Err-Prep.field-0-is at c.in-Err-Prep.ensures.fault) gives)
    c.faulty_text.ensures.gives)

pub returns-in-Err-Link-clause-output : goal.returns-in-Err-Link-clause-output
returns-in-Err-Link-clause-output g c = λ o gives.
    let f = fault c.in-Err-Link.unit c.in-Err-Link.byte c.in-Err-Link.number in
    c.told_or_not-in-Err-Link.ensures.output o
    (made_same c.faulty_link.result (link_faulty c.args.names.now f) o
    (of_whole_fault c.texts_are_one_whole.ensures c.args.names.now c.args.contents.now c.args.budget c.args.goal.now f o (rw c.in-Err-Link.field-0-is at c.in-Err-Link.ensures.fault) gives)
    c.faulty_link.ensures.gives)

pub returns-in-Ok-clause-leaves : goal.returns-in-Ok-clause-leaves
returns-in-Ok-clause-leaves g c =
    let p = c.in-Ok.ensures.program in
    leaves_as (has_ended c.run_program.result) (λ m. (us : List (Facts Text)) → IsLinkOf us c.in-Ok.program → HasRun us c.args.budget c.args.goal.now m)
    (HasRunOver (AreOfTexts c.args.contents.now) c.args.budget c.args.goal.now) c.run_program.new.last (λ m h. (p.0, p.1, h p.0 p.2)) c.run_program.ensures.leaves

pub returns-in-Err-Prep-clause-leaves : goal.returns-in-Err-Prep-clause-leaves
returns-in-Err-Prep-clause-leaves g c =
    let o = faulty (get_or c.args.names.now c.in-Err-Prep.text []) c.in-Err-Prep.number c.in-Err-Prep.byte in
    no_run_told (HasRunOver (AreOfTexts c.args.contents.now) c.args.budget c.args.goal.now) c.args.last.now c.told_or_not.result o
    (g.O.Sink.written c.args.out.now) (g.O.Sink.written c.told_or_not.new.out) refl (c.told_or_not.ensures.output o c.faulty_text.ensures.gives) c.requires.none

pub returns-in-Err-Link-clause-leaves : goal.returns-in-Err-Link-clause-leaves
returns-in-Err-Link-clause-leaves g c =
    let o = link_faulty c.args.names.now (fault c.in-Err-Link.unit c.in-Err-Link.byte c.in-Err-Link.number) in
    no_run_told (HasRunOver (AreOfTexts c.args.contents.now) c.args.budget c.args.goal.now) c.args.last.now c.told_or_not-in-Err-Link.result o
    (g.O.Sink.written c.args.out.now) (g.O.Sink.written c.told_or_not-in-Err-Link.new.out) refl (c.told_or_not-in-Err-Link.ensures.output o c.faulty_link.ensures.gives) c.requires.none
