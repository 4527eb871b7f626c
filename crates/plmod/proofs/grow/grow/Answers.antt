use Rattle.std.proofs.Common.{[], refl}
use Rattle.plmod.specs.Prepares.{faulty}
use Rattle.plmod.specs.Growing.{grow_texts, grow_goal}
use Rattle.plmod.specs.Last.{HasRunOver, AreOfTexts}
use Rattle.plmod.proofs.GoalLaws.{made_same}
use Rattle.plmod.proofs.GrowRuns.{grown_faulty}
use Rattle.plmod.proofs.LastLaws.{no_run_told}
use Rattle.plmod.proofs.grow.grow.Goals as goal

pub returns-in-Ok-Faulty-clause-output : goal.returns-in-Ok-Faulty-clause-output
returns-in-Ok-Faulty-clause-output g c = λ o gives.
    c.told_or_not.ensures.output o
    (made_same c.faulty_text.result (faulty [] c.in-Ok-Faulty.number c.in-Ok-Faulty.byte) o
    (grown_faulty c.texts_are_one_whole.ensures c.args.count c.args.budget c.in-Ok-Faulty.number _ c.in-Ok-Faulty.byte o (rw c.in-Ok-Faulty.field-0-is at c.in-Ok-Faulty.ensures) gives)
    c.faulty_text.ensures.gives)

pub grow_units-requires-clause-whole : goal.grow_units-requires-clause-whole
grow_units-requires-clause-whole g c = rw c.as_slice.ensures.value (rw c.in-Ok-All.field-0-is at c.in-Ok-All.ensures)

pub returns-in-Ok-Faulty-clause-leaves : goal.returns-in-Ok-Faulty-clause-leaves
returns-in-Ok-Faulty-clause-leaves g c =
    let o = faulty [] c.in-Ok-Faulty.number c.in-Ok-Faulty.byte in
    no_run_told (HasRunOver (AreOfTexts (grow_texts c.args.count)) c.args.budget grow_goal) c.args.last.now c.told_or_not.result o
    (g.O.Sink.written c.args.out.now) (g.O.Sink.written c.told_or_not.new.out) refl (c.told_or_not.ensures.output o c.faulty_text.ensures.gives) c.requires
