use Rattle.std.proofs.Common.{sym, ◌∙◌, subst}
use Rattle.unit_model.specs.Preparing.{facts_of}
use Rattle.unit_model.specs.Prepared.{Prepared}
use Rattle.prep_texts.specs.Drafts.{state_of}
use Rattle.prep_texts.proofs.RunLaws.{is-none}
use Rattle.prep_texts.proofs.SoundLaws.{all-sound}
use Rattle.prep_texts.proofs.preparing.prepare.Goals as goal

pub into_unit-requires-clause-sound : goal.into_unit-requires-clause-sound
into_unit-requires-clause-sound c =
    let d = c.in_ok-draft.draft in
    let none = is-none d.section (sym c.is_open.ensures ∙ c.if-is_open.false) in
    all-sound c.args.known.now c.args.text.now (facts_of (state_of c.args.known.now d)) c.are_good.ensures c.requires (c.in_ok-draft.ensures.ends.prepared none)

pub returns-clause-ok : goal.returns-clause-ok
returns-clause-ok c =
    let d = c.in_ok-draft.draft in
    let none = is-none d.section (sym c.is_open.ensures ∙ c.if-is_open.false) in
    subst (Prepared c.args.known.now c.args.text.now) (sym c.in_ok-into_unit.ensures) (c.in_ok-draft.ensures.ends.prepared none)
