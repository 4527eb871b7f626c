use Rattle.std.proofs.Common.{◌≡◌, ◌<◌, length, Some, ap, ◌∙◌, subst}
use Rattle.unit_model.specs.Encoding.{text_at}
use Rattle.prep_texts.specs.declared.directives.ModuleSource.{ModuleSource}
use Rattle.prep_texts.specs.declared.directives.ModuleSource.TheVariants.{Taking}
use Rattle.prep_texts.specs.declared.draft.Draft.{Draft}
use Rattle.prep_texts.specs.Sections.{source_view, SourceBelow}
use Rattle.prep_texts.specs.Seen.{seen, sourced_seen}
use Rattle.prep_texts.specs.Drafts.{state_of}
use Rattle.prep_texts.proofs.Agreeing.{front-agrees}
use Rattle.prep_texts.proofs.ModuleLaws.{refuses}
use Rattle.prep_texts.proofs.draft.Draft.take_from.Goals as goal

pub returns-in_ok-need_of-in-Taking-clause-fault : goal.returns-in_ok-need_of-in-Taking-clause-fault
returns-in_ok-need_of-in-Taking-clause-fault c = λ n e.
    let old = c.args.self.now in
    let mid = c.need_of-in-Taking.new.self in
    let name = c.in-Taking.name in
    let s : c.args.source ≡ Taking name = c.in-Taking.is in
    let below : name.0 < length old.names = subst (SourceBelow (length old.names)) s c.requires.below in
    ap (λ (o : ModuleSource). sourced_seen (source_view old.names (Some o)) c.args.byte (seen (state_of c.args.known.now old))) s
    ∙ refuses c.args.known.now old (text_at old.names name.0) c.args.byte mid c.in_ok-need_of-in-Taking.ensures.needs
    (ap (λ (d : Draft). d.own) c.in_ok-need_of-in-Taking.ensures.same) (ap (λ (d : Draft). d.table) c.in_ok-need_of-in-Taking.ensures.same)
    (text_at mid.names name.0) (front-agrees old.names mid.names c.in_ok-need_of-in-Taking.ensures.names name.0 below) n (c.take_operators.ensures.refused n e)
