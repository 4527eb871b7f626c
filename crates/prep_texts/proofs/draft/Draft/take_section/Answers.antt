use Rattle.std.proofs.Common.{ap, ◌∙◌}
use Rattle.prep_texts.specs.declared.directives.SectionDirective.{SectionDirective}
use Rattle.prep_texts.specs.Sections.{directive_view}
use Rattle.prep_texts.specs.Seen.{seen, section_seen}
use Rattle.prep_texts.specs.Drafts.{state_of}
use Rattle.prep_texts.proofs.draft.Draft.take_section.Goals as goal

pub returns-in-Ends-clause-fault : goal.returns-in-Ends-clause-fault
returns-in-Ends-clause-fault c = λ n e.
    ap (λ (s : SectionDirective). section_seen (directive_view c.args.self.now.names s) c.args.byte (seen (state_of c.args.known.now c.args.self.now))) c.in-Ends.is
    ∙ c.end_section.ensures.fault n e c.args.known.now
