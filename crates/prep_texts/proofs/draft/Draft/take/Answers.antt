use Rattle.std.proofs.Common.{◌≡◌, Ok, sym, ◌∙◌, subst, OnOk}
use Rattle.prep_texts.specs.Seen.{seen}
use Rattle.pl_terms.specs.Order.{texts_of}
use Rattle.prep_texts.specs.Sections.{directive_view}
use Rattle.prep_texts.specs.Drafts.{state_of}
use Rattle.prep_texts.proofs.TermLaws.{section-step}
use Rattle.prep_texts.proofs.draft.Draft.take.Goals as goal

pub returns-in-Some-clause-fault : goal.returns-in-Some-clause-fault
returns-in-Some-clause-fault c = λ n e.
    let t = texts_of c.args.self.now.names c.args.term.now.term in
    section-step t c.args.term.now.byte (state_of c.args.known.now c.args.self.now) (directive_view c.args.self.now.names c.in-Some.directive) c.in-Some.ensures.directive ∙ c.take_section.ensures.fault n e

pub returns-in-Some-clause-ok : goal.returns-in-Some-clause-ok
returns-in-Some-clause-ok c =
    let t = texts_of c.args.self.now.names c.args.term.now.term in
    let v = seen (state_of c.args.known.now c.args.self.now) in
    subst (λ r. OnOk c.take_section.result (r ≡ Ok (seen (state_of c.args.known.now c.take_section.new.self))))
    (sym (section-step t c.args.term.now.byte (state_of c.args.known.now c.args.self.now) (directive_view c.args.self.now.names c.in-Some.directive) c.in-Some.ensures.directive)) c.take_section.ensures.ok
