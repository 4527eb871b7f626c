use Rattle.std.proofs.Common.{sym, ap, ◌∙◌}
use Rattle.pl_atoms.specs.Names.{with_text}
use Rattle.unit_model.specs.Encoding.{text_at}
use Rattle.prep_texts.specs.Seen.{seen, is_needed}
use Rattle.prep_texts.specs.Drafts.{state_of}
use Rattle.prep_texts.specs.Interfaces.{operators_view}
use Rattle.prep_texts.proofs.NeedLaws.{need-seen-more, need-well-more, kept-if}
use Rattle.prep_texts.proofs.draft.Draft.need.Goals as goal

pub returns-then-is_needed-clause-needs : goal.returns-then-is_needed-clause-needs
returns-then-is_needed-clause-needs c = λ known.
    let v = seen (state_of known c.args.self.now) in
    kept-if (is_needed (text_at c.args.self.now.names c.args.name.0) v) v _ (ap (λ n. is_needed n v) (sym c.text.ensures) ∙ sym (c.is_needed.ensures known) ∙ c.if-is_needed.true)

pub returns-clause-needs : goal.returns-clause-needs
returns-clause-needs c =
    need-seen-more c.args.self.now c.requires.well c.interned.new.names c.in_ok-ops.ensures.front c.args.name c.args.byte c.requires.below
    (operators_view c.args.operators.now) c.in_ok-ops.ops c.in_ok-ops.ensures.same c.in_ok-ops.ensures.below
    (λ known. ap (λ n. is_needed n (seen (state_of known c.args.self.now))) (sym c.text.ensures) ∙ sym (c.is_needed.ensures known) ∙ c.if-is_needed.false)
    c.push.new.self c.in_ok-push.ensures.ok c.intern.new.self (c.in_ok-intern.ensures.ok ∙ ap (with_text c.args.self.now.needed) c.text-2.ensures)

pub returns-clause-well : goal.returns-clause-well
returns-clause-well c =
    need-well-more c.args.self.now c.requires.well c.interned.new.names c.in_ok-ops.ensures.front c.args.name c.args.byte c.requires.below
    (operators_view c.args.operators.now) c.in_ok-ops.ops c.in_ok-ops.ensures.same c.in_ok-ops.ensures.below
    (λ known. ap (λ n. is_needed n (seen (state_of known c.args.self.now))) (sym c.text.ensures) ∙ sym (c.is_needed.ensures known) ∙ c.if-is_needed.false)
    c.push.new.self c.in_ok-push.ensures.ok c.intern.new.self (c.in_ok-intern.ensures.ok ∙ ap (with_text c.args.self.now.needed) c.text-2.ensures)
