use Rattle.std.proofs.Common.{sym, ap, ◌∙◌}
use Rattle.std.specs.List.{flat_map}
use Rattle.unit_format.specs.Counting.{counted_within}
use Rattle.unit_format.specs.Uses.{need_uses, section_uses}
use Rattle.unit_format.proofs.CountLoop.{counted_more, counted_none}
use Rattle.unit_format.proofs.order.after_facts.Goals as goal

pub returns-in_err-next : goal.returns-in_err-next
returns-in_err-next c =
    c.from_residual.ensures
    ∙ sym (counted_none c.args.limit 0 (flat_map need_uses c.args.facts.now.needs) (flat_map section_uses c.args.facts.now.sections)
    (sym (c.in_err-next.ensures ∙ ap (λ ns. counted_within c.args.limit 0 (flat_map need_uses ns)) c.as_slice.ensures)))

pub returns : goal.returns
returns c =
    c.after_sections.ensures ∙ ap (λ ss. counted_within c.args.limit c.in_ok-next.next (flat_map section_uses ss)) c.as_slice-2.ensures
    ∙ sym (counted_more c.args.limit 0 c.in_ok-next.next (flat_map need_uses c.args.facts.now.needs) (flat_map section_uses c.args.facts.now.sections)
    (sym (c.in_ok-next.ensures ∙ ap (λ ns. counted_within c.args.limit 0 (flat_map need_uses ns)) c.as_slice.ensures)))
