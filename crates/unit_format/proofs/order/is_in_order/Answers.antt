use Rattle.std.proofs.Common.{sym, ap, ◌∙◌, [], length}
use Rattle.pl_ops.specs.Tables.{same_text}
use Rattle.pl_terms.specs.Occurrence.{first_after, from_to}
use Rattle.unit_format.specs.Uses.{facts_uses}
use Rattle.unit_format.proofs.Counting.{decides, decides_none}
use Rattle.unit_format.proofs.UseLaws.{names_of-view}
use Rattle.unit_format.proofs.order.is_in_order.Goals as goal

pub returns-in-Some : goal.returns-in-Some
returns-in-Some c =
    decides c.len-count.result c.in-Some.used (facts_uses c.args.facts.now) c.in-Some.ensures
    ∙ ap (λ n. same_text (first_after [] (facts_uses c.args.facts.now)) (from_to 0 n)) c.len-count.ensures.length
    ∙ sym (ap (λ l. same_text (first_after [] l) (from_to 0 (length c.args.names.now))) (names_of-view c.args.facts.now))

pub returns-in-None : goal.returns-in-None
returns-in-None c =
    decides_none c.len-count.result (facts_uses c.args.facts.now) c.in-None.ensures
    ∙ ap (λ n. same_text (first_after [] (facts_uses c.args.facts.now)) (from_to 0 n)) c.len-count.ensures.length
    ∙ sym (ap (λ l. same_text (first_after [] l) (from_to 0 (length c.args.names.now))) (names_of-view c.args.facts.now))
