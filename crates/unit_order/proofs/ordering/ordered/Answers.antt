use Rattle.std.proofs.Common.{[], map, sym, ap, subst, ◌∙◌}
use Rattle.std.specs.List.{AllByRecursion}
use Rattle.pl_atoms.specs.Names.{with_texts}
use Rattle.unit_model.specs.Encoding.{text_at}
use Rattle.unit_format.specs.Uses.{facts_uses}
use Rattle.unit_order.specs.Numbering.{all_noted}
use Rattle.unit_order.specs.Counts.{are_few}
use Rattle.unit_order.proofs.Valid.{used_below, stands, is_unit}
use Rattle.unit_order.proofs.ordering.ordered.Goals as goal

pub table_of-requires : goal.table_of-requires
table_of-requires c =
    let was = c.in_ok-note_facts.ensures ∙ ap (λ l. all_noted l (facts_uses c.args.facts)) c.in_ok-used.ensures in
    subst (AllByRecursion _) (sym c.names.ensures) (used_below c.args.names.now c.args.facts c.note_facts.new.used c.requires.below was)

pub invariant_of-result : goal.invariant_of-result
invariant_of-result c =
    let was = c.in_ok-note_facts.ensures ∙ ap (λ l. all_noted l (facts_uses c.args.facts)) c.in_ok-used.ensures in
    let made = c.in_ok-table.ensures ∙ ap (λ l. with_texts [] (map (text_at c.args.names.now) l)) c.names.ensures in
    let few = ap (λ n. are_few n c.args.facts) (sym c.len.ensures.length) ∙ sym c.are_few.ensures ∙ c.if-not-are_few.false in
    record { valid = ∣ is_unit c.args.names.now c.args.facts c.note_facts.new.used c.requires.below was c.len-count.ensures.distinct c.in_ok-table.table made c.in_ok-facts.facts c.in_ok-facts.ensures c.requires.sound few ∣₁ }

pub returns : goal.returns
returns c =
    let was = c.in_ok-note_facts.ensures ∙ ap (λ l. all_noted l (facts_uses c.args.facts)) c.in_ok-used.ensures in
    let made = c.in_ok-table.ensures ∙ ap (λ l. with_texts [] (map (text_at c.args.names.now) l)) c.names.ensures in
    record { facts = stands c.args.names.now c.args.facts c.note_facts.new.used c.requires.below was c.len-count.ensures.distinct c.in_ok-table.table made c.in_ok-facts.facts c.in_ok-facts.ensures }
