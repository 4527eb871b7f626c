use Rattle.std.proofs.Common.{[], map, sym, ap, subst, ◌∙◌}
use Rattle.std.specs.List.{AllByRecursion}
use Rattle.pl_atoms.specs.Names.{with_texts}
use Rattle.unit_model.specs.Encoding.{text_at}
use Rattle.unit_order.specs.Numbering.{all_noted, down_from}
use Rattle.unit_order.proofs.Shuffling.{down_used, still_below, still_same}
use Rattle.unit_order.proofs.tests.shuffled.Goals as goal

pub table_of-requires : goal.table_of-requires
table_of-requires c =
    let was = c.in_ok-used.ensures ∙ ap (λ n. all_noted [] (down_from n)) c.len-count.ensures.length in
    subst (AllByRecursion _) (sym c.names-numbers.ensures) (down_used _ _ was)

pub returns-clause-below : goal.returns-clause-below
returns-clause-below c =
    let was = c.in_ok-used.ensures ∙ ap (λ n. all_noted [] (down_from n)) c.len-count.ensures.length in
    let made = c.in_ok-names.ensures ∙ ap (λ l. with_texts [] (map (text_at c.args.unit.now.names) l)) c.names-numbers.ensures in
    still_below c.args.unit.now.names c.args.unit.now.facts c.in_ok-used.used c.len-count.ensures.distinct c.args.unit.now.valid was c.in_ok-names.names c.intern.new.self c.args.unused.now made c.in_ok-intern.ensures.ok c.in_ok-facts.facts c.in_ok-facts.ensures

pub returns-clause-same : goal.returns-clause-same
returns-clause-same c =
    let was = c.in_ok-used.ensures ∙ ap (λ n. all_noted [] (down_from n)) c.len-count.ensures.length in
    let made = c.in_ok-names.ensures ∙ ap (λ l. with_texts [] (map (text_at c.args.unit.now.names) l)) c.names-numbers.ensures in
    still_same c.args.unit.now.names c.args.unit.now.facts c.in_ok-used.used c.len-count.ensures.distinct c.args.unit.now.valid was c.in_ok-names.names c.intern.new.self c.args.unused.now made c.in_ok-intern.ensures.ok c.in_ok-facts.facts c.in_ok-facts.ensures
