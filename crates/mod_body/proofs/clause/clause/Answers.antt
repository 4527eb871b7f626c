use Rattle.std.proofs.Common.{length, codes, false, Some, ap, sym, ◌∙◌}
use Rattle.pl_terms.specs.Trees.{atom, back}
use Rattle.pl_terms.specs.Cells.{first}
use Rattle.pl_terms.specs.Order.{text_of, texts_of}
use Rattle.unit_model.specs.Directives.{converted}
use Rattle.term_walk.specs.Walks.{is_functor}
use Rattle.term_walk.proofs.NameBounds.{entered_below}
use Rattle.mod_body.specs.Clauses.{clause_by}
use Rattle.mod_body.proofs.Making.{rule-is, fact-is, one-below, IsClause-same}
use Rattle.mod_body.proofs.clause.clause.Goals as goal

pub rule-requires-clause-two : goal.rule-requires-clause-two
rule-requires-clause-two c =
    let r = rule-is (text_of c.args.names.now) c.of-walk.result c.enter.new.self c.args.term.now c.is_functor.result c.of-walk.ensures c.is_functor.ensures c.if-is_functor.true c.enter.ensures.trees in
    r.two

pub rule-requires-clause-below : goal.rule-requires-clause-below
rule-requires-clause-below c =
    let n = length c.args.names.now in
    entered_below n c.of-walk.result c.enter.new.self c.enter.ensures.trees (one-below n c.of-walk.result c.args.term.now c.of-walk.ensures c.requires)

pub returns-then-is_functor-clause-clause : goal.returns-then-is_functor-clause-clause
returns-then-is_functor-clause-clause c =
    let names = c.args.names.now in
    let r = rule-is (text_of names) c.of-walk.result c.enter.new.self c.args.term.now c.is_functor.result c.of-walk.ensures c.is_functor.ensures c.if-is_functor.true c.enter.ensures.trees in
    IsClause-same c.rule.new.names _ _ c.rule.result
    (r.is ∙ ap (λ n. clause_by n false (texts_of names (first c.enter.new.self)) (converted (texts_of names (first (back 1 c.enter.new.self))))) (sym (ap length (c.as_slice-count.ensures ∙ c.in_ok-variables.ensures))))
    c.rule.ensures.clause

pub returns-clause-clause : goal.returns-clause-clause
returns-clause-clause c =
    let names = c.args.names.now in
    IsClause-same c.fact.new.names _ _ c.fact.result
    (fact-is (text_of names) c.of-walk.result c.args.term.now c.is_functor.result c.of-walk.ensures c.is_functor.ensures c.if-is_functor.false
    ∙ ap (λ n. clause_by n (is_functor (text_of names) (codes "-->") 2 c.of-walk.result) (texts_of names (first c.of-walk.result)) (Some (atom (codes "true")))) (sym (ap length (c.as_slice-count.ensures ∙ c.in_ok-variables.ensures))))
    c.fact.ensures.clause
