use Rattle.std.proofs.Common.{◌≡◌, length, Err, ap, sym, ◌∙◌, true}
use Rattle.pl_terms.specs.Cells.{first}
use Rattle.pl_terms.specs.Order.{texts_of}
use Rattle.unit_model.specs.Preparing.{a_query, a_clause, sort_of}
use Rattle.mod_directives.proofs.Terms.{tells-says, tells-fault, said-by, directive-one, directive-below, directive-other, directive-said}
use Rattle.mod_interface.proofs.interface.interface_entries.Goals as goal

pub directive_entries-requires-clause-one : goal.directive_entries-requires-clause-one
directive_entries-requires-clause-one c =
    directive-one c.args.names.now c.args.term.now.term c.of-walk.result c.enter.new.self c.of-walk.ensures c.in-Directive.ensures c.enter.ensures.trees

pub directive_entries-requires-clause-below : goal.directive_entries-requires-clause-below
directive_entries-requires-clause-below c =
    directive-below c.args.names.now c.args.term.now.term c.of-walk.result c.enter.new.self c.of-walk.ensures c.in-Directive.ensures c.enter.ensures.trees (length c.args.names.now) c.requires.below

pub directive_entries-requires-clause-other : goal.directive_entries-requires-clause-other
directive_entries-requires-clause-other c =
    directive-other c.args.names.now c.args.term.now.term c.of-walk.result c.enter.new.self c.of-walk.ensures c.in-Directive.ensures c.enter.ensures.trees c.requires.other

pub returns-in-Directive-clause-ok : goal.returns-in-Directive-clause-ok
returns-in-Directive-clause-ok c =
    let names = c.args.names.now in
    tells-says names true (texts_of names c.args.term.now.term) c.args.term.now.byte c.args.table.now c.directive_entries.new.table _ c.directive_entries.result
    (directive-said names c.args.term.now.term c.of-walk.result c.enter.new.self c.of-walk.ensures c.in-Directive.ensures c.enter.ensures.trees true c.args.table.now)
    c.directive_entries.ensures

pub returns-in-Directive-clause-fault : goal.returns-in-Directive-clause-fault
returns-in-Directive-clause-fault c =
    let names = c.args.names.now in
    tells-fault names true (texts_of names c.args.term.now.term) c.args.term.now.byte c.args.table.now c.directive_entries.new.table _ c.directive_entries.result
    (directive-said names c.args.term.now.term c.of-walk.result c.enter.new.self c.of-walk.ensures c.in-Directive.ensures c.enter.ensures.trees true c.args.table.now)
    c.directive_entries.ensures

pub returns-in-Query-clause-fault : goal.returns-in-Query-clause-fault
returns-in-Query-clause-fault c n e =
    let t = texts_of c.args.names.now c.args.term.now.term in
    let is : sort_of t ≡ a_query = ap (λ ts. sort_of (texts_of c.args.names.now (first ts))) (sym c.of-walk.ensures) ∙ c.in-Query.ensures in
    said-by true t c.args.table.now a_query is ∙ (let same : 8 ≡ n = cc in ap Err same)

pub returns-in-Clause-clause-fault : goal.returns-in-Clause-clause-fault
returns-in-Clause-clause-fault c n e =
    let t = texts_of c.args.names.now c.args.term.now.term in
    let is : sort_of t ≡ a_clause = ap (λ ts. sort_of (texts_of c.args.names.now (first ts))) (sym c.of-walk.ensures) ∙ c.in-Clause.ensures in
    said-by true t c.args.table.now a_clause is ∙ (let same : 16 ≡ n = cc in ap Err same)
