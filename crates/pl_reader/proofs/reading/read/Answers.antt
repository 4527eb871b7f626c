use Rattle.std.proofs.Common.{List, subst, sym, ◌∙◌}
use Rattle.pl_ops.specs.Tables.{operator}
use Rattle.pl_tokens.specs.declared.token.Token.{Token}
use Rattle.pl_terms.specs.Order.{texts_of}
use Rattle.pl_reader.specs.Reads.{ReadsRun}
use Rattle.pl_reader.specs.Runs.{HasEnd}
use Rattle.pl_reader.proofs.RunFacts.{has_end}
use Rattle.pl_reader.proofs.Tables.{agrees, number_in, grammar_after}
use Rattle.pl_reader.proofs.Trees.{no_tree, TermOf, term_found, each_is_cell, term_reads, term_within}
use Rattle.pl_reader.proofs.reading.read.Goals as goal
use Rattle.pl_reader.proofs.reading.read.Goals.{After-as_slice-in-Some}

found : (c : After-as_slice-in-Some) → TermOf (operator c.args.table.now) c.as_slice-tokens.result.now c.read_cells.new.names c.in_ok-prefix-in-Some.prefix.items
found c =
    term_found (operator c.args.table.now) c.as_slice-tokens.result.now c.read_cells.new.names c.in_ok-grammar.grammar c.in-Some.behind.items c.in_ok-prefix-in-Some.prefix.items c.are_distinct.ensures
    (grammar_after _ _ c.in_ok-grammar.grammar c.in_ok-found.ensures.front c.in_ok-grammar.ensures.grammar)
    (rw c.in-Some.is at c.in_ok-found.ensures.known)
    (rw c.in-Some.is at c.in_ok-found.ensures.found)
    (λ num t e. c.in_ok-prefix-in-Some.ensures num t (c.as_slice.ensures.value ∙ e))

pub read_cells-requires-clause-run : goal.read_cells-requires-clause-run
read_cells-requires-clause-run c = subst HasEnd (sym c.as_slice-tokens.ensures) (has_end c.args.run.now c.requires)

pub first_byte-requires : goal.first_byte-requires
first_byte-requires c = (subst HasEnd (sym c.as_slice-tokens.ensures) (has_end c.args.run.now c.requires)).some

pub term_of-requires-clause-each : goal.term_of-requires-clause-each
term_of-requires-clause-each c = each_is_cell (operator c.args.table.now) c.as_slice-tokens.result.now c.read_cells.new.names c.in_ok-prefix-in-Some.prefix.items (found c) c.as_slice-in-Some.result.now c.as_slice-in-Some.ensures.value

pub term_of-requires-clause-whole : goal.term_of-requires-clause-whole
term_of-requires-clause-whole c = let f = found c in (f.term, f.cells_are ∙ sym c.as_slice-in-Some.ensures.value)

pub returns-in-None-clause-no_term : goal.returns-in-None-clause-no_term
returns-in-None-clause-no_term c = λ e t r.
    let P : List Token → Type 0 = λ l. ReadsRun (operator c.args.table.now) l t in
    let none = rw c.in-None.is at c.in_ok-found.ensures.none in
    no_tree (operator c.args.table.now) c.as_slice-tokens.result.now (none (number_in c.read_cells.new.names) (agrees c.read_cells.new.names c.are_distinct.ensures)) t (subst P (sym c.as_slice-tokens.ensures) r)

pub returns-in_ok-var_names-in-Some-clause-ok : goal.returns-in_ok-var_names-in-Some-clause-ok
returns-in_ok-var_names-in-Some-clause-ok c =
    let b = (goal.at.returns-in_ok-var_names-in-Some-clause-ok c).After-as_slice-in-Some in
    let t = term_reads (operator c.args.table.now) c.as_slice-tokens.result.now c.read_cells.new.names c.in_ok-prefix-in-Some.prefix.items (found b) c.in_ok-term-in-Some.term (c.in_ok-term-in-Some.ensures ∙ c.as_slice-in-Some.ensures.value) in
    let P : List Token → Type 0 = λ l. ReadsRun (operator c.args.table.now) l (texts_of c.read_cells.new.names c.in_ok-term-in-Some.term) in
    subst P c.as_slice-tokens.ensures t

pub returns-in_ok-var_names-in-Some-clause-within : goal.returns-in_ok-var_names-in-Some-clause-within
returns-in_ok-var_names-in-Some-clause-within c =
    term_within (operator c.args.table.now) c.as_slice-tokens.result.now c.read_cells.new.names c.in_ok-prefix-in-Some.prefix.items (found (goal.at.returns-in_ok-var_names-in-Some-clause-within c).After-as_slice-in-Some) c.in_ok-term-in-Some.term (c.in_ok-term-in-Some.ensures ∙ c.as_slice-in-Some.ensures.value)
