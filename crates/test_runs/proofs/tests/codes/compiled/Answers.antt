use Rattle.std.proofs.Common.{subst}
use Rattle.builtin_model.specs.Naming.{by_numbers}
use Rattle.clause_code.specs.Codes.{IsCodes}
use Rattle.test_runs.proofs.Facts.{more_names}
use Rattle.test_runs.proofs.tests.codes.compiled.Goals as goal

pub of-requires-2-clause-linked : goal.of-requires-2-clause-linked
of-requires-2-clause-linked c = more_names c.facts_stay.ensures c.args.program c.into_parts-old.result.1 c.into_parts-old.result.0 c.of.new.names c.into_parts-old.ensures.whole c.into_parts-old.ensures.linked c.of.ensures.front c.len-count.ensures.distinct

pub of-requires-2-clause-control : goal.of-requires-2-clause-control
of-requires-2-clause-control c = c.control.ensures.control (by_numbers c.of.new.names) c.in_ok-constructs.ensures.constructs

pub of-requires-3-clause-owners : goal.of-requires-3-clause-owners
of-requires-3-clause-owners c =
    let facts = more_names c.facts_stay.ensures c.args.program c.into_parts-old.result.1 c.into_parts-old.result.0 c.of.new.names c.into_parts-old.ensures.whole c.into_parts-old.ensures.linked c.of.ensures.front c.len-count.ensures.distinct in
    λ i lt. (facts.clauses i lt).procedure

pub of-requires-3-clause-codes : goal.of-requires-3-clause-codes
of-requires-3-clause-codes c = subst (λ s. IsCodes s c.into_parts-old.result.1.clauses c.in_ok-codes.codes) c.control.ensures.names c.in_ok-codes.ensures
