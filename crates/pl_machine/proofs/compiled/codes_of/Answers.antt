use Rattle.std.proofs.Common.{subst}
use Rattle.builtin_model.specs.Naming.{by_numbers}
use Rattle.clause_code.specs.Codes.{IsCodes}
use Rattle.pl_machine.proofs.compiled.codes_of.Goals as goal

pub of-requires-clause-control : goal.of-requires-clause-control
of-requires-clause-control c = c.control.ensures.control (by_numbers c.args.names.now) c.requires.constructs

pub of-requires-2-clause-owners : goal.of-requires-2-clause-owners
of-requires-2-clause-owners c = λ i lt. (c.requires.linked.clauses i lt).procedure

pub of-requires-2-clause-codes : goal.of-requires-2-clause-codes
of-requires-2-clause-codes c = subst (λ s. IsCodes s c.args.tables.now.clauses c.in_ok-codes.codes) c.control.ensures.names c.in_ok-codes.ensures

pub returns-clause-codes : goal.returns-clause-codes
returns-clause-codes c = subst (λ s. IsCodes s c.args.tables.now.clauses c.in_ok-codes.codes) c.control.ensures.names c.in_ok-codes.ensures
