use Rattle.std.proofs.Common.{◌≡◌, ◌<◌, length, sym, subst}
use Rattle.pl_store.specs.Linked.{Linked, procedure_at}
use Rattle.test_runs.proofs.Entered.{is_fact}
use Rattle.test_runs.proofs.tests.facts.enter_fact.Goals as goal

pub add_clause-requires-clause-procedure : goal.add_clause-requires-clause-procedure
add_clause-requires-clause-procedure c = c.requires.there

pub add_clause-requires-clause-clause : goal.add_clause-requires-clause-clause
add_clause-requires-clause-clause c =
    is_fact c.args.program.now c.args.proc.0 c.args.name.0 c.args.truth.0 _ c.in_ok-head.head c.in_ok-body.body c.requires.its
    (c.has_name.ensures c.if-not-has_name.false) (c.has_name-2.ensures c.if-not-has_name-2.false) c.in_ok-head.ensures c.in_ok-body.ensures

pub returns-clause-still_there : goal.returns-clause-still_there
returns-clause-still_there c =
    subst (λ (l : Linked). c.args.proc.0 < length l.procedures) (sym c.in_ok-add_clause.ensures.ok) c.requires.there

pub returns-clause-still_its : goal.returns-clause-still_its
returns-clause-still_its c =
    subst (λ (l : Linked). (procedure_at l c.args.proc.0).indicator ≡ record { name = c.args.name.0; arity = 1 }) (sym c.in_ok-add_clause.ensures.ok) c.requires.its
