use Rattle.std.proofs.Common.{arith}
use Rattle.pl_unify.specs.State.{tree_at}
use Rattle.pl_unify.proofs.StoreLaws.{arity-root}
use Rattle.test_store.proofs.tests.places.takes.Goals as goal

pub head_of-requires-clause-places : goal.head_of-requires-clause-places
head_of-requires-clause-places c =
    omega (arith, arity-root (tree_at c.args.store.now.state c.args.goal) c.in-Comp.field-0 c.in-Comp.count c.in-Comp.ensures, c.arguments-first.ensures.places, c.arity.ensures, c.if-count-arity.false)
