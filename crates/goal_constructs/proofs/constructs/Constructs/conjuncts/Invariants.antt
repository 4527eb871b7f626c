use Rattle.std.proofs.Common.{◌+◌, reverse}
use Rattle.unifier_model.specs.Substitution.{size}
use Rattle.pl_unify.specs.State.{tree_at}
use Rattle.goal_code.specs.Shapes.{conjuncts}
use Rattle.goal_constructs.specs.Conjuncts.{UnderWay, nodes_at}
use Rattle.goal_constructs.proofs.constructs.Constructs.conjuncts.Given as goal

abbrev pub invariant-goals : goal.invariant-goals
invariant-goals l = UnderWay l.self.names.control l.store.state l.initial.out.items l.out.items l.at (reverse l.stack.items) (conjuncts l.self.names.control (tree_at l.store.state l.fn.term))

abbrev pub decreases-goals : goal.decreases-goals
decreases-goals l = size (tree_at l.store.state l.at) + nodes_at l.store.state (reverse l.stack.items)
