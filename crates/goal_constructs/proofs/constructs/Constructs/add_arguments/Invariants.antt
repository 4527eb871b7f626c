use Rattle.std.proofs.Common.{reverse}
use Rattle.unifier_model.specs.Substitution.{size}
use Rattle.pl_unify.specs.State.{tree_at}
use Rattle.goal_constructs.specs.Calling.{Inner}
use Rattle.goal_constructs.proofs.constructs.Constructs.add_arguments.Given as goal

abbrev pub invariant-loop-front : goal.invariant-loop-front
invariant-loop-front l = Inner l.self l.store.state (tree_at l.store.state l.fn.term) (reverse l.modules.items) l.inner

abbrev pub decreases-loop-front : goal.decreases-loop-front
decreases-loop-front l = size (tree_at l.store.state l.inner)
