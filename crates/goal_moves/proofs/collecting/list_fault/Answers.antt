use Rattle.std.proofs.Common.{subst}
use Rattle.pl_unify.specs.State.{tree_at}
use Rattle.builtin_model.specs.Lists.{listing}
use Rattle.goal_model.specs.Table.{list_fault}
use Rattle.goal_model.specs.Rows.{arity_of}
use Rattle.goal_constructs.specs.Balls.{IsFault}
use Rattle.goal_state.specs.Denotation.{naming, state_of}
use Rattle.goal_moves.proofs.collecting.list_fault.Goals as goal

pub returns-clause-ball : goal.returns-clause-ball
returns-clause-ball c =
    let n = naming c.args.compiled.now in
    let t = tree_at (state_of c.args.path.now) c.args.list in
    subst (λ f. IsFault c.list_ball.new.store.state (list_fault n (listing n t) t f (arity_of n (tree_at (state_of c.args.path.now) c.args.active.goal))) t c.in_ok-fault.fault) c.construct_of-arity.ensures.name
    (subst (λ k. IsFault c.list_ball.new.store.state (list_fault n (listing n t) t c.construct_of-arity.result.0.0 k) t c.in_ok-fault.fault) c.construct_of-arity.ensures.arity
    (c.in_ok-fault.ensures.ball n c.requires.compiled.constructs))
