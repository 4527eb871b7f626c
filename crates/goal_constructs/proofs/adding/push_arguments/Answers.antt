use Rattle.std.proofs.Common.{◌+◌, arith}
use Rattle.pl_terms.specs.Trees.{count}
use Rattle.pl_unify.specs.State.{tree_at}
use Rattle.goal_constructs.proofs.CallingLaws.{pushed-more, pushed-all}
use Rattle.goal_constructs.proofs.adding.push_arguments.Goals as goal

pub loop-k-preserved : goal.loop-k-preserved
loop-k-preserved c =
    let s = c.args.store.now.state in
    pushed-more s c.args.parts.now.items (tree_at s c.args.at) c.args.start c.loop-k.parts.items c.push.new.list.items c.loop-k.k (c.loop-k.k + 1) c.arg.result c.loop-k.invariant
    (omega (arith, c.arity_of-count.ensures.count)) (omega arith) c.arg.ensures.place c.arg.ensures.tree c.in_ok-push.ensures.ok

pub returns : goal.returns
returns c =
    let s = c.args.store.now.state in
    pushed-all s c.args.parts.now.items (tree_at s c.args.at) c.args.start c.loop-k.parts.items c.loop-k.k c.loop-k.invariant (omega (arith, c.arity_of-count.ensures.count))
