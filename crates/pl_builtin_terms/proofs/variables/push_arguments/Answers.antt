use Rattle.std.proofs.Common.{◌∙◌, ◌-◌, ap, reverse, arith}
use Rattle.pl_unify.specs.State.{tree_at}
use Rattle.pl_builtin_terms.proofs.Walks.{arguments-none, arguments-on, reverse-push}
use Rattle.pl_builtin_terms.proofs.variables.push_arguments.Goals as goal

pub loop-left-init : goal.loop-left-init
loop-left-init c = record { few = omega arith; on = arguments-none c.args.store.now.state (tree_at c.args.store.now.state c.args.place) c.args.count (reverse c.args.work.now.items) c.requires.count }

pub loop-left-preserved : goal.loop-left-preserved
loop-left-preserved c = record {
  few = omega arith;
  on = arguments-on c.args.store.now.state (tree_at c.args.store.now.state c.args.place) (c.loop-left.left - 1) c.loop-left.left (reverse c.args.work.now.items) (reverse c.loop-left.work.items) _ c.arg.result
      (omega (arith, c.requires.count)) (omega arith) c.loop-left.invariant.on (ap reverse c.in_ok-push.ensures.items ∙ reverse-push c.loop-left.work.items c.arg.result) c.arg.ensures.place c.arg.ensures.tree;
}
