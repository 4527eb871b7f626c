use Rattle.std.proofs.Common.{◌≡◌, ◌∙◌, ◌-◌, ◌∷◌, [], suc, arith, ap, subst, reverse}
use Rattle.std.proofs.lemmas.List.{reverse-append}
use Rattle.pl_builtins.specs.Ordered.{ArgumentsOn}
use Rattle.pl_builtins.proofs.Ordering.{arguments-more, arguments-none}
use Rattle.pl_builtins.proofs.order.push_arguments.Goals as goal

pub loop-rest-init : goal.loop-rest-init
loop-rest-init c = record {
  few = omega arith;
  on = arguments-none c.args.store.now.state c.args.left c.args.right c.args.count (reverse c.args.work.now.items) c.requires.left c.requires.right;
}

pub loop-rest-preserved : goal.loop-rest-preserved
loop-rest-preserved c =
    let one : c.loop-rest.rest ≡ suc (c.loop-rest.rest - 1) = omega arith in
    record {
      few = omega arith;
      on = arguments-more c.args.store.now.state c.args.left c.args.right c.arg.result c.arg-in-loop-rest.result (c.loop-rest.rest - 1) c.args.count (reverse c.args.work.now.items) (reverse c.loop-rest.work.items) (reverse c.push_pair.new.work.items)
          c.requires.left c.requires.right (omega arith) c.arg.ensures.place c.arg.ensures.tree c.arg-in-loop-rest.ensures.place c.arg-in-loop-rest.ensures.tree
          (ap reverse c.in_ok-push_pair.ensures ∙ reverse-append c.loop-rest.work.items ((c.arg.result, c.arg-in-loop-rest.result) ∷ []))
          (subst (λ k. ArgumentsOn c.args.store.now.state c.args.left c.args.right k (reverse c.args.work.now.items) (reverse c.loop-rest.work.items)) one c.loop-rest.invariant.on);
    }
