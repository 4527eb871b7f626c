use Rattle.std.proofs.Common.{◌≡◌, suc, ◌+◌, ◌++◌, ◌∷◌, [], ap, ◌∙◌, arith, append_assoc}
use Rattle.pl_reader.specs.Standing.{dots}
use Rattle.pl_reader.proofs.Contexts.{dots-more}
use Rattle.pl_terms.specs.declared.cell.Cell.TheVariants.{Comp}
use Rattle.pl_reader.proofs.machine.push_dots.Goals as goal

pub loop-preserved : goal.loop-preserved
loop-preserved c =
    let e : suc c.loop.counter ≡ c.loop.counter + 1 = omega arith in
    c.in_ok-push.ensures.items ∙ ap (λ l. l ++ Comp c.args.dot 2 ∷ []) c.loop.invariant ∙ append_assoc c.args.out.now.items (dots c.args.dot c.loop.counter) (Comp c.args.dot 2 ∷ [])
    ∙ ap (λ l. c.args.out.now.items ++ l) (dots-more (λ s. 0) c.args.dot c.loop.counter ∙ ap (dots c.args.dot) e)
