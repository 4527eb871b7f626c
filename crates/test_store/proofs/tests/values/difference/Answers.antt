use Rattle.std.proofs.Common.{◌∙◌, pos, [], ◌∷◌, ◌++◌, ap, sym}
use Rattle.pl_terms.specs.Cells.{tree_of}
use Rattle.pl_terms.specs.Forest.{tree_of-cells}
use Rattle.pl_terms.specs.declared.cell.Cell.TheVariants as C
use Rattle.test_store.proofs.tests.values.difference.Goals as goal

pub returns : goal.returns
returns c =
    sym (tree_of-cells c.end_whole.result)
    ∙ ap tree_of (c.end_whole.ensures
    ∙ c.in_ok-push-3.ensures.ok
    ∙ ap (λ l. l ++ C.Int (pos 5) ∷ []) (c.in_ok-push-2.ensures.ok
    ∙ ap (λ l. l ++ C.Int (pos 3) ∷ []) (c.in_ok-push.ensures.ok
    ∙ ap (λ l. l ++ C.Comp c.args.minus 2 ∷ []) c.new-cells.ensures)))
