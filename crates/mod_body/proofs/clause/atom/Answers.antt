use Rattle.std.proofs.Common.{◌++◌, ◌∷◌, [], ap, ◌∙◌}
use Rattle.pl_terms.specs.Trees.{atom}
use Rattle.pl_terms.specs.declared.cell.Cell.TheVariants.{Name}
use Rattle.mod_body.proofs.Steps.{same_cells}
use Rattle.mod_body.proofs.clause.atom.Goals as goal

pub returns : goal.returns
returns c =
    same_cells c.end_whole.result (atom c.args.name.0) (c.end_whole.ensures ∙ c.in_ok-push.ensures.ok ∙ ap (λ l. l ++ Name c.args.name ∷ []) c.in_ok-out.ensures)
