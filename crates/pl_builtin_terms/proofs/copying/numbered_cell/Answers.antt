use Rattle.std.proofs.Common.{◌∙◌, ap, sym}
use Rattle.pl_terms.specs.declared.cell.Cell.TheVariants.{Var}
use Rattle.pl_terms.specs.CellNumbers.{cell_by}
use Rattle.pl_terms.specs.Occurrence.{place_of}
use Rattle.pl_builtin_terms.proofs.Copies.{place-position, place-insert}
use Rattle.pl_builtin_terms.proofs.copying.numbered_cell.Goals as goal

pub returns-in_ok-place-in-Var-clause-cell : goal.returns-in_ok-place-in-Var-clause-cell
returns-in_ok-place-in-Var-clause-cell c =
    ap Var (c.in_ok-place-in-Var.ensures.index ∙ (sym (place-position c.in-Var.number c.args.seen.now.keys) ∙ (sym (place-insert c.in-Var.number c.args.seen.now.keys) ∙ ap (place_of c.in-Var.number) (sym c.in_ok-place-in-Var.ensures.keys))))
    ∙ ap (cell_by (λ n. place_of n c.insert_full.new.self.keys)) (sym c.in-Var.is)
