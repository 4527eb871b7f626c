use Rattle.std.proofs.Common.{◌<◌, get_or, arith, below_more}
use Rattle.std.proofs.lemmas.List.Elements.{All-from_get_or}
use Rattle.pl_terms.specs.declared.cell.Cell.TheVariants.{Var}
use Rattle.writing_laws.specs.Ranges.{IsRanged}
use Rattle.writing_laws.proofs.all_ranged.Goals as goal

pub loop-cell-preserved : goal.loop-cell-preserved
loop-cell-preserved c = below_more (λ k. IsRanged (get_or c.args.cells.now k (Var 0))) c.loop-cell.cell-index c.loop-cell.invariant c.ranged.ensures

pub returns : goal.returns
returns c = All-from_get_or IsRanged c.args.cells.now (Var 0) (λ i h. c.loop-cell.invariant i (let lt : i < c.loop-cell.cell-index = omega arith in lt))
