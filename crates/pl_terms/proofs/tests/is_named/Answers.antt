use Rattle.std.proofs.Common.{All, subst}
use Rattle.std.proofs.lemmas.List.{take_all}
use Rattle.std.proofs.lemmas.List.Elements.{All-more}
use Rattle.pl_terms.specs.NameBounds.{NameBelow}
use Rattle.pl_terms.specs.declared.cell.Cell.TheVariants.{Var}
use Rattle.pl_terms.proofs.CellOrder.{NamesBelow-All}
use Rattle.pl_terms.proofs.tests.is_named.Goals as goal

pub loop-item-preserved : goal.loop-item-preserved
loop-item-preserved c =
    All-more (NameBelow c.args.limit) c.cells-items.result.now c.loop-item.item-index (Var 0) c.loop-item-test.true c.loop-item.invariant (c.is_below.ensures.0 c.if-not-is_below.false)

pub returns : goal.returns
returns c =
    λ ok. NamesBelow-All c.args.limit c.cells-items.result.now c.args.term.now c.cells-items.ensures.same (subst (All (NameBelow c.args.limit)) (take_all c.loop-item.item-index _ c.loop-item-test.false) c.loop-item.invariant)
