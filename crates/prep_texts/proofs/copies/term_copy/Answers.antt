use Rattle.std.proofs.Common.{sym, ◌∙◌, subst}
use Rattle.pl_terms.specs.Cells.{IsTerm}
use Rattle.prep_texts.proofs.CellLaws.{cell_at, whole_copy, same_tree}
use Rattle.prep_texts.proofs.copies.term_copy.Goals as goal

pub push-requires : goal.push-requires
push-requires c = cell_at _ _ _ c.cells-cells.ensures.whole.whole c.copying-test.true

pub end_whole-requires : goal.end_whole-requires
end_whole-requires c = subst IsTerm (sym (c.copying.invariant ∙ whole_copy _ _ c.copying-test.false)) c.cells-cells.ensures.whole

pub returns : goal.returns
returns c = same_tree _ _ (c.end_whole.ensures ∙ c.copying.invariant ∙ whole_copy _ _ c.copying-test.false ∙ c.cells-cells.ensures.same)
