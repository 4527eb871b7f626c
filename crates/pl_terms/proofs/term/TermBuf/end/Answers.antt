use Rattle.std.proofs.Common.{◌≡◌, ◌∙◌, sym, subst, All}
use Rattle.pl_terms.specs.Cells.{cells, IsTerm, IsCell}
use Rattle.pl_terms.proofs.Forest.{cells-tree_of}
use Rattle.pl_terms.proofs.Whole.{IsTerm-cells}
use Rattle.pl_terms.proofs.term.TermBuf.end.Goals as goal

pub returns-then-is_term-clause-ok : goal.returns-then-is_term-clause-ok
returns-then-is_term-clause-ok c =
    cells-tree_of _ (subst IsTerm c.as_slice.ensures.value (c.is_term.ensures.0 c.if-is_term.true)) ∙ c.self.view_is

pub returns-else-is_term-clause-no_term : goal.returns-else-is_term-clause-no_term
returns-else-is_term-clause-no_term c = λ t e.
    let same : cells t ≡ c.as_slice.result.now = e ∙ sym c.self.view_is ∙ sym c.as_slice.ensures.value in
    let all : All IsCell (cells t) = subst (All IsCell) (sym (e ∙ sym c.self.view_is)) c.self.invariant in
    let yes = c.is_term.ensures.1 (subst IsTerm same (IsTerm-cells t all)) in
    cc
