use Rattle.std.proofs.Common.{sym, ap, ◌∙◌, subst}
use Rattle.pl_terms.specs.Cells.{cells, IsTerm}
use Rattle.pl_terms.proofs.Forest.{cells-tree_of}
use Rattle.pl_terms.proofs.term.Term.cells.Goals as goal

pub returns-clause-same : goal.returns-clause-same
returns-clause-same c = c.as_slice.ensures.value ∙ sym (cells-tree_of _ c.self.invariant) ∙ ap cells c.self.view_is

pub returns-clause-whole : goal.returns-clause-whole
returns-clause-whole c = subst IsTerm (sym c.as_slice.ensures.value) c.self.invariant
