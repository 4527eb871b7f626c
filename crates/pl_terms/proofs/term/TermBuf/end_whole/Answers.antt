use Rattle.std.proofs.Common.{◌∙◌, sym, subst}
use Rattle.pl_terms.specs.Cells.{IsTerm}
use Rattle.pl_terms.proofs.Forest.{cells-tree_of}
use Rattle.pl_terms.proofs.term.TermBuf.end_whole.Goals as goal

pub returns : goal.returns
returns c = cells-tree_of _ (subst IsTerm (sym c.self.view_is) c.requires) ∙ c.self.view_is
