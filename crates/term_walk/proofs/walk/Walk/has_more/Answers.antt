use Rattle.std.proofs.Common.{◌<◌, ◌↔◌, IsTrue, not, subst}
use Rattle.pl_terms.specs.Trees.{count}
use Rattle.term_walk.proofs.Walking.{has_more-is}
use Rattle.term_walk.proofs.walk.Walk.has_more.Goals as goal

pub returns : goal.returns
returns c = subst (λ ts. IsTrue (not c.is_empty.result) ↔ (0 < count ts)) c.self.view_is (has_more-is _ c.is_empty.result c.is_empty.ensures)
