use Rattle.std.proofs.Common.{subst}
use Rattle.pl_atoms.specs.Names.{same_text, AreDistinct}
use Rattle.pl_atoms.proofs.Texts.{IsDistinct-map}
use Rattle.pl_atoms.proofs.names.Names.len.Goals as goal

pub returns-clause-distinct : goal.returns-clause-distinct
returns-clause-distinct c = subst AreDistinct c.self.view_is (IsDistinct-map _ same_text _ c.len.ensures.unique)
