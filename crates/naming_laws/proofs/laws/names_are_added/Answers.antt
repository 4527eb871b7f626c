use Rattle.naming_laws.proofs.Tables.{names-are-added}
use Rattle.naming_laws.proofs.laws.names_are_added.Goals as goal

pub returns : goal.returns
returns c = names-are-added
