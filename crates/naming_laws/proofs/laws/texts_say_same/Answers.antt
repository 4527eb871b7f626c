use Rattle.naming_laws.proofs.Tables.{texts-say-same}
use Rattle.naming_laws.proofs.laws.texts_say_same.Goals as goal

pub returns : goal.returns
returns c = texts-say-same
