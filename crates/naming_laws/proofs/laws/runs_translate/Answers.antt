use Rattle.naming_laws.proofs.RunLaw.{runs-translate}
use Rattle.naming_laws.proofs.laws.runs_translate.Goals as goal

pub returns : goal.returns
returns g c = runs-translate
