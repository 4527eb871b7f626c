use Rattle.naming_laws.proofs.TextRun.{runs-by-texts}
use Rattle.naming_laws.proofs.laws.runs_by_texts.Goals as goal

pub returns : goal.returns
returns c = runs-by-texts
