use Rattle.builtin_model.proofs.TextLaw.{deed-texts}
use Rattle.builtin_model.proofs.laws.text_law.Goals as goal

pub returns : goal.returns
returns c = deed-texts
