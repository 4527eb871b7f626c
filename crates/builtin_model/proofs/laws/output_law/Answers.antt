use Rattle.builtin_model.proofs.TextLaw.{output-texts}
use Rattle.builtin_model.proofs.laws.output_law.Goals as goal

pub returns : goal.returns
returns c = output-texts
