use Rattle.clause_code.proofs.HeadLaws.{new-stays}
use Rattle.clause_code.proofs.laws.new_terms_stay.Goals as goal

pub returns : goal.returns
returns c = new-stays
