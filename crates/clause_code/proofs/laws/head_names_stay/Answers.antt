use Rattle.clause_code.proofs.NameLaws.{took-named}
use Rattle.clause_code.proofs.laws.head_names_stay.Goals as goal

pub returns : goal.returns
returns c = took-named
