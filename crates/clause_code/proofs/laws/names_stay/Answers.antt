use Rattle.clause_code.proofs.NameLaws.{NamesBelow-raise, NamesBelow-apply, BoundNamed-append, Solved-named, mgu-named}
use Rattle.clause_code.proofs.laws.names_stay.Goals as goal

pub returns : goal.returns
returns c = record {
  unifier = mgu-named;
  solved = λ k es bs h d. Solved-named k d h;
  join = BoundNamed-append;
  apply = NamesBelow-apply;
  raise = NamesBelow-raise;
}
