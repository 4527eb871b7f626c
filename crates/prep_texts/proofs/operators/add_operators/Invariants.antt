use Rattle.prep_texts.proofs.OperatorLaws.{Adding}
use Rattle.prep_texts.proofs.operators.add_operators.Given as goal

abbrev pub invariant-adding : goal.invariant-adding
invariant-adding l = Adding l.initial.table l.table l.operators l.declared-index
