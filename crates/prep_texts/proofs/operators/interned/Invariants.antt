use Rattle.prep_texts.proofs.OperatorLaws.{Interning}
use Rattle.prep_texts.proofs.operators.interned.Given as goal

abbrev pub invariant-interning : goal.invariant-interning
invariant-interning l = Interning l.initial.names l.names l.ops l.operators l.operator-index
