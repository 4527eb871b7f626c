use Rattle.pl_builtin_ends.proofs.Kept.{Grown, texts_in, procedures_in}
use Rattle.pl_builtin_ends.proofs.made.add_names.Given as goal

abbrev pub invariant-loop-text : goal.invariant-loop-text
invariant-loop-text l = Grown l.initial.names l.names (texts_in l.text-items) l.text-index

abbrev pub invariant-loop-procedure : goal.invariant-loop-procedure
invariant-loop-procedure l = Grown l.initial.names l.names (procedures_in l.procedure-items) l.procedure-index
