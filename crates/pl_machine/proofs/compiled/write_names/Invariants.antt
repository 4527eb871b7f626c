use Rattle.pl_builtin_ends.proofs.Kept.{texts_in}
use Rattle.pl_machine.proofs.NamesLaws.{Put}
use Rattle.pl_machine.proofs.compiled.write_names.Given as goal

abbrev pub invariant-loop-text : goal.invariant-loop-text
invariant-loop-text l = Put l.initial.names l.names (texts_in l.text-items) l.text-index
