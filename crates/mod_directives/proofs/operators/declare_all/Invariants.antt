use Rattle.std.proofs.Common.{take, drop}
use Rattle.pl_terms.specs.Order.{text_of}
use Rattle.mod_directives.specs.Operators.{texts}
use Rattle.mod_directives.proofs.Declaring.{Going}
use Rattle.mod_directives.proofs.operators.declare_all.Given as goal

abbrev pub invariant-loop-id : goal.invariant-loop-id
invariant-loop-id l = Going l.names l.declared l.initial.table (texts (text_of l.names) (take l.id-index l.ids)) (texts (text_of l.names) (drop l.id-index l.ids)) l.table l.entries
