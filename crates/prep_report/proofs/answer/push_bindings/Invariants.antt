use Rattle.std.proofs.Common.{◌≡◌, ◌++◌, drop, false}
use Rattle.pl_ops.specs.Tables.{operator}
use Rattle.prep_report.specs.Lines.{bindings_text}
use Rattle.prep_report.proofs.answer.push_bindings.Given as goal

abbrev pub invariant-loop-binding : goal.invariant-loop-binding
invariant-loop-binding l =
    l.fn.line ++ bindings_text (operator l.table) l.names false l.bindings
    ≡ l.line ++ bindings_text (operator l.table) l.names l.some (drop l.binding-index l.bindings)
