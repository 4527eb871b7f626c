use Rattle.std.proofs.Common.{◌≡◌, drop}
use Rattle.unit_format.specs.Rules.{bits, marks_in, no_marks, accepts_by, accepted_by}
use Rattle.unit_format.proofs.operators.accepts.Given as goal

abbrev pub invariant-loop-op : goal.invariant-loop-op
invariant-loop-op l =
    accepts_by l.names (marks_in (bits l.standard) l.declared.infixes.marks.entries) (marks_in no_marks l.declared.postfixes.marks.entries) (drop l.op-index l.ops)
    ≡ accepted_by l.names (bits l.standard) l.ops
