use Rattle.std.proofs.Common.{◌≡◌, drop}
use Rattle.std.specs.List.{filter_map}
use Rattle.unit_format.specs.Rules.{bits, marks_in, no_marks, accepts_by, accepted_by, op_in}
use Rattle.unit_format.proofs.operators.accepts_entries.Given as goal

abbrev pub invariant-loop-entry : goal.invariant-loop-entry
invariant-loop-entry l =
    accepts_by l.names (marks_in (bits l.standard) l.declared.infixes.marks.entries) (marks_in no_marks l.declared.postfixes.marks.entries) (filter_map op_in (drop l.entry-index l.entries))
    ≡ accepted_by l.names (bits l.standard) (filter_map op_in l.entries)
