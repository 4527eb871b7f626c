use Rattle.std.proofs.Common.{sym, ◌+◌, drop}
use Rattle.std.specs.List.{filter_map}
use Rattle.unit_format.specs.Rules.{bits, no_marks, op_in}
use Rattle.unit_format.proofs.SetLaws.{accepts_by-same, entries_stop}
use Rattle.unit_format.proofs.operators.accepts_entries.Goals as goal

pub loop-entry-init : goal.loop-entry-init
loop-entry-init c = accepts_by-same c.args.names.now (filter_map op_in c.args.entries.now) _ _ _ _ (c.new_declared-declared.ensures.infixes (bits c.args.standard.now)) (c.new_declared-declared.ensures.postfixes no_marks)

pub returns-then-not-branch : goal.returns-then-not-branch
returns-then-not-branch c =
    entries_stop c.args.names.now _ _ c.args.entries.now c.loop-entry.entry-index _ _ c.loop-entry-test.true (sym c.entry-item.is) (c.in_ok-accept_entry.ensures.refused c.if-not-branch.true (filter_map op_in (drop (c.loop-entry.entry-index + 1) c.args.entries.now))) c.loop-entry.invariant
