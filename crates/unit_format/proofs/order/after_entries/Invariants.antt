use Rattle.unit_format.specs.Counting.{counted_within}
use Rattle.unit_format.specs.Uses.{entry_uses}
use Rattle.std.specs.List.{flat_map}
use Rattle.unit_format.proofs.CountLoop.{Left}
use Rattle.unit_format.proofs.order.after_entries.Given as goal

abbrev pub invariant-loop-entry : goal.invariant-loop-entry
invariant-loop-entry l = Left entry_uses l.limit l.next l.entry-index l.entries (counted_within l.limit l.fn.next (flat_map entry_uses l.entries))
