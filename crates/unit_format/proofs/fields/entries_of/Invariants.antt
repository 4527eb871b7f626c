use Rattle.std.proofs.Common.{◌≡◌, ◌-◌, map}
use Rattle.unit_model.specs.Views.{entry_view}
use Rattle.unit_format.specs.Reading.{items_at, entry_at}
use Rattle.unit_format.proofs.Loop.{with_front}
use Rattle.unit_format.proofs.fields.entries_of.Given as goal

abbrev pub invariant-loop : goal.invariant-loop
invariant-loop l = with_front (map entry_view l.items) (items_at entry_at (l.count - l.counter) l.rest) ≡ items_at entry_at l.count l.bytes
