use Rattle.std.proofs.Common.{◌≡◌, ◌-◌}
use Rattle.unit_format.specs.Reading.{items_at, flag_at}
use Rattle.unit_format.proofs.Loop.{with_front}
use Rattle.unit_format.proofs.fields.flags_of.Given as goal

abbrev pub invariant-loop : goal.invariant-loop
invariant-loop l = with_front l.items (items_at flag_at (l.count - l.counter) l.rest) ≡ items_at flag_at l.count l.bytes
