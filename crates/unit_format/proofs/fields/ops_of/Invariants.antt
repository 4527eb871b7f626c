use Rattle.std.proofs.Common.{◌≡◌, ◌-◌}
use Rattle.unit_model.specs.Views.{ops_view}
use Rattle.unit_format.specs.Reading.{items_at, operator_at}
use Rattle.unit_format.proofs.Loop.{with_front}
use Rattle.unit_format.proofs.fields.ops_of.Given as goal

abbrev pub invariant-loop : goal.invariant-loop
invariant-loop l = with_front (ops_view l.items) (items_at operator_at (l.count - l.counter) l.rest) ≡ items_at operator_at l.count l.bytes
