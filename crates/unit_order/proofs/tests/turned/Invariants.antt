use Rattle.std.proofs.Common.{◌≡◌, ◌-◌, []}
use Rattle.unit_order.specs.Numbering.{all_noted, down_from}
use Rattle.unit_order.proofs.tests.turned.Given as goal

abbrev pub invariant-loop-place : goal.invariant-loop-place
invariant-loop-place l = all_noted l.used (down_from (l.count - l.place)) ≡ all_noted [] (down_from l.count)
