use Rattle.std.proofs.Common.{◌≡◌, ◌<◌, length, ℕ}
use Rattle.clause_code.specs.Targets.{IsLed, led_at}
use Rattle.clause_code.proofs.targets.Targets.of.Given as goal

abbrev pub invariant-loop-number : goal.invariant-loop-number
invariant-loop-number l = record {
  count : length l.list.items ≡ l.number;
  each : (n : ℕ) → n < l.number → IsLed l.constructs l.tables l.codes n (led_at l.list.items n);
}
