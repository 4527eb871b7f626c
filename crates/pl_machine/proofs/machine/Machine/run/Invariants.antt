use Rattle.std.proofs.Common.{◌≡◌, ℕ, ◌≤◌, false}
use Rattle.pl_machine.specs.Machine.{IsMachine}
use Rattle.pl_machine.specs.Running.{Outcomes, Remains, with_left}
use Rattle.pl_machine.proofs.RunLaws.{SoFar}
use Rattle.pl_machine.proofs.BreakLaws.{Far}
use Rattle.pl_machine.proofs.machine.Machine.run.Given as goal

abbrev pub invariant-moves : goal.invariant-moves
invariant-moves g l = record {
  machine : IsMachine l.self;
  over : l.self.over ≡ false;
  so_far : SoFar l.fn.self l.self l.show (g.O.Sink.written l.fn.out) (g.O.Sink.written l.out);
  far : (outcome : ℕ → Outcomes) → ((left : ℕ) → Remains (with_left l.fn.self left) (outcome left)) → (count : ℕ) × Far l.fn.self l.self l.show (g.O.Sink.written l.fn.out) (g.O.Sink.written l.out) outcome count;
  later : g.O.Sink.faults l.fn.out ≤ g.O.Sink.faults l.out;
}
