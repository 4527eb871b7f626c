use Rattle.std.proofs.Common.{◌≡◌, ℕ}
use Rattle.pl_machine.specs.Machine.{IsMachine}
use Rattle.pl_machine.specs.Running.{Outcomes, Remains, with_left}
use Rattle.pl_machine.specs.Parts.{Kept}
use Rattle.pl_machine.proofs.machine.Machine.settle.Given as goal

abbrev pub invariant-parts : goal.invariant-parts
invariant-parts l = record {
  machine : IsMachine l.self;
  kept : Kept l.fn.self l.self l.fn.text l.text;
  others : l.self ≡ record l.fn.self { path = l.self.path; going = l.self.going; answers = l.self.answers };
  remains : (r : Outcomes) → Remains l.fn.self r → Remains l.self r;
  further : (left : ℕ) (r : Outcomes) → Remains (with_left l.fn.self left) r → Remains (with_left l.self left) r;
}
