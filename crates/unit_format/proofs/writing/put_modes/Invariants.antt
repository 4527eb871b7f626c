use Rattle.std.proofs.Common.{◌≡◌, ◌++◌, take, map}
use Rattle.unit_model.specs.Encoding.{mode_byte}
use Rattle.unit_format.proofs.writing.put_modes.Given as goal

abbrev pub invariant-loop-mode : goal.invariant-loop-mode
invariant-loop-mode l = l.out ≡ l.initial.out ++ map mode_byte (take l.mode-index l.modes)
