use Rattle.std.proofs.Common.{◌-◌, ◌^◌}
use Rattle.mod_visible.specs.Takers.{takers_in}
use Rattle.mod_visible.proofs.SpreadLaws.{IsClosing}
use Rattle.mod_visible.proofs.closing.Closing.close.Given as goal

abbrev pub invariant-loop-at : goal.invariant-loop-at
invariant-loop-at l = IsClosing (takers_in l.takers.links.items) l.fn.self.found.keys l.fn.self.causes.items l.self.found.keys l.self.causes.items l.at

abbrev pub decreases-loop-at : goal.decreases-loop-at
decreases-loop-at l = 2 ^ 64 - l.at
