use Rattle.mod_visible.specs.Takers.{takers_in}
use Rattle.mod_visible.proofs.SpreadLaws.{IsWalked, left_measure}
use Rattle.mod_visible.proofs.closing.Closing.spread.Given as goal

abbrev pub invariant-loop-at : goal.invariant-loop-at
invariant-loop-at l = IsWalked l.fn.source (takers_in l.takers.links.items) l.given l.fn.self.found.keys l.fn.self.causes.items l.self.found.keys l.self.causes.items l.at

abbrev pub decreases-loop-at : goal.decreases-loop-at
decreases-loop-at l = left_measure l.at
