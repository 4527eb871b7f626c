use Rattle.std.proofs.Common.{◌≡◌, ◌+◌, ◌-◌, ℕ, length, get_or}
use Rattle.pl_unify.proofs.store.notes.fill.Given as goal

abbrev pub invariant-loop-ground : goal.invariant-loop-ground
invariant-loop-ground l = (p : ℕ) → get_or l.ground.items p 0 ≡ get_or l.initial.ground.items p 0

abbrev pub decreases-loop-ground : goal.decreases-loop-ground
decreases-loop-ground l = (l.place + 1) - length l.ground.items
