use Rattle.std.proofs.Common.{take}
use Rattle.goal_moves.proofs.CopyLaws.{Copied}
use Rattle.goal_moves.proofs.collecting.copies_of.Given as goal

abbrev pub invariant-loop-term : goal.invariant-loop-term
invariant-loop-term l = Copied l.initial.store.state l.store.state l.places.items (take l.term-index l.terms)
