use Rattle.mod_visible.specs.Finding.{place_cmp, clash_place}
use Rattle.mod_visible.proofs.LoopLaws.{SoFar}
use Rattle.mod_visible.proofs.clash.distinct_clashes.Given as goal

abbrev pub invariant-loop-clash : goal.invariant-loop-clash
invariant-loop-clash l = SoFar place_cmp clash_place l.clashes l.distinct.items l.last l.clash-index
