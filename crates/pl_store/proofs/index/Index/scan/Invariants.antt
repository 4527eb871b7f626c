use Rattle.std.proofs.Common.{◌≡◌, ℕ, length}
use Rattle.pl_store.specs.Places.{next_place}
use Rattle.pl_store.specs.Tags.{is_owned, is_candidate}
use Rattle.pl_store.proofs.IndexLaws.{left}
use Rattle.pl_store.proofs.index.Index.scan.Given as goal

abbrev pub invariant-loop-at : goal.invariant-loop-at
invariant-loop-at l = (k : ℕ) × (l.at ≡ next_place (is_owned l.owner) k l.self.tags) × (next_place (is_candidate l.owner l.class) k l.self.tags ≡ next_place (is_candidate l.owner l.class) l.from l.self.tags)

abbrev pub decreases-loop-at : goal.decreases-loop-at
decreases-loop-at l = left l.at (length l.self.tags)
