use Rattle.std.proofs.Common.{◌≡◌, ◌≤◌, ℕ, drop, length}
use Rattle.pl_atoms.specs.CaseTable.{cases_of}
use Rattle.goal_constructs.specs.Numbers.{entry_place}
use Rattle.goal_constructs.specs.Constructs.{place_found}
use Rattle.goal_constructs.proofs.constructs.Rows.of.Given as goal

abbrev pub invariant-loop-left : goal.invariant-loop-left
invariant-loop-left l = record {
  few : l.left ≤ length l.ids;
  found : (f k : ℕ) → place_found l.rows.places.entries f k ≡ entry_place (drop l.left l.ids) (cases_of (drop l.left l.cases)) f k l.left;
}

abbrev pub decreases-loop-left : goal.decreases-loop-left
decreases-loop-left l = l.left
