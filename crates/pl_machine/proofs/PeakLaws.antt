-- What an activation leaves untried.
use Rattle.std.proofs.Common.{◌≡◌, ◌∙◌, ap}
use Rattle.pl_store.specs.Runs.{program_of}
use Rattle.goal_state.specs.declared.path.Path.{Path}
use Rattle.goal_state.specs.Denotation.{linked, items_here, world_here}
use Rattle.goal_moves.specs.Untried.{items_leave}
use Rattle.pl_machine.specs.declared.machine.Machine.{Machine}
use Rattle.pl_machine.specs.Moving.{first_leaves}
use Rattle.pl_machine.proofs.FrontLaws.{Placed}

-- another place with the same items
pub placed_leaves : (m : Machine) (q : Path) → Placed m.compiled m.path q → first_leaves (record m { path = q }) ≡ first_leaves m
placed_leaves m q placed =
    let b = m.compiled in
    ap (λ (r : Path). items_leave b r.depth (items_here b q q.f q.pc) (world_here b r) (program_of (linked b)).clauses) placed.others
    ∙ ap (λ items. items_leave b m.path.depth items (world_here b m.path) (program_of (linked b)).clauses) placed.items
