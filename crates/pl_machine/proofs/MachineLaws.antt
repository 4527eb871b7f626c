-- Machines that stay in order.
use Rattle.std.proofs.Common.{◌≡◌, ℕ, ◌+◌, ◌^◌, ◌<◌, ◌≤◌, Option, Some, None, true, refl, sym, ap, subst, arith, reverse}
use Rattle.std.specs.List.{All}
use Rattle.pl_unify.specs.State.{Stored, IsStore, Extends}
use Rattle.goal_state.specs.Denotation.{state_of}
use Rattle.goal_state.specs.declared.compiled.CompiledProgram.{CompiledProgram}
use Rattle.goal_state.specs.declared.path.Path.{Path}
use Rattle.goal_state.specs.Well.{IsCompiled, IsWell}
use Rattle.goal_state.proofs.PathLaws.{grown_well}
use Rattle.goal_moves.specs.declared.going.Going.{Going}
use Rattle.pl_machine.specs.declared.machine.Machine.{Machine}
use Rattle.goal_moves.specs.Walking.{Walked}
use Rattle.pl_machine.specs.Machine.{IsMachine}
use Rattle.pl_machine.proofs.FrontLaws.{Placed, placed_well}

-- nothing is there
pub none_of : {A : Type 0} (o : Option A) → ((x : A) → o ≡ Some x → ⊥) → o ≡ None
none_of None h = refl
none_of (Some x) h = absurd (h x refl)

-- a move was made
pub moved_machine : (m : Machine) (p : Path) (g : Going) → IsMachine m → IsWell m.compiled p → p.depth ≤ m.path.depth → p.width ≡ m.path.width → IsMachine (record m { path = p; going = g })
moved_machine m p g h well low width = record {
  compiled = h.compiled;
  table = h.table;
  well = well;
  room = let room = h.room in omega (arith, room, low);
  counted = h.counted;
  answers = h.answers;
  variables = subst (λ w. All (λ v. v.number < w) m.variables.items) (sym width) h.variables;
}

-- an answer was shown
pub answered_machine : (m : Machine) (st : Stored) (answers : ℕ) → IsMachine m → IsStore st.state → Extends (state_of m.path) st.state → answers < 2 ^ 64 → IsMachine (record m { path = record m.path { store = st }; answers = answers })
answered_machine m st answers h store more few =
    let q : Path = record m.path { store = st } in
    record {
      compiled = h.compiled;
      table = h.table;
      well = grown_well m.compiled m.path q refl more (reverse m.path.choices.items) m.path.depth store h.well;
      room = h.room;
      counted = h.counted;
      answers = few;
      variables = h.variables;
    }

-- after a step
pub stepped : (m : Machine) (b : CompiledProgram) (p : Path) (left : ℕ) → IsMachine m → left + 1 ≡ m.left → b ≡ m.compiled → IsWell m.compiled p → p.depth ≤ m.path.depth + 1 → p.width ≡ m.path.width → IsMachine (record m { compiled = b; path = p; left = left })
stepped m b p left h one same well low width = record {
  compiled = subst IsCompiled (sym same) h.compiled;
  table = h.table;
  well = subst (λ l. IsWell l p) (sym same) well;
  room = let room = h.room in omega (arith, room, low, one);
  counted = let counted = h.counted in omega (arith, counted, one);
  answers = h.answers;
  variables = subst (λ w. All (λ v. v.number < w) m.variables.items) (sym width) h.variables;
}

-- a path stands elsewhere, before the same items
pub placed_machine : (m : Machine) (q : Path) → IsMachine m → Placed m.compiled m.path q → IsMachine (record m { path = q })
placed_machine m q h placed =
    moved_machine m q m.going h (placed_well m.compiled m.path q h.well placed) (let same : q.depth ≡ m.path.depth = ap (λ (r : Path). r.depth) placed.others in omega (arith, same)) (ap (λ (r : Path). r.width) placed.others)

-- a path went on
pub walked_machine : (m : Machine) (q : Path) (g : Going) → IsMachine m → Walked m.compiled m.path q → IsMachine (record m { path = q; going = g })
walked_machine m q g h w = moved_machine m q g h w.well (let same = w.depth in omega (arith, same)) w.width

-- the end is noted
pub over_machine : (m : Machine) → IsMachine m → IsMachine (record m { over = true })
over_machine m h = record { compiled = h.compiled; table = h.table; well = h.well; room = h.room; counted = h.counted; answers = h.answers; variables = h.variables }
