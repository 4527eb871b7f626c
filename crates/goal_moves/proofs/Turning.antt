-- The turns of a goal that is activated, and moves from where they lead.
use Rattle.std.proofs.Common.{◌≡◌, ℕ, ◌+◌, ◌≤◌, List, [], ◌∷◌, refl, sym, ap, ◌∙◌, subst, arith, reverse}
use Rattle.std.specs.Prelude.{nat_eq}
use Rattle.pl_terms.specs.Trees.{Tree}
use Rattle.pl_terms.specs.Occurrence.{canon}
use Rattle.pl_unify.specs.State.{tree_at}
use Rattle.solver_model.specs.Search.{Call, At, Over, Failed, Thrown, Halted, Tries, Opens, PointOf, FrameOf, pops}
use Rattle.solver_model.specs.Configurations.{Configuration, Turns}
use Rattle.solver_model.proofs.TurnLaws.{turns_then, turns_same, turn_call, turn_take, turn_last, turn_ends}
use Rattle.goal_model.specs.Bodies.{Goal}
use Rattle.goal_model.specs.Rows.{Row, name_of, arity_of, row_of}
use Rattle.goal_model.specs.Table.{Items, Moved as Activation, node, on, raised, row, place}
use Rattle.goal_model.proofs.SaneProofs.{table_sane}
use Rattle.pl_store.specs.Runs.{program_of}
use Rattle.goal_state.specs.declared.compiled.CompiledProgram.{CompiledProgram}
use Rattle.goal_state.specs.declared.path.Path.{Path}
use Rattle.goal_state.specs.Denotation.{linked, naming, language_of, state_of, items_here, world_here, frames_on, point_here, search_at}
use Rattle.goal_moves.specs.declared.active.Active.{Active}
use Rattle.goal_moves.specs.declared.going.Going.{Going}
use Rattle.goal_moves.specs.declared.going.Going.TheVariants.{On, Fails, Halts, Uncaught}
use Rattle.goal_moves.specs.Control.{goal_at, activation}
use Rattle.goal_moves.specs.Moves.{Stays, goal_items, called, thrown, Moved}
use Rattle.goal_moves.proofs.Steady.{Steady, well_deeper}

-- a search at a point, over frames
abbrev pub at_point : (b : CompiledProgram) → PointOf (language_of b) → ℕ → List (FrameOf (language_of b)) → Configuration (language_of b)
at_point b point left fs = record { point = point; left = left; clauses = (program_of (linked b)).clauses; frames = fs }

-- the records of a path, as frames
abbrev pub stack_of : (b : CompiledProgram) → Path → List (FrameOf (language_of b))
stack_of b p = frames_on b p (reverse p.choices.items)

-- a goal that stands first in a node of this depth, and what follows it
module _ (b : CompiledProgram) (old : Path) (e : ℕ) (g : Goal ℕ) (after : Items ℕ) where
  -- it leads to a point, whatever the steps left
  abbrev pub GoalReaches : PointOf (language_of b) → List (FrameOf (language_of b)) → Type 0
  GoalReaches point fs = (left : ℕ) → Turns (language_of b) (called b old e (Call g ∷ after) left) (at_point b point left fs)

  abbrev pub goal_does : Activation ℕ
  goal_does = (language_of b).activate e g after (world_here b old) (program_of (linked b)).clauses

  -- what the goal does, where its row is known
  abbrev pub goal_done_by : Row ℕ → Activation ℕ
  goal_done_by r = row (naming b) nat_eq (program_of (linked b)) e g (name_of (naming b) g.tree) (arity_of (naming b) g.tree) after (world_here b old) (program_of (linked b)).clauses r

  pub goal_acts : (r : Row ℕ) → row_of (naming b) g.tree ≡ r → goal_does ≡ goal_done_by r
  goal_acts r is = ap goal_done_by is

  pub goal_opens : (p : PointOf (language_of b)) (f : FrameOf (language_of b)) → goal_does ≡ Opens [] p f → GoalReaches p (f ∷ stack_of b old)
  goal_opens p f is left =
      turn_call (language_of b) e left (world_here b old) (program_of (linked b)).clauses g after (stack_of b old) p f is
      (table_sane (naming b) nat_eq (program_of (linked b)))

  -- a node with one alternative
  pub goal_goes_one : (items : Items ℕ) → goal_does ≡ node e (on e (world_here b old) items ∷ []) → GoalReaches (At (place e items (world_here b old))) (stack_of b old)
  goal_goes_one items is left =
      turns_then (language_of b) (called b old e (Call g ∷ after) left)
      (at_point b (Over Failed) left (Tries e (on e (world_here b old) items ∷ []) ∷ stack_of b old))
      (at_point b (At (place e items (world_here b old))) left (stack_of b old))
      (goal_opens (Over Failed) (Tries e (on e (world_here b old) items ∷ [])) is left)
      (turn_last (language_of b) e left (program_of (linked b)).clauses (program_of (linked b)).clauses (on e (world_here b old) items) items (world_here b old) (stack_of b old) refl)

  -- a node with two
  pub goal_goes_two : (items other : Items ℕ) → goal_does ≡ node e (on e (world_here b old) items ∷ on e (world_here b old) other ∷ [])
      → GoalReaches (At (place e items (world_here b old))) (Tries e (on e (world_here b old) other ∷ []) ∷ stack_of b old)
  goal_goes_two items other is left =
      turns_then (language_of b) (called b old e (Call g ∷ after) left)
      (at_point b (Over Failed) left (Tries e (on e (world_here b old) items ∷ on e (world_here b old) other ∷ []) ∷ stack_of b old))
      (at_point b (At (place e items (world_here b old))) left (Tries e (on e (world_here b old) other ∷ []) ∷ stack_of b old))
      (goal_opens (Over Failed) (Tries e (on e (world_here b old) items ∷ on e (world_here b old) other ∷ [])) is left)
      (turn_take (language_of b) e left (program_of (linked b)).clauses (program_of (linked b)).clauses (on e (world_here b old) items) items (world_here b old) (on e (world_here b old) other ∷ []) (stack_of b old) refl)

  -- a goal that throws
  pub goal_throws : (ball : Tree ℕ) → goal_does ≡ raised ball after → GoalReaches (Over (Thrown (canon ball) (pops after))) (stack_of b old)
  goal_throws ball is left =
      turn_ends (language_of b) e left (world_here b old) (program_of (linked b)).clauses g after (stack_of b old) (Thrown (canon ball) (pops after)) is (table_sane (naming b) nat_eq (program_of (linked b)))

  -- the path stands where the goal leads
  pub goal_moved_on : (new : Path) (d : ℕ) (fs : List (FrameOf (language_of b))) (items : Items ℕ) → old.depth ≡ e + 1 → Steady b old new d fs → d ≤ e + 1 → items_here b new new.f new.pc ≡ items
      → GoalReaches (At (place e items (world_here b old))) fs → Moved b old new (called b old e (Call g ∷ after)) On
  goal_moved_on new d fs items deep s le is reach =
      let depth : new.depth ≡ e + 1 = s.depth ∙ deep in
      record {
        well = well_deeper b new (reverse new.choices.items) d new.depth (omega (arith, depth, le)) s.well;
        low = omega (arith, s.depth);
        width = s.width;
        goes = λ left.
            turns_then (language_of b) (called b old e (Call g ∷ after) left) (at_point b (At (place e items (world_here b old))) left fs) (search_at b new (point_here b new) left)
            (reach left)
            (turns_same (language_of b) (at_point b (At (place e items (world_here b old))) left fs) (search_at b new (point_here b new) left)
            (λ i. at_point b (At (record { depth = sym depth i; items = sym is i; world = sym s.world i })) left (sym s.frames i)));
      }

-- a goal that is activated leads to a point, whatever the steps left
abbrev pub Reaches : (b : CompiledProgram) → Path → Active → PointOf (language_of b) → List (FrameOf (language_of b)) → Type 0
Reaches b old a point fs = GoalReaches b old a.node (goal_at old a) (items_here b old a.rest.f a.rest.pc) point fs

module _ (b : CompiledProgram) (old : Path) (a : Active) where
  -- what the goal does, where its row is known
  abbrev pub done_by : Row ℕ → Activation ℕ
  done_by r = goal_done_by b old a.node (goal_at old a) (items_here b old a.rest.f a.rest.pc) r

  pub acts : (r : Row ℕ) → row_of (naming b) (tree_at (state_of old) a.goal) ≡ r → activation b old a ≡ done_by r
  acts r is = goal_acts b old a.node (goal_at old a) (items_here b old a.rest.f a.rest.pc) r is

  pub reach_open : (p : PointOf (language_of b)) (f : FrameOf (language_of b)) → activation b old a ≡ Opens [] p f → Reaches b old a p (f ∷ stack_of b old)
  reach_open p f is = goal_opens b old a.node (goal_at old a) (items_here b old a.rest.f a.rest.pc) p f is

  pub reach_one : (items : Items ℕ) → activation b old a ≡ node a.node (on a.node (world_here b old) items ∷ []) → Reaches b old a (At (place a.node items (world_here b old))) (stack_of b old)
  reach_one items is = goal_goes_one b old a.node (goal_at old a) (items_here b old a.rest.f a.rest.pc) items is

  pub reach_two : (items other : Items ℕ) → activation b old a ≡ node a.node (on a.node (world_here b old) items ∷ on a.node (world_here b old) other ∷ [])
      → Reaches b old a (At (place a.node items (world_here b old))) (Tries a.node (on a.node (world_here b old) other ∷ []) ∷ stack_of b old)
  reach_two items other is = goal_goes_two b old a.node (goal_at old a) (items_here b old a.rest.f a.rest.pc) items other is

  pub reach_ball : (ball : Tree ℕ) → activation b old a ≡ raised ball (items_here b old a.rest.f a.rest.pc) → Reaches b old a (Over (Thrown (canon ball) (pops (items_here b old a.rest.f a.rest.pc)))) (stack_of b old)
  reach_ball ball is = goal_throws b old a.node (goal_at old a) (items_here b old a.rest.f a.rest.pc) ball is

  -- the path stands where the goal leads
  pub moved_on : (new : Path) (d : ℕ) (fs : List (FrameOf (language_of b))) (items : Items ℕ) → old.depth ≡ a.node + 1 → Steady b old new d fs → d ≤ a.node + 1 → items_here b new new.f new.pc ≡ items
      → Reaches b old a (At (place a.node items (world_here b old))) fs → Moved b old new (called b old a.node (goal_items b old a)) On
  moved_on new d fs items deep s le is reach = goal_moved_on b old a.node (goal_at old a) (items_here b old a.rest.f a.rest.pc) new d fs items deep s le is reach

-- a turn before a move
pub stays_then : (b : CompiledProgram) (x y : Configuration (language_of b)) (p : Path) (left : ℕ) (g : Going) → Turns (language_of b) x y → Stays b (Turns (language_of b) y) p left g → Stays b (Turns (language_of b) x) p left g
stays_then b x y p left On t h = turns_then (language_of b) x y (search_at b p (point_here b p) left) t h
stays_then b x y p left Fails t h = turns_then (language_of b) x y (search_at b p (Over Failed) left) t h
stays_then b x y p left (Halts z) t h = turns_then (language_of b) x y (search_at b p (Over (Halted z)) left) t h
stays_then b x y p left (Uncaught ball) t h = (h.0, h.1, turns_then (language_of b) x y (search_at b p (Over (Thrown ball.value h.0)) left) t h.2)

-- a ball goes outward from where the goal leads
pub moved_raised : (b : CompiledProgram) (old mid new : Path) (a : Active) (d : ℕ) (fs : List (FrameOf (language_of b))) (ball ball' : Tree ℕ) (active active' : List ℕ) (g : Going)
    → Steady b old mid d fs → ball' ≡ ball → active' ≡ active → Reaches b old a (Over (Thrown ball active)) fs → Moved b mid new (thrown b mid ball' active') g → Moved b old new (called b old a.node (goal_items b old a)) g
moved_raised b old mid new a d fs ball ball' active active' g s same exits reach m = record {
  well = m.well;
  low = let low = m.low in omega (arith, low, s.depth);
  width = m.width ∙ s.width;
  goes = λ left.
      stays_then b (called b old a.node (goal_items b old a) left) (at_point b (Over (Thrown ball active)) left fs) new left g (reach left)
      (subst (λ y. Stays b (Turns (language_of b) y) new left g) (λ i. at_point b (Over (Thrown (same i) (exits i))) left (s.frames i)) (m.goes left));
}
