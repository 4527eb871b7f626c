-- Goals among the arguments of control constructs.
use Rattle.std.proofs.Common.{◌≡◌, ℕ, suc, ◌+◌, ◌≤◌, List, [], ◌∷◌, ◌++◌, Result, refl, sym, ap, ◌∙◌, subst, arith, length}
use Rattle.pl_terms.specs.Trees.{Tree}
use Rattle.pl_terms.specs.Occurrence.{canon}
use Rattle.pl_unify.specs.declared.word.Ref.{Ref}
use Rattle.pl_unify.specs.State.{State, tree_at, IsRef, Grows}
use Rattle.solver_model.specs.Search.{Call, Cut, Fail, FrameOf, Tries, At, pops}
use Rattle.solver_model.specs.Configurations.{Turns}
use Rattle.goal_model.specs.Bodies.{flat}
use Rattle.goal_model.specs.Environments.{Environment, argument_place}
use Rattle.goal_model.specs.Table.{Items, World, Moved as Activation, node, on, raised, unless_raised}
use Rattle.pl_store.specs.Runs.{program_of}
use Rattle.goal_state.specs.declared.frames.Setting.{Setting}
use Rattle.goal_state.specs.Frames.{env_of}
use Rattle.goal_state.specs.declared.choice.ChoiceKind.TheVariants.{Branch}
use Rattle.goal_state.specs.declared.compiled.CompiledProgram.{CompiledProgram}
use Rattle.goal_state.specs.declared.path.Path.{Path}
use Rattle.goal_state.specs.Denotation.{linked, naming, language_of, state_of, items_here, world_here}
use Rattle.goal_state.specs.Well.{IsWell}
use Rattle.goal_state.specs.Steps.{link_to}
use Rattle.goal_state.proofs.PathLaws.{put_within}
use Rattle.pl_unify.proofs.StoreLaws.{Extends-trans}
use Rattle.goal_constructs.specs.Calling.{IsCalled}
use Rattle.goal_constructs.specs.declared.calling.Called.{Called}
use Rattle.goal_constructs.specs.declared.calling.Called.TheVariants as C
use Rattle.goal_moves.specs.declared.active.Rest.{Rest}
use Rattle.goal_moves.specs.declared.active.Active.{Active}
use Rattle.goal_moves.specs.declared.going.Going.{Going}
use Rattle.goal_moves.specs.declared.going.Going.TheVariants.{On}
use Rattle.goal_moves.specs.Control.{Grew, OpenedHere, Runs, activation, committing}
use Rattle.goal_moves.specs.Moves.{Stays, goal_items, called, thrown, IsReady, Moved, Entered, here}
use Rattle.goal_moves.proofs.Steady.{Steady, steady_here, steady_entered, steady_grown, steady_branch, grown_items, grown_ref, grown_length, opened_place, opened_state}
use Rattle.goal_moves.proofs.Committing.{Goals, entered_items}
use Rattle.goal_moves.proofs.Turning.{stack_of, reach_one, reach_two, reach_ball, moved_on, moved_raised}
use Rattle.goal_moves.proofs.RowMoves.{steady_well}

-- what a goal does that runs what a term was taken for, or throws
abbrev pub running_or : (b : CompiledProgram) → Active → Environment ℕ → (Items ℕ) → World ℕ → Result (Tree ℕ) (Tree ℕ) → Activation ℕ
running_or b a env rest w taken = unless_raised taken rest (λ t. node a.node (on a.node w (flat (naming b) t env (a.node + 1) ++ rest) ∷ []))

-- a ball is thrown where the goal's items would have followed, from a path on which it is known
pub moved_ball : (b : CompiledProgram) (old mid new : Path) (a : Active) (ball : Ref) (t : Tree ℕ) (g : Going) → Steady b old mid a.node (stack_of b old) → items_here b mid a.rest.f a.rest.pc ≡ items_here b old a.rest.f a.rest.pc
    → tree_at (state_of mid) ball ≡ t → activation b old a ≡ raised t (items_here b old a.rest.f a.rest.pc)
    → Moved b mid new (thrown b mid (canon (tree_at (state_of mid) ball)) (pops (items_here b mid a.rest.f a.rest.pc))) g → Moved b old new (called b old a.node (goal_items b old a)) g
moved_ball b old mid new a ball t g s rest is act m =
    moved_raised b old mid new a a.node (stack_of b old) (canon t) (canon (tree_at (state_of mid) ball)) (pops (items_here b old a.rest.f a.rest.pc)) (pops (items_here b mid a.rest.f a.rest.pc)) g
    s (ap canon is) (ap pops rest) (reach_ball b old a t act) m

-- ---- a path on which places were added

module _ (b : CompiledProgram) (old p : Path) (a : Active) (ready : IsReady b old a) (g : Grew old p) where
  pub grown_steady : Steady b old p a.node (stack_of b old)
  grown_steady = steady_grown b old p g old a.node (stack_of b old) (steady_here b old a.node ready.well)

  pub grown_rest : items_here b p a.rest.f a.rest.pc ≡ items_here b old a.rest.f a.rest.pc
  grown_rest = grown_items b old p g a.node a.rest.f a.rest.pc ready.well

  pub grown_well : IsWell b p
  grown_well = steady_well b old p a (stack_of b old) a.node ready (omega arith) grown_steady

  pub grown_ready : IsReady b p a
  grown_ready = record {
    well = grown_steady.well;
    depth = grown_steady.depth ∙ ready.depth;
    goal = grown_ref b old p g a.goal ready.goal;
    rest = let same = grown_length b old p g in let le = ready.rest in omega (arith, same, le);
    base = let same = g.next in let le = ready.base in omega (arith, same, le);
  }

  grown_goal : tree_at (state_of p) a.goal ≡ tree_at (state_of old) a.goal
  grown_goal = g.grows.places a.goal ready.goal

  pub grown_activation : activation b p a ≡ activation b old a
  grown_activation = λ i. (language_of b).activate a.node (record { tree = grown_goal i; env = env_of a.setting; reach = a.setting.depth }) (grown_rest i) (grown_steady.world i) (program_of (linked b)).clauses

  pub grown_called : (left : ℕ) → called b p a.node (goal_items b p a) left ≡ called b old a.node (goal_items b old a) left
  grown_called left = λ i. record {
    point = At (record { depth = a.node; items = Call (record { tree = grown_goal i; env = env_of a.setting; reach = a.setting.depth }) ∷ grown_rest i; world = grown_steady.world i });
    left = suc left;
    clauses = (program_of (linked b)).clauses;
    frames = grown_steady.frames i;
  }

  -- a move from there is one from before
  pub moved_grown : (new : Path) (r : Going) → Moved b p new (called b p a.node (goal_items b p a)) r → Moved b old new (called b old a.node (goal_items b old a)) r
  moved_grown new r m = record {
    well = m.well;
    low = let low = m.low in let same = grown_steady.depth in omega (arith, low, same);
    width = m.width ∙ grown_steady.width;
    goes = λ left. subst (λ x. Stays b (Turns (language_of b) x) new left r) (grown_called left) (m.goes left);
  }

  pub grown_runs : (setting : Setting) (c : Called) (taken : Result (Tree ℕ) (Tree ℕ)) → IsCalled (state_of p) taken c
      → activation b old a ≡ running_or b a (env_of setting) (items_here b old a.rest.f a.rest.pc) (world_here b old) taken
      → setting.depth ≡ a.node + 1 → setting.base ≡ a.setting.base → Runs b p a setting c
  grown_runs setting c taken is act depth base = record {
    taken = taken;
    is = is;
    act = grown_activation ∙ act ∙ (λ i. running_or b a (env_of setting) (sym grown_rest i) (sym grown_steady.world i) taken);
    depth = depth;
    base = base;
  }

  -- the goal throws the ball of an error
  pub grown_ball : (new : Path) (ball : Ref) (t : Tree ℕ) (r : Going) → tree_at (state_of p) ball ≡ t → activation b old a ≡ raised t (items_here b old a.rest.f a.rest.pc)
      → Moved b p new (thrown b p (canon (tree_at (state_of p) ball)) (pops (items_here b p a.rest.f a.rest.pc))) r → Moved b old new (called b old a.node (goal_items b old a)) r
  grown_ball new ball t r is act m = moved_ball b old p new a ball t r grown_steady grown_rest is act m

  -- once
  pub moved_once : (new : Path) (body : Ref) → activation b old a ≡ node a.node (on a.node (world_here b old) (committing b p a body (items_here b old a.rest.f a.rest.pc)) ∷ [])
      → Entered b p new a.rest (here new) (committing b p a body (items_here b p a.rest.f a.rest.pc)) → Moved b old new (called b old a.node (goal_items b old a)) On
  moved_once new body act h =
      let items : Items ℕ = committing b p a body (items_here b old a.rest.f a.rest.pc) in
      moved_on b old a new a.node (stack_of b old) items ready.depth
      (steady_entered b p new a.rest (here new) (committing b p a body (items_here b p a.rest.f a.rest.pc)) h old a.node (stack_of b old) grown_steady) (omega arith)
      (h.goes ∙ ap (committing b p a body) grown_rest)
      (reach_one b old a items act)

  -- negation
  module _ (q : Path) (o : OpenedHere p q Branch a.rest.f a.rest.pc a.setting a.node) where
    pub denied_steady : Steady b old q (a.node + 1) (Tries a.node (on a.node (world_here b old) (items_here b old a.rest.f a.rest.pc) ∷ []) ∷ stack_of b old)
    denied_steady = steady_branch b old p q a.rest.f a.rest.pc a.setting a.node (stack_of b old) (items_here b old a.rest.f a.rest.pc) o ready.base grown_steady grown_rest

    pub denied_rest : items_here b q a.rest.f a.rest.pc ≡ items_here b old a.rest.f a.rest.pc
    denied_rest = opened_place b p q Branch a.rest.f a.rest.pc a.setting a.node o a.rest.f a.rest.pc (omega arith) ∙ grown_rest

    pub denied_state : state_of q ≡ state_of p
    denied_state = opened_state b p q Branch a.rest.f a.rest.pc a.setting a.node o

    pub denied_within : a.rest.f ≤ length q.frames
    denied_within =
        let within = put_within b p (record p { frames = q.frames }) (link_to a.rest.f a.rest.pc a.setting) o.opened.rest o.opened.put in
        omega (arith, within.0)

    pub denied_well : IsWell b q
    denied_well = steady_well b old q a (Tries a.node (on a.node (world_here b old) (items_here b old a.rest.f a.rest.pc) ∷ []) ∷ stack_of b old) (a.node + 1) ready (omega arith) denied_steady

    pub denied_base : a.setting.base ≤ (state_of q).next
    denied_base = let same = denied_steady.next in let le = ready.base in omega (arith, same, le)

    module _ (r : Path) (fail : Rest) (f : Entered b q r a.rest fail (Fail ∷ items_here b q a.rest.f a.rest.pc)) where
      pub failing_steady : Steady b old r (a.node + 1) (Tries a.node (on a.node (world_here b old) (items_here b old a.rest.f a.rest.pc) ∷ []) ∷ stack_of b old)
      failing_steady = steady_entered b q r a.rest fail (Fail ∷ items_here b q a.rest.f a.rest.pc) f old (a.node + 1) (Tries a.node (on a.node (world_here b old) (items_here b old a.rest.f a.rest.pc) ∷ []) ∷ stack_of b old) denied_steady

      pub failing_well : IsWell b r
      failing_well = steady_well b old r a (Tries a.node (on a.node (world_here b old) (items_here b old a.rest.f a.rest.pc) ∷ []) ∷ stack_of b old) (a.node + 1) ready (omega arith) failing_steady

      pub failing_state : state_of r ≡ state_of p
      failing_state = ap (λ x. state_of x) f.others ∙ denied_state

      pub failing_ref : (x : Ref) → IsRef (state_of p) x → IsRef (state_of r) x
      failing_ref x le = subst (λ s. IsRef s x) (sym failing_state) le

      pub failing_base : a.setting.base ≤ (state_of r).next
      failing_base = let same = failing_steady.next in let le = ready.base in omega (arith, same, le)

      pub moved_negation : (new : Path) (body : Ref)
          → activation b old a ≡ node a.node (on a.node (world_here b old) (committing b p a body (Fail ∷ items_here b old a.rest.f a.rest.pc)) ∷ on a.node (world_here b old) (items_here b old a.rest.f a.rest.pc) ∷ [])
          → Entered b r new fail (here new) (committing b r a body (items_here b r fail.f fail.pc)) → Moved b old new (called b old a.node (goal_items b old a)) On
      moved_negation new body act h =
          let fs : List (FrameOf (language_of b)) = Tries a.node (on a.node (world_here b old) (items_here b old a.rest.f a.rest.pc) ∷ []) ∷ stack_of b old in
          let items : Items ℕ = committing b p a body (Fail ∷ items_here b old a.rest.f a.rest.pc) in
          moved_on b old a new (a.node + 1) fs items ready.depth
          (steady_entered b r new fail (here new) (committing b r a body (items_here b r fail.f fail.pc)) h old (a.node + 1) fs failing_steady) (omega arith)
          (h.goes
          ∙ ap (λ s. flat (naming b) (tree_at s body) (argument_place (env_of a.setting)) (a.node + 1) ++ (Cut a.node ∷ items_here b r fail.f fail.pc)) failing_state
          ∙ ap (committing b p a body) (f.goes ∙ ap (λ l. Fail ∷ l) denied_rest))
          (reach_two b old a items (items_here b old a.rest.f a.rest.pc) act)

-- a path with the store of another
abbrev pub storing : Path → Path → Path
storing r x = record x { store = r.store }

grows_then : (s t u : State) → Grows s t → Grows t u → Grows s u
grows_then s t u g h = record {
  extends = Extends-trans s t u g.extends h.extends;
  links = h.links ∙ g.links;
  bound = h.bound ∙ g.bound;
  places = λ r le. let more = g.extends.more_cells in h.places r (omega (arith, le, more)) ∙ g.places r le;
  variables = λ n. h.variables n ∙ g.variables n;
}

pub grew_then : (p q r : Path) → Grew p q → Grew q r → Grew p r
grew_then p q r g h = record {
  others = h.others ∙ ap (λ x. storing r x) g.others;
  grows = grows_then (state_of p) (state_of q) (state_of r) g.grows h.grows;
  next = h.next ∙ g.next;
  store = h.store;
}

-- ---- what a term was taken for is run

module _ (b : CompiledProgram) (old : Path) (a : Active) (ready : IsReady b old a) (setting : Setting) where
  pub runs_goal : (new : Path) (c : Called) (body : Ref) → Runs b old a setting c → c ≡ C.Goal body → Goals b old new a.rest body setting → Moved b old new (called b old a.node (goal_items b old a)) On
  runs_goal new c body runs is h =
      let taken = subst (IsCalled (state_of old) runs.taken) is runs.is in
      let items : Items ℕ = entered_items b old body setting (items_here b old a.rest.f a.rest.pc) in
      let wanted : Items ℕ = flat (naming b) (tree_at (state_of old) body) (env_of setting) (a.node + 1) ++ items_here b old a.rest.f a.rest.pc in
      moved_on b old a new a.node (stack_of b old) wanted ready.depth
      (steady_entered b old new a.rest (here new) items h old a.node (stack_of b old) (steady_here b old a.node ready.well)) (omega arith)
      (h.goes ∙ ap (λ d. flat (naming b) (tree_at (state_of old) body) (env_of setting) d ++ items_here b old a.rest.f a.rest.pc) runs.depth)
      (reach_one b old a wanted (runs.act ∙ ap (running_or b a (env_of setting) (items_here b old a.rest.f a.rest.pc) (world_here b old)) taken.1))

  pub runs_ref : (c : Called) (body : Ref) → Runs b old a setting c → c ≡ C.Goal body → IsRef (state_of old) body
  runs_ref c body runs is = (subst (IsCalled (state_of old) runs.taken) is runs.is).0

  pub throws_ref : (c : Called) (ball : Ref) → Runs b old a setting c → c ≡ C.Ball ball → IsRef (state_of old) ball
  throws_ref c ball runs is = (subst (IsCalled (state_of old) runs.taken) is runs.is).0

  pub runs_ball : (new : Path) (c : Called) (ball : Ref) (g : Going) → Runs b old a setting c → c ≡ C.Ball ball
      → Moved b old new (thrown b old (canon (tree_at (state_of old) ball)) (pops (items_here b old a.rest.f a.rest.pc))) g → Moved b old new (called b old a.node (goal_items b old a)) g
  runs_ball new c ball g runs is m =
      let taken = subst (IsCalled (state_of old) runs.taken) is runs.is in
      moved_ball b old old new a ball (tree_at (state_of old) ball) g (steady_here b old a.node ready.well) refl refl
      (runs.act ∙ ap (running_or b a (env_of setting) (items_here b old a.rest.f a.rest.pc) (world_here b old)) taken.1) m
