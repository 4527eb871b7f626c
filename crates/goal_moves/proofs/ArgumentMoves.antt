-- The rows of control constructs that take an argument for a goal.
use Rattle.std.proofs.Common.{◌≡◌, ℕ, ◌+◌, List, [], ◌∷◌, ◌++◌, Result, Ok, Err, refl, sym, ap, ◌∙◌, subst}
use Rattle.pl_terms.specs.Trees.{Tree}
use Rattle.pl_terms.specs.Occurrence.{canon}
use Rattle.pl_unify.specs.declared.word.Ref.{Ref}
use Rattle.pl_unify.specs.State.{State, tree_at, IsRef}
use Rattle.solver_model.specs.Search.{Cut, Fail, pops}
use Rattle.goal_model.specs.Bodies.{flat, goal_of, called as called_goal}
use Rattle.goal_model.specs.Environments.{Environment, argument_place}
use Rattle.goal_model.specs.Rows.{negation, once, calling, in_module, from_context, throwing, row_of, name_of, arity_of}
use Rattle.goal_model.specs.Table.{Items, World, Alternative, Moved as Activation, node, on, unless_raised, module_of, ball_of}
use Rattle.pl_atoms.specs.declared.names.NameId.{NameId}
use Rattle.pl_store.specs.Runs.{program_of}
use Rattle.goal_state.specs.declared.frames.Setting.{Setting}
use Rattle.goal_state.specs.Frames.{env_of}
use Rattle.goal_state.specs.declared.choice.ChoiceKind.TheVariants.{Branch}
use Rattle.goal_state.specs.declared.compiled.CompiledProgram.{CompiledProgram}
use Rattle.goal_state.specs.declared.path.Path.{Path}
use Rattle.goal_state.specs.Denotation.{linked, naming, state_of, items_here, world_here}
use Rattle.goal_constructs.specs.Goals.{called_term, more_arguments}
use Rattle.goal_constructs.specs.Calling.{IsCalled}
use Rattle.goal_constructs.specs.declared.calling.Called.{Called}
use Rattle.goal_constructs.specs.declared.calling.Called.TheVariants as C
use Rattle.goal_moves.specs.declared.active.Rest.{Rest}
use Rattle.goal_moves.specs.declared.active.Active.{Active}
use Rattle.goal_moves.specs.declared.term_control.Named.{Named}
use Rattle.goal_moves.specs.declared.term_control.Named.TheVariants as N
use Rattle.goal_moves.specs.declared.going.Going.{Going}
use Rattle.goal_moves.specs.declared.going.Going.TheVariants.{On}
use Rattle.goal_moves.specs.Control.{Grew, OpenedHere, Runs, IsNamed, activation, committing}
use Rattle.goal_moves.specs.Moves.{goal_items, called, thrown, IsReady, Moved, Entered, here}
use Rattle.goal_moves.proofs.Turning.{acts}
use Rattle.goal_moves.proofs.TakenMoves.{running_or, grown_runs, grown_ball, moved_once, moved_negation, grew_then}

-- the name and the number of arguments of the construct
abbrev pub name_at : (b : CompiledProgram) → Path → Active → ℕ
name_at b p a = name_of (naming b) (tree_at (state_of p) a.goal)

abbrev pub arity_at : (b : CompiledProgram) → Path → Active → ℕ
arity_at b p a = arity_of (naming b) (tree_at (state_of p) a.goal)

-- what the goal's construct takes a term for
abbrev pub taken_at : (b : CompiledProgram) → Path → Active → Ref → Result (Tree ℕ) (Tree ℕ)
taken_at b p a term = goal_of (naming b) (tree_at (state_of p) term) (name_at b p a) (arity_at b p a)

pub called_by : (b : CompiledProgram) (s : State) (t : Tree ℕ) (f f' k k' : ℕ) (c : Called) → f ≡ f' → k ≡ k' → IsCalled s (goal_of (naming b) t f k) c → IsCalled s (goal_of (naming b) t f' k') c
called_by b s t f f' k k' c e d h = subst (λ n. IsCalled s (goal_of (naming b) t f' n) c) d (subst (λ n. IsCalled s (goal_of (naming b) t n k) c) e h)

-- what a row does with what a term was taken for
abbrev pub committing_or : (b : CompiledProgram) → Active → Items ℕ → World ℕ → (Items ℕ → List (Alternative ℕ)) → Items ℕ → Result (Tree ℕ) (Tree ℕ) → Activation ℕ
committing_or b a rest w more after taken =
    unless_raised taken rest (λ t. node a.node (on a.node w (flat (naming b) t (argument_place (env_of a.setting)) (a.node + 1) ++ (Cut a.node ∷ after)) ∷ more rest))

module _ (b : CompiledProgram) (old p : Path) (a : Active) (ready : IsReady b old a) (g : Grew old p) (term : Ref) (c : Called) (is : IsCalled (state_of p) (taken_at b old a term) c) where
  taken_goal : (body : Ref) → c ≡ C.Goal body → IsRef (state_of p) body × (taken_at b old a term ≡ Ok (tree_at (state_of p) body))
  taken_goal body e = subst (IsCalled (state_of p) (taken_at b old a term)) e is

  taken_ball : (ball : Ref) → c ≡ C.Ball ball → IsRef (state_of p) ball × (taken_at b old a term ≡ Err (tree_at (state_of p) ball))
  taken_ball ball e = subst (IsCalled (state_of p) (taken_at b old a term)) e is

  pub goal_ref : (body : Ref) → c ≡ C.Goal body → IsRef (state_of p) body
  goal_ref body e = (taken_goal body e).0

  pub ball_ref : (ball : Ref) → c ≡ C.Ball ball → IsRef (state_of p) ball
  ball_ref ball e = (taken_ball ball e).0

  once_act : row_of (naming b) (tree_at (state_of old) a.goal) ≡ once (tree_at (state_of old) term) → activation b old a ≡ committing_or b a (items_here b old a.rest.f a.rest.pc) (world_here b old) (λ _. []) (items_here b old a.rest.f a.rest.pc) (taken_at b old a term)
  once_act row = acts b old a (once (tree_at (state_of old) term)) row

  pub once_goal : (new : Path) (body : Ref) → row_of (naming b) (tree_at (state_of old) a.goal) ≡ once (tree_at (state_of old) term) → c ≡ C.Goal body
      → Entered b p new a.rest (here new) (committing b p a body (items_here b p a.rest.f a.rest.pc)) → Moved b old new (called b old a.node (goal_items b old a)) On
  once_goal new body row e h =
      moved_once b old p a ready g new body
      (once_act row ∙ ap (committing_or b a (items_here b old a.rest.f a.rest.pc) (world_here b old) (λ _. []) (items_here b old a.rest.f a.rest.pc)) (taken_goal body e).1) h

  pub once_ball : (new : Path) (ball : Ref) (r : Going) → row_of (naming b) (tree_at (state_of old) a.goal) ≡ once (tree_at (state_of old) term) → c ≡ C.Ball ball
      → Moved b p new (thrown b p (canon (tree_at (state_of p) ball)) (pops (items_here b p a.rest.f a.rest.pc))) r → Moved b old new (called b old a.node (goal_items b old a)) r
  once_ball new ball r row e m =
      grown_ball b old p a ready g new ball (tree_at (state_of p) ball) r refl
      (once_act row ∙ ap (committing_or b a (items_here b old a.rest.f a.rest.pc) (world_here b old) (λ _. []) (items_here b old a.rest.f a.rest.pc)) (taken_ball ball e).1) m

  negation_act : row_of (naming b) (tree_at (state_of old) a.goal) ≡ negation (tree_at (state_of old) term) → activation b old a ≡ committing_or b a (items_here b old a.rest.f a.rest.pc) (world_here b old) (λ rest. on a.node (world_here b old) rest ∷ []) (Fail ∷ items_here b old a.rest.f a.rest.pc) (taken_at b old a term)
  negation_act row = acts b old a (negation (tree_at (state_of old) term)) row

  pub negation_goal : (q r new : Path) (body : Ref) (o : OpenedHere p q Branch a.rest.f a.rest.pc a.setting a.node) (fail : Rest) (f : Entered b q r a.rest fail (Fail ∷ items_here b q a.rest.f a.rest.pc))
      → row_of (naming b) (tree_at (state_of old) a.goal) ≡ negation (tree_at (state_of old) term) → c ≡ C.Goal body
      → Entered b r new fail (here new) (committing b r a body (items_here b r fail.f fail.pc)) → Moved b old new (called b old a.node (goal_items b old a)) On
  negation_goal q r new body o fail f row e h =
      moved_negation b old p a ready g q o r fail f new body
      (negation_act row ∙ ap (committing_or b a (items_here b old a.rest.f a.rest.pc) (world_here b old) (λ rest. on a.node (world_here b old) rest ∷ []) (Fail ∷ items_here b old a.rest.f a.rest.pc)) (taken_goal body e).1) h

  pub negation_ball : (new : Path) (ball : Ref) (r : Going) → row_of (naming b) (tree_at (state_of old) a.goal) ≡ negation (tree_at (state_of old) term) → c ≡ C.Ball ball
      → Moved b p new (thrown b p (canon (tree_at (state_of p) ball)) (pops (items_here b p a.rest.f a.rest.pc))) r → Moved b old new (called b old a.node (goal_items b old a)) r
  negation_ball new ball r row e m =
      grown_ball b old p a ready g new ball (tree_at (state_of p) ball) r refl
      (negation_act row ∙ ap (committing_or b a (items_here b old a.rest.f a.rest.pc) (world_here b old) (λ rest. on a.node (world_here b old) rest ∷ []) (Fail ∷ items_here b old a.rest.f a.rest.pc)) (taken_ball ball e).1) m

-- call
pub calling_runs : (b : CompiledProgram) (old p : Path) (a : Active) (ready : IsReady b old a) (g : Grew old p) (c : Called) (depth : ℕ) (setting : Setting) → depth ≡ a.node + 1 → setting ≡ record a.setting { lookup = a.setting.context; depth = depth }
    → row_of (naming b) (tree_at (state_of old) a.goal) ≡ calling (called_term (tree_at (state_of old) a.goal)) (more_arguments (tree_at (state_of old) a.goal))
    → IsCalled (state_of p) (called_goal (naming b) (called_term (tree_at (state_of old) a.goal)) (more_arguments (tree_at (state_of old) a.goal)) (name_at b old a) (arity_at b old a)) c
    → Runs b p a setting c
calling_runs b old p a ready g c depth setting deep same row is =
    subst (λ st. Runs b p a st c) (sym same)
    (grown_runs b old p a ready g (record a.setting { lookup = a.setting.context; depth = depth }) c
    (called_goal (naming b) (called_term (tree_at (state_of old) a.goal)) (more_arguments (tree_at (state_of old) a.goal)) (name_at b old a) (arity_at b old a)) is
    (acts b old a (calling (called_term (tree_at (state_of old) a.goal)) (more_arguments (tree_at (state_of old) a.goal))) row) deep refl)

-- a goal in a module, or from a context
module _ (b : CompiledProgram) (old p q : Path) (a : Active) (ready : IsReady b old a) (g : Grew old p) (h : Grew p q) (goal home : Ref) (goal_is : IsRef (state_of old) goal) where
  taken_later : (c : Called) → IsCalled (state_of q) (taken_at b p a goal) c → IsCalled (state_of q) (taken_at b old a goal) c
  taken_later c is =
      let t : tree_at (state_of p) goal ≡ tree_at (state_of old) goal = g.grows.places goal goal_is in
      let u : tree_at (state_of p) a.goal ≡ tree_at (state_of old) a.goal = g.grows.places a.goal ready.goal in
      subst (λ x. IsCalled (state_of q) (goal_of (naming b) (tree_at (state_of old) goal) (name_of (naming b) x) (arity_of (naming b) x)) c) u
      (subst (λ x. IsCalled (state_of q) (goal_of (naming b) x (name_at b p a) (arity_at b p a)) c) t is)

  abbrev in_env : ℕ → Environment ℕ
  in_env d = record { lookup = d; context = d; caller = a.setting.caller.0 }

  abbrev from_env : ℕ → Environment ℕ
  from_env d = record { lookup = a.setting.lookup.0; context = d; caller = a.setting.caller.0 }

  abbrev module_or : (ℕ → Environment ℕ) → Result ℕ (Tree ℕ) → Activation ℕ
  module_or env named = unless_raised named (items_here b old a.rest.f a.rest.pc) (λ d. running_or b a (env d) (items_here b old a.rest.f a.rest.pc) (world_here b old) (taken_at b old a goal))

  abbrev pub module_at : Result ℕ (Tree ℕ)
  module_at = module_of (naming b) (program_of (linked b)) (tree_at (state_of old) home) a.setting.lookup.0 (name_at b old a) (arity_at b old a)

  pub in_module_runs : (c : Called) (m : NameId) (named : Named) (depth : ℕ) → depth ≡ a.node + 1 → row_of (naming b) (tree_at (state_of old) a.goal) ≡ in_module (tree_at (state_of old) home) (tree_at (state_of old) goal)
      → IsNamed (state_of p) (module_of (naming b) (program_of (linked b)) (tree_at (state_of old) home) a.setting.lookup.0 (name_at b old a) (arity_at b old a)) named → named ≡ N.Module m → IsCalled (state_of q) (taken_at b p a goal) c
      → Runs b q a (record a.setting { lookup = m; context = m; depth = depth }) c
  in_module_runs c m named depth deep row is e taken =
      grown_runs b old q a ready (grew_then old p q g h) (record a.setting { lookup = m; context = m; depth = depth }) c (taken_at b old a goal) (taken_later c taken)
      (acts b old a (in_module (tree_at (state_of old) home) (tree_at (state_of old) goal)) row
      ∙ ap (module_or in_env) (subst (IsNamed (state_of p) module_at) e is)) deep refl

  pub from_context_runs : (c : Called) (m : NameId) (named : Named) (depth : ℕ) → depth ≡ a.node + 1 → row_of (naming b) (tree_at (state_of old) a.goal) ≡ from_context (tree_at (state_of old) goal) (tree_at (state_of old) home)
      → IsNamed (state_of p) (module_of (naming b) (program_of (linked b)) (tree_at (state_of old) home) a.setting.lookup.0 (name_at b old a) (arity_at b old a)) named → named ≡ N.Module m → IsCalled (state_of q) (taken_at b p a goal) c
      → Runs b q a (record a.setting { context = m; depth = depth }) c
  from_context_runs c m named depth deep row is e taken =
      grown_runs b old q a ready (grew_then old p q g h) (record a.setting { context = m; depth = depth }) c (taken_at b old a goal) (taken_later c taken)
      (acts b old a (from_context (tree_at (state_of old) goal) (tree_at (state_of old) home)) row
      ∙ ap (module_or from_env) (subst (IsNamed (state_of p) module_at) e is)) deep refl

-- no module
module _ (b : CompiledProgram) (old p : Path) (a : Active) (ready : IsReady b old a) (g : Grew old p) (goal home : Ref) where
  abbrev rest_or : (Result ℕ (Tree ℕ) → Activation ℕ)
  rest_or named = unless_raised named (items_here b old a.rest.f a.rest.pc) (λ d. running_or b a (record { lookup = d; context = d; caller = a.setting.caller.0 }) (items_here b old a.rest.f a.rest.pc) (world_here b old) (taken_at b old a goal))

  abbrev context_or : (Result ℕ (Tree ℕ) → Activation ℕ)
  context_or named = unless_raised named (items_here b old a.rest.f a.rest.pc) (λ d. running_or b a (record { lookup = a.setting.lookup.0; context = d; caller = a.setting.caller.0 }) (items_here b old a.rest.f a.rest.pc) (world_here b old) (taken_at b old a goal))

  abbrev named_at : Result ℕ (Tree ℕ)
  named_at = module_of (naming b) (program_of (linked b)) (tree_at (state_of old) home) a.setting.lookup.0 (name_at b old a) (arity_at b old a)

  pub module_ball_ref : (ball : Ref) (named : Named) → IsNamed (state_of p) (module_of (naming b) (program_of (linked b)) (tree_at (state_of old) home) a.setting.lookup.0 (name_at b old a) (arity_at b old a)) named → named ≡ N.Ball ball → IsRef (state_of p) ball
  module_ball_ref ball named is e = (subst (IsNamed (state_of p) named_at) e is).0

  pub in_module_ball : (new : Path) (ball : Ref) (named : Named) (r : Going) → row_of (naming b) (tree_at (state_of old) a.goal) ≡ in_module (tree_at (state_of old) home) (tree_at (state_of old) goal)
      → IsNamed (state_of p) (module_of (naming b) (program_of (linked b)) (tree_at (state_of old) home) a.setting.lookup.0 (name_at b old a) (arity_at b old a)) named → named ≡ N.Ball ball
      → Moved b p new (thrown b p (canon (tree_at (state_of p) ball)) (pops (items_here b p a.rest.f a.rest.pc))) r → Moved b old new (called b old a.node (goal_items b old a)) r
  in_module_ball new ball named r row is e m =
      grown_ball b old p a ready g new ball (tree_at (state_of p) ball) r refl
      (acts b old a (in_module (tree_at (state_of old) home) (tree_at (state_of old) goal)) row ∙ ap rest_or (subst (IsNamed (state_of p) named_at) e is).1) m

  pub from_context_ball : (new : Path) (ball : Ref) (named : Named) (r : Going) → row_of (naming b) (tree_at (state_of old) a.goal) ≡ from_context (tree_at (state_of old) goal) (tree_at (state_of old) home)
      → IsNamed (state_of p) (module_of (naming b) (program_of (linked b)) (tree_at (state_of old) home) a.setting.lookup.0 (name_at b old a) (arity_at b old a)) named → named ≡ N.Ball ball
      → Moved b p new (thrown b p (canon (tree_at (state_of p) ball)) (pops (items_here b p a.rest.f a.rest.pc))) r → Moved b old new (called b old a.node (goal_items b old a)) r
  from_context_ball new ball named r row is e m =
      grown_ball b old p a ready g new ball (tree_at (state_of p) ball) r refl
      (acts b old a (from_context (tree_at (state_of old) goal) (tree_at (state_of old) home)) row ∙ ap context_or (subst (IsNamed (state_of p) named_at) e is).1) m

-- throw
pub throwing_ball : (b : CompiledProgram) (old p new : Path) (a : Active) (ready : IsReady b old a) (g : Grew old p) (term ball : Ref) (r : Going) → row_of (naming b) (tree_at (state_of old) a.goal) ≡ throwing (tree_at (state_of old) term)
    → tree_at (state_of p) ball ≡ ball_of (naming b) (tree_at (state_of old) term) (name_at b old a) (arity_at b old a)
    → Moved b p new (thrown b p (canon (tree_at (state_of p) ball)) (pops (items_here b p a.rest.f a.rest.pc))) r → Moved b old new (called b old a.node (goal_items b old a)) r
throwing_ball b old p new a ready g term ball r row is m =
    grown_ball b old p a ready g new ball (ball_of (naming b) (tree_at (state_of old) term) (name_at b old a) (arity_at b old a)) r is (acts b old a (throwing (tree_at (state_of old) term)) row) m
