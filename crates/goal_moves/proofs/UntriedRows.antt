-- What the rows of control constructs leave untried.
use Rattle.std.proofs.Common.{◌≡◌, ℕ, ◌+◌, [], ◌∷◌, ◌++◌, Bool, true, false, Result, Ok, Err, refl, sym, ap, ◌∙◌, subst, length}
use Rattle.std.specs.Prelude.{nat_lt, nat_eq}
use Rattle.pl_terms.specs.Trees.{Tree}
use Rattle.pl_unify.specs.declared.word.Ref.{Ref}
use Rattle.pl_unify.specs.State.{tree_at}
use Rattle.solver_model.specs.Search.{Call, Cut, Fail, At, Opens, FrameOf}
use Rattle.goal_model.specs.Bodies.{Goal, flat, goal_of}
use Rattle.goal_model.specs.Choices.{is_open}
use Rattle.goal_model.specs.Environments.{argument_place}
use Rattle.goal_model.specs.Rows.{Row, negation, once, in_module, from_context, catching, row_of}
use Rattle.goal_model.specs.Table.{Items, Place, Moved as Activation, node, on, raised, unless_raised, module_of, caught}
use Rattle.pl_store.specs.Runs.{program_of}
use Rattle.goal_state.specs.declared.frames.Setting.{Setting}
use Rattle.goal_state.specs.Frames.{env_of}
use Rattle.goal_state.specs.declared.compiled.CompiledProgram.{CompiledProgram}
use Rattle.goal_state.specs.declared.path.Path.{Path}
use Rattle.goal_state.specs.Denotation.{linked, naming, language_of, state_of, items_here, world_here}
use Rattle.goal_constructs.specs.Calling.{IsCalled}
use Rattle.goal_constructs.specs.declared.calling.Called.{Called}
use Rattle.goal_constructs.specs.declared.calling.Called.TheVariants as C
use Rattle.goal_moves.specs.declared.active.Active.{Active}
use Rattle.goal_moves.specs.Control.{Grew, Runs, goal_at, activation}
use Rattle.goal_moves.specs.Moves.{goal_items, called, IsReady}
use Rattle.goal_moves.specs.Untried.{node_leaves, leaves_untried, has_more, Leaves}
use Rattle.goal_moves.proofs.Turning.{goal_done_by, goal_acts, done_by}
use Rattle.goal_moves.proofs.TakenMoves.{running_or, grown_called}
use Rattle.goal_moves.proofs.ArgumentMoves.{name_at, arity_at, taken_at, committing_or}
use Rattle.goal_moves.proofs.CatchMoves.{catch_frame}
use Rattle.goal_moves.proofs.UntriedLaws.{grew_records}

-- what an activation leaves untried in its node
abbrev pub leaves_of : CompiledProgram → Activation ℕ → Bool
leaves_of b x = node_leaves (naming b) (program_of (linked b)).clauses x

-- a goal whose row is known
pub leaves_goal : (b : CompiledProgram) (old new : Path) (e : ℕ) (g : Goal ℕ) (after : Items ℕ) (r : Row ℕ) (x : Bool) → row_of (naming b) g.tree ≡ r → leaves_of b (goal_done_by b old e g after r) ≡ x → has_more old new ≡ x
    → Leaves b old new (called b old e (Call g ∷ after))
leaves_goal b old new e g after r x is says more left = more ∙ sym says ∙ ap (leaves_of b) (sym (goal_acts b old e g after r is))

pub leaves_row : (b : CompiledProgram) (old new : Path) (a : Active) (r : Row ℕ) (x : Bool) → row_of (naming b) (tree_at (state_of old) a.goal) ≡ r → leaves_of b (done_by b old a r) ≡ x → has_more old new ≡ x
    → Leaves b old new (called b old a.node (goal_items b old a))
leaves_row b old new a r x is says more = leaves_goal b old new a.node (goal_at old a) (items_here b old a.rest.f a.rest.pc) r x is says more

-- a goal whose activation is known
pub leaves_act : (b : CompiledProgram) (old new : Path) (a : Active) (act : Activation ℕ) (x : Bool) → activation b old a ≡ act → leaves_of b act ≡ x → has_more old new ≡ x → Leaves b old new (called b old a.node (goal_items b old a))
leaves_act b old new a act x is says more left = more ∙ sym says ∙ ap (leaves_of b) (sym is)

-- a ball leaves nothing
unless_quiet : {A : Type 0} (b : CompiledProgram) (taken : Result A (Tree ℕ)) (rest : Items ℕ) (go : A → Activation ℕ) → ((x : A) → leaves_of b (go x) ≡ false) → leaves_of b (unless_raised taken rest go) ≡ false
unless_quiet b (Ok x) rest go h = h x
unless_quiet b (Err ball) rest go h = refl

module _ (b : CompiledProgram) (old : Path) (a : Active) where
  abbrev after : Items ℕ
  after = items_here b old a.rest.f a.rest.pc

  pub quiet_running : (setting : Setting) (taken : Result (Tree ℕ) (Tree ℕ)) → leaves_of b (running_or b a (env_of setting) (items_here b old a.rest.f a.rest.pc) (world_here b old) taken) ≡ false
  quiet_running setting taken =
      unless_quiet b taken after (λ t. node a.node (on a.node (world_here b old) (flat (naming b) t (env_of setting) (a.node + 1) ++ after) ∷ [])) (λ t. refl)

  pub quiet_once : (t : Tree ℕ) → leaves_of b (done_by b old a (once t)) ≡ false
  quiet_once t =
      unless_quiet b (goal_of (naming b) t (name_at b old a) (arity_at b old a)) after
      (λ u. node a.node (on a.node (world_here b old) (flat (naming b) u (argument_place (env_of a.setting)) (a.node + 1) ++ (Cut a.node ∷ after)) ∷ [])) (λ u. refl)

  pub quiet_in_module : (m t : Tree ℕ) → leaves_of b (done_by b old a (in_module m t)) ≡ false
  quiet_in_module m t =
      unless_quiet b (module_of (naming b) (program_of (linked b)) m a.setting.lookup.0 (name_at b old a) (arity_at b old a)) after
      (λ d. running_or b a (record { lookup = d; context = d; caller = a.setting.caller.0 }) after (world_here b old) (goal_of (naming b) t (name_at b old a) (arity_at b old a)))
      (λ d.
      unless_quiet b (goal_of (naming b) t (name_at b old a) (arity_at b old a)) after
      (λ u. node a.node (on a.node (world_here b old) (flat (naming b) u (record { lookup = d; context = d; caller = a.setting.caller.0 }) (a.node + 1) ++ after) ∷ [])) (λ u. refl))

  pub quiet_from_context : (t m : Tree ℕ) → leaves_of b (done_by b old a (from_context t m)) ≡ false
  quiet_from_context t m =
      unless_quiet b (module_of (naming b) (program_of (linked b)) m a.setting.lookup.0 (name_at b old a) (arity_at b old a)) after
      (λ d. running_or b a (record { lookup = a.setting.lookup.0; context = d; caller = a.setting.caller.0 }) after (world_here b old) (goal_of (naming b) t (name_at b old a) (arity_at b old a)))
      (λ d.
      unless_quiet b (goal_of (naming b) t (name_at b old a) (arity_at b old a)) after
      (λ u. node a.node (on a.node (world_here b old) (flat (naming b) u (record { lookup = a.setting.lookup.0; context = d; caller = a.setting.caller.0 }) (a.node + 1) ++ after) ∷ [])) (λ u. refl))

  -- what a term was taken for is run, or its ball is thrown
  pub leaves_running : (new : Path) (setting : Setting) (c : Called) → Runs b old a setting c → has_more old new ≡ false → Leaves b old new (called b old a.node (goal_items b old a))
  leaves_running new setting c runs more =
      leaves_act b old new a (running_or b a (env_of setting) after (world_here b old) runs.taken) false runs.act (quiet_running setting runs.taken) more

  -- ---- the argument is a goal, or none

  module _ (p : Path) (term : Ref) (c : Called) (is : IsCalled (state_of p) (taken_at b old a term) c) where
    abbrev negation_or : Result (Tree ℕ) (Tree ℕ) → Activation ℕ
    negation_or taken = committing_or b a after (world_here b old) (λ rest. on a.node (world_here b old) rest ∷ []) (Fail ∷ after) taken

    pub negation_opens : (body : Ref) → c ≡ C.Goal body → leaves_of b (done_by b old a (negation (tree_at (state_of old) term))) ≡ true
    negation_opens body e = ap (λ taken. leaves_of b (negation_or taken)) (subst (IsCalled (state_of p) (taken_at b old a term)) e is).1

    pub negation_quiet : (ball : Ref) → c ≡ C.Ball ball → leaves_of b (done_by b old a (negation (tree_at (state_of old) term))) ≡ false
    negation_quiet ball e = ap (λ taken. leaves_of b (negation_or taken)) (subst (IsCalled (state_of p) (taken_at b old a term)) e is).1

    module _ (catcher recovery : Ref) where
      abbrev catch_or : Result (Tree ℕ) (Tree ℕ) → Activation ℕ
      catch_or taken = Opens [] (caught (naming b) a.node (goal_at old a) after (world_here b old) taken) (catch_frame b old a catcher recovery)

      pub catch_opens : (body : Ref) → c ≡ C.Goal body → leaves_of b (done_by b old a (catching (tree_at (state_of old) term) (tree_at (state_of old) catcher) (tree_at (state_of old) recovery))) ≡ true
      catch_opens body e = ap (λ taken. leaves_of b (catch_or taken)) (subst (IsCalled (state_of p) (taken_at b old a term)) e is).1

      pub catch_quiet : (ball : Ref) → c ≡ C.Ball ball → leaves_of b (done_by b old a (catching (tree_at (state_of old) term) (tree_at (state_of old) catcher) (tree_at (state_of old) recovery))) ≡ false
      catch_quiet ball e = ap (λ taken. leaves_of b (catch_or taken)) (subst (IsCalled (state_of p) (taken_at b old a term)) e is).1

-- a path on which places alone were added before
pub leaves_grown : (b : CompiledProgram) (old p : Path) (a : Active) (ready : IsReady b old a) (g : Grew old p) (new : Path) → Leaves b p new (called b p a.node (goal_items b p a)) → Leaves b old new (called b old a.node (goal_items b old a))
leaves_grown b old p a ready g new h left =
    ap (λ cs. nat_lt (length cs.items) (length new.choices.items)) (sym (grew_records old p g)) ∙ h left ∙ ap (leaves_untried b) (grown_called b old p a ready g left)

module _ (b : CompiledProgram) (old : Path) (a : Active) (new : Path) where
  -- a ball is thrown
  pub raised_leaves : (t : Tree ℕ) → activation b old a ≡ raised t (items_here b old a.rest.f a.rest.pc) → has_more old new ≡ false → Leaves b old new (called b old a.node (goal_items b old a))
  raised_leaves t act none = leaves_act b old new a (raised t (items_here b old a.rest.f a.rest.pc)) false act refl none

  -- the goal is run inside a node that has something untried
  pub opened_leaves : (s : Place ℕ) (f : FrameOf (language_of b)) → activation b old a ≡ Opens [] (At s) f → is_open nat_eq f ≡ true → has_more old new ≡ true → Leaves b old new (called b old a.node (goal_items b old a))
  opened_leaves s f act untried more = leaves_act b old new a (Opens [] (At s) f) true act untried more
