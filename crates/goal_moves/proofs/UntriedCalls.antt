-- What a goal of the program's procedures leaves untried in its node.
use Rattle.std.proofs.Common.{◌≡◌, ℕ, false, Bool, List, ◌++◌, Option, Some, None, sym, ap, ◌∙◌, subst, map, nat_eq, refl}
use Rattle.std.specs.Prelude.{is_some}
use Rattle.std.specs.List.{list_any}
use Rattle.std.specs.Option.{option_map}
use Rattle.unit_model.specs.Facts.{Indicator}
use Rattle.pl_terms.specs.Trees.{Tree, count}
use Rattle.pl_unify.specs.State.{tree_at, Grows}
use Rattle.goal_model.specs.Program.{Clause}
use Rattle.goal_model.specs.Choices.{Key, key_of, is_untried}
use Rattle.goal_model.specs.Environments.{Environment, body_place}
use Rattle.goal_model.specs.Rows.{row_of, name_of, arity_of, user}
use Rattle.goal_model.specs.Table.{Items, World, Resolution, resolves, row, by_clauses, node, resolution, Moved as Activation}
use Rattle.goal_constructs.specs.Goals.{arguments_of}
use Rattle.goal_state.specs.Frames.{env_of}
use Rattle.pl_store.specs.Linked.{procedure_at, visible_in, may_match}
use Rattle.pl_store.specs.Places.{next_place}
use Rattle.pl_store.specs.Rules.{indicator_of}
use Rattle.pl_store.specs.Runs.{program_of}
use Rattle.pl_store.specs.Walks.{clauses_from_place, any_fits}
use Rattle.pl_store.proofs.WalkLaws.{procedures-found}
use Rattle.goal_state.specs.declared.compiled.CompiledProgram.{CompiledProgram}
use Rattle.goal_state.specs.declared.path.Path.{Path}
use Rattle.goal_state.specs.Denotation.{linked, naming, clauses_on, state_of, items_here, world_here}
use Rattle.goal_state.specs.Well.{IsCompiled}
use Rattle.goal_state.proofs.BindLaws.{grown_items, grown_world}
use Rattle.goal_state.proofs.OpenRecords.{from_here}
use Rattle.goal_moves.specs.declared.active.Active.{Active}
use Rattle.goal_moves.specs.declared.active.Rest.{Rest}
use Rattle.goal_moves.specs.declared.procedures.Attempt.{Attempt}
use Rattle.goal_moves.specs.Clauses.{IsProcedureOf, passed_goal}
use Rattle.goal_moves.specs.Control.{goal_at, activation}
use Rattle.goal_moves.specs.Moves.{goal_items, called, IsReady}
use Rattle.goal_moves.specs.Untried.{has_more, node_leaves, leaves_one, Leaves, TriesLeave, TakesOff}
use Rattle.goal_moves.proofs.NextLaws.{stops_none, stops_some, procedure_of}
use Rattle.goal_moves.proofs.AttemptLaws.{split_map, unfit_hopeless}
use Rattle.goal_moves.proofs.TryLaws.{resolution_at}
use Rattle.goal_moves.proofs.GoalLaws.{indicator_is, modes_are}
use Rattle.goal_moves.proofs.UntriedLaws.{same_records, same_taken_off}
use Rattle.goal_moves.proofs.UntriedClauses.{behind_skips, behind_none}

module _ (b : CompiledProgram) (lib : IsCompiled b) (p : Path) (a : Active) (ready : IsReady b p a) (is_user : row_of (naming b) (tree_at (state_of p) a.goal) ≡ user (name_of (naming b) (tree_at (state_of p) a.goal)) (arguments_of (tree_at (state_of p) a.goal))) where
  abbrev t : Tree ℕ
  t = tree_at (state_of p) a.goal

  abbrev rest : Items ℕ
  rest = items_here b p a.rest.f a.rest.pc

  abbrev indicator : Indicator ℕ
  indicator = record { name = name_of (naming b) t; arity = count (arguments_of t) }

  abbrev given : Option ℕ → Activation ℕ
  given = by_clauses (naming b) (program_of (linked b)) a.node (goal_at p a) rest (world_here b p) (program_of (linked b)).clauses (name_of (naming b) t) (arguments_of t)

  -- what it does, where it is a procedure's of this definer, or of none
  activates : (o : Option ℕ) → option_map (λ k. (procedure_at (linked b) k).home) (visible_in (linked b).rows a.setting.lookup.0 indicator) ≡ o → activation b p a ≡ given o
  activates o seen =
      ap (row (naming b) nat_eq (program_of (linked b)) a.node (goal_at p a) (name_of (naming b) t) (arity_of (naming b) t) rest (world_here b p) (program_of (linked b)).clauses) is_user ∙ ap given seen

  -- the procedure is not visible: nothing is, and a ball takes records off
  pub unknown_leaves : (new : Path) (i : Indicator ℕ) → indicator_of t ≡ Some i → visible_in (linked b).rows a.setting.lookup.0 i ≡ None → TakesOff p new → Leaves b p new (called b p a.node (goal_items b p a))
  unknown_leaves new i is unseen fewer left =
      same_taken_off p p new refl fewer
      ∙ sym (ap (node_leaves (naming b) (program_of (linked b)).clauses)
      (activates None (ap (option_map (λ k. (procedure_at (linked b) k).home)) (ap (visible_in (linked b).rows a.setting.lookup.0) (indicator_is (naming b) t i is) ∙ unseen))))

  -- ---- a procedure that is visible

  module _ (proc : ℕ) (seen : IsProcedureOf b p a proc) (q : Path) (at : Attempt) (others : q ≡ record p { store = q.store }) (grows : Grows (state_of p) (state_of q)) (next : (state_of q).next ≡ (state_of p).next)
      (tree : tree_at (state_of q) at.goal ≡ passed_goal b t a.setting.context.0 proc) (env : env_of at.setting ≡ body_place (procedure_at (linked b) proc).home a.setting.context.0 (is_some (procedure_at (linked b) proc).modes))
      (depth : at.setting.depth ≡ a.node) (same_rest : at.rest ≡ a.rest) where
    abbrev all_clauses : List (Clause ℕ)
    all_clauses = clauses_from_place (linked b).clauses proc 0

    abbrev place_of_bodies : Environment ℕ
    place_of_bodies = body_place (procedure_at (linked b) proc).home a.setting.context.0 (is_some (procedure_at (linked b) proc).modes)

    same_indicator : indicator ≡ (procedure_at (linked b) proc).indicator
    same_indicator = indicator_is (naming b) t (procedure_at (linked b) proc).indicator seen.indicator

    abbrev res_by : Option (List Bool) → Resolution ℕ
    res_by modes = resolution (naming b) a.node (goal_at p a) rest (world_here b p) (procedure_at (linked b) proc).home (name_of (naming b) t) (arguments_of t) modes

    abbrev res_from : ℕ → Tree ℕ → Environment ℕ → Items ℕ → World ℕ → Resolution ℕ
    res_from d u e items w = record { depth = d; goal = u; env = e; rest = items; world = w }

    same_resolution : resolution_at b q at ≡ res_by (procedure_at (linked b) proc).modes
    same_resolution =
        ap (λ d. res_from d (tree_at (state_of q) at.goal) (env_of at.setting) (items_here b q at.rest.f at.rest.pc) (world_here b q)) depth
        ∙ ap (λ u. res_from a.node u (env_of at.setting) (items_here b q at.rest.f at.rest.pc) (world_here b q)) tree
        ∙ ap (λ e. res_from a.node (passed_goal b t a.setting.context.0 proc) e (items_here b q at.rest.f at.rest.pc) (world_here b q)) env
        ∙ ap (λ (r : Rest). res_from a.node (passed_goal b t a.setting.context.0 proc) place_of_bodies (items_here b q r.f r.pc) (world_here b q)) same_rest
        ∙ ap (λ items. res_from a.node (passed_goal b t a.setting.context.0 proc) place_of_bodies items (world_here b q)) (grown_items b p q others grows a.rest.f a.rest.pc ready.well.frames)
        ∙ ap (λ w. res_from a.node (passed_goal b t a.setting.context.0 proc) place_of_bodies rest w) (grown_world b p q others grows next ready.well.template)

    abbrev opens_by : Option (List Bool) → List (Clause ℕ) → Activation ℕ
    opens_by modes cs = node a.node (map (resolves (res_by modes)) cs)

    -- all of its clauses are tried
    opens : activation b p a ≡ opens_by (procedure_at (linked b) proc).modes all_clauses
    opens =
        activates (Some (procedure_at (linked b) proc).home) (ap (option_map (λ k. (procedure_at (linked b) k).home)) (ap (visible_in (linked b).rows a.setting.lookup.0) same_indicator ∙ seen.seen))
        ∙ ap (λ i. opens_by ((program_of (linked b)).modes (procedure_at (linked b) proc).home i) ((program_of (linked b)).clauses (procedure_at (linked b) proc).home i)) same_indicator
        ∙ ap (λ modes. opens_by modes ((program_of (linked b)).clauses (procedure_at (linked b) proc).home (procedure_at (linked b) proc).indicator)) (modes_are (linked b) proc lib.facts seen.within)
        ∙ ap (opens_by (procedure_at (linked b) proc).modes) (procedures-found (linked b) proc lib.facts seen.within).clauses

    all_leave : node_leaves (naming b) (program_of (linked b)).clauses (activation b p a) ≡ leaves_one (naming b) (program_of (linked b)).clauses (map (resolves (resolution_at b q at)) all_clauses)
    all_leave =
        ap (node_leaves (naming b) (program_of (linked b)).clauses) opens
        ∙ ap (λ (r : Resolution ℕ). leaves_one (naming b) (program_of (linked b)).clauses (map (resolves r) all_clauses)) (sym same_resolution)

    -- none of them may be taken
    pub none_leaves : (key : Key ℕ) → key ≡ key_of (tree_at (state_of q) at.goal) → None ≡ next_place (may_match proc key) 0 (linked b).clauses → Leaves b p q (called b p a.node (goal_items b p a))
    none_leaves key same none left =
        same_records p q (ap (λ (y : Path). y.choices) others)
        ∙ sym (all_leave
        ∙ ap (list_any (is_untried nat_eq)) (behind_none b (program_of (linked b)).clauses (map (resolves (resolution_at b q at)) all_clauses)
        (unfit_hopeless b (resolution_at b q at) all_clauses (subst (λ k. any_fits k all_clauses ≡ false) same (stops_none (linked b).clauses proc key 0 none)))))

    -- the first one that may be taken is tried
    pub first_leaves : (key : Key ℕ) (n : ℕ) (r : Path) → key ≡ key_of (tree_at (state_of q) at.goal) → Some n ≡ next_place (may_match proc key) 0 (linked b).clauses → TriesLeave b q r at n → Leaves b p r (called b p a.node (goal_items b p a))
    first_leaves key n r same some h left =
        let stop = stops_some (linked b).clauses proc key 0 n some in
        let owner = procedure_of (linked b).clauses proc key 0 n (sym some) in
        let split : all_clauses ≡ stop.skipped ++ clauses_on (linked b) n
        = stop.split ∙ ap (λ l. stop.skipped ++ l) (sym (from_here (linked b).clauses proc n stop.within owner) ∙ ap (λ k. clauses_from_place (linked b).clauses k n) (sym owner)) in
        sym (ap (λ (y : Path). has_more y r) others)
        ∙ h
        ∙ sym (all_leave
        ∙ ap (leaves_one (naming b) (program_of (linked b)).clauses) (ap (map (resolves (resolution_at b q at))) split ∙ split_map (resolves (resolution_at b q at)) stop.skipped (clauses_on (linked b) n))
        ∙ ap (list_any (is_untried nat_eq)) (behind_skips b (program_of (linked b)).clauses (map (resolves (resolution_at b q at)) stop.skipped) (map (resolves (resolution_at b q at)) (clauses_on (linked b) n))
        (unfit_hopeless b (resolution_at b q at) stop.skipped (subst (λ k. any_fits k stop.skipped ≡ false) same stop.unfit))))
