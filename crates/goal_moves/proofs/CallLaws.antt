-- Paths on which goals of the program's procedures are activated.
use Rattle.std.proofs.Common.{◌≡◌, ℕ, ◌+◌, ◌≤◌, Bool, false, List, ◌∷◌, ◌++◌, Option, Some, None, Result, Ok, Err, sym, ap, ◌∙◌, subst, arith, length, reverse, map, nat_eq}
use Rattle.pl_atoms.specs.declared.memory.NoMemory.{NoMemory}
use Rattle.pl_terms.specs.Trees.{Tree, count}
use Rattle.pl_unify.specs.declared.word.Ref.{Ref}
use Rattle.pl_unify.specs.State.{tree_at, IsRef, IsStore, Extends, Grows}
use Rattle.solver_model.specs.Search.{Over, Failed, Tries, Thrown, pops}
use Rattle.solver_model.specs.Configurations.{Turns}
use Rattle.solver_model.proofs.TurnLaws.{stands, turns_then, turn_call, turn_ends}
use Rattle.goal_model.specs.Program.{Clause}
use Rattle.goal_model.specs.Bodies.{Goal}
use Rattle.goal_model.specs.Table.{Items, World, Resolution, resolves, row, by_clauses, node, no_procedure, resolution, Moved as Activation}
use Rattle.goal_state.specs.Frames.{env_of}
use Rattle.pl_store.specs.Runs.{program_of}
use Rattle.goal_state.specs.declared.compiled.CompiledProgram.{CompiledProgram}
use Rattle.goal_state.specs.declared.path.Path.{Path}
use Rattle.goal_state.specs.Denotation.{linked, naming, language_of, clauses_on, state_of, items_here, world_here, frames_on}
use Rattle.goal_state.specs.Well.{IsCompiled, IsWellWith}
use Rattle.goal_state.proofs.PathLaws.{grown_frames_on, grown_well}
use Rattle.goal_moves.specs.declared.procedures.Attempt.{Attempt}
use Rattle.goal_moves.specs.declared.going.Going.TheVariants.{Fails}
use Rattle.goal_moves.specs.Moves.{tried, IsTrying, Moved, goal_items, called, thrown, IsReady}
use Rattle.goal_moves.proofs.Proper.{store_proper}
use Rattle.goal_moves.proofs.AttemptLaws.{split_map, unfit_hopeless}
use Rattle.goal_moves.proofs.TryLaws.{well_deeper, resolution_at, tried_by, failed_over}
use Rattle.std.specs.Prelude.{is_some, IfOk}
use Rattle.std.specs.Option.{option_map}
use Rattle.unit_model.specs.Facts.{Indicator}
use Rattle.solver_model.proofs.SkipLaws.{turn_hopeless, turn_skips}
use Rattle.pl_terms.specs.Occurrence.{canon}
use Rattle.goal_model.specs.Choices.{Key, key_of}
use Rattle.goal_model.specs.Environments.{body_place}
use Rattle.goal_model.specs.Rows.{row_of, name_of, arity_of, user}
use Rattle.goal_model.proofs.SaneProofs.{table_sane}
use Rattle.goal_constructs.specs.Goals.{arguments_of}
use Rattle.pl_store.specs.Linked.{procedure_at, visible_in, may_match}
use Rattle.pl_store.specs.Places.{next_place}
use Rattle.pl_store.specs.Rules.{indicator_of}
use Rattle.pl_store.specs.Walks.{clauses_from_place, any_fits}
use Rattle.pl_store.proofs.WalkLaws.{procedures-found}
use Rattle.goal_state.proofs.BindLaws.{grown_items, grown_world}
use Rattle.goal_moves.specs.declared.active.Active.{Active}
use Rattle.goal_moves.specs.declared.going.Going.{Going}
use Rattle.goal_moves.specs.Clauses.{IsProcedureOf, passed_goal}
use Rattle.goal_state.proofs.OpenRecords.{from_here}
use Rattle.goal_moves.proofs.NextLaws.{stops_none, stops_some, procedure_of}
use Rattle.goal_moves.proofs.AfterLaws.{moved_after}
use Rattle.goal_moves.proofs.GoalLaws.{indicator_is, modes_are, passed_indicator, visible_is}

-- a store that grew
pub grown_deeper : (b : CompiledProgram) (p q : Path) (a : Active) → q ≡ record p { store = q.store } → Extends (state_of p) (state_of q) → IsStore (state_of q) → IsReady b p a → IsWellWith b q (reverse q.choices.items) q.depth
grown_deeper b p q a others more store ready =
    let depth : q.depth ≡ p.depth = ap (λ (y : Path). y.depth) others in
    let d = ready.depth in
    well_deeper b q (reverse q.choices.items) a.node q.depth (omega (arith, depth, d))
    (subst (λ cs. IsWellWith b q (reverse cs) a.node) (sym (ap (λ (y : Path). y.choices.items) others)) (grown_well b p q others more (reverse p.choices.items) a.node store ready.well))

grown_frames : (b : CompiledProgram) (p q : Path) (a : Active) → q ≡ record p { store = q.store } → Extends (state_of p) (state_of q) → IsReady b p a → frames_on b q (reverse q.choices.items) ≡ frames_on b p (reverse p.choices.items)
grown_frames b p q a others more ready = ap (λ cs. frames_on b q (reverse cs)) (ap (λ (y : Path). y.choices.items) others) ∙ grown_frames_on b p q others more (reverse p.choices.items) a.node ready.well

module _ (b : CompiledProgram) (lib : IsCompiled b) (p : Path) (a : Active) (ready : IsReady b p a) (is_user : row_of (naming b) (tree_at (state_of p) a.goal) ≡ user (name_of (naming b) (tree_at (state_of p) a.goal)) (arguments_of (tree_at (state_of p) a.goal))) where
  abbrev t : Tree ℕ
  t = tree_at (state_of p) a.goal

  abbrev goal : Goal ℕ
  goal = record { tree = tree_at (state_of p) a.goal; env = env_of a.setting; reach = a.setting.depth }

  abbrev rest : Items ℕ
  rest = items_here b p a.rest.f a.rest.pc

  abbrev indicator : Indicator ℕ
  indicator = record { name = name_of (naming b) t; arity = count (arguments_of t) }

  abbrev activated : Activation ℕ
  activated = row (naming b) nat_eq (program_of (linked b)) a.node goal (name_of (naming b) t) (arity_of (naming b) t) rest (world_here b p) (program_of (linked b)).clauses (row_of (naming b) t)

  activates : (o : Option ℕ) → option_map (λ k. (procedure_at (linked b) k).home) (visible_in (linked b).rows a.setting.lookup.0 indicator) ≡ o
      → activated ≡ by_clauses (naming b) (program_of (linked b)) a.node goal rest (world_here b p) (program_of (linked b)).clauses (name_of (naming b) t) (arguments_of t) o
  activates o seen =
      ap (row (naming b) nat_eq (program_of (linked b)) a.node goal (name_of (naming b) t) (arity_of (naming b) t) rest (world_here b p) (program_of (linked b)).clauses) is_user
      ∙ ap (by_clauses (naming b) (program_of (linked b)) a.node goal rest (world_here b p) (program_of (linked b)).clauses (name_of (naming b) t) (arguments_of t)) seen

  -- the procedure is not visible
  pub unknown : (q r : Path) (ball : Ref) (i : Indicator ℕ) (g : Going) → q ≡ record p { store = q.store } → Grows (state_of p) (state_of q) → indicator_of t ≡ Some i → visible_in (linked b).rows a.setting.lookup.0 i ≡ None
      → tree_at (state_of q) ball ≡ no_procedure (naming b) i.name i.arity a.setting.lookup.0
      → Moved b q r (thrown b q (canon (tree_at (state_of q) ball)) (pops (items_here b q a.rest.f a.rest.pc))) g
      → Moved b p r (called b p a.node (goal_items b p a)) g
  unknown q r ball i g others grows is unseen tree h =
      let same : indicator ≡ i = indicator_is (naming b) t i is in
      moved_after b p q r (called b p a.node (goal_items b p a)) (thrown b q (canon (tree_at (state_of q) ball)) (pops (items_here b q a.rest.f a.rest.pc))) g
      (let depth : q.depth ≡ p.depth = ap (λ (y : Path). y.depth) others in omega (arith, depth)) (ap (λ (y : Path). y.width) others)
      (λ left. subst (λ y. Turns (language_of b) (called b p a.node (goal_items b p a) left) y)
      (sym (ap (λ fs. stands (language_of b) (Over (Thrown (canon (tree_at (state_of q) ball)) (pops (items_here b q a.rest.f a.rest.pc)))) left (program_of (linked b)).clauses fs) (grown_frames b p q a others grows.extends ready)
      ∙ ap (λ u. stands (language_of b) (Over (Thrown (canon u) (pops (items_here b q a.rest.f a.rest.pc)))) left (program_of (linked b)).clauses (frames_on b p (reverse p.choices.items))) (tree ∙ ap (λ (j : Indicator ℕ). no_procedure (naming b) j.name j.arity a.setting.lookup.0) (sym same))
      ∙ ap (λ items. stands (language_of b) (Over (Thrown (canon (no_procedure (naming b) (name_of (naming b) t) (count (arguments_of t)) a.setting.lookup.0)) (pops items))) left (program_of (linked b)).clauses (frames_on b p (reverse p.choices.items))) (grown_items b p q others grows a.rest.f a.rest.pc ready.well.frames)))
      (turn_ends (language_of b) a.node left (world_here b p) (program_of (linked b)).clauses goal rest (frames_on b p (reverse p.choices.items)) (Thrown (canon (no_procedure (naming b) (name_of (naming b) t) (count (arguments_of t)) a.setting.lookup.0)) (pops rest))
      (activates None (ap (option_map (λ k. (procedure_at (linked b) k).home)) (ap (visible_in (linked b).rows a.setting.lookup.0) same ∙ unseen))) (table_sane (naming b) nat_eq (program_of (linked b)))))
      h

  -- ---- a procedure that is visible

  module _ (proc : ℕ) (seen : IsProcedureOf b p a proc) (q : Path) (at : Attempt) (others : q ≡ record p { store = q.store }) (grows : Grows (state_of p) (state_of q)) (next : (state_of q).next ≡ (state_of p).next)
      (tree : tree_at (state_of q) at.goal ≡ passed_goal b t a.setting.context.0 proc) (env : env_of at.setting ≡ body_place (procedure_at (linked b) proc).home a.setting.context.0 (is_some (procedure_at (linked b) proc).modes))
      (depth : at.setting.depth ≡ a.node) (same_rest : at.rest ≡ a.rest) where
    abbrev pub all_clauses : List (Clause ℕ)
    all_clauses = clauses_from_place (linked b).clauses proc 0

    same_indicator : indicator ≡ (procedure_at (linked b) proc).indicator
    same_indicator = indicator_is (naming b) t (procedure_at (linked b) proc).indicator seen.indicator

    abbrev res_by : Option (List Bool) → Resolution ℕ
    res_by modes = resolution (naming b) a.node goal rest (world_here b p) (procedure_at (linked b) proc).home (name_of (naming b) t) (arguments_of t) modes

    abbrev res_from : ℕ → Tree ℕ → Rattle.goal_model.specs.Environments.Environment ℕ → Items ℕ → World ℕ → Resolution ℕ
    res_from d u e items w = record { depth = d; goal = u; env = e; rest = items; world = w }

    same_resolution : resolution_at b q at ≡ res_by (procedure_at (linked b) proc).modes
    same_resolution =
        ap (λ d. res_from d (tree_at (state_of q) at.goal) (env_of at.setting) (items_here b q at.rest.f at.rest.pc) (world_here b q)) depth
        ∙ ap (λ u. res_from a.node u (env_of at.setting) (items_here b q at.rest.f at.rest.pc) (world_here b q)) tree
        ∙ ap (λ e. res_from a.node (passed_goal b t a.setting.context.0 proc) e (items_here b q at.rest.f at.rest.pc) (world_here b q)) env
        ∙ ap (λ (r : Rattle.goal_moves.specs.declared.active.Rest.Rest). res_from a.node (passed_goal b t a.setting.context.0 proc) (body_place (procedure_at (linked b) proc).home a.setting.context.0 (is_some (procedure_at (linked b) proc).modes)) (items_here b q r.f r.pc) (world_here b q)) same_rest
        ∙ ap (λ items. res_from a.node (passed_goal b t a.setting.context.0 proc) (body_place (procedure_at (linked b) proc).home a.setting.context.0 (is_some (procedure_at (linked b) proc).modes)) items (world_here b q)) (grown_items b p q others grows a.rest.f a.rest.pc ready.well.frames)
        ∙ ap (λ w. res_from a.node (passed_goal b t a.setting.context.0 proc) (body_place (procedure_at (linked b) proc).home a.setting.context.0 (is_some (procedure_at (linked b) proc).modes)) rest w) (grown_world b p q others grows next ready.well.template)

    abbrev opens_by : Option (List Bool) → List (Clause ℕ) → Activation ℕ
    opens_by modes cs = node a.node (map (resolves (res_by modes)) cs)

    opens : activated ≡ opens_by (procedure_at (linked b) proc).modes all_clauses
    opens =
        activates (Some (procedure_at (linked b) proc).home) (ap (option_map (λ k. (procedure_at (linked b) k).home)) (ap (visible_in (linked b).rows a.setting.lookup.0) same_indicator ∙ seen.seen))
        ∙ ap (λ i. opens_by ((program_of (linked b)).modes (procedure_at (linked b) proc).home i) ((program_of (linked b)).clauses (procedure_at (linked b) proc).home i)) same_indicator
        ∙ ap (λ modes. opens_by modes ((program_of (linked b)).clauses (procedure_at (linked b) proc).home (procedure_at (linked b) proc).indicator)) (modes_are (linked b) proc lib.facts seen.within)
        ∙ ap (opens_by (procedure_at (linked b) proc).modes) (procedures-found (linked b) proc lib.facts seen.within).clauses

    -- all of its clauses are tried
    tries_all : (left : ℕ) → Turns (language_of b) (called b p a.node (goal_items b p a) left) (tried_by b q at all_clauses left)
    tries_all left =
        subst (λ y. Turns (language_of b) (called b p a.node (goal_items b p a) left) y)
        (sym (ap (λ fs. failed_over b left (Tries at.setting.depth (map (resolves (resolution_at b q at)) all_clauses) ∷ fs)) (grown_frames b p q a others grows.extends ready)
        ∙ ap (λ d. failed_over b left (Tries d (map (resolves (resolution_at b q at)) all_clauses) ∷ frames_on b p (reverse p.choices.items))) depth
        ∙ ap (λ r. failed_over b left (Tries a.node (map (resolves r) all_clauses) ∷ frames_on b p (reverse p.choices.items))) same_resolution))
        (turn_call (language_of b) a.node left (world_here b p) (program_of (linked b)).clauses goal rest (frames_on b p (reverse p.choices.items)) (Over Failed) (Tries a.node (map (resolves (res_by (procedure_at (linked b) proc).modes)) all_clauses))
        opens (table_sane (naming b) nat_eq (program_of (linked b))))

    -- none of them may be taken
    pub none_left : (key : Key ℕ) → key ≡ key_of (tree_at (state_of q) at.goal) → IsStore (state_of q) → None ≡ next_place (may_match proc key) 0 (linked b).clauses → Moved b p q (called b p a.node (goal_items b p a)) Fails
    none_left key same store none = record {
      well = grown_deeper b p q a others grows.extends store ready;
      low = let d : q.depth ≡ p.depth = ap (λ (y : Path). y.depth) others in omega (arith, d);
      width = ap (λ (y : Path). y.width) others;
      goes = λ left.
          turns_then (language_of b) (called b p a.node (goal_items b p a) left) (tried_by b q at all_clauses left) (failed_over b left (frames_on b q (reverse q.choices.items)))
          (tries_all left)
          (turn_hopeless (language_of b) (Over Failed) left (program_of (linked b)).clauses at.setting.depth (map (resolves (resolution_at b q at)) all_clauses) (frames_on b q (reverse q.choices.items))
          (unfit_hopeless b (resolution_at b q at) all_clauses (subst (λ k. any_fits k all_clauses ≡ false) same (stops_none (linked b).clauses proc key 0 none))));
    }

    -- the first one that may be taken is tried
    pub first_tried : (key : Key ℕ) (n : ℕ) (r : Path) (g : Going) → key ≡ key_of (tree_at (state_of q) at.goal) → Some n ≡ next_place (may_match proc key) 0 (linked b).clauses → Moved b q r (tried b q at n) g → Moved b p r (called b p a.node (goal_items b p a)) g
    first_tried key n r g same some h =
        let stop = stops_some (linked b).clauses proc key 0 n some in
        let owner = procedure_of (linked b).clauses proc key 0 n (sym some) in
        let split : all_clauses ≡ stop.skipped ++ clauses_on (linked b) n
        = stop.split ∙ ap (λ l. stop.skipped ++ l) (sym (from_here (linked b).clauses proc n stop.within owner) ∙ ap (λ k. clauses_from_place (linked b).clauses k n) (sym owner)) in
        moved_after b p q r (called b p a.node (goal_items b p a)) (tried b q at n) g
        (let d : q.depth ≡ p.depth = ap (λ (y : Path). y.depth) others in omega (arith, d)) (ap (λ (y : Path). y.width) others)
        (λ left. turns_then (language_of b) (called b p a.node (goal_items b p a) left) (tried_by b q at all_clauses left) (tried b q at n left)
        (tries_all left)
        (subst (λ alts. Turns (language_of b) (failed_over b left (Tries at.setting.depth alts ∷ frames_on b q (reverse q.choices.items))) (tried b q at n left)) (sym (ap (map (resolves (resolution_at b q at))) split ∙ split_map (resolves (resolution_at b q at)) stop.skipped (clauses_on (linked b) n)))
        (turn_skips (language_of b) at.setting.depth left (program_of (linked b)).clauses (map (resolves (resolution_at b q at)) stop.skipped) (map (resolves (resolution_at b q at)) (clauses_on (linked b) n)) (frames_on b q (reverse q.choices.items))
        (unfit_hopeless b (resolution_at b q at) stop.skipped (subst (λ k. any_fits k stop.skipped ≡ false) same stop.unfit)))))
        h

    -- and may be tried
    pub first_trying : (key : Key ℕ) (n : ℕ) → Some n ≡ next_place (may_match proc key) 0 (linked b).clauses → IsStore (state_of q) → IsRef (state_of q) at.goal → at.setting.base ≡ 0 → IsTrying b q at n
    first_trying key n some store is base =
        let stop = stops_some (linked b).clauses proc key 0 n some in
        let owner = procedure_of (linked b).clauses proc key 0 n (sym some) in
        record {
          well = subst (λ d. IsWellWith b q (reverse q.choices.items) d) (sym depth)
              (subst (λ cs. IsWellWith b q (reverse cs) a.node) (sym (ap (λ (y : Path). y.choices.items) others)) (grown_well b p q others grows.extends (reverse p.choices.items) a.node store ready.well));
          depth = ap (λ (y : Path). y.depth) others ∙ ready.depth ∙ ap (λ d. d + 1) (sym depth);
          goal = is;
          rest = subst (λ (r : Rattle.goal_moves.specs.declared.active.Rest.Rest). r.f ≤ length q.frames) (sym same_rest) (subst (λ (y : Path). a.rest.f ≤ length y.frames) (sym others) ready.rest);
          base = omega (arith, base);
          fits = (stop.within, ap indicator_of tree ∙ passed_indicator b t a.setting.context.0 proc (store_proper (state_of p) a.goal ready.well.store ready.goal) seen.indicator ∙ ap (λ k. Some (procedure_at (linked b) k).indicator) (sym owner));
        }

pub if_ok_map : (result : Result Going NoMemory) (P Q : Going → Type 0) → ((g : Going) → P g → Q g) → IfOk result P → IfOk result Q
if_ok_map (Ok g) P Q h p = h g p
if_ok_map (Err e) P Q h p = tt

-- the attempt of a goal whose clauses are looked up
abbrev pub attempt_of : CompiledProgram → Active → ℕ → Ref → Attempt
attempt_of b a proc goal =
    let e = body_place (procedure_at (linked b) proc).home a.setting.context.0 (is_some (procedure_at (linked b) proc).modes) in
    record { goal = goal; setting = record { clause = 0; base = 0; lookup = record { 0 = e.lookup }; context = record { 0 = e.context }; caller = record { 0 = e.caller }; depth = a.node }; rest = a.rest }

pub procedure_seen : (b : CompiledProgram) (p : Path) (a : Active) (i : Indicator ℕ) (proc : ℕ) → IsCompiled b → indicator_of (tree_at (state_of p) a.goal) ≡ Some i → Some proc ≡ visible_in (linked b).rows a.setting.lookup.0 i → IsProcedureOf b p a proc
procedure_seen b p a i proc lib is seen =
    let found = visible_is (linked b) a.setting.lookup.0 i proc lib.facts (sym seen) in
    record {
      within = found.0;
      indicator = is ∙ ap (λ (j : Indicator ℕ). Some j) (sym found.1);
      seen = ap (visible_in (linked b).rows a.setting.lookup.0) found.1 ∙ sym seen;
    }
