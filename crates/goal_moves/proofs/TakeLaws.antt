-- Paths on which a clause is taken.
use Rattle.std.proofs.Common.{◌≡◌, ℕ, ◌+◌, ◌<◌, List, ◌++◌, refl, sym, ap, ◌∙◌, subst, arith, length, reverse, map}
use Rattle.pl_terms.specs.Trees.{Tree}
use Rattle.unifier_model.specs.Substitution.{apply, raise}
use Rattle.pl_unify.specs.State.{State, tree_at, bound}
use Rattle.solver_model.specs.Search.{At, FrameOf}
use Rattle.solver_model.specs.Configurations.{Configuration, Turns}
use Rattle.solver_model.proofs.TurnLaws.{stands}
use Rattle.goal_model.specs.Program.{Clause}
use Rattle.goal_model.specs.Table.{Items, World, Resolution, item_under, body_items}
use Rattle.goal_code.specs.Continuations.{Running, items_from}
use Rattle.goal_code.proofs.ContinuationLaws.{body_items_are}
use Rattle.goal_constructs.proofs.NameLaws.{control_names}
use Rattle.goal_state.specs.Frames.{running, env_of}
use Rattle.clause_code.specs.Heads.{Took}
use Rattle.pl_store.specs.Linked.{clause_at}
use Rattle.pl_store.specs.Runs.{program_of}
use Rattle.clause_code.specs.Codes.{code_at}
use Rattle.goal_state.specs.declared.compiled.CompiledProgram.{CompiledProgram}
use Rattle.goal_state.specs.declared.path.Path.{Path}
use Rattle.goal_state.specs.Denotation.{linked, naming, language_of, bodies, state_of, items_here, world_here, frames_on}
use Rattle.goal_state.specs.Well.{IsCompiled, IsWellWith}
use Rattle.goal_state.proofs.PathLaws.{grown_frames_on, grown_well}
use Rattle.goal_state.proofs.BindLaws.{bound_items, bound_world}
use Rattle.goal_moves.specs.declared.procedures.Attempt.{Attempt}
use Rattle.goal_moves.specs.declared.going.Going.TheVariants.{On}
use Rattle.goal_moves.specs.Clauses.{clauses_after, NothingFits, body_setting, body_rest}
use Rattle.goal_moves.specs.Moves.{tried, IsTrying, Moved, Entered, here}
use Rattle.goal_moves.proofs.NextLaws.{clauses_first}
use Rattle.goal_moves.proofs.AttemptLaws.{split_map, items_by, world_by, turn_last_leads}
use Rattle.goal_moves.proofs.TryLaws.{well_deeper, resolution_at, tried_by}

abbrev running_up : CompiledProgram → ℕ → ℕ → Attempt → (Tree ℕ → Tree ℕ) → Running
running_up b c base a up = record { words = (code_at b.codes c).body.words; code = (code_at b.codes c).goals.code; up = up; env = env_of a.setting; reach = a.setting.depth }

-- the items of a clause's body under a unifier
body_under : (b : CompiledProgram) (a : Attempt) (c base : ℕ) (s : State) (bs : List (ℕ × Tree ℕ)) → IsCompiled b → c < length (linked b).clauses → ((t : Tree ℕ) → apply (bound s) (raise base t) ≡ apply bs (raise base t)) → (after : Items ℕ) (outer : ℕ → Items ℕ)
    → items_from (running (bodies b) s (body_setting a c base)) after outer (code_at b.codes c).goals.start
    ≡ map (item_under bs) (body_items (naming b) (raise base (clause_at (linked b) c).clause.body) (env_of a.setting) a.setting.depth) ++ after
body_under b a c base s bs lib lt terms after outer =
    ap (λ (up : Tree ℕ → Tree ℕ). items_from (running_up b c base a up) after outer (code_at b.codes c).goals.start) (λ i. λ t. terms t i)
    ∙ body_items_are (naming b) b.constructs.names.control (code_at b.codes c).body.words (code_at b.codes c).goals.code (code_at b.codes c).goals.start (clause_at (linked b) c).clause.body
    (control_names (naming b) b.constructs lib.constructs) (lib.codes.each c lt).goals base bs (env_of a.setting) a.setting.depth after outer

abbrev pub at_point : (b : CompiledProgram) → ℕ → List (FrameOf (language_of b)) → ℕ → Items ℕ → World ℕ → Configuration (language_of b)
at_point b left fs e items world = stands (language_of b) (At (record { depth = e; items = items; world = world })) left (program_of (linked b)).clauses fs

module _ (b : CompiledProgram) (lib : IsCompiled b) (p q : Path) (a : Attempt) (c base : ℕ) (is_base : base ≡ (state_of p).next) (others : q ≡ record p { store = q.store }) (t : IsTrying b p a c)
    (took : Took (state_of p) (state_of q) (tree_at (state_of p) a.goal) (clause_at (linked b) c).clause.head (clause_at (linked b) c).clause.width) where
  abbrev res : Resolution ℕ
  res = resolution_at b p a

  abbrev clause : Clause ℕ
  clause = (clause_at (linked b) c).clause

  -- what stands where the clause's body was entered on a path x of the same state
  module _ (x r : Path) (state : state_of x ≡ state_of q) (rest : items_here b x a.rest.f a.rest.pc ≡ items_here b q a.rest.f a.rest.pc) (world : world_here b x ≡ world_here b q) (depth : x.depth ≡ p.depth)
      (h : Entered b x r a.rest (here r) (body_rest b x a c base)) where
    reached_depth : r.depth ≡ a.setting.depth + 1
    reached_depth = ap (λ (o : Path). o.depth) h.others ∙ depth ∙ t.depth

    reached_items : items_here b r r.f r.pc ≡ items_by b res clause took.unifier
    reached_items =
        h.goes
        ∙ ap (λ (s : State). items_from (running (bodies b) s (body_setting a c base)) (items_here b x a.rest.f a.rest.pc) (items_here b x a.rest.f) (code_at b.codes c).goals.start) state
        ∙ ap (λ l. items_from (running (bodies b) (state_of q) (body_setting a c base)) l (items_here b x a.rest.f) (code_at b.codes c).goals.start) rest
        ∙ ap (λ n. items_from (running (bodies b) (state_of q) (body_setting a c n)) (items_here b q a.rest.f a.rest.pc) (items_here b x a.rest.f) (code_at b.codes c).goals.start) is_base
        ∙ body_under b a c (state_of p).next (state_of q) took.unifier lib t.fits.0 took.clause_terms (items_here b q a.rest.f a.rest.pc) (items_here b x a.rest.f)
        ∙ ap (λ l. map (item_under took.unifier) (body_items (naming b) (raise (state_of p).next clause.body) (env_of a.setting) a.setting.depth) ++ l) (bound_items b p q took.unifier others took.bound took.places a.rest.f a.rest.pc t.well.frames)
        ∙ sym (split_map (item_under took.unifier) (body_items (naming b) (raise (state_of p).next clause.body) (env_of a.setting) a.setting.depth) (items_here b p a.rest.f a.rest.pc))

    reached_world : world_here b r ≡ world_by b res clause took.unifier
    reached_world =
        ap (λ (o : Path). world_here b o) h.others ∙ world
        ∙ bound_world b p q took.unifier others took.bound took.places ((state_of p).next + clause.width) took.variables took.next t.well.template

    pub reached : (left : ℕ) (fs : List (FrameOf (language_of b))) → at_point b left fs r.depth (items_here b r r.f r.pc) (world_here b r) ≡ at_point b left fs (a.setting.depth + 1) (items_by b res clause took.unifier) (world_by b res clause took.unifier)
    reached left fs =
        ap (λ e. at_point b left fs e (items_here b r r.f r.pc) (world_here b r)) reached_depth
        ∙ ap (λ items. at_point b left fs (a.setting.depth + 1) items (world_here b r)) reached_items
        ∙ ap (λ w. at_point b left fs (a.setting.depth + 1) (items_by b res clause took.unifier) w) reached_world

  same_choices : q.choices.items ≡ p.choices.items
  same_choices = ap (λ (o : Path). o.choices.items) others

  pub mid_frames : frames_on b q (reverse q.choices.items) ≡ frames_on b p (reverse p.choices.items)
  mid_frames = ap (λ cs. frames_on b q (reverse cs)) same_choices ∙ grown_frames_on b p q others took.extends (reverse p.choices.items) a.setting.depth t.well

  pub mid_well : IsWellWith b q (reverse q.choices.items) a.setting.depth
  mid_well = subst (λ cs. IsWellWith b q (reverse cs) a.setting.depth) (sym same_choices) (grown_well b p q others took.extends (reverse p.choices.items) a.setting.depth took.store t.well)

  pub mid_depth : q.depth ≡ p.depth
  mid_depth = ap (λ (o : Path). o.depth) others

  pub mid_width : q.width ≡ p.width
  mid_width = ap (λ (o : Path). o.width) others

  -- the last clause that may be taken is
  pub taken_last : (r : Path) → NothingFits b p a c → Entered b q r a.rest (here r) (body_rest b q a c base) → Moved b p r (tried b p a c) On
  taken_last r none h =
      let depth : r.depth ≡ p.depth = ap (λ (o : Path). o.depth) h.others ∙ mid_depth in
      record {
        well = h.well r.depth (well_deeper b q (reverse q.choices.items) a.setting.depth r.depth (let d = t.depth in omega (arith, d, depth)) mid_well);
        low = omega (arith, depth);
        width = ap (λ (o : Path). o.width) h.others ∙ mid_width;
        goes = λ left.
            subst (λ y. Turns (language_of b) (tried b p a c left) y)
            (sym (ap (λ fs. at_point b left fs r.depth (items_here b r r.f r.pc) (world_here b r)) (h.records a.setting.depth mid_well ∙ mid_frames) ∙ reached q r refl refl refl mid_depth h left (frames_on b p (reverse p.choices.items))))
            (subst (λ cs. Turns (language_of b) (tried_by b p a cs left) (at_point b left (frames_on b p (reverse p.choices.items)) (a.setting.depth + 1) (items_by b res clause took.unifier) (world_by b res clause took.unifier))) (sym (clauses_first b c t.fits.0))
            (turn_last_leads b res left (program_of (linked b)).clauses (frames_on b p (reverse p.choices.items)) clause (clauses_after b c) took.unifier took.solved none));
      }
