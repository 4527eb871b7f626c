-- Paths on which clauses are tried.
use Rattle.std.proofs.Common.{◌≡◌, ℕ, ◌≤◌, List, [], ◌∷◌, Some, None, Result, Ok, Err, OnOk, sym, ap, ◌∙◌, subst, arith, length, reverse, map}
use Rattle.pl_atoms.specs.declared.memory.NoMemory.{NoMemory}
use Rattle.unifier_model.specs.Substitution.{raise}
use Rattle.unifier_model.specs.Mgu.{mgu}
use Rattle.pl_unify.specs.declared.store.Mark.{Mark}
use Rattle.pl_unify.specs.declared.word.Ref.{Ref}
use Rattle.pl_unify.specs.State.{State, tree_at, IsRef, IsStore, Extends}
use Rattle.pl_unify.specs.Code.{last_tree}
use Rattle.pl_unify.specs.Shape.{root}
use Rattle.pl_unify.proofs.StoreLaws.{Extends-refl}
use Rattle.solver_model.specs.Search.{Over, Failed, Tries, FrameOf}
use Rattle.solver_model.specs.Configurations.{Configuration, Turns}
use Rattle.solver_model.proofs.TurnLaws.{stands}
use Rattle.goal_model.specs.Program.{Clause}
use Rattle.goal_model.specs.Table.{Resolution, resolves}
use Rattle.goal_code.specs.Continuations.{items_from}
use Rattle.goal_state.specs.Frames.{running, env_of}
use Rattle.pl_store.specs.Linked.{Linked, clause_at}
use Rattle.pl_store.specs.Runs.{program_of}
use Rattle.clause_code.specs.declared.codes.ClauseCode.{ClauseCode}
use Rattle.clause_code.specs.Codes.{code_at}
use Rattle.goal_state.specs.declared.choice.Choice.{Choice}
use Rattle.goal_state.specs.declared.compiled.CompiledProgram.{CompiledProgram}
use Rattle.goal_state.specs.declared.path.Path.{Path}
use Rattle.goal_state.specs.Denotation.{linked, language_of, bodies, clauses_on, state_of, items_here, world_here, frames_on}
use Rattle.goal_state.specs.Well.{IsCompiled, Older, IsWellWith, IsGoalOf, floor_of, mark_of}
use Rattle.goal_state.proofs.RecordLaws.{stand_wider}
use Rattle.goal_state.proofs.PathLaws.{grown_frames_on, grown_well}
use Rattle.goal_moves.specs.declared.procedures.Attempt.{Attempt}
use Rattle.goal_moves.specs.declared.going.Going.TheVariants.{Fails}
use Rattle.goal_moves.specs.Clauses.{IsProper, clauses_after, NothingFits, FitsNext, WasSkipped, body_setting, body_rest}
use Rattle.goal_moves.specs.Moves.{tried, IsTrying, Moved, Entered, here}
use Rattle.goal_moves.proofs.Proper.{store_proper, roots_agree}
use Rattle.goal_moves.proofs.NextLaws.{clauses_first}
use Rattle.goal_moves.proofs.AttemptLaws.{turn_last_fails, turn_next}

pub take_enters : (b : CompiledProgram) (p q : Path) (a : Attempt) (c base start : ℕ) (code : ClauseCode) (result : Result (Unit {0}) NoMemory) → code ≡ code_at b.codes c → start ≡ code.goals.start
    → OnOk result ((l : CompiledProgram) → Entered l p q a.rest (here q) (items_from (running (bodies l) (state_of p) (body_setting a c base)) (items_here l p a.rest.f a.rest.pc) (items_here l p a.rest.f) start))
    → OnOk result (Entered b p q a.rest (here q) (body_rest b p a c base))
take_enters b p q a c base start code result is at h = on_ok result h
  where
    same : start ≡ (code_at b.codes c).goals.start
    same = at ∙ ap (λ (k : ClauseCode). k.goals.start) is

    on_ok : (r : Result (Unit {0}) NoMemory) → OnOk r ((l : CompiledProgram) → Entered l p q a.rest (here q) (items_from (running (bodies l) (state_of p) (body_setting a c base)) (items_here l p a.rest.f a.rest.pc) (items_here l p a.rest.f) start)) → OnOk r (Entered b p q a.rest (here q) (body_rest b p a c base))
    on_ok (Ok u) h = subst (λ n. Entered b p q a.rest (here q) (items_from (running (bodies b) (state_of p) (body_setting a c base)) (items_here b p a.rest.f a.rest.pc) (items_here b p a.rest.f) n)) same (h b)
    on_ok (Err e) h = tt

-- the goal and the head have the same root
pub heads_agree : (b : CompiledProgram) (p : Path) (goal : Ref) (c : ℕ) (code : ClauseCode) → IsCompiled b → IsStore (state_of p) → IsRef (state_of p) goal → IsGoalOf (linked b) c (tree_at (state_of p) goal)
    → IsProper (clause_at (linked b) c).clause.head → code ≡ code_at b.codes c → root (tree_at (state_of p) goal) ≡ root (last_tree code.head.words)
heads_agree b p goal c code lib store is fits proper same =
    let entered = lib.facts.clauses c fits.0 in
    let coded = lib.codes.each c fits.0 in
    roots_agree (tree_at (state_of p) goal) (clause_at (linked b) c).clause.head _ (store_proper (state_of p) goal store is) proper fits.1 entered.clause.head
    ∙ ap root (sym (ap (λ (k : ClauseCode). last_tree k.head.words) same ∙ coded.head))

-- ---- records around a deeper node

older_refl : (m : Mark) → Older m m
older_refl m = record { cells = omega arith; trail = omega arith; vars = omega arith }

pub floor_low : (b : CompiledProgram) (p : Path) (cs : List Choice) (depth : ℕ) → IsWellWith b p cs depth → floor_of cs ≤ length p.frames
floor_low b p [] depth w = omega arith
floor_low b p (c ∷ cs) depth w = w.records.0.rest

pub well_deeper : (b : CompiledProgram) (p : Path) (cs : List Choice) (d e : ℕ) → d ≤ e → IsWellWith b p cs d → IsWellWith b p cs e
well_deeper b p cs d e le w = record {
  store = w.store;
  frames = w.frames;
  template = w.template;
  wide = w.wide;
  records = stand_wider (linked b) p.width (state_of p) p.frames (length p.frames) (length p.frames) d e (mark_of (state_of p)) (mark_of (state_of p)) cs p.template (floor_low b p cs d w) le (older_refl (mark_of (state_of p))) w.records;
  gathered = w.gathered;
}

-- ---- clauses that are not taken

abbrev pub resolution_at : CompiledProgram → Path → Attempt → Resolution ℕ
resolution_at b p a = record { depth = a.setting.depth; goal = tree_at (state_of p) a.goal; env = env_of a.setting; rest = items_here b p a.rest.f a.rest.pc; world = world_here b p }

abbrev pub failed_over : (b : CompiledProgram) → ℕ → List (FrameOf (language_of b)) → Configuration (language_of b)
failed_over b left fs = stands (language_of b) (Over Failed) left (program_of (linked b)).clauses fs

abbrev pub tried_by : (b : CompiledProgram) → Path → Attempt → List (Clause ℕ) → ℕ → Configuration (language_of b)
tried_by b p a cs left = failed_over b left (Tries a.setting.depth (map (resolves (resolution_at b p a)) cs) ∷ frames_on b p (reverse p.choices.items))

module _ (b : CompiledProgram) (p q : Path) (a : Attempt) (c : ℕ) (others : q ≡ record p { store = q.store }) (more : Extends (state_of p) (state_of q)) (store : IsStore (state_of q)) (t : IsTrying b p a c) where
  mid_choices : q.choices ≡ p.choices
  mid_choices = ap (λ (r : Path). r.choices) others

  mid_depth : q.depth ≡ p.depth
  mid_depth = ap (λ (r : Path). r.depth) others

  mid_width : q.width ≡ p.width
  mid_width = ap (λ (r : Path). r.width) others

  mid_frames : frames_on b q (reverse q.choices.items) ≡ frames_on b p (reverse p.choices.items)
  mid_frames = ap (λ cs. frames_on b q (reverse cs)) (ap (λ (r : Path). r.choices.items) others) ∙ grown_frames_on b p q others more (reverse p.choices.items) a.setting.depth t.well

  mid_well : IsWellWith b q (reverse q.choices.items) a.setting.depth
  mid_well = subst (λ cs. IsWellWith b q (reverse cs) a.setting.depth) (sym (ap (λ (r : Path). r.choices.items) others)) (grown_well b p q others more (reverse p.choices.items) a.setting.depth store t.well)

  pub gone : mgu ((tree_at (state_of p) a.goal, raise (state_of p).next (clause_at (linked b) c).clause.head) ∷ []) ≡ None → NothingFits b p a c → Moved b p q (tried b p a c) Fails × (q.choices ≡ p.choices)
  gone h none = (
    record {
      well = well_deeper b q (reverse q.choices.items) a.setting.depth q.depth (let d = t.depth in omega (arith, d, mid_depth)) mid_well;
      low = omega (arith, mid_depth);
      width = mid_width;
      goes = λ left.
          subst (λ fs. Turns (language_of b) (tried b p a c left) (failed_over b left fs)) (sym mid_frames)
          (subst (λ cs. Turns (language_of b) (tried_by b p a cs left) (failed_over b left (frames_on b p (reverse p.choices.items)))) (sym (clauses_first b c t.fits.0))
          (turn_last_fails b (resolution_at b p a) left (program_of (linked b)).clauses (frames_on b p (reverse p.choices.items)) (clause_at (linked b) c).clause (clauses_after b c) h none));
    },
    mid_choices,
  )

abbrev pub with_state : Path → State → Path
with_state p s = record p { store = record p.store { state = s } }

tried_same : (b : CompiledProgram) (p q : Path) (a : Attempt) (n left : ℕ) → q ≡ record p { store = q.store } → state_of q ≡ state_of p → tried b q a n left ≡ tried b p a n left
tried_same b p q a n left others same = ap (λ (r : Path). tried b r a n left) others ∙ ap (λ s. tried b (with_state p s) a n left) same

-- the state is as before, and the next clause that may be taken is tried
pub was_skipped : (b : CompiledProgram) (p q : Path) (a : Attempt) (c n : ℕ) → q ≡ record p { store = q.store } → state_of q ≡ state_of p → IsTrying b p a c → FitsNext b p a c n
    → mgu ((tree_at (state_of p) a.goal, raise (state_of p).next (clause_at (linked b) c).clause.head) ∷ []) ≡ None → WasSkipped b p q a c n
was_skipped b p q a c n others same t next h = record {
  trying = record {
    well = mid_well b p q a c others more store t;
    depth = mid_depth b p q a c others more store t ∙ t.depth;
    goal = subst (λ s. IsRef s a.goal) (sym same) t.goal;
    rest = subst (λ (r : Path). a.rest.f ≤ length r.frames) (sym others) t.rest;
    base = subst (λ (s : State). a.setting.base ≤ s.next) (sym same) t.base;
    fits = subst (λ s. IsGoalOf (linked b) n (tree_at s a.goal)) (sym same) goal_of_next;
  };
  state = same;
  later = next.later;
  choices = mid_choices b p q a c others more store t;
  depth = mid_depth b p q a c others more store t;
  width = mid_width b p q a c others more store t;
  goes = λ left.
      subst (λ y. Turns (language_of b) (tried b p a c left) y) (sym (tried_same b p q a n left others same))
      (subst (λ cs. Turns (language_of b) (tried_by b p a cs left) (tried b p a n left)) (sym (clauses_first b c t.fits.0 ∙ ap (λ l. (clause_at (linked b) c).clause ∷ l) next.split))
      (turn_next b (resolution_at b p a) left (program_of (linked b)).clauses (frames_on b p (reverse p.choices.items)) (clause_at (linked b) c).clause next.skipped (clauses_on (linked b) n) h next.unfit));
}
  where
    more : Extends (state_of p) (state_of q)
    more = subst (Extends (state_of p)) (sym same) (Extends-refl (state_of p))

    store : IsStore (state_of q)
    store = subst IsStore (sym same) t.well.store

    goal_of_next : IsGoalOf (linked b) n (tree_at (state_of p) a.goal)
    goal_of_next = (next.within, t.fits.1 ∙ ap (λ k. Some (Rattle.pl_store.specs.Linked.procedure_at (linked b) k).indicator) (sym next.same))
