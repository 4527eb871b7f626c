-- Cuts.
use Rattle.std.proofs.Common.{◌≡◌, ℕ, ◌+◌, Bool, true, false, List, [], ◌∷◌, Option, refl, sym, ap, ◌∙◌, subst, arith, reverse}
use Rattle.std.specs.Prelude.{nat_lt, nat_eq, if◌then◌else◌}
use Rattle.std.proofs.lemmas.Bool.{ltb-false}
use Rattle.pl_terms.specs.Trees.{Tree}
use Rattle.pl_unify.specs.declared.word.Ref.{Ref}
use Rattle.pl_unify.specs.State.{State, state_at}
use Rattle.solver_model.specs.Search.{Call, Cut, At, Over, Failed, Tries, FrameOf}
use Rattle.solver_model.specs.Frames.{below}
use Rattle.solver_model.specs.Configurations.{Configuration, Turns, Sane, Ungathered, value_of, weight}
use Rattle.solver_model.proofs.TurnLaws.{turns_then, turn_call, turn_last, turn_cut}
use Rattle.goal_model.specs.Bodies.{Goal}
use Rattle.goal_model.specs.Environments.{Environment}
use Rattle.goal_model.specs.Rows.{commit, name_of, arity_of, row_of}
use Rattle.goal_model.specs.Table.{Items, on, row, place}
use Rattle.goal_model.proofs.SaneProofs.{table_sane}
use Rattle.goal_model.proofs.GuardProofs.{table_ok}
use Rattle.pl_store.specs.Runs.{program_of}
use Rattle.goal_state.specs.declared.frames.Frame.{Frame}
use Rattle.goal_state.specs.Frames.{env_of, items_of}
use Rattle.goal_state.specs.declared.choice.Choice.{Choice}
use Rattle.goal_state.specs.declared.choice.ChoiceKind.{ChoiceKind}
use Rattle.goal_state.specs.declared.choice.ChoiceKind.TheVariants.{Clauses, Branch, Catch, Collect}
use Rattle.goal_state.specs.declared.compiled.CompiledProgram.{CompiledProgram}
use Rattle.goal_state.specs.declared.path.Path.{Path}
use Rattle.goal_state.specs.Denotation.{bodies, linked, naming, language_of, state_of, answers_of, items_here, world_here, world_of, frames_by, frame_from, outer_of, outer_answers, first, setting_at, point_here, search_at}
use Rattle.goal_state.specs.Well.{IsWellWith}
use Rattle.goal_state.specs.Steps.{kept, template_kept, answers_kept}
use Rattle.goal_state.proofs.BackLaws.{cut_frames_on, cut_well}
use Rattle.goal_moves.specs.declared.going.Going.TheVariants.{On}
use Rattle.goal_moves.specs.Moves.{called, Moved}
use Rattle.goal_moves.proofs.Steady.{well_deeper}
use Rattle.goal_moves.proofs.Turning.{at_point, stack_of}

-- ---- the term that is collected is that of the records that are left, where no nested search is cut off

outer_kept : (b : CompiledProgram) (v : ℕ) (kind : ChoiceKind) (depth d : ℕ) (σ : State) (rest : Items ℕ) (env : Environment ℕ) (t u : Option Ref) (answers : List (Tree ℕ)) (fs : List (FrameOf (language_of b))) (x : Bool) → nat_lt depth d ≡ x
    → (Ungathered (language_of b) d fs → u ≡ outer_of kind t) → Ungathered (language_of b) d (frame_from b v kind depth σ rest env t answers ∷ fs) → (if x then t else u) ≡ t
outer_kept b v (Clauses c g) depth d σ rest env t u answers fs true e ih h = refl
outer_kept b v (Clauses c g) depth d σ rest env t u answers fs false e ih h = ih h
outer_kept b v Branch depth d σ rest env t u answers fs true e ih h = refl
outer_kept b v Branch depth d σ rest env t u answers fs false e ih h = ih h
outer_kept b v (Catch n c r) depth d σ rest env t u answers fs true e ih h = refl
outer_kept b v (Catch n c r) depth d σ rest env t u answers fs false e ih h = ih h
outer_kept b v (Collect z o) depth d σ rest env t u answers fs true e ih h = refl
outer_kept b v (Collect z o) depth d σ rest env t u answers fs false e ih h = let le = ltb-false depth d e in let lt = h.0 in absurd (omega (arith, le, lt))

template_stays : (b : CompiledProgram) (v : ℕ) (s : State) (frames : List Frame) (d : ℕ) (cs : List Choice) (t : Option Ref) (gs : List (List (Tree ℕ))) → Ungathered (language_of b) d (frames_by b v s frames cs t gs) → template_kept d cs t ≡ t
template_stays b v s frames d [] t gs h = refl
template_stays b v s frames d (c ∷ cs) t gs h =
    outer_kept b v c.kind c.depth d (state_at c.mark s) (items_of (bodies b) (state_at c.mark s) frames c.rest 0) (env_of (setting_at frames c.rest)) t (template_kept d cs (outer_of c.kind t)) (first gs)
    (frames_by b v s frames cs (outer_of c.kind t) (outer_answers c.kind gs)) (nat_lt c.depth d) refl
    (λ k. template_stays b v s frames d cs (outer_of c.kind t) (outer_answers c.kind gs) k) h

-- a turn to what is the same where the search is in order
turns_if : (b : CompiledProgram) (x y z : Configuration (language_of b)) → Turns (language_of b) x y → (Sane (language_of b) x → y ≡ z) → z.left ≡ y.left → weight (language_of b) z ≡ weight (language_of b) y → Turns (language_of b) x z
turns_if b x y z t same left heavy = record {
  value = λ s. sym (ap (value_of (language_of b)) (same s)) ∙ t.value s;
  sane = λ s. subst (Sane (language_of b)) (same s) (t.sane s);
  left = let le = t.left in omega (arith, le, left);
  lighter = λ e. let le = t.lighter (sym left ∙ e) in omega (arith, le, heavy);
}

-- a cut stands first: the records from its depth on are taken off
module _ (b : CompiledProgram) (old q : Path) (e : ℕ) (g : Goal ℕ) (rest : Items ℕ) (deep : old.depth ≡ e + 1) (well : IsWellWith b old (reverse old.choices.items) e)
    (choices : reverse q.choices.items ≡ kept g.reach (reverse old.choices.items)) (template : q.template ≡ template_kept g.reach (reverse old.choices.items) old.template) (answers : answers_of q ≡ answers_kept g.reach (reverse old.choices.items) (answers_of old))
    (others : q ≡ record old { choices = q.choices; template = q.template; gathered = q.gathered }) where
  start : ℕ → Configuration (language_of b)
  start left = called b old e (Call g ∷ rest) left

  cut_turn : (left : ℕ) → row_of (naming b) g.tree ≡ commit → Turns (language_of b) (called b old e (Call g ∷ rest) left) (at_point b (At (place e (Cut g.reach ∷ rest) (world_here b old))) left (stack_of b old))
  cut_turn left is =
      turns_then (language_of b) (called b old e (Call g ∷ rest) left)
      (at_point b (Over Failed) left (Tries e (on e (world_here b old) (Cut g.reach ∷ rest) ∷ []) ∷ stack_of b old))
      (at_point b (At (place e (Cut g.reach ∷ rest) (world_here b old))) left (stack_of b old))
      (turn_call (language_of b) e left (world_here b old) (program_of (linked b)).clauses g rest (stack_of b old) (Over Failed) (Tries e (on e (world_here b old) (Cut g.reach ∷ rest) ∷ []))
      (ap (row (naming b) nat_eq (program_of (linked b)) e g (name_of (naming b) g.tree) (arity_of (naming b) g.tree) rest (world_here b old) (program_of (linked b)).clauses) is)
      (table_sane (naming b) nat_eq (program_of (linked b))))
      (turn_last (language_of b) e left (program_of (linked b)).clauses (program_of (linked b)).clauses (on e (world_here b old) (Cut g.reach ∷ rest)) (Cut g.reach ∷ rest) (world_here b old) (stack_of b old) refl)

  fewer : stack_of b q ≡ below g.reach (stack_of b old)
  fewer = cut_frames_on b old q g.reach choices template answers others

  cut_world : Ungathered (language_of b) g.reach (stack_of b old) → world_here b q ≡ world_here b old
  cut_world u =
      ap (λ r. world_of (state_of r) r.width q.template) others
      ∙ ap (world_of (state_of old) old.width) (template ∙ template_stays b old.width (state_of old) old.frames g.reach (reverse old.choices.items) old.template (answers_of old) u)

  depth_is : q.depth ≡ e + 1
  depth_is = ap (λ r. r.depth) others ∙ deep

  pub moved_cut : (f pc : ℕ) → row_of (naming b) g.tree ≡ commit → items_here b old f pc ≡ rest → Moved b old (record q { f = f; pc = pc }) (called b old e (Call g ∷ rest)) On
  moved_cut f pc is stands =
      let w : IsWellWith b q (reverse q.choices.items) q.depth = well_deeper b q (reverse q.choices.items) e q.depth (omega (arith, depth_is)) (cut_well b old q g.reach e choices template answers others well) in
      let items : items_here b q f pc ≡ rest = ap (λ r. items_of (bodies b) (state_of r) r.frames f pc) others ∙ stands in
      record {
        well = record { store = w.store; frames = w.frames; template = w.template; wide = w.wide; records = w.records; gathered = w.gathered };
        low = let same = ap (λ r. r.depth) others in omega (arith, same);
        width = ap (λ r. r.width) others;
        goes = λ left.
            turns_if b (called b old e (Call g ∷ rest) left)
            (at_point b (At (place e rest (world_here b old))) left (below g.reach (stack_of b old)))
            (search_at b (record q { f = f; pc = pc }) (point_here b (record q { f = f; pc = pc })) left)
            (turns_then (language_of b) (called b old e (Call g ∷ rest) left) (at_point b (At (place e (Cut g.reach ∷ rest) (world_here b old))) left (stack_of b old)) (at_point b (At (place e rest (world_here b old))) left (below g.reach (stack_of b old)))
            (cut_turn left is)
            (turn_cut (language_of b) (table_ok (naming b) nat_eq (program_of (linked b))) (e + 1) left g.reach (world_here b old) (program_of (linked b)).clauses rest (stack_of b old)))
            (λ s.
            let mid = (cut_turn left is).sane s in
            let world : world_here b q ≡ world_here b old = cut_world mid.0.2.0.1 in
            λ i. at_point b (At (record { depth = sym depth_is i; items = sym items i; world = sym world i })) left (sym fewer i))
            refl
            (ap (λ fs. weight (language_of b) (at_point b (At (place e rest (world_here b old))) left fs)) fewer);
      }
