-- The records that a cut leaves.
use Rattle.std.proofs.Common.{◌≡◌, ℕ, ◌+◌, ◌-◌, ◌≤◌, Bool, true, false, List, [], ◌∷◌, Option, Some, None, refl, sym, ap, ◌∙◌, arith, length}
use Rattle.std.specs.Prelude.{nat_lt, if◌then◌else◌}
use Rattle.std.proofs.lemmas.Bool.{ltb-false}
use Rattle.std.proofs.lemmas.List.{length-take}
use Rattle.pl_terms.specs.Trees.{Tree}
use Rattle.pl_unify.specs.declared.word.Ref.{Ref}
use Rattle.pl_unify.specs.declared.store.Mark.{Mark}
use Rattle.pl_unify.specs.State.{State, state_at, IsMark}
use Rattle.solver_model.specs.Search.{FrameOf, depth_of}
use Rattle.solver_model.specs.Frames.{below}
use Rattle.solver_model.specs.Configurations.{Ungathered}
use Rattle.goal_model.specs.Table.{Items}
use Rattle.goal_model.specs.Environments.{Environment}
use Rattle.pl_store.specs.Linked.{Linked}
use Rattle.goal_state.specs.declared.frames.Frame.{Frame}
use Rattle.goal_state.specs.declared.choice.Choice.{Choice}
use Rattle.goal_state.specs.declared.choice.ChoiceKind.{ChoiceKind}
use Rattle.goal_state.specs.declared.choice.ChoiceKind.TheVariants.{Clauses, Branch, Catch, Collect}
use Rattle.goal_state.specs.declared.compiled.CompiledProgram.{CompiledProgram}
use Rattle.goal_state.specs.Denotation.{language_of, outer_of, outer_answers, first, frame_from, frame_by, frames_by}
use Rattle.goal_state.specs.Well.{Stand, TemplateFits, floor_of, collects}
use Rattle.goal_state.specs.Steps.{kept, template_kept, answers_kept}
use Rattle.goal_state.proofs.RecordLaws.{stand_wider}

-- ---- what the records stand for

module _ (b : CompiledProgram) (v : ℕ) where
  kind_depth : (k : ChoiceKind) (d : ℕ) (s : State) (rest : Items ℕ) (env : Environment ℕ) (t : Option Ref) (answers : List (Tree ℕ)) → depth_of (frame_from b v k d s rest env t answers) ≡ d
  kind_depth (Clauses clause goal) d s rest env t answers = refl
  kind_depth Branch d s rest env t answers = refl
  kind_depth (Catch name catcher recovery) d s rest env t answers = refl
  kind_depth (Collect list outer) d s rest env t answers = refl

module _ (b : CompiledProgram) (v : ℕ) (s : State) (frames : List Frame) where
  depth_same : (c : Choice) (t : Option Ref) (answers : List (Tree ℕ)) → depth_of (frame_by b v s frames c t answers) ≡ c.depth
  depth_same c t answers = kind_depth b v c.kind c.depth _ _ _ t answers

  -- they are those below the depth
  pub kept_frames : (d : ℕ) (cs : List Choice) (t : Option Ref) (gs : List (List (Tree ℕ))) → frames_by b v s frames (kept d cs) (template_kept d cs t) (answers_kept d cs gs) ≡ below d (frames_by b v s frames cs t gs)
  kept_frames d [] t gs = refl
  kept_frames d (c ∷ cs) t gs =
      go (nat_lt c.depth d) (kept_frames d cs (outer_of c.kind t) (outer_answers c.kind gs))
      ∙ sym (ap (λ e. elim (nat_lt e d) as (λ _. List (FrameOf (language_of b))) [
        | true ↦ frames_by b v s frames (c ∷ cs) t gs
        | false ↦ below d (frames_by b v s frames cs (outer_of c.kind t) (outer_answers c.kind gs))
      ]) (depth_same c t (first gs)))
    where
      go : (x : Bool) → frames_by b v s frames (kept d cs) (template_kept d cs (outer_of c.kind t)) (answers_kept d cs (outer_answers c.kind gs)) ≡ below d (frames_by b v s frames cs (outer_of c.kind t) (outer_answers c.kind gs))
          → frames_by b v s frames (if x then c ∷ cs else kept d cs) (if x then t else template_kept d cs (outer_of c.kind t)) (if x then gs else answers_kept d cs (outer_answers c.kind gs))
          ≡ elim x as (λ _. List (FrameOf (language_of b))) [
            | true ↦ frames_by b v s frames (c ∷ cs) t gs
            | false ↦ below d (frames_by b v s frames cs (outer_of c.kind t) (outer_answers c.kind gs))
          ]
      go true ih = refl
      go false ih = ih

  -- a cut through no nested search leaves the term that is collected
  pub kept_template : (d : ℕ) (cs : List Choice) (t : Option Ref) (gs : List (List (Tree ℕ))) → Ungathered (language_of b) d (frames_by b v s frames cs t gs) → template_kept d cs t ≡ t
  kept_template d [] t gs h = refl
  kept_template d (c ∷ cs) t gs h = go (nat_lt c.depth d) refl (λ u. kept_template d cs (outer_of c.kind t) (outer_answers c.kind gs) u)
    where
      by_kind : (k : ChoiceKind) (e : ℕ) (σ : State) (rest : Items ℕ) (env : Environment ℕ) → d ≤ e → Ungathered (language_of b) d (frame_from b v k e σ rest env t (first gs) ∷ frames_by b v s frames cs (outer_of k t) (outer_answers k gs))
          → (outer_of k t ≡ t) × Ungathered (language_of b) d (frames_by b v s frames cs (outer_of k t) (outer_answers k gs))
      by_kind (Clauses clause goal) e σ rest env le u = (refl, u)
      by_kind Branch e σ rest env le u = (refl, u)
      by_kind (Catch name catcher recovery) e σ rest env le u = (refl, u)
      by_kind (Collect list outer) e σ rest env le u = absurd (omega (arith, le, u.0))

      go : (x : Bool) → nat_lt c.depth d ≡ x → (Ungathered (language_of b) d (frames_by b v s frames cs (outer_of c.kind t) (outer_answers c.kind gs)) → template_kept d cs (outer_of c.kind t) ≡ outer_of c.kind t)
          → (if x then t else template_kept d cs (outer_of c.kind t)) ≡ t
      go true e ih = refl
      go false e ih =
          let h2 = by_kind c.kind c.depth _ _ _ (ltb-false c.depth d e) h in
          ih h2.1 ∙ h2.0

-- ---- records that stand

fits_later : (m : Mark) (s : State) (t : Option Ref) → IsMark m s → TemplateFits (state_at m s) t → TemplateFits s t
fits_later m s None mark h = tt
fits_later m s (Some r) mark h = omega (arith, h, length-take m.cells s.cells, mark.cells)

floor_stand : (l : Linked) (v : ℕ) (s : State) (frames : List Frame) (top depth : ℕ) (last : Mark) (cs : List Choice) (t : Option Ref) → Stand l v s frames top depth last cs t → floor_of cs ≤ top
floor_stand l v s frames top depth last [] t h = omega arith
floor_stand l v s frames top depth last (c ∷ cs) t h = h.0.rest

module _ (l : Linked) (v : ℕ) (s : State) (frames : List Frame) where
  pub kept_stand : (d top depth : ℕ) (last : Mark) (cs : List Choice) (t : Option Ref) → Stand l v s frames top depth last cs t → Stand l v s frames top depth last (kept d cs) (template_kept d cs t)
  kept_stand d top depth last [] t h = h
  kept_stand d top depth last (c ∷ cs) t h = go (nat_lt c.depth d) (kept_stand d (c.rest - 1) c.depth c.mark cs (outer_of c.kind t) h.1)
    where
      go : (x : Bool) → Stand l v s frames (c.rest - 1) c.depth c.mark (kept d cs) (template_kept d cs (outer_of c.kind t))
          → Stand l v s frames top depth last (if x then c ∷ cs else kept d cs) (if x then t else template_kept d cs (outer_of c.kind t))
      go true ih = h
      go false ih =
          let low = floor_stand l v s frames (c.rest - 1) c.depth c.mark (kept d cs) (template_kept d cs (outer_of c.kind t)) ih in
          stand_wider l v s frames (c.rest - 1) top c.depth depth c.mark last (kept d cs) (template_kept d cs (outer_of c.kind t)) (omega (arith, low, h.0.rest)) (omega (arith, h.0.shallow)) h.0.older ih

  pub kept_fits : (d top depth : ℕ) (last : Mark) (cs : List Choice) (t : Option Ref) → TemplateFits s t → Stand l v s frames top depth last cs t → TemplateFits s (template_kept d cs t)
  kept_fits d top depth last [] t fits h = fits
  kept_fits d top depth last (c ∷ cs) t fits h = go (nat_lt c.depth d) (kept_fits d (c.rest - 1) c.depth c.mark cs (outer_of c.kind t) (fits_later c.mark s (outer_of c.kind t) h.0.mark h.0.template) h.1)
    where
      go : (x : Bool) → TemplateFits s (template_kept d cs (outer_of c.kind t)) → TemplateFits s (if x then t else template_kept d cs (outer_of c.kind t))
      go true ih = fits
      go false ih = ih

-- ---- answers

pub kept_collects : (d : ℕ) (cs : List Choice) (gs : List (List (Tree ℕ))) → collects cs ≡ length gs → collects (kept d cs) ≡ length (answers_kept d cs gs)
kept_collects d [] gs h = h
kept_collects d (c ∷ cs) gs h = go (nat_lt c.depth d) (kept_collects d cs (outer_answers c.kind gs) (by_kind c.kind gs h))
  where
    by_kind : (k : ChoiceKind) (gs : List (List (Tree ℕ))) → elim k as (λ _. ℕ) [ Collect list outer ↦ collects cs + 1 | _ ↦ collects cs ] ≡ length gs → collects cs ≡ length (outer_answers k gs)
    by_kind (Clauses clause goal) gs h = h
    by_kind Branch gs h = h
    by_kind (Catch name catcher recovery) gs h = h
    by_kind (Collect list outer) [] h = absurd (omega (arith, h))
    by_kind (Collect list outer) (g ∷ gs) h = omega (arith, h)

    go : (x : Bool) → collects (kept d cs) ≡ length (answers_kept d cs (outer_answers c.kind gs)) → collects (if x then c ∷ cs else kept d cs) ≡ length (if x then gs else answers_kept d cs (outer_answers c.kind gs))
    go true ih = h
    go false ih = ih
