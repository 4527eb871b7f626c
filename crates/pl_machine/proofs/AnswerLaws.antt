-- An answer of the run.
use Rattle.std.proofs.Common.{◌≡◌, ℕ, ◌-◌, List, [], ◌∷◌, Option, None, refl, sym, ap, ◌∙◌, subst, length, reverse}
use Rattle.std.specs.Prelude.{is_some, true}
use Rattle.pl_terms.specs.Trees.{Tree}
use Rattle.pl_unify.specs.declared.word.Ref.{Ref}
use Rattle.pl_unify.specs.declared.store.Mark.{Mark}
use Rattle.pl_unify.specs.State.{State, Extends, state_at}
use Rattle.solver_model.specs.Search.{Event, Ans, Over, Failed, Language, FrameOf}
use Rattle.solver_model.specs.Frames.{emit, heard}
use Rattle.solver_model.specs.Configurations.{Tells}
use Rattle.solver_model.proofs.TellLaws.{tell_answer}
use Rattle.goal_state.specs.declared.frames.Frame.{Frame}
use Rattle.goal_state.specs.Frames.{env_of}
use Rattle.pl_store.specs.Linked.{Linked}
use Rattle.pl_store.specs.Runs.{program_of}
use Rattle.goal_state.specs.declared.choice.Choice.{Choice}
use Rattle.goal_state.specs.declared.choice.ChoiceKind.{ChoiceKind}
use Rattle.goal_state.specs.declared.choice.ChoiceKind.TheVariants.{Clauses, Branch, Catch, Collect}
use Rattle.goal_state.specs.declared.compiled.CompiledProgram.{CompiledProgram}
use Rattle.goal_state.specs.declared.path.Path.{Path}
use Rattle.goal_state.specs.Denotation.{linked, language_of, state_of, answers_of, template_of, world_here, frames_on, frames_by, frame_from, rest_items, setting_at, outer_of, outer_answers, first, search_at}
use Rattle.goal_state.specs.Well.{Stand, KindFits, IsWell, mark_of}
use Rattle.goal_state.proofs.PathLaws.{grown_frames_on}
use Rattle.goal_moves.specs.Moves.{answering}

-- where no term is collected no record is of a nested search: an answer is heard outside, and changes no record
module _ (b : CompiledProgram) (v : ℕ) (s : State) (frames : List Frame) (event : List (Event (List (Tree ℕ)))) where
  abbrev framed : Choice → Option Ref → List (List (Tree ℕ)) → ChoiceKind → FrameOf (language_of b)
  framed c t gs k = frame_from b v k c.depth (state_at c.mark s) (rest_items b v s frames c) (env_of (setting_at frames c.rest)) t (first gs)

  abbrev all : Choice → List Choice → Option Ref → List (List (Tree ℕ)) → ChoiceKind → List (FrameOf (language_of b))
  all c cs t gs k = framed c t gs k ∷ frames_by b v s frames cs (outer_of k t) (outer_answers k gs)

  outside : (l : Linked) (top depth : ℕ) (last : Mark) (cs : List Choice) (t : Option Ref) (gs : List (List (Tree ℕ))) → t ≡ None → Stand l v s frames top depth last cs t
      → (emit (language_of b) event (frames_by b v s frames cs t gs) ≡ frames_by b v s frames cs t gs) × (heard (language_of b) event (frames_by b v s frames cs t gs) ≡ event)
  outside l top depth last [] t gs is h = (refl, refl)
  outside l top depth last (c ∷ cs) t gs is h = by c.kind (λ h. outside l (c.rest - 1) c.depth c.mark cs t gs is h) h.0.kind h.1
    where
      by : (k : ChoiceKind)
          → (Stand l v s frames (c.rest - 1) c.depth c.mark cs t → (emit (language_of b) event (frames_by b v s frames cs t gs) ≡ frames_by b v s frames cs t gs) × (heard (language_of b) event (frames_by b v s frames cs t gs) ≡ event))
          → KindFits l (state_at c.mark s) k t → Stand l v s frames (c.rest - 1) c.depth c.mark cs (outer_of k t)
          → (emit (language_of b) event (all c cs t gs k) ≡ all c cs t gs k) × (heard (language_of b) event (all c cs t gs k) ≡ event)
      by (Clauses clause goal) ih fits h = let i = ih h in (ap (λ fs. framed c t gs (Clauses clause goal) ∷ fs) i.0, i.1)
      by Branch ih fits h = let i = ih h in (ap (λ fs. framed c t gs Branch ∷ fs) i.0, i.1)
      by (Catch name catcher recovery) ih fits h = let i = ih h in (ap (λ fs. framed c t gs (Catch name catcher recovery) ∷ fs) i.0, i.1)
      by (Collect list outer) ih fits h = let some : is_some t ≡ true = fits.1 in cc

module _ (b : CompiledProgram) (p q : Path) (well : IsWell b p) (none : p.template ≡ None) (others : q ≡ record p { store = q.store }) (more : Extends (state_of p) (state_of q)) where
  abbrev answer : List (Tree ℕ)
  answer = template_of (state_of p) p.width None

  pub tells_answer : (left : ℕ) → Tells (language_of b) (Ans answer ∷ []) (answering b p left) (search_at b q (Over Failed) left)
  tells_answer left =
      let L : Language = language_of b in
      let cs : List Choice = reverse p.choices.items in
      let event : List (Event (List (Tree ℕ))) = Ans (template_of (state_of p) p.width p.template) ∷ [] in
      let out = outside b p.width (state_of p) p.frames event (linked b) (length p.frames) p.depth (mark_of (state_of p)) cs p.template (answers_of p) none well.records in
      let is : heard L event (frames_on b p cs) ≡ Ans answer ∷ [] = out.1 ∙ ap (λ t. Ans (template_of (state_of p) p.width t) ∷ []) none in
      let frames : emit L event (frames_on b p cs) ≡ frames_on b q (reverse q.choices.items) =
      out.0
      ∙ sym (grown_frames_on b p q others more cs p.depth well)
      ∙ ap (λ x. frames_on b q (reverse x.choices.items)) (sym others) in
      subst (λ fs. Tells L (Ans answer ∷ []) (answering b p left) (record { point = Over Failed; left = left; clauses = (program_of (linked b)).clauses; frames = fs })) frames
      (subst (λ ev. Tells L ev (answering b p left) (record { point = Over Failed; left = left; clauses = (program_of (linked b)).clauses; frames = emit L event (frames_on b p cs) })) is
      (tell_answer L p.depth left (world_here b p) (program_of (linked b)).clauses (frames_on b p cs)))
