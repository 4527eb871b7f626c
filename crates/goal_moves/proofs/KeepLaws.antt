-- An answer that the innermost nested search keeps.
use Rattle.std.proofs.Common.{◌≡◌, ℕ, ◌+◌, ◌<◌, List, [], ◌∷◌, ◌++◌, Option, Some, refl, sym, ap, ◌∙◌, subst, arith, ◌-◌, length, reverse, map, Vec, vec_len, Global}
use Rattle.std.proofs.lemmas.List.{reverse-append, map-append, length-reverse, length-map}
use Rattle.pl_terms.specs.Trees.{Tree}
use Rattle.pl_unify.specs.declared.word.Ref.{Ref}
use Rattle.pl_unify.specs.declared.store.Mark.{Mark}
use Rattle.pl_unify.specs.State.{State, state_at, tree_at}
use Rattle.solver_model.specs.Search.{Event, Ans, Over, Failed, Collects, Language}
use Rattle.solver_model.specs.Frames.{emit, heard}
use Rattle.solver_model.specs.Configurations.{Turns, Tells, Configuration}
use Rattle.solver_model.proofs.TellLaws.{tell_answer}
use Rattle.goal_state.specs.declared.frames.Frame.{Frame}
use Rattle.goal_state.specs.Frames.{env_of}
use Rattle.pl_store.specs.Linked.{Linked}
use Rattle.pl_store.specs.Runs.{program_of}
use Rattle.goal_state.specs.declared.choice.Choice.{Choice}
use Rattle.goal_state.specs.declared.choice.ChoiceKind.{ChoiceKind}
use Rattle.goal_state.specs.declared.choice.ChoiceKind.TheVariants.{Clauses, Branch, Catch, Collect}
use Rattle.goal_state.specs.declared.compiled.CompiledProgram.{CompiledProgram}
use Rattle.goal_state.specs.declared.path.Path.{Path}
use Rattle.goal_state.specs.Denotation.{linked, language_of, state_of, answers_of, template_of, world_here, frames_on, frames_by, frame_from, rest_items, setting_at, outer_of, outer_answers, first, world_of, search_at}
use Rattle.goal_state.specs.Well.{Stand, IsWell, collects, mark_of}
use Rattle.goal_moves.specs.Moves.{answering, Moved}
use Rattle.goal_moves.specs.declared.going.Going.TheVariants.{Fails}

-- what is told of nothing is turned to
pub turn_of_tells : (L : Language) (x y : Configuration L) → Tells L [] x y → Turns L x y
turn_of_tells L x y t = record { value = λ s. sym (t.value s); sane = t.sane; left = t.left; lighter = t.lighter }

pub last_first : (gs : List (Vec (Tree ℕ) Global)) (g : Vec (Tree ℕ) Global) → reverse (map (λ x. x.items) (gs ++ g ∷ [])) ≡ g.items ∷ reverse (map (λ x. x.items) gs)
last_first gs g = ap reverse (map-append (λ x. x.items) gs (g ∷ [])) ∙ reverse-append (map (λ x. x.items) gs) (g.items ∷ [])

pub answers_length : (p : Path) → length (answers_of p) ≡ length p.gathered.items
answers_length p = length-reverse (map (λ g. g.items) p.gathered.items) ∙ length-map p.gathered.items (λ g. g.items)

-- where a term is collected a record of a nested search is left
pub one_collects : (l : Linked) (v : ℕ) (s : State) (frames : List Frame) (top depth : ℕ) (last : Mark) (cs : List Choice) (t : Option Ref) (r : Ref) → t ≡ Some r → Stand l v s frames top depth last cs t → 0 < collects cs
one_collects l v s frames top depth last [] t r is h = cc
one_collects l v s frames top depth last (c ∷ cs) t r is h = by c.kind (λ h. one_collects l v s frames (c.rest - 1) c.depth c.mark cs t r is h) h.1
  where
    by : (k : ChoiceKind) → (Stand l v s frames (c.rest - 1) c.depth c.mark cs t → 0 < collects cs) → Stand l v s frames (c.rest - 1) c.depth c.mark cs (outer_of k t) → 0 < elim k [ Collect list outer ↦ collects cs + 1 | _ ↦ collects cs ]
    by (Clauses clause goal) ih h = ih h
    by Branch ih h = ih h
    by (Catch name catcher recovery) ih h = ih h
    by (Collect list outer) ih h = omega arith

pub last_gathered : (b : CompiledProgram) (p : Path) (r : Ref) → p.template ≡ Some r → IsWell b p → vec_len p.gathered ≡ 0 → ⊥
last_gathered b p r is w none =
    let one = one_collects (linked b) p.width (state_of p) p.frames (length p.frames) p.depth _ (reverse p.choices.items) p.template r is w.records in
    omega (arith, one, w.gathered, none, p.gathered.ok)

module _ (b : CompiledProgram) (v : ℕ) (s : State) (frames : List Frame) (r : Ref) (a : Tree ℕ) (A : List (Tree ℕ)) (R : List (List (Tree ℕ))) where
  abbrev event : List (Event (List (Tree ℕ)))
  event = Ans (a ∷ []) ∷ []

  -- the innermost nested search has one answer more
  emitted : (l : Linked) (top depth : ℕ) (last : Mark) (cs : List Choice) (t : Option Ref) → t ≡ Some r → Stand l v s frames top depth last cs t
      → frames_by b v s frames cs t ((A ++ a ∷ []) ∷ R) ≡ emit (language_of b) event (frames_by b v s frames cs t (A ∷ R))
  emitted l top depth last [] t is h = cc
  emitted l top depth last (c ∷ cs) t is h = by c.kind (λ h. emitted l (c.rest - 1) c.depth c.mark cs t is h) h.1
    where
      by : (k : ChoiceKind) → (Stand l v s frames (c.rest - 1) c.depth c.mark cs t → frames_by b v s frames cs t ((A ++ a ∷ []) ∷ R) ≡ emit (language_of b) event (frames_by b v s frames cs t (A ∷ R))) → Stand l v s frames (c.rest - 1) c.depth c.mark cs (outer_of k t)
          → frame_from b v k c.depth (state_at c.mark s) (rest_items b v s frames c) (env_of (setting_at frames c.rest)) t (A ++ a ∷ []) ∷ frames_by b v s frames cs (outer_of k t) (outer_answers k ((A ++ a ∷ []) ∷ R))
          ≡ emit (language_of b) event (frame_from b v k c.depth (state_at c.mark s) (rest_items b v s frames c) (env_of (setting_at frames c.rest)) t A ∷ frames_by b v s frames cs (outer_of k t) (outer_answers k (A ∷ R)))
      by (Clauses clause goal) ih h = ap (λ fs. frame_from b v (Clauses clause goal) c.depth (state_at c.mark s) (rest_items b v s frames c) (env_of (setting_at frames c.rest)) t A ∷ fs) (ih h)
      by Branch ih h = ap (λ fs. frame_from b v Branch c.depth (state_at c.mark s) (rest_items b v s frames c) (env_of (setting_at frames c.rest)) t A ∷ fs) (ih h)
      by (Catch name catcher recovery) ih h = ap (λ fs. frame_from b v (Catch name catcher recovery) c.depth (state_at c.mark s) (rest_items b v s frames c) (env_of (setting_at frames c.rest)) t A ∷ fs) (ih h)
      by (Collect list outer) ih h =
          ap (λ acc. Collects c.depth acc (record { depth = c.depth; list = tree_at (state_at c.mark s) list; rest = rest_items b v s frames c; world = world_of (state_at c.mark s) v outer }) ∷ frames_by b v s frames cs outer R) (map-append (λ x. x ∷ []) A (a ∷ []))

  -- nothing of it is heard outside
  unheard : (l : Linked) (top depth : ℕ) (last : Mark) (cs : List Choice) (t : Option Ref) (gs : List (List (Tree ℕ))) → t ≡ Some r → Stand l v s frames top depth last cs t
      → heard (language_of b) event (frames_by b v s frames cs t gs) ≡ []
  unheard l top depth last [] t gs is h = cc
  unheard l top depth last (c ∷ cs) t gs is h = by c.kind (λ h. unheard l (c.rest - 1) c.depth c.mark cs t gs is h) h.1
    where
      by : (k : ChoiceKind) → (Stand l v s frames (c.rest - 1) c.depth c.mark cs t → heard (language_of b) event (frames_by b v s frames cs t gs) ≡ []) → Stand l v s frames (c.rest - 1) c.depth c.mark cs (outer_of k t)
          → heard (language_of b) event (frame_from b v k c.depth (state_at c.mark s) (rest_items b v s frames c) (env_of (setting_at frames c.rest)) t (first gs) ∷ frames_by b v s frames cs (outer_of k t) (outer_answers k gs)) ≡ []
      by (Clauses clause goal) ih h = ih h
      by Branch ih h = ih h
      by (Catch name catcher recovery) ih h = ih h
      by (Collect list outer) ih h = refl

-- the answer of a nested search was kept
module _ (b : CompiledProgram) (p q : Path) (r : Ref) (others : q ≡ record p { gathered = q.gathered }) (is : p.template ≡ Some r) (w : IsWell b p) where
  abbrev answer : Tree ℕ
  answer = tree_at (state_of p) r

  kept_goes : (A : List (Tree ℕ)) (R : List (List (Tree ℕ))) → answers_of p ≡ A ∷ R → answers_of q ≡ (A ++ answer ∷ []) ∷ R → (left : ℕ) → Turns (language_of b) (answering b p left) (search_at b q (Over Failed) left)
  kept_goes A R before after left =
      let L : Language = language_of b in
      let cs : List Choice = reverse p.choices.items in
      let tells = tell_answer L p.depth left (world_here b p) (program_of (linked b)).clauses (frames_on b p cs) in
      let world : template_of (state_of p) p.width p.template ≡ answer ∷ [] = ap (template_of (state_of p) p.width) is in
      let silent : heard L (Ans (template_of (state_of p) p.width p.template) ∷ []) (frames_on b p cs) ≡ [] =
      ap (λ t. heard L (Ans t ∷ []) (frames_on b p cs)) world
      ∙ unheard b p.width (state_of p) p.frames r answer A R (linked b) (length p.frames) p.depth (mark_of (state_of p)) cs p.template (answers_of p) is w.records in
      let frames : emit L (Ans (template_of (state_of p) p.width p.template) ∷ []) (frames_on b p cs) ≡ frames_on b q (reverse q.choices.items) =
      ap (λ t. emit L (Ans t ∷ []) (frames_on b p cs)) world
      ∙ ap (λ gs. emit L (Ans (answer ∷ []) ∷ []) (frames_by b p.width (state_of p) p.frames cs p.template gs)) before
      ∙ sym (emitted b p.width (state_of p) p.frames r answer A R (linked b) (length p.frames) p.depth (mark_of (state_of p)) cs p.template is w.records)
      ∙ ap (λ gs. frames_by b p.width (state_of p) p.frames cs p.template gs) (sym after)
      ∙ ap (λ x. frames_by b x.width (state_of x) x.frames (reverse x.choices.items) x.template (answers_of q)) (sym others) in
      turn_of_tells L (answering b p left) (search_at b q (Over Failed) left) (subst (λ fs. Tells L [] (answering b p left) (record { point = Over Failed; left = left; clauses = (program_of (linked b)).clauses; frames = fs })) frames
      (subst (λ ev. Tells L ev (answering b p left) (record { point = Over Failed; left = left; clauses = (program_of (linked b)).clauses; frames = emit L (Ans (template_of (state_of p) p.width p.template) ∷ []) (frames_on b p cs) })) silent tells))

  pub kept : (A : List (Tree ℕ)) (R : List (List (Tree ℕ))) → answers_of p ≡ A ∷ R → answers_of q ≡ (A ++ answer ∷ []) ∷ R → Moved b p q (answering b p) Fails
  kept A R before after = record {
    well = subst (λ x. IsWell b x) (sym others) (record {
      store = w.store;
      frames = w.frames;
      template = w.template;
      wide = w.wide;
      records = w.records;
      gathered = w.gathered ∙ same;
    });
    low = let e : q.depth ≡ p.depth = ap (λ x. x.depth) others in omega (arith, e);
    width = ap (λ x. x.width) others;
    goes = kept_goes A R before after;
  }
    where
      same : length p.gathered.items ≡ length q.gathered.items
      same = sym (answers_length p) ∙ ap length before ∙ sym (ap length after) ∙ answers_length q

  -- the last list has one answer more
  pub kept_last : (gs : List (Vec (Tree ℕ) Global)) (g h : Vec (Tree ℕ) Global) → p.gathered.items ≡ gs ++ g ∷ [] → q.gathered.items ≡ gs ++ h ∷ [] → h.items ≡ g.items ++ answer ∷ [] → Moved b p q (answering b p) Fails
  kept_last gs g h before after more =
      kept g.items (reverse (map (λ x. x.items) gs))
      (ap (λ l. reverse (map (λ x. x.items) l)) before ∙ last_first gs g)
      (ap (λ l. reverse (map (λ x. x.items) l)) after ∙ last_first gs h ∙ ap (λ l. l ∷ reverse (map (λ x. x.items) gs)) more)
