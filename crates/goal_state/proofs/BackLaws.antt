-- Paths that go back to a record, and records that are cut off.
use Rattle.std.proofs.Common.{◌≡◌, ℕ, ◌+◌, ◌-◌, ◌≤◌, Bool, true, false, List, [], ◌∷◌, Option, Some, None, refl, sym, ap, ◌∙◌, subst, arith, length, reverse, take, map}
use Rattle.std.specs.Prelude.{nat_lt, if◌then◌else◌}
use Rattle.std.proofs.lemmas.List.{take-take, length-take, length-reverse, length-map}
use Rattle.pl_terms.specs.Trees.{Tree}
use Rattle.pl_unify.specs.declared.word.Ref.{Ref}
use Rattle.pl_unify.specs.declared.store.Mark.{Mark}
use Rattle.pl_unify.specs.State.{State, state_at, IsMark, IsStore}
use Rattle.solver_model.specs.Search.{depth_of}
use Rattle.solver_model.specs.Frames.{below}
use Rattle.goal_model.specs.Table.{Items}
use Rattle.goal_state.specs.declared.frames.Frame.{Frame}
use Rattle.goal_state.specs.Frames.{env_of, items_of, FramesFit}
use Rattle.goal_state.proofs.FrameLaws.{items_take}
use Rattle.goal_state.specs.declared.choice.Choice.{Choice}
use Rattle.goal_state.specs.declared.choice.ChoiceKind.{ChoiceKind}
use Rattle.goal_state.specs.declared.choice.ChoiceKind.TheVariants.{Clauses, Branch, Catch, Collect}
use Rattle.goal_state.specs.declared.compiled.CompiledProgram.{CompiledProgram}
use Rattle.goal_state.specs.declared.path.Path.{Path}
use Rattle.goal_state.specs.Denotation.{bodies, linked, state_of, answers_of, items_here, frames_on, frames_by, frame_from, frame_by, outer_of, outer_answers, first, others}
use Rattle.goal_state.specs.Well.{Older, Stand, KindFits, TemplateFits, IsWellWith, floor_of, mark_of, collects}
use Rattle.goal_state.specs.Steps.{kept, template_kept, answers_kept}
use Rattle.goal_state.proofs.PlaceLaws.{place_same}
use Rattle.goal_state.proofs.RecordLaws.{AllAgree, frames_agree, stand_wider}

-- ---- records that are cut off

frame_depth : (b : CompiledProgram) (v : ℕ) (kind : ChoiceKind) (depth : ℕ) (s : State) (rest : Items ℕ) (env : Rattle.goal_model.specs.Environments.Environment ℕ) (t : Option Ref) (answers : List (Tree ℕ))
    → depth_of (frame_from b v kind depth s rest env t answers) ≡ depth
frame_depth b v (Clauses c g) depth s rest env t answers = refl
frame_depth b v Branch depth s rest env t answers = refl
frame_depth b v (Catch n x r) depth s rest env t answers = refl
frame_depth b v (Collect z o) depth s rest env t answers = refl

-- what records below a depth stand for
pub cut_frames : (b : CompiledProgram) (v : ℕ) (s : State) (frames : List Frame) (d : ℕ) (cs : List Choice) (t : Option Ref) (gs : List (List (Tree ℕ)))
    → frames_by b v s frames (kept d cs) (template_kept d cs t) (answers_kept d cs gs) ≡ below d (frames_by b v s frames cs t gs)
cut_frames b v s frames d [] t gs = refl
cut_frames b v s frames d (c ∷ cs) t gs = go (nat_lt c.depth d) refl (cut_frames b v s frames d cs (outer_of c.kind t) (outer_answers c.kind gs))
  where
    depth : depth_of (frame_by b v s frames c t (first gs)) ≡ c.depth
    depth = frame_depth b v c.kind c.depth (state_at c.mark s) (items_of (bodies b) (state_at c.mark s) frames c.rest 0) (env_of (Rattle.goal_state.specs.Denotation.setting_at frames c.rest)) t (first gs)

    go : (x : Bool) → nat_lt c.depth d ≡ x
        → (frames_by b v s frames (kept d cs) (template_kept d cs (outer_of c.kind t)) (answers_kept d cs (outer_answers c.kind gs)) ≡ below d (frames_by b v s frames cs (outer_of c.kind t) (outer_answers c.kind gs)))
        → frames_by b v s frames (if x then c ∷ cs else kept d cs) (if x then t else template_kept d cs (outer_of c.kind t)) (if x then gs else answers_kept d cs (outer_answers c.kind gs))
        ≡ elim (nat_lt (depth_of (frame_by b v s frames c t (first gs))) d) [ true ↦ frame_by b v s frames c t (first gs) ∷ frames_by b v s frames cs (outer_of c.kind t) (outer_answers c.kind gs) | false ↦ below d (frames_by b v s frames cs (outer_of c.kind t) (outer_answers c.kind gs)) ]
    go true e ih = sym (ap (λ y. elim y [ true ↦ frame_by b v s frames c t (first gs) ∷ frames_by b v s frames cs (outer_of c.kind t) (outer_answers c.kind gs) | false ↦ below d (frames_by b v s frames cs (outer_of c.kind t) (outer_answers c.kind gs)) ]) (ap (λ k. nat_lt k d) depth ∙ e))
    go false e ih = ih ∙ sym (ap (λ y. elim y [ true ↦ frame_by b v s frames c t (first gs) ∷ frames_by b v s frames cs (outer_of c.kind t) (outer_answers c.kind gs) | false ↦ below d (frames_by b v s frames cs (outer_of c.kind t) (outer_answers c.kind gs)) ]) (ap (λ k. nat_lt k d) depth ∙ e))

-- what cutting gives, over the newest first
pub cut_frames_on : (b : CompiledProgram) (p q : Path) (d : ℕ) → reverse q.choices.items ≡ kept d (reverse p.choices.items) → q.template ≡ template_kept d (reverse p.choices.items) p.template → answers_of q ≡ answers_kept d (reverse p.choices.items) (answers_of p)
    → q ≡ record p { choices = q.choices; template = q.template; gathered = q.gathered } → frames_on b q (reverse q.choices.items) ≡ below d (frames_on b p (reverse p.choices.items))
cut_frames_on b p q d choices template answers same =
    ap (λ r. frames_by b r.width (state_of r) r.frames (reverse q.choices.items) q.template (answers_of q)) same
    ∙ ap (λ cs. frames_by b p.width (state_of p) p.frames cs q.template (answers_of q)) choices
    ∙ ap (λ t. frames_by b p.width (state_of p) p.frames (kept d (reverse p.choices.items)) t (answers_of q)) template
    ∙ ap (λ g. frames_by b p.width (state_of p) p.frames (kept d (reverse p.choices.items)) (template_kept d (reverse p.choices.items) p.template) g) answers
    ∙ cut_frames b p.width (state_of p) p.frames d (reverse p.choices.items) p.template (answers_of p)

template_under : (l : Rattle.pl_store.specs.Linked.Linked) (v : ℕ) (s : State) (frames : List Frame) (top depth : ℕ) (last : Mark) (d : ℕ) (cs : List Choice) (t : Option Ref) → TemplateFits s t → Stand l v s frames top depth last cs t
    → ((c : Choice) → (t : Option Ref) → IsMark c.mark s → TemplateFits (state_at c.mark s) t → TemplateFits s t) → TemplateFits s (template_kept d cs t)
template_under l v s frames top depth last d [] t fit h up = fit
template_under l v s frames top depth last d (c ∷ cs) t fit h up = go (nat_lt c.depth d) (template_under l v s frames (c.rest - 1) c.depth c.mark d cs (outer_of c.kind t) (up c (outer_of c.kind t) h.0.mark h.0.template) h.1 up)
  where
    go : (x : Bool) → TemplateFits s (template_kept d cs (outer_of c.kind t)) → TemplateFits s (if x then t else template_kept d cs (outer_of c.kind t))
    go true ih = fit
    go false ih = ih

-- a term that was there at a mark is there now
pub template_up : (s : State) (c : Choice) (t : Option Ref) → IsMark c.mark s → TemplateFits (state_at c.mark s) t → TemplateFits s t
template_up s c None mark fit = tt
template_up s c (Some r) mark fit = omega (arith, fit, mark.cells, length-take c.mark.cells s.cells)

older_then : (m n o : Mark) → Older m n → Older n o → Older m o
older_then m n o a b = record { cells = omega (arith, a.cells, b.cells); trail = omega (arith, a.trail, b.trail); vars = omega (arith, a.vars, b.vars) }

-- ---- a state that is gone back to

-- the state of an older mark, in the state of a mark
pub back_twice : (m n : Mark) (s : State) → Older m n → state_at m (state_at n s) ≡ state_at m s
back_twice m n s o =
    let cells : take m.cells (take n.cells s.cells) ≡ take m.cells s.cells = take-take m.cells n.cells s.cells o.cells in
    let links : take m.trail (take n.trail s.links) ≡ take m.trail s.links = take-take m.trail n.trail s.links o.trail in
    ap (λ c. record { cells = c; links = take m.trail (take n.trail s.links); next = m.vars }) cells
    ∙ ap (λ k. record { cells = take m.cells s.cells; links = k; next = m.vars }) links

pub back_mark : (m n : Mark) (s : State) → Older m n → IsMark m s → IsMark n s → IsMark m (state_at n s)
back_mark m n s o mark last = record {
  cells = omega (arith, o.cells, last.cells, length-take n.cells s.cells);
  trail = omega (arith, o.trail, last.trail, length-take n.trail s.links);
  vars = o.vars;
  store = subst IsStore (sym (back_twice m n s o)) mark.store;
}

module _ (l : Rattle.pl_store.specs.Linked.Linked) (v : ℕ) (s : State) (frames : List Frame) (n : Mark) (k : ℕ) (is_mark : IsMark n s) (within : k ≤ length frames) where
  -- records below a record stand where it is gone back to, among the frames that there were
  pub stand_back : (top depth : ℕ) (last : Mark) (cs : List Choice) (t : Option Ref) → top ≤ k → Older last n → Stand l v s frames top depth last cs t → Stand l v (state_at n s) (take k frames) top depth last cs t
  stand_back top depth last [] t le o h = h
  stand_back top depth last (c ∷ cs) t le o h =
      let older : Older c.mark n = older_then c.mark last n h.0.older o in
      let state : state_at c.mark (state_at n s) ≡ state_at c.mark s = back_twice c.mark n s older in
      let some = h.0.some in
      let rest = h.0.rest in (
        record {
          mark = back_mark c.mark n s older h.0.mark is_mark;
          older = h.0.older;
          some = some;
          rest = rest;
          shallow = h.0.shallow;
          wide = h.0.wide;
          fit = subst (λ σ. FramesFit σ (take c.rest (take k frames))) (sym state) (subst (FramesFit (state_at c.mark s)) (sym (take-take c.rest k frames (omega (arith, rest, le)))) h.0.fit);
          kind = subst (λ σ. KindFits l σ c.kind t) (sym state) h.0.kind;
          template = subst (λ σ. TemplateFits σ (outer_of c.kind t)) (sym state) h.0.template;
        },
        stand_back (c.rest - 1) c.depth c.mark cs (outer_of c.kind t) (omega (arith, rest, le)) older h.1,
      )

  pub agree_back : (b : CompiledProgram) (top depth : ℕ) (last : Mark) (cs : List Choice) (t : Option Ref) → top ≤ k → Older last n → Stand l v s frames top depth last cs t → AllAgree b s (state_at n s) frames (take k frames) cs
  agree_back b top depth last [] t le o h = tt
  agree_back b top depth last (c ∷ cs) t le o h =
      let older : Older c.mark n = older_then c.mark last n h.0.older o in
      let some = h.0.some in
      let rest = h.0.rest in (
        record {
          state = back_twice c.mark n s older;
          rest = λ σ. items_take (bodies b) σ frames k c.rest 0 (omega (arith, rest, le)) within;
          place = place_same k c.rest frames (take k frames) some (omega (arith, rest, le)) (take-take k k frames (omega arith));
        },
        agree_back b (c.rest - 1) c.depth c.mark cs (outer_of c.kind t) (omega (arith, rest, le)) older h.1,
      )

older_same : (m : Mark) → Older m m
older_same m = record { cells = omega arith; trail = omega arith; vars = omega arith }

-- the mark of the state of a mark
mark_at : (n : Mark) (s : State) → IsMark n s → Older n (mark_of (state_at n s))
mark_at n s m = record { cells = omega (arith, m.cells, length-take n.cells s.cells); trail = omega (arith, m.trail, length-take n.trail s.links); vars = omega arith }

floor_top : (l : Rattle.pl_store.specs.Linked.Linked) (v : ℕ) (s : State) (frames : List Frame) (top depth : ℕ) (last : Mark) (cs : List Choice) (t : Option Ref) → Stand l v s frames top depth last cs t → floor_of cs ≤ top
floor_top l v s frames top depth last [] t h = omega arith
floor_top l v s frames top depth last (c ∷ cs) t h = h.0.rest

-- after a record was taken off and gone back to
module _ (b : CompiledProgram) (p q : Path) (c : Choice) (cs : List Choice) (d : ℕ) (w : IsWellWith b p (c ∷ cs) d) (state : state_of q ≡ state_at c.mark (state_of p)) (frames : q.frames ≡ take c.rest p.frames) (same : q ≡ record p { store = q.store; frames = q.frames }) where
  -- what the older records stand for is as before
  pub back_frames : (t : Option Ref) (gs : List (List (Tree ℕ))) → t ≡ outer_of c.kind p.template → frames_by b p.width (state_of q) q.frames cs t gs ≡ frames_by b p.width (state_of p) p.frames cs t gs
  back_frames t gs is =
      ap (λ σ. frames_by b p.width σ q.frames cs t gs) state
      ∙ ap (λ f. frames_by b p.width (state_at c.mark (state_of p)) f cs t gs) frames
      ∙ frames_agree b p.width (state_of p) (state_at c.mark (state_of p)) p.frames (take c.rest p.frames) cs t gs
      (agree_back (linked b) p.width (state_of p) p.frames c.mark c.rest w.records.0.mark w.records.0.rest b (c.rest - 1) c.depth c.mark cs (outer_of c.kind p.template) (omega arith) (older_same c.mark) w.records.1)

  -- what comes after the record's goal
  pub back_items : items_here b q c.rest 0 ≡ items_of (bodies b) (state_at c.mark (state_of p)) p.frames c.rest 0
  back_items =
      ap (λ σ. items_of (bodies b) σ q.frames c.rest 0) state
      ∙ ap (λ f. items_of (bodies b) (state_at c.mark (state_of p)) f c.rest 0) frames
      ∙ items_take (bodies b) (state_at c.mark (state_of p)) p.frames c.rest c.rest 0 (omega arith) w.records.0.rest

  pub back_length : length q.frames ≡ c.rest
  back_length = ap length frames ∙ omega (arith, length-take c.rest p.frames, w.records.0.rest)

  -- the older records stand, at the record's depth, on a path that collects what is collected around the record
  pub back_well : (r : Path) → r ≡ record q { template = outer_of c.kind p.template; gathered = r.gathered } → collects cs ≡ length r.gathered.items → IsWellWith b r cs c.depth
  back_well r is count =
      let fit : FramesFit (state_of q) q.frames = subst (λ σ. FramesFit σ q.frames) (sym state) (subst (FramesFit (state_at c.mark (state_of p))) (sym frames) w.records.0.fit) in
      let store : IsStore (state_of q) = subst IsStore (sym state) w.records.0.mark.store in
      let stands : Stand (linked b) p.width (state_at c.mark (state_of p)) (take c.rest p.frames) (c.rest - 1) c.depth c.mark cs (outer_of c.kind p.template) =
      stand_back (linked b) p.width (state_of p) p.frames c.mark c.rest w.records.0.mark w.records.0.rest (c.rest - 1) c.depth c.mark cs (outer_of c.kind p.template) (omega arith) (older_same c.mark) w.records.1 in
      let wider : Stand (linked b) p.width (state_at c.mark (state_of p)) (take c.rest p.frames) (length (take c.rest p.frames)) c.depth (mark_of (state_at c.mark (state_of p))) cs (outer_of c.kind p.template) =
      stand_wider (linked b) p.width (state_at c.mark (state_of p)) (take c.rest p.frames) (c.rest - 1) (length (take c.rest p.frames)) c.depth c.depth c.mark (mark_of (state_at c.mark (state_of p))) cs (outer_of c.kind p.template)
      (omega (arith, floor_top (linked b) p.width (state_at c.mark (state_of p)) (take c.rest p.frames) (c.rest - 1) c.depth c.mark cs (outer_of c.kind p.template) stands, length-take c.rest p.frames, w.records.0.rest))
      (omega arith) (mark_at c.mark (state_of p) w.records.0.mark) stands in
      subst (λ x. IsWellWith b x cs c.depth) (sym (is ∙ ap {A = Path} (λ x. record x { template = outer_of c.kind p.template; gathered = r.gathered }) same)) (record {
        store = store;
        frames = fit;
        template = subst (λ σ. TemplateFits σ (outer_of c.kind p.template)) (sym state) w.records.0.template;
        wide = subst (λ (σ : State). p.width ≤ σ.next) (sym state) w.records.0.wide;
        records = subst (λ σ. Stand (linked b) p.width σ q.frames (length q.frames) c.depth (mark_of σ) cs (outer_of c.kind p.template)) (sym state)
            (subst (λ f. Stand (linked b) p.width (state_at c.mark (state_of p)) f (length f) c.depth (mark_of (state_at c.mark (state_of p))) cs (outer_of c.kind p.template)) (sym frames) wider);
        gathered = count;
      })

-- ---- records that are cut off

kept_stand : (l : Rattle.pl_store.specs.Linked.Linked) (v : ℕ) (s : State) (frames : List Frame) (top depth : ℕ) (last : Mark) (d : ℕ) (cs : List Choice) (t : Option Ref) → Stand l v s frames top depth last cs t
    → Stand l v s frames top depth last (kept d cs) (template_kept d cs t)
kept_stand l v s frames top depth last d [] t h = h
kept_stand l v s frames top depth last d (c ∷ cs) t h = go (nat_lt c.depth d) (kept_stand l v s frames (c.rest - 1) c.depth c.mark d cs (outer_of c.kind t) h.1)
  where
    go : (x : Bool) → Stand l v s frames (c.rest - 1) c.depth c.mark (kept d cs) (template_kept d cs (outer_of c.kind t))
        → Stand l v s frames top depth last (if x then c ∷ cs else kept d cs) (if x then t else template_kept d cs (outer_of c.kind t))
    go true ih = h
    go false ih =
        let low = floor_top l v s frames (c.rest - 1) c.depth c.mark (kept d cs) (template_kept d cs (outer_of c.kind t)) ih in
        stand_wider l v s frames (c.rest - 1) top c.depth depth c.mark last (kept d cs) (template_kept d cs (outer_of c.kind t)) (omega (arith, low, h.0.rest)) (omega (arith, h.0.shallow)) h.0.older ih

less_one : (gs : List (List (Tree ℕ))) (k : ℕ) → k + 1 ≡ length gs → k ≡ length (others gs)
less_one [] k e = absurd (omega (arith, e))
less_one (g ∷ gs) k e = omega (arith, e)

-- the answers around a record are of the searches of the older ones
pub outer_count : (c : Choice) (cs : List Choice) (gs : List (List (Tree ℕ))) → collects (c ∷ cs) ≡ length gs → collects cs ≡ length (outer_answers c.kind gs)
outer_count c cs gs e = go c.kind e
  where
    go : (kind : ChoiceKind) → elim kind as (λ _. ℕ) [ Collect list outer ↦ collects cs + 1 | _ ↦ collects cs ] ≡ length gs → collects cs ≡ length (outer_answers kind gs)
    go (Clauses clause goal) e = e
    go Branch e = e
    go (Catch n x r) e = e
    go (Collect list outer) e = less_one gs (collects cs) e

kept_count : (d : ℕ) (cs : List Choice) (gs : List (List (Tree ℕ))) → collects cs ≡ length gs → collects (kept d cs) ≡ length (answers_kept d cs gs)
kept_count d [] gs e = e
kept_count d (c ∷ cs) gs e = go (nat_lt c.depth d) (kept_count d cs (outer_answers c.kind gs) (outer_count c cs gs e))
  where
    go : (x : Bool) → collects (kept d cs) ≡ length (answers_kept d cs (outer_answers c.kind gs)) → collects (if x then c ∷ cs else kept d cs) ≡ length (if x then gs else answers_kept d cs (outer_answers c.kind gs))
    go true ih = e
    go false ih = ih

pub answers_count : (p : Path) → length (answers_of p) ≡ length p.gathered.items
answers_count p = length-reverse (map (λ g. g.items) p.gathered.items) ∙ length-map p.gathered.items (λ g. g.items)

-- a path stays well where records are cut off
pub cut_well : (b : CompiledProgram) (p q : Path) (d depth : ℕ) → reverse q.choices.items ≡ kept d (reverse p.choices.items) → q.template ≡ template_kept d (reverse p.choices.items) p.template → answers_of q ≡ answers_kept d (reverse p.choices.items) (answers_of p)
    → q ≡ record p { choices = q.choices; template = q.template; gathered = q.gathered } → IsWellWith b p (reverse p.choices.items) depth → IsWellWith b q (reverse q.choices.items) depth
cut_well b p q d depth choices template answers same w =
    subst (λ cs. IsWellWith b q cs depth) (sym choices) (subst (λ x. IsWellWith b x (kept d (reverse p.choices.items)) depth) (sym same) (record {
      store = w.store;
      frames = w.frames;
      template = subst (TemplateFits (state_of p)) (sym template) (template_under (linked b) p.width (state_of p) p.frames (length p.frames) depth (mark_of (state_of p)) d (reverse p.choices.items) p.template w.template w.records (λ c t m h. template_up (state_of p) c t m h));
      wide = w.wide;
      records = subst (Stand (linked b) p.width (state_of p) p.frames (length p.frames) depth (mark_of (state_of p)) (kept d (reverse p.choices.items))) (sym template)
          (kept_stand (linked b) p.width (state_of p) p.frames (length p.frames) depth (mark_of (state_of p)) d (reverse p.choices.items) p.template w.records);
      gathered = kept_count d (reverse p.choices.items) (answers_of p) (w.gathered ∙ sym (answers_count p)) ∙ sym (ap length answers) ∙ answers_count q;
    }))
