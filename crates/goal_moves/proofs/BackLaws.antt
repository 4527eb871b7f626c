-- Paths that go back to a record.
use Rattle.std.proofs.Common.{◌≡◌, ℕ, ◌+◌, ◌-◌, ◌≤◌, List, [], ◌∷◌, Option, sym, ap, ◌∙◌, subst, arith, length, reverse, take}
use Rattle.std.proofs.lemmas.List.{take-take, length-take}
use Rattle.pl_terms.specs.Trees.{Tree}
use Rattle.pl_unify.specs.declared.word.Ref.{Ref}
use Rattle.pl_unify.specs.declared.store.Mark.{Mark}
use Rattle.pl_unify.specs.State.{State, state_at, IsMark, IsStore, Extends}
use Rattle.pl_store.specs.Linked.{Linked}
use Rattle.goal_state.specs.declared.frames.Frame.{Frame}
use Rattle.goal_code.specs.BodyCode.{BodyCode}
use Rattle.goal_state.specs.Frames.{place_get, items_of, FramesFit}
use Rattle.goal_state.proofs.FrameLaws.{items_take}
use Rattle.goal_state.specs.declared.choice.Choice.{Choice}
use Rattle.goal_state.specs.declared.choice.ChoiceKind.{ChoiceKind}
use Rattle.goal_state.specs.declared.choice.ChoiceKind.TheVariants.{Clauses, Branch, Catch, Collect}
use Rattle.goal_state.specs.declared.compiled.CompiledProgram.{CompiledProgram}
use Rattle.goal_state.specs.declared.path.Path.{Path}
use Rattle.goal_state.specs.Denotation.{bodies, linked, state_of, answers_of, items_here, world_here, world_of, frames_on, frames_by, rest_items, setting_in, setting_at, outer_of, outer_answers}
use Rattle.goal_state.specs.Well.{Older, Stand, KindFits, TemplateFits, IsWellWith, floor_of, mark_of, collects}
use Rattle.goal_state.proofs.PlaceLaws.{place_take}
use Rattle.goal_state.proofs.RecordLaws.{frames_agree, all_agree, stand_wider}
use Rattle.goal_moves.proofs.KeepLaws.{answers_length}

-- ---- marks

pub older_then : (l m n : Mark) → Older l m → Older m n → Older l n
older_then l m n a b = record { cells = omega (arith, a.cells, b.cells); trail = omega (arith, a.trail, b.trail); vars = omega (arith, a.vars, b.vars) }

module _ (s : State) (n : Mark) (is : IsMark n s) where
  taken_cells : length (take n.cells s.cells) ≡ n.cells
  taken_cells = omega (arith, length-take n.cells s.cells, is.cells)

  taken_links : length (take n.trail s.links) ≡ n.trail
  taken_links = omega (arith, length-take n.trail s.links, is.trail)

  pub extends_back : Extends (state_at n s) s
  extends_back = record {
    cells = ap (λ k. take k s.cells) taken_cells;
    links = ap (λ k. take k s.links) taken_links;
    next = is.vars;
    more_cells = omega (arith, taken_cells, is.cells);
    more_links = omega (arith, taken_links, is.trail);
  }

  pub state_back : (m : Mark) → Older m n → state_at m (state_at n s) ≡ state_at m s
  state_back m o =
      ap (λ l. record { cells = l; links = take m.trail (take n.trail s.links); next = m.vars }) (take-take m.cells n.cells s.cells o.cells)
      ∙ ap (λ l. record { cells = take m.cells s.cells; links = l; next = m.vars }) (take-take m.trail n.trail s.links o.trail)

  pub mark_back : (m : Mark) → Older m n → IsMark m s → IsMark m (state_at n s)
  mark_back m o k = record {
    cells = omega (arith, taken_cells, o.cells);
    trail = omega (arith, taken_links, o.trail);
    vars = o.vars;
    store = subst IsStore (sym (state_back m o)) k.store;
  }

  pub mark_of_back : Older n (mark_of (state_at n s))
  mark_of_back = record { cells = omega (arith, taken_cells); trail = omega (arith, taken_links); vars = omega arith }

  -- records below a mark stand in its state, over the frames that there were
  pub stand_back : (l : Linked) (v : ℕ) (frames : List Frame) (k top depth : ℕ) (last : Mark) (cs : List Choice) (t : Option Ref) → Older last n → top ≤ k → Stand l v s frames top depth last cs t
      → Stand l v (state_at n s) (take k frames) top depth last cs t
  stand_back l v frames k top depth last [] t o le h = h
  stand_back l v frames k top depth last (c ∷ cs) t o le h =
      let older : Older c.mark n = older_then c.mark last n h.0.older o in
      let state : state_at c.mark (state_at n s) ≡ state_at c.mark s = state_back c.mark older in
      let rest : c.rest ≤ top = h.0.rest in (
        record {
          mark = mark_back c.mark older h.0.mark;
          older = h.0.older;
          some = h.0.some;
          rest = h.0.rest;
          shallow = h.0.shallow;
          wide = h.0.wide;
          fit = subst (λ σ. FramesFit σ (take c.rest (take k frames))) (sym state) (subst (FramesFit (state_at c.mark s)) (sym (take-take c.rest k frames (omega (arith, rest, le)))) h.0.fit);
          kind = subst (λ σ. KindFits l σ c.kind t) (sym state) h.0.kind;
          template = subst (λ σ. TemplateFits σ (outer_of c.kind t)) (sym state) h.0.template;
        },
        stand_back l v frames k (c.rest - 1) c.depth c.mark cs (outer_of c.kind t) older (omega (arith, rest, le)) h.1,
      )

pub floor_below : (l : Linked) (v : ℕ) (s : State) (frames : List Frame) (top depth : ℕ) (last : Mark) (cs : List Choice) (t : Option Ref) → Stand l v s frames top depth last cs t → floor_of cs ≤ top
floor_below l v s frames top depth last [] t h = omega arith
floor_below l v s frames top depth last (c ∷ cs) t h = h.0.rest

pub collects_left : (kind : ChoiceKind) (gs : List (List (Tree ℕ))) (k : ℕ) → elim kind [ Collect list outer ↦ k + 1 | _ ↦ k ] ≡ length gs → length (outer_answers kind gs) ≡ k
collects_left (Clauses clause goal) gs k h = sym h
collects_left Branch gs k h = sym h
collects_left (Catch name catcher recovery) gs k h = sym h
collects_left (Collect list outer) [] k h = absurd (omega (arith, h))
collects_left (Collect list outer) (g ∷ gs) k h = omega (arith, h)

-- ---- a path that went back to a record that was taken off

module _ (b : CompiledProgram) (p q : Path) (c : Choice) (cs : List Choice) (d : ℕ) (w : IsWellWith b p (c ∷ cs) d)
    (state : state_of q ≡ state_at c.mark (state_of p)) (frames : q.frames ≡ take c.rest p.frames) (template : q.template ≡ outer_of c.kind p.template)
    (gathered : answers_of q ≡ outer_answers c.kind (answers_of p)) (width : q.width ≡ p.width) where
  abbrev here : State
  here = state_at c.mark (state_of p)

  abbrev below : Stand (linked b) p.width (state_of p) p.frames (c.rest - 1) c.depth c.mark cs (outer_of c.kind p.template)
  below = w.records.1

  kept_frames : length (take c.rest p.frames) ≡ c.rest
  kept_frames = let r : c.rest ≤ length p.frames = w.records.0.rest in omega (arith, length-take c.rest p.frames, r)

  below_back : Stand (linked b) p.width here (take c.rest p.frames) (c.rest - 1) c.depth c.mark cs (outer_of c.kind p.template)
  below_back = stand_back (state_of p) c.mark w.records.0.mark (linked b) p.width p.frames c.rest (c.rest - 1) c.depth c.mark cs (outer_of c.kind p.template) (record { cells = omega arith; trail = omega arith; vars = omega arith }) (omega arith) below

  pub back_length : length q.frames ≡ c.rest
  back_length = ap length frames ∙ kept_frames

  pub back_frames : frames_on b q cs ≡ frames_by b p.width (state_of p) p.frames cs (outer_of c.kind p.template) (outer_answers c.kind (answers_of p))
  back_frames =
      let low : floor_of cs ≤ c.rest - 1 = floor_below (linked b) p.width (state_of p) p.frames (c.rest - 1) c.depth c.mark cs (outer_of c.kind p.template) below in
      let in_new : c.rest ≤ length p.frames = w.records.0.rest in
      let agree = all_agree (linked b) p.width here (state_of p) (take c.rest p.frames) p.frames c.rest (extends_back (state_of p) c.mark w.records.0.mark) (sym (take-take c.rest c.rest p.frames (omega arith))) (omega (arith, kept_frames)) in_new b (c.rest - 1) c.depth c.mark cs (outer_of c.kind p.template) (omega (arith, low)) below_back in
      ap (λ v. frames_by b v (state_of q) q.frames cs q.template (answers_of q)) width
      ∙ ap (λ σ. frames_by b p.width σ q.frames cs q.template (answers_of q)) state
      ∙ ap (λ fs. frames_by b p.width here fs cs q.template (answers_of q)) frames
      ∙ ap (λ t. frames_by b p.width here (take c.rest p.frames) cs t (answers_of q)) template
      ∙ ap (λ gs. frames_by b p.width here (take c.rest p.frames) cs (outer_of c.kind p.template) gs) gathered
      ∙ sym (frames_agree b p.width here (state_of p) (take c.rest p.frames) p.frames cs (outer_of c.kind p.template) (outer_answers c.kind (answers_of p)) agree)

  back_template : TemplateFits (state_of q) q.template
  back_template = subst (λ σ. TemplateFits σ q.template) (sym state) (subst (TemplateFits here) (sym template) w.records.0.template)

  back_fit : FramesFit (state_of q) q.frames
  back_fit = subst (λ σ. FramesFit σ q.frames) (sym state) (subst (FramesFit here) (sym frames) w.records.0.fit)

  back_next : (state_of q).next ≡ c.mark.vars
  back_next = ap (λ σ. σ.next) state

  back_stand : Stand (linked b) q.width (state_of q) q.frames (length q.frames) c.depth (mark_of (state_of q)) cs q.template
  back_stand =
      let low : floor_of cs ≤ c.rest - 1 = floor_below (linked b) p.width (state_of p) p.frames (c.rest - 1) c.depth c.mark cs (outer_of c.kind p.template) below in
      let wider = stand_wider (linked b) p.width here (take c.rest p.frames) (c.rest - 1) (length (take c.rest p.frames)) c.depth c.depth c.mark (mark_of here) cs (outer_of c.kind p.template) (omega (arith, low, kept_frames)) (omega arith) (mark_of_back (state_of p) c.mark w.records.0.mark) below_back in
      subst (λ v. Stand (linked b) v (state_of q) q.frames (length q.frames) c.depth (mark_of (state_of q)) cs q.template) (sym width)
      (subst (λ σ. Stand (linked b) p.width σ q.frames (length q.frames) c.depth (mark_of σ) cs q.template) (sym state)
      (subst (λ fs. Stand (linked b) p.width here fs (length fs) c.depth (mark_of here) cs q.template) (sym frames)
      (subst (λ t. Stand (linked b) p.width here (take c.rest p.frames) (length (take c.rest p.frames)) c.depth (mark_of here) cs t) (sym template) wider)))

  pub back_well : IsWellWith b q cs c.depth
  back_well = record {
    store = subst IsStore (sym state) w.records.0.mark.store;
    frames = back_fit;
    template = back_template;
    wide = let v : p.width ≤ c.mark.vars = w.records.0.wide in omega (arith, v, back_next, width);
    records = back_stand;
    gathered = sym (sym (answers_length q) ∙ ap length gathered ∙ collects_left c.kind (answers_of p) (collects cs) (w.gathered ∙ sym (answers_length p)));
  }

  -- what goes on from the record's frame
  pub back_rest : (f pc : ℕ) → ((x : ℕ → BodyCode) (s : State) → items_of x s q.frames f pc ≡ items_of x s q.frames c.rest 0) → items_here b q f pc ≡ rest_items b p.width (state_of p) p.frames c
  back_rest f pc h =
      let in_old : c.rest ≤ length p.frames = w.records.0.rest in
      h (bodies b) (state_of q)
      ∙ ap (λ σ. items_of (bodies b) σ q.frames c.rest 0) state
      ∙ ap (λ fs. items_of (bodies b) here fs c.rest 0) frames
      ∙ items_take (bodies b) here p.frames c.rest c.rest 0 (omega arith) in_old

  pub back_setting : setting_in (place_get (reverse q.frames) c.rest) ≡ setting_at p.frames c.rest
  back_setting = ap (λ fs. setting_in (place_get (reverse fs) c.rest)) frames ∙ ap setting_in (place_take c.rest c.rest p.frames w.records.0.some (omega arith))

  pub back_world : world_here b q ≡ world_of here p.width (outer_of c.kind p.template)
  back_world =
      ap (λ σ. world_of σ q.width q.template) state
      ∙ ap (λ v. world_of here v q.template) width
      ∙ ap (world_of here p.width) template
