-- What is made of a record that was taken off.
use Rattle.std.proofs.Common.{◌≡◌, ℕ, suc, ◌+◌, ◌<◌, ◌≤◌, List, [], ◌∷◌, ◌++◌, Option, Some, None, Result, Ok, Err, IfOk, OnOk, ◌-◌, refl, sym, ap, ◌∙◌, subst, arith, length, reverse, take, map, Vec, vec_len, Global}
use Rattle.std.proofs.lemmas.List.{length-reverse, reverse-append}
use Rattle.pl_unify.specs.declared.word.Ref.{Ref}
use Rattle.pl_unify.specs.State.{State, state_at, tree_at}
use Rattle.solver_model.specs.Search.{Over, Failed, Tries, PointOf, FrameOf, Language}
use Rattle.solver_model.specs.Configurations.{Configuration, Turns}
use Rattle.solver_model.proofs.TurnLaws.{turns_then, turns_same, turn_last, turn_catch_done}
use Rattle.goal_model.specs.Table.{leads, place, resolves}
use Rattle.pl_store.specs.Runs.{program_of}
use Rattle.pl_store.specs.declared.key.ClauseId.{ClauseId}
use Rattle.goal_state.specs.declared.frames.Frame.{Frame}
use Rattle.goal_code.specs.BodyCode.{BodyCode}
use Rattle.goal_state.specs.Frames.{place_get, env_of, items_of, FramesFit}
use Rattle.goal_state.proofs.StoreLaws.{fits_read}
use Rattle.goal_state.specs.declared.choice.Choice.{Choice}
use Rattle.goal_state.specs.declared.choice.ChoiceKind.{ChoiceKind}
use Rattle.goal_state.specs.declared.choice.ChoiceKind.TheVariants.{Clauses, Branch, Catch, Collect}
use Rattle.goal_state.specs.declared.compiled.CompiledProgram.{CompiledProgram}
use Rattle.goal_state.specs.declared.path.Path.{Path}
use Rattle.goal_state.specs.Denotation.{linked, language_of, state_of, answers_of, items_here, world_here, frames_on, frames_by, frame_from, rest_items, setting_in, setting_at, outer_of, outer_answers, first, clauses_on, search_at, point_here}
use Rattle.goal_state.specs.Well.{Stand, KindFits, IsWell, IsWellWith, floor_of, mark_of, collects}
use Rattle.goal_state.proofs.PlaceLaws.{place_there}
use Rattle.goal_state.proofs.RecordLaws.{stand_wider}
use Rattle.goal_moves.specs.Moves.{search_with, resumed, tried, Moved, IsTrying, Stays}
use Rattle.goal_moves.specs.declared.going.Going.{Going}
use Rattle.goal_moves.specs.declared.going.Going.TheVariants.{On, Fails, Halts, Uncaught}
use Rattle.goal_moves.specs.declared.procedures.Attempt.{Attempt}
use Rattle.goal_moves.proofs.KeepLaws.{answers_length}
use Rattle.goal_moves.proofs.BackLaws.{back_well, back_frames, back_rest, back_setting, back_length, collects_left, floor_below}

pub IfOk-then : {X E : Type 0} {P Q : X → Type 0} (r : Result X E) → IfOk r P → ((x : X) → P x → Q x) → IfOk r Q
IfOk-then (Ok x) h f = f x h
IfOk-then (Err e) h f = tt

pub OnOk-then : {X E : Type 0} {P Q : Type 0} (r : Result X E) → OnOk r P → (P → Q) → OnOk r Q
OnOk-then (Ok x) h f = f h
OnOk-then (Err e) h f = tt

-- ---- a move after another

module _ (b : CompiledProgram) where
  pub stays_then : (x y : Configuration (language_of b)) (p : Path) (left : ℕ) (g : Going) → Turns (language_of b) x y → Stays b (Turns (language_of b) y) p left g → Stays b (Turns (language_of b) x) p left g
  stays_then x y p left On t h = turns_then (language_of b) x y (search_at b p (point_here b p) left) t h
  stays_then x y p left Fails t h = turns_then (language_of b) x y _ t h
  stays_then x y p left (Halts z) t h = turns_then (language_of b) x y _ t h
  stays_then x y p left (Uncaught u) t h = (h.0, h.1, turns_then (language_of b) x y _ t h.2)

  pub moved_then : (old mid new : Path) (x y : ℕ → Configuration (language_of b)) (g : Going) → ((left : ℕ) → Turns (language_of b) (x left) (y left)) → mid.depth ≤ old.depth → mid.width ≡ old.width → Moved b mid new y g → Moved b old new x g
  moved_then old mid new x y g t low width m = record {
    well = m.well;
    low = omega (arith, low, m.low);
    width = m.width ∙ width;
    goes = λ left. stays_then (x left) (y left) new left g (t left) (m.goes left);
  }

-- ---- a record of no nested search

abbrev pub IsInside : Path → Choice → Type 0
IsInside p c = (outer_of c.kind p.template ≡ p.template) × (outer_answers c.kind (answers_of p) ≡ answers_of p)

pub inside_of : (p : Path) (k : ChoiceKind) → ((list : Ref) (outer : Option Ref) → k ≡ Collect list outer → ⊥) → (outer_of k p.template ≡ p.template) × (outer_answers k (answers_of p) ≡ answers_of p)
inside_of p (Clauses clause goal) h = (refl, refl)
inside_of p Branch h = (refl, refl)
inside_of p (Catch name catcher recovery) h = (refl, refl)
inside_of p (Collect list outer) h = absurd (h list outer refl)

pub inside_branch : (p : Path) (c : Choice) → c.kind ≡ Branch → IsInside p c
inside_branch p c is = inside_of p c.kind (λ list outer e. let f : Branch ≡ Collect list outer = sym is ∙ e in cc)

pub inside_clauses : (p : Path) (c : Choice) (clause : _) (goal : Ref) → c.kind ≡ Clauses clause goal → IsInside p c
inside_clauses p c clause goal is = inside_of p c.kind (λ list outer e. let f : Clauses clause goal ≡ Collect list outer = sym is ∙ e in cc)

pub inside_catch : (p : Path) (c : Choice) (name : _) (catcher recovery : Ref) → c.kind ≡ Catch name catcher recovery → IsInside p c
inside_catch p c name catcher recovery is = inside_of p c.kind (λ list outer e. let f : Catch name catcher recovery ≡ Collect list outer = sym is ∙ e in cc)

module _ (b : CompiledProgram) (p : Path) (c : Choice) (cs : List Choice) (inside : IsInside p c) (w : IsWellWith b p (c ∷ cs) p.depth) where
  -- it is left
  pub left_well : IsWellWith b p cs p.depth
  left_well = record {
    store = w.store;
    frames = w.frames;
    template = w.template;
    wide = w.wide;
    records =
        let low : floor_of cs ≤ c.rest - 1 = floor_below (linked b) p.width (state_of p) p.frames (c.rest - 1) c.depth c.mark cs (outer_of c.kind p.template) w.records.1 in
        let r : c.rest ≤ length p.frames = w.records.0.rest in
        let sh : c.depth < p.depth = w.records.0.shallow in
        subst (λ t. Stand (linked b) p.width (state_of p) p.frames (length p.frames) p.depth (mark_of (state_of p)) cs t) inside.0
        (stand_wider (linked b) p.width (state_of p) p.frames (c.rest - 1) (length p.frames) c.depth p.depth c.mark (mark_of (state_of p)) cs (outer_of c.kind p.template) (omega (arith, low, r)) (omega (arith, sh)) w.records.0.older w.records.1);
    gathered = sym (sym (answers_length p) ∙ ap length (sym inside.1) ∙ collects_left c.kind (answers_of p) (collects cs) (w.gathered ∙ sym (answers_length p)));
  }

  pub left_frames : frames_on b p (c ∷ cs) ≡ frame_from b p.width c.kind c.depth (state_at c.mark (state_of p)) (rest_items b p.width (state_of p) p.frames c) (env_of (setting_at p.frames c.rest)) p.template (first (answers_of p)) ∷ frames_on b p cs
  left_frames =
      ap (λ t. frame_from b p.width c.kind c.depth (state_at c.mark (state_of p)) (rest_items b p.width (state_of p) p.frames c) (env_of (setting_at p.frames c.rest)) p.template (first (answers_of p)) ∷ frames_by b p.width (state_of p) p.frames cs t (outer_answers c.kind (answers_of p))) inside.0
      ∙ ap (λ gs. frame_from b p.width c.kind c.depth (state_at c.mark (state_of p)) (rest_items b p.width (state_of p) p.frames c) (env_of (setting_at p.frames c.rest)) p.template (first (answers_of p)) ∷ frames_by b p.width (state_of p) p.frames cs p.template gs) inside.1

-- a catch has nothing else untried
pub catch_left : (b : CompiledProgram) (p : Path) (c : Choice) (name : _) (catcher recovery : Ref) → c.kind ≡ Catch name catcher recovery → IsWellWith b p (c ∷ reverse p.choices.items) p.depth → Moved b p p (resumed b p c (Over Failed)) Fails
catch_left b p c name catcher recovery is w = record {
  well = left_well b p c (reverse p.choices.items) inside w;
  low = omega arith;
  width = refl;
  goes = λ left.
      turns_then (language_of b) (resumed b p c (Over Failed) left) (search_with b p (Over Failed) (catches ∷ frames_on b p (reverse p.choices.items)) left) (search_at b p (Over Failed) left)
      (turns_same (language_of b) (resumed b p c (Over Failed) left) (search_with b p (Over Failed) (catches ∷ frames_on b p (reverse p.choices.items)) left) (ap (λ fs. search_with b p (Over Failed) fs left) frames))
      (turn_catch_done (language_of b) c.depth left (program_of (linked b)).clauses _ (frames_on b p (reverse p.choices.items)));
}
  where
    inside : IsInside p c
    inside = inside_catch p c name catcher recovery is

    catches : FrameOf (language_of b)
    catches = frame_from b p.width (Catch name catcher recovery) c.depth (state_at c.mark (state_of p)) (rest_items b p.width (state_of p) p.frames c) (env_of (setting_at p.frames c.rest)) p.template (first (answers_of p))

    frames : frames_on b p (c ∷ reverse p.choices.items) ≡ catches ∷ frames_on b p (reverse p.choices.items)
    frames =
        left_frames b p c (reverse p.choices.items) inside w
        ∙ ap (λ k. frame_from b p.width k c.depth (state_at c.mark (state_of p)) (rest_items b p.width (state_of p) p.frames c) (env_of (setting_at p.frames c.rest)) p.template (first (answers_of p)) ∷ frames_on b p (reverse p.choices.items)) is

pub placed_well : (b : CompiledProgram) (q : Path) (cs : List Choice) (d e f pc k : ℕ) → d ≤ e → IsWellWith b q cs d → IsWellWith b (record q { f = f; pc = pc; depth = k }) cs e
placed_well b q cs d e f pc k le w = record {
  store = w.store;
  frames = w.frames;
  template = w.template;
  wide = w.wide;
  records = deeper cs w.records;
  gathered = w.gathered;
}
  where
    deeper : (cs : List Choice) → Stand (linked b) q.width (state_of q) q.frames (length q.frames) d (mark_of (state_of q)) cs q.template → Stand (linked b) q.width (state_of q) q.frames (length q.frames) e (mark_of (state_of q)) cs q.template
    deeper cs h =
        stand_wider (linked b) q.width (state_of q) q.frames (length q.frames) (length q.frames) d e (mark_of (state_of q)) (mark_of (state_of q)) cs q.template
        (floor_below (linked b) q.width (state_of q) q.frames (length q.frames) d (mark_of (state_of q)) cs q.template h) le (record { cells = omega arith; trail = omega arith; vars = omega arith }) h

pub deeper_well : (b : CompiledProgram) (q : Path) (cs : List Choice) (d e : ℕ) → d ≤ e → IsWellWith b q cs d → IsWellWith b q cs e
deeper_well b q cs d e le w =
    let x = placed_well b q cs d e q.f q.pc q.depth le w in
    record { store = w.store; frames = w.frames; template = w.template; wide = w.wide; records = x.records; gathered = w.gathered }

pub setting_low : (s : State) (frames : List Frame) (k : ℕ) → 0 < k → k ≤ length frames → FramesFit s frames → (setting_in (place_get (reverse frames) k)).base ≤ s.next
setting_low s frames k some le fit = by (place_get (reverse frames) k) refl
  where
    by : (o : Option Frame) → place_get (reverse frames) k ≡ o → (setting_in o).base ≤ s.next
    by None is = absurd (place_there (reverse frames) k some (omega (arith, le, length-reverse frames)) is)
    by (Some fr) is = (fits_read s k frames fr fit is).0

-- ---- a path that went back to such a record

module _ (b : CompiledProgram) (p q : Path) (c : Choice) (inside : IsInside p c) (w : IsWellWith b p (c ∷ reverse p.choices.items) p.depth)
    (state : state_of q ≡ state_at c.mark (state_of p)) (frames : q.frames ≡ take c.rest p.frames) (others : q ≡ record p { store = q.store; frames = q.frames }) where
  template : q.template ≡ outer_of c.kind p.template
  template = ap (λ x. x.template) others ∙ sym inside.0

  gathered : answers_of q ≡ outer_answers c.kind (answers_of p)
  gathered = ap (λ x. answers_of x) others ∙ sym inside.1

  width : q.width ≡ p.width
  width = ap (λ x. x.width) others

  choices : reverse q.choices.items ≡ reverse p.choices.items
  choices = ap (λ x. reverse x.choices.items) others

  pub retried_well : IsWellWith b q (reverse q.choices.items) c.depth
  retried_well = subst (λ l. IsWellWith b q l c.depth) (sym choices) (back_well b p q c (reverse p.choices.items) p.depth w state frames template gathered width)

  shallow : c.depth < p.depth
  shallow = w.records.0.shallow

  -- what the record stands for, on the path that went back
  pub retried_frames : (f pc : ℕ) → ((x : ℕ → BodyCode) (s : State) → items_of x s q.frames f pc ≡ items_of x s q.frames c.rest 0)
      → frames_on b p (c ∷ reverse p.choices.items)
      ≡ frame_from b q.width c.kind c.depth (state_of q) (items_here b q f pc) (env_of (setting_in (place_get (reverse q.frames) c.rest))) q.template (first (answers_of p)) ∷ frames_on b q (reverse q.choices.items)
  retried_frames f pc h =
      let cs : List Choice = reverse p.choices.items in
      let below : frames_on b q (reverse q.choices.items) ≡ frames_by b p.width (state_of p) p.frames cs (outer_of c.kind p.template) (outer_answers c.kind (answers_of p)) =
      ap (frames_on b q) choices ∙ back_frames b p q c cs p.depth w state frames template gathered width in
      ap (λ fs. frame_from b p.width c.kind c.depth (state_at c.mark (state_of p)) (rest_items b p.width (state_of p) p.frames c) (env_of (setting_at p.frames c.rest)) p.template (first (answers_of p)) ∷ fs) (sym below)
      ∙ ap (λ v. frame_from b v c.kind c.depth (state_at c.mark (state_of p)) (rest_items b p.width (state_of p) p.frames c) (env_of (setting_at p.frames c.rest)) p.template (first (answers_of p)) ∷ frames_on b q (reverse q.choices.items)) (sym width)
      ∙ ap (λ σ. frame_from b q.width c.kind c.depth σ (rest_items b p.width (state_of p) p.frames c) (env_of (setting_at p.frames c.rest)) p.template (first (answers_of p)) ∷ frames_on b q (reverse q.choices.items)) (sym state)
      ∙ ap (λ r. frame_from b q.width c.kind c.depth (state_of q) r (env_of (setting_at p.frames c.rest)) p.template (first (answers_of p)) ∷ frames_on b q (reverse q.choices.items)) (sym (back_rest b p q c cs p.depth w state frames template gathered width f pc h))
      ∙ ap (λ st. frame_from b q.width c.kind c.depth (state_of q) (items_here b q f pc) (env_of st) p.template (first (answers_of p)) ∷ frames_on b q (reverse q.choices.items)) (sym (back_setting b p q c cs p.depth w state frames template gathered width))
      ∙ ap (λ t. frame_from b q.width c.kind c.depth (state_of q) (items_here b q f pc) (env_of (setting_in (place_get (reverse q.frames) c.rest))) t (first (answers_of p)) ∷ frames_on b q (reverse q.choices.items)) (sym (ap (λ x. x.template) others))

  -- a branch goes on from the record's frame
  pub retried_branch : (f pc : ℕ) → c.kind ≡ Branch → ((x : ℕ → BodyCode) (s : State) → items_of x s q.frames f pc ≡ items_of x s q.frames c.rest 0)
      → Moved b p (record q { f = f; pc = pc; depth = c.depth + 1 }) (resumed b p c (Over Failed)) On
  retried_branch f pc is h = record {
    well = deeper;
    low = omega (arith, shallow);
    width = width;
    goes = λ left.
        let L : Language = language_of b in
        let tries : FrameOf L = Tries c.depth (leads (place c.depth (items_here b q f pc) (world_here b q)) ∷ []) in
        let fs : List (FrameOf L) = frames_on b q (reverse q.choices.items) in
        let same : frames_on b p (c ∷ reverse p.choices.items) ≡ tries ∷ fs =
        retried_frames f pc h ∙ ap (λ k. frame_from b q.width k c.depth (state_of q) (items_here b q f pc) (env_of (setting_in (place_get (reverse q.frames) c.rest))) q.template (first (answers_of p)) ∷ fs) is in
        turns_then L (resumed b p c (Over Failed) left) (search_with b p (Over Failed) (tries ∷ fs) left) _
        (turns_same L (resumed b p c (Over Failed) left) (search_with b p (Over Failed) (tries ∷ fs) left) (ap (λ gs. search_with b p (Over Failed) gs left) same))
        (turn_last L c.depth left (program_of (linked b)).clauses (program_of (linked b)).clauses (leads (place c.depth (items_here b q f pc) (world_here b q))) (items_here b q f pc) (world_here b q) fs refl);
  }
    where
      deeper : IsWellWith b (record q { f = f; pc = pc; depth = c.depth + 1 }) (reverse q.choices.items) (c.depth + 1)
      deeper = placed_well b q (reverse q.choices.items) c.depth (c.depth + 1) f pc (c.depth + 1) (omega arith) retried_well

  -- clauses are tried from the record's clause on
  module _ (a : Attempt) (clause : ClauseId) (is : c.kind ≡ Clauses clause a.goal) (depth : a.setting.depth ≡ c.depth) (env : env_of a.setting ≡ env_of (setting_in (place_get (reverse q.frames) c.rest)))
      (base : a.setting.base ≡ (setting_in (place_get (reverse q.frames) c.rest)).base) (within : a.rest.f ≤ c.rest)
      (rest : (x : ℕ → BodyCode) (s : State) → items_of x s q.frames a.rest.f a.rest.pc ≡ items_of x s q.frames c.rest 0) where
    abbrev onward : Path
    onward = record q { depth = c.depth + 1 }

    same_length : length q.frames ≡ c.rest
    same_length = back_length b p q c (reverse p.choices.items) p.depth w state frames template gathered width

    kind : KindFits (linked b) (state_of q) (Clauses clause a.goal) p.template
    kind = subst (λ σ. KindFits (linked b) σ (Clauses clause a.goal) p.template) (sym state) (subst (λ k. KindFits (linked b) (state_at c.mark (state_of p)) k p.template) is w.records.0.kind)

    pub retried_trying : IsTrying b onward a clause.0
    retried_trying = record {
      well = subst (λ d. IsWellWith b onward (reverse q.choices.items) d) (sym depth) (placed_well b q (reverse q.choices.items) c.depth c.depth q.f q.pc (c.depth + 1) (omega arith) retried_well);
      depth = ap (λ d. d + 1) (sym depth);
      goal = kind.0;
      rest = omega (arith, within, same_length);
      base = let low = setting_low (state_of q) q.frames c.rest w.records.0.some (omega (arith, same_length)) retried_well.frames in omega (arith, base, low);
      fits = kind.1;
    }

    pub retried_clauses : (new : Path) (g : Going) → Moved b onward new (tried b onward a clause.0) g → Moved b p new (resumed b p c (Over Failed)) g
    retried_clauses new g m = moved_then b p onward new (resumed b p c (Over Failed)) (tried b onward a clause.0) g (λ left. turns_same (language_of b) (resumed b p c (Over Failed) left) (tried b onward a clause.0 left) (ap (λ gs. search_with b p (Over Failed) gs left) same)) (omega (arith, shallow)) width m
      where
        fs : List (FrameOf (language_of b))
        fs = frames_on b q (reverse q.choices.items)

        same : frames_on b p (c ∷ reverse p.choices.items)
            ≡ Tries a.setting.depth (map (resolves (record { depth = a.setting.depth; goal = tree_at (state_of q) a.goal; env = env_of a.setting; rest = items_here b q a.rest.f a.rest.pc; world = world_here b q })) (clauses_on (linked b) clause.0)) ∷ fs
        same =
            retried_frames a.rest.f a.rest.pc rest
            ∙ ap (λ k. frame_from b q.width k c.depth (state_of q) (items_here b q a.rest.f a.rest.pc) (env_of (setting_in (place_get (reverse q.frames) c.rest))) q.template (first (answers_of p)) ∷ fs) is
            ∙ ap (λ e. frame_from b q.width (Clauses clause a.goal) c.depth (state_of q) (items_here b q a.rest.f a.rest.pc) e q.template (first (answers_of p)) ∷ fs) (sym env)
            ∙ ap (λ d. frame_from b q.width (Clauses clause a.goal) d (state_of q) (items_here b q a.rest.f a.rest.pc) (env_of a.setting) q.template (first (answers_of p)) ∷ fs) (sym depth)

-- ---- a record that is taken off

module _ (b : CompiledProgram) (old mid : Path) (c : Choice) (is : reverse old.choices.items ≡ c ∷ reverse mid.choices.items) (others : mid ≡ record old { choices = mid.choices }) where
  pub popped_turns : (point : PointOf (language_of b)) (left : ℕ) → Turns (language_of b) (search_at b old point left) (resumed b mid c point left)
  popped_turns point left =
      turns_same (language_of b) (search_at b old point left) (resumed b mid c point left)
      (ap (λ l. search_with b old point (frames_on b old l) left) is ∙ ap (λ x. search_with b x point (frames_on b x (c ∷ reverse mid.choices.items)) left) (sym others))

  pub popped_well : IsWell b old → IsWellWith b mid (c ∷ reverse mid.choices.items) mid.depth
  popped_well w = subst (λ x. IsWellWith b x (c ∷ reverse mid.choices.items) x.depth) (sym others) (placed_back (subst (λ l. IsWellWith b old l old.depth) is w))
    where
      placed_back : IsWellWith b old (c ∷ reverse mid.choices.items) old.depth → IsWellWith b (record old { choices = mid.choices }) (c ∷ reverse mid.choices.items) old.depth
      placed_back w = record { store = w.store; frames = w.frames; template = w.template; wide = w.wide; records = w.records; gathered = w.gathered }

  pub popped_fewer : vec_len mid.choices < vec_len old.choices
  popped_fewer =
      let n : length (reverse old.choices.items) ≡ suc (length (reverse mid.choices.items)) = ap length is in
      omega (arith, n, length-reverse old.choices.items, length-reverse mid.choices.items, old.choices.ok, mid.choices.ok)

  pub popped_moved : (first new : Path) (point : PointOf (language_of b)) (x : ℕ → Configuration (language_of b)) (g : Going) → ((left : ℕ) → Turns (language_of b) (x left) (search_at b old point left)) → old.depth ≤ first.depth → old.width ≡ first.width → Moved b mid new (resumed b mid c point) g → Moved b first new x g
  popped_moved first new point x g t low width m =
      let d : mid.depth ≡ old.depth = ap (λ y. y.depth) others in
      let v : mid.width ≡ old.width = ap (λ y. y.width) others in
      moved_then b first mid new x (resumed b mid c point) g (λ left. turns_then (language_of b) (x left) (search_at b old point left) (resumed b mid c point left) (t left) (popped_turns point left)) (omega (arith, d, low)) (v ∙ width) m

  -- where it led to failure
  pub popped_on : (first new : Path) (left : ℕ) → Turns (language_of b) (search_at b first (Over Failed) left) (search_at b old (Over Failed) left) → Moved b mid new (resumed b mid c (Over Failed)) Fails → Turns (language_of b) (search_at b first (Over Failed) left) (search_at b new (Over Failed) left)
  popped_on first new left t m =
      turns_then (language_of b) (search_at b first (Over Failed) left) (search_at b old (Over Failed) left) (search_at b new (Over Failed) left) t
      (turns_then (language_of b) (search_at b old (Over Failed) left) (resumed b mid c (Over Failed) left) (search_at b new (Over Failed) left) (popped_turns (Over Failed) left) (m.goes left))

pub was_last : {A : Type 0} (xs ys : List A) (x : A) → xs ≡ ys ++ x ∷ [] → reverse xs ≡ x ∷ reverse ys
was_last xs ys x is = ap reverse is ∙ reverse-append ys (x ∷ [])

-- ---- no record is left

pub no_items : {A : Type 0} (v : Vec A Global) → vec_len v ≡ 0 → v.items ≡ []
no_items v h = none v.items (omega (arith, h, v.ok))
  where
    none : {A : Type 0} (xs : List A) → length xs ≡ 0 → xs ≡ []
    none [] h = refl
    none (x ∷ xs) h = absurd (omega (arith, h))

pub same_choices : (b : CompiledProgram) (old : Path) (v : Vec Choice Global) → v.items ≡ old.choices.items → (first : Path) (x : ℕ → Configuration (language_of b)) → IsWell b old → old.depth ≤ first.depth → old.width ≡ first.width
    → ((left : ℕ) → Turns (language_of b) (x left) (search_at b old (Over Failed) left)) → Moved b first (record old { choices = v }) x Fails
same_choices b old v is first x w low width goes = record {
  well = record { store = w.store; frames = w.frames; template = w.template; wide = w.wide; records = subst (λ l. Stand (linked b) old.width (state_of old) old.frames (length old.frames) old.depth (mark_of (state_of old)) (reverse l) old.template) (sym is) w.records; gathered = ap (λ l. collects (reverse l)) is ∙ w.gathered };
  low = low;
  width = width;
  goes = λ left. subst (λ l. Turns (language_of b) (x left) (search_with b old (Over Failed) (frames_on b old (reverse l)) left)) (sym is) (goes left);
}
