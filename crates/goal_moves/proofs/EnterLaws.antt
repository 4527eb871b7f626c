-- Paths on which frames are put: what is to be run from them.
use Rattle.std.proofs.Common.{◌≡◌, ℕ, zero, suc, ◌<◌, ◌≤◌, List, [], ◌∷◌, ◌++◌, refl, sym, ap, ◌∙◌, subst, arith, length, reverse, map, drop, drop-cons, ◌-◌}
use Rattle.std.specs.Prelude.{slice_index_or}
use Rattle.pl_unify.specs.declared.word.Ref.{Ref}
use Rattle.pl_unify.specs.State.{State, tree_at, IsRef}
use Rattle.pl_unify.specs.Making.{AreRefs}
use Rattle.goal_code.specs.Denotation.{called as calling}
use Rattle.goal_model.specs.Table.{Items}
use Rattle.goal_code.specs.Continuations.{items_from}
use Rattle.goal_state.specs.declared.frames.Frame.{Frame}
use Rattle.goal_state.specs.declared.frames.Setting.{Setting}
use Rattle.goal_state.specs.declared.frames.Part.{Part}
use Rattle.goal_state.specs.declared.frames.Part.TheVariants as P
use Rattle.goal_code.specs.BodyCode.{BodyCode}
use Rattle.goal_state.specs.Frames.{env_of, running, part_item, frame_items, PartFits, FrameFits}
use Rattle.goal_state.specs.declared.compiled.CompiledProgram.{CompiledProgram}
use Rattle.goal_state.specs.declared.path.Path.{Path}
use Rattle.pl_terms.specs.Trees.{Tree}
use Rattle.goal_model.specs.Bodies.{flat}
use Rattle.goal_code.specs.Shapes.{conjuncts}
use Rattle.goal_code.proofs.DenotationLaws.{flat_are_goals}
use Rattle.goal_constructs.specs.Constructs.{AreConstructs}
use Rattle.goal_constructs.specs.Conjuncts.{Appends}
use Rattle.goal_constructs.proofs.NameLaws.{control_names}
use Rattle.goal_state.specs.Denotation.{naming, bodies, state_of, items_here, frames_on}
use Rattle.goal_state.specs.Well.{IsWellWith, floor_of}
use Rattle.goal_state.specs.Steps.{Put}
use Rattle.goal_state.proofs.PathLaws.{put_items, put_older, put_within, put_frames_on, put_well}
use Rattle.goal_moves.specs.declared.active.Rest.{Rest}
use Rattle.goal_moves.specs.Entering.{call_at, calls_at}
use Rattle.goal_moves.specs.Moves.{Entered, IsOne}

abbrev pub rest_at : ℕ → ℕ → Rest
rest_at f pc = record { f = f; pc = pc }

-- a path that goes on from a place
abbrev pub going : ℕ → ℕ → Path → Path
going f pc p = record p { f = f; pc = pc }

abbrev pub placed : List Frame → ℕ → ℕ → Path → Path
placed frames f pc p = record p { frames = frames; f = f; pc = pc }

-- where a path goes on is no part of what it keeps
pub well_at : (b : CompiledProgram) (p : Path) (f pc d : ℕ) → IsWellWith b p (reverse p.choices.items) d → IsWellWith b (record p { f = f; pc = pc }) (reverse p.choices.items) d
well_at b p f pc d w = record { store = w.store; frames = w.frames; template = w.template; wide = w.wide; records = w.records; gathered = w.gathered }

-- nothing was put
pub entered_none : (b : CompiledProgram) (p : Path) (rest : Rest) → rest.f ≤ length p.frames → Entered b p p rest rest (items_here b p rest.f rest.pc)
entered_none b p rest le = record {
  others = refl;
  within = le;
  at_within = le;
  above = omega arith;
  goes = refl;
  older = λ f pc low. refl;
  records = λ d w. refl;
  well = λ d w. w;
}

-- a path goes on from another place
pub entered_at : (b : CompiledProgram) (p q : Path) (rest at : Rest) (items : Items ℕ) (f pc : ℕ) → Entered b p q rest at items → Entered b p (record q { f = f; pc = pc }) rest at items
entered_at b p q rest at items f pc h = record {
  others = ap (going f pc) h.others;
  within = h.within;
  at_within = h.at_within;
  above = h.above;
  goes = h.goes;
  older = h.older;
  records = h.records;
  well = λ d w.
      let same : q.choices.items ≡ p.choices.items = ap (λ r. r.choices.items) h.others in
      let well : IsWellWith b q (reverse q.choices.items) d = h.well d w in
      record { store = well.store; frames = well.frames; template = well.template; wide = well.wide; records = well.records; gathered = well.gathered };
}

-- where a path went on before is no part of it either
pub entered_from : (b : CompiledProgram) (p q : Path) (rest at : Rest) (items : Items ℕ) (f pc : ℕ) → Entered b (going f pc p) q rest at items → Entered b p q rest at items
entered_from b p q rest at items f pc h = record {
  others = h.others;
  within = h.within;
  at_within = h.at_within;
  above = h.above;
  goes = h.goes;
  older = h.older;
  records = λ d w. h.records d (well_at b p f pc d w);
  well = λ d w. h.well d (well_at b p f pc d w);
}

module _ (b : CompiledProgram) (p q : Path) (fr : Frame) (at : ℕ) (h : Put p q fr at) where
  -- a frame was put
  pub entered_put : (pc : ℕ) (items : Items ℕ) → FrameFits (state_of p) fr
      → frame_items (bodies b) (state_of p) fr.part fr.setting (items_here b p fr.parent fr.ppc) (items_here b p fr.parent) pc ≡ items
      → Entered b p q (rest_at fr.parent fr.ppc) (rest_at at pc) items
  entered_put pc items fit is = record {
    others = ap (going q.f q.pc) h.others;
    within = let within = put_within b p q fr at h in omega (arith, within.0);
    at_within = let within = put_within b p q fr at h in omega (arith, within.1);
    above = let k = h.put.above in let l = h.parent in omega (arith, k, l);
    goes = put_items b p q fr at h pc ∙ is;
    older = put_older b p q fr at h;
    records = λ d w. ap (λ r. frames_on b q (reverse r.choices.items)) h.others ∙ put_frames_on b p q fr at h (reverse p.choices.items) d (omega arith) w;
    well = λ d w. subst (λ cs. IsWellWith b q (reverse cs) d) (sym (ap (λ r. r.choices.items) h.others)) (put_well b p q fr at h (reverse p.choices.items) d (omega arith) fit w);
  }

  -- the frame stands above its parent and the newest record's frame
  pub put_above : (fr.parent ≤ at) × (floor_of (reverse q.choices.items) ≤ length q.frames)
  put_above =
      let same : q.choices.items ≡ p.choices.items = ap (λ r. r.choices.items) h.others in
      let floor : floor_of (reverse q.choices.items) ≤ h.keep = subst (λ cs. floor_of (reverse cs) ≤ h.keep) (sym same) h.floor in
      (omega (arith, h.put.above, h.parent), omega (arith, h.put.above, h.put.placed, floor))

pub put_within_length : (p q : Path) (fr : Frame) (at : ℕ) → Put p q fr at → at ≤ length q.frames
put_within_length p q fr at h = omega (arith, h.put.placed)

pub put_floor : (p q : Path) (fr : Frame) (at : ℕ) → Put p q fr at → floor_of (reverse q.choices.items) ≤ length q.frames
put_floor p q fr at h =
    let same : q.choices.items ≡ p.choices.items = ap (λ r. r.choices.items) h.others in
    let floor : floor_of (reverse q.choices.items) ≤ h.keep = subst (λ cs. floor_of (reverse cs) ≤ h.keep) (sym same) h.floor in
    omega (arith, h.put.above, h.put.placed, floor)

-- what a frame of one item needs and runs
pub one_fits : (s : State) (part : Part) → IsOne s part → PartFits s part
one_fits s P.Body one = absurd one
one_fits s P.Link one = absurd one
one_fits s (P.Goal r) one = one
one_fits s P.Cut one = tt
one_fits s P.Exit one = tt
one_fits s P.Fail one = tt

pub one_item : (code : ℕ → BodyCode) (s : State) (part : Part) (st : Setting) (after : Items ℕ) (outer : ℕ → Items ℕ) → IsOne s part → frame_items code s part st after outer 1 ≡ part_item code s part st ∷ after
one_item code s P.Body st after outer one = absurd one
one_item code s P.Link st after outer one = absurd one
one_item code s (P.Goal r) st after outer one = refl
one_item code s P.Cut st after outer one = refl
one_item code s P.Exit st after outer one = refl
one_item code s P.Fail st after outer one = refl

pub entered_part : (b : CompiledProgram) (p q : Path) (part : Part) (st : Setting) (f pc at : ℕ) → Put p q (record { parent = f; ppc = pc; part = part; setting = st }) at → IsOne (state_of p) part → st.base ≤ (state_of p).next
    → Entered b p q (rest_at f pc) (rest_at at 1) (part_item (bodies b) (state_of p) part st ∷ items_here b p f pc)
entered_part b p q part st f pc at h one base =
    entered_put b p q (record { parent = f; ppc = pc; part = part; setting = st }) at h 1 (part_item (bodies b) (state_of p) part st ∷ items_here b p f pc)
    (base, one_fits (state_of p) part one)
    (one_item (bodies b) (state_of p) part st (items_here b p f pc) (items_here b p f) one)

-- where nothing of the body is left, the rest follows
pub entered_body_none : (b : CompiledProgram) (p : Path) (st : Setting) (f pc : ℕ) → f ≤ length p.frames
    → Entered b p (going f pc p) (rest_at f pc) (rest_at f pc) (items_from (running (bodies b) (state_of p) st) (items_here b p f pc) (items_here b p f) 0)
entered_body_none b p st f pc le = entered_at b p p (rest_at f pc) (rest_at f pc) (items_here b p f pc) f pc (entered_none b p (rest_at f pc) le)

pub entered_body : (b : CompiledProgram) (p q : Path) (st : Setting) (f pc at start : ℕ) → Put (going f pc p) q (record { parent = f; ppc = pc; part = P.Body; setting = st }) at → st.base ≤ (state_of p).next
    → Entered b p (going at start q) (rest_at f pc) (rest_at at start) (items_from (running (bodies b) (state_of p) st) (items_here b p f pc) (items_here b p f) start)
entered_body b p q st f pc at start h base =
    let items : Items ℕ = items_from (running (bodies b) (state_of p) st) (items_here b p f pc) (items_here b p f) start in
    entered_from b p (going at start q) (rest_at f pc) (rest_at at start) items f pc
    (entered_at b (going f pc p) q (rest_at f pc) (rest_at at start) items at start
    (entered_put b (going f pc p) q (record { parent = f; ppc = pc; part = P.Body; setting = st }) at h start items (base, tt) refl))

-- ---- one frame after another

-- more was put above the place where a path goes on
pub entered_then : (b : CompiledProgram) (p q r : Path) (rest at above : Rest) (items more : Items ℕ) → Entered b p q rest at items → rest.f ≤ at.f → Entered b q r at above more → Entered b p r rest above more
entered_then b p q r rest at above items more one low two =
    let same : q.choices.items ≡ p.choices.items = ap (λ r. r.choices.items) one.others in
    record {
      others = two.others ∙ ap (placed r.frames r.f r.pc) one.others;
      within = let within = two.within in omega (arith, low, within);
      at_within = two.at_within;
      above = let k = two.above in omega (arith, low, k);
      goes = two.goes;
      older = λ f pc le. two.older f pc (omega (arith, le, low)) ∙ one.older f pc le;
      records = λ d w. two.records d (one.well d w) ∙ one.records d w;
      well = λ d w. two.well d (one.well d w);
    }

pub calls_are : (s : State) (st : Setting) (rs : List Ref) (after : Items ℕ) → calls_at s st rs after ≡ map (calling (env_of st) st.depth) (map (tree_at s) rs) ++ after
calls_are s st [] after = refl
calls_are s st (r ∷ rs) after = ap (λ l. call_at s st r ∷ l) (calls_are s st rs after)

pub refs_at : (s : State) (rs : List Ref) (k : ℕ) → AreRefs s rs → k < length rs → IsRef s (slice_index_or rs k (record { 0 = 0 }))
refs_at s [] k are lt = absurd (omega (arith, lt))
refs_at s (r ∷ rs) zero are lt = are.0
refs_at s (r ∷ rs) (suc k) are lt = refs_at s rs k are.1 (omega (arith, lt))

-- goals from a place on are entered above the rest
pub record EnteredGoals (b : CompiledProgram) (p q : Path) (st : Setting) (rest at : Rest) (goals : List Ref) : Type 0 where
  pub entered : Entered b p q rest at (calls_at (state_of p) st goals (items_here b p rest.f rest.pc))
  pub above : rest.f ≤ at.f
  pub floor : floor_of (reverse q.choices.items) ≤ length q.frames

pub goals_none : (b : CompiledProgram) (p : Path) (st : Setting) (rest : Rest) → rest.f ≤ length p.frames → floor_of (reverse p.choices.items) ≤ length p.frames → EnteredGoals b p p st rest rest []
goals_none b p st rest le floor = record { entered = entered_none b p rest le; above = omega arith; floor = floor }

pub goals_one : (b : CompiledProgram) (p q r : Path) (st : Setting) (rest : Rest) (f pc at : ℕ) (goal : Ref) (goals : List Ref) → IsRef (state_of p) goal → st.base ≤ (state_of p).next → EnteredGoals b p q st rest (rest_at f pc) goals
    → Put q r (record { parent = f; ppc = pc; part = P.Goal goal; setting = st }) at → EnteredGoals b p r st rest (rest_at at 1) (goal ∷ goals)
goals_one b p q r st rest f pc at goal goals is base h put =
    let same : state_of q ≡ state_of p = ap (λ r. state_of r) h.entered.others in
    let one = entered_part b q r (P.Goal goal) st f pc at put (subst (λ s. IsRef s goal) (sym same) is) (subst (λ s. st.base ≤ s.next) (sym same) base) in
    let goes : part_item (bodies b) (state_of q) (P.Goal goal) st ∷ items_here b q f pc ≡ calls_at (state_of p) st (goal ∷ goals) (items_here b p rest.f rest.pc)
    = ap (λ s. call_at s st goal ∷ items_here b q f pc) same ∙ ap (λ l. call_at (state_of p) st goal ∷ l) h.entered.goes in
    let above = put_above b q r (record { parent = f; ppc = pc; part = P.Goal goal; setting = st }) at put in
    record {
      entered = entered_then b p q r rest (rest_at f pc) (rest_at at 1) (calls_at (state_of p) st goals (items_here b p rest.f rest.pc)) (calls_at (state_of p) st (goal ∷ goals) (items_here b p rest.f rest.pc)) h.entered h.above (subst (λ l. Entered b q r (rest_at f pc) (rest_at at 1) l) goes one);
      above = let low = h.above in omega (arith, low, above.0);
      floor = above.1;
    }

-- the goals from the place before on
pub goals_step : (b : CompiledProgram) (p q r : Path) (st : Setting) (rest : Rest) (f pc at left : ℕ) (goals : List Ref) → AreRefs (state_of p) goals → 0 < left → left ≤ length goals → st.base ≤ (state_of p).next → EnteredGoals b p q st rest (rest_at f pc) (drop left goals)
    → Put q r (record { parent = f; ppc = pc; part = P.Goal (slice_index_or goals (left - 1) (record { 0 = 0 })); setting = st }) at → EnteredGoals b p r st rest (rest_at at 1) (drop (left - 1) goals)
goals_step b p q r st rest f pc at left goals are some le base h put =
    let lt : left - 1 < length goals = omega (arith, some, le) in
    let next : suc (left - 1) ≡ left = omega (arith, some) in
    subst (EnteredGoals b p r st rest (rest_at at 1)) (sym (drop-cons goals (left - 1) (record { 0 = 0 }) lt ∙ ap (λ k. slice_index_or goals (left - 1) (record { 0 = 0 }) ∷ drop k goals) next))
    (goals_one b p q r st rest f pc at (slice_index_or goals (left - 1) (record { 0 = 0 })) (drop left goals) (refs_at (state_of p) goals (left - 1) are lt) base h put)

pub goals_first : (b : CompiledProgram) (p : Path) (st : Setting) (rest : Rest) (goals : List Ref) → rest.f ≤ length p.frames → floor_of (reverse p.choices.items) ≤ length p.frames → EnteredGoals b p p st rest rest (drop (length goals) goals)
goals_first b p st rest goals le floor = subst (EnteredGoals b p p st rest rest) (sym (drop-all goals)) (goals_none b p st rest le floor)
  where
    drop-all : (rs : List Ref) → drop (length rs) rs ≡ []
    drop-all [] = refl
    drop-all (r ∷ rs) = drop-all rs

-- the goals of a converted term are its conjuncts
pub goals_flat : (b : CompiledProgram) (s : State) (term : Ref) (st : Setting) (goals : List Ref) (after : Items ℕ) → AreConstructs (naming b) b.constructs → Appends s [] goals (conjuncts b.constructs.names.control (tree_at s term))
    → calls_at s st goals after ≡ flat (naming b) (tree_at s term) (env_of st) st.depth ++ after
goals_flat b s term st goals after are h =
    calls_are s st goals after
    ∙ ap (λ ts. map (calling (env_of st) st.depth) ts ++ after) (ap (map (tree_at s)) h.list ∙ h.trees)
    ∙ ap (λ l. l ++ after) (sym (flat_are_goals (naming b) b.constructs.names.control (control_names (naming b) b.constructs are) (tree_at s term) (env_of st) st.depth))

pub goals_refs : (s : State) (goals : List Ref) (ts : List (Tree ℕ)) → Appends s [] goals ts → AreRefs s goals
goals_refs s goals ts h = subst (AreRefs s) (sym h.list) h.places

pub goals_whole : (b : CompiledProgram) (p q : Path) (st : Setting) (rest at : Rest) (left : ℕ) (goals : List Ref) → left ≡ 0 → EnteredGoals b p q st rest at (drop left goals)
    → Entered b p q rest at (calls_at (state_of p) st goals (items_here b p rest.f rest.pc))
goals_whole b p q st rest at left goals none h = (subst (λ k. EnteredGoals b p q st rest at (drop k goals)) none h).entered

pub entered_goals : (b : CompiledProgram) (p q : Path) (term : Ref) (st : Setting) (rest : Rest) (f pc : ℕ) (goals : List Ref) → AreConstructs (naming b) b.constructs → Appends (state_of p) [] goals (conjuncts b.constructs.names.control (tree_at (state_of p) term))
    → Entered b p q rest (rest_at f pc) (calls_at (state_of p) st goals (items_here b p rest.f rest.pc))
    → Entered b p (going f pc q) rest (rest_at f pc) (flat (naming b) (tree_at (state_of p) term) (env_of st) st.depth ++ items_here b p rest.f rest.pc)
entered_goals b p q term st rest f pc goals are made h =
    subst (λ l. Entered b p (going f pc q) rest (rest_at f pc) l) (goals_flat b (state_of p) term st goals (items_here b p rest.f rest.pc) are made)
    (entered_at b p q rest (rest_at f pc) (calls_at (state_of p) st goals (items_here b p rest.f rest.pc)) f pc h)

pub appends_alone : (s : State) (old new goals : List Ref) (ts : List (Tree ℕ)) → old ≡ [] → goals ≡ new → Appends s old new ts → Appends s [] goals ts
appends_alone s old new goals ts none same h = record { items = h.items; list = same ∙ h.list ∙ ap (λ l. l ++ h.items) none; places = h.places; trees = h.trees }
