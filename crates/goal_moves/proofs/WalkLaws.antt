-- Steps that activate no goal.
use Rattle.std.proofs.Common.{◌≡◌, ℕ, ◌+◌, ◌*◌, List, ◌∷◌, refl, sym, ap, ◌∙◌, subst, arith, length, reverse, map}
use Rattle.std.specs.Prelude.{nat_eq}
use Rattle.std.proofs.lemmas.List.{length-map, length-reverse}
use Rattle.solver_model.specs.Search.{Cut, At, Language, FrameOf}
use Rattle.solver_model.specs.Frames.{below}
use Rattle.solver_model.specs.Configurations.{Configuration, Sane, Turns, Ungathered, value_of, weight, untried_in}
use Rattle.solver_model.proofs.TurnLaws.{turns_then, turns_same, turn_cut}
use Rattle.goal_model.specs.Table.{Items}
use Rattle.goal_model.proofs.GuardProofs.{table_ok}
use Rattle.pl_store.specs.Runs.{program_of}
use Rattle.goal_state.specs.declared.compiled.CompiledProgram.{CompiledProgram}
use Rattle.goal_state.specs.declared.path.Path.{Path}
use Rattle.goal_state.specs.Denotation.{linked, naming, language_of, answers_of, state_of, items_here, world_here, frames_by, frames_on, point_here, search_at}
use Rattle.goal_state.specs.Well.{IsWell, IsWellWith, TemplateFits, Stand as Standing, collects, mark_of}
use Rattle.goal_state.specs.Steps.{kept, template_kept, answers_kept}
use Rattle.goal_moves.specs.Walking.{Walked}
use Rattle.goal_moves.proofs.CutLaws.{kept_frames, kept_template, kept_stand, kept_fits, kept_collects}

-- a turn to what is another configuration where the search is sane
turns_when : (L : Language) (x y z : Configuration L) → Turns L x y → (Sane L x → y ≡ z) → z.left ≡ y.left → weight L z ≡ weight L y → Turns L x z
turns_when L x y z t e left weigh = record {
  value = λ s. ap (value_of L) (sym (e s)) ∙ t.value s;
  sane = λ s. subst (Sane L) (e s) (t.sane s);
  left = omega (arith, t.left, left);
  lighter = λ i. let j : y.left ≡ x.left = omega (arith, i, left) in omega (arith, t.lighter j, weigh);
}

-- ---- paths that stand elsewhere

-- what a search has on a path where these items stand first
abbrev with_items : (b : CompiledProgram) → Path → Items ℕ → ℕ → Configuration (language_of b)
with_items b p items left = search_at b p (At (record { depth = p.depth; items = items; world = world_here b p })) left

pub elsewhere_well : (b : CompiledProgram) (p : Path) (f pc : ℕ) → IsWell b p → IsWell b (record p { f = f; pc = pc })
elsewhere_well b p f pc w = record { store = w.store; frames = w.frames; template = w.template; wide = w.wide; records = w.records; gathered = w.gathered }

pub walked_same : (b : CompiledProgram) (p : Path) (f pc : ℕ) → IsWell b p → items_here b p p.f p.pc ≡ items_here b p f pc → Walked b p (record p { f = f; pc = pc })
walked_same b p f pc w e = record {
  well = elsewhere_well b p f pc w;
  depth = refl;
  width = refl;
  goes = λ left. turns_same (language_of b) (with_items b p (items_here b p p.f p.pc) left) (with_items b p (items_here b p f pc) left) (ap (λ i. with_items b p i left) e);
}

pub walked_then : (b : CompiledProgram) (p m q : Path) → Walked b p m → Walked b m q → Walked b p q
walked_then b p m q g h = record {
  well = h.well;
  depth = h.depth ∙ g.depth;
  width = h.width ∙ g.width;
  goes = λ left. turns_then (language_of b) (search_at b p (point_here b p) left) (search_at b m (point_here b m) left) (search_at b q (point_here b q) left) (g.goes left) (h.goes left);
}

-- ---- cuts

answers_length : (p : Path) → length (answers_of p) ≡ length p.gathered.items
answers_length p = length-reverse (map (λ g. g.items) p.gathered.items) ∙ length-map p.gathered.items (λ g. g.items)

-- the records from a depth on were removed
pub record IsCut (p m : Path) (d : ℕ) : Type 0 where
  pub choices : reverse m.choices.items ≡ kept d (reverse p.choices.items)
  pub template : m.template ≡ template_kept d (reverse p.choices.items) p.template
  pub gathered : answers_of m ≡ answers_kept d (reverse p.choices.items) (answers_of p)
  pub others : m ≡ record p { choices = m.choices; template = m.template; gathered = m.gathered }

module _ (b : CompiledProgram) (p m : Path) (d f pc : ℕ) (well : IsWell b p) (h : IsCut p m d) where
  cut_frames : frames_on b m (reverse m.choices.items) ≡ below d (frames_on b p (reverse p.choices.items))
  cut_frames =
      ap (λ r. frames_by b r.width (state_of r) r.frames (reverse m.choices.items) m.template (answers_of m)) h.others
      ∙ ap (λ l. frames_by b p.width (state_of p) p.frames l m.template (answers_of m)) h.choices
      ∙ ap (λ t. frames_by b p.width (state_of p) p.frames (kept d (reverse p.choices.items)) t (answers_of m)) h.template
      ∙ ap (λ g. frames_by b p.width (state_of p) p.frames (kept d (reverse p.choices.items)) (template_kept d (reverse p.choices.items) p.template) g) h.gathered
      ∙ kept_frames b p.width (state_of p) p.frames d (reverse p.choices.items) p.template (answers_of p)

  cut_well : IsWell b (record m { f = f; pc = pc })
  cut_well = subst (λ r. IsWellWith b (record r { f = f; pc = pc }) (reverse m.choices.items) r.depth) (sym h.others) (record {
    store = well.store;
    frames = well.frames;
    template = subst (TemplateFits (state_of p)) (sym h.template) (kept_fits (linked b) p.width (state_of p) p.frames d (length p.frames) p.depth (mark_of (state_of p)) (reverse p.choices.items) p.template well.template well.records);
    wide = well.wide;
    records =
        subst (λ l. Standing (linked b) p.width (state_of p) p.frames (length p.frames) p.depth (mark_of (state_of p)) l m.template) (sym h.choices)
        (subst (λ t. Standing (linked b) p.width (state_of p) p.frames (length p.frames) p.depth (mark_of (state_of p)) (kept d (reverse p.choices.items)) t) (sym h.template)
        (kept_stand (linked b) p.width (state_of p) p.frames d (length p.frames) p.depth (mark_of (state_of p)) (reverse p.choices.items) p.template well.records));
    gathered = ap collects h.choices ∙ kept_collects d (reverse p.choices.items) (answers_of p) (well.gathered ∙ sym (answers_length p)) ∙ ap length (sym h.gathered) ∙ answers_length m;
  })

  -- at these items, over these frames
  abbrev over : Path → List (FrameOf (language_of b)) → ℕ → Configuration (language_of b)
  over r frames left = record { point = At (record { depth = r.depth; items = items_here b r f pc; world = world_here b r }); left = left; clauses = (program_of (linked b)).clauses; frames = frames }

  same_over : (left : ℕ) → m.template ≡ p.template → over p (below d (frames_on b p (reverse p.choices.items))) left ≡ over m (frames_on b m (reverse m.choices.items)) left
  same_over left t = sym (
      ap (λ r. over r (frames_on b m (reverse m.choices.items)) left) h.others
      ∙ ap (λ o. over (record p { template = o }) (frames_on b m (reverse m.choices.items)) left) t
      ∙ ap (λ fs. over p fs left) cut_frames
      )

  pub walked_cut : items_here b p p.f p.pc ≡ Cut d ∷ items_here b p f pc → Walked b p (record m { f = f; pc = pc })
  walked_cut e = record {
    well = cut_well;
    depth = ap (λ r. r.depth) h.others;
    width = ap (λ r. r.width) h.others;
    goes = λ left.
        turns_when (language_of b) (with_items b p (items_here b p p.f p.pc) left) (over p (below d (frames_on b p (reverse p.choices.items))) left) (over m (frames_on b m (reverse m.choices.items)) left)
        (turns_then (language_of b) (with_items b p (items_here b p p.f p.pc) left) (with_items b p (Cut d ∷ items_here b p f pc) left) (over p (below d (frames_on b p (reverse p.choices.items))) left)
        (turns_same (language_of b) (with_items b p (items_here b p p.f p.pc) left) (with_items b p (Cut d ∷ items_here b p f pc) left) (ap (λ i. with_items b p i left) e))
        (turn_cut (language_of b) (table_ok (naming b) nat_eq (program_of (linked b))) p.depth left d (world_here b p) (program_of (linked b)).clauses (items_here b p f pc) (frames_on b p (reverse p.choices.items))))
        (λ s. same_over left (h.template ∙ kept_template b p.width (state_of p) p.frames d (reverse p.choices.items) p.template (answers_of p) (ungathered left s)))
        refl
        (ap (λ fs. 2 * untried_in (language_of b) fs + 1) cut_frames);
  }
    where
      ungathered : (left : ℕ) → Sane (language_of b) (with_items b p (items_here b p p.f p.pc) left) → Ungathered (language_of b) d (frames_on b p (reverse p.choices.items))
      ungathered left s =
          let s2 : Sane (language_of b) (with_items b p (Cut d ∷ items_here b p f pc) left) = subst (λ i. Sane (language_of b) (with_items b p i left)) e s in
          s2.0.2.0.1
