-- Paths whose records stand for given frames of the search while goals are put before what is to be run.
use Rattle.std.proofs.Common.{◌≡◌, ℕ, ◌+◌, ◌-◌, ◌≤◌, List, [], ◌∷◌, Option, Some, None, refl, sym, ap, ◌∙◌, subst, arith, length, reverse, take, map, length-take}
use Rattle.pl_terms.specs.Occurrence.{from_to}
use Rattle.pl_unify.specs.declared.word.Ref.{Ref}
use Rattle.pl_unify.specs.declared.store.Mark.{Mark}
use Rattle.pl_unify.specs.State.{State, IsRef, Grows}
use Rattle.solver_model.specs.Search.{FrameOf, Tries}
use Rattle.goal_model.specs.Table.{Items, World, on, place, leads}
use Rattle.goal_state.specs.declared.frames.Setting.{Setting}
use Rattle.goal_state.specs.Frames.{items_of, FramesFit}
use Rattle.goal_state.proofs.StoreLaws.{items_stay, fits_take}
use Rattle.pl_store.specs.Linked.{Linked}
use Rattle.goal_state.specs.declared.choice.Choice.{Choice}
use Rattle.goal_state.specs.declared.choice.ChoiceKind.{ChoiceKind}
use Rattle.goal_state.specs.declared.choice.ChoiceKind.TheVariants.{Branch}
use Rattle.goal_state.specs.declared.compiled.CompiledProgram.{CompiledProgram}
use Rattle.goal_state.specs.declared.path.Path.{Path}
use Rattle.goal_state.specs.Denotation.{bodies, linked, language_of, state_of, template_of, world_of, items_here, world_here, frames_on, outer_of}
use Rattle.goal_state.specs.Well.{Older, Stands, Stand, KindFits, TemplateFits, IsWellWith, floor_of, mark_of, collects}
use Rattle.goal_state.specs.Steps.{Opened, link_to}
use Rattle.goal_state.proofs.RecordLaws.{stand_wider}
use Rattle.goal_state.proofs.PathLaws.{grown_frames_on, grown_well, put_well, put_within, opened_choices, opened_frames_on, opened_items}
use Rattle.goal_moves.specs.declared.active.Rest.{Rest}
use Rattle.goal_moves.specs.Control.{Grew, OpenedHere}
use Rattle.goal_moves.specs.Moves.{Entered}

-- a path whose records are in order for a node of depth d and stand for these frames, with the same world, depth and width as another
pub record Steady (b : CompiledProgram) (old p : Path) (d : ℕ) (fs : List (FrameOf (language_of b))) : Type 0 where
  pub well : IsWellWith b p (reverse p.choices.items) d
  pub frames : frames_on b p (reverse p.choices.items) ≡ fs
  pub world : world_here b p ≡ world_here b old
  pub depth : p.depth ≡ old.depth
  pub width : p.width ≡ old.width
  pub next : (state_of p).next ≡ (state_of old).next

older_same : (m : Mark) → Older m m
older_same m = record { cells = omega arith; trail = omega arith; vars = omega arith }

floor_within : (b : CompiledProgram) (p : Path) (cs : List Choice) (d : ℕ) → IsWellWith b p cs d → floor_of cs ≤ length p.frames
floor_within b p [] d w = omega arith
floor_within b p (c ∷ cs) d w = w.records.0.rest

pub floor_fits : (b : CompiledProgram) (p : Path) (d : ℕ) → IsWellWith b p (reverse p.choices.items) d → floor_of (reverse p.choices.items) ≤ length p.frames
floor_fits b p d w = floor_within b p (reverse p.choices.items) d w

-- a deeper node serves as well
pub well_deeper : (b : CompiledProgram) (p : Path) (cs : List Choice) (d e : ℕ) → d ≤ e → IsWellWith b p cs d → IsWellWith b p cs e
well_deeper b p cs d e le w = record {
  store = w.store;
  frames = w.frames;
  template = w.template;
  wide = w.wide;
  records = stand_wider (linked b) p.width (state_of p) p.frames (length p.frames) (length p.frames) d e (mark_of (state_of p)) (mark_of (state_of p)) cs p.template (floor_within b p cs d w) le (older_same (mark_of (state_of p))) w.records;
  gathered = w.gathered;
}

pub steady_here : (b : CompiledProgram) (p : Path) (d : ℕ) → IsWellWith b p (reverse p.choices.items) d → Steady b p p d (frames_on b p (reverse p.choices.items))
steady_here b p d w = record { well = w; frames = refl; world = refl; depth = refl; width = refl; next = refl }

-- ---- a store with more places

template_grown : (s s' : State) (v : ℕ) (t : Option Ref) → Grows s s' → TemplateFits s t → template_of s' v t ≡ template_of s v t
template_grown s s' v None g h = λ i. map (λ n. g.variables n i) (from_to 0 v)
template_grown s s' v (Some r) g h = ap (λ t. t ∷ []) (g.places r h)

module _ (b : CompiledProgram) (p q : Path) (g : Grew p q) where
  pub grown_world : (d : ℕ) → IsWellWith b p (reverse p.choices.items) d → world_here b q ≡ world_here b p
  grown_world d w =
      let t : template_of (state_of q) p.width p.template ≡ template_of (state_of p) p.width p.template = template_grown (state_of p) (state_of q) p.width p.template g.grows w.template in
      let n : (state_of q).next ≡ (state_of p).next = g.next in
      ap (λ r. world_of (state_of q) r.width r.template) g.others ∙ (λ i. record { template = t i; next = n i })

  pub grown_items : (d f pc : ℕ) → IsWellWith b p (reverse p.choices.items) d → items_here b q f pc ≡ items_here b p f pc
  grown_items d f pc w = ap (λ r. items_of (bodies b) (state_of q) r.frames f pc) g.others ∙ items_stay (bodies b) (state_of p) (state_of q) p.frames f pc g.grows w.frames

  pub steady_grown : (old : Path) (d : ℕ) (fs : List (FrameOf (language_of b))) → Steady b old p d fs → Steady b old q d fs
  steady_grown old d fs s = record {
    well = subst (λ r. IsWellWith b q (reverse r.choices.items) d) (sym g.others) (grown_well b p q g.others g.grows.extends (reverse p.choices.items) d g.store s.well);
    frames = ap (λ r. frames_on b q (reverse r.choices.items)) g.others ∙ grown_frames_on b p q g.others g.grows.extends (reverse p.choices.items) d s.well ∙ s.frames;
    world = grown_world d s.well ∙ s.world;
    depth = ap (λ r. r.depth) g.others ∙ s.depth;
    width = ap (λ r. r.width) g.others ∙ s.width;
    next = g.next ∙ s.next;
  }

  pub grown_ref : (r : Ref) → IsRef (state_of p) r → IsRef (state_of q) r
  grown_ref r h = let more = g.grows.extends.more_cells in omega (arith, h, more)

  pub grown_length : length q.frames ≡ length p.frames
  grown_length = ap (λ r. length r.frames) g.others

-- a path with the frames of another, which goes on where that does
abbrev pub onto : Path → Path → Path
onto r x = record x { frames = r.frames; f = r.f; pc = r.pc }

-- ---- goals that are put before what is to be run

module _ (b : CompiledProgram) (p q : Path) (rest at : Rest) (items : Items ℕ) (h : Entered b p q rest at items) where
  pub entered_state : state_of q ≡ state_of p
  entered_state = ap (λ r. state_of r) h.others

  pub entered_depth : q.depth ≡ p.depth
  entered_depth = ap (λ r. r.depth) h.others

  pub steady_entered : (old : Path) (d : ℕ) (fs : List (FrameOf (language_of b))) → Steady b old p d fs → Steady b old q d fs
  steady_entered old d fs s = record {
    well = h.well d s.well;
    frames = h.records d s.well ∙ s.frames;
    world = ap (λ r. world_here b r) h.others ∙ s.world;
    depth = entered_depth ∙ s.depth;
    width = ap (λ r. r.width) h.others ∙ s.width;
    next = ap (λ r. (state_of r).next) h.others ∙ s.next;
  }

  -- and others before these
  pub entered_then : (r : Path) (to : Rest) (more : Items ℕ) → Entered b q r at to more → Entered b p r rest to more
  entered_then r to more k = record {
    others = k.others ∙ ap (onto r) h.others;
    within = omega (arith, k.within, h.above);
    at_within = k.at_within;
    above = omega (arith, h.above, k.above);
    goes = k.goes;
    older = λ f pc le. k.older f pc (omega (arith, le, h.above)) ∙ h.older f pc le;
    records = λ d w. k.records d (h.well d w) ∙ h.records d w;
    well = λ d w. k.well d (h.well d w);
  }

-- a path that goes on from another place
pub steady_at : (b : CompiledProgram) (old p : Path) (d f pc : ℕ) (fs : List (FrameOf (language_of b))) → Steady b old p d fs → Steady b old (record p { f = f; pc = pc }) d fs
steady_at b old p d f pc fs s = record {
  well = record { store = s.well.store; frames = s.well.frames; template = s.well.template; wide = s.well.wide; records = s.well.records; gathered = s.well.gathered };
  frames = s.frames;
  world = s.world;
  depth = s.depth;
  width = s.width;
  next = s.next;
}

-- ---- records that are opened

-- a record of a kind that no nested search is
pub record IsPlain (l : Linked) (s : State) (kind : ChoiceKind) (t : Option Ref) : Type 0 where
  pub fits : KindFits l s kind t
  pub outer : outer_of kind t ≡ t
  pub counts : (mark : Mark) (rest depth : ℕ) (cs : List Choice) → collects (record { kind = kind; mark = mark; rest = rest; depth = depth } ∷ cs) ≡ collects cs

module _ (b : CompiledProgram) (p q : Path) (kind : ChoiceKind) (parent ppc : ℕ) (setting : Setting) (node : ℕ) (h : OpenedHere p q kind parent ppc setting node) where
  s : State
  s = state_of p

  o : Opened p q kind h.mark parent ppc setting node
  o = h.opened

  mid : Path
  mid = record p { frames = q.frames }

  taken_all : {A : Type 0} (k : ℕ) (xs : List A) → take k xs ≡ xs → k ≤ length xs → k ≡ length xs
  taken_all k xs e le = let l : length (take k xs) ≡ length xs = ap length e in omega (arith, l, le, length-take k xs)

  mark_is : (h.mark.cells ≡ length (state_of p).cells) × (h.mark.trail ≡ length (state_of p).links) × (h.mark.vars ≡ (state_of p).next)
  mark_is = (
    taken_all h.mark.cells (state_of p).cells (ap (λ x. x.cells) h.at_mark) h.is_mark.cells,
    taken_all h.mark.trail (state_of p).links (ap (λ x. x.links) h.at_mark) h.is_mark.trail,
    ap (λ x. x.next) h.at_mark,
  )

  older_mark : (Older h.mark (mark_of (state_of p))) × (Older (mark_of (state_of p)) h.mark)
  older_mark = (
    record { cells = omega (arith, mark_is.0); trail = omega (arith, mark_is.1); vars = omega (arith, mark_is.2) },
    record { cells = omega (arith, mark_is.0); trail = omega (arith, mark_is.1); vars = omega (arith, mark_is.2) },
  )

  pub opened_well : setting.base ≤ (state_of p).next → IsPlain (linked b) (state_of p) kind p.template → IsWellWith b p (reverse p.choices.items) node → IsWellWith b q (reverse q.choices.items) (node + 1)
  opened_well base plain w =
      let cs : List Choice = reverse p.choices.items in
      let top : Choice = record { kind = kind; mark = h.mark; rest = h.opened.rest; depth = node } in
      let put : IsWellWith b (record p { frames = q.frames }) cs node = put_well b p (record p { frames = q.frames }) (link_to parent ppc setting) h.opened.rest h.opened.put cs node (omega arith) (base, tt) w in
      let placed : h.opened.rest ≡ length q.frames = (put_within b p (record p { frames = q.frames }) (link_to parent ppc setting) h.opened.rest h.opened.put).1 in
      let above : h.opened.rest ≡ h.opened.put.keep + 1 = h.opened.put.put.above in
      let floor : floor_of cs ≤ h.opened.put.keep = h.opened.put.floor in
      let one : Stands (linked b) p.width (state_of p) q.frames (length q.frames) (node + 1) (mark_of (state_of p)) top p.template = record {
        mark = h.is_mark;
        older = older_mark.0;
        some = omega (arith, above);
        rest = omega (arith, placed);
        shallow = omega arith;
        wide = omega (arith, w.wide, mark_is.2);
        fit = subst (λ σ. FramesFit σ (take h.opened.rest q.frames)) (sym h.at_mark) (fits_take (state_of p) h.opened.rest q.frames put.frames);
        kind = subst (λ σ. KindFits (linked b) σ kind p.template) (sym h.at_mark) plain.fits;
        template = subst (λ σ. TemplateFits σ (outer_of kind p.template)) (sym h.at_mark) (subst (TemplateFits (state_of p)) (sym plain.outer) w.template);
      } in
      let under : Stand (linked b) p.width (state_of p) q.frames (h.opened.rest - 1) node h.mark cs p.template =
      stand_wider (linked b) p.width (state_of p) q.frames (length q.frames) (h.opened.rest - 1) node node (mark_of (state_of p)) h.mark cs p.template (omega (arith, above, floor)) (omega arith) older_mark.1 put.records in
      subst (λ r. IsWellWith b r (reverse q.choices.items) (node + 1)) (sym h.opened.others)
      (subst (λ l. IsWellWith b (record p { frames = q.frames; choices = q.choices }) l (node + 1)) (sym (opened_choices b p q kind h.mark parent ppc setting node h.opened))
      (record {
        store = put.store;
        frames = put.frames;
        template = put.template;
        wide = put.wide;
        records = (one, subst (λ t. Stand (linked b) p.width (state_of p) q.frames (h.opened.rest - 1) node h.mark cs t) (sym plain.outer) under);
        gathered = plain.counts h.mark h.opened.rest node cs ∙ put.gathered;
      }))

  pub opened_place : (f pc : ℕ) → f ≤ parent → items_here b q f pc ≡ items_here b p f pc
  opened_place f pc le = opened_items b p q kind h.mark parent ppc setting node h.opened f pc le

  pub opened_state : state_of q ≡ state_of p
  opened_state = ap (λ r. state_of r) h.opened.others

  pub steady_opened : (old : Path) (fs : List (FrameOf (language_of b))) (front : FrameOf (language_of b)) → setting.base ≤ (state_of p).next → IsPlain (linked b) (state_of p) kind p.template → Steady b old p node fs
      → frames_on b q (reverse q.choices.items) ≡ front ∷ frames_on b p (reverse p.choices.items) → Steady b old q (node + 1) (front ∷ fs)
  steady_opened old fs front base plain st is = record {
    well = opened_well base plain st.well;
    frames = is ∙ ap (λ l. front ∷ l) st.frames;
    world = ap (λ r. world_here b r) h.opened.others ∙ st.world;
    depth = ap (λ r. r.depth) h.opened.others ∙ st.depth;
    width = ap (λ r. r.width) h.opened.others ∙ st.width;
    next = ap (λ r. (state_of r).next) h.opened.others ∙ st.next;
  }

-- a record whose alternative goes on from a place
pub steady_branch : (b : CompiledProgram) (old p q : Path) (parent ppc : ℕ) (setting : Setting) (node : ℕ) (fs : List (FrameOf (language_of b))) (items : Items ℕ) (h : OpenedHere p q Branch parent ppc setting node)
    → setting.base ≤ (state_of old).next → Steady b old p node fs → items_here b p parent ppc ≡ items
    → Steady b old q (node + 1) (Tries node (on node (world_here b old) items ∷ []) ∷ fs)
steady_branch b old p q parent ppc setting node fs items h base st is =
    let w : World ℕ = world_here b p in
    let plain : IsPlain (linked b) (state_of p) Branch p.template = record { fits = tt; outer = refl; counts = λ m r d cs. refl } in
    steady_opened b p q Branch parent ppc setting node h old fs (Tries node (on node (world_here b old) items ∷ [])) (omega (arith, base, st.next)) plain st
    (opened_frames_on b p q Branch h.mark parent ppc setting node h.opened node st.well
    ∙ ap (λ σ. Tries node (leads (place node (items_of (bodies b) σ p.frames parent ppc) (world_of σ p.width p.template)) ∷ []) ∷ frames_on b p (reverse p.choices.items)) h.at_mark
    ∙ (λ i. Tries node (on node (st.world i) (is i) ∷ []) ∷ frames_on b p (reverse p.choices.items)))
