-- Paths on which a clause is taken, with another one left that may be.
use Rattle.std.proofs.Common.{◌≡◌, ℕ, ◌+◌, ◌-◌, ◌≤◌, List, [], ◌∷◌, Some, refl, sym, ap, ◌∙◌, subst, arith, length, length-take, reverse, map, take}
use Rattle.pl_unify.specs.declared.store.Mark.{Mark}
use Rattle.pl_unify.specs.State.{State, state_at, tree_at, IsMark, Extends, Stored}
use Rattle.pl_unify.proofs.StoreLaws.{state_at-extends, IsMark-extends}
use Rattle.solver_model.specs.Search.{Tries, FrameOf}
use Rattle.solver_model.specs.Configurations.{Turns}
use Rattle.goal_model.specs.Table.{resolves}
use Rattle.goal_state.specs.Frames.{env_of, FramesFit, FrameFits, items_of}
use Rattle.goal_state.proofs.StoreLaws.{fits_put}
use Rattle.clause_code.specs.Heads.{Took}
use Rattle.pl_store.specs.Linked.{Linked, clause_at}
use Rattle.pl_store.specs.Runs.{program_of}
use Rattle.pl_store.specs.declared.key.ClauseId.{ClauseId}
use Rattle.goal_state.specs.declared.choice.Choice.{Choice}
use Rattle.goal_state.specs.declared.choice.ChoiceKind.TheVariants.{Clauses}
use Rattle.goal_state.specs.declared.compiled.CompiledProgram.{CompiledProgram}
use Rattle.goal_state.specs.declared.path.Path.{Path}
use Rattle.goal_state.specs.Denotation.{linked, language_of, bodies, clauses_on, state_of, items_here, world_here, frames_on, world_of}
use Rattle.goal_state.specs.Well.{IsCompiled, Older, Stands, Stand, TemplateFits, IsWellWith, mark_of, KindFits}
use Rattle.goal_state.specs.Steps.{Opened, link_to}
use Rattle.goal_state.proofs.RecordLaws.{stand_same, stand_wider}
use Rattle.goal_state.proofs.PathLaws.{opened_choices, opened_frames_on, opened_items}
use Rattle.goal_moves.specs.declared.procedures.Attempt.{Attempt}
use Rattle.goal_moves.specs.declared.going.Going.TheVariants.{On}
use Rattle.goal_moves.specs.Clauses.{FitsNext, body_rest}
use Rattle.goal_moves.specs.Moves.{tried, IsTrying, Moved, Entered, here}
use Rattle.goal_moves.proofs.NextLaws.{clauses_first}
use Rattle.goal_moves.proofs.AttemptLaws.{items_by, world_by, turn_leads}
use Rattle.goal_moves.proofs.TryLaws.{resolution_at, tried_by}
use Rattle.goal_moves.proofs.TakeLaws.{at_point, reached, mid_frames, mid_well, mid_depth, mid_width}

-- a mark of the whole state is no earlier than it
mark_whole : (m : Mark) (s : State) → state_at m s ≡ s → Older (mark_of s) m
mark_whole m s at =
    let cells : length (take m.cells s.cells) ≡ length s.cells = ap (λ (z : State). length z.cells) at in
    let links : length (take m.trail s.links) ≡ length s.links = ap (λ (z : State). length z.links) at in
    let next : m.vars ≡ s.next = ap (λ (z : State). z.next) at in
    record { cells = omega (arith, length-take m.cells s.cells, cells); trail = omega (arith, length-take m.trail s.links, links); vars = omega (arith, next) }

whole : {A : Type 0} (k : ℕ) (xs : List A) → k ≡ length xs → take k xs ≡ xs
whole k xs e = ap (λ n. take n xs) e ∙ take-length xs
  where
    take-length : {A : Type 0} (xs : List A) → take (length xs) xs ≡ xs
    take-length [] = refl
    take-length (x ∷ xs) = ap (λ l. x ∷ l) (take-length xs)

-- the path after the store was changed and undone
abbrev pub with_store : Stored → Path → Path
with_store s p = record p { store = s }

pub undone_others : (p q : Path) (s : Stored) → q ≡ record p { store = q.store } → with_store s q ≡ record p { store = s }
undone_others p q s others = ap (with_store s) others

pub undone_state : (p q : State) (m : Mark) (s : State) → IsMark m p → Extends p q → s ≡ state_at m q → state_at m p ≡ p → s ≡ p
undone_state p q m s valid more is at = is ∙ state_at-extends m p q more valid ∙ at

module _ (b : CompiledProgram) (lib : IsCompiled b) (p q : Path) (a : Attempt) (c base : ℕ) (is_base : base ≡ (state_of p).next) (others : q ≡ record p { store = q.store }) (t : IsTrying b p a c)
    (took : Took (state_of p) (state_of q) (tree_at (state_of p) a.goal) (clause_at (linked b) c).clause.head (clause_at (linked b) c).clause.width)
    (o : Path) (n : ClauseId) (mark : Mark) (valid : IsMark mark (state_of p)) (at : state_at mark (state_of p) ≡ state_of p) (next : FitsNext b p a c n.0)
    (made : Opened q o (Clauses n a.goal) mark a.rest.f a.rest.pc a.setting a.setting.depth) where
  abbrev d : ℕ
  d = a.setting.depth

  abbrev newest : Choice
  newest = record { kind = Clauses n a.goal; mark = mark; rest = made.rest; depth = a.setting.depth }

  back : state_at mark (state_of q) ≡ state_of p
  back = state_at-extends mark (state_of p) (state_of q) took.extends valid ∙ at

  -- ---- what the records stand for

  abbrev frame_back : State → Path → FrameOf (language_of b)
  frame_back s x = Tries a.setting.depth (map (resolves (record {
    depth = a.setting.depth;
    goal = tree_at s a.goal;
    env = env_of a.setting;
    rest = items_of (bodies b) s x.frames a.rest.f a.rest.pc;
    world = world_of s x.width x.template;
  })) (clauses_on (linked b) n.0))

  opened_frames : frames_on b o (reverse o.choices.items) ≡ frame_back (state_of p) p ∷ frames_on b p (reverse p.choices.items)
  opened_frames =
      opened_frames_on b q o (Clauses n a.goal) mark a.rest.f a.rest.pc a.setting a.setting.depth made a.setting.depth (mid_well b lib p q a c base is_base others t took)
      ∙ ap (λ s. frame_back s q ∷ frames_on b q (reverse q.choices.items)) back
      ∙ ap (λ (x : Path). frame_back (state_of p) x ∷ frames_on b q (reverse q.choices.items)) others
      ∙ ap (λ fs. frame_back (state_of p) p ∷ fs) (mid_frames b lib p q a c base is_base others t took)

  -- ---- the records are in order

  frames_before : FramesFit (state_of p) q.frames
  frames_before = subst (λ (y : Path). FramesFit (state_of p) y.frames) (sym others) t.well.frames

  link_fits : (s : State) → a.setting.base ≤ s.next → FrameFits s (link_to a.rest.f a.rest.pc a.setting)
  link_fits s le = (le, tt)

  fits_in : (s : State) → a.setting.base ≤ s.next → FramesFit s q.frames → FramesFit s o.frames
  fits_in s le fit = subst (FramesFit s) (sym made.put.put.frames) (fits_put s made.put.keep q.frames (link_to a.rest.f a.rest.pc a.setting) fit (link_fits s le))

  newest_stands : Stands (linked b) q.width (state_of q) o.frames (length o.frames) (a.setting.depth + 1) (mark_of (state_of q)) newest q.template
  newest_stands = record {
    mark = IsMark-extends mark (state_of p) (state_of q) took.extends valid;
    older = record {
      cells = let k = valid.cells in let m = took.extends.more_cells in omega (arith, k, m);
      trail = let k = valid.trail in let m = took.extends.more_links in omega (arith, k, m);
      vars = let k = valid.vars in let m = took.extends.next in omega (arith, k, m);
    };
    some = let k = made.put.put.above in omega (arith, k);
    rest = let k = made.put.put.placed in omega (arith, k);
    shallow = omega arith;
    wide =
        let vars : mark.vars ≡ (state_of p).next = ap (λ (z : State). z.next) at in
        let width = mid_width b lib p q a c base is_base others t took in
        let w = t.well.wide in
        omega (arith, vars, width, w);
    fit = subst (λ s. FramesFit s (take made.rest o.frames)) (sym back) (subst (FramesFit (state_of p)) (sym (whole made.rest o.frames made.put.put.placed)) (fits_in (state_of p) t.base frames_before));
    kind = subst (λ s. KindFits (linked b) s (Clauses n a.goal) q.template) (sym back) (t.goal, (next.within, t.fits.1 ∙ ap (λ k. Some (Rattle.pl_store.specs.Linked.procedure_at (linked b) k).indicator) (sym next.same)), next.fit);
    template = subst (λ s. TemplateFits s q.template) (sym back) (subst (λ (y : Path). TemplateFits (state_of p) y.template) (sym others) t.well.template);
  }

  others_stand : Stand (linked b) q.width (state_of q) o.frames (made.rest - 1) a.setting.depth mark (reverse q.choices.items) q.template
  others_stand =
      let old : Stand (linked b) q.width (state_of p) q.frames (length q.frames) a.setting.depth (mark_of (state_of p)) (reverse q.choices.items) q.template
      = subst (λ (y : Path). Stand (linked b) y.width (state_of p) y.frames (length y.frames) a.setting.depth (mark_of (state_of p)) (reverse y.choices.items) y.template) (sym others) t.well.records in
      let above = made.put.put.above in
      let placed = made.put.put.placed in
      let floor = made.put.floor in
      stand_wider (linked b) q.width (state_of q) o.frames (length q.frames) (made.rest - 1) a.setting.depth a.setting.depth (mark_of (state_of p)) mark (reverse q.choices.items) q.template (omega (arith, above, floor)) (omega arith) (mark_whole mark (state_of p) at)
      (stand_same (linked b) q.width (state_of p) (state_of q) q.frames o.frames made.put.keep took.extends made.put.put.same made.put.within (omega (arith, above, placed)) (length q.frames) a.setting.depth (mark_of (state_of p)) (reverse q.choices.items) q.template floor old)

  abbrev with_opened : Path
  with_opened = record q { frames = o.frames; choices = o.choices }

  opened_well : IsWellWith b o (reverse o.choices.items) (a.setting.depth + 1)
  opened_well =
      let mid = mid_well b lib p q a c base is_base others t took in
      let now : IsWellWith b with_opened (newest ∷ reverse q.choices.items) (a.setting.depth + 1)
      = record {
        store = mid.store;
        frames = fits_in (state_of q) (let k = took.extends.next in let m = t.base in omega (arith, k, m)) mid.frames;
        template = mid.template;
        wide = mid.wide;
        records = (newest_stands, others_stand);
        gathered = mid.gathered;
      } in
      subst (λ (y : Path). IsWellWith b y (reverse o.choices.items) (a.setting.depth + 1)) (sym made.others)
      (subst (λ cs. IsWellWith b with_opened cs (a.setting.depth + 1)) (sym (opened_choices b q o (Clauses n a.goal) mark a.rest.f a.rest.pc a.setting a.setting.depth made)) now)

  pub taken_one : (r : Path) → Entered b o r a.rest (here r) (body_rest b o a c base) → Moved b p r (tried b p a c) On
  taken_one r h =
      let mid = mid_well b lib p q a c base is_base others t took in
      let depth_o : o.depth ≡ p.depth = ap (λ (y : Path). y.depth) made.others ∙ mid_depth b lib p q a c base is_base others t took in
      let depth : r.depth ≡ p.depth = ap (λ (y : Path). y.depth) h.others ∙ depth_o in
      let deep : r.depth ≡ a.setting.depth + 1 = depth ∙ t.depth in
      record {
        well = subst (λ k. IsWellWith b r (reverse r.choices.items) k) (sym deep) (h.well (a.setting.depth + 1) opened_well);
        low = omega (arith, depth);
        width = ap (λ (y : Path). y.width) h.others ∙ ap (λ (y : Path). y.width) made.others ∙ mid_width b lib p q a c base is_base others t took;
        goes = λ left.
            subst (λ y. Turns (language_of b) (tried b p a c left) y)
            (sym (ap (λ fs. at_point b left fs r.depth (items_here b r r.f r.pc) (world_here b r)) (h.records (a.setting.depth + 1) opened_well ∙ opened_frames)
            ∙ reached b lib p q a c base is_base others t took o r (ap (λ (y : Path). state_of y) made.others)
            (opened_items b q o (Clauses n a.goal) mark a.rest.f a.rest.pc a.setting a.setting.depth made a.rest.f a.rest.pc (omega arith))
            (ap (λ (y : Path). world_here b y) made.others) depth_o h left (frame_back (state_of p) p ∷ frames_on b p (reverse p.choices.items))))
            (subst (λ cs. Turns (language_of b) (tried_by b p a cs left) (at_point b left (frame_back (state_of p) p ∷ frames_on b p (reverse p.choices.items)) (a.setting.depth + 1) (items_by b (resolution_at b p a) (clause_at (linked b) c).clause took.unifier) (world_by b (resolution_at b p a) (clause_at (linked b) c).clause took.unifier))) (sym (clauses_first b c t.fits.0 ∙ ap (λ l. (clause_at (linked b) c).clause ∷ l) next.split))
            (turn_leads b (resolution_at b p a) left (program_of (linked b)).clauses (frames_on b p (reverse p.choices.items)) (clause_at (linked b) c).clause next.skipped (clauses_on (linked b) n.0) took.unifier took.solved next.unfit));
      }
