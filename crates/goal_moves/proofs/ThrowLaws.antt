-- A ball that goes outward past records.
use Rattle.std.proofs.Common.{◌≡◌, ℕ, ◌-◌, ◌<◌, ◌≤◌, false, List, ◌∷◌, Option, Some, None, refl, sym, ap, ◌∙◌, subst, arith, length, reverse, inl, Vec, Global}
use Rattle.pl_terms.specs.Trees.{Tree}
use Rattle.pl_unify.specs.declared.word.Ref.{Ref}
use Rattle.pl_unify.specs.State.{State, state_at, Extends}
use Rattle.solver_model.specs.Search.{Over, Thrown, Tries, Catches, Language, PointOf, FrameOf, has, pops}
use Rattle.solver_model.specs.Configurations.{Configuration, Sane, Falling, Turns, weight}
use Rattle.solver_model.proofs.TurnLaws.{turns_then, turns_same, turn_throw_past, turn_throw_on, turn_gather_throw}
use Rattle.pl_store.specs.Runs.{program_of}
use Rattle.goal_code.specs.BodyCode.{BodyCode}
use Rattle.goal_state.specs.Frames.{env_of, items_of}
use Rattle.goal_state.specs.declared.choice.Choice.{Choice}
use Rattle.goal_state.specs.declared.choice.ChoiceKind.TheVariants.{Clauses, Branch, Catch, Collect}
use Rattle.goal_state.specs.declared.compiled.CompiledProgram.{CompiledProgram}
use Rattle.goal_state.specs.declared.path.Path.{Path}
use Rattle.goal_state.specs.Denotation.{bodies, linked, language_of, state_of, answers_of, frames_on, frames_by, frame_from, rest_items, setting_at, outer_of, outer_answers, first, search_at}
use Rattle.goal_state.specs.Well.{Stand, TemplateFits, IsWell, IsWellWith, floor_of, mark_of, collects}
use Rattle.goal_state.proofs.RecordLaws.{stand_wider}
use Rattle.goal_moves.specs.declared.active.Rest.{Rest}
use Rattle.goal_moves.specs.Moves.{search_with, resumed}
use Rattle.goal_moves.specs.Throwing.{exits_here, Meets, Leads, Passed}
use Rattle.goal_moves.proofs.KeepLaws.{answers_length}
use Rattle.goal_moves.proofs.BackLaws.{extends_back, floor_below, collects_left}
use Rattle.goal_moves.proofs.RetryLaws.{IsInside, inside_of, inside_catch, left_frames}
use Rattle.goal_moves.proofs.ExitLaws.{exits_same}

template_fits : (s s' : State) (t : Option Ref) → Extends s s' → TemplateFits s t → TemplateFits s' t
template_fits s s' None e h = tt
template_fits s s' (Some r) e h = let m = e.more_cells in omega (arith, h, m)

-- a turn after another, for a search that is sane
pub turns_further : (L : Language) (x y z : Configuration L) → Turns L x y → (Sane L x → Turns L y z) → z.left ≤ y.left → (z.left ≡ y.left → weight L z ≤ weight L y) → Turns L x z
turns_further L x y z t h less light = record {
  value = λ s. (h s).value (t.sane s) ∙ t.value s;
  sane = λ s. (h s).sane (t.sane s);
  left = omega (arith, t.left, less);
  lighter = λ e.
      let i : y.left ≡ x.left = omega (arith, e, t.left, less) in
      let j : z.left ≡ y.left = omega (arith, e, t.left, less) in
      omega (arith, t.lighter i, light j);
}

-- the path of a record that is left, for the node around it
module _ (b : CompiledProgram) (p : Path) (c : Choice) (w : IsWellWith b p (c ∷ reverse p.choices.items) p.depth) where
  abbrev L : Language
  L = language_of b

  abbrev cs : List Choice
  cs = reverse p.choices.items

  pub shallow : c.depth < p.depth
  shallow = w.records.0.shallow

  abbrev out : Option Ref → Type 0
  out t = Stand (linked b) p.width (state_of p) p.frames (length p.frames) c.depth (mark_of (state_of p)) cs t

  around : out (outer_of c.kind p.template)
  around =
      let low : floor_of cs ≤ c.rest - 1 = floor_below (linked b) p.width (state_of p) p.frames (c.rest - 1) c.depth c.mark cs (outer_of c.kind p.template) w.records.1 in
      let r : c.rest ≤ length p.frames = w.records.0.rest in
      stand_wider (linked b) p.width (state_of p) p.frames (c.rest - 1) (length p.frames) c.depth c.depth c.mark (mark_of (state_of p)) cs (outer_of c.kind p.template) (omega (arith, low, r)) (omega arith) w.records.0.older w.records.1

  -- a record of no nested search
  module _ (inside : IsInside p c) where
    abbrev left_path : Path
    left_path = record p { depth = c.depth }

    pub left_well : IsWell b left_path
    left_well = record {
      store = w.store;
      frames = w.frames;
      template = w.template;
      wide = w.wide;
      records = subst out inside.0 around;
      gathered = sym (sym (answers_length p) ∙ ap length (sym inside.1) ∙ collects_left c.kind (answers_of p) (collects cs) (w.gathered ∙ sym (answers_length p)));
    }

    abbrev front : FrameOf L
    front = frame_from b p.width c.kind c.depth (state_at c.mark (state_of p)) (rest_items b p.width (state_of p) p.frames c) (env_of (setting_at p.frames c.rest)) p.template (first (answers_of p))

    -- the record's frame in front
    fronted : (f : FrameOf L) → front ≡ f → (point : PointOf L) (left : ℕ) → Turns L (resumed b p c point left) (search_with b p point (f ∷ frames_on b p cs) left)
    fronted f is point left =
        turns_same L (resumed b p c point left) (search_with b p point (f ∷ frames_on b p cs) left)
        (ap (λ fs. search_with b p point fs left) (left_frames b p c cs inside w ∙ ap (λ x. x ∷ frames_on b p cs) is))

    past : (f : FrameOf L) → front ≡ f → (ball : Tree ℕ) (at next : Rest)
        → ((left : ℕ) (x : Configuration L) (m : Meets b x p c ball at left) → Turns L x (search_at b left_path (Over (Thrown ball m.active)) left))
        → Leads b p at next c.depth → Passed b p left_path c ball at ball next
    past f is ball at next turn way = record {
      well = left_well;
      low = omega (arith, shallow);
      width = refl;
      choices = refl;
      goes = λ left x m. record {
        active = m.active;
        agrees = λ k lt. m.agrees k (omega (arith, lt, shallow)) ∙ way.agrees k lt;
        falls = λ s. way.falls (m.falls s);
        goes = turn left x m;
      };
    }

    past_tries : (alts : _) → front ≡ Tries c.depth alts → (ball : Tree ℕ) (at : Rest) → Passed b p left_path c ball at ball at
    past_tries alts is ball at =
        past (Tries c.depth alts) is ball at at
        (λ left x m.
        turns_then L x (resumed b p c (Over (Thrown ball m.active)) left) (search_at b left_path (Over (Thrown ball m.active)) left) m.goes
        (turns_then L (resumed b p c (Over (Thrown ball m.active)) left) (search_with b p (Over (Thrown ball m.active)) (Tries c.depth alts ∷ frames_on b p cs) left) (search_at b left_path (Over (Thrown ball m.active)) left)
        (fronted (Tries c.depth alts) is (Over (Thrown ball m.active)) left)
        (turn_throw_past L ball m.active c.depth left (program_of (linked b)).clauses alts (frames_on b p cs))))
        (record { agrees = λ k lt. refl; falls = λ f. f })

    -- a catch that is not active
    pub past_catch : (rec : _) → front ≡ Catches c.depth rec → (ball : Tree ℕ) (at next : Rest) → Leads b p at next c.depth → (Falling L (exits_here b p at) → has (exits_here b p at) c.depth ≡ false) → Passed b p left_path c ball at ball next
    past_catch rec is ball at next way off =
        past (Catches c.depth rec) is ball at next
        (λ left x m.
        turns_further L x (search_with b p (Over (Thrown ball m.active)) (Catches c.depth rec ∷ frames_on b p cs) left) (search_at b left_path (Over (Thrown ball m.active)) left)
        (turns_then L x (resumed b p c (Over (Thrown ball m.active)) left) (search_with b p (Over (Thrown ball m.active)) (Catches c.depth rec ∷ frames_on b p cs) left) m.goes
        (fronted (Catches c.depth rec) is (Over (Thrown ball m.active)) left))
        (λ s. turn_throw_on L ball m.active c.depth left (program_of (linked b)).clauses rec (frames_on b p cs) (inl (m.agrees c.depth shallow ∙ off (m.falls s))))
        (omega arith)
        (λ e. omega arith))
        way

  pub passes_branch : c.kind ≡ Branch → (ball : Tree ℕ) (at : Rest) → Passed b p (record p { depth = c.depth }) c ball at ball at
  passes_branch is ball at =
      past_tries (inside_of p c.kind (λ list outer e. let f : Branch ≡ Collect list outer = sym is ∙ e in cc)) _
      (ap (λ k. frame_from b p.width k c.depth (state_at c.mark (state_of p)) (rest_items b p.width (state_of p) p.frames c) (env_of (setting_at p.frames c.rest)) p.template (first (answers_of p))) is) ball at

  pub passes_clauses : (clause : _) (goal : Ref) → c.kind ≡ Clauses clause goal → (ball : Tree ℕ) (at : Rest) → Passed b p (record p { depth = c.depth }) c ball at ball at
  passes_clauses clause goal is ball at =
      past_tries (inside_of p c.kind (λ list outer e. let f : Clauses clause goal ≡ Collect list outer = sym is ∙ e in cc)) _
      (ap (λ k. frame_from b p.width k c.depth (state_at c.mark (state_of p)) (rest_items b p.width (state_of p) p.frames c) (env_of (setting_at p.frames c.rest)) p.template (first (answers_of p))) is) ball at

  pub passes_catch : (name : _) (catcher recovery : Ref) → c.kind ≡ Catch name catcher recovery → (ball : Tree ℕ) (at next : Rest) → Leads b p at next c.depth → (Falling L (exits_here b p at) → has (exits_here b p at) c.depth ≡ false)
      → Passed b p (record p { depth = c.depth }) c ball at ball next
  passes_catch name catcher recovery is ball at next way off =
      past_catch (inside_catch p c name catcher recovery is) _
      (ap (λ k. frame_from b p.width k c.depth (state_at c.mark (state_of p)) (rest_items b p.width (state_of p) p.frames c) (env_of (setting_at p.frames c.rest)) p.template (first (answers_of p))) is) ball at next way off

  -- a nested search is left
  module _ (q : Path) (list : Ref) (outer : Option Ref) (is : c.kind ≡ Collect list outer) (template : q.template ≡ outer_of c.kind p.template) (gathered : answers_of q ≡ outer_answers c.kind (answers_of p))
      (others : q ≡ record p { template = q.template; gathered = q.gathered }) where
    abbrev outside : Path
    outside = record q { depth = c.depth }

    plain : (t : Option Ref) (g : Vec _ Global) → IsWellWith b (record p { template = t; gathered = g; depth = c.depth }) cs c.depth → q ≡ record p { template = t; gathered = g } → IsWellWith b outside (reverse outside.choices.items) c.depth
    plain t g h e = subst (λ (x : Path). IsWellWith b (record x { depth = c.depth }) (reverse x.choices.items) c.depth) (sym e) h

    outside_well : IsWell b outside
    outside_well = plain q.template q.gathered (record {
      store = w.store;
      frames = w.frames;
      template = subst (TemplateFits (state_of p)) (sym template) (template_fits (state_at c.mark (state_of p)) (state_of p) (outer_of c.kind p.template) (extends_back (state_of p) c.mark w.records.0.mark) w.records.0.template);
      wide = w.wide;
      records = subst out (sym template) around;
      gathered = sym (sym (answers_length q) ∙ ap length gathered ∙ collects_left c.kind (answers_of p) (collects cs) (w.gathered ∙ sym (answers_length p)));
    }) others

    outside_frames : frames_on b outside (reverse outside.choices.items) ≡ frames_by b p.width (state_of p) p.frames cs (outer_of c.kind p.template) (outer_answers c.kind (answers_of p))
    outside_frames =
        ap (λ (x : Path). frames_by b x.width (state_of x) x.frames (reverse x.choices.items) q.template (answers_of q)) others
        ∙ ap (λ t. frames_by b p.width (state_of p) p.frames cs t (answers_of q)) template
        ∙ ap (λ g. frames_by b p.width (state_of p) p.frames cs (outer_of c.kind p.template) g) gathered

    pub passes_collect : (f pc : ℕ) → ((x : ℕ → BodyCode) (s : State) → items_of x s q.frames f pc ≡ items_of x s q.frames c.rest 0) → (ball : Tree ℕ) (at : Rest) → Passed b p outside c ball at ball (record { f = f; pc = pc })
    passes_collect f pc same ball at = record {
      well = outside_well;
      low = omega (arith, shallow);
      width = ap (λ (x : Path). x.width) others;
      choices = ap (λ (x : Path). x.choices) others;
      goes = λ left x m.
          let inner : List (FrameOf L) = frames_by b p.width (state_of p) p.frames cs (outer_of c.kind p.template) (outer_answers c.kind (answers_of p)) in
          let exits : List ℕ = pops (rest_items b p.width (state_of p) p.frames c) in
          let here : exits ≡ exits_here b outside (record { f = f; pc = pc }) =
          exits_same (bodies b) (state_at c.mark (state_of p)) (state_of p) p.frames c.rest 0
          ∙ ap (λ (x : Path). pops (items_of (bodies b) (state_of x) x.frames c.rest 0)) (sym others)
          ∙ ap pops (sym (same (bodies b) (state_of q))) in
          let f0 : FrameOf L = frame_from b p.width (Collect list outer) c.depth (state_at c.mark (state_of p)) (rest_items b p.width (state_of p) p.frames c) (env_of (setting_at p.frames c.rest)) p.template (first (answers_of p)) in
          let turn : Turns L x (search_at b outside (Over (Thrown ball exits)) left) =
          turns_then L x (resumed b p c (Over (Thrown ball m.active)) left) (search_at b outside (Over (Thrown ball exits)) left) m.goes
          (turns_then L (resumed b p c (Over (Thrown ball m.active)) left) (search_with b p (Over (Thrown ball m.active)) (f0 ∷ inner) left) (search_at b outside (Over (Thrown ball exits)) left)
          (turns_same L (resumed b p c (Over (Thrown ball m.active)) left) (search_with b p (Over (Thrown ball m.active)) (f0 ∷ inner) left)
          (ap (λ k. search_with b p (Over (Thrown ball m.active)) (frame_from b p.width k c.depth (state_at c.mark (state_of p)) (rest_items b p.width (state_of p) p.frames c) (env_of (setting_at p.frames c.rest)) p.template (first (answers_of p)) ∷ inner) left) is))
          (turns_then L (search_with b p (Over (Thrown ball m.active)) (f0 ∷ inner) left) (search_with b p (Over (Thrown ball exits)) inner left) (search_at b outside (Over (Thrown ball exits)) left)
          (turn_gather_throw L ball m.active c.depth left (program_of (linked b)).clauses _ _ inner)
          (turns_same L (search_with b p (Over (Thrown ball exits)) inner left) (search_at b outside (Over (Thrown ball exits)) left) (ap (λ fs. search_with b p (Over (Thrown ball exits)) fs left) (sym outside_frames))))) in
          record {
            active = exits;
            agrees = λ k lt. ap (λ l. has l k) here;
            falls = λ s. subst (Falling L) here (turn.sane s).0.1;
            goes = turn;
          };
    }
