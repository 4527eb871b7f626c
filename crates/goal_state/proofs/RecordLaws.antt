-- Records where frames are put and the store grows.
use Rattle.std.proofs.Common.{◌≡◌, ℕ, ◌-◌, ◌<◌, ◌≤◌, List, [], ◌∷◌, Option, refl, sym, ap, ◌∙◌, subst, arith, length, reverse, take}
use Rattle.std.proofs.lemmas.List.{take-take}
use Rattle.pl_terms.specs.Trees.{Tree}
use Rattle.pl_unify.specs.declared.word.Ref.{Ref}
use Rattle.pl_unify.specs.declared.store.Mark.{Mark}
use Rattle.pl_unify.specs.State.{State, state_at, IsMark, Extends}
use Rattle.pl_unify.proofs.StoreLaws.{state_at-extends, IsMark-extends}
use Rattle.pl_store.specs.Linked.{Linked}
use Rattle.goal_state.specs.declared.frames.Frame.{Frame}
use Rattle.goal_state.specs.Frames.{place_get, env_of, items_of, FramesFit}
use Rattle.goal_state.proofs.FrameLaws.{items_take}
use Rattle.goal_state.specs.declared.choice.Choice.{Choice}
use Rattle.goal_state.specs.declared.compiled.CompiledProgram.{CompiledProgram}
use Rattle.goal_state.specs.Denotation.{bodies, outer_of, outer_answers, first, setting_in, frame_from, frame_by, frames_by}
use Rattle.goal_state.specs.Well.{Older, Stands, Stand, KindFits, TemplateFits, floor_of}
use Rattle.goal_state.proofs.PlaceLaws.{place_same}

-- two stores and lists of frames that agree on a record
pub record Agree (b : CompiledProgram) (s s' : State) (old new : List Frame) (c : Choice) : Type 0 where
  pub state : state_at c.mark s' ≡ state_at c.mark s
  pub rest : (σ : State) → items_of (bodies b) σ new c.rest 0 ≡ items_of (bodies b) σ old c.rest 0
  pub place : place_get (reverse new) c.rest ≡ place_get (reverse old) c.rest

abbrev pub AllAgree : CompiledProgram → State → State → List Frame → List Frame → List Choice → Type 0
AllAgree b s s' old new [] = Unit {0}
AllAgree b s s' old new (c ∷ cs) = Agree b s s' old new c × AllAgree b s s' old new cs

pub frames_agree : (b : CompiledProgram) (v : ℕ) (s s' : State) (old new : List Frame) (cs : List Choice) (t : Option Ref) (gs : List (List (Tree ℕ))) → AllAgree b s s' old new cs
    → frames_by b v s' new cs t gs ≡ frames_by b v s old cs t gs
frames_agree b v s s' old new [] t gs h = refl
frames_agree b v s s' old new (c ∷ cs) t gs h =
    ap (λ f. f ∷ frames_by b v s' new cs (outer_of c.kind t) (outer_answers c.kind gs)) one
    ∙ ap (λ l. frame_by b v s old c t (first gs) ∷ l) (frames_agree b v s s' old new cs (outer_of c.kind t) (outer_answers c.kind gs) h.1)
  where
    one : frame_by b v s' new c t (first gs) ≡ frame_by b v s old c t (first gs)
    one =
        ap (λ σ. frame_from b v c.kind c.depth σ (items_of (bodies b) σ new c.rest 0) (env_of (setting_in (place_get (reverse new) c.rest))) t (first gs)) (h.0.state)
        ∙ ap (λ r. frame_from b v c.kind c.depth (state_at c.mark s) r (env_of (setting_in (place_get (reverse new) c.rest))) t (first gs)) (h.0.rest (state_at c.mark s))
        ∙ ap (λ p. frame_from b v c.kind c.depth (state_at c.mark s) (items_of (bodies b) (state_at c.mark s) old c.rest 0) (env_of (setting_in p)) t (first gs)) (h.0.place)

-- records stand where the store has more and the first frames are the same
module _ (l : Linked) (v : ℕ) (s s' : State) (old new : List Frame) (k : ℕ) (more : Extends s s') (same : take k new ≡ take k old) (in_old : k ≤ length old) (in_new : k ≤ length new) where
  pub agree_of : (b : CompiledProgram) (c : Choice) → IsMark c.mark s → 0 < c.rest → c.rest ≤ k → Agree b s s' old new c
  agree_of b c mark some le = record {
    state = state_at-extends c.mark s s' more mark;
    rest = λ σ.
        sym (items_take (bodies b) σ new k c.rest 0 le in_new) ∙ ap (λ f. items_of (bodies b) σ f c.rest 0) same ∙ items_take (bodies b) σ old k c.rest 0 le in_old;
    place = place_same k c.rest old new some le same;
  }

  take_lower : (j : ℕ) → j ≤ k → take j new ≡ take j old
  take_lower j le = sym (take-take j k new le) ∙ ap (take j) same ∙ take-take j k old le

  pub stands_same : (top depth : ℕ) (last : Mark) (c : Choice) (t : Option Ref) → c.rest ≤ k → Stands l v s old top depth last c t → Stands l v s' new top depth last c t
  stands_same top depth last c t le h =
      let state : state_at c.mark s' ≡ state_at c.mark s = state_at-extends c.mark s s' more h.mark in
      record {
        mark = IsMark-extends c.mark s s' more h.mark;
        older = h.older;
        some = h.some;
        rest = h.rest;
        shallow = h.shallow;
        wide = h.wide;
        fit = subst (λ σ. FramesFit σ (take c.rest new)) (sym state) (subst (FramesFit (state_at c.mark s)) (sym (take_lower c.rest le)) h.fit);
        kind = subst (λ σ. KindFits l σ c.kind t) (sym state) h.kind;
        template = subst (λ σ. TemplateFits σ (outer_of c.kind t)) (sym state) h.template;
      }

  pub stand_same : (top depth : ℕ) (last : Mark) (cs : List Choice) (t : Option Ref) → floor_of cs ≤ k → Stand l v s old top depth last cs t → Stand l v s' new top depth last cs t
  stand_same top depth last [] t le h = h
  stand_same top depth last (c ∷ cs) t le h =
      (stands_same top depth last c t le h.0, stand_same (c.rest - 1) c.depth c.mark cs (outer_of c.kind t) (omega (arith, le, lower cs (outer_of c.kind t) h.1)) h.1)
    where
      lower : (cs : List Choice) (t : Option Ref) → Stand l v s old (c.rest - 1) c.depth c.mark cs t → floor_of cs ≤ c.rest
      lower [] t h = omega arith
      lower (e ∷ es) t h = omega (arith, h.0.rest)

  pub all_agree : (b : CompiledProgram) (top depth : ℕ) (last : Mark) (cs : List Choice) (t : Option Ref) → floor_of cs ≤ k → Stand l v s old top depth last cs t → AllAgree b s s' old new cs
  all_agree b top depth last [] t le h = tt
  all_agree b top depth last (c ∷ cs) t le h =
      (agree_of b c h.0.mark h.0.some le, all_agree b (c.rest - 1) c.depth c.mark cs (outer_of c.kind t) (omega (arith, le, lower cs (outer_of c.kind t) h.1)) h.1)
    where
      lower : (cs : List Choice) (t : Option Ref) → Stand l v s old (c.rest - 1) c.depth c.mark cs t → floor_of cs ≤ c.rest
      lower [] t h = omega arith
      lower (e ∷ es) t h = omega (arith, h.0.rest)

-- a wider bound serves as well
pub stand_wider : (l : Linked) (v : ℕ) (s : State) (frames : List Frame) (top top' depth depth' : ℕ) (last last' : Mark) (cs : List Choice) (t : Option Ref) → floor_of cs ≤ top' → depth ≤ depth' → Older last last'
    → Stand l v s frames top depth last cs t → Stand l v s frames top' depth' last' cs t
stand_wider l v s frames top top' depth depth' last last' [] t le d o h = h
stand_wider l v s frames top top' depth depth' last last' (c ∷ cs) t le d o h = (
  record {
    mark = h.0.mark;
    older = record { cells = omega (arith, h.0.older.cells, o.cells); trail = omega (arith, h.0.older.trail, o.trail); vars = omega (arith, h.0.older.vars, o.vars) };
    some = h.0.some;
    rest = le;
    shallow = omega (arith, h.0.shallow, d);
    wide = h.0.wide;
    fit = h.0.fit;
    kind = h.0.kind;
    template = h.0.template;
  },
  h.1,
)
