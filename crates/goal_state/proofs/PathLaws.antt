-- Paths on which frames are put, records opened, and the store grows.
use Rattle.std.proofs.Common.{◌≡◌, ℕ, ◌+◌, ◌-◌, ◌<◌, ◌≤◌, List, [], ◌∷◌, Option, Some, None, refl, sym, ap, ◌∙◌, subst, arith, length, reverse, take, length-append}
use Rattle.std.proofs.lemmas.List.{reverse-append, length-take}
use Rattle.pl_unify.specs.declared.word.Ref.{Ref}
use Rattle.pl_unify.specs.declared.store.Mark.{Mark}
use Rattle.pl_unify.specs.State.{State, state_at, IsStore, Extends}
use Rattle.pl_unify.proofs.StoreLaws.{Extends-refl}
use Rattle.goal_state.specs.declared.frames.Frame.{Frame}
use Rattle.goal_state.specs.declared.frames.Setting.{Setting}
use Rattle.goal_state.specs.Frames.{place_get, env_of, frame_items, items_of, FrameFits, FramesFit}
use Rattle.goal_state.proofs.StoreLaws.{fits_move, fits_put}
use Rattle.goal_state.specs.declared.choice.Choice.{Choice}
use Rattle.goal_state.specs.declared.choice.ChoiceKind.{ChoiceKind}
use Rattle.goal_state.specs.declared.compiled.CompiledProgram.{CompiledProgram}
use Rattle.goal_state.specs.declared.path.Path.{Path}
use Rattle.goal_state.specs.Denotation.{bodies, linked, state_of, answers_of, items_here, frames_on, frames_by, frame_from, setting_in, outer_of, outer_answers, first}
use Rattle.goal_state.specs.Well.{Older, TemplateFits, IsWellWith, floor_of, mark_of}
use Rattle.goal_state.specs.Steps.{Put, Opened, link_to}
use Rattle.goal_state.proofs.FrameLaws.{place_top, kept_length}
use Rattle.goal_state.proofs.RecordLaws.{frames_agree, all_agree, stand_same, stand_wider}

older_refl : (m : Mark) → Older m m
older_refl m = record { cells = omega arith; trail = omega arith; vars = omega arith }

older_of : (s s' : State) → Extends s s' → Older (mark_of s) (mark_of s')
older_of s s' e = record { cells = e.more_cells; trail = e.more_links; vars = e.next }

template_fits : (s s' : State) (t : Option Ref) → Extends s s' → TemplateFits s t → TemplateFits s' t
template_fits s s' None e h = tt
template_fits s s' (Some r) e h = let m = e.more_cells in omega (arith, h, m)

floor_low : (b : CompiledProgram) (p : Path) (cs : List Choice) (depth : ℕ) → IsWellWith b p cs depth → floor_of cs ≤ length p.frames
floor_low b p [] depth w = omega arith
floor_low b p (c ∷ cs) depth w = w.records.0.rest

-- ---- a store that has more, over the same frames

module _ (b : CompiledProgram) (p q : Path) (others : q ≡ record p { store = q.store }) (more : Extends (state_of p) (state_of q)) where
  pub grown_frames_on : (cs : List Choice) (depth : ℕ) → IsWellWith b p cs depth → frames_on b q cs ≡ frames_on b p cs
  grown_frames_on cs depth w =
      let agree = all_agree (linked b) p.width (state_of p) (state_of q) p.frames p.frames (length p.frames) more refl (omega arith) (omega arith) b (length p.frames) depth (mark_of (state_of p)) cs p.template (floor_low b p cs depth w) w.records in
      ap (λ r. frames_on b r cs) others ∙ frames_agree b p.width (state_of p) (state_of q) p.frames p.frames cs p.template (answers_of p) agree

  pub grown_well : (cs : List Choice) (depth : ℕ) → IsStore (state_of q) → IsWellWith b p cs depth → IsWellWith b q cs depth
  grown_well cs depth store w = subst (λ r. IsWellWith b r cs depth) (sym others) (record {
    store = store;
    frames = fits_move (state_of p) (state_of q) p.frames more w.frames;
    template = template_fits (state_of p) (state_of q) p.template more w.template;
    wide = let m = more.next in omega (arith, w.wide, m);
    records =
        stand_wider (linked b) p.width (state_of q) p.frames (length p.frames) (length p.frames) depth depth (mark_of (state_of p)) (mark_of (state_of q)) cs p.template (floor_low b p cs depth w) (omega arith) (older_of (state_of p) (state_of q) more)
        (stand_same (linked b) p.width (state_of p) (state_of q) p.frames p.frames (length p.frames) more refl (omega arith) (omega arith) (length p.frames) depth (mark_of (state_of p)) cs p.template (floor_low b p cs depth w) w.records);
    gathered = w.gathered;
  })

-- ---- a frame that is put

module _ (b : CompiledProgram) (p q : Path) (fr : Frame) (at : ℕ) (h : Put p q fr at) where
  pub put_items : (pc : ℕ) → items_here b q at pc ≡ frame_items (bodies b) (state_of p) fr.part fr.setting (items_here b p fr.parent fr.ppc) (items_here b p fr.parent) pc
  put_items pc = ap (λ r. items_of (bodies b) (state_of r) q.frames at pc) h.others ∙ h.put.items (bodies b) (state_of p) pc

  pub put_older : (f pc : ℕ) → f ≤ fr.parent → items_here b q f pc ≡ items_here b p f pc
  put_older f pc le = ap (λ r. items_of (bodies b) (state_of r) q.frames f pc) h.others ∙ h.put.older (bodies b) (state_of p) f pc (omega (arith, le, h.parent))

  put_length : length q.frames ≡ h.keep + 1
  put_length = ap length h.put.frames ∙ omega (arith, length-append (take h.keep p.frames) (fr ∷ []), length-take h.keep p.frames, h.within)

  pub put_within : (fr.parent < length q.frames) × (at ≡ length q.frames)
  put_within = (omega (arith, put_length, h.parent), h.put.placed)

  pub put_frames_on : (cs : List Choice) (depth : ℕ) → floor_of cs ≤ floor_of (reverse p.choices.items) → IsWellWith b p cs depth → frames_on b q cs ≡ frames_on b p cs
  put_frames_on cs depth le w =
      let agree = all_agree (linked b) p.width (state_of p) (state_of p) p.frames q.frames h.keep (Extends-refl (state_of p)) h.put.same h.within (omega (arith, put_length)) b (length p.frames) depth (mark_of (state_of p)) cs p.template (omega (arith, le, h.floor)) w.records in
      ap (λ r. frames_by b r.width (state_of r) q.frames cs r.template (answers_of r)) h.others
      ∙ frames_agree b p.width (state_of p) (state_of p) p.frames q.frames cs p.template (answers_of p) agree

  pub put_well : (cs : List Choice) (depth : ℕ) → floor_of cs ≤ floor_of (reverse p.choices.items) → FrameFits (state_of p) fr → IsWellWith b p cs depth → IsWellWith b q cs depth
  put_well cs depth le fit w = subst (λ r. IsWellWith b r cs depth) (sym h.others) (record {
    store = w.store;
    frames = subst (FramesFit (state_of p)) (sym h.put.frames) (fits_put (state_of p) h.keep p.frames fr w.frames fit);
    template = w.template;
    wide = w.wide;
    records =
        stand_wider (linked b) p.width (state_of p) q.frames (length p.frames) (length q.frames) depth depth (mark_of (state_of p)) (mark_of (state_of p)) cs p.template (omega (arith, le, h.floor, put_length)) (omega arith) (older_refl (mark_of (state_of p)))
        (stand_same (linked b) p.width (state_of p) (state_of p) p.frames q.frames h.keep (Extends-refl (state_of p)) h.put.same h.within (omega (arith, put_length)) (length p.frames) depth (mark_of (state_of p)) cs p.template (omega (arith, le, h.floor)) w.records);
    gathered = w.gathered;
  })

-- ---- a record that is opened

module _ (b : CompiledProgram) (p q : Path) (kind : ChoiceKind) (mark : Mark) (parent ppc : ℕ) (setting : Setting) (depth : ℕ) (h : Opened p q kind mark parent ppc setting depth) where
  abbrev pub mid : Path
  mid = record p { frames = q.frames }

  abbrev pub opened : Choice
  opened = record { kind = kind; mark = mark; rest = h.rest; depth = depth }

  pub opened_choices : reverse q.choices.items ≡ opened ∷ reverse p.choices.items
  opened_choices = ap reverse h.choices ∙ reverse-append p.choices.items (opened ∷ [])

  -- what goes on from the record's frame is what goes on from its parent
  opened_rest : (σ : State) → items_of (bodies b) σ q.frames h.rest 0 ≡ items_of (bodies b) σ p.frames parent ppc
  opened_rest σ = h.put.put.items (bodies b) σ 0

  opened_place : place_get (reverse q.frames) h.rest ≡ Some (link_to parent ppc setting)
  opened_place =
      ap (λ f. place_get (reverse f) h.rest) h.put.put.frames
      ∙ ap (λ l. place_get l h.rest) (reverse-append (take h.put.keep p.frames) (link_to parent ppc setting ∷ []))
      ∙ place_top (link_to parent ppc setting) (reverse (take h.put.keep p.frames)) h.rest (omega (arith, h.put.put.above, kept_length p.frames h.put.keep h.put.within))

  pub opened_frames_on : (d : ℕ) → IsWellWith b p (reverse p.choices.items) d
      → frames_on b q (reverse q.choices.items)
      ≡ frame_from b p.width kind depth (state_at mark (state_of p)) (items_of (bodies b) (state_at mark (state_of p)) p.frames parent ppc) (env_of setting) p.template (first (answers_of p))
      ∷ frames_by b p.width (state_of p) p.frames (reverse p.choices.items) (outer_of kind p.template) (outer_answers kind (answers_of p))
  opened_frames_on d w =
      let s : State = state_of p in
      let agree = all_agree (linked b) p.width s s p.frames q.frames h.put.keep (Extends-refl s) h.put.put.same h.put.within (omega (arith, (put_within b p mid (link_to parent ppc setting) h.rest h.put).1, h.put.put.above)) b (length p.frames) d (mark_of s) (reverse p.choices.items) p.template h.put.floor w.records in
      ap (λ r. frames_on b r (reverse r.choices.items)) h.others
      ∙ ap (λ cs. frames_on b mid cs) opened_choices
      ∙ ap (λ r. frame_from b p.width kind depth (state_at mark s) r (env_of (setting_in (place_get (reverse q.frames) h.rest))) p.template (first (answers_of p)) ∷ frames_by b p.width s q.frames (reverse p.choices.items) (outer_of kind p.template) (outer_answers kind (answers_of p))) (opened_rest (state_at mark s))
      ∙ ap (λ o. frame_from b p.width kind depth (state_at mark s) (items_of (bodies b) (state_at mark s) p.frames parent ppc) (env_of (setting_in o)) p.template (first (answers_of p)) ∷ frames_by b p.width s q.frames (reverse p.choices.items) (outer_of kind p.template) (outer_answers kind (answers_of p))) opened_place
      ∙ ap (λ l. frame_from b p.width kind depth (state_at mark s) (items_of (bodies b) (state_at mark s) p.frames parent ppc) (env_of setting) p.template (first (answers_of p)) ∷ l)
      (frames_agree b p.width s s p.frames q.frames (reverse p.choices.items) (outer_of kind p.template) (outer_answers kind (answers_of p)) agree)

  pub opened_items : (f pc : ℕ) → f ≤ parent → items_here b q f pc ≡ items_here b p f pc
  opened_items f pc le = ap (λ r. items_of (bodies b) (state_of r) q.frames f pc) h.others ∙ h.put.put.older (bodies b) (state_of p) f pc (omega (arith, le, h.put.parent))
