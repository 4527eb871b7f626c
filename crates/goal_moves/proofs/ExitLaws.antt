-- The exits of what is still to be run from a place on.
use Rattle.std.proofs.Common.{◌≡◌, ℕ, zero, suc, ◌+◌, ◌<◌, Bool, true, false, List, [], ◌∷◌, Option, Some, None, refl, sym, ap, ◌∙◌, subst, arith, length, reverse, inl, inr}
use Rattle.std.specs.Prelude.{nat_eq}
use Rattle.std.proofs.lemmas.Bool.{cases_lt}
use Rattle.std.proofs.lemmas.List.{get_or_past}
use Rattle.pl_unify.specs.State.{State}
use Rattle.solver_model.specs.Search.{has, pops}
use Rattle.solver_model.specs.Configurations.{Falling}
use Rattle.solver_model.proofs.ExitLaws.{has-first, has-above, has-below}
use Rattle.solver_model.proofs.TurnLaws.{below_wider}
use Rattle.goal_model.specs.Table.{Items}
use Rattle.goal_code.specs.declared.instruction.Instruction.{Instruction}
use Rattle.goal_code.specs.declared.instruction.Instruction.TheVariants as I
use Rattle.goal_code.specs.Runs.{instruction_at, next_of, IsSound}
use Rattle.goal_code.specs.Continuations.{Running, follow, items_within, items_from}
use Rattle.goal_code.proofs.ContinuationLaws.{items_follow}
use Rattle.goal_state.specs.declared.frames.Frame.{Frame}
use Rattle.goal_state.specs.declared.frames.Setting.{Setting}
use Rattle.goal_state.specs.declared.frames.Part.{Part}
use Rattle.goal_state.specs.declared.frames.Part.TheVariants as P
use Rattle.goal_code.specs.BodyCode.{BodyCode}
use Rattle.goal_state.specs.Frames.{IsLinked, place_get, frame_items, items_at, items_of, running}
use Rattle.goal_state.proofs.FrameLaws.{frames_read, nothing_outside, parent_low}
use Rattle.clause_code.specs.Codes.{no_code}
use Rattle.goal_state.specs.declared.compiled.CompiledProgram.{CompiledProgram}
use Rattle.goal_state.specs.declared.path.Path.{Path}
use Rattle.goal_state.specs.Denotation.{bodies, language_of, state_of, items_here}
use Rattle.goal_state.specs.Well.{IsCompiled}
use Rattle.goal_moves.specs.declared.active.Rest.{Rest}
use Rattle.goal_moves.specs.declared.raising.Way.TheVariants as W
use Rattle.goal_moves.specs.Throwing.{exits_here, Agrees, Wends, Leads}

-- ---- they don't depend on the store

module _ (p : ℕ → BodyCode) (s t : State) where
  module _ (st : Setting) (after after2 : Items ℕ) (outer outer2 : ℕ → Items ℕ) (h : pops after ≡ pops after2) (k : (n : ℕ) → pops (outer n) ≡ pops (outer2 n)) where
    within-same : (fuel pc : ℕ) → pops (items_within (running p s st) after outer fuel pc) ≡ pops (items_within (running p t st) after2 outer2 fuel pc)
    within-same zero pc = h
    within-same (suc fuel) pc = go (instruction_at (p st.clause).code pc) (λ n. within-same fuel n)
      where
        go : (o : Option Instruction) → ((n : ℕ) → pops (items_within (running p s st) after outer fuel n) ≡ pops (items_within (running p t st) after2 outer2 fuel n))
            → pops (elim o as (λ _. Items ℕ) [ None ↦ after | Some c ↦ follow (running p s st) after outer c (items_within (running p s st) after outer fuel) ])
            ≡ pops (elim o as (λ _. Items ℕ) [ None ↦ after2 | Some c ↦ follow (running p t st) after2 outer2 c (items_within (running p t st) after2 outer2 fuel) ])
        go None ih = h
        go (Some (I.Goal g n)) ih = ih n
        go (Some (I.Cut g n)) ih = ih n
        go (Some (I.Either g l r n)) ih = ih n
        go (Some (I.If g c m o n)) ih = ih n
        go (Some (I.EndIf n)) ih = k n

    frame-same : (part : Part) (pc : ℕ) → pops (frame_items p s part st after outer pc) ≡ pops (frame_items p t part st after2 outer2 pc)
    frame-same P.Body pc = within-same pc pc
    frame-same P.Link pc = h
    frame-same (P.Goal r) zero = h
    frame-same (P.Goal r) (suc n) = h
    frame-same P.Cut zero = h
    frame-same P.Cut (suc n) = h
    frame-same P.Exit zero = h
    frame-same P.Exit (suc n) = ap (λ l. st.depth ∷ l) h
    frame-same P.Fail zero = h
    frame-same P.Fail (suc n) = h

  at-same : (frames : List Frame) (f pc : ℕ) → pops (items_at p s frames f pc) ≡ pops (items_at p t frames f pc)
  at-same [] f pc = refl
  at-same (fr ∷ older) f pc = go (nat_eq f (suc (length older))) (λ g n. at-same older g n)
    where
      go : (b : Bool) → ((g n : ℕ) → pops (items_at p s older g n) ≡ pops (items_at p t older g n))
          → pops (elim b as (λ _. Items ℕ) [ true ↦ frame_items p s fr.part fr.setting (items_at p s older fr.parent fr.ppc) (items_at p s older fr.parent) pc | false ↦ items_at p s older f pc ])
          ≡ pops (elim b as (λ _. Items ℕ) [ true ↦ frame_items p t fr.part fr.setting (items_at p t older fr.parent fr.ppc) (items_at p t older fr.parent) pc | false ↦ items_at p t older f pc ])
      go true ih =
          frame-same fr.setting (items_at p s older fr.parent fr.ppc) (items_at p t older fr.parent fr.ppc) (items_at p s older fr.parent) (items_at p t older fr.parent)
          (ih fr.parent fr.ppc) (λ n. ih fr.parent n) fr.part pc
      go false ih = ih f pc

  pub exits_same : (frames : List Frame) (f pc : ℕ) → pops (items_of p s frames f pc) ≡ pops (items_of p t frames f pc)
  exits_same frames f pc = at-same (reverse frames) f pc

-- ---- the end of a body

no_instruction : (pc : ℕ) (c : Instruction) → instruction_at [] pc ≡ Some c → ⊥
no_instruction zero c e = cc
no_instruction (suc k) c e = cc

pub body_sound : (b : CompiledProgram) → IsCompiled b → (k : ℕ) → IsSound b.constructs.names.control (bodies b k).words (bodies b k).code
body_sound b compiled k = elim (cases_lt k (length b.codes)) [
  | inl lt ↦ (let count = compiled.codes.count in (compiled.codes.each k (omega (arith, count, lt))).goals.sound)
  | inr ge ↦ λ pc c is. absurd (no_instruction pc c (sym (ap (λ x. instruction_at x.goals.code pc) (get_or_past b.codes k no_code ge)) ∙ is))
]

module _ (r : Running) (outer : ℕ → Items ℕ) (after : Items ℕ) where
  pub body_over : (pc : ℕ) → instruction_at r.code pc ≡ None → pops (items_from r after outer pc) ≡ pops after
  body_over zero e = refl
  body_over (suc k) e = ap (λ o. pops (elim o as (λ _. Items ℕ) [ None ↦ after | Some c ↦ follow r after outer c (items_within r after outer k) ])) e

  pub body_out : (pc n : ℕ) → instruction_at r.code pc ≡ Some (I.EndIf n) → pops (items_from r after outer pc) ≡ pops (outer n)
  body_out zero n e = cc
  body_out (suc k) n e = ap (λ o. pops (elim o as (λ _. Items ℕ) [ None ↦ after | Some c ↦ follow r after outer c (items_within r after outer k) ])) e

  follow_on : (c : Instruction) (more : ℕ → Items ℕ) → ((n : ℕ) → c ≡ I.EndIf n → ⊥) → pops (follow r after outer c more) ≡ pops (more (next_of c))
  follow_on (I.Goal g n) more h = refl
  follow_on (I.Cut g n) more h = refl
  follow_on (I.Either g x y n) more h = refl
  follow_on (I.If g x m o n) more h = refl
  follow_on (I.EndIf n) more h = absurd (h n refl)

pub body_on : (b : CompiledProgram) → IsCompiled b → (s : State) (st : Setting) (outer : ℕ → Items ℕ) (after : Items ℕ) (pc : ℕ) (c : Instruction) → instruction_at (bodies b st.clause).code pc ≡ Some c → ((n : ℕ) → c ≡ I.EndIf n → ⊥)
    → pops (items_from (running (bodies b) s st) after outer pc) ≡ pops (items_from (running (bodies b) s st) after outer (next_of c))
body_on b compiled s st outer after pc c is goal =
    let r : Running = running (bodies b) s st in
    ap pops (items_follow r b.constructs.names.control after outer pc c (body_sound b compiled st.clause) is) ∙ follow_on r outer after c (items_from r after outer) goal

pub next_low : (b : CompiledProgram) → IsCompiled b → (k pc : ℕ) (c : Instruction) → instruction_at (bodies b k).code pc ≡ Some c → next_of c < pc
next_low b compiled k pc c is = (body_sound b compiled k pc c is).0

-- ---- one step outward

pub wends_down : (b : CompiledProgram) (p : Path) (at next : Rest) (depth : ℕ) → next.f < at.f → exits_here b p at ≡ exits_here b p next → Wends b p at depth (W.Down next)
wends_down b p at next depth low e = (low, (λ k lt. ap (λ l. has l k) e), λ f. subst (Falling (language_of b)) e f)

pub wends_none : (b : CompiledProgram) (p : Path) (at : Rest) (depth : ℕ) → place_get (reverse p.frames) at.f ≡ None → Wends b p at depth W.Past
wends_none b p at depth is = λ f. ap (λ l. has (pops l) depth) (nothing_outside (bodies b) (state_of p) p.frames at.f at.pc is)

module _ (b : CompiledProgram) (p : Path) (at : Rest) (depth : ℕ) (fr : Frame) (linked : IsLinked p.frames) (is : place_get (reverse p.frames) at.f ≡ Some fr) where
  abbrev below : Rest
  below = record { f = fr.parent; pc = fr.ppc }

  reads : exits_here b p at ≡ pops (frame_items (bodies b) (state_of p) fr.part fr.setting (items_here b p fr.parent fr.ppc) (items_here b p fr.parent) at.pc)
  reads = ap pops (frames_read (bodies b) (state_of p) p.frames at.f at.pc fr linked is)

  of_part : (part : Part) → fr.part ≡ part → exits_here b p at ≡ pops (frame_items (bodies b) (state_of p) part fr.setting (items_here b p fr.parent fr.ppc) (items_here b p fr.parent) at.pc)
  of_part part e = reads ∙ ap (λ k. pops (frame_items (bodies b) (state_of p) k fr.setting (items_here b p fr.parent fr.ppc) (items_here b p fr.parent) at.pc)) e

  low : fr.parent < at.f
  low = parent_low p.frames at.f fr linked is

  -- a part without exits
  abbrev IsQuiet : Part → Type 0
  IsQuiet P.Body = ⊥
  IsQuiet P.Exit = ⊥
  IsQuiet part = Unit {0}

  quiet : (part : Part) (pc : ℕ) (after : Items ℕ) (outer : ℕ → Items ℕ) → IsQuiet part → pops (frame_items (bodies b) (state_of p) part fr.setting after outer pc) ≡ pops after
  quiet P.Body pc after outer h = absurd h
  quiet P.Exit pc after outer h = absurd h
  quiet P.Link pc after outer h = refl
  quiet (P.Goal r) zero after outer h = refl
  quiet (P.Goal r) (suc k) after outer h = refl
  quiet P.Cut zero after outer h = refl
  quiet P.Cut (suc k) after outer h = refl
  quiet P.Fail zero after outer h = refl
  quiet P.Fail (suc k) after outer h = refl

  pub wends_quiet : (part : Part) → fr.part ≡ part → IsQuiet part → Wends b p at depth (W.Down below)
  wends_quiet part e h = wends_down b p at below depth low (of_part part e ∙ quiet part at.pc (items_here b p fr.parent fr.ppc) (items_here b p fr.parent) h)

  pub wends_body : (pc : ℕ) → fr.part ≡ P.Body → ((s : State) (outer : ℕ → Items ℕ) → pops (items_from (running (bodies b) s fr.setting) (outer fr.ppc) outer at.pc) ≡ pops (outer pc)) → Wends b p at depth (W.Down (record { f = fr.parent; pc = pc }))
  wends_body pc e h = wends_down b p at (record { f = fr.parent; pc = pc }) depth low (of_part P.Body e ∙ h (state_of p) (items_here b p fr.parent))

  exit_over : (pc : ℕ) (after : Items ℕ) (outer : ℕ → Items ℕ) → pc ≡ 0 → pops (frame_items (bodies b) (state_of p) P.Exit fr.setting after outer pc) ≡ pops after
  exit_over pc after outer e = ap (λ n. pops (frame_items (bodies b) (state_of p) P.Exit fr.setting after outer n)) e

  exit_first : (pc : ℕ) (after : Items ℕ) (outer : ℕ → Items ℕ) → (pc ≡ 0 → ⊥) → pops (frame_items (bodies b) (state_of p) P.Exit fr.setting after outer pc) ≡ fr.setting.depth ∷ pops after
  exit_first zero after outer h = absurd (h refl)
  exit_first (suc k) after outer h = refl

  first_exit : fr.part ≡ P.Exit → (at.pc ≡ 0 → ⊥) → exits_here b p at ≡ fr.setting.depth ∷ exits_here b p below
  first_exit e some = of_part P.Exit e ∙ exit_first at.pc (items_here b p fr.parent fr.ppc) (items_here b p fr.parent) some

  pub wends_over : fr.part ≡ P.Exit → at.pc ≡ 0 → Wends b p at depth (W.Down below)
  wends_over e none = wends_down b p at below depth low (of_part P.Exit e ∙ exit_over at.pc (items_here b p fr.parent fr.ppc) (items_here b p fr.parent) none)

  pub wends_above : fr.part ≡ P.Exit → (at.pc ≡ 0 → ⊥) → depth < fr.setting.depth → Wends b p at depth (W.Down below)
  wends_above e some lt =
      let first = first_exit e some in (
        low,
        (λ k le. ap (λ l. has l k) first ∙ has-below (language_of b) k fr.setting.depth (exits_here b p below) (omega (arith, le, lt))),
        λ f. (subst (Falling (language_of b)) first f).1,
      )

  pub wends_exit : fr.part ≡ P.Exit → (at.pc ≡ 0 → ⊥) → fr.setting.depth ≡ depth → Wends b p at depth (W.Exit below)
  wends_exit e some same = first_exit e some ∙ ap (λ d. d ∷ exits_here b p below) same

  pub wends_past : fr.part ≡ P.Exit → (at.pc ≡ 0 → ⊥) → fr.setting.depth < depth → Wends b p at depth W.Past
  wends_past e some lt = λ f.
      let first = first_exit e some in
      let falls : Falling (language_of b) (fr.setting.depth ∷ exits_here b p below) = subst (Falling (language_of b)) first f in
      ap (λ l. has l depth) first
      ∙ has-above (language_of b) depth (fr.setting.depth ∷ exits_here b p below) (lt, below_wider (language_of b) fr.setting.depth depth (exits_here b p below) (omega (arith, lt)) falls.0)

-- ---- all steps

pub record Went (b : CompiledProgram) (p : Path) (from at : Rest) (depth : ℕ) : Type 0 where
  pub agrees : Agrees (depth + 1) (exits_here b p from) (exits_here b p at)
  pub falls : Falling (language_of b) (exits_here b p from) → Falling (language_of b) (exits_here b p at)

pub went_none : (b : CompiledProgram) (p : Path) (from : Rest) (depth : ℕ) → Went b p from from depth
went_none b p from depth = record { agrees = λ k lt. refl; falls = λ f. f }

module _ (b : CompiledProgram) (p : Path) (from at : Rest) (depth : ℕ) (w : Went b p from at depth) where
  pub went_down : (next : Rest) → Wends b p at depth (W.Down next) → Went b p from next depth
  went_down next h = record { agrees = λ k lt. w.agrees k lt ∙ h.1 k lt; falls = λ f. h.2 (w.falls f) }

  pub leads_exit : (next : Rest) → Wends b p at depth (W.Exit next) → Leads b p from next depth
  leads_exit next h = record {
    agrees = λ k lt. w.agrees k (omega (arith, lt)) ∙ ap (λ l. has l k) h ∙ has-below (language_of b) k depth (exits_here b p next) lt;
    falls = λ f. (subst (Falling (language_of b)) h (w.falls f)).1;
  }

  pub is_active : (next : Rest) → Wends b p at depth (W.Exit next) → has (exits_here b p from) depth ≡ true
  is_active next h = w.agrees depth (omega arith) ∙ ap (λ l. has l depth) h ∙ has-first (language_of b) depth (exits_here b p next)

  pub leads_past : Leads b p from at depth
  leads_past = record { agrees = λ k lt. w.agrees k (omega (arith, lt)); falls = w.falls }

  pub not_active : Wends b p at depth W.Past → Falling (language_of b) (exits_here b p from) → has (exits_here b p from) depth ≡ false
  not_active h f = w.agrees depth (omega arith) ∙ h (w.falls f)
