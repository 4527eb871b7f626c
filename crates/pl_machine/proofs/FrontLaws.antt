-- What stands first on a path, by the frame in which it stands.
use Rattle.std.proofs.Common.{◌≡◌, ℕ, zero, suc, ◌-◌, ◌<◌, true, [], ◌∷◌, Some, None, refl, sym, ap, ◌∙◌, subst, arith, reverse}
use Rattle.std.proofs.lemmas.List.{length-reverse}
use Rattle.pl_unify.specs.declared.word.Ref.{Ref}
use Rattle.pl_unify.specs.State.{State, IsRef, tree_at}
use Rattle.solver_model.specs.Search.{Cut, Pop, Fail, At, Over, Failed}
use Rattle.solver_model.specs.Configurations.{Configuration}
use Rattle.solver_model.proofs.TurnLaws.{turns_then, turns_same, turn_pop, turn_fail}
use Rattle.goal_model.specs.Table.{Items}
use Rattle.goal_code.specs.declared.instruction.Instruction.{Instruction}
use Rattle.goal_code.specs.declared.instruction.Instruction.TheVariants as I
use Rattle.goal_code.specs.Runs.{instruction_at, is_goal, next_of}
use Rattle.goal_code.specs.Continuations.{Running, items_from, follow, items_within}
use Rattle.goal_state.specs.declared.frames.Frame.{Frame}
use Rattle.goal_state.specs.declared.frames.Setting.{Setting}
use Rattle.goal_state.specs.declared.frames.Part.{Part}
use Rattle.goal_state.specs.declared.frames.Part.TheVariants as P
use Rattle.goal_code.specs.BodyCode.{BodyCode}
use Rattle.goal_state.specs.Frames.{IsLinked, PartFits, place_get, frame_items, part_item, running, env_of}
use Rattle.goal_state.proofs.FrameLaws.{frames_read, nothing_outside, parent_low}
use Rattle.goal_state.proofs.FramePlaces.{place_within}
use Rattle.goal_state.proofs.StoreLaws.{fits_read}
use Rattle.pl_store.specs.Runs.{program_of}
use Rattle.goal_state.specs.declared.compiled.CompiledProgram.{CompiledProgram}
use Rattle.goal_state.specs.declared.path.Path.{Path}
use Rattle.goal_state.specs.Denotation.{linked, bodies, language_of, state_of, items_here, world_here, frames_on, point_here, search_at}
use Rattle.goal_state.specs.Well.{IsCompiled, IsWell}
use Rattle.goal_moves.specs.declared.standing.Stand.{Stand}
use Rattle.goal_moves.specs.declared.standing.Stand.TheVariants as S
use Rattle.goal_moves.specs.Moves.{IsCode}
use Rattle.goal_moves.specs.Walking.{Walked}
use Rattle.goal_moves.proofs.CodeMoves.{first_goal, first_items}
use Rattle.goal_moves.proofs.WalkLaws.{elsewhere_well, walked_same}
use Rattle.pl_machine.specs.declared.front.Front.{Front}
use Rattle.pl_machine.specs.declared.front.Front.TheVariants as F
use Rattle.pl_machine.specs.Fronts.{CallsFirst, HasFront}
use Rattle.pl_machine.specs.Running.{Outcomes}
use Rattle.pl_machine.specs.Parts.{IsSo}
use Rattle.pl_machine.proofs.EndLaws.{so_turned}

-- ---- the items of a frame

-- a part that is an item
abbrev IsItem : Part → Type 0
IsItem P.Body = ⊥
IsItem P.Link = ⊥
IsItem part = Unit {0}

module _ (bs : ℕ → BodyCode) (s : State) (st : Setting) (after : Items ℕ) (outer : ℕ → Items ℕ) where
  item_first : (part : Part) (pc : ℕ) → IsItem part → (pc ≡ 0 → ⊥) → frame_items bs s part st after outer pc ≡ part_item bs s part st ∷ after
  item_first P.Body pc is some = absurd is
  item_first P.Link pc is some = absurd is
  item_first (P.Goal r) zero is some = absurd (some refl)
  item_first (P.Goal r) (suc k) is some = refl
  item_first P.Cut zero is some = absurd (some refl)
  item_first P.Cut (suc k) is some = refl
  item_first P.Exit zero is some = absurd (some refl)
  item_first P.Exit (suc k) is some = refl
  item_first P.Fail zero is some = absurd (some refl)
  item_first P.Fail (suc k) is some = refl

  item_over : (part : Part) → (part ≡ P.Body → ⊥) → frame_items bs s part st after outer 0 ≡ after
  item_over P.Body unlike = absurd (unlike refl)
  item_over P.Link unlike = refl
  item_over (P.Goal r) unlike = refl
  item_over P.Cut unlike = refl
  item_over P.Exit unlike = refl
  item_over P.Fail unlike = refl

module _ (r : Running) (after : Items ℕ) (outer : ℕ → Items ℕ) where
  body_over : (pc : ℕ) → instruction_at r.code pc ≡ None → items_from r after outer pc ≡ after
  body_over zero e = refl
  body_over (suc k) e = ap (λ o. elim o as (λ _. Items ℕ) [ None ↦ after | Some c ↦ follow r after outer c (items_within r after outer k) ]) e

  body_end : (pc n : ℕ) → instruction_at r.code pc ≡ Some (I.EndIf n) → items_from r after outer pc ≡ Cut (r.reach - 1) ∷ outer n
  body_end zero n e = cc
  body_end (suc k) n e = ap (λ o. elim o as (λ _. Items ℕ) [ None ↦ after | Some c ↦ follow r after outer c (items_within r after outer k) ]) e

module _ (b : CompiledProgram) (p : Path) (chained : IsLinked p.frames) (fr : Frame) (is : place_get (reverse p.frames) p.f ≡ Some fr) where
  abbrev after : Items ℕ
  after = items_here b p fr.parent fr.ppc

  of_part : (part : Part) → fr.part ≡ part → items_here b p p.f p.pc ≡ frame_items (bodies b) (state_of p) part fr.setting after (items_here b p fr.parent) p.pc
  of_part part e = frames_read (bodies b) (state_of p) p.frames p.f p.pc fr chained is ∙ ap (λ k. frame_items (bodies b) (state_of p) k fr.setting after (items_here b p fr.parent) p.pc) e

  of_item : (part : Part) → IsItem part → fr.part ≡ part → (p.pc ≡ 0 → ⊥) → items_here b p p.f p.pc ≡ part_item (bodies b) (state_of p) part fr.setting ∷ after
  of_item part one e some = of_part part e ∙ item_first (bodies b) (state_of p) fr.setting after (items_here b p fr.parent) part p.pc one some

  pub below_it : fr.parent < p.f
  below_it = parent_low p.frames p.f fr chained is

  -- nothing of the frame is left
  pub over_none : (fr.part ≡ P.Body → ⊥) → p.pc ≡ 0 → items_here b p p.f p.pc ≡ after
  over_none unlike e =
      frames_read (bodies b) (state_of p) p.frames p.f p.pc fr chained is
      ∙ ap (frame_items (bodies b) (state_of p) fr.part fr.setting after (items_here b p fr.parent)) e
      ∙ item_over (bodies b) (state_of p) fr.setting after (items_here b p fr.parent) fr.part unlike

  pub link_none : fr.part ≡ P.Link → items_here b p p.f p.pc ≡ after
  link_none e = of_part P.Link e

  pub body_none : fr.part ≡ P.Body → instruction_at (bodies b fr.setting.clause).code p.pc ≡ None → items_here b p p.f p.pc ≡ after
  body_none e none = of_part P.Body e ∙ body_over (running (bodies b) (state_of p) fr.setting) after (items_here b p fr.parent) p.pc none

  -- something is left of it
  pub exit_front : fr.part ≡ P.Exit → (p.pc ≡ 0 → ⊥) → HasFront b p (F.Exit fr.setting.depth (record { f = fr.parent; pc = fr.ppc }))
  exit_front e some = of_item P.Exit tt e some

  pub cut_front : fr.part ≡ P.Cut → (p.pc ≡ 0 → ⊥) → HasFront b p (F.Cut fr.setting.depth (record { f = fr.parent; pc = fr.ppc }))
  cut_front e some = of_item P.Cut tt e some

  pub end_front : (n : ℕ) → fr.part ≡ P.Body → instruction_at (bodies b fr.setting.clause).code p.pc ≡ Some (I.EndIf n) → HasFront b p (F.Cut (fr.setting.depth - 1) (record { f = fr.parent; pc = n }))
  end_front n e some = of_part P.Body e ∙ body_end (running (bodies b) (state_of p) fr.setting) after (items_here b p fr.parent) p.pc n some

  pub fail_front : fr.part ≡ P.Fail → (p.pc ≡ 0 → ⊥) → HasFront b p F.Fail
  fail_front e some = (after, of_item P.Fail tt e some)

  pub goal_front : IsWell b p → (r : Ref) → fr.part ≡ P.Goal r → (p.pc ≡ 0 → ⊥) → HasFront b p (F.Goal (S.Term r fr.setting (record { f = fr.parent; pc = fr.ppc })))
  goal_front well r e some =
      let fits = fits_read (state_of p) p.f p.frames fr well.frames is in
      let items = of_item (P.Goal r) tt e some in (
        (goal_in fr.part e fits.1, omega (arith, below_it, place_within (reverse p.frames) p.f fr is, length-reverse p.frames), fits.0),
        record { goal = record { tree = tree_at (state_of p) r; env = env_of fr.setting; reach = fr.setting.depth }; rest = after; items = items },
        ap (λ i. At (record { depth = p.depth; items = i; world = world_here b p })) (sym items),
      )
    where
      goal_in : (part : Part) → part ≡ P.Goal r → PartFits (state_of p) part → IsRef (state_of p) r
      goal_in part e fits = subst (PartFits (state_of p)) e fits

  pub code_front : IsCompiled b → (c : Instruction) → fr.part ≡ P.Body → instruction_at (bodies b fr.setting.clause).code p.pc ≡ Some c → is_goal c ≡ true → HasFront b p (F.Goal (S.Code c fr.setting))
  code_front compiled c e code goal =
      let here : IsCode b p c fr.setting = record { parent = fr.parent; ppc = fr.ppc; frame = is ∙ ap (λ k. Some (record { parent = fr.parent; ppc = fr.ppc; part = k; setting = fr.setting })) e; code = code; goal = goal } in (
        here,
        record { goal = first_goal b p c fr.setting here; rest = items_here b p p.f (next_of c); items = first_items b p c fr.setting here compiled chained },
        refl,
      )

-- an instruction that is no end of a condition
pub goal_instruction : (c : Instruction) → ((n : ℕ) → c ≡ I.EndIf n → ⊥) → is_goal c ≡ true
goal_instruction (I.Goal g n) h = refl
goal_instruction (I.Cut g n) h = refl
goal_instruction (I.Either g l r n) h = refl
goal_instruction (I.If g c m o n) h = refl
goal_instruction (I.EndIf n) h = absurd (h n refl)

-- nothing stands where no frame is
pub nothing_front : (b : CompiledProgram) (p : Path) → place_get (reverse p.frames) p.f ≡ None → HasFront b p F.Nothing
nothing_front b p is = nothing_outside (bodies b) (state_of p) p.frames p.f p.pc is

-- ---- paths that stand in a lower frame

-- a path of which only its place is another, where the same items are
pub record Placed (b : CompiledProgram) (p q : Path) : Type 0 where
  pub others : q ≡ record p { f = q.f; pc = q.pc }
  pub items : items_here b q q.f q.pc ≡ items_here b p p.f p.pc

pub placed_then : (b : CompiledProgram) (p m q : Path) → Placed b p m → Placed b m q → Placed b p q
placed_then b p m q g h = record { others = h.others ∙ ap (λ (r : Path). record r { f = q.f; pc = q.pc }) g.others; items = h.items ∙ g.items }

pub placed_walked : (b : CompiledProgram) (p q : Path) → IsWell b p → Placed b p q → Walked b p q
placed_walked b p q well h =
    subst (Walked b p) (sym h.others) (walked_same b p q.f q.pc well (sym h.items ∙ ap (λ (r : Path). items_here b r q.f q.pc) h.others))

pub lower_placed : (b : CompiledProgram) (p : Path) (f pc : ℕ) → items_here b p p.f p.pc ≡ items_here b p f pc → Placed b p (record p { f = f; pc = pc })
lower_placed b p f pc e = record { others = refl; items = sym e }

pub placed_well : (b : CompiledProgram) (p q : Path) → IsWell b p → Placed b p q → IsWell b q
placed_well b p q well h = (placed_walked b p q well h).well

-- ---- items that take no step

abbrev with_items : (b : CompiledProgram) → Path → Items ℕ → ℕ → Configuration (language_of b)
with_items b p items left = search_at b p (At (record { depth = p.depth; items = items; world = world_here b p })) left

pub walked_exit : (b : CompiledProgram) (p : Path) (d f pc : ℕ) → IsWell b p → items_here b p p.f p.pc ≡ Pop d ∷ items_here b p f pc → Walked b p (record p { f = f; pc = pc })
walked_exit b p d f pc well e = record {
  well = elsewhere_well b p f pc well;
  depth = refl;
  width = refl;
  goes = λ left.
      turns_then (language_of b) (with_items b p (items_here b p p.f p.pc) left) (with_items b p (Pop d ∷ items_here b p f pc) left) (with_items b p (items_here b p f pc) left)
      (turns_same (language_of b) (with_items b p (items_here b p p.f p.pc) left) (with_items b p (Pop d ∷ items_here b p f pc) left) (ap (λ i. with_items b p i left) e))
      (turn_pop (language_of b) p.depth left d (world_here b p) (program_of (linked b)).clauses (items_here b p f pc) (frames_on b p (reverse p.choices.items)));
}

pub failed_first : (b : CompiledProgram) (p : Path) (rest : Items ℕ) (left : ℕ) (r : Outcomes) → items_here b p p.f p.pc ≡ Fail ∷ rest → IsSo b (search_at b p (point_here b p) left) r → IsSo b (search_at b p (Over Failed) left) r
failed_first b p rest left r e so =
    so_turned (language_of b) (search_at b p (point_here b p) left) (search_at b p (Over Failed) left) r
    (turns_then (language_of b) (with_items b p (items_here b p p.f p.pc) left) (with_items b p (Fail ∷ rest) left) (search_at b p (Over Failed) left)
    (turns_same (language_of b) (with_items b p (items_here b p p.f p.pc) left) (with_items b p (Fail ∷ rest) left) (ap (λ i. with_items b p i left) e))
    (turn_fail (language_of b) p.depth left (world_here b p) (program_of (linked b)).clauses rest (frames_on b p (reverse p.choices.items))))
    so

-- a search on a path that went on gives the same
pub walked_so : (b : CompiledProgram) (p q : Path) (left : ℕ) (r : Outcomes) → Walked b p q → IsSo b (search_at b p (point_here b p) left) r → IsSo b (search_at b q (point_here b q) left) r
walked_so b p q left r w so = so_turned (language_of b) (search_at b p (point_here b p) left) (search_at b q (point_here b q) left) r (w.goes left) so

-- ---- where no goal stands first

cut_uncalled : (b : CompiledProgram) (p : Path) (d : ℕ) (rest : Items ℕ) → items_here b p p.f p.pc ≡ Cut d ∷ rest → CallsFirst b p → ⊥
cut_uncalled b p d rest e h = let l = h.items in cc

exit_uncalled : (b : CompiledProgram) (p : Path) (d : ℕ) (rest : Items ℕ) → items_here b p p.f p.pc ≡ Pop d ∷ rest → CallsFirst b p → ⊥
exit_uncalled b p d rest e h = let l = h.items in cc

fail_uncalled : (b : CompiledProgram) (p : Path) (rest : Items ℕ) → items_here b p p.f p.pc ≡ Fail ∷ rest → CallsFirst b p → ⊥
fail_uncalled b p rest e h = let l = h.items in cc

nothing_uncalled : (b : CompiledProgram) (p : Path) → items_here b p p.f p.pc ≡ [] → CallsFirst b p → ⊥
nothing_uncalled b p e h = let l = h.items in cc

-- a goal stands first on a path wherever the same items are
pub calls_placed : (b : CompiledProgram) (p q : Path) → Placed b p q → CallsFirst b q → CallsFirst b p
calls_placed b p q h c = record { goal = c.goal; rest = c.rest; items = sym h.items ∙ c.items }

pub calls_there : (b : CompiledProgram) (p q : Path) → Placed b p q → CallsFirst b p → CallsFirst b q
calls_there b p q h c = record { goal = c.goal; rest = c.rest; items = h.items ∙ c.items }

-- what stands first is no goal
pub uncalled : (b : CompiledProgram) (p : Path) (front : Front) → HasFront b p front → ((stand : Stand) → front ≡ F.Goal stand → ⊥) → CallsFirst b p → ⊥
uncalled b p (F.Goal stand) h n c = n stand refl
uncalled b p (F.Cut d rest) h n c = cut_uncalled b p d (items_here b p rest.f rest.pc) h c
uncalled b p (F.Exit d rest) h n c = exit_uncalled b p d (items_here b p rest.f rest.pc) h c
uncalled b p F.Fail h n c = fail_uncalled b p h.0 h.1 c
uncalled b p F.Nothing h n c = nothing_uncalled b p h c
