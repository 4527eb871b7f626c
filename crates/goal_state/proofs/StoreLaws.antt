-- What frames stand for in another store, and whether they fit it.
use Rattle.std.proofs.Common.{◌≡◌, ℕ, zero, suc, ◌-◌, ◌≤◌, Bool, true, false, List, [], ◌∷◌, ◌++◌, Option, Some, None, refl, sym, ap, ◌∙◌, subst, arith, reverse, length, take, map}
use Rattle.std.specs.Prelude.{nat_eq}
use Rattle.std.specs.List.{All}
use Rattle.std.proofs.lemmas.List.{reverse-append}
use Rattle.std.proofs.lemmas.List.Elements.{All-head, All-tail, All-push, All-take, All-weaker}
use Rattle.pl_terms.specs.Trees.{Tree}
use Rattle.unifier_model.specs.Substitution.{apply, raise}
use Rattle.unifier_model.proofs.Replaced.{apply-append}
use Rattle.pl_unify.specs.Code.{code_tree}
use Rattle.pl_unify.specs.State.{State, bound, tree_at, Extends}
use Rattle.solver_model.specs.Search.{Item, Call, Cut, Pop, Fail}
use Rattle.goal_model.specs.Bodies.{Goal}
use Rattle.goal_model.specs.Table.{item_under}
use Rattle.goal_code.specs.declared.instruction.Instruction.{Instruction}
use Rattle.goal_code.specs.declared.instruction.Instruction.TheVariants.{Goal as Other, Cut as Commit, Either, If, EndIf}
use Rattle.goal_code.specs.Runs.{instruction_at}
use Rattle.goal_code.specs.Denotation.{called}
use Rattle.goal_code.specs.Continuations.{call_of, follow, items_within}
use Rattle.goal_state.specs.declared.frames.Part.{Part}
use Rattle.goal_state.specs.declared.frames.Part.TheVariants as P
use Rattle.goal_state.specs.declared.frames.Setting.{Setting}
use Rattle.goal_state.specs.declared.frames.Frame.{Frame}
use Rattle.goal_code.specs.BodyCode.{BodyCode}
use Rattle.goal_state.specs.Frames.{place_get, env_of, running, frame_items, items_at, items_of, PlacesMove, PartFits, FrameFits, FramesFit, ItemsMove, ItemsStay, FitsStay, FitsMove, FitsTake, FitsPut, FitsRead}

-- lists

All-reverse : {X : Type 0} (P : X → Type 0) (xs : List X) → All P xs → All P (reverse xs)
All-reverse P [] h = h
All-reverse P (x ∷ xs) h = subst (All P) (sym (reverse-append (x ∷ []) xs)) (All-push P (reverse xs) x (All-reverse P xs (All-tail P x xs h)) (All-head P x xs h))

All-place : {X : Type 0} (P : X → Type 0) (newest : List X) (k : ℕ) (x : X) → All P newest → place_get newest k ≡ Some x → P x
All-place P [] k x h is = cc
All-place {X = X} P (y ∷ older) k x h is = go (nat_eq k (suc (length older))) is (λ i. All-place P older k x (All-tail P y older h) i)
  where
    go : (b : Bool) → elim b as (λ _. Option X) [ true ↦ Some y | false ↦ place_get older k ] ≡ Some x → (place_get older k ≡ Some x → P x) → P x
    go true i ih = let e : y ≡ x = cc in subst P e (All-head P y older h)
    go false i ih = ih i

-- further replacements

module _ (p : ℕ → BodyCode) (old new : State) (more : List (ℕ × Tree ℕ)) (grown : bound new ≡ bound old ++ more) (places : PlacesMove old new more) where
  tree_moves : (base : ℕ) (t : Tree ℕ) → apply (bound new) (raise base t) ≡ apply more (apply (bound old) (raise base t))
  tree_moves base t = ap (λ bs. apply bs (raise base t)) grown ∙ apply-append (bound old) more (raise base t)

  body_moves : (st : Setting) (after after' : List (Item (Goal ℕ))) (outer outer' : ℕ → List (Item (Goal ℕ))) → after' ≡ map (item_under more) after → ((n : ℕ) → outer' n ≡ map (item_under more) (outer n)) → (k pc : ℕ)
      → items_within (running p new st) after' outer' k pc ≡ map (item_under more) (items_within (running p old st) after outer k pc)
  body_moves st after after' outer outer' h g zero pc = h
  body_moves st after after' outer outer' h g (suc k) pc = go (instruction_at (p st.clause).code pc) (λ n. body_moves st after after' outer outer' h g k n)
    where
      call : (q n : ℕ) → items_within (running p new st) after' outer' k n ≡ map (item_under more) (items_within (running p old st) after outer k n)
          → call_of (running p new st) (code_tree (p st.clause).words q) ∷ items_within (running p new st) after' outer' k n
          ≡ item_under more (call_of (running p old st) (code_tree (p st.clause).words q)) ∷ map (item_under more) (items_within (running p old st) after outer k n)
      call q n e =
          ap (λ t. called (env_of st) st.depth t ∷ items_within (running p new st) after' outer' k n) (tree_moves st.base (code_tree (p st.clause).words q))
          ∙ ap (λ l. item_under more (call_of (running p old st) (code_tree (p st.clause).words q)) ∷ l) e

      go : (o : Option Instruction) → ((n : ℕ) → items_within (running p new st) after' outer' k n ≡ map (item_under more) (items_within (running p old st) after outer k n))
          → (elim o as (λ _. List (Item (Goal ℕ))) [ None ↦ after' | Some c ↦ follow (running p new st) after' outer' c (items_within (running p new st) after' outer' k) ])
          ≡ map (item_under more) (elim o as (λ _. List (Item (Goal ℕ))) [ None ↦ after | Some c ↦ follow (running p old st) after outer c (items_within (running p old st) after outer k) ])
      go None ih = h
      go (Some (Other q n)) ih = call q n (ih n)
      go (Some (Commit q n)) ih = call q n (ih n)
      go (Some (Either q x y n)) ih = call q n (ih n)
      go (Some (If q x m z n)) ih = call q n (ih n)
      go (Some (EndIf n)) ih = ap (λ l. Cut (st.depth - 1) ∷ l) (g n)

  part_moves : (part : Part) → PartFits old part → (st : Setting) (after after' : List (Item (Goal ℕ))) (outer outer' : ℕ → List (Item (Goal ℕ))) → after' ≡ map (item_under more) after → ((n : ℕ) → outer' n ≡ map (item_under more) (outer n)) → (pc : ℕ)
      → frame_items p new part st after' outer' pc ≡ map (item_under more) (frame_items p old part st after outer pc)
  part_moves P.Body fit st after after' outer outer' h g pc = body_moves st after after' outer outer' h g pc pc
  part_moves P.Link fit st after after' outer outer' h g pc = h
  part_moves (P.Goal r) fit st after after' outer outer' h g zero = h
  part_moves (P.Goal r) fit st after after' outer outer' h g (suc n) =
      ap (λ t. Call (record { tree = t; env = env_of st; reach = st.depth }) ∷ after') (places r fit)
      ∙ ap (λ l. Call (record { tree = apply more (tree_at old r); env = env_of st; reach = st.depth }) ∷ l) h
  part_moves P.Cut fit st after after' outer outer' h g zero = h
  part_moves P.Cut fit st after after' outer outer' h g (suc n) = ap (λ l. Cut st.depth ∷ l) h
  part_moves P.Exit fit st after after' outer outer' h g zero = h
  part_moves P.Exit fit st after after' outer outer' h g (suc n) = ap (λ l. Pop st.depth ∷ l) h
  part_moves P.Fail fit st after after' outer outer' h g zero = h
  part_moves P.Fail fit st after after' outer outer' h g (suc n) = ap (λ l. Fail ∷ l) h

  moves : (frames : List Frame) → FramesFit old frames → (f pc : ℕ) → items_at p new frames f pc ≡ map (item_under more) (items_at p old frames f pc)
  moves [] fit f pc = refl
  moves (fr ∷ older) fit f pc = go (nat_eq f (suc (length older))) (λ g n. moves older (All-tail (FrameFits old) fr older fit) g n)
    where
      go : (b : Bool) → ((g n : ℕ) → items_at p new older g n ≡ map (item_under more) (items_at p old older g n))
          → (elim b as (λ _. List (Item (Goal ℕ))) [ true ↦ frame_items p new fr.part fr.setting (items_at p new older fr.parent fr.ppc) (items_at p new older fr.parent) pc | false ↦ items_at p new older f pc ])
          ≡ map (item_under more) (elim b as (λ _. List (Item (Goal ℕ))) [ true ↦ frame_items p old fr.part fr.setting (items_at p old older fr.parent fr.ppc) (items_at p old older fr.parent) pc | false ↦ items_at p old older f pc ])
      go true ih =
          part_moves fr.part (All-head (FrameFits old) fr older fit).1 fr.setting
          (items_at p old older fr.parent fr.ppc) (items_at p new older fr.parent fr.ppc) (items_at p old older fr.parent) (items_at p new older fr.parent)
          (ih fr.parent fr.ppc) (λ n. ih fr.parent n) pc
      go false ih = ih f pc

pub items_move : ItemsMove
items_move p old new more frames f pc grown places fit = moves p old new more grown places (reverse frames) (All-reverse (FrameFits old) frames fit) f pc

append-none : {A : Type 0} (xs : List A) → xs ≡ xs ++ []
append-none [] = refl
append-none (x ∷ xs) = ap (λ l. x ∷ l) (append-none xs)

none-under : (items : List (Item (Goal ℕ))) → map (item_under []) items ≡ items
none-under [] = refl
none-under (Call g ∷ items) = ap (λ l. Call g ∷ l) (none-under items)
none-under (Cut d ∷ items) = ap (λ l. Cut d ∷ l) (none-under items)
none-under (Pop d ∷ items) = ap (λ l. Pop d ∷ l) (none-under items)
none-under (Fail ∷ items) = ap (λ l. Fail ∷ l) (none-under items)

pub items_stay : ItemsStay
items_stay p old new frames f pc grows fit =
    items_move p old new [] frames f pc (grows.bound ∙ append-none (bound old)) grows.places fit ∙ none-under (items_of p old frames f pc)

-- frames that fit

module _ (old new : State) (extends : Extends old new) where
  part_fits : (part : Part) → PartFits old part → PartFits new part
  part_fits P.Body fit = tt
  part_fits P.Link fit = tt
  part_fits (P.Goal r) fit =
      let more_cells = extends.more_cells in
      omega (arith, fit, more_cells)
  part_fits P.Cut fit = tt
  part_fits P.Exit fit = tt
  part_fits P.Fail fit = tt

  frame_fits : (fr : Frame) → FrameFits old fr → FrameFits new fr
  frame_fits fr fit =
      let low : fr.setting.base ≤ old.next = fit.0 in
      let next = extends.next in
      (omega (arith, low, next), part_fits fr.part fit.1)

pub fits_move : FitsMove
fits_move old new frames extends fit = All-weaker (FrameFits old) (FrameFits new) (frame_fits old new extends) frames fit

pub fits_stay : FitsStay
fits_stay old new frames grows fit = fits_move old new frames grows.extends fit

pub fits_take : FitsTake
fits_take s j frames fit = All-take (FrameFits s) j frames fit

pub fits_put : FitsPut
fits_put s keep frames fr fit new = All-push (FrameFits s) (take keep frames) fr (All-take (FrameFits s) keep frames fit) new

pub fits_read : FitsRead
fits_read s f frames fr fit is = All-place (FrameFits s) (reverse frames) f fr (All-reverse (FrameFits s) frames fit) is
