-- What frames stand for, where frames are put and dropped.
use Rattle.std.proofs.Common.{Result, Ok, Err, OnOk, OnErr, IfOk, ◌≡◌, ℕ, suc, ◌+◌, ◌<◌, ◌≤◌, Bool, true, false, List, [], ◌∷◌, ◌++◌, Option, Some, None, refl, sym, ap, ◌∙◌, subst, arith, reverse, length, take, drop, length-append, length-take}
use Rattle.std.specs.Prelude.{nat_eq}
use Rattle.std.proofs.lemmas.Bool.{eqb-true, eq-eqb}
use Rattle.std.proofs.lemmas.List.{reverse-append, length-reverse, take-append-drop, take-take, take-append-le}
use Rattle.std.proofs.Math.Path.{fun_ext}
use Rattle.pl_unify.specs.State.{State}
use Rattle.solver_model.specs.Search.{Item}
use Rattle.goal_model.specs.Bodies.{Goal}
use Rattle.goal_state.specs.declared.frames.Part.{Part}
use Rattle.goal_state.specs.declared.frames.Part.TheVariants as P
use Rattle.goal_state.specs.declared.frames.Setting.{Setting}
use Rattle.goal_state.specs.declared.frames.Frame.{Frame}
use Rattle.goal_code.specs.BodyCode.{BodyCode}
use Rattle.goal_state.specs.Frames.{place_get, frame_items, items_at, items_of, Linked, IsLinked, IsPut, is_over, FramesRead, NothingOutside, ItemsTake}
use Rattle.goal_state.proofs.FramePlaces.{ne-eqb, reverse-push, place_within}

module _ (p : ℕ → BodyCode) (s : State) where
  items_at-below : (fr : Frame) (older : List Frame) (f pc : ℕ) → f ≤ length older → items_at p s (fr ∷ older) f pc ≡ items_at p s older f pc
  items_at-below fr older f pc le =
      ap (λ b. elim b [ true ↦ frame_items p s fr.part fr.setting (items_at p s older fr.parent fr.ppc) (items_at p s older fr.parent) pc | false ↦ items_at p s older f pc ]) (ne-eqb f (suc (length older)) (λ e. absurd (omega (arith, e, le))))

  -- newer frames are not read
  items_at-suffix : (newer older : List Frame) (f pc : ℕ) → f ≤ length older → items_at p s (newer ++ older) f pc ≡ items_at p s older f pc
  items_at-suffix [] older f pc le = refl
  items_at-suffix (fr ∷ newer) older f pc le =
      items_at-below fr (newer ++ older) f pc (omega (arith, le, length-append newer older)) ∙ items_at-suffix newer older f pc le

  -- a frame is read
  reads_frame : (frames : List Frame) (f pc : ℕ) (fr : Frame) → Linked frames → place_get frames f ≡ Some fr
      → (items_at p s frames f pc ≡ frame_items p s fr.part fr.setting (items_at p s frames fr.parent fr.ppc) (items_at p s frames fr.parent) pc) × (fr.parent < f)
  reads_frame [] f pc fr linked is = cc
  reads_frame (x ∷ older) f pc fr linked is = go (nat_eq f (suc (length older))) refl is (λ h. reads_frame older f pc fr linked.1 h)
    where
      lower : fr.parent ≤ length older
          → frame_items p s fr.part fr.setting (items_at p s older fr.parent fr.ppc) (items_at p s older fr.parent) pc
          ≡ frame_items p s fr.part fr.setting (items_at p s (x ∷ older) fr.parent fr.ppc) (items_at p s (x ∷ older) fr.parent) pc
      lower le =
          let outer : items_at p s older fr.parent ≡ items_at p s (x ∷ older) fr.parent = fun_ext (λ n. sym (items_at-below x older fr.parent n le)) in
          ap (λ o. frame_items p s fr.part fr.setting (o fr.ppc) o pc) outer

      go : (b : Bool) → nat_eq f (suc (length older)) ≡ b → elim b as (λ _. Option Frame) [ true ↦ Some x | false ↦ place_get older f ] ≡ Some fr
          → (place_get older f ≡ Some fr → ((items_at p s older f pc ≡ frame_items p s fr.part fr.setting (items_at p s older fr.parent fr.ppc) (items_at p s older fr.parent) pc) × (fr.parent < f)))
          → ((elim b as (λ _. List (Item (Goal ℕ))) [ true ↦ frame_items p s x.part x.setting (items_at p s older x.parent x.ppc) (items_at p s older x.parent) pc | false ↦ items_at p s older f pc ]
          ≡ frame_items p s fr.part fr.setting (items_at p s (x ∷ older) fr.parent fr.ppc) (items_at p s (x ∷ older) fr.parent) pc) × (fr.parent < f))
      go true e i ih =
          let same : x ≡ fr = cc in
          let k : f ≡ suc (length older) = eqb-true f (suc (length older)) e in
          let le : fr.parent ≤ length older = subst (λ y. y.parent ≤ length older) same linked.0 in
          (ap (λ y. frame_items p s y.part y.setting (items_at p s older y.parent y.ppc) (items_at p s older y.parent) pc) same ∙ lower le, omega (arith, le, k))
      go false e i ih =
          let r = ih i in
          let le : fr.parent ≤ length older = omega (arith, r.1, place_within older f fr i) in
          (r.0 ∙ lower le, r.1)

  no_frame : (frames : List Frame) (f pc : ℕ) → place_get frames f ≡ None → items_at p s frames f pc ≡ []
  no_frame [] f pc is = refl
  no_frame (x ∷ older) f pc is = go (nat_eq f (suc (length older))) is (λ i. no_frame older f pc i)
    where
      go : (b : Bool) → elim b as (λ _. Option Frame) [ true ↦ Some x | false ↦ place_get older f ] ≡ None → (place_get older f ≡ None → items_at p s older f pc ≡ [])
          → elim b as (λ _. List (Item (Goal ℕ))) [ true ↦ frame_items p s x.part x.setting (items_at p s older x.parent x.ppc) (items_at p s older x.parent) pc | false ↦ items_at p s older f pc ] ≡ []
      go true i ih = cc
      go false i ih = ih i

  pub items_of-take : (frames : List Frame) (k f pc : ℕ) → f ≤ k → k ≤ length frames → items_of p s (take k frames) f pc ≡ items_of p s frames f pc
  items_of-take frames k f pc le within =
      let e : reverse frames ≡ reverse (drop k frames) ++ reverse (take k frames) = ap reverse (sym (take-append-drop k frames)) ∙ reverse-append (take k frames) (drop k frames) in
      let w : f ≤ length (reverse (take k frames)) = omega (arith, length-reverse (take k frames), length-take k frames) in
      sym (items_at-suffix (reverse (drop k frames)) (reverse (take k frames)) f pc w) ∙ ap (λ l. items_at p s l f pc) (sym e)

pub frames_read : FramesRead
frames_read p s frames f pc fr linked is = (reads_frame p s (reverse frames) f pc fr linked is).0

pub nothing_outside : NothingOutside
nothing_outside p s frames f pc is = no_frame p s (reverse frames) f pc is

pub items_take : ItemsTake
items_take p s frames j f pc le within = items_of-take p s frames j f pc le within

pub parent_low : (frames : List Frame) (f : ℕ) (fr : Frame) → IsLinked frames → place_get (reverse frames) f ≡ Some fr → fr.parent < f
parent_low frames f fr linked is = (reads_frame (λ _. record { words = []; code = [] }) (record { cells = []; links = []; next = 0 }) (reverse frames) f 0 fr linked is).1

-- a frame that is put

Linked-append : (a b : List Frame) → Linked (a ++ b) → Linked b
Linked-append [] b h = h
Linked-append (l ∷ a) b h = Linked-append a b h.1

pub linked-take : (frames : List Frame) (k : ℕ) → IsLinked frames → IsLinked (take k frames)
linked-take frames k h =
    let e : reverse frames ≡ reverse (drop k frames) ++ reverse (take k frames) = ap reverse (sym (take-append-drop k frames)) ∙ reverse-append (take k frames) (drop k frames) in
    Linked-append (reverse (drop k frames)) (reverse (take k frames)) (subst Linked e h)

pub place_top : {A : Type 0} (x : A) (older : List A) (k : ℕ) → k ≡ suc (length older) → place_get (x ∷ older) k ≡ Some x
place_top x older k e = ap (λ b. elim b [ true ↦ Some x | false ↦ place_get older k ]) (eq-eqb k (suc (length older)) e)

pub kept_length : (frames : List Frame) (keep : ℕ) → keep ≤ length frames → length (reverse (take keep frames)) ≡ keep
kept_length frames keep within = omega (arith, length-reverse (take keep frames), length-take keep frames)

pub linked-put : (old : List Frame) (keep : ℕ) (fr : Frame) → IsLinked old → fr.parent ≤ keep → keep ≤ length old → IsLinked (take keep old ++ fr ∷ [])
linked-put old keep fr linked above within =
    subst Linked (sym (reverse-push (take keep old) fr)) (omega (arith, above, kept_length old keep within), linked-take old keep linked)

pub is_put : (old new : List Frame) (keep : ℕ) (fr : Frame) (place : ℕ) → IsLinked old → fr.parent ≤ keep → keep ≤ length old → new ≡ take keep old ++ fr ∷ [] → place ≡ length new → IsPut old new keep fr place
is_put old new keep fr place linked above within is len =
    let n : length new ≡ keep + 1 = ap length is ∙ omega (arith, length-append (take keep old) (fr ∷ []), length-take keep old) in
    let k : place ≡ keep + 1 = omega (arith, n, len) in
    let rev : reverse new ≡ fr ∷ reverse (take keep old) = ap reverse is ∙ reverse-push (take keep old) fr in
    let t : length (reverse (take keep old)) ≡ keep = kept_length old keep within in
    let link : IsLinked new = subst IsLinked (sym is) (linked-put old keep fr linked above within) in
    let same : take keep new ≡ take keep old =
    ap (take keep) is ∙ take-append-le keep (take keep old) (fr ∷ []) (omega (arith, length-take keep old)) ∙ take-take keep keep old (omega arith) in
    let older : (p : ℕ → BodyCode) (s : State) (f pc : ℕ) → f ≤ keep → items_of p s new f pc ≡ items_of p s old f pc =
    λ p s f pc le. sym (items_of-take p s new keep f pc le (omega (arith, n))) ∙ ap (λ l. items_of p s l f pc) same ∙ items_of-take p s old keep f pc le within in
    record {
      frames = is;
      placed = len;
      above = k;
      same = same;
      older = older;
      items = λ p s pc.
          let top : place_get (reverse new) place ≡ Some fr = ap (λ l. place_get l place) rev ∙ place_top fr (reverse (take keep old)) place (omega (arith, k, t)) in
          frames_read p s new place pc fr link top
          ∙ ap (λ o. frame_items p s fr.part fr.setting (o fr.ppc) o pc) (fun_ext (λ m. older p s fr.parent m above));
    }

-- nothing of a part is left
over_items : (p : ℕ → BodyCode) (s : State) (part : Part) (st : Setting) (after : List (Item (Goal ℕ))) (outer : ℕ → List (Item (Goal ℕ))) (pc : ℕ) → is_over part pc ≡ true → frame_items p s part st after outer pc ≡ after
over_items p s P.Body st after outer pc h = ap (frame_items p s P.Body st after outer) (eqb-true pc 0 h)
over_items p s P.Link st after outer pc h = refl
over_items p s (P.Goal r) st after outer pc h = ap (frame_items p s (P.Goal r) st after outer) (eqb-true pc 0 h)
over_items p s P.Cut st after outer pc h = ap (frame_items p s P.Cut st after outer) (eqb-true pc 0 h)
over_items p s P.Exit st after outer pc h = ap (frame_items p s P.Exit st after outer) (eqb-true pc 0 h)
over_items p s P.Fail st after outer pc h = ap (frame_items p s P.Fail st after outer) (eqb-true pc 0 h)

pub passed : (p : ℕ → BodyCode) (s : State) (frames : List Frame) (f pc : ℕ) (fr : Frame) → IsLinked frames → is_over fr.part pc ≡ true → place_get (reverse frames) f ≡ Some fr
    → items_of p s frames fr.parent fr.ppc ≡ items_of p s frames f pc
passed p s frames f pc fr linked over is =
    sym (frames_read p s frames f pc fr linked is ∙ over_items p s fr.part fr.setting (items_of p s frames fr.parent fr.ppc) (items_of p s frames fr.parent) pc over)

-- what putting a frame gives

module _ {E : Type 0} (old new : List Frame) (keep : ℕ) (fr : Frame) (linked : IsLinked old) (above : fr.parent ≤ keep) (within : keep ≤ length old) where
  pub put_linked : (r : Result ℕ E) → OnOk r (new ≡ take keep old ++ fr ∷ []) → OnErr r (new ≡ take keep old) → IsLinked new
  put_linked (Ok place) h k = subst IsLinked (sym h) (linked-put old keep fr linked above within)
  put_linked (Err e) h k = subst IsLinked (sym k) (linked-take old keep linked)

  pub was_put : (r : Result ℕ E) → OnOk r (new ≡ take keep old ++ fr ∷ []) → IfOk r (λ place. place ≡ length new) → IfOk r (λ place. IsPut old new keep fr place)
  was_put (Ok place) h k = is_put old new keep fr place linked above within h k
  was_put (Err e) h k = tt
