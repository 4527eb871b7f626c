-- What frames stand for: the items of what is still to be run.
use Rattle.std.specs.Prelude.{◌≡◌, ℕ, zero, suc, ◌+◌, ◌≤◌, Bool, true, false, nat_eq, if◌then◌else◌, List, [], ◌∷◌, ◌++◌, map, Option, Some, None, length, reverse, take}
use Rattle.std.specs.List.{All}
use Rattle.pl_terms.specs.Trees.{Tree}
use Rattle.unifier_model.specs.Substitution.{apply}
use Rattle.pl_unify.specs.declared.word.Ref.{Ref}
use Rattle.pl_unify.specs.State.{State, bound, tree_at, IsRef, Extends, Grows}
use Rattle.solver_model.specs.Search.{Item, Call, Cut, Pop, Fail}
use Rattle.goal_model.specs.Environments.{Environment}
use Rattle.goal_model.specs.Bodies.{Goal}
use Rattle.goal_model.specs.Table.{item_under}
use Rattle.goal_code.specs.BodyCode.{BodyCode}
use Rattle.goal_code.specs.Settled.{standing}
use Rattle.goal_code.specs.Continuations.{Running, items_from}
use Rattle.goal_state.specs.declared.frames.Setting.{Setting}
use Rattle.goal_state.specs.declared.frames.Part.{Part}
use Rattle.goal_state.specs.declared.frames.Part.TheVariants as P
use Rattle.goal_state.specs.declared.frames.Frame.{Frame}

-- what stands at a place, over the elements from the newest; places are counted from 1
abbrev pub place_get : {A : Type 0} → List A → ℕ → Option A
place_get [] k = None
place_get (x ∷ older) k = elim (nat_eq k (suc (length older))) [ true ↦ Some x | false ↦ place_get older k ]

abbrev pub env_of : Setting → Environment ℕ
env_of st = record { lookup = st.lookup.0; context = st.context.0; caller = st.caller.0 }

-- the clauses' bodies, and the store of the run
module _ (p : ℕ → BodyCode) (s : State) where
  -- a clause's body in its setting, under the replacements of the run
  abbrev pub running : Setting → Running
  running st = record {
    words = (p st.clause).words;
    code = (p st.clause).code;
    up = standing (bound s) st.base;
    env = env_of st;
    reach = st.depth;
  }

  -- the item of a part that is one
  abbrev pub part_item : Part → Setting → Item (Goal ℕ)
  part_item (P.Goal r) st = Call (record { tree = tree_at s r; env = env_of st; reach = st.depth })
  part_item P.Cut st = Cut st.depth
  part_item P.Exit st = Pop st.depth
  part_item part st = Fail

  -- the items of a part from a place on, and then those after it; a part that is no body is done at place 0
  abbrev pub frame_items : Part → Setting → List (Item (Goal ℕ)) → (ℕ → List (Item (Goal ℕ))) → ℕ → List (Item (Goal ℕ))
  frame_items P.Body st after outer pc = items_from (running st) after outer pc
  frame_items P.Link st after outer pc = after
  frame_items part st after outer zero = after
  frame_items part st after outer (suc k) = part_item part st ∷ after

  -- the items from a frame's place on, over the frames from the newest
  abbrev pub items_at : List Frame → ℕ → ℕ → List (Item (Goal ℕ))
  items_at [] f pc = []
  items_at (fr ∷ older) f pc =
      elim (nat_eq f (suc (length older))) [
        | true ↦ frame_items fr.part fr.setting (items_at older fr.parent fr.ppc) (items_at older fr.parent) pc
        | false ↦ items_at older f pc
      ]

  abbrev pub items_of : List Frame → ℕ → ℕ → List (Item (Goal ℕ))
  items_of frames f pc = items_at (reverse frames) f pc

-- each frame's parent is older
abbrev pub Linked : List Frame → Type 0
Linked [] = Unit {0}
Linked (fr ∷ older) = (fr.parent ≤ length older) × Linked older

abbrev pub IsLinked : List Frame → Type 0
IsLinked frames = Linked (reverse frames)

-- nothing of a part is left at a place
abbrev pub is_over : Part → ℕ → Bool
is_over P.Link pc = true
is_over part pc = nat_eq pc 0

-- where a frame goes on: at its parent's place, where nothing of its part is left
abbrev pub place_after : Option Frame → ℕ → ℕ → ℕ × ℕ
place_after None f pc = (f, pc)
place_after (Some fr) f pc = if is_over fr.part pc then (fr.parent, fr.ppc) else (f, pc)

-- a frame was put above the first `keep`
pub record IsPut (old new : List Frame) (keep : ℕ) (frame : Frame) (place : ℕ) : Type 0 where
  pub frames : new ≡ take keep old ++ frame ∷ []
  pub placed : place ≡ length new
  pub above : place ≡ keep + 1
  pub same : take keep new ≡ take keep old
  pub items : (p : ℕ → BodyCode) (s : State) (pc : ℕ)
      → items_of p s new place pc ≡ frame_items p s frame.part frame.setting (items_of p s old frame.parent frame.ppc) (items_of p s old frame.parent) pc
  pub older : (p : ℕ → BodyCode) (s : State) (f pc : ℕ) → f ≤ keep → items_of p s new f pc ≡ items_of p s old f pc

-- a goal is one of the store
abbrev pub PartFits : State → Part → Type 0
PartFits s (P.Goal r) = IsRef s r
PartFits s part = Unit {0}

-- a frame's parts are those of a store
abbrev pub FrameFits : State → Frame → Type 0
FrameFits s fr = (fr.setting.base ≤ s.next) × PartFits s fr.part

abbrev pub FramesFit : State → List Frame → Type 0
FramesFit s frames = All (FrameFits s) frames

-- ---- laws

-- what goes on from a frame is that of its part, and then what goes on after it
abbrev pub FramesRead : Type 0
FramesRead = (p : ℕ → BodyCode) (s : State) (frames : List Frame) (f pc : ℕ) (fr : Frame) → IsLinked frames → place_get (reverse frames) f ≡ Some fr
    → items_of p s frames f pc ≡ frame_items p s fr.part fr.setting (items_of p s frames fr.parent fr.ppc) (items_of p s frames fr.parent) pc

-- nothing goes on where no frame is
abbrev pub NothingOutside : Type 0
NothingOutside = (p : ℕ → BodyCode) (s : State) (frames : List Frame) (f pc : ℕ) → place_get (reverse frames) f ≡ None → items_of p s frames f pc ≡ []

-- the first frames alone are read
abbrev pub ItemsTake : Type 0
ItemsTake = (p : ℕ → BodyCode) (s : State) (frames : List Frame) (j f pc : ℕ) → f ≤ j → j ≤ length frames → items_of p s (take j frames) f pc ≡ items_of p s frames f pc

-- places of the store stand for their old trees under further replacements
abbrev pub PlacesMove : State → State → List (ℕ × Tree ℕ) → Type 0
PlacesMove old new more = (r : Ref) → IsRef old r → tree_at new r ≡ apply more (tree_at old r)

-- further replacements are made in all items
abbrev pub ItemsMove : Type 0
ItemsMove = (p : ℕ → BodyCode) (old new : State) (more : List (ℕ × Tree ℕ)) (frames : List Frame) (f pc : ℕ)
    → bound new ≡ bound old ++ more → PlacesMove old new more → FramesFit old frames
    → items_of p new frames f pc ≡ map (item_under more) (items_of p old frames f pc)

-- a store that grows leaves all items
abbrev pub ItemsStay : Type 0
ItemsStay = (p : ℕ → BodyCode) (old new : State) (frames : List Frame) (f pc : ℕ) → Grows old new → FramesFit old frames
    → items_of p new frames f pc ≡ items_of p old frames f pc

-- frames fit a store that grows
abbrev pub FitsStay : Type 0
FitsStay = (old new : State) (frames : List Frame) → Grows old new → FramesFit old frames → FramesFit new frames

-- frames fit a store that has more
abbrev pub FitsMove : Type 0
FitsMove = (old new : State) (frames : List Frame) → Extends old new → FramesFit old frames → FramesFit new frames

-- the first frames fit
abbrev pub FitsTake : Type 0
FitsTake = (s : State) (j : ℕ) (frames : List Frame) → FramesFit s frames → FramesFit s (take j frames)

-- a frame that fits can be put above the first ones
abbrev pub FitsPut : Type 0
FitsPut = (s : State) (keep : ℕ) (frames : List Frame) (fr : Frame) → FramesFit s frames → FrameFits s fr → FramesFit s (take keep frames ++ fr ∷ [])

-- the frame at a place fits
abbrev pub FitsRead : Type 0
FitsRead = (s : State) (f : ℕ) (frames : List Frame) (fr : Frame) → FramesFit s frames → place_get (reverse frames) f ≡ Some fr → FrameFits s fr
