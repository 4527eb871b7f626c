-- A plain stack of whole states: where a search stands, the steps left, the clauses, and the frames around it.
use Rattle.std.specs.Prelude.{◌≡◌, ℕ, suc, ◌+◌, ◌*◌, ◌<◌, ◌≤◌, Bool, true, false, Option, Some, None, List, [], ◌∷◌, length}
use Rattle.solver_model.specs.Search.{Item, Event, End, prepend, Call, Cut, Pop, Fail, At, Over, Tries, Catches, Collects, Ends, Opens, Language, OutcomeOf, FrameOf, PointOf, StateOf, ActivationOf, depth_of, pops, has, Thrown}
use Rattle.solver_model.specs.Frames.{Falls, value}

pub record Configuration (L : Language) : Type 0 where
  pub point : PointOf L
  pub left : ℕ
  pub clauses : L.Clauses
  pub frames : List (FrameOf L)

module _ (L : Language) where
  -- what is still to come
  abbrev pub value_of : Configuration L → OutcomeOf L
  value_of x = value L x.point x.left x.clauses x.frames

  abbrev pub AllBelow : ℕ → List ℕ → Type 0
  AllBelow d [] = Unit {0}
  AllBelow d (k ∷ ks) = (k < d) × AllBelow d ks

  -- each is above those after it
  abbrev pub Falling : List ℕ → Type 0
  Falling [] = Unit {0}
  Falling (k ∷ ks) = AllBelow k ks × Falling ks

  -- the frames that gather answers stand below a depth
  abbrev pub Ungathered : ℕ → List (FrameOf L) → Type 0
  Ungathered d [] = Unit {0}
  Ungathered d (Tries e alts ∷ fs) = Ungathered d fs
  Ungathered d (Catches e rec ∷ fs) = Ungathered d fs
  Ungathered d (Collects e acc f ∷ fs) = (e < d) × Ungathered d fs

  -- what is cut to d meets no exit from d on in what follows, and no frame that gathers
  abbrev pub Clear : List (FrameOf L) → ℕ → List (Item L.Goal) → Type 0
  Clear fs d rest = AllBelow d (pops rest) × Ungathered d fs

  abbrev pub ItemsOk : List (FrameOf L) → List (Item L.Goal) → Type 0
  ItemsOk fs [] = Unit {0}
  ItemsOk fs (Call g ∷ rest) = Clear fs (L.cut g) rest × ItemsOk fs rest
  ItemsOk fs (Cut d ∷ rest) = Clear fs d rest × ItemsOk fs rest
  ItemsOk fs (Pop d ∷ rest) = AllBelow d (pops rest) × ItemsOk fs rest
  ItemsOk fs (Fail ∷ rest) = ItemsOk fs rest

  abbrev pub StateOk : List (FrameOf L) → StateOf L → Type 0
  StateOk fs s = Falls s.depth fs × AllBelow s.depth (pops s.items) × ItemsOk fs s.items

  abbrev pub Chain : List (FrameOf L) → Type 0
  Chain [] = Unit {0}
  Chain (f ∷ fs) = Falls (depth_of f) fs

  -- the exits that are active for a ball fall
  abbrev pub EndOk : End L.Ball → Type 0
  EndOk (Thrown ball active) = Falling active
  EndOk _ = Unit {0}

  abbrev pub SaneAt : List (FrameOf L) → PointOf L → Type 0
  SaneAt fs (At s) = StateOk fs s
  SaneAt fs (Over x) = Chain fs × EndOk x

  abbrev pub AttemptSane : ℕ → List (FrameOf L) → Option (StateOf L × L.Clauses) → Type 0
  AttemptSane e fs None = Unit {0}
  AttemptSane e fs (Some (s, c)) = (s.depth ≡ e + 1) × StateOk fs s

  abbrev pub AlternativesSane : ℕ → List (FrameOf L) → List L.Alternative → Type 0
  AlternativesSane e fs [] = Unit {0}
  AlternativesSane e fs (a ∷ alts) = ((c : L.Clauses) → AttemptSane e fs (L.attempt a c)) × AlternativesSane e fs alts

  abbrev pub RecoverSane : List (FrameOf L) → Option (PointOf L) → Type 0
  RecoverSane fs None = Unit {0}
  RecoverSane fs (Some p) = SaneAt fs p

  -- what a frame still leads to, over the frames below
  abbrev pub FrameSane : FrameOf L → List (FrameOf L) → Type 0
  FrameSane (Tries e alts) fs = AlternativesSane e fs alts
  FrameSane (Catches e rec) fs = (ball : L.Ball) → RecoverSane fs (L.recover rec ball)
  FrameSane (Collects e acc f) fs = Falling (L.active_of f) × ((ts : List L.Answer) → SaneAt fs (L.gather f ts))

  abbrev pub FramesSane : List (FrameOf L) → Type 0
  FramesSane [] = Unit {0}
  FramesSane (f ∷ fs) = Falls (depth_of f) fs × FrameSane f fs × FramesSane fs

  abbrev pub Sane : Configuration L → Type 0
  Sane x = SaneAt x.frames x.point × FramesSane x.frames

  abbrev pub ActivationSane : ℕ → List (FrameOf L) → ActivationOf L → Type 0
  ActivationSane e fs (Ends events x) = EndOk x
  ActivationSane e fs (Opens events p f) = (depth_of f ≡ e) × SaneAt (f ∷ fs) p × FrameSane f fs

  -- what is asked of the table
  abbrev pub TableSane : Type 0
  TableSane = (e : ℕ) (g : L.Goal) (rest : List (Item L.Goal)) (w : L.World) (c : L.Clauses) (fs : List (FrameOf L)) → Falls e fs → AllBelow e (pops rest) → Clear fs (L.cut g) rest → ItemsOk fs rest → ActivationSane e fs (L.activate e g rest w c)

  -- the alternatives that are untried
  abbrev pub untried_in : List (FrameOf L) → ℕ
  untried_in [] = 0
  untried_in (Tries e alts ∷ fs) = length alts + untried_in fs
  untried_in (Catches e rec ∷ fs) = suc (untried_in fs)
  untried_in (Collects e acc f ∷ fs) = suc (untried_in fs)

  abbrev pub standing : PointOf L → ℕ
  standing (At s) = 1
  standing (Over x) = 0

  -- what a search without steps has before it
  abbrev pub weight : Configuration L → ℕ
  weight x = 2 * untried_in x.frames + standing x.point

  -- a move without events
  pub record Turns (x y : Configuration L) : Type 0 where
    pub value : Sane x → value_of y ≡ value_of x
    pub sane : Sane x → Sane y
    pub left : y.left ≤ x.left
    pub lighter : y.left ≡ x.left → weight y ≤ weight x

  -- a move of which these events are heard outside
  pub record Tells (events : List (Event L.Answer)) (x y : Configuration L) : Type 0 where
    pub value : Sane x → value_of x ≡ prepend L events (value_of y)
    pub sane : Sane x → Sane y
    pub left : y.left ≤ x.left
    pub lighter : y.left ≡ x.left → weight y ≤ weight x

  -- where a ball leads: to the innermost active catch that takes it, or out of everything
  abbrev pub taken : L.Ball → List ℕ → ℕ → L.Clauses → List (FrameOf L) → Bool → Option (PointOf L) → Configuration L → Configuration L
  taken ball active l c fs true (Some p) out = record { point = p; left = l; clauses = c; frames = fs }
  taken ball active l c fs true None out = out
  taken ball active l c fs false o out = out

  abbrev pub unwound : L.Ball → List ℕ → ℕ → L.Clauses → List (FrameOf L) → Configuration L
  unwound ball active l c [] = record { point = Over (Thrown ball active); left = l; clauses = c; frames = [] }
  unwound ball active l c (Tries e alts ∷ fs) = unwound ball active l c fs
  unwound ball active l c (Catches e rec ∷ fs) = taken ball active l c fs (has active e) (L.recover rec ball) (unwound ball active l c fs)
  unwound ball active l c (Collects e acc f ∷ fs) = unwound ball (L.active_of f) l c fs
