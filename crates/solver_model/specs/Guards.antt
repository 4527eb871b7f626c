-- What the theory asks of a table about catches: a ball that a goal raises is active for exits among the items after the goal alone.
use Rattle.std.specs.Prelude.{◌≡◌, ℕ, ◌<◌, ◌≤◌, true, List, [], ◌∷◌, Option, Some, None}
use Rattle.solver_model.specs.Search.{Item, End, Language, Failed, CutTo, Thrown, Halted, Spent, At, Over, Tries, Catches, Collects, Ends, Opens, has, pops, StateOf, FrameOf, PointOf, ActivationOf}

-- each of these below e is one of those
abbrev pub Within : ℕ → List ℕ → List ℕ → Type 0
Within e act ps = (k : ℕ) → k < e → has act k ≡ true → has ps k ≡ true

abbrev pub Guarded : {B : Type 0} → ℕ → List ℕ → End B → Type 0
Guarded e ps Failed = Unit {0}
Guarded e ps (CutTo c) = Unit {0}
Guarded e ps (Thrown ball active) = Within e active ps
Guarded e ps (Halted k) = Unit {0}
Guarded e ps Spent = Unit {0}

module _ (L : Language) where
  abbrev pub PointOk : ℕ → List ℕ → PointOf L → Type 0
  PointOk e ps (At s) = (e ≤ s.depth) × Within e (pops s.items) ps
  PointOk e ps (Over x) = Guarded e ps x

  abbrev pub AttemptOk : ℕ → List ℕ → Option (StateOf L × L.Clauses) → Type 0
  AttemptOk e ps None = Unit {0}
  AttemptOk e ps (Some (s, c)) = PointOk e ps (At s)

  abbrev pub RecoverOk : ℕ → List ℕ → Option (PointOf L) → Type 0
  RecoverOk e ps None = Unit {0}
  RecoverOk e ps (Some p) = PointOk e ps p

  abbrev pub AlternativesOk : ℕ → List ℕ → List L.Alternative → Type 0
  AlternativesOk e ps [] = Unit {0}
  AlternativesOk e ps (a ∷ alts) = ((c : L.Clauses) → AttemptOk e ps (L.attempt a c)) × AlternativesOk e ps alts

  abbrev pub FrameOk : ℕ → List ℕ → FrameOf L → Type 0
  FrameOk e ps (Tries d alts) = AlternativesOk e ps alts
  FrameOk e ps (Catches d rec) = (ball : L.Ball) → RecoverOk e ps (L.recover rec ball)
  FrameOk e ps (Collects d acc f) = ((ts : List L.Answer) → PointOk e ps (L.gather f ts)) × Within e (L.active_of f) ps

  abbrev pub ActivationOk : ℕ → List ℕ → ActivationOf L → Type 0
  ActivationOk e ps (Ends events x) = Guarded e ps x
  ActivationOk e ps (Opens events p f) = PointOk e ps p × FrameOk e ps f

  -- each goal leads to no exit that is not among the items after it
  abbrev pub TableOk : Type 0
  TableOk = (e : ℕ) (g : L.Goal) (rest : List (Item L.Goal)) (w : L.World) (c : L.Clauses) → ActivationOk e (pops rest) (L.activate e g rest w c)
