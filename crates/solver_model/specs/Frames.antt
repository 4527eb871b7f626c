-- What is still to come where a search stands inside nodes.
use Rattle.std.specs.Prelude.{ℕ, ◌<◌, true, false, nat_lt, List, [], ◌∷◌, ◌++◌}
use Rattle.solver_model.specs.Search.{Event, End, Frame, Failed, CutTo, Thrown, Halted, Spent, Tries, Catches, Collects, Language, OutcomeOf, FrameOf, PointOf, ended_by, of_point, found, resume, depth_of, outs_of, answers_of}

-- an end of the whole: what was cut to is exhausted too
abbrev pub top_end : {B : Type 0} → End B → End B
top_end Failed = Failed
top_end (CutTo c) = Failed
top_end (Thrown ball active) = Thrown ball active
top_end (Halted k) = Halted k
top_end Spent = Spent

-- the frames of a path have rising depths, all below e, the innermost first
abbrev pub Falls : {A R F T : Type 0} → ℕ → List (Frame A R F T) → Type 0
Falls e [] = Unit {0}
Falls e (f ∷ fs) = (depth_of f < e) × Falls (depth_of f) fs

-- the frames below a depth
abbrev pub below : {A R F T : Type 0} → ℕ → List (Frame A R F T) → List (Frame A R F T)
below d [] = []
below d (f ∷ fs) = elim (nat_lt (depth_of f) d) [ true ↦ f ∷ fs | false ↦ below d fs ]

module _ (L : Language) where
  -- Resume: what is still given
  abbrev pub value : PointOf L → ℕ → L.Clauses → List (FrameOf L) → OutcomeOf L
  value p left clauses fs = ended_by L top_end (resume L (found L) (of_point L (found L) p left clauses) fs)

  -- events that arose inside: answers go into the innermost gathering
  abbrev pub emit : List (Event L.Answer) → List (FrameOf L) → List (FrameOf L)
  emit events [] = []
  emit events (Tries e alts ∷ fs) = Tries e alts ∷ emit events fs
  emit events (Catches e rec ∷ fs) = Catches e rec ∷ emit events fs
  emit events (Collects e acc f ∷ fs) = Collects e (acc ++ answers_of events) f ∷ fs

  -- the part of them that is heard outside
  abbrev pub heard : List (Event L.Answer) → List (FrameOf L) → List (Event L.Answer)
  heard events [] = events
  heard events (Tries e alts ∷ fs) = heard events fs
  heard events (Catches e rec ∷ fs) = heard events fs
  heard events (Collects e acc f ∷ fs) = outs_of events
