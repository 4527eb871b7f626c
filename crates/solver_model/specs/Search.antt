-- The search for the answers of goals (ISO/IEC 13211-1, 7.7 and 7.8), over a table of goals that it does not look into.
use Rattle.std.specs.Prelude.{ℕ, ℤ, zero, suc, Bool, true, false, ◌||◌, nat_lt, nat_eq, List, [], ◌∷◌, ◌++◌, Option, Some, None}

-- what a search has before it: goals, the cut to a depth, the exit of the catch of a depth, and failure
pub data Item (G : Type 0) : Type 0 where
  Call : G → Item G
  Cut : ℕ → Item G
  Pop : ℕ → Item G
  Fail : Item G

-- what a search shows, in order: bytes that are written, and answers
pub data Event (T : Type 0) : Type 0 where
  Out : List ℕ → Event T
  Ans : T → Event T

-- How a search ends. A ball comes with the depths of the catches that were active for it.
pub data End (B : Type 0) : Type 0 where
  Failed : End B
  CutTo : ℕ → End B
  Thrown : B → List ℕ → End B
  Halted : ℤ → End B
  Spent : End B

-- a search that is to be made: its items, at which depth, and what else its goals know of
pub record State (G W : Type 0) : Type 0 where
  pub depth : ℕ
  pub items : List (Item G)
  pub world : W

-- what a search gives
pub record Outcome (T B C : Type 0) : Type 0 where
  pub events : List (Event T)
  pub left : ℕ
  pub clauses : C
  pub ended : End B

-- a state of a machine: a search that is to be made, or an end that is to be handed outward
pub data Point (G W B : Type 0) : Type 0 where
  At : State G W → Point G W B
  Over : End B → Point G W B

-- a node whose alternative is being searched, with what is untried: further alternatives, a recovery, or what gathers the answers
pub data Frame (A R F T : Type 0) : Type 0 where
  Tries : ℕ → List A → Frame A R F T
  Catches : ℕ → R → Frame A R F T
  Collects : ℕ → List T → F → Frame A R F T

-- what the activation of a goal gives: an end, or a node and the search that is made first in it
pub data Activation (G W A R F T B : Type 0) : Type 0 where
  Ends : List (Event T) → End B → Activation G W A R F T B
  Opens : List (Event T) → Point G W B → Frame A R F T → Activation G W A R F T B

abbrev pub depth_of : {A R F T : Type 0} → Frame A R F T → ℕ
depth_of (Tries e alts) = e
depth_of (Catches e r) = e
depth_of (Collects e acc f) = e

-- the exits that stand among the items
abbrev pub pops : {G : Type 0} → List (Item G) → List ℕ
pops [] = []
pops (Call g ∷ rest) = pops rest
pops (Cut d ∷ rest) = pops rest
pops (Pop d ∷ rest) = d ∷ pops rest
pops (Fail ∷ rest) = pops rest

abbrev pub answers_of : {T : Type 0} → List (Event T) → List T
answers_of [] = []
answers_of (Out bytes ∷ events) = answers_of events
answers_of (Ans t ∷ events) = t ∷ answers_of events

abbrev pub outs_of : {T : Type 0} → List (Event T) → List (Event T)
outs_of [] = []
outs_of (Out bytes ∷ events) = Out bytes ∷ outs_of events
outs_of (Ans t ∷ events) = outs_of events

abbrev pub has : List ℕ → ℕ → Bool
has [] e = false
has (x ∷ xs) e = nat_eq x e || has xs e

-- what a node makes of the end of one of its alternatives: go on with the next, or end
pub data Verdict (B : Type 0) : Type 0 where
  GoOn : Verdict B
  Stop : End B → Verdict B

abbrev pub cut_verdict : {B : Type 0} → Bool → Bool → ℕ → Verdict B
cut_verdict true same c = GoOn
cut_verdict false true c = Stop Failed
cut_verdict false false c = Stop (CutTo c)

abbrev pub verdict : {B : Type 0} → ℕ → End B → Verdict B
verdict e Failed = GoOn
verdict e (CutTo c) = cut_verdict (nat_lt e c) (nat_eq c e) c
verdict e (Thrown ball active) = Stop (Thrown ball active)
verdict e (Halted k) = Stop (Halted k)
verdict e Spent = Stop Spent

-- what the cut to d makes of the end of what follows it
abbrev pub cut_to : {B : Type 0} → ℕ → End B → End B
cut_to d Failed = CutTo d
cut_to d (CutTo c) = elim (nat_lt d c) [ true ↦ CutTo d | false ↦ CutTo c ]
cut_to d (Thrown ball active) = Thrown ball active
cut_to d (Halted k) = Halted k
cut_to d Spent = Spent

-- A language: what its goals are, and the table of what each of them does.
pub record Language : Type 1 where
  pub Goal : Type 0
  -- what a state has beside its depth and its items
  pub World : Type 0
  pub Alternative : Type 0
  pub Recovery : Type 0
  pub Gathering : Type 0
  pub Answer : Type 0
  pub Ball : Type 0
  pub Clauses : Type 0
  -- where an alternative leads, with the clauses as they then stand, or None where it is none
  pub attempt : Alternative → Clauses → Option (State Goal World × Clauses)
  -- where a recovery leads with a ball, or None where it passes the ball on
  pub recover : Recovery → Ball → Option (Point Goal World Ball)
  -- where the answers of a nested search lead
  pub gather : Gathering → List Answer → Point Goal World Ball
  -- the exits among the items after the goal that gathers
  pub active_of : Gathering → List ℕ
  pub answer_of : World → Answer
  -- the depth to which a cut in a goal cuts
  pub cut : Goal → ℕ
  -- the table: what a goal does that is activated at a depth, with the items after it
  pub activate : ℕ → Goal → List (Item Goal) → World → Clauses → Activation Goal World Alternative Recovery Gathering Answer Ball

module _ (L : Language) where
  abbrev pub StateOf : Type 0
  StateOf = State L.Goal L.World

  abbrev pub OutcomeOf : Type 0
  OutcomeOf = Outcome L.Answer L.Ball L.Clauses

  abbrev pub FrameOf : Type 0
  FrameOf = Frame L.Alternative L.Recovery L.Gathering L.Answer

  abbrev pub PointOf : Type 0
  PointOf = Point L.Goal L.World L.Ball

  abbrev pub ActivationOf : Type 0
  ActivationOf = Activation L.Goal L.World L.Alternative L.Recovery L.Gathering L.Answer L.Ball

  -- a search with its bound left out
  abbrev pub Go : Type 0
  Go = StateOf → ℕ → L.Clauses → OutcomeOf

  -- what is given with the steps left and the clauses then
  abbrev pub Next : Type 0
  Next = ℕ → L.Clauses → OutcomeOf

  abbrev pub ends : List (Event L.Answer) → End L.Ball → ℕ → L.Clauses → OutcomeOf
  ends events e left clauses = record { events = events; left = left; clauses = clauses; ended = e }

  abbrev pub prepend : List (Event L.Answer) → OutcomeOf → OutcomeOf
  prepend events r = record { events = events ++ r.events; left = r.left; clauses = r.clauses; ended = r.ended }

  abbrev pub ended_by : (End L.Ball → End L.Ball) → OutcomeOf → OutcomeOf
  ended_by f r = record { events = r.events; left = r.left; clauses = r.clauses; ended = f r.ended }

  -- goes through the items up to the first goal
  abbrev pub walk : (L.Goal → List (Item L.Goal) → OutcomeOf) → OutcomeOf → OutcomeOf → List (Item L.Goal) → OutcomeOf
  walk call answer fail [] = answer
  walk call answer fail (Call g ∷ rest) = call g rest
  walk call answer fail (Cut d ∷ rest) = ended_by (cut_to d) (walk call answer fail rest)
  walk call answer fail (Pop d ∷ rest) = walk call answer fail rest
  walk call answer fail (Fail ∷ rest) = fail

  -- after an alternative of a node, with what follows where it failed
  abbrev pub decided : Verdict L.Ball → OutcomeOf → Next → OutcomeOf
  decided GoOn r next = prepend r.events (next r.left r.clauses)
  decided (Stop e) r next = ends r.events e r.left r.clauses

  -- after an alternative of the node of depth e
  abbrev pub after : ℕ → OutcomeOf → Next → OutcomeOf
  after e r next = decided (verdict e r.ended) r next

  abbrev pub failing : Next
  failing left clauses = ends [] Failed left clauses

  abbrev pub of_point : Go → PointOf → Next
  of_point go (At s) left clauses = go s left clauses
  of_point go (Over e) left clauses = ends [] e left clauses

  abbrev pub attempted : Go → ℕ → Option (StateOf × L.Clauses) → Next → Next
  attempted go e None next left clauses = next left clauses
  attempted go e (Some (s, c)) next left clauses = after e (go s left c) next

  -- the alternatives, in order
  abbrev pub tries : Go → ℕ → List L.Alternative → Next
  tries go e [] left clauses = failing left clauses
  tries go e (a ∷ alts) left clauses = attempted go e (L.attempt a clauses) (tries go e alts) left clauses

  -- a recovery that takes the ball is the one further alternative of its node
  abbrev pub recovered : Go → ℕ → Option PointOf → OutcomeOf → OutcomeOf
  recovered go e None r = r
  recovered go e (Some p) r = prepend r.events (after e (of_point go p r.left r.clauses) failing)

  -- a catch takes only balls for which it is active
  abbrev pub caught : Go → ℕ → L.Recovery → L.Ball → Bool → OutcomeOf → OutcomeOf
  caught go e rec ball true r = recovered go e (L.recover rec ball) r
  caught go e rec ball false r = r

  abbrev pub catching : Go → ℕ → L.Recovery → End L.Ball → OutcomeOf → OutcomeOf
  catching go e rec (Thrown ball active) r = caught go e rec ball (has active e) r
  catching go e rec Failed r = after e r failing
  catching go e rec (CutTo c) r = after e r failing
  catching go e rec (Halted k) r = after e r failing
  catching go e rec Spent r = after e r failing

  -- a nested search that was exhausted: its output, and then where its answers lead
  abbrev pub gathered : Go → ℕ → List L.Answer → L.Gathering → OutcomeOf → OutcomeOf
  gathered go e acc f r =
      prepend (outs_of r.events) (after e (of_point go (L.gather f (acc ++ answers_of r.events)) r.left r.clauses) failing)

  abbrev pub collecting : Go → ℕ → List L.Answer → L.Gathering → End L.Ball → OutcomeOf → OutcomeOf
  collecting go e acc f (Thrown ball active) r = ends (outs_of r.events) (Thrown ball (L.active_of f)) r.left r.clauses
  collecting go e acc f Failed r = gathered go e acc f r
  collecting go e acc f (CutTo c) r = gathered go e acc f r
  collecting go e acc f (Halted k) r = ends (outs_of r.events) (Halted k) r.left r.clauses
  collecting go e acc f Spent r = ends (outs_of r.events) Spent r.left r.clauses

  -- what a node gives where the search in it gave r, with what is untried
  abbrev pub close : Go → FrameOf → OutcomeOf → OutcomeOf
  close go (Tries e alts) r = after e r (tries go e alts)
  close go (Catches e rec) r = catching go e rec r.ended r
  close go (Collects e acc f) r = collecting go e acc f r.ended r

  abbrev pub opened : Go → ℕ → L.Clauses → ActivationOf → OutcomeOf
  opened go left clauses (Ends events e) = ends events e left clauses
  opened go left clauses (Opens events p frame) = prepend events (close go frame (of_point go p left clauses))

  -- a goal that stands first, with the steps left
  abbrev pub step : Go → ℕ → L.World → ℕ → L.Clauses → L.Goal → List (Item L.Goal) → OutcomeOf
  step go e world zero clauses g rest = ends [] Spent 0 clauses
  step go e world (suc left) clauses g rest = opened go left clauses (L.activate e g rest world clauses)

  abbrev pub answering : L.World → Next
  answering world left clauses = ends (Ans (L.answer_of world) ∷ []) Failed left clauses

  -- a search that takes at most n steps: no step is left where n is 0
  abbrev pub search_of : ℕ → Go
  search_of zero s left clauses =
      walk (λ g rest. ends [] Spent left clauses) (answering s.world left clauses) (failing left clauses) s.items
  search_of (suc n) s left clauses =
      walk (step (search_of n) s.depth s.world left clauses) (answering s.world left clauses) (failing left clauses) s.items

  -- what a search gives with the steps left, which does not depend on a bound
  abbrev pub found : Go
  found s left clauses = search_of left s left clauses

  -- the search's result handed outward through the frames
  abbrev pub resume : Go → OutcomeOf → List FrameOf → OutcomeOf
  resume go r [] = r
  resume go r (f ∷ fs) = resume go (close go f r) fs
