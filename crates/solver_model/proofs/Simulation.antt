-- Two languages whose tables keep a relation give related searches.
use Rattle.std.proofs.Common.{◌≡◌, ℕ, zero, suc, Bool, true, false, List, [], ◌∷◌, ◌++◌, Option, Some, None, refl, ap, ◌∙◌, subst, arith}
use Rattle.std.specs.Prelude.{nat_lt, nat_eq}
use Rattle.solver_model.specs.Tables.{Table, language}
use Rattle.solver_model.specs.Search.{Item, Event, End, State, Outcome, Point, Frame, Activation, Verdict, Language, Call, Cut, Pop, Fail, Out, Ans, Failed, CutTo, Thrown, Halted, Spent, At, Over, Tries, Catches, Collects, Ends, Opens, GoOn, Stop, has, verdict, cut_verdict, cut_to, outs_of, answers_of, Go, Next, ends, prepend, ended_by, walk, decided, after, failing, of_point, attempted, tries, recovered, caught, catching, gathered, collecting, close, opened, step, answering, search_of, found, resume}
use Rattle.solver_model.specs.Frames.{top_end, value}

-- lists of one length, related item by item
abbrev pub RList : {X Y : Type 0} → (X → Y → Type 0) → List X → List Y → Type 0
RList R [] [] = Unit {0}
RList R (x ∷ xs) (y ∷ ys) = R x y × RList R xs ys
RList R [] (y ∷ ys) = ⊥
RList R (x ∷ xs) [] = ⊥

-- the same output, or related answers
abbrev pub REvent : {T T' : Type 0} → (T → T' → Type 0) → Event T → Event T' → Type 0
REvent RT (Out a) (Out b) = a ≡ b
REvent RT (Ans t) (Ans u) = RT t u
REvent RT (Out a) (Ans u) = ⊥
REvent RT (Ans t) (Out b) = ⊥

abbrev pub REnd : {B B' : Type 0} → (B → B' → Type 0) → End B → End B' → Type 0
REnd RB Failed Failed = Unit {0}
REnd RB (CutTo c) (CutTo d) = c ≡ d
REnd RB (Thrown ball active) (Thrown other active') = RB ball other × (active ≡ active')
REnd RB (Halted y) (Halted z) = y ≡ z
REnd RB Spent Spent = Unit {0}
REnd RB _ _ = ⊥

pub RList-append : {X Y : Type 0} (R : X → Y → Type 0) (a : List X) (b : List Y) (c : List X) (d : List Y) → RList R a b → RList R c d → RList R (a ++ c) (b ++ d)
RList-append R [] [] c d h k = k
RList-append R (x ∷ a) (y ∷ b) c d h k = (h.0, RList-append R a b c d h.1 k)
RList-append R [] (y ∷ b) c d h k = absurd h
RList-append R (x ∷ a) [] c d h k = absurd h

-- events with equal answers are equal
pub events_same : {T : Type 0} (a b : List (Event T)) → RList (REvent (λ t u. t ≡ u)) a b → a ≡ b
events_same [] [] h = refl
events_same (Out x ∷ a) (Out y ∷ b) h = ap (λ z. Out z ∷ a) h.0 ∙ ap (λ l. Out y ∷ l) (events_same a b h.1)
events_same (Ans t ∷ a) (Ans u ∷ b) h = ap (λ z. Ans z ∷ a) h.0 ∙ ap (λ l. Ans u ∷ l) (events_same a b h.1)
events_same (Out x ∷ a) (Ans u ∷ b) h = absurd h.0
events_same (Ans t ∷ a) (Out y ∷ b) h = absurd h.0
events_same [] (y ∷ b) h = absurd h
events_same (x ∷ a) [] h = absurd h

-- ends with equal balls are equal
pub end_same : {B : Type 0} (x y : End B) → REnd (λ a b. a ≡ b) x y → x ≡ y
end_same Failed Failed h = refl
end_same (CutTo c) (CutTo d) h = ap CutTo h
end_same (Thrown ball active) (Thrown other active') h = ap (λ b. Thrown b active) h.0 ∙ ap (Thrown other) h.1
end_same (Halted y) (Halted z) h = ap Halted h
end_same Spent Spent h = refl
end_same _ _ h = absurd h

module _ {T T' : Type 0} (RT : T → T' → Type 0) where
  outs-related : (a : List (Event T)) (b : List (Event T')) → RList (REvent RT) a b → RList (REvent RT) (outs_of a) (outs_of b)
  outs-related [] [] h = tt
  outs-related (Out x ∷ a) (Out y ∷ b) h = (h.0, outs-related a b h.1)
  outs-related (Ans t ∷ a) (Ans u ∷ b) h = outs-related a b h.1
  outs-related (Out x ∷ a) (Ans u ∷ b) h = absurd h.0
  outs-related (Ans t ∷ a) (Out y ∷ b) h = absurd h.0
  outs-related [] (y ∷ b) h = absurd h
  outs-related (x ∷ a) [] h = absurd h

  answers-related : (a : List (Event T)) (b : List (Event T')) → RList (REvent RT) a b → RList RT (answers_of a) (answers_of b)
  answers-related [] [] h = tt
  answers-related (Out x ∷ a) (Out y ∷ b) h = answers-related a b h.1
  answers-related (Ans t ∷ a) (Ans u ∷ b) h = (h.0, answers-related a b h.1)
  answers-related (Out x ∷ a) (Ans u ∷ b) h = absurd h.0
  answers-related (Ans t ∷ a) (Out y ∷ b) h = absurd h.0
  answers-related [] (y ∷ b) h = absurd h
  answers-related (x ∷ a) [] h = absurd h

module _ {B B' : Type 0} (RB : B → B' → Type 0) where
  abbrev RVerdict : Verdict B → Verdict B' → Type 0
  RVerdict GoOn GoOn = Unit {0}
  RVerdict (Stop x) (Stop y) = REnd RB x y
  RVerdict _ _ = ⊥

  verdict-related : (e : ℕ) (x : End B) (y : End B') → REnd RB x y → RVerdict (verdict e x) (verdict e y)
  verdict-related e Failed Failed h = tt
  verdict-related e (CutTo c) (CutTo d) h = subst (λ z. RVerdict (verdict e (CutTo c)) (verdict e (CutTo z))) h (same_cut (nat_lt e c) (nat_eq c e))
    where
      same_cut : (b s : Bool) → RVerdict (cut_verdict b s c) (cut_verdict b s c)
      same_cut true s = tt
      same_cut false true = tt
      same_cut false false = refl
  verdict-related e (Thrown ball active) (Thrown other active') h = h
  verdict-related e (Halted y) (Halted z) h = h
  verdict-related e Spent Spent h = tt
  verdict-related e _ _ h = absurd h

  cut_to-related : (d : ℕ) (x : End B) (y : End B') → REnd RB x y → REnd RB (cut_to d x) (cut_to d y)
  cut_to-related d Failed Failed h = refl
  cut_to-related d (CutTo c) (CutTo k) h = subst (λ z. REnd RB (cut_to d (CutTo c)) (cut_to d (CutTo z))) h (same_cut (nat_lt d c))
    where
      same_cut : (b : Bool) → REnd RB (elim b [ true ↦ CutTo d | false ↦ CutTo c ]) (elim b [ true ↦ CutTo d | false ↦ CutTo c ])
      same_cut true = refl
      same_cut false = refl
  cut_to-related d (Thrown ball active) (Thrown other active') h = h
  cut_to-related d (Halted y) (Halted z) h = h
  cut_to-related d Spent Spent h = tt
  cut_to-related d _ _ h = absurd h

  top_end-related : (x : End B) (y : End B') → REnd RB x y → REnd RB (top_end x) (top_end y)
  top_end-related Failed Failed h = tt
  top_end-related (CutTo c) (CutTo d) h = tt
  top_end-related (Thrown ball active) (Thrown other active') h = h
  top_end-related (Halted y) (Halted z) h = h
  top_end-related Spent Spent h = tt
  top_end-related _ _ h = absurd h

module _ {T B C G W A R F T' B' C' G' W' A' R' F' : Type 0} (one : Table G W A R F T B C) (other : Table G' W' A' R' F' T' B' C') (RT : T → T' → Type 0) (RB : B → B' → Type 0) (RC : C → C' → Type 0) (RW : W → W' → Type 0) (RG : W → W' → G → G' → Type 0) (RA : A → A' → Type 0) (RR : R → R' → Type 0) (RF : F → F' → Type 0) where
  abbrev L : Language
  L = language one

  abbrev M : Language
  M = language other

  -- goals are related in the worlds in which they stand
  abbrev pub RItems : W → W' → List (Item G) → List (Item G') → Type 0
  RItems w v [] [] = Unit {0}
  RItems w v (Call g ∷ a) (Call h ∷ b) = RG w v g h × RItems w v a b
  RItems w v (Cut d ∷ a) (Cut k ∷ b) = (d ≡ k) × RItems w v a b
  RItems w v (Pop d ∷ a) (Pop k ∷ b) = (d ≡ k) × RItems w v a b
  RItems w v (Fail ∷ a) (Fail ∷ b) = RItems w v a b
  RItems w v _ _ = ⊥

  abbrev pub RState : State G W → State G' W' → Type 0
  RState s t = (s.depth ≡ t.depth) × RW s.world t.world × RItems s.world t.world s.items t.items

  abbrev pub RPoint : Point G W B → Point G' W' B' → Type 0
  RPoint (At s) (At t) = RState s t
  RPoint (Over x) (Over y) = REnd RB x y
  RPoint (At s) (Over y) = ⊥
  RPoint (Over x) (At t) = ⊥

  abbrev pub RAttempt : Option (State G W × C) → Option (State G' W' × C') → Type 0
  RAttempt None None = Unit {0}
  RAttempt (Some (s, c)) (Some (t, k)) = RState s t × RC c k
  RAttempt None (Some y) = ⊥
  RAttempt (Some x) None = ⊥

  abbrev pub RRecover : Option (Point G W B) → Option (Point G' W' B') → Type 0
  RRecover None None = Unit {0}
  RRecover (Some p) (Some q) = RPoint p q
  RRecover None (Some q) = ⊥
  RRecover (Some p) None = ⊥

  abbrev pub RFrame : Frame A R F T → Frame A' R' F' T' → Type 0
  RFrame (Tries e x) (Tries k y) = (e ≡ k) × RList RA x y
  RFrame (Catches e x) (Catches k y) = (e ≡ k) × RR x y
  RFrame (Collects e ts x) (Collects k us y) = (e ≡ k) × RList RT ts us × RF x y
  RFrame _ _ = ⊥

  abbrev pub RActivation : Activation G W A R F T B → Activation G' W' A' R' F' T' B' → Type 0
  RActivation (Ends a x) (Ends b y) = RList (REvent RT) a b × REnd RB x y
  RActivation (Opens a p f) (Opens b q g) = RList (REvent RT) a b × RPoint p q × RFrame f g
  RActivation (Ends a x) (Opens b q g) = ⊥
  RActivation (Opens a p f) (Ends b y) = ⊥

  pub record ROutcome (r : Outcome T B C) (q : Outcome T' B' C') : Type 0 where
    pub events : RList (REvent RT) r.events q.events
    pub left : r.left ≡ q.left
    pub clauses : RC r.clauses q.clauses
    pub ended : REnd RB r.ended q.ended

  -- what is asked of the two tables
  pub record Keeps : Type 0 where
    pub answer : (w : W) (v : W') → RW w v → RT (one.answer_of w) (other.answer_of v)
    pub attempt : (a : A) (b : A') (c : C) (k : C') → RA a b → RC c k → RAttempt (one.attempt a c) (other.attempt b k)
    pub recover : (r : R) (q : R') (x : B) (y : B') → RR r q → RB x y → RRecover (one.recover r x) (other.recover q y)
    pub gather : (f : F) (g : F') (ts : List T) (us : List T') → RF f g → RList RT ts us → RPoint (one.gather f ts) (other.gather g us)
    pub active : (f : F) (g : F') → RF f g → one.active_of f ≡ other.active_of g
    pub activate : (e : ℕ) (g : G) (h : G') (a : List (Item G)) (b : List (Item G')) (w : W) (v : W') (c : C) (k : C') → RC c k → RW w v → RG w v g h → RItems w v a b → RActivation (one.activate e g a w c) (other.activate e h b v k)

  abbrev pub RNext : Next L → Next M → Type 0
  RNext next next' = (l m : ℕ) (c : C) (k : C') → l ≡ m → RC c k → ROutcome (next l c) (next' m k)

  abbrev pub RGo : Go L → Go M → Type 0
  RGo go ho = (s : State G W) (t : State G' W') (l m : ℕ) (c : C) (k : C') → l ≡ m → RState s t → RC c k → ROutcome (go s l c) (ho t m k)

  ends-related : (a : List (Event T)) (b : List (Event T')) (x : End B) (y : End B') (l m : ℕ) (c : C) (k : C') → RList (REvent RT) a b → REnd RB x y → l ≡ m → RC c k → ROutcome (ends L a x l c) (ends M b y m k)
  ends-related a b x y l m c k h i j n = record { events = h; left = j; clauses = n; ended = i }

  prepend-related : (a : List (Event T)) (b : List (Event T')) (r : Outcome T B C) (q : Outcome T' B' C') → RList (REvent RT) a b → ROutcome r q → ROutcome (prepend L a r) (prepend M b q)
  prepend-related a b r q h i = record { events = RList-append (REvent RT) a b r.events q.events h i.events; left = i.left; clauses = i.clauses; ended = i.ended }

  decided-related : (v : Verdict B) (u : Verdict B') (r : Outcome T B C) (q : Outcome T' B' C') (next : Next L) (next' : Next M) → RVerdict RB v u → ROutcome r q → RNext next next' → ROutcome (decided L v r next) (decided M u q next')
  decided-related GoOn GoOn r q next next' h i n = prepend-related r.events q.events (next r.left r.clauses) (next' q.left q.clauses) i.events (n r.left q.left r.clauses q.clauses i.left i.clauses)
  decided-related (Stop x) (Stop y) r q next next' h i n = record { events = i.events; left = i.left; clauses = i.clauses; ended = h }
  decided-related GoOn (Stop y) r q next next' h i n = absurd h
  decided-related (Stop x) GoOn r q next next' h i n = absurd h

  after-related : (e : ℕ) (r : Outcome T B C) (q : Outcome T' B' C') (next : Next L) (next' : Next M) → ROutcome r q → RNext next next' → ROutcome (after L e r next) (after M e q next')
  after-related e r q next next' i n = decided-related (verdict e r.ended) (verdict e q.ended) r q next next' (verdict-related RB e r.ended q.ended i.ended) i n

  failing-related : RNext (failing L) (failing M)
  failing-related l m c k h i = record { events = tt; left = h; clauses = i; ended = tt }

  module _ (keeps : Keeps) where
    module _ (go : Go L) (ho : Go M) (same : RGo go ho) where
      of_point-related : (p : Point G W B) (q : Point G' W' B') → RPoint p q → RNext (of_point L go p) (of_point M ho q)
      of_point-related (At s) (At t) h l m c k i j = same s t l m c k i h j
      of_point-related (Over x) (Over y) h l m c k i j = record { events = tt; left = i; clauses = j; ended = h }
      of_point-related (At s) (Over y) h l m c k i j = absurd h
      of_point-related (Over x) (At t) h l m c k i j = absurd h

      attempted-related : (e : ℕ) (o : Option (State G W × C)) (u : Option (State G' W' × C')) (next : Next L) (next' : Next M) → RAttempt o u → RNext next next' → RNext (attempted L go e o next) (attempted M ho e u next')
      attempted-related e None None next next' h n l m c k i j = n l m c k i j
      attempted-related e (Some (s, d)) (Some (t, u)) next next' h n l m c k i j = after-related e (go s l d) (ho t m u) next next' (same s t l m d u i h.0 h.1) n
      attempted-related e None (Some y) next next' h n l m c k i j = absurd h
      attempted-related e (Some x) None next next' h n l m c k i j = absurd h

      tries-related : (e : ℕ) (x : List A) (y : List A') → RList RA x y → RNext (tries L go e x) (tries M ho e y)
      tries-related e [] [] h l m c k i j = failing-related l m c k i j
      tries-related e (a ∷ x) (b ∷ y) h l m c k i j =
          attempted-related e (one.attempt a c) (other.attempt b k) (tries L go e x) (tries M ho e y) (keeps.attempt a b c k h.0 j) (tries-related e x y h.1) l m c k i j
      tries-related e [] (b ∷ y) h l m c k i j = absurd h
      tries-related e (a ∷ x) [] h l m c k i j = absurd h

      recovered-related : (e : ℕ) (o : Option (Point G W B)) (u : Option (Point G' W' B')) (r : Outcome T B C) (q : Outcome T' B' C') → RRecover o u → ROutcome r q → ROutcome (recovered L go e o r) (recovered M ho e u q)
      recovered-related e None None r q h i = i
      recovered-related e (Some x) (Some y) r q h i =
          prepend-related r.events q.events _ _ i.events (after-related e (of_point L go x r.left r.clauses) (of_point M ho y q.left q.clauses) (failing L) (failing M) (of_point-related x y h r.left q.left r.clauses q.clauses i.left i.clauses) failing-related)
      recovered-related e None (Some y) r q h i = absurd h
      recovered-related e (Some x) None r q h i = absurd h

      caught-related : (e : ℕ) (x : R) (y : R') (ball : B) (ball' : B') (b : Bool) (r : Outcome T B C) (q : Outcome T' B' C') → RR x y → RB ball ball' → ROutcome r q → ROutcome (caught L go e x ball b r) (caught M ho e y ball' b q)
      caught-related e x y ball ball' true r q h j i = recovered-related e (one.recover x ball) (other.recover y ball') r q (keeps.recover x y ball ball' h j) i
      caught-related e x y ball ball' false r q h j i = i

      catching-related : (e : ℕ) (x : R) (y : R') (z : End B) (z' : End B') (r : Outcome T B C) (q : Outcome T' B' C') → RR x y → REnd RB z z' → ROutcome r q → ROutcome (catching L go e x z r) (catching M ho e y z' q)
      catching-related e x y (Thrown ball active) (Thrown ball' active') r q h j i =
          subst (λ act. ROutcome (catching L go e x (Thrown ball active) r) (catching M ho e y (Thrown ball' act) q)) j.1 (caught-related e x y ball ball' (has active e) r q h j.0 i)
      catching-related e x y Failed Failed r q h j i = after-related e r q (failing L) (failing M) i failing-related
      catching-related e x y (CutTo c) (CutTo d) r q h j i = after-related e r q (failing L) (failing M) i failing-related
      catching-related e x y (Halted a) (Halted b) r q h j i = after-related e r q (failing L) (failing M) i failing-related
      catching-related e x y Spent Spent r q h j i = after-related e r q (failing L) (failing M) i failing-related
      catching-related e x y _ _ r q h j i = absurd j

      gathered-related : (e : ℕ) (ts : List T) (us : List T') (x : F) (y : F') (r : Outcome T B C) (q : Outcome T' B' C') → RList RT ts us → RF x y → ROutcome r q → ROutcome (gathered L go e ts x r) (gathered M ho e us y q)
      gathered-related e ts us x y r q h j i =
          let given = RList-append RT ts us (answers_of r.events) (answers_of q.events) h (answers-related RT r.events q.events i.events) in
          let p : Point G W B = one.gather x (ts ++ answers_of r.events) in
          let p' : Point G' W' B' = other.gather y (us ++ answers_of q.events) in
          prepend-related (outs_of r.events) (outs_of q.events) _ _ (outs-related RT r.events q.events i.events)
          (after-related e (of_point L go p r.left r.clauses) (of_point M ho p' q.left q.clauses) (failing L) (failing M) (of_point-related p p' (keeps.gather x y (ts ++ answers_of r.events) (us ++ answers_of q.events) j given) r.left q.left r.clauses q.clauses i.left i.clauses) failing-related)

      collecting-related : (e : ℕ) (ts : List T) (us : List T') (x : F) (y : F') (z : End B) (z' : End B') (r : Outcome T B C) (q : Outcome T' B' C') → RList RT ts us → RF x y → REnd RB z z' → ROutcome r q → ROutcome (collecting L go e ts x z r) (collecting M ho e us y z' q)
      collecting-related e ts us x y (Thrown ball active) (Thrown ball' active') r q h j n i = record { events = outs-related RT r.events q.events i.events; left = i.left; clauses = i.clauses; ended = (n.0, keeps.active x y j) }
      collecting-related e ts us x y Failed Failed r q h j n i = gathered-related e ts us x y r q h j i
      collecting-related e ts us x y (CutTo c) (CutTo d) r q h j n i = gathered-related e ts us x y r q h j i
      collecting-related e ts us x y (Halted a) (Halted b) r q h j n i = record { events = outs-related RT r.events q.events i.events; left = i.left; clauses = i.clauses; ended = n }
      collecting-related e ts us x y Spent Spent r q h j n i = record { events = outs-related RT r.events q.events i.events; left = i.left; clauses = i.clauses; ended = tt }
      collecting-related e ts us x y _ _ r q h j n i = absurd n

      close-related : (f : Frame A R F T) (g : Frame A' R' F' T') (r : Outcome T B C) (q : Outcome T' B' C') → RFrame f g → ROutcome r q → ROutcome (close L go f r) (close M ho g q)
      close-related (Tries e x) (Tries d y) r q h i =
          subst (λ k. ROutcome (close L go (Tries e x) r) (close M ho (Tries k y) q)) h.0 (after-related e r q (tries L go e x) (tries M ho e y) i (tries-related e x y h.1))
      close-related (Catches e x) (Catches d y) r q h i =
          subst (λ k. ROutcome (close L go (Catches e x) r) (close M ho (Catches k y) q)) h.0 (catching-related e x y r.ended q.ended r q h.1 i.ended i)
      close-related (Collects e ts x) (Collects d us y) r q h i =
          subst (λ k. ROutcome (close L go (Collects e ts x) r) (close M ho (Collects k us y) q)) h.0 (collecting-related e ts us x y r.ended q.ended r q h.1 h.2 i.ended i)
      close-related _ _ r q h i = absurd h

      opened-related : (a : Activation G W A R F T B) (b : Activation G' W' A' R' F' T' B') → RActivation a b → RNext (λ l c. opened L go l c a) (λ m k. opened M ho m k b)
      opened-related (Ends a x) (Ends b y) h l m c k i j = record { events = h.0; left = i; clauses = j; ended = h.1 }
      opened-related (Opens a p f) (Opens b q g) h l m c k i j =
          prepend-related a b _ _ h.0 (close-related f g (of_point L go p l c) (of_point M ho q m k) h.2 (of_point-related p q h.1 l m c k i j))
      opened-related (Ends a x) (Opens b q g) h l m c k i j = absurd h
      opened-related (Opens a p f) (Ends b y) h l m c k i j = absurd h

      step-related : (e : ℕ) (w : W) (v : W') (l m : ℕ) (c : C) (k : C') (g : G) (h : G') (a : List (Item G)) (b : List (Item G')) → l ≡ m → RC c k → RW w v → RG w v g h → RItems w v a b → ROutcome (step L go e w l c g a) (step M ho e v m k h b)
      step-related e w v zero zero c k g h a b i j rw1 rg ri = record { events = tt; left = refl; clauses = j; ended = tt }
      step-related e w v (suc l) (suc m) c k g h a b i j rw1 rg ri =
          let less : l ≡ m = omega (arith, i) in
          opened-related (one.activate e g a w c) (other.activate e h b v k) (keeps.activate e g h a b w v c k j rw1 rg ri) l m c k less j
      step-related e w v zero (suc m) c k g h a b i j rw1 rg ri = absurd (omega (arith, i))
      step-related e w v (suc l) zero c k g h a b i j rw1 rg ri = absurd (omega (arith, i))

      resume-related : (fs : List (Frame A R F T)) (gs : List (Frame A' R' F' T')) (r : Outcome T B C) (q : Outcome T' B' C') → RList RFrame fs gs → ROutcome r q → ROutcome (resume L go r fs) (resume M ho q gs)
      resume-related [] [] r q h i = i
      resume-related (f ∷ fs) (g ∷ gs) r q h i = resume-related fs gs (close L go f r) (close M ho g q) h.1 (close-related f g r q h.0 i)
      resume-related [] (g ∷ gs) r q h i = absurd h
      resume-related (f ∷ fs) [] r q h i = absurd h

    walk-related : (w : W) (v : W') (call : G → List (Item G) → Outcome T B C) (call' : G' → List (Item G') → Outcome T' B' C') (answer fail : Outcome T B C) (answer' fail' : Outcome T' B' C') (a : List (Item G)) (b : List (Item G')) → ((g : G) (h : G') (x : List (Item G)) (y : List (Item G')) → RG w v g h → RItems w v x y → ROutcome (call g x) (call' h y)) → ROutcome answer answer' → ROutcome fail fail' → RItems w v a b → ROutcome (walk L call answer fail a) (walk M call' answer' fail' b)
    walk-related w v call call' answer fail answer' fail' [] [] h i j r = i
    walk-related w v call call' answer fail answer' fail' (Call g ∷ a) (Call k ∷ b) h i j r = h g k a b r.0 r.1
    walk-related w v call call' answer fail answer' fail' (Cut d ∷ a) (Cut e ∷ b) h i j r =
        let inner = walk-related w v call call' answer fail answer' fail' a b h i j r.1 in
        subst (λ k. ROutcome (ended_by L (cut_to d) (walk L call answer fail a)) (ended_by M (cut_to k) (walk M call' answer' fail' b))) r.0
        (record { events = inner.events; left = inner.left; clauses = inner.clauses; ended = cut_to-related RB d (walk L call answer fail a).ended (walk M call' answer' fail' b).ended inner.ended })
    walk-related w v call call' answer fail answer' fail' (Pop d ∷ a) (Pop e ∷ b) h i j r = walk-related w v call call' answer fail answer' fail' a b h i j r.1
    walk-related w v call call' answer fail answer' fail' (Fail ∷ a) (Fail ∷ b) h i j r = j
    walk-related w v call call' answer fail answer' fail' _ _ h i j r = absurd r

    answering-related : (w : W) (v : W') → RW w v → RNext (answering L w) (answering M v)
    answering-related w v h l m c k i j = record { events = (keeps.answer w v h, tt); left = i; clauses = j; ended = tt }

    pub search-related : (n : ℕ) → RGo (search_of L n) (search_of M n)
    search-related zero s t l m c k i r j =
        walk-related s.world t.world (λ g rest. ends L [] Spent l c) (λ g rest. ends M [] Spent m k) (answering L s.world l c) (failing L l c) (answering M t.world m k) (failing M m k) s.items t.items
        (λ _ _ _ _ _ _. record { events = tt; left = i; clauses = j; ended = tt })
        (answering-related s.world t.world r.1 l m c k i j)
        (failing-related l m c k i j)
        r.2
    search-related (suc n) s t l m c k i r j =
        walk-related s.world t.world (step L (search_of L n) s.depth s.world l c) (step M (search_of M n) t.depth t.world m k) (answering L s.world l c) (failing L l c) (answering M t.world m k) (failing M m k) s.items t.items
        (λ g h x y rg ri. subst (λ e. ROutcome (step L (search_of L n) s.depth s.world l c g x) (step M (search_of M n) e t.world m k h y)) r.0 (step-related (search_of L n) (search_of M n) (search-related n) s.depth s.world t.world l m c k g h x y i j r.1 rg ri))
        (answering-related s.world t.world r.1 l m c k i j)
        (failing-related l m c k i j)
        r.2

    -- related states give related outcomes
    pub found-related : RGo (found L) (found M)
    found-related s t l m c k i r j = subst (λ n. ROutcome (search_of L l s l c) (search_of M n t m k)) i (search-related l s t l m c k i r j)

    -- and so do related points inside related frames
    pub value-related : (p : Point G W B) (q : Point G' W' B') (l m : ℕ) (c : C) (k : C') (fs : List (Frame A R F T)) (gs : List (Frame A' R' F' T')) → RPoint p q → l ≡ m → RC c k → RList RFrame fs gs → ROutcome (value L p l c fs) (value M q m k gs)
    value-related p q l m c k fs gs h i j f =
        let inside = resume-related (found L) (found M) found-related fs gs (of_point L (found L) p l c) (of_point M (found M) q m k) f (of_point-related (found L) (found M) found-related p q h l m c k i j) in
        record { events = inside.events; left = inside.left; clauses = inside.clauses; ended = top_end-related RB (resume L (found L) (of_point L (found L) p l c) fs).ended (resume M (found M) (of_point M (found M) q m k) gs).ended inside.ended }
