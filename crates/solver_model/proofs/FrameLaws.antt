-- What a move of a machine does to what is still to come.
use Rattle.std.proofs.Common.{◌≡◌, ℕ, suc, ◌<◌, ◌≤◌, Bool, true, false, List, [], ◌∷◌, ◌++◌, Option, Some, None, refl, sym, ap, ◌∙◌, subst, arith, append_assoc}
use Rattle.std.specs.Prelude.{nat_lt, nat_eq}
use Rattle.std.proofs.lemmas.Bool.{lt-ltb, ltb-true, ltb-false, le-ltb, eqb-true}
use Rattle.solver_model.specs.Search.{Item, Event, End, Frame, Verdict, Language, Call, Cut, Pop, Fail, Out, Ans, Failed, CutTo, Thrown, Halted, Spent, At, Over, Tries, Catches, Collects, Ends, Opens, GoOn, Stop, has, verdict, cut_verdict, cut_to, depth_of, outs_of, answers_of, StateOf, OutcomeOf, FrameOf, PointOf, ActivationOf, Go, Next, ends, prepend, ended_by, walk, decided, after, failing, of_point, attempted, tries, recovered, caught, catching, gathered, collecting, close, opened, step, answering, found, resume}
use Rattle.solver_model.specs.Frames.{top_end, Falls, below, value, emit, heard}
use Rattle.solver_model.proofs.SearchLaws.{found-call}

pub append-nil : {A : Type 0} (xs : List A) → xs ++ [] ≡ xs
append-nil [] = refl
append-nil (x ∷ xs) = ap (λ l. x ∷ l) (append-nil xs)

pub outs_of-append : {T : Type 0} (a b : List (Event T)) → outs_of (a ++ b) ≡ outs_of a ++ outs_of b
outs_of-append [] b = refl
outs_of-append (Out x ∷ a) b = ap (λ l. Out x ∷ l) (outs_of-append a b)
outs_of-append (Ans t ∷ a) b = outs_of-append a b

answers_of-append : {T : Type 0} (a b : List (Event T)) → answers_of (a ++ b) ≡ answers_of a ++ answers_of b
answers_of-append [] b = refl
answers_of-append (Out x ∷ a) b = answers_of-append a b
answers_of-append (Ans t ∷ a) b = ap (λ l. t ∷ l) (answers_of-append a b)

outs_of-outs : {T : Type 0} (a : List (Event T)) → outs_of (outs_of a) ≡ outs_of a
outs_of-outs [] = refl
outs_of-outs (Out x ∷ a) = ap (λ l. Out x ∷ l) (outs_of-outs a)
outs_of-outs (Ans t ∷ a) = outs_of-outs a

answers_of-outs : {T : Type 0} (a : List (Event T)) → answers_of (outs_of a) ≡ []
answers_of-outs [] = refl
answers_of-outs (Out x ∷ a) = answers_of-outs a
answers_of-outs (Ans t ∷ a) = answers_of-outs a

module _ (L : Language) where
  pub prepend-prepend : (a b : List (Event L.Answer)) (r : OutcomeOf L) → prepend L (a ++ b) r ≡ prepend L a (prepend L b r)
  prepend-prepend a b r = ap (λ l. ends L l r.ended r.left r.clauses) (append_assoc a b r.events)

  decided-prepend : (a : List (Event L.Answer)) (v : Verdict L.Ball) (r : OutcomeOf L) (next : Next L) → decided L v (prepend L a r) next ≡ prepend L a (decided L v r next)
  decided-prepend a GoOn r next = prepend-prepend a r.events (next r.left r.clauses)
  decided-prepend a (Stop e) r next = refl

  after-prepend : (a : List (Event L.Answer)) (e : ℕ) (r : OutcomeOf L) (next : Next L) → after L e (prepend L a r) next ≡ prepend L a (after L e r next)
  after-prepend a e r next = decided-prepend a (verdict e r.ended) r next

  recovered-prepend : (a : List (Event L.Answer)) (go : Go L) (e : ℕ) (o : Option (PointOf L)) (r : OutcomeOf L) → recovered L go e o (prepend L a r) ≡ prepend L a (recovered L go e o r)
  recovered-prepend a go e None r = refl
  recovered-prepend a go e (Some p) r = prepend-prepend a r.events (after L e (of_point L go p r.left r.clauses) (failing L))

  caught-prepend : (a : List (Event L.Answer)) (go : Go L) (e : ℕ) (rec : L.Recovery) (ball : L.Ball) (b : Bool) (r : OutcomeOf L) → caught L go e rec ball b (prepend L a r) ≡ prepend L a (caught L go e rec ball b r)
  caught-prepend a go e rec ball true r = recovered-prepend a go e (L.recover rec ball) r
  caught-prepend a go e rec ball false r = refl

  catching-prepend : (a : List (Event L.Answer)) (go : Go L) (e : ℕ) (rec : L.Recovery) (end : End L.Ball) (r : OutcomeOf L) → catching L go e rec end (prepend L a r) ≡ prepend L a (catching L go e rec end r)
  catching-prepend a go e rec (Thrown ball active) r = caught-prepend a go e rec ball (has active e) r
  catching-prepend a go e rec Failed r = after-prepend a e r (failing L)
  catching-prepend a go e rec (CutTo c) r = after-prepend a e r (failing L)
  catching-prepend a go e rec (Halted k) r = after-prepend a e r (failing L)
  catching-prepend a go e rec Spent r = after-prepend a e r (failing L)

  gathered-prepend : (a : List (Event L.Answer)) (go : Go L) (e : ℕ) (acc : List L.Answer) (f : L.Gathering) (r : OutcomeOf L) → gathered L go e acc f (prepend L a r) ≡ prepend L (outs_of a) (gathered L go e (acc ++ answers_of a) f r)
  gathered-prepend a go e acc f r =
      let tail : List (Event L.Answer) → List L.Answer → OutcomeOf L = λ o t. prepend L o (after L e (of_point L go (L.gather f t) r.left r.clauses) (failing L)) in
      let one : acc ++ answers_of (a ++ r.events) ≡ (acc ++ answers_of a) ++ answers_of r.events = ap (λ l. acc ++ l) (answers_of-append a r.events) ∙ sym (append_assoc acc (answers_of a) (answers_of r.events)) in
      ap (λ o. tail o (acc ++ answers_of (a ++ r.events))) (outs_of-append a r.events)
      ∙ ap (tail (outs_of a ++ outs_of r.events)) one
      ∙ prepend-prepend (outs_of a) (outs_of r.events) _

  collecting-prepend : (a : List (Event L.Answer)) (go : Go L) (e : ℕ) (acc : List L.Answer) (f : L.Gathering) (end : End L.Ball) (r : OutcomeOf L) → collecting L go e acc f end (prepend L a r) ≡ prepend L (outs_of a) (collecting L go e (acc ++ answers_of a) f end r)
  collecting-prepend a go e acc f (Thrown ball active) r = ap (λ l. ends L l (Thrown ball (L.active_of f)) r.left r.clauses) (outs_of-append a r.events)
  collecting-prepend a go e acc f Failed r = gathered-prepend a go e acc f r
  collecting-prepend a go e acc f (CutTo c) r = gathered-prepend a go e acc f r
  collecting-prepend a go e acc f (Halted k) r = ap (λ l. ends L l (Halted k) r.left r.clauses) (outs_of-append a r.events)
  collecting-prepend a go e acc f Spent r = ap (λ l. ends L l Spent r.left r.clauses) (outs_of-append a r.events)

  pub emit-outs : (a : List (Event L.Answer)) (fs : List (FrameOf L)) → emit L (outs_of a) fs ≡ fs
  emit-outs a [] = refl
  emit-outs a (Tries e alts ∷ fs) = ap (λ l. Tries e alts ∷ l) (emit-outs a fs)
  emit-outs a (Catches e rec ∷ fs) = ap (λ l. Catches e rec ∷ l) (emit-outs a fs)
  emit-outs a (Collects e acc f ∷ fs) = ap (λ l. Collects e l f ∷ fs) (ap (λ l. acc ++ l) (answers_of-outs a) ∙ append-nil acc)

  pub heard-outs : (a : List (Event L.Answer)) (fs : List (FrameOf L)) → heard L (outs_of a) fs ≡ outs_of a
  heard-outs a [] = refl
  heard-outs a (Tries e alts ∷ fs) = heard-outs a fs
  heard-outs a (Catches e rec ∷ fs) = heard-outs a fs
  heard-outs a (Collects e acc f ∷ fs) = outs_of-outs a

  -- events inside come out first
  pub resume-prepend : (go : Go L) (a : List (Event L.Answer)) (fs : List (FrameOf L)) (r : OutcomeOf L) → resume L go (prepend L a r) fs ≡ prepend L (heard L a fs) (resume L go r (emit L a fs))
  resume-prepend go a [] r = refl
  resume-prepend go a (Tries e alts ∷ fs) r = ap (λ q. resume L go q fs) (after-prepend a e r (tries L go e alts)) ∙ resume-prepend go a fs (close L go (Tries e alts) r)
  resume-prepend go a (Catches e rec ∷ fs) r = ap (λ q. resume L go q fs) (catching-prepend a go e rec r.ended r) ∙ resume-prepend go a fs (close L go (Catches e rec) r)
  resume-prepend go a (Collects e acc f ∷ fs) r =
      let q : OutcomeOf L = close L go (Collects e (acc ++ answers_of a) f) r in
      ap (λ q. resume L go q fs) (collecting-prepend a go e acc f r.ended r)
      ∙ resume-prepend go (outs_of a) fs q
      ∙ ap (λ o. prepend L o (resume L go q (emit L (outs_of a) fs))) (heard-outs a fs)
      ∙ ap (λ l. prepend L (outs_of a) (resume L go q l)) (emit-outs a fs)

-- an end as a node of depth d reads it
abbrev norm : {B : Type 0} → ℕ → End B → End B
norm d Failed = Failed
norm d (CutTo c) = elim (nat_lt d c) [ true ↦ Failed | false ↦ CutTo c ]
norm d (Thrown ball active) = Thrown ball active
norm d (Halted k) = Halted k
norm d Spent = Spent

-- two ends that no node below e tells apart
record Alike {B : Type 0} (e : ℕ) (x y : End B) : Type 0 where
  each : (d : ℕ) → d < e → norm d x ≡ norm d y
  top : top_end x ≡ top_end y

alike_same : {B : Type 0} (e : ℕ) (x : End B) → Alike e x x
alike_same e x = record { each = λ d h. refl; top = refl }

alike_join : {B : Type 0} {e : ℕ} {x y z : End B} → Alike e x y → Alike e y z → Alike e x z
alike_join a b = record { each = λ d h. a.each d h ∙ b.each d h; top = a.top ∙ b.top }

norm-cut : {B : Type 0} (d c : ℕ) → d < c → norm {B = B} d (CutTo c) ≡ Failed
norm-cut d c h = ap (λ b. elim b [ true ↦ Failed | false ↦ CutTo c ]) (lt-ltb d c h)

alike-cut : {B : Type 0} (e c : ℕ) → e ≤ c → Alike {B = B} e (CutTo c) Failed
alike-cut e c h = record { each = λ d k. norm-cut d c (omega arith); top = refl }

cut_to-alike : {B : Type 0} (d : ℕ) (x : End B) → Alike d (cut_to d x) x
cut_to-alike d Failed = alike-cut d d (omega arith)
cut_to-alike {B} d (CutTo c) = go (nat_lt d c) refl
  where
    go : (b : Bool) → nat_lt d c ≡ b → Alike {B = B} d (elim b [ true ↦ CutTo d | false ↦ CutTo c ]) (CutTo c)
    go true e =
        let h : d < c = ltb-true d c e in
        record { each = λ k lt. norm-cut k d lt ∙ sym (norm-cut k c (omega arith)); top = refl }
    go false e = alike_same d (CutTo c)
cut_to-alike d (Thrown ball active) = alike_same d (Thrown ball active)
cut_to-alike d (Halted k) = alike_same d (Halted k)
cut_to-alike d Spent = alike_same d Spent

abbrev settled_by : {B : Type 0} → Verdict B → End B
settled_by GoOn = Failed
settled_by (Stop x) = x

-- the end of a node without a further alternative
abbrev settled : {B : Type 0} → ℕ → End B → End B
settled e x = settled_by (verdict e x)

settled-alike : {B : Type 0} (e : ℕ) (x : End B) → Alike e (settled e x) x
settled-alike e Failed = alike_same e Failed
settled-alike {B} e (CutTo c) = go (nat_lt e c) (nat_eq c e) refl refl
  where
    go : (b same : Bool) → nat_lt e c ≡ b → nat_eq c e ≡ same → Alike {B = B} e (settled_by (cut_verdict b same c)) (CutTo c)
    go true same p q =
        let h : e < c = ltb-true e c p in
        record { each = λ d lt. sym (norm-cut d c (omega arith)); top = refl }
    go false true p q =
        let h : c ≡ e = eqb-true c e q in
        record { each = λ d lt. sym (norm-cut d c (omega arith)); top = refl }
    go false false p q = alike_same e (CutTo c)
settled-alike e (Thrown ball active) = alike_same e (Thrown ball active)
settled-alike e (Halted k) = alike_same e (Halted k)
settled-alike e Spent = alike_same e Spent

-- a catch in between does not catch this end
abbrev pub QuietAt : {B : Type 0} → ℕ → End B → Type 0
QuietAt e Failed = Unit {0}
QuietAt e (CutTo c) = Unit {0}
QuietAt e (Thrown ball active) = has active e ≡ false
QuietAt e (Halted k) = Unit {0}
QuietAt e Spent = Unit {0}

abbrev pub IsNoGathering : {A R F T : Type 0} → Frame A R F T → Type 0
IsNoGathering (Tries e alts) = Unit {0}
IsNoGathering (Catches e rec) = Unit {0}
IsNoGathering (Collects e acc f) = ⊥

-- none of the frames of depth d and above gathers
abbrev pub NoGathering : {A R F T : Type 0} → ℕ → List (Frame A R F T) → Type 0
NoGathering d [] = Unit {0}
NoGathering d (f ∷ fs) = (d ≤ depth_of f → IsNoGathering f) × NoGathering d fs

-- what is cut to d is passed on unread by each node above d
cut_to-stops : {B : Type 0} (d e : ℕ) (x : End B) → d ≤ e → verdict e (cut_to d x) ≡ Stop (settled e (cut_to d x))
cut_to-stops {B} d e x le = stopped x
  where
    -- at a depth no lower than c
    low : (c : ℕ) → c ≤ e → verdict {B = B} e (CutTo c) ≡ Stop (settled e (CutTo c))
    low c h =
        let above : nat_lt e c ≡ false = le-ltb e c h in
        let P : Bool → Bool → Type 0 = λ b same. cut_verdict {B = B} b same c ≡ Stop (settled_by (cut_verdict b same c)) in
        let both : (same : Bool) → P false same = elim [ true ↦ refl | false ↦ refl ] in
        subst (λ b. P b (nat_eq c e)) (sym above) (both (nat_eq c e))

    stays : (c : ℕ) (b : Bool) → nat_lt d c ≡ b → verdict {B = B} e (elim b [ true ↦ CutTo d | false ↦ CutTo c ]) ≡ Stop (settled e (elim b [ true ↦ CutTo d | false ↦ CutTo c ]))
    stays c true p = low d le
    stays c false p = let h : c ≤ d = ltb-false d c p in low c (omega arith)

    stopped : (x : End B) → verdict e (cut_to d x) ≡ Stop (settled e (cut_to d x))
    stopped Failed = low d le
    stopped (CutTo c) = stays c (nat_lt d c) refl
    stopped (Thrown ball active) = refl
    stopped (Halted k) = refl
    stopped Spent = refl

module _ (L : Language) where
  -- a node reads an end only up to its own depth
  verdict-norm : (e : ℕ) (x : End L.Ball) → verdict e x ≡ verdict e (norm e x)
  verdict-norm e Failed = refl
  verdict-norm e (CutTo c) = go (nat_lt e c) refl
    where
      go : (b : Bool) → nat_lt e c ≡ b → verdict {B = L.Ball} e (CutTo c) ≡ verdict {B = L.Ball} e (elim b [ true ↦ Failed | false ↦ CutTo c ])
      go true p = ap (λ b. cut_verdict b (nat_eq c e) c) p
      go false p = refl
  verdict-norm e (Thrown ball active) = refl
  verdict-norm e (Halted k) = refl
  verdict-norm e Spent = refl

  -- `decided` reads the end only through the verdict
  decided-end : (v : Verdict L.Ball) (ev : List (Event L.Answer)) (x y : End L.Ball) (l : ℕ) (c : L.Clauses) (next : Next L) → decided L v (ends L ev x l c) next ≡ decided L v (ends L ev y l c) next
  decided-end GoOn ev x y l c next = refl
  decided-end (Stop z) ev x y l c next = refl

  after-norm : (e : ℕ) (ev : List (Event L.Answer)) (x : End L.Ball) (l : ℕ) (c : L.Clauses) (next : Next L) → after L e (ends L ev x l c) next ≡ after L e (ends L ev (norm e x) l c) next
  after-norm e ev x l c next =
      ap (λ v. decided L v (ends L ev x l c) next) (verdict-norm e x)
      ∙ decided-end (verdict e (norm e x)) ev x (norm e x) l c next

  close-norm : (go : Go L) (f : FrameOf L) (ev : List (Event L.Answer)) (x : End L.Ball) (l : ℕ) (c : L.Clauses) → close L go f (ends L ev x l c) ≡ close L go f (ends L ev (norm (depth_of f) x) l c)
  close-norm go (Tries e alts) ev x l c = after-norm e ev x l c (tries L go e alts)
  close-norm go (Catches e rec) ev Failed l c = refl
  close-norm go (Catches e rec) ev (CutTo k) l c = by_test (nat_lt e k) refl
    where
      by_test : (b : Bool) → nat_lt e k ≡ b → after L e (ends L ev (CutTo k) l c) (failing L) ≡ catching L go e rec (elim b [ true ↦ Failed | false ↦ CutTo k ]) (ends L ev (elim b [ true ↦ Failed | false ↦ CutTo k ]) l c)
      by_test true p =
          ap (λ b. decided L (cut_verdict b (nat_eq k e) k) (ends L ev (CutTo k) l c) (failing L)) p
      by_test false p = refl
  close-norm go (Catches e rec) ev (Thrown ball active) l c = refl
  close-norm go (Catches e rec) ev (Halted k) l c = refl
  close-norm go (Catches e rec) ev Spent l c = refl
  close-norm go (Collects e acc f) ev Failed l c = refl
  close-norm go (Collects e acc f) ev (CutTo k) l c = by_test (nat_lt e k)
    where
      by_test : (b : Bool) → gathered L go e acc f (ends L ev (CutTo k) l c) ≡ collecting L go e acc f (elim b [ true ↦ Failed | false ↦ CutTo k ]) (ends L ev (elim b [ true ↦ Failed | false ↦ CutTo k ]) l c)
      by_test true = refl
      by_test false = refl
  close-norm go (Collects e acc f) ev (Thrown ball active) l c = refl
  close-norm go (Collects e acc f) ev (Halted k) l c = refl
  close-norm go (Collects e acc f) ev Spent l c = refl

  -- ends that are alike below e give the same through frames below e
  resume-alike : (go : Go L) (e : ℕ) (fs : List (FrameOf L)) (ev : List (Event L.Answer)) (x y : End L.Ball) (l : ℕ) (c : L.Clauses) → Falls e fs → Alike e x y → ended_by L top_end (resume L go (ends L ev x l c) fs) ≡ ended_by L top_end (resume L go (ends L ev y l c) fs)
  resume-alike go e [] ev x y l c falls a = ap (λ z. ends L ev z l c) a.top
  resume-alike go e (f ∷ fs) ev x y l c falls a =
      ap (λ r. ended_by L top_end (resume L go r fs))
      (close-norm go f ev x l c ∙ ap (λ z. close L go f (ends L ev z l c)) (a.each (depth_of f) falls.0) ∙ sym (close-norm go f ev y l c))

  after-failing : (e : ℕ) (ev : List (Event L.Answer)) (x : End L.Ball) (l : ℕ) (c : L.Clauses) → after L e (ends L ev x l c) (failing L) ≡ ends L ev (settled e x) l c
  after-failing e ev x l c = go (verdict e x)
    where
      go : (v : Verdict L.Ball) → decided L v (ends L ev x l c) (failing L) ≡ ends L ev (settled_by v) l c
      go GoOn = ap (λ a. ends L a Failed l c) (append-nil ev)
      go (Stop y) = refl

  -- a node without a further alternative may be dropped
  pub drop_frame : (e : ℕ) (fs : List (FrameOf L)) (r : OutcomeOf L) → Falls e fs → ended_by L top_end (resume L (found L) r (Tries e [] ∷ fs)) ≡ ended_by L top_end (resume L (found L) r fs)
  drop_frame e fs r falls =
      ap (λ q. ended_by L top_end (resume L (found L) q fs)) (after-failing e r.events r.ended r.left r.clauses)
      ∙ resume-alike (found L) e fs r.events (settled e r.ended) r.ended r.left r.clauses falls (settled-alike e r.ended)

  -- a node above the cut passes what was cut
  close-cut : (go : Go L) (d : ℕ) (f : FrameOf L) (ev : List (Event L.Answer)) (x : End L.Ball) (l : ℕ) (c : L.Clauses) → d ≤ depth_of f → IsNoGathering f → QuietAt (depth_of f) x → close L go f (ends L ev (cut_to d x) l c) ≡ ends L ev (settled (depth_of f) (cut_to d x)) l c
  close-cut go d (Tries e alts) ev x l c le g q = ap (λ v. decided L v (ends L ev (cut_to d x) l c) (tries L go e alts)) (cut_to-stops d e x le)
  close-cut go d (Catches e rec) ev Failed l c le g q = after-failing e ev (CutTo d) l c
  close-cut go d (Catches e rec) ev (CutTo k) l c le g q = by_test (nat_lt d k)
    where
      by_test : (b : Bool) → close L go (Catches e rec) (ends L ev (elim b [ true ↦ CutTo d | false ↦ CutTo k ]) l c) ≡ ends L ev (settled e (elim b [ true ↦ CutTo d | false ↦ CutTo k ])) l c
      by_test true = after-failing e ev (CutTo d) l c
      by_test false = after-failing e ev (CutTo k) l c
  close-cut go d (Catches e rec) ev (Thrown ball active) l c le g q = ap (λ b. caught L go e rec ball b (ends L ev (Thrown ball active) l c)) q
  close-cut go d (Catches e rec) ev (Halted k) l c le g q = refl
  close-cut go d (Catches e rec) ev Spent l c le g q = refl
  close-cut go d (Collects e acc f) ev x l c le g q = absurd g

  below-all : (d : ℕ) (fs : List (FrameOf L)) → Falls d fs → below d fs ≡ fs
  below-all d [] falls = refl
  below-all d (f ∷ fs) falls = ap (λ b. elim b [ true ↦ f ∷ fs | false ↦ below d fs ]) (lt-ltb (depth_of f) d falls.0)

  -- no catch from d up to below e catches this end
  abbrev pub Quiet : ℕ → ℕ → End L.Ball → Type 0
  Quiet d e x = (k : ℕ) → d ≤ k → k < e → QuietAt k x

  -- the cut takes the frames of depth d and above away
  pub cut_frames : (go : Go L) (d e : ℕ) (fs : List (FrameOf L)) (ev : List (Event L.Answer)) (x : End L.Ball) (l : ℕ) (c : L.Clauses) → Falls e fs → NoGathering d fs → Quiet d e x → ended_by L top_end (resume L go (ends L ev (cut_to d x) l c) fs) ≡ ended_by L top_end (resume L go (ends L ev x l c) (below d fs))
  cut_frames go d e [] ev x l c falls g q = ap (λ z. ends L ev z l c) (Alike.top (cut_to-alike d x))
  cut_frames go d e (f ∷ fs) ev x l c falls g q =
      by_depth (λ le. cut_frames go d (depth_of f) fs ev x l c falls.1 g.1 (λ k a b. let lt : depth_of f < e = falls.0 in q k a (omega arith))) (nat_lt (depth_of f) d) refl
    where
      by_depth : (d ≤ depth_of f → ended_by L top_end (resume L go (ends L ev (cut_to d x) l c) fs) ≡ ended_by L top_end (resume L go (ends L ev x l c) (below d fs))) → (b : Bool) → nat_lt (depth_of f) d ≡ b → ended_by L top_end (resume L go (close L go f (ends L ev (cut_to d x) l c)) fs) ≡ ended_by L top_end (resume L go (ends L ev x l c) (elim b [ true ↦ f ∷ fs | false ↦ below d fs ]))
      by_depth ih true p = resume-alike go d (f ∷ fs) ev (cut_to d x) x l c (ltb-true (depth_of f) d p, falls.1) (cut_to-alike d x)
      by_depth ih false p =
          let le : d ≤ depth_of f = ltb-false (depth_of f) d p in
          ap (λ r. ended_by L top_end (resume L go r fs)) (close-cut go d f ev x l c le (g.0 le) (q (depth_of f) le falls.0))
          ∙ resume-alike go (depth_of f) fs ev (settled (depth_of f) (cut_to d x)) (cut_to d x) l c falls.1 (settled-alike (depth_of f) (cut_to d x))
          ∙ ih le

  -- the moves

  -- a goal that stands first and a step left: the table's line
  abbrev pub after_call : ℕ → L.Clauses → List (FrameOf L) → ActivationOf L → OutcomeOf L
  after_call l c fs (Ends ev x) = prepend L (heard L ev fs) (value L (Over x) l c (emit L ev fs))
  after_call l c fs (Opens ev p f) = prepend L (heard L ev fs) (value L p l c (f ∷ emit L ev fs))

  opened-value : (l : ℕ) (c : L.Clauses) (fs : List (FrameOf L)) (a : ActivationOf L) → ended_by L top_end (resume L (found L) (opened L (found L) l c a) fs) ≡ after_call l c fs a
  opened-value l c fs (Ends ev x) =
      ap (λ o. ended_by L top_end (resume L (found L) (ends L o x l c) fs)) (sym (append-nil ev))
      ∙ ap (ended_by L top_end) (resume-prepend L (found L) ev fs (ends L [] x l c))
  opened-value l c fs (Opens ev p f) = ap (ended_by L top_end) (resume-prepend L (found L) ev fs (close L (found L) f (of_point L (found L) p l c)))

  module _ (e : ℕ) (w : L.World) (c : L.Clauses) (fs : List (FrameOf L)) where
    of_walk : (items : List (Item L.Goal)) (l : ℕ) (r : OutcomeOf L) → walk L (step L (found L) e w l c) (answering L w l c) (failing L l c) items ≡ r → value L (At (record { depth = e; items = items; world = w })) l c fs ≡ ended_by L top_end (resume L (found L) r fs)
    of_walk items l r h =
        ap (λ r. ended_by L top_end (resume L (found L) r fs)) (found-call L (record { depth = e; items = items; world = w }) l c ∙ h)

    pub call_move : (g : L.Goal) (rest : List (Item L.Goal)) (l : ℕ) → value L (At (record { depth = e; items = Call g ∷ rest; world = w })) (suc l) c fs ≡ after_call l c fs (L.activate e g rest w c)
    call_move g rest l = of_walk (Call g ∷ rest) (suc l) _ refl ∙ opened-value l c fs (L.activate e g rest w c)

    pub spent_move : (g : L.Goal) (rest : List (Item L.Goal)) → value L (At (record { depth = e; items = Call g ∷ rest; world = w })) 0 c fs ≡ value L (Over Spent) 0 c fs
    spent_move g rest = of_walk (Call g ∷ rest) 0 _ refl

    pub answer_move : (l : ℕ) → let a : List (Event L.Answer) = Ans (L.answer_of w) ∷ [] in value L (At (record { depth = e; items = []; world = w })) l c fs ≡ prepend L (heard L a fs) (value L (Over Failed) l c (emit L a fs))
    answer_move l =
        of_walk [] l _ refl ∙ ap (ended_by L top_end) (resume-prepend L (found L) (Ans (L.answer_of w) ∷ []) fs (failing L l c))

    pub fail_move : (rest : List (Item L.Goal)) (l : ℕ) → value L (At (record { depth = e; items = Fail ∷ rest; world = w })) l c fs ≡ value L (Over Failed) l c fs
    fail_move rest l = of_walk (Fail ∷ rest) l _ refl

    pub pop_move : (d : ℕ) (rest : List (Item L.Goal)) (l : ℕ) → value L (At (record { depth = e; items = Pop d ∷ rest; world = w })) l c fs ≡ value L (At (record { depth = e; items = rest; world = w })) l c fs
    pop_move d rest l = of_walk (Pop d ∷ rest) l _ (sym (found-call L (record { depth = e; items = rest; world = w }) l c))

    pub cut_move : (d : ℕ) (rest : List (Item L.Goal)) (l : ℕ) → let s : StateOf L = record { depth = e; items = rest; world = w } in Falls e fs → NoGathering d fs → Quiet d e (found L s l c).ended → value L (At (record { depth = e; items = Cut d ∷ rest; world = w })) l c fs ≡ value L (At s) l c (below d fs)
    cut_move d rest l falls g q =
        let s : StateOf L = record { depth = e; items = rest; world = w } in
        let r : OutcomeOf L = found L s l c in
        of_walk (Cut d ∷ rest) l (ended_by L (cut_to d) r) (ap (ended_by L (cut_to d)) (sym (found-call L s l c)))
        ∙ cut_frames (found L) d e fs r.events r.ended r.left r.clauses falls g q

  -- the next alternative
  abbrev pub after_back : ℕ → L.Clauses → ℕ → List L.Alternative → List (FrameOf L) → Option (StateOf L × L.Clauses) → OutcomeOf L
  after_back l c e alts fs None = value L (Over Failed) l c (Tries e alts ∷ fs)
  after_back l c e alts fs (Some (s, c')) = value L (At s) l c' (Tries e alts ∷ fs)

  attempted-value : (l : ℕ) (c : L.Clauses) (e : ℕ) (alts : List L.Alternative) (fs : List (FrameOf L)) (o : Option (StateOf L × L.Clauses)) → ended_by L top_end (resume L (found L) (prepend L [] (attempted L (found L) e o (tries L (found L) e alts) l c)) fs) ≡ after_back l c e alts fs o
  attempted-value l c e alts fs None = refl
  attempted-value l c e alts fs (Some (s, c')) = refl

  pub back_move : (l : ℕ) (c : L.Clauses) (e : ℕ) (a : L.Alternative) (alts : List L.Alternative) (fs : List (FrameOf L)) → value L (Over Failed) l c (Tries e (a ∷ alts) ∷ fs) ≡ after_back l c e alts fs (L.attempt a c)
  back_move l c e a alts fs = attempted-value l c e alts fs (L.attempt a c)

  pub done_move : (l : ℕ) (c : L.Clauses) (e : ℕ) (fs : List (FrameOf L)) → value L (Over Failed) l c (Tries e [] ∷ fs) ≡ value L (Over Failed) l c fs
  done_move l c e fs = refl

  pub catch_back_move : (l : ℕ) (c : L.Clauses) (e : ℕ) (rec : L.Recovery) (fs : List (FrameOf L)) → value L (Over Failed) l c (Catches e rec ∷ fs) ≡ value L (Over Failed) l c fs
  catch_back_move l c e rec fs = refl

  pub drop_move : (p : PointOf L) (l : ℕ) (c : L.Clauses) (e : ℕ) (fs : List (FrameOf L)) → Falls e fs → value L p l c (Tries e [] ∷ fs) ≡ value L p l c fs
  drop_move p l c e fs falls = drop_frame e fs (of_point L (found L) p l c) falls

  -- the thrown ball goes outward
  pub throw_past_move : (ball : L.Ball) (active : List ℕ) (l : ℕ) (c : L.Clauses) (e : ℕ) (alts : List L.Alternative) (fs : List (FrameOf L)) → value L (Over (Thrown ball active)) l c (Tries e alts ∷ fs) ≡ value L (Over (Thrown ball active)) l c fs
  throw_past_move ball active l c e alts fs = refl

  abbrev pub after_throw : L.Ball → List ℕ → ℕ → L.Clauses → ℕ → List (FrameOf L) → Bool → Option (PointOf L) → OutcomeOf L
  after_throw ball active l c e fs true (Some p) = value L p l c (Tries e [] ∷ fs)
  after_throw ball active l c e fs true None = value L (Over (Thrown ball active)) l c fs
  after_throw ball active l c e fs false o = value L (Over (Thrown ball active)) l c fs

  caught-value : (ball : L.Ball) (active : List ℕ) (l : ℕ) (c : L.Clauses) (e : ℕ) (rec : L.Recovery) (fs : List (FrameOf L)) (b : Bool) (o : Option (PointOf L)) → o ≡ L.recover rec ball → ended_by L top_end (resume L (found L) (caught L (found L) e rec ball b (ends L [] (Thrown ball active) l c)) fs) ≡ after_throw ball active l c e fs b o
  caught-value ball active l c e rec fs false o h = refl
  caught-value ball active l c e rec fs true None h = ap (λ o. ended_by L top_end (resume L (found L) (recovered L (found L) e o (ends L [] (Thrown ball active) l c)) fs)) (sym h)
  caught-value ball active l c e rec fs true (Some p) h = ap (λ o. ended_by L top_end (resume L (found L) (recovered L (found L) e o (ends L [] (Thrown ball active) l c)) fs)) (sym h)

  pub throw_move : (ball : L.Ball) (active : List ℕ) (l : ℕ) (c : L.Clauses) (e : ℕ) (rec : L.Recovery) (fs : List (FrameOf L)) → value L (Over (Thrown ball active)) l c (Catches e rec ∷ fs) ≡ after_throw ball active l c e fs (has active e) (L.recover rec ball)
  throw_move ball active l c e rec fs = caught-value ball active l c e rec fs (has active e) (L.recover rec ball) refl

  -- a nested search has failed
  pub gather_move : (l : ℕ) (c : L.Clauses) (e : ℕ) (acc : List L.Answer) (f : L.Gathering) (fs : List (FrameOf L)) → Falls e fs → value L (Over Failed) l c (Collects e acc f ∷ fs) ≡ value L (L.gather f acc) l c (Tries e [] ∷ fs)
  gather_move l c e acc f fs falls = ap (λ t. value L (L.gather f t) l c (Tries e [] ∷ fs)) (append-nil acc)

  pub gather_throw_move : (ball : L.Ball) (active : List ℕ) (l : ℕ) (c : L.Clauses) (e : ℕ) (acc : List L.Answer) (f : L.Gathering) (fs : List (FrameOf L)) → value L (Over (Thrown ball active)) l c (Collects e acc f ∷ fs) ≡ value L (Over (Thrown ball (L.active_of f))) l c fs
  gather_throw_move ball active l c e acc f fs = refl

  pub end_move : (x : End L.Ball) (l : ℕ) (c : L.Clauses) → value L (Over x) l c [] ≡ ends L [] (top_end x) l c
  end_move x l c = refl
