-- The search's value does not depend on its bound.
use Rattle.std.proofs.Common.{◌≡◌, ℕ, zero, suc, ◌≤◌, Bool, true, false, List, [], ◌∷◌, ◌++◌, Option, Some, None, refl, sym, ap, ◌∙◌, inl, inr, arith}
use Rattle.std.proofs.lemmas.Bool.{cases_lt}
use Rattle.solver_model.specs.Search.{Item, End, Verdict, Language, Call, Cut, Pop, Fail, Failed, CutTo, Thrown, Halted, Spent, At, Over, Tries, Catches, Collects, Ends, Opens, GoOn, Stop, has, verdict, cut_to, outs_of, answers_of, StateOf, OutcomeOf, FrameOf, PointOf, ActivationOf, Go, Next, ends, prepend, ended_by, walk, decided, after, failing, of_point, attempted, tries, recovered, caught, catching, gathered, collecting, close, opened, step, answering, search_of, found}

module _ (L : Language) where
  abbrev pub Lowers : Go L → Type 0
  Lowers go = (s : StateOf L) (l : ℕ) (c : L.Clauses) → (go s l c).left ≤ l

  abbrev pub NextLowers : Next L → Type 0
  NextLowers next = (l : ℕ) (c : L.Clauses) → (next l c).left ≤ l

  abbrev pub Agree : ℕ → Go L → Go L → Type 0
  Agree n go go' = (s : StateOf L) (l : ℕ) (c : L.Clauses) → l ≤ n → go s l c ≡ go' s l c

  decided-left : (v : Verdict L.Ball) (r : OutcomeOf L) (next : Next L) → NextLowers next → (decided L v r next).left ≤ r.left
  decided-left GoOn r next h = h r.left r.clauses
  decided-left (Stop e) r next h = omega arith

  pub after-left : (e : ℕ) (r : OutcomeOf L) (next : Next L) → NextLowers next → (after L e r next).left ≤ r.left
  after-left e r next h = decided-left (verdict e r.ended) r next h

  pub failing-left : NextLowers (failing L)
  failing-left l c = omega arith

  pub of_point-left : (go : Go L) (p : PointOf L) → Lowers go → NextLowers (of_point L go p)
  of_point-left go (At s) h l c = h s l c
  of_point-left go (Over e) h l c = omega arith

  attempted-left : (go : Go L) (e : ℕ) (o : Option (StateOf L × L.Clauses)) (next : Next L) → Lowers go → NextLowers next → NextLowers (attempted L go e o next)
  attempted-left go e None next h k l c = k l c
  attempted-left go e (Some (s, c')) next h k l c = omega (arith, after-left e (go s l c') next k, h s l c')

  pub tries-left : (go : Go L) (e : ℕ) (alts : List L.Alternative) → Lowers go → NextLowers (tries L go e alts)
  tries-left go e [] h l c = omega arith
  tries-left go e (a ∷ alts) h l c = attempted-left go e (L.attempt a c) (tries L go e alts) h (tries-left go e alts h) l c

  recovered-left : (go : Go L) (e : ℕ) (o : Option (PointOf L)) (r : OutcomeOf L) → Lowers go → (recovered L go e o r).left ≤ r.left
  recovered-left go e None r h = omega arith
  recovered-left go e (Some p) r h =
      omega (arith, after-left e (of_point L go p r.left r.clauses) (failing L) failing-left, of_point-left go p h r.left r.clauses)

  caught-left : (go : Go L) (e : ℕ) (rec : L.Recovery) (ball : L.Ball) (b : Bool) (r : OutcomeOf L) → Lowers go → (caught L go e rec ball b r).left ≤ r.left
  caught-left go e rec ball true r h = recovered-left go e (L.recover rec ball) r h
  caught-left go e rec ball false r h = omega arith

  catching-left : (go : Go L) (e : ℕ) (rec : L.Recovery) (end : End L.Ball) (r : OutcomeOf L) → Lowers go → (catching L go e rec end r).left ≤ r.left
  catching-left go e rec (Thrown ball active) r h = caught-left go e rec ball (has active e) r h
  catching-left go e rec Failed r h = after-left e r (failing L) failing-left
  catching-left go e rec (CutTo c) r h = after-left e r (failing L) failing-left
  catching-left go e rec (Halted k) r h = after-left e r (failing L) failing-left
  catching-left go e rec Spent r h = after-left e r (failing L) failing-left

  gathered-left : (go : Go L) (e : ℕ) (acc : List L.Answer) (f : L.Gathering) (r : OutcomeOf L) → Lowers go → (gathered L go e acc f r).left ≤ r.left
  gathered-left go e acc f r h =
      let p : PointOf L = L.gather f (acc ++ answers_of r.events) in
      omega (arith, after-left e (of_point L go p r.left r.clauses) (failing L) failing-left, of_point-left go p h r.left r.clauses)

  collecting-left : (go : Go L) (e : ℕ) (acc : List L.Answer) (f : L.Gathering) (end : End L.Ball) (r : OutcomeOf L) → Lowers go → (collecting L go e acc f end r).left ≤ r.left
  collecting-left go e acc f (Thrown ball active) r h = omega arith
  collecting-left go e acc f Failed r h = gathered-left go e acc f r h
  collecting-left go e acc f (CutTo c) r h = gathered-left go e acc f r h
  collecting-left go e acc f (Halted k) r h = omega arith
  collecting-left go e acc f Spent r h = omega arith

  pub close-left : (go : Go L) (f : FrameOf L) (r : OutcomeOf L) → Lowers go → (close L go f r).left ≤ r.left
  close-left go (Tries e alts) r h = after-left e r (tries L go e alts) (tries-left go e alts h)
  close-left go (Catches e rec) r h = catching-left go e rec r.ended r h
  close-left go (Collects e acc f) r h = collecting-left go e acc f r.ended r h

  opened-left : (go : Go L) (l : ℕ) (c : L.Clauses) (a : ActivationOf L) → Lowers go → (opened L go l c a).left ≤ l
  opened-left go l c (Ends events e) h = omega arith
  opened-left go l c (Opens events p frame) h =
      omega (arith, close-left go frame (of_point L go p l c) h, of_point-left go p h l c)

  step-left : (go : Go L) (e : ℕ) (w : L.World) (l : ℕ) (c : L.Clauses) (g : L.Goal) (rest : List (Item L.Goal)) → Lowers go → (step L go e w l c g rest).left ≤ l
  step-left go e w zero c g rest h = omega arith
  step-left go e w (suc l) c g rest h = omega (arith, opened-left go l c (L.activate e g rest w c) h)

  walk-left : (m : ℕ) (call : L.Goal → List (Item L.Goal) → OutcomeOf L) (answer fail : OutcomeOf L) (items : List (Item L.Goal)) → ((g : L.Goal) (rest : List (Item L.Goal)) → (call g rest).left ≤ m) → answer.left ≤ m → fail.left ≤ m → (walk L call answer fail items).left ≤ m
  walk-left m call answer fail [] h a f = a
  walk-left m call answer fail (Call g ∷ rest) h a f = h g rest
  walk-left m call answer fail (Cut d ∷ rest) h a f = walk-left m call answer fail rest h a f
  walk-left m call answer fail (Pop d ∷ rest) h a f = walk-left m call answer fail rest h a f
  walk-left m call answer fail (Fail ∷ rest) h a f = f

  -- a search takes no steps that it doesn't have
  pub search-left : (n : ℕ) → Lowers (search_of L n)
  search-left zero s l c = walk-left l _ _ _ s.items (λ g rest. omega arith) (omega arith) (omega arith)
  search-left (suc n) s l c =
      walk-left l _ _ _ s.items (λ g rest. step-left (search_of L n) s.depth s.world l c g rest (search-left n)) (omega arith) (omega arith)

  -- two searches that agree up to n
  SameUpTo : ℕ → Next L → Next L → Type 0
  SameUpTo m next next' = (l : ℕ) (c : L.Clauses) → l ≤ m → next l c ≡ next' l c

  decided-same : (v : Verdict L.Ball) (r : OutcomeOf L) (next next' : Next L) → SameUpTo r.left next next' → decided L v r next ≡ decided L v r next'
  unfolding SameUpTo
  decided-same GoOn r next next' h = ap (prepend L r.events) (h r.left r.clauses (omega arith))
  decided-same (Stop e) r next next' h = refl

  after-same : (e : ℕ) (r : OutcomeOf L) (next next' : Next L) → SameUpTo r.left next next' → after L e r next ≡ after L e r next'
  after-same e r next next' h = decided-same (verdict e r.ended) r next next' h

  module _ (n : ℕ) (go go' : Go L) (lowers : Lowers go) (agree : Agree n go go') where
    attempted-same : (e : ℕ) (o : Option (StateOf L × L.Clauses)) (next next' : Next L) → SameUpTo n next next' → SameUpTo n (attempted L go e o next) (attempted L go' e o next')
    unfolding SameUpTo
    attempted-same e None next next' h l c le = h l c le
    attempted-same e (Some (s, c')) next next' h l c le =
        let low : (go s l c').left ≤ l = lowers s l c' in
        after-same e (go s l c') next next' (λ l' c'' le'. h l' c'' (omega arith))
        ∙ ap (λ r. after L e r next') (agree s l c' le)

    tries-same : (e : ℕ) (alts : List L.Alternative) → SameUpTo n (tries L go e alts) (tries L go' e alts)
    unfolding SameUpTo
    tries-same e [] l c le = refl
    tries-same e (a ∷ alts) l c le = attempted-same e (L.attempt a c) (tries L go e alts) (tries L go' e alts) (tries-same e alts) l c le

    of_point-same : (p : PointOf L) → SameUpTo n (of_point L go p) (of_point L go' p)
    unfolding SameUpTo
    of_point-same (At s) l c le = agree s l c le
    of_point-same (Over e) l c le = refl

    recovered-same : (e : ℕ) (o : Option (PointOf L)) (r : OutcomeOf L) → r.left ≤ n → recovered L go e o r ≡ recovered L go' e o r
    unfolding SameUpTo
    recovered-same e None r le = refl
    recovered-same e (Some p) r le = ap (λ q. prepend L r.events (after L e q (failing L))) (of_point-same p r.left r.clauses le)

    caught-same : (e : ℕ) (rec : L.Recovery) (ball : L.Ball) (b : Bool) (r : OutcomeOf L) → r.left ≤ n → caught L go e rec ball b r ≡ caught L go' e rec ball b r
    caught-same e rec ball true r le = recovered-same e (L.recover rec ball) r le
    caught-same e rec ball false r le = refl

    catching-same : (e : ℕ) (rec : L.Recovery) (end : End L.Ball) (r : OutcomeOf L) → r.left ≤ n → catching L go e rec end r ≡ catching L go' e rec end r
    catching-same e rec (Thrown ball active) r le = caught-same e rec ball (has active e) r le
    catching-same e rec Failed r le = refl
    catching-same e rec (CutTo c) r le = refl
    catching-same e rec (Halted k) r le = refl
    catching-same e rec Spent r le = refl

    gathered-same : (e : ℕ) (acc : List L.Answer) (f : L.Gathering) (r : OutcomeOf L) → r.left ≤ n → gathered L go e acc f r ≡ gathered L go' e acc f r
    unfolding SameUpTo
    gathered-same e acc f r le =
        ap (λ q. prepend L (outs_of r.events) (after L e q (failing L))) (of_point-same (L.gather f (acc ++ answers_of r.events)) r.left r.clauses le)

    collecting-same : (e : ℕ) (acc : List L.Answer) (f : L.Gathering) (end : End L.Ball) (r : OutcomeOf L) → r.left ≤ n → collecting L go e acc f end r ≡ collecting L go' e acc f end r
    collecting-same e acc f (Thrown ball active) r le = refl
    collecting-same e acc f Failed r le = gathered-same e acc f r le
    collecting-same e acc f (CutTo c) r le = gathered-same e acc f r le
    collecting-same e acc f (Halted k) r le = refl
    collecting-same e acc f Spent r le = refl

    pub close-same : (f : FrameOf L) (r : OutcomeOf L) → r.left ≤ n → close L go f r ≡ close L go' f r
    unfolding SameUpTo
    close-same (Tries e alts) r le = after-same e r _ _ (λ l c le'. tries-same e alts l c (omega arith))
    close-same (Catches e rec) r le = catching-same e rec r.ended r le
    close-same (Collects e acc f) r le = collecting-same e acc f r.ended r le

    opened-same : (l : ℕ) (c : L.Clauses) (a : ActivationOf L) → l ≤ n → opened L go l c a ≡ opened L go' l c a
    unfolding SameUpTo
    opened-same l c (Ends events e) le = refl
    opened-same l c (Opens events p frame) le =
        let low : (of_point L go p l c).left ≤ l = of_point-left go p lowers l c in
        ap (prepend L events) (close-same frame (of_point L go p l c) (omega arith) ∙ ap (close L go' frame) (of_point-same p l c le))

    step-same : (e : ℕ) (w : L.World) (l : ℕ) (c : L.Clauses) (g : L.Goal) (rest : List (Item L.Goal)) → l ≤ suc n → step L go e w l c g rest ≡ step L go' e w l c g rest
    step-same e w zero c g rest le = refl
    step-same e w (suc l) c g rest le = opened-same l c (L.activate e g rest w c) (omega arith)

  walk-same : (call call' : L.Goal → List (Item L.Goal) → OutcomeOf L) (answer fail : OutcomeOf L) (items : List (Item L.Goal)) → ((g : L.Goal) (rest : List (Item L.Goal)) → call g rest ≡ call' g rest) → walk L call answer fail items ≡ walk L call' answer fail items
  walk-same call call' answer fail [] h = refl
  walk-same call call' answer fail (Call g ∷ rest) h = h g rest
  walk-same call call' answer fail (Cut d ∷ rest) h = ap (ended_by L (cut_to d)) (walk-same call call' answer fail rest h)
  walk-same call call' answer fail (Pop d ∷ rest) h = walk-same call call' answer fail rest h
  walk-same call call' answer fail (Fail ∷ rest) h = refl

  spent-step : (go : Go L) (e : ℕ) (w : L.World) (l : ℕ) (c : L.Clauses) (g : L.Goal) (rest : List (Item L.Goal)) → l ≤ 0 → ends L [] Spent l c ≡ step L go e w l c g rest
  spent-step go e w zero c g rest le = refl
  spent-step go e w (suc l) c g rest le = absurd (omega arith)

  -- the value doesn't depend on n: one more
  search-more : (n : ℕ) → Agree n (search_of L n) (search_of L (suc n))
  search-more zero s l c le = walk-same _ _ _ _ s.items (λ g rest. spent-step (search_of L zero) s.depth s.world l c g rest le)
  search-more (suc n) s l c le =
      walk-same _ _ _ _ s.items (λ g rest. step-same n (search_of L n) (search_of L (suc n)) (search-left n) (search-more n) s.depth s.world l c g rest le)

  -- the value doesn't depend on n: any bound that is no less than the steps left
  pub search-found : (n : ℕ) → Agree n (search_of L n) (found L)
  search-found zero s zero c le = refl
  search-found zero s (suc l) c le = absurd (omega arith)
  search-found (suc n) s l c le =
      elim (cases_lt n l) [
        | inl h ↦ (let e : suc n ≡ l = omega arith in ap (λ m. search_of L m s l c) e)
        | inr h ↦ sym (search-more n s l c h) ∙ search-found n s l c h
      ]

  pub found-left : Lowers (found L)
  found-left s l c = search-left l s l c

  -- what the search of a goal that stands first gives
  pub found-call : (s : StateOf L) (l : ℕ) (c : L.Clauses) → found L s l c ≡ walk L (step L (found L) s.depth s.world l c) (answering L s.world l c) (failing L l c) s.items
  found-call s zero c = walk-same _ _ _ _ s.items (λ g rest. refl)
  found-call s (suc l) c =
      walk-same _ _ _ _ s.items (λ g rest. opened-same l (search_of L l) (found L) (search-left l) (search-found l) l c (L.activate s.depth g rest s.world c) (omega arith))
