-- A search with more steps gives the same, or goes on where the other had none left.
use Rattle.std.proofs.Common.{◌≡◌, ℕ, zero, suc, ◌+◌, ◌≤◌, Bool, true, false, List, [], ◌∷◌, ◌++◌, Option, Some, None, refl, sym, ap, ◌∙◌, subst, arith, append_assoc}
use Rattle.solver_model.specs.Search.{Item, Event, End, Verdict, Language, Call, Cut, Pop, Fail, Failed, CutTo, Thrown, Halted, Spent, At, Over, Tries, Catches, Collects, Ends, Opens, GoOn, Stop, has, verdict, cut_to, outs_of, answers_of, StateOf, OutcomeOf, FrameOf, PointOf, ActivationOf, Go, Next, ends, prepend, ended_by, walk, decided, after, failing, of_point, attempted, tries, recovered, caught, catching, gathered, collecting, close, opened, step, search_of, found}
use Rattle.solver_model.specs.ValueLaws.{Begins, Longer, spent, same}
use Rattle.solver_model.proofs.SearchLaws.{of_point-left, search-left, found-call}
use Rattle.solver_model.proofs.FrameLaws.{append-nil, outs_of-append}

module _ (L : Language) (k : ℕ) where
  abbrev LongerUpTo : ℕ → Next L → Next L → Type 0
  LongerUpTo m next next' = (l : ℕ) (c : L.Clauses) → l ≤ m → Longer L k (next l c) (next' (l + k) c)

  begins_more : (a b c : List (Event L.Answer)) → Begins L a b → Begins L a (b ++ c)
  begins_more a b c h = (h.0 ++ c, ap (λ l. l ++ c) h.1 ∙ append_assoc a h.0 c)

  longer-prepend : (a : List (Event L.Answer)) (r r' : OutcomeOf L) → Longer L k r r' → Longer L k (prepend L a r) (prepend L a r')
  longer-prepend a r r' (spent e b) = spent e (b.0, ap (λ l. a ++ l) b.1 ∙ sym (append_assoc a r.events b.0))
  longer-prepend a r r' (same e l c x) = same (ap (λ l. a ++ l) e) l c x

  decided-begins : (v : Verdict L.Ball) (r : OutcomeOf L) (next : Next L) → Begins L r.events (decided L v r next).events
  decided-begins GoOn r next = ((next r.left r.clauses).events, refl)
  decided-begins (Stop x) r next = ([], sym (append-nil r.events))

  decided-longer : (v : Verdict L.Ball) (r r' : OutcomeOf L) (next next' : Next L) → LongerUpTo r.left next next' → r'.events ≡ r.events → r'.left ≡ r.left + k → r'.clauses ≡ r.clauses → Longer L k (decided L v r next) (decided L v r' next')
  decided-longer GoOn r r' next next' n e l c =
      let h = longer-prepend r.events (next r.left r.clauses) (next' (r.left + k) r.clauses) (n r.left r.clauses (omega arith)) in
      let P : List (Event L.Answer) → ℕ → L.Clauses → Type 0 = λ ev m d. Longer L k (prepend L r.events (next r.left r.clauses)) (prepend L ev (next' m d)) in
      subst (λ d. P r'.events r'.left d) (sym c) (subst (λ m. P r'.events m r.clauses) (sym l) (subst (λ ev. P ev (r.left + k) r.clauses) (sym e) h))
  decided-longer (Stop x) r r' next next' n e l c = same e l c refl

  after-longer : (d : ℕ) (r r' : OutcomeOf L) (next next' : Next L) → LongerUpTo r.left next next' → Longer L k r r' → Longer L k (after L d r next) (after L d r' next')
  after-longer d r r' next next' n (spent e b) =
      let here : after L d r next ≡ ends L r.events Spent r.left r.clauses = ap (λ x. decided L (verdict d x) r next) e in
      let more = decided-begins (verdict d r'.ended) r' next' in
      let far : Begins L r.events (after L d r' next').events = subst (Begins L r.events) (sym more.1) (begins_more r.events r'.events more.0 b) in
      subst (λ q. Longer L k q (after L d r' next')) (sym here) (spent refl far)
  after-longer d r r' next next' n (same e l c x) =
      let h = decided-longer (verdict d r.ended) r r' next next' n e l c in
      subst (λ y. Longer L k (after L d r next) (decided L (verdict d y) r' next')) (sym x) h

  failing-longer : (m : ℕ) → LongerUpTo m (failing L) (failing L)
  failing-longer m l c le = same refl refl refl refl

  module _ (m : ℕ) (go go' : Go L) (lowers : (s : StateOf L) (l : ℕ) (c : L.Clauses) → (go s l c).left ≤ l) (longer : (s : StateOf L) → LongerUpTo m (go s) (go' s)) where
    of_point-longer : (p : PointOf L) → LongerUpTo m (of_point L go p) (of_point L go' p)
    of_point-longer (At s) l c le = longer s l c le
    of_point-longer (Over x) l c le = same refl refl refl refl

    attempted-longer : (d : ℕ) (o : Option (StateOf L × L.Clauses)) (next next' : Next L) → LongerUpTo m next next' → LongerUpTo m (attempted L go d o next) (attempted L go' d o next')
    attempted-longer d None next next' n l c le = n l c le
    attempted-longer d (Some (s, c')) next next' n l c le =
        let low : (go s l c').left ≤ l = lowers s l c' in
        after-longer d (go s l c') (go' s (l + k) c') next next' (λ l' c'' le'. n l' c'' (omega arith)) (longer s l c' le)

    tries-longer : (d : ℕ) (alts : List L.Alternative) → LongerUpTo m (tries L go d alts) (tries L go' d alts)
    tries-longer d [] l c le = same refl refl refl refl
    tries-longer d (a ∷ alts) l c le = attempted-longer d (L.attempt a c) (tries L go d alts) (tries L go' d alts) (tries-longer d alts) l c le

    more_of : OutcomeOf L → OutcomeOf L
    more_of r = ends L r.events r.ended (r.left + k) r.clauses

    recovered-longer : (d : ℕ) (o : Option (PointOf L)) (r : OutcomeOf L) → r.left ≤ m → Longer L k (recovered L go d o r) (recovered L go' d o (more_of r))
    unfolding more_of
    recovered-longer d None r le = same refl refl refl refl
    recovered-longer d (Some p) r le =
        longer-prepend r.events _ _ (after-longer d (of_point L go p r.left r.clauses) (of_point L go' p (r.left + k) r.clauses) (failing L) (failing L) (failing-longer _) (of_point-longer p r.left r.clauses le))

    caught-longer : (d : ℕ) (rec : L.Recovery) (ball : L.Ball) (b : Bool) (r : OutcomeOf L) → r.left ≤ m → Longer L k (caught L go d rec ball b r) (caught L go' d rec ball b (more_of r))
    unfolding more_of
    caught-longer d rec ball true r le = recovered-longer d (L.recover rec ball) r le
    caught-longer d rec ball false r le = same refl refl refl refl

    catching-longer : (d : ℕ) (rec : L.Recovery) (x : End L.Ball) (r : OutcomeOf L) → r.left ≤ m → Longer L k (catching L go d rec x r) (catching L go' d rec x (more_of r))
    unfolding more_of
    catching-longer d rec (Thrown ball active) r le = caught-longer d rec ball (has active d) r le
    catching-longer d rec Failed r le = after-longer d r _ (failing L) (failing L) (failing-longer _) (same refl refl refl refl)
    catching-longer d rec (CutTo c) r le = after-longer d r _ (failing L) (failing L) (failing-longer _) (same refl refl refl refl)
    catching-longer d rec (Halted z) r le = after-longer d r _ (failing L) (failing L) (failing-longer _) (same refl refl refl refl)
    catching-longer d rec Spent r le = after-longer d r _ (failing L) (failing L) (failing-longer _) (same refl refl refl refl)

    gathered-longer : (d : ℕ) (acc : List L.Answer) (f : L.Gathering) (r : OutcomeOf L) → r.left ≤ m → Longer L k (gathered L go d acc f r) (gathered L go' d acc f (more_of r))
    unfolding more_of
    gathered-longer d acc f r le =
        let p : PointOf L = L.gather f (acc ++ answers_of r.events) in
        longer-prepend (outs_of r.events) _ _ (after-longer d (of_point L go p r.left r.clauses) (of_point L go' p (r.left + k) r.clauses) (failing L) (failing L) (failing-longer _) (of_point-longer p r.left r.clauses le))

    collecting-longer : (d : ℕ) (acc : List L.Answer) (f : L.Gathering) (x : End L.Ball) (r : OutcomeOf L) → r.left ≤ m → Longer L k (collecting L go d acc f x r) (collecting L go' d acc f x (more_of r))
    unfolding more_of
    collecting-longer d acc f (Thrown ball active) r le = same refl refl refl refl
    collecting-longer d acc f Failed r le = gathered-longer d acc f r le
    collecting-longer d acc f (CutTo c) r le = gathered-longer d acc f r le
    collecting-longer d acc f (Halted z) r le = same refl refl refl refl
    collecting-longer d acc f Spent r le = same refl refl refl refl

    close-more : (f : FrameOf L) (r : OutcomeOf L) → r.left ≤ m → Longer L k (close L go f r) (close L go' f (more_of r))
    unfolding more_of
    close-more (Tries d alts) r le =
        after-longer d r _ (tries L go d alts) (tries L go' d alts) (λ l c le'. tries-longer d alts l c (omega arith)) (same refl refl refl refl)
    close-more (Catches d rec) r le = catching-longer d rec r.ended r le
    close-more (Collects d acc f) r le = collecting-longer d acc f r.ended r le

    recovered-begins : (d : ℕ) (o : Option (PointOf L)) (r : OutcomeOf L) → Begins L r.events (recovered L go' d o r).events
    recovered-begins d None r = ([], sym (append-nil r.events))
    recovered-begins d (Some p) r = ((after L d (of_point L go' p r.left r.clauses) (failing L)).events, refl)

    catching-begins : (d : ℕ) (rec : L.Recovery) (x : End L.Ball) (r : OutcomeOf L) → Begins L r.events (catching L go' d rec x r).events
    catching-begins d rec (Thrown ball active) r = by_test (has active d)
      where
        by_test : (b : Bool) → Begins L r.events (caught L go' d rec ball b r).events
        by_test true = recovered-begins d (L.recover rec ball) r
        by_test false = ([], sym (append-nil r.events))
    catching-begins d rec Failed r = decided-begins (verdict d r.ended) r (failing L)
    catching-begins d rec (CutTo c) r = decided-begins (verdict d r.ended) r (failing L)
    catching-begins d rec (Halted z) r = decided-begins (verdict d r.ended) r (failing L)
    catching-begins d rec Spent r = decided-begins (verdict d r.ended) r (failing L)

    collecting-begins : (d : ℕ) (acc : List L.Answer) (f : L.Gathering) (x : End L.Ball) (r : OutcomeOf L) → Begins L (outs_of r.events) (collecting L go' d acc f x r).events
    collecting-begins d acc f (Thrown ball active) r = ([], sym (append-nil (outs_of r.events)))
    collecting-begins d acc f Failed r = ((after L d (of_point L go' (L.gather f (acc ++ answers_of r.events)) r.left r.clauses) (failing L)).events, refl)
    collecting-begins d acc f (CutTo c) r = ((after L d (of_point L go' (L.gather f (acc ++ answers_of r.events)) r.left r.clauses) (failing L)).events, refl)
    collecting-begins d acc f (Halted z) r = ([], sym (append-nil (outs_of r.events)))
    collecting-begins d acc f Spent r = ([], sym (append-nil (outs_of r.events)))

    joined : (a b c : List (Event L.Answer)) → Begins L a b → Begins L b c → Begins L a c
    joined a b c h j = subst (Begins L a) (sym j.1) (begins_more a b j.0 h)

    outs-begins : (a b : List (Event L.Answer)) → Begins L a b → Begins L (outs_of a) (outs_of b)
    outs-begins a b h = (outs_of h.0, ap outs_of h.1 ∙ outs_of-append a h.0)

    spent-close : (f : FrameOf L) (r r' : OutcomeOf L) → r.ended ≡ Spent → Begins L r.events r'.events → Longer L k (close L go f r) (close L go' f r')
    spent-close (Tries d alts) r r' e b =
        let here : close L go (Tries d alts) r ≡ ends L r.events Spent r.left r.clauses = ap (λ x. close L go (Tries d alts) (ends L r.events x r.left r.clauses)) e in
        subst (λ q. Longer L k q (close L go' (Tries d alts) r')) (sym here) (spent refl (joined r.events r'.events _ b (decided-begins (verdict d r'.ended) r' (tries L go' d alts))))
    spent-close (Catches d rec) r r' e b =
        let here : close L go (Catches d rec) r ≡ ends L r.events Spent r.left r.clauses = ap (λ x. close L go (Catches d rec) (ends L r.events x r.left r.clauses)) e in
        subst (λ q. Longer L k q (close L go' (Catches d rec) r')) (sym here) (spent refl (joined r.events r'.events _ b (catching-begins d rec r'.ended r')))
    spent-close (Collects d acc f) r r' e b =
        let here : close L go (Collects d acc f) r ≡ ends L (outs_of r.events) Spent r.left r.clauses = ap (λ x. close L go (Collects d acc f) (ends L r.events x r.left r.clauses)) e in
        subst (λ q. Longer L k q (close L go' (Collects d acc f) r')) (sym here) (spent refl (joined (outs_of r.events) (outs_of r'.events) _ (outs-begins r.events r'.events b) (collecting-begins d acc f r'.ended r')))

    as_more : (r r' : OutcomeOf L) → r'.events ≡ r.events → r'.left ≡ r.left + k → r'.clauses ≡ r.clauses → r'.ended ≡ r.ended → r' ≡ more_of r
    unfolding more_of
    as_more r r' e l c x =
        ap (λ v. ends L v r'.ended r'.left r'.clauses) e
        ∙ ap (λ v. ends L r.events r'.ended v r'.clauses) l
        ∙ ap (λ v. ends L r.events r'.ended (r.left + k) v) c
        ∙ ap (λ v. ends L r.events v (r.left + k) r.clauses) x

    close-longer : (f : FrameOf L) (r r' : OutcomeOf L) → r.left ≤ m → Longer L k r r' → Longer L k (close L go f r) (close L go' f r')
    close-longer f r r' le (spent e b) = spent-close f r r' e b
    close-longer f r r' le (same e l c x) = subst (λ q. Longer L k (close L go f r) (close L go' f q)) (sym (as_more r r' e l c x)) (close-more f r le)

    opened-longer : (l : ℕ) (c : L.Clauses) (a : ActivationOf L) → l ≤ m → Longer L k (opened L go l c a) (opened L go' (l + k) c a)
    opened-longer l c (Ends events x) le = same refl refl refl refl
    opened-longer l c (Opens events p f) le =
        let low : (of_point L go p l c).left ≤ l = of_point-left L go p lowers l c in
        longer-prepend events _ _ (close-longer f (of_point L go p l c) (of_point L go' p (l + k) c) (omega arith) (of_point-longer p l c le))

  step-longer : (m : ℕ) (go go' : Go L) → ((s : StateOf L) (l : ℕ) (c : L.Clauses) → (go s l c).left ≤ l) → ((s : StateOf L) → LongerUpTo m (go s) (go' s)) → (e : ℕ) (w : L.World) (l l' : ℕ) (c : L.Clauses) (g : L.Goal) (rest : List (Item L.Goal)) → l ≤ suc m → l' ≡ l + k → Longer L k (step L go e w l c g rest) (step L go' e w l' c g rest)
  step-longer m go go' lo h e w zero l' c g rest le eq = spent refl ((step L go' e w l' c g rest).events, refl)
  step-longer m go go' lo h e w (suc l) l' c g rest le eq =
      let n : l' ≡ suc (l + k) = omega arith in
      subst (λ v. Longer L k (step L go e w (suc l) c g rest) (step L go' e w v c g rest)) (sym n) (opened-longer m go go' lo h l c (L.activate e g rest w c) (omega arith))

  cut-longer : (d : ℕ) (r r' : OutcomeOf L) → Longer L k r r' → Longer L k (ended_by L (cut_to d) r) (ended_by L (cut_to d) r')
  cut-longer d r r' (spent e b) = spent (ap (cut_to d) e) b
  cut-longer d r r' (same e l c x) = same e l c (ap (cut_to d) x)

  walk-longer : (call call' : L.Goal → List (Item L.Goal) → OutcomeOf L) (answer answer' fail fail' : OutcomeOf L) (items : List (Item L.Goal)) → ((g : L.Goal) (rest : List (Item L.Goal)) → Longer L k (call g rest) (call' g rest)) → Longer L k answer answer' → Longer L k fail fail' → Longer L k (walk L call answer fail items) (walk L call' answer' fail' items)
  walk-longer call call' answer answer' fail fail' [] h a f = a
  walk-longer call call' answer answer' fail fail' (Call g ∷ rest) h a f = h g rest
  walk-longer call call' answer answer' fail fail' (Cut d ∷ rest) h a f = cut-longer d _ _ (walk-longer call call' answer answer' fail fail' rest h a f)
  walk-longer call call' answer answer' fail fail' (Pop d ∷ rest) h a f = walk-longer call call' answer answer' fail fail' rest h a f
  walk-longer call call' answer answer' fail fail' (Fail ∷ rest) h a f = f

  search-longer : (n : ℕ) (s : StateOf L) → LongerUpTo n (search_of L n s) (found L s)
  search-longer zero s l c le =
      subst (Longer L k (search_of L zero s l c)) (sym (found-call L s (l + k) c))
      (walk-longer _ _ _ _ _ _ s.items (λ g rest. spent refl ((step L (found L) s.depth s.world (l + k) c g rest).events, refl)) (same refl refl refl refl) (same refl refl refl refl))
  search-longer (suc n) s l c le =
      subst (Longer L k (search_of L (suc n) s l c)) (sym (found-call L s (l + k) c))
      (walk-longer _ _ _ _ _ _ s.items (λ g rest. step-longer n (search_of L n) (found L) (search-left L n) (search-longer n) s.depth s.world l (l + k) c g rest le refl) (same refl refl refl refl) (same refl refl refl refl))

  -- with k steps more the events begin with these, and all is the same unless these steps were spent
  pub found-longer : (s : StateOf L) (l : ℕ) (c : L.Clauses) → Longer L k (found L s l c) (found L s (l + k) c)
  found-longer s l c = search-longer l s l c (omega arith)

  pub found-begins : (s : StateOf L) (l : ℕ) (c : L.Clauses) → (more : List (Event L.Answer)) × ((found L s (l + k) c).events ≡ (found L s l c).events ++ more)
  found-begins s l c = go (found L s l c) (found L s (l + k) c) (found-longer s l c)
    where
      go : (r r' : OutcomeOf L) → Longer L k r r' → Begins L r.events r'.events
      go r r' (spent e b) = b
      go r r' (same e l c x) = ([], e ∙ sym (append-nil r.events))
