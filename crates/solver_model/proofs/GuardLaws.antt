-- The active catches of a ball that leaves a search are exits among its items.
use Rattle.std.proofs.Common.{◌≡◌, ℕ, zero, suc, ◌≤◌, Bool, true, false, List, [], ◌∷◌, ◌++◌, Option, Some, None, refl, arith, ◌||◌}
use Rattle.std.specs.Prelude.{nat_lt, nat_eq}
use Rattle.solver_model.specs.Guards.{Within, Guarded, PointOk, AttemptOk, RecoverOk, AlternativesOk, FrameOk, ActivationOk, TableOk}
use Rattle.solver_model.specs.Search.{Item, End, Language, Call, Cut, Pop, Fail, Failed, CutTo, Thrown, Halted, Spent, At, Over, Tries, Catches, Collects, Ends, Opens, has, pops, verdict, cut_verdict, cut_to, answers_of, StateOf, OutcomeOf, FrameOf, PointOf, ActivationOf, Go, Next, walk, decided, after, failing, of_point, attempted, tries, recovered, caught, catching, gathered, collecting, close, opened, step, search_of, found}

module _ (L : Language) where
  abbrev pub GoOk : Go L → Type 0
  GoOk go = (s : StateOf L) (l : ℕ) (c : L.Clauses) → Guarded s.depth (pops s.items) (go s l c).ended

  NextOk : ℕ → List ℕ → Next L → Type 0
  NextOk e ps next = (l : ℕ) (c : L.Clauses) → Guarded e ps (next l c).ended

  failing-ok : (e : ℕ) (ps : List ℕ) → NextOk e ps (failing L)
  unfolding NextOk
  failing-ok e ps l c = tt

  guarded_cut : (e : ℕ) (ps : List ℕ) (b same : Bool) (k : ℕ) (r : OutcomeOf L) (next : Next L) → NextOk e ps next → Guarded e ps (decided L (cut_verdict b same k) r next).ended
  unfolding NextOk
  guarded_cut e ps true same k r next n = n r.left r.clauses
  guarded_cut e ps false true k r next n = tt
  guarded_cut e ps false false k r next n = tt

  by_end : (d e : ℕ) (ps : List ℕ) (x : End L.Ball) (r : OutcomeOf L) (next : Next L) → Guarded e ps x → NextOk e ps next → Guarded e ps (decided L (verdict d x) r next).ended
  unfolding NextOk
  by_end d e ps Failed r next g n = n r.left r.clauses
  by_end d e ps (CutTo k) r next g n = guarded_cut e ps (nat_lt d k) (nat_eq k d) k r next n
  by_end d e ps (Thrown ball active) r next g n = g
  by_end d e ps (Halted k) r next g n = tt
  by_end d e ps Spent r next g n = tt

  after-ok : (d e : ℕ) (ps : List ℕ) (r : OutcomeOf L) (next : Next L) → Guarded e ps r.ended → NextOk e ps next → Guarded e ps (after L d r next).ended
  after-ok d e ps r next g n = by_end d e ps r.ended r next g n

  weaker : (e d : ℕ) (ps qs : List ℕ) (x : End L.Ball) → e ≤ d → Within e qs ps → Guarded d qs x → Guarded e ps x
  weaker e d ps qs Failed le w g = tt
  weaker e d ps qs (CutTo k) le w g = tt
  weaker e d ps qs (Thrown ball active) le w g = λ k lt h. w k lt (g k (omega arith) h)
  weaker e d ps qs (Halted k) le w g = tt
  weaker e d ps qs Spent le w g = tt

  module _ (go : Go L) (ok : GoOk go) (e : ℕ) (ps : List ℕ) where
    of_point-ok : (p : PointOf L) → PointOk L e ps p → NextOk e ps (of_point L go p)
    unfolding NextOk
    of_point-ok (At s) h l c = weaker e s.depth ps (pops s.items) (go s l c).ended h.0 h.1 (ok s l c)
    of_point-ok (Over x) h l c = h

    attempted-ok : (d : ℕ) (o : Option (StateOf L × L.Clauses)) (next : Next L) → AttemptOk L e ps o → NextOk e ps next → NextOk e ps (attempted L go d o next)
    unfolding NextOk
    attempted-ok d None next h n l c = n l c
    attempted-ok d (Some (s, c')) next h n l c = after-ok d e ps (go s l c') next (of_point-ok (At s) h l c') n

    tries-ok : (d : ℕ) (alts : List L.Alternative) → AlternativesOk L e ps alts → NextOk e ps (tries L go d alts)
    unfolding NextOk
    tries-ok d [] h l c = tt
    tries-ok d (a ∷ alts) h l c = attempted-ok d (L.attempt a c) (tries L go d alts) (h.0 c) (tries-ok d alts h.1) l c

    recovered-ok : (d : ℕ) (o : Option (PointOf L)) (r : OutcomeOf L) → RecoverOk L e ps o → Guarded e ps r.ended → Guarded e ps (recovered L go d o r).ended
    unfolding NextOk
    recovered-ok d None r h g = g
    recovered-ok d (Some p) r h g = after-ok d e ps (of_point L go p r.left r.clauses) (failing L) (of_point-ok p h r.left r.clauses) (failing-ok e ps)

    caught-ok : (d : ℕ) (rec : L.Recovery) (ball : L.Ball) (b : Bool) (r : OutcomeOf L) → RecoverOk L e ps (L.recover rec ball) → Guarded e ps r.ended → Guarded e ps (caught L go d rec ball b r).ended
    caught-ok d rec ball true r h g = recovered-ok d (L.recover rec ball) r h g
    caught-ok d rec ball false r h g = g

    catching-ok : (d : ℕ) (rec : L.Recovery) (x : End L.Ball) (r : OutcomeOf L) → ((ball : L.Ball) → RecoverOk L e ps (L.recover rec ball)) → Guarded e ps r.ended → Guarded e ps (catching L go d rec x r).ended
    catching-ok d rec (Thrown ball active) r h g = caught-ok d rec ball (has active d) r (h ball) g
    catching-ok d rec Failed r h g = after-ok d e ps r (failing L) g (failing-ok e ps)
    catching-ok d rec (CutTo c) r h g = after-ok d e ps r (failing L) g (failing-ok e ps)
    catching-ok d rec (Halted k) r h g = after-ok d e ps r (failing L) g (failing-ok e ps)
    catching-ok d rec Spent r h g = after-ok d e ps r (failing L) g (failing-ok e ps)

    gathered-ok : (d : ℕ) (acc : List L.Answer) (f : L.Gathering) (r : OutcomeOf L) → ((ts : List L.Answer) → PointOk L e ps (L.gather f ts)) → Guarded e ps (gathered L go d acc f r).ended
    unfolding NextOk
    gathered-ok d acc f r h =
        let p : PointOf L = L.gather f (acc ++ answers_of r.events) in
        after-ok d e ps (of_point L go p r.left r.clauses) (failing L) (of_point-ok p (h (acc ++ answers_of r.events)) r.left r.clauses) (failing-ok e ps)

    collecting-ok : (d : ℕ) (acc : List L.Answer) (f : L.Gathering) (x : End L.Ball) (r : OutcomeOf L) → FrameOk L e ps (Collects d acc f) → Guarded e ps (collecting L go d acc f x r).ended
    collecting-ok d acc f (Thrown ball active) r h = h.1
    collecting-ok d acc f Failed r h = gathered-ok d acc f r h.0
    collecting-ok d acc f (CutTo c) r h = gathered-ok d acc f r h.0
    collecting-ok d acc f (Halted k) r h = tt
    collecting-ok d acc f Spent r h = tt

    close-ok : (f : FrameOf L) (r : OutcomeOf L) → FrameOk L e ps f → Guarded e ps r.ended → Guarded e ps (close L go f r).ended
    close-ok (Tries d alts) r h g = after-ok d e ps r (tries L go d alts) g (tries-ok d alts h)
    close-ok (Catches d rec) r h g = catching-ok d rec r.ended r h g
    close-ok (Collects d acc f) r h g = collecting-ok d acc f r.ended r h

    opened-ok : (l : ℕ) (c : L.Clauses) (a : ActivationOf L) → ActivationOk L e ps a → Guarded e ps (opened L go l c a).ended
    unfolding NextOk
    opened-ok l c (Ends events x) h = h
    opened-ok l c (Opens events p f) h = close-ok f (of_point L go p l c) h.1 (of_point-ok p h.0 l c)

  cut_to-ok : (e d : ℕ) (ps : List ℕ) (x : End L.Ball) → Guarded e ps x → Guarded e ps (cut_to d x)
  cut_to-ok e d ps Failed g = tt
  cut_to-ok e d ps (CutTo c) g = go (nat_lt d c)
    where
      go : (b : Bool) → Guarded {B = L.Ball} e ps (elim b [ true ↦ CutTo d | false ↦ CutTo c ])
      go true = tt
      go false = tt
  cut_to-ok e d ps (Thrown ball active) g = g
  cut_to-ok e d ps (Halted k) g = tt
  cut_to-ok e d ps Spent g = tt

  -- more exits among the items
  more_exits : (e d : ℕ) (ps : List ℕ) (x : End L.Ball) → Guarded e ps x → Guarded e (d ∷ ps) x
  more_exits e d ps Failed g = tt
  more_exits e d ps (CutTo c) g = tt
  more_exits e d ps (Thrown ball active) g = λ k lt h. let q : has ps k ≡ true = g k lt h in either (nat_eq d k) (has ps k) q
    where
      either : (b c : Bool) → c ≡ true → (b || c) ≡ true
      either true c h = refl
      either false c h = h
  more_exits e d ps (Halted k) g = tt
  more_exits e d ps Spent g = tt

  walk-ok : (e : ℕ) (call : L.Goal → List (Item L.Goal) → OutcomeOf L) (answer fail : OutcomeOf L) (items : List (Item L.Goal)) → ((g : L.Goal) (rest : List (Item L.Goal)) → Guarded e (pops rest) (call g rest).ended) → Guarded e [] answer.ended → ((ps : List ℕ) → Guarded e ps fail.ended) → Guarded e (pops items) (walk L call answer fail items).ended
  walk-ok e call answer fail [] h a f = a
  walk-ok e call answer fail (Call g ∷ rest) h a f = h g rest
  walk-ok e call answer fail (Cut d ∷ rest) h a f = cut_to-ok e d (pops rest) (walk L call answer fail rest).ended (walk-ok e call answer fail rest h a f)
  walk-ok e call answer fail (Pop d ∷ rest) h a f = more_exits e d (pops rest) (walk L call answer fail rest).ended (walk-ok e call answer fail rest h a f)
  walk-ok e call answer fail (Fail ∷ rest) h a f = f (pops rest)

  module _ (table : TableOk L) where
    step-ok : (go : Go L) → GoOk go → (e : ℕ) (w : L.World) (l : ℕ) (c : L.Clauses) (g : L.Goal) (rest : List (Item L.Goal)) → Guarded e (pops rest) (step L go e w l c g rest).ended
    step-ok go ok e w zero c g rest = tt
    step-ok go ok e w (suc l) c g rest = opened-ok go ok e (pops rest) l c (L.activate e g rest w c) (table e g rest w c)

    pub search-ok : (n : ℕ) → GoOk (search_of L n)
    search-ok zero s l c = walk-ok s.depth _ _ _ s.items (λ g rest. tt) tt (λ ps. tt)
    search-ok (suc n) s l c = walk-ok s.depth _ _ _ s.items (λ g rest. step-ok (search_of L n) (search-ok n) s.depth s.world l c g rest) tt (λ ps. tt)

    -- a ball that leaves a search is caught by no catch whose exit isn't among the items
    pub found-ok : GoOk (found L)
    found-ok s l c = search-ok l s l c
