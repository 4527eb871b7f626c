-- The moves of a plain stack.
use Rattle.std.proofs.Common.{◌≡◌, ℕ, ℤ, suc, ◌+◌, ◌<◌, ◌≤◌, Bool, true, false, List, [], ◌∷◌, Option, Some, None, refl, sym, ap, ◌∙◌, subst, arith, ◌⊎◌, inl, inr, ◌||◌}
use Rattle.std.specs.Prelude.{nat_lt, nat_eq}
use Rattle.std.proofs.lemmas.Bool.{eqb-true}
use Rattle.solver_model.specs.Search.{Item, End, Language, Call, Cut, Pop, Fail, Failed, CutTo, Thrown, Halted, Spent, At, Over, Tries, Catches, Collects, Ends, Opens, FrameOf, PointOf, depth_of, has, pops, found, prepend}
use Rattle.solver_model.specs.Frames.{Falls, below, value, emit, heard}
use Rattle.solver_model.proofs.FrameLaws.{spent_move, NoGathering, Quiet, drop_move, call_move, cut_move, pop_move, fail_move, after_call, back_move, after_back, append-nil, throw_move, after_throw, gather_move}
use Rattle.solver_model.specs.Configurations.{Configuration, Chain, AllBelow, Ungathered, ItemsOk, SaneAt, AttemptSane, RecoverSane, FramesSane, Sane, ActivationSane, TableSane, Turns, untried_in, weight, taken, unwound}
use Rattle.solver_model.specs.Guards.{TableOk, Guarded, Within}
use Rattle.solver_model.proofs.GuardLaws.{found-ok}

-- numbers that differ
ne-eqb : (a b : ℕ) → (a ≡ b → ⊥) → nat_eq a b ≡ false
ne-eqb a b h = go (nat_eq a b) refl
  where
    go : (t : Bool) → nat_eq a b ≡ t → t ≡ false
    go true p = absurd (h (eqb-true a b p))
    go false p = refl

module _ (L : Language) where
  abbrev pub stands : PointOf L → ℕ → L.Clauses → List (FrameOf L) → Configuration L
  stands p l c fs = record { point = p; left = l; clauses = c; frames = fs }

  pub turns_none : (x : Configuration L) → Turns L x x
  turns_none x = record { value = λ s. refl; sane = λ s. s; left = omega arith; lighter = λ e. omega arith }

  pub turns_then : (x y z : Configuration L) → Turns L x y → Turns L y z → Turns L x z
  turns_then x y z a b = record {
    value = λ s. b.value (a.sane s) ∙ a.value s;
    sane = λ s. b.sane (a.sane s);
    left = omega (arith, a.left, b.left);
    lighter = λ e.
        let i : y.left ≡ x.left = omega (arith, e, a.left, b.left) in
        let j : z.left ≡ y.left = omega (arith, e, a.left, b.left) in
        omega (arith, a.lighter i, b.lighter j);
  }

  pub turns_same : (x y : Configuration L) → x ≡ y → Turns L x y
  turns_same x y e = subst (λ z. Turns L x z) e (turns_none x)

  emit-nil : (fs : List (FrameOf L)) → emit L [] fs ≡ fs
  emit-nil [] = refl
  emit-nil (Tries e alts ∷ fs) = ap (λ l. Tries e alts ∷ l) (emit-nil fs)
  emit-nil (Catches e rec ∷ fs) = ap (λ l. Catches e rec ∷ l) (emit-nil fs)
  emit-nil (Collects e acc f ∷ fs) = ap (λ l. Collects e l f ∷ fs) (append-nil acc)

  heard-nil : (fs : List (FrameOf L)) → heard L [] fs ≡ []
  heard-nil [] = refl
  heard-nil (Tries e alts ∷ fs) = heard-nil fs
  heard-nil (Catches e rec ∷ fs) = heard-nil fs
  heard-nil (Collects e acc f ∷ fs) = refl

  pub Falls-wider : (e k : ℕ) (fs : List (FrameOf L)) → e ≤ k → Falls e fs → Falls k fs
  Falls-wider e k [] h f = tt
  Falls-wider e k (f ∷ fs) h s = (omega (arith, s.0), s.1)

  pub chain_falls : (e : ℕ) (fs : List (FrameOf L)) → Falls e fs → Chain L fs
  chain_falls e [] s = tt
  chain_falls e (f ∷ fs) s = s.1

  pub chain_of : (fs : List (FrameOf L)) → FramesSane L fs → Chain L fs
  chain_of [] s = tt
  chain_of (f ∷ fs) s = s.0

  pub below_wider : (d e : ℕ) (ks : List ℕ) → d ≤ e → AllBelow L d ks → AllBelow L e ks
  below_wider d e [] le h = tt
  below_wider d e (k ∷ ks) le h = (omega (arith, h.0, le), below_wider d e ks le h.1)

  -- no frame of depth e and above gathers where all are below e
  pub falls_ungathered : (e d : ℕ) (fs : List (FrameOf L)) → e ≤ d → Falls e fs → Ungathered L d fs
  falls_ungathered e d [] le h = tt
  falls_ungathered e d (Tries k alts ∷ fs) le h = falls_ungathered k d fs (omega (arith, h.0, le)) h.1
  falls_ungathered e d (Catches k rec ∷ fs) le h = falls_ungathered k d fs (omega (arith, h.0, le)) h.1
  falls_ungathered e d (Collects k acc f ∷ fs) le h = (omega (arith, h.0, le), falls_ungathered k d fs (omega (arith, h.0, le)) h.1)

  no_gathering_of : (d : ℕ) (fs : List (FrameOf L)) → Ungathered L d fs → NoGathering d fs
  no_gathering_of d [] h = tt
  no_gathering_of d (Tries e alts ∷ fs) h = (λ _. tt, no_gathering_of d fs h)
  no_gathering_of d (Catches e rec ∷ fs) h = (λ _. tt, no_gathering_of d fs h)
  no_gathering_of d (Collects e acc f ∷ fs) h = (λ le. absurd (omega (arith, le, h.0)), no_gathering_of d fs h.1)

  ungathered-below : (d k : ℕ) (fs : List (FrameOf L)) → Ungathered L d fs → Ungathered L d (below k fs)
  ungathered-below d k [] h = tt
  ungathered-below d k (f ∷ fs) h = go f h (λ i. ungathered-below d k fs i) (nat_lt (depth_of f) k)
    where
      go : (f : FrameOf L) → Ungathered L d (f ∷ fs) → (Ungathered L d fs → Ungathered L d (below k fs)) → (b : Bool) → Ungathered L d (elim b [ true ↦ f ∷ fs | false ↦ below k fs ])
      go f h ih true = h
      go (Tries e alts) h ih false = ih h
      go (Catches e rec) h ih false = ih h
      go (Collects e acc f) h ih false = ih h.1

  items-below : (k : ℕ) (fs : List (FrameOf L)) (items : List (Item L.Goal)) → ItemsOk L fs items → ItemsOk L (below k fs) items
  items-below k fs [] h = tt
  items-below k fs (Call g ∷ rest) h = ((h.0.0, ungathered-below (L.cut g) k fs h.0.1), items-below k fs rest h.1)
  items-below k fs (Cut d ∷ rest) h = ((h.0.0, ungathered-below d k fs h.0.1), items-below k fs rest h.1)
  items-below k fs (Pop d ∷ rest) h = (h.0, items-below k fs rest h.1)
  items-below k fs (Fail ∷ rest) h = items-below k fs rest h

  -- a frame of alternatives in front changes nothing of the items
  items-tries : (e : ℕ) (alts : List L.Alternative) (fs : List (FrameOf L)) (items : List (Item L.Goal)) → ItemsOk L fs items → ItemsOk L (Tries e alts ∷ fs) items
  items-tries e alts fs [] h = tt
  items-tries e alts fs (Call g ∷ rest) h = (h.0, items-tries e alts fs rest h.1)
  items-tries e alts fs (Cut d ∷ rest) h = (h.0, items-tries e alts fs rest h.1)
  items-tries e alts fs (Pop d ∷ rest) h = (h.0, items-tries e alts fs rest h.1)
  items-tries e alts fs (Fail ∷ rest) h = items-tries e alts fs rest h

  frames-below : (k : ℕ) (fs : List (FrameOf L)) → FramesSane L fs → FramesSane L (below k fs)
  frames-below k [] h = tt
  frames-below k (f ∷ fs) h = go (frames-below k fs h.2) (nat_lt (depth_of f) k)
    where
      go : FramesSane L (below k fs) → (b : Bool) → FramesSane L (elim b [ true ↦ f ∷ fs | false ↦ below k fs ])
      go ih true = h
      go ih false = ih

  has_not : (d k : ℕ) (ps : List ℕ) → d ≤ k → AllBelow L d ps → has ps k ≡ false
  has_not d k [] le h = refl
  has_not d k (x ∷ ps) le h =
      let ne : nat_eq x k ≡ false = ne-eqb x k (λ e. absurd (omega (arith, e, le, h.0))) in
      ap (λ b. b || has ps k) ne ∙ has_not d k ps le h.1

  -- an end of a search from here on is caught by no catch from d on
  quiet_of : (table : TableOk L) (d e : ℕ) (rest : List (Item L.Goal)) (w : L.World) (l : ℕ) (c : L.Clauses) → AllBelow L d (pops rest) → Quiet L d e (found L (record { depth = e; items = rest; world = w }) l c).ended
  quiet_of table d e rest w l c h =
      go (found L (record { depth = e; items = rest; world = w }) l c).ended (found-ok L table (record { depth = e; items = rest; world = w }) l c)
    where
      out : (active : List ℕ) → Within e active (pops rest) → (k : ℕ) → d ≤ k → k < e → has active k ≡ false
      out active within k le lt = by_test (has active k) refl
        where
          by_test : (b : Bool) → has active k ≡ b → b ≡ false
          by_test true p = let q : has (pops rest) k ≡ true = within k lt p in let r : has (pops rest) k ≡ false = has_not d k (pops rest) le h in sym q ∙ r
          by_test false p = refl

      go : (x : End L.Ball) → Guarded e (pops rest) x → Quiet L d e x
      go Failed g = λ k a b. tt
      go (CutTo k) g = λ k a b. tt
      go (Thrown ball active) g = out active g
      go (Halted k) g = λ k a b. tt
      go Spent g = λ k a b. tt

  -- a goal that stands first is activated
  pub turn_call : (e l : ℕ) (w : L.World) (c : L.Clauses) (g : L.Goal) (rest : List (Item L.Goal)) (fs : List (FrameOf L)) (p : PointOf L) (f : FrameOf L) → L.activate e g rest w c ≡ Opens [] p f → TableSane L → Turns L (stands (At (record { depth = e; items = Call g ∷ rest; world = w })) (suc l) c fs) (stands p l c (f ∷ fs))
  turn_call e l w c g rest fs p f is table =
      let same = call_move L e w c fs g rest l
      ∙ ap (after_call L l c fs) is
      ∙ ap (λ h. prepend L h (value L p l c (f ∷ emit L [] fs))) (heard-nil fs)
      ∙ ap (λ k. value L p l c (f ∷ k)) (emit-nil fs) in
      record { value = λ s. sym same; sane = called is table; left = omega arith; lighter = λ e. absurd (omega (arith, e)) }
    where
      called : L.activate e g rest w c ≡ Opens [] p f → TableSane L → Sane L (stands (At (record { depth = e; items = Call g ∷ rest; world = w })) (suc l) c fs) → Sane L (stands p l c (f ∷ fs))
      called is table s =
          let act : ActivationSane L e fs (Opens [] p f) = subst (ActivationSane L e fs) is (table e g rest w c fs s.0.0 s.0.1 s.0.2.0 s.0.2.1) in
          (act.1, (subst (λ d. Falls d fs) (sym act.0) s.0.0, act.2, s.1))

  -- an alternative that is none
  pub turn_skip : (e l : ℕ) (c : L.Clauses) (a : L.Alternative) (alts : List L.Alternative) (fs : List (FrameOf L)) → L.attempt a c ≡ None → Turns L (stands (Over Failed) l c (Tries e (a ∷ alts) ∷ fs)) (stands (Over Failed) l c (Tries e alts ∷ fs))
  turn_skip e l c a alts fs is = record { value = λ s. sym (back_move L l c e a alts fs ∙ ap (after_back L l c e alts fs) is); sane = λ s. (s.0, (s.1.0, s.1.1.1, s.1.2)); left = omega arith; lighter = λ e. omega arith }

  -- an alternative is taken, and others are left
  pub turn_take : (e l : ℕ) (c d : L.Clauses) (a : L.Alternative) (items : List (Item L.Goal)) (w : L.World) (alts : List L.Alternative) (fs : List (FrameOf L)) → L.attempt a c ≡ Some (record { depth = e + 1; items = items; world = w }, d) → Turns L (stands (Over Failed) l c (Tries e (a ∷ alts) ∷ fs)) (stands (At (record { depth = e + 1; items = items; world = w })) l d (Tries e alts ∷ fs))
  turn_take e l c d a items w alts fs is = record {
    value = λ s. sym (back_move L l c e a alts fs ∙ ap (after_back L l c e alts fs) is);
    sane = λ s.
        let t : AttemptSane L e fs (Some (record { depth = e + 1; items = items; world = w }, d)) = subst (AttemptSane L e fs) is (s.1.1.0 c) in
        (((omega arith, s.1.0), t.1.1, items-tries e alts fs items t.1.2), (s.1.0, s.1.1.1, s.1.2));
    left = omega arith;
    lighter = λ e. omega arith;
  }

  -- the last alternative is taken
  pub turn_last : (e l : ℕ) (c d : L.Clauses) (a : L.Alternative) (items : List (Item L.Goal)) (w : L.World) (fs : List (FrameOf L)) → L.attempt a c ≡ Some (record { depth = e + 1; items = items; world = w }, d) → Turns L (stands (Over Failed) l c (Tries e (a ∷ []) ∷ fs)) (stands (At (record { depth = e + 1; items = items; world = w })) l d fs)
  turn_last e l c d a items w fs is = record {
    value = λ s. sym (drop_move L (At (record { depth = e + 1; items = items; world = w })) l d e fs s.1.0) ∙ Turns.value (turn_take e l c d a items w [] fs is) s;
    sane = λ s.
        let t : AttemptSane L e fs (Some (record { depth = e + 1; items = items; world = w }, d)) = subst (AttemptSane L e fs) is (s.1.1.0 c) in
        (t.1, s.1.2);
    left = omega arith;
    lighter = λ e. omega arith;
  }

  -- no alternative is left
  pub turn_done : (e l : ℕ) (c : L.Clauses) (fs : List (FrameOf L)) → Turns L (stands (Over Failed) l c (Tries e [] ∷ fs)) (stands (Over Failed) l c fs)
  turn_done e l c fs = record { value = λ s. refl; sane = λ s. ((chain_falls e fs s.1.0, tt), s.1.2); left = omega arith; lighter = λ e. omega arith }

  pub turn_fail : (e l : ℕ) (w : L.World) (c : L.Clauses) (rest : List (Item L.Goal)) (fs : List (FrameOf L)) → Turns L (stands (At (record { depth = e; items = Fail ∷ rest; world = w })) l c fs) (stands (Over Failed) l c fs)
  turn_fail e l w c rest fs = record { value = λ s. sym (fail_move L e w c fs rest l); sane = λ s. ((chain_falls e fs s.0.0, tt), s.1); left = omega arith; lighter = λ e. omega arith }

  Falls-below : (e d : ℕ) (fs : List (FrameOf L)) → Falls e fs → Falls e (below d fs)
  Falls-below e d [] s = tt
  Falls-below e d (f ∷ fs) s = go (Falls-wider (depth_of f) e (below d fs) (omega (arith, s.0)) (Falls-below (depth_of f) d fs s.1)) (nat_lt (depth_of f) d)
    where
      go : Falls e (below d fs) → (b : Bool) → Falls e (elim b [ true ↦ f ∷ fs | false ↦ below d fs ])
      go h true = s
      go h false = h

  below-fewer : (d : ℕ) (fs : List (FrameOf L)) → untried_in L (below d fs) ≤ untried_in L fs
  below-fewer d [] = omega arith
  below-fewer d (f ∷ fs) = go f (below-fewer d fs) (nat_lt (depth_of f) d)
    where
      go : (f : FrameOf L) → untried_in L (below d fs) ≤ untried_in L fs → (b : Bool) → untried_in L (elim b [ true ↦ f ∷ fs | false ↦ below d fs ]) ≤ untried_in L (f ∷ fs)
      go (Tries e alts) h true = omega arith
      go (Tries e alts) h false = omega (arith, h)
      go (Catches e rec) h true = omega arith
      go (Catches e rec) h false = omega (arith, h)
      go (Collects e acc f) h true = omega arith
      go (Collects e acc f) h false = omega (arith, h)

  -- a cut
  pub turn_cut : TableOk L → (e l d : ℕ) (w : L.World) (c : L.Clauses) (rest : List (Item L.Goal)) (fs : List (FrameOf L)) → Turns L (stands (At (record { depth = e; items = Cut d ∷ rest; world = w })) l c fs) (stands (At (record { depth = e; items = rest; world = w })) l c (below d fs))
  turn_cut table e l d w c rest fs = record {
    value = λ s. sym (cut_move L e w c fs d rest l s.0.0 (no_gathering_of d fs s.0.2.0.1) (quiet_of table d e rest w l c s.0.2.0.0));
    sane = λ s. ((Falls-below e d fs s.0.0, s.0.1, items-below d fs rest s.0.2.1), frames-below d fs s.1);
    left = omega arith;
    lighter = λ e. omega (arith, below-fewer d fs);
  }

  -- the exit of a catch
  pub turn_pop : (e l d : ℕ) (w : L.World) (c : L.Clauses) (rest : List (Item L.Goal)) (fs : List (FrameOf L)) → Turns L (stands (At (record { depth = e; items = Pop d ∷ rest; world = w })) l c fs) (stands (At (record { depth = e; items = rest; world = w })) l c fs)
  turn_pop e l d w c rest fs = record { value = λ s. sym (pop_move L e w c fs d rest l); sane = λ s. ((s.0.0, s.0.1.1, s.0.2.1), s.1); left = omega arith; lighter = λ e. omega arith }

  -- a catch without a ball has no further alternative
  pub turn_catch_done : (e l : ℕ) (c : L.Clauses) (rec : L.Recovery) (fs : List (FrameOf L)) → Turns L (stands (Over Failed) l c (Catches e rec ∷ fs)) (stands (Over Failed) l c fs)
  turn_catch_done e l c rec fs = record { value = λ s. refl; sane = λ s. ((chain_of fs s.1.2, tt), s.1.2); left = omega arith; lighter = λ e. omega arith }

  -- a ball goes past a node without a catch
  pub turn_throw_past : (ball : L.Ball) (active : List ℕ) (e l : ℕ) (c : L.Clauses) (alts : List L.Alternative) (fs : List (FrameOf L)) → Turns L (stands (Over (Thrown ball active)) l c (Tries e alts ∷ fs)) (stands (Over (Thrown ball active)) l c fs)
  turn_throw_past ball active e l c alts fs = record { value = λ s. refl; sane = λ s. ((chain_of fs s.1.2, s.0.1), s.1.2); left = omega arith; lighter = λ e. omega arith }

  -- a catch that is not active, or does not take the ball
  pub turn_throw_on : (ball : L.Ball) (active : List ℕ) (e l : ℕ) (c : L.Clauses) (rec : L.Recovery) (fs : List (FrameOf L)) → (has active e ≡ false) ⊎ (L.recover rec ball ≡ None) → Turns L (stands (Over (Thrown ball active)) l c (Catches e rec ∷ fs)) (stands (Over (Thrown ball active)) l c fs)
  turn_throw_on ball active e l c rec fs h = record {
    value = λ s. sym (throw_move L ball active l c e rec fs ∙ passes (has active e) (L.recover rec ball) h);
    sane = λ s. ((chain_of fs s.1.2, s.0.1), s.1.2);
    left = omega arith;
    lighter = λ e. omega arith;
  }
    where
      passes : (b : Bool) (o : Option (PointOf L)) → (b ≡ false) ⊎ (o ≡ None) → after_throw L ball active l c e fs b o ≡ value L (Over (Thrown ball active)) l c fs
      passes false o k = refl
      passes true None k = refl
      passes true (Some p) (inl k) = cc
      passes true (Some p) (inr k) = cc

  -- an active catch takes the ball
  pub turn_caught : (ball : L.Ball) (active : List ℕ) (e l : ℕ) (c : L.Clauses) (rec : L.Recovery) (p : PointOf L) (fs : List (FrameOf L)) → has active e ≡ true → L.recover rec ball ≡ Some p → Turns L (stands (Over (Thrown ball active)) l c (Catches e rec ∷ fs)) (stands p l c fs)
  turn_caught ball active e l c rec p fs h k = record {
    value = λ s. sym (throw_move L ball active l c e rec fs ∙ ap (λ b. after_throw L ball active l c e fs b (L.recover rec ball)) h ∙ ap (after_throw L ball active l c e fs true) k ∙ drop_move L p l c e fs s.1.0);
    sane = λ s. (subst (RecoverSane L fs) k (s.1.1 ball), s.1.2);
    left = omega arith;
    lighter = λ e. lighter_point p;
  }
    where
      lighter_point : (p : PointOf L) → weight L (stands p l c fs) ≤ weight L (stands (Over (Thrown ball active)) l c (Catches e rec ∷ fs))
      lighter_point (At s) = omega arith
      lighter_point (Over x) = omega arith

  -- a nested search has failed: its answers are handed on
  pub turn_gather : (e l : ℕ) (c : L.Clauses) (acc : List L.Answer) (f : L.Gathering) (p : PointOf L) (fs : List (FrameOf L)) → L.gather f acc ≡ p → Turns L (stands (Over Failed) l c (Collects e acc f ∷ fs)) (stands p l c fs)
  turn_gather e l c acc f p fs k = record {
    value = λ s. sym (gather_move L l c e acc f fs s.1.0 ∙ ap (λ q. value L q l c (Tries e [] ∷ fs)) k ∙ drop_move L p l c e fs s.1.0);
    sane = λ s. (subst (SaneAt L fs) k (s.1.1.1 acc), s.1.2);
    left = omega arith;
    lighter = λ e. lighter_point p;
  }
    where
      lighter_point : (p : PointOf L) → weight L (stands p l c fs) ≤ weight L (stands (Over Failed) l c (Collects e acc f ∷ fs))
      lighter_point (At s) = omega arith
      lighter_point (Over x) = omega arith

  -- a ball leaves a nested search
  pub turn_gather_throw : (ball : L.Ball) (active : List ℕ) (e l : ℕ) (c : L.Clauses) (acc : List L.Answer) (f : L.Gathering) (fs : List (FrameOf L)) → Turns L (stands (Over (Thrown ball active)) l c (Collects e acc f ∷ fs)) (stands (Over (Thrown ball (L.active_of f))) l c fs)
  turn_gather_throw ball active e l c acc f fs = record { value = λ s. refl; sane = λ s. ((chain_of fs s.1.2, s.1.1.0), s.1.2); left = omega arith; lighter = λ e. omega arith }

  -- a ball goes outward
  pub turn_unwind : (ball : L.Ball) (active : List ℕ) (l : ℕ) (c : L.Clauses) (fs : List (FrameOf L)) → Turns L (stands (Over (Thrown ball active)) l c fs) (unwound L ball active l c fs)
  turn_unwind ball active l c [] = turns_none (stands (Over (Thrown ball active)) l c [])
  turn_unwind ball active l c (Tries e alts ∷ fs) =
      turns_then (stands (Over (Thrown ball active)) l c (Tries e alts ∷ fs)) (stands (Over (Thrown ball active)) l c fs) (unwound L ball active l c fs) (turn_throw_past ball active e l c alts fs) (turn_unwind ball active l c fs)
  turn_unwind ball active l c (Catches e rec ∷ fs) = go (has active e) (L.recover rec ball) refl refl (turn_unwind ball active l c fs)
    where
      go : (b : Bool) (o : Option (PointOf L)) → has active e ≡ b → L.recover rec ball ≡ o → Turns L (stands (Over (Thrown ball active)) l c fs) (unwound L ball active l c fs) → Turns L (stands (Over (Thrown ball active)) l c (Catches e rec ∷ fs)) (taken L ball active l c fs b o (unwound L ball active l c fs))
      go true (Some p) h k ih = turn_caught ball active e l c rec p fs h k
      go true None h k ih = turns_then (stands (Over (Thrown ball active)) l c (Catches e rec ∷ fs)) (stands (Over (Thrown ball active)) l c fs) (unwound L ball active l c fs) (turn_throw_on ball active e l c rec fs (inr k)) ih
      go false o h k ih = turns_then (stands (Over (Thrown ball active)) l c (Catches e rec ∷ fs)) (stands (Over (Thrown ball active)) l c fs) (unwound L ball active l c fs) (turn_throw_on ball active e l c rec fs (inl h)) ih
  turn_unwind ball active l c (Collects e acc f ∷ fs) =
      turns_then (stands (Over (Thrown ball active)) l c (Collects e acc f ∷ fs)) (stands (Over (Thrown ball (L.active_of f))) l c fs) (unwound L ball (L.active_of f) l c fs) (turn_gather_throw ball active e l c acc f fs) (turn_unwind ball (L.active_of f) l c fs)

  -- a goal that is activated and is not a node: it raises, halts or fails
  pub turn_ends : (e l : ℕ) (w : L.World) (c : L.Clauses) (g : L.Goal) (rest : List (Item L.Goal)) (fs : List (FrameOf L)) (x : End L.Ball) → L.activate e g rest w c ≡ Ends [] x → TableSane L → Turns L (stands (At (record { depth = e; items = Call g ∷ rest; world = w })) (suc l) c fs) (stands (Over x) l c fs)
  turn_ends e l w c g rest fs x is table =
      let same = call_move L e w c fs g rest l
      ∙ ap (after_call L l c fs) is
      ∙ ap (λ h. prepend L h (value L (Over x) l c (emit L [] fs))) (heard-nil fs)
      ∙ ap (λ k. value L (Over x) l c k) (emit-nil fs) in
      record { value = λ s. sym same; sane = λ s. ((chain_of fs s.1, subst (ActivationSane L e fs) is (table e g rest w c fs s.0.0 s.0.1 s.0.2.0 s.0.2.1)), s.1); left = omega arith; lighter = λ e. absurd (omega (arith, e)) }

  -- a goal where no step is left
  pub turn_spent : (e : ℕ) (w : L.World) (c : L.Clauses) (g : L.Goal) (rest : List (Item L.Goal)) (fs : List (FrameOf L)) → Turns L (stands (At (record { depth = e; items = Call g ∷ rest; world = w })) 0 c fs) (stands (Over Spent) 0 c fs)
  turn_spent e w c g rest fs = record { value = λ s. sym (spent_move L e w c fs g rest); sane = λ s. ((chain_falls e fs s.0.0, tt), s.1); left = omega arith; lighter = λ e. omega arith }

  -- an end of the run goes outward past everything
  halted-value : (z : ℤ) (l : ℕ) (c : L.Clauses) (fs : List (FrameOf L)) → value L (Over (Halted z)) l c [] ≡ value L (Over (Halted z)) l c fs
  halted-value z l c [] = refl
  halted-value z l c (Tries e alts ∷ fs) = halted-value z l c fs
  halted-value z l c (Catches e rec ∷ fs) = halted-value z l c fs
  halted-value z l c (Collects e acc f ∷ fs) = halted-value z l c fs

  pub turn_halted : (z : ℤ) (l : ℕ) (c : L.Clauses) (fs : List (FrameOf L)) → Turns L (stands (Over (Halted z)) l c fs) (stands (Over (Halted z)) l c [])
  turn_halted z l c fs = record { value = λ s. halted-value z l c fs; sane = λ s. ((tt, tt), tt); left = omega arith; lighter = λ e. omega arith }

  spent-value : (l : ℕ) (c : L.Clauses) (fs : List (FrameOf L)) → value L (Over Spent) l c [] ≡ value L (Over Spent) l c fs
  spent-value l c [] = refl
  spent-value l c (Tries e alts ∷ fs) = spent-value l c fs
  spent-value l c (Catches e rec ∷ fs) = spent-value l c fs
  spent-value l c (Collects e acc f ∷ fs) = spent-value l c fs

  pub turn_spent_out : (l : ℕ) (c : L.Clauses) (fs : List (FrameOf L)) → Turns L (stands (Over Spent) l c fs) (stands (Over Spent) l c [])
  turn_spent_out l c fs = record { value = λ s. spent-value l c fs; sane = λ s. ((tt, tt), tt); left = omega arith; lighter = λ e. omega arith }
