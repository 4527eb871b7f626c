-- The moves of a plain stack that are heard outside: output, and answers.
use Rattle.std.proofs.Common.{◌≡◌, ℕ, suc, ◌+◌, List, [], ◌∷◌, ◌++◌, length, Option, Some, None, refl, sym, ap, ◌∙◌, subst, arith}
use Rattle.solver_model.specs.Search.{Item, Event, End, Language, Call, Cut, Pop, Fail, Ans, Failed, At, Over, Tries, Catches, Collects, Ends, Opens, StateOf, FrameOf, PointOf, outs_of, prepend}
use Rattle.solver_model.specs.Frames.{Falls, value, emit, heard}
use Rattle.solver_model.specs.Configurations.{Configuration, value_of, Chain, Ungathered, ItemsOk, StateOk, SaneAt, AttemptSane, AlternativesSane, RecoverSane, FramesSane, Sane, ActivationSane, TableSane, Turns, Tells, untried_in}
use Rattle.solver_model.proofs.FrameLaws.{call_move, after_call, answer_move, prepend-prepend, emit-outs, heard-outs}
use Rattle.solver_model.proofs.TurnLaws.{stands, chain_falls, chain_of}

module _ (L : Language) where
  pub tells_of : (x y : Configuration L) → Turns L x y → Tells L [] x y
  tells_of x y t = record { value = λ s. sym (t.value s); sane = t.sane; left = t.left; lighter = t.lighter }

  pub tells_then : (a b : List (Event L.Answer)) (x y z : Configuration L) → Tells L a x y → Tells L b y z → Tells L (a ++ b) x z
  tells_then a b x y z t u = record {
    value = λ s. t.value s ∙ ap (prepend L a) (u.value (t.sane s)) ∙ sym (prepend-prepend L a b (value_of L z));
    sane = λ s. u.sane (t.sane s);
    left = omega (arith, t.left, u.left);
    lighter = λ e.
        let i : y.left ≡ x.left = omega (arith, e, t.left, u.left) in
        let j : z.left ≡ y.left = omega (arith, e, t.left, u.left) in
        omega (arith, t.lighter i, u.lighter j);
  }

  -- output is heard from inside any frames, and changes none
  heard-output : (ev : List (Event L.Answer)) (fs : List (FrameOf L)) → outs_of ev ≡ ev → heard L ev fs ≡ ev
  heard-output ev fs o = ap (λ a. heard L a fs) (sym o) ∙ heard-outs L ev fs ∙ o

  emit-output : (ev : List (Event L.Answer)) (fs : List (FrameOf L)) → outs_of ev ≡ ev → emit L ev fs ≡ fs
  emit-output ev fs o = ap (λ a. emit L a fs) (sym o) ∙ emit-outs L ev fs

  -- a goal that is a node, with its output
  pub tell_call : (e l : ℕ) (w : L.World) (c : L.Clauses) (g : L.Goal) (rest : List (Item L.Goal)) (fs : List (FrameOf L)) (ev : List (Event L.Answer)) (p : PointOf L) (f : FrameOf L) → outs_of ev ≡ ev → L.activate e g rest w c ≡ Opens ev p f → TableSane L → Tells L ev (stands L (At (record { depth = e; items = Call g ∷ rest; world = w })) (suc l) c fs) (stands L p l c (f ∷ fs))
  tell_call e l w c g rest fs ev p f o is table =
      let same = call_move L e w c fs g rest l
      ∙ ap (after_call L l c fs) is
      ∙ ap (λ h. prepend L h (value L p l c (f ∷ emit L ev fs))) (heard-output ev fs o)
      ∙ ap (λ k. prepend L ev (value L p l c (f ∷ k))) (emit-output ev fs o) in
      record { value = λ s. same; sane = called; left = omega arith; lighter = λ e. absurd (omega (arith, e)) }
    where
      called : Sane L (stands L (At (record { depth = e; items = Call g ∷ rest; world = w })) (suc l) c fs) → Sane L (stands L p l c (f ∷ fs))
      called s =
          let act : ActivationSane L e fs (Opens ev p f) = subst (ActivationSane L e fs) is (table e g rest w c fs s.0.0 s.0.1 s.0.2.0 s.0.2.1) in
          (act.1, (subst (λ d. Falls d fs) (sym act.0) s.0.0, act.2, s.1))

  -- a goal that ends at once, with its output
  pub tell_ends : (e l : ℕ) (w : L.World) (c : L.Clauses) (g : L.Goal) (rest : List (Item L.Goal)) (fs : List (FrameOf L)) (ev : List (Event L.Answer)) (x : End L.Ball) → outs_of ev ≡ ev → L.activate e g rest w c ≡ Ends ev x → TableSane L → Tells L ev (stands L (At (record { depth = e; items = Call g ∷ rest; world = w })) (suc l) c fs) (stands L (Over x) l c fs)
  tell_ends e l w c g rest fs ev x o is table =
      let same = call_move L e w c fs g rest l
      ∙ ap (after_call L l c fs) is
      ∙ ap (λ h. prepend L h (value L (Over x) l c (emit L ev fs))) (heard-output ev fs o)
      ∙ ap (λ k. prepend L ev (value L (Over x) l c k)) (emit-output ev fs o) in
      record { value = λ s. same; sane = λ s. ((chain_of L fs s.1, subst (ActivationSane L e fs) is (table e g rest w c fs s.0.0 s.0.1 s.0.2.0 s.0.2.1)), s.1); left = omega arith; lighter = λ e. absurd (omega (arith, e)) }

  -- ---- frames with more answers

  module _ (ev : List (Event L.Answer)) where
    Falls-emit : (e : ℕ) (fs : List (FrameOf L)) → Falls e fs → Falls e (emit L ev fs)
    Falls-emit e [] h = tt
    Falls-emit e (Tries d alts ∷ fs) h = (h.0, Falls-emit d fs h.1)
    Falls-emit e (Catches d rec ∷ fs) h = (h.0, Falls-emit d fs h.1)
    Falls-emit e (Collects d acc f ∷ fs) h = h

    Ungathered-emit : (d : ℕ) (fs : List (FrameOf L)) → Ungathered L d fs → Ungathered L d (emit L ev fs)
    Ungathered-emit d [] h = tt
    Ungathered-emit d (Tries e alts ∷ fs) h = Ungathered-emit d fs h
    Ungathered-emit d (Catches e rec ∷ fs) h = Ungathered-emit d fs h
    Ungathered-emit d (Collects e acc f ∷ fs) h = h

    ItemsOk-emit : (fs : List (FrameOf L)) (items : List (Item L.Goal)) → ItemsOk L fs items → ItemsOk L (emit L ev fs) items
    ItemsOk-emit fs [] h = tt
    ItemsOk-emit fs (Call g ∷ items) h = ((h.0.0, Ungathered-emit (L.cut g) fs h.0.1), ItemsOk-emit fs items h.1)
    ItemsOk-emit fs (Cut d ∷ items) h = ((h.0.0, Ungathered-emit d fs h.0.1), ItemsOk-emit fs items h.1)
    ItemsOk-emit fs (Pop d ∷ items) h = (h.0, ItemsOk-emit fs items h.1)
    ItemsOk-emit fs (Fail ∷ items) h = ItemsOk-emit fs items h

    StateOk-emit : (fs : List (FrameOf L)) (s : StateOf L) → StateOk L fs s → StateOk L (emit L ev fs) s
    StateOk-emit fs s h = (Falls-emit s.depth fs h.0, h.1, ItemsOk-emit fs s.items h.2)

    Chain-emit : (fs : List (FrameOf L)) → Chain L fs → Chain L (emit L ev fs)
    Chain-emit [] h = tt
    Chain-emit (Tries d alts ∷ fs) h = Falls-emit d fs h
    Chain-emit (Catches d rec ∷ fs) h = Falls-emit d fs h
    Chain-emit (Collects d acc f ∷ fs) h = h

    SaneAt-emit : (fs : List (FrameOf L)) (p : PointOf L) → SaneAt L fs p → SaneAt L (emit L ev fs) p
    SaneAt-emit fs (At s) h = StateOk-emit fs s h
    SaneAt-emit fs (Over x) h = (Chain-emit fs h.0, h.1)

    AttemptSane-emit : (e : ℕ) (fs : List (FrameOf L)) (o : Option (StateOf L × L.Clauses)) → AttemptSane L e fs o → AttemptSane L e (emit L ev fs) o
    AttemptSane-emit e fs None h = tt
    AttemptSane-emit e fs (Some (s, c)) h = (h.0, StateOk-emit fs s h.1)

    AlternativesSane-emit : (e : ℕ) (fs : List (FrameOf L)) (alts : List L.Alternative) → AlternativesSane L e fs alts → AlternativesSane L e (emit L ev fs) alts
    AlternativesSane-emit e fs [] h = tt
    AlternativesSane-emit e fs (a ∷ alts) h = (λ c. AttemptSane-emit e fs (L.attempt a c) (h.0 c), AlternativesSane-emit e fs alts h.1)

    RecoverSane-emit : (fs : List (FrameOf L)) (o : Option (PointOf L)) → RecoverSane L fs o → RecoverSane L (emit L ev fs) o
    RecoverSane-emit fs None h = tt
    RecoverSane-emit fs (Some p) h = SaneAt-emit fs p h

    FramesSane-emit : (fs : List (FrameOf L)) → FramesSane L fs → FramesSane L (emit L ev fs)
    FramesSane-emit [] h = tt
    FramesSane-emit (Tries e alts ∷ fs) h = (Falls-emit e fs h.0, AlternativesSane-emit e fs alts h.1, FramesSane-emit fs h.2)
    FramesSane-emit (Catches e rec ∷ fs) h = (Falls-emit e fs h.0, (λ ball. RecoverSane-emit fs (L.recover rec ball) (h.1 ball)), FramesSane-emit fs h.2)
    FramesSane-emit (Collects e acc f ∷ fs) h = h

    untried-emit : (fs : List (FrameOf L)) → untried_in L (emit L ev fs) ≡ untried_in L fs
    untried-emit [] = refl
    untried-emit (Tries e alts ∷ fs) = ap (λ k. length alts + k) (untried-emit fs)
    untried-emit (Catches e rec ∷ fs) = ap suc (untried-emit fs)
    untried-emit (Collects e acc f ∷ fs) = refl

  -- an answer: heard outside, or kept by the innermost frame that gathers
  pub tell_answer : (e l : ℕ) (w : L.World) (c : L.Clauses) (fs : List (FrameOf L)) → Tells L (heard L (Ans (L.answer_of w) ∷ []) fs) (stands L (At (record { depth = e; items = []; world = w })) l c fs) (stands L (Over Failed) l c (emit L (Ans (L.answer_of w) ∷ []) fs))
  tell_answer e l w c fs = record {
    value = λ s. answer_move L e w c fs l;
    sane = λ s. ((Chain-emit (Ans (L.answer_of w) ∷ []) fs (chain_falls L e fs s.0.0), tt), FramesSane-emit (Ans (L.answer_of w) ∷ []) fs s.1);
    left = omega arith;
    lighter = λ i. omega (arith, untried-emit (Ans (L.answer_of w) ∷ []) fs);
  }
