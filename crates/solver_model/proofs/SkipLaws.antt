-- Alternatives that are none, whatever the clauses are: they may be skipped, and a node with no other may go.
use Rattle.std.proofs.Common.{◌≡◌, ℕ, List, [], ◌∷◌, ◌++◌, None, refl, sym, ap, ◌∙◌, arith}
use Rattle.solver_model.specs.Search.{Item, Language, Call, Cut, Pop, Fail, At, Over, Failed, Tries, FrameOf, PointOf, Go, after, failing, attempted, tries, of_point, found, resume, ended_by}
use Rattle.solver_model.specs.Frames.{top_end, value}
use Rattle.solver_model.specs.Configurations.{ItemsOk, SaneAt, Turns}
use Rattle.solver_model.proofs.FrameLaws.{drop_move}
use Rattle.solver_model.proofs.TurnLaws.{stands, turns_none, turns_then, turn_skip, Falls-wider, chain_falls}

module _ (L : Language) where
  abbrev pub Hopeless : List L.Alternative → Type 0
  Hopeless [] = Unit {0}
  Hopeless (a ∷ alts) = ((c : L.Clauses) → L.attempt a c ≡ None) × Hopeless alts

  tries-hopeless : (go : Go L) (e : ℕ) (alts : List L.Alternative) → Hopeless alts → (l : ℕ) (c : L.Clauses) → tries L go e alts l c ≡ failing L l c
  tries-hopeless go e [] h l c = refl
  tries-hopeless go e (a ∷ alts) h l c = ap (λ o. attempted L go e o (tries L go e alts) l c) (h.0 c) ∙ tries-hopeless go e alts h.1 l c

  hopeless-value : (p : PointOf L) (l : ℕ) (c : L.Clauses) (e : ℕ) (alts : List L.Alternative) (fs : List (FrameOf L)) → Hopeless alts → value L p l c (Tries e alts ∷ fs) ≡ value L p l c (Tries e [] ∷ fs)
  hopeless-value p l c e alts fs h = λ i. ended_by L top_end (resume L (found L) (after L e (of_point L (found L) p l c) (λ m d. tries-hopeless (found L) e alts h m d i)) fs)

  items-outside : (e : ℕ) (alts : List L.Alternative) (fs : List (FrameOf L)) (items : List (Item L.Goal)) → ItemsOk L (Tries e alts ∷ fs) items → ItemsOk L fs items
  items-outside e alts fs [] h = tt
  items-outside e alts fs (Call g ∷ items) h = (h.0, items-outside e alts fs items h.1)
  items-outside e alts fs (Cut d ∷ items) h = (h.0, items-outside e alts fs items h.1)
  items-outside e alts fs (Pop d ∷ items) h = (h.0, items-outside e alts fs items h.1)
  items-outside e alts fs (Fail ∷ items) h = items-outside e alts fs items h

  sane-outside : (e : ℕ) (alts : List L.Alternative) (fs : List (FrameOf L)) (p : PointOf L) → SaneAt L (Tries e alts ∷ fs) p → SaneAt L fs p
  sane-outside e alts fs (At s) h = (Falls-wider L e s.depth fs (omega (arith, h.0.0)) h.0.1, h.1, items-outside e alts fs s.items h.2)
  sane-outside e alts fs (Over x) h = (chain_falls L e fs h.0, h.1)

  -- a node that has nothing else untried may go
  pub turn_hopeless : (p : PointOf L) (l : ℕ) (c : L.Clauses) (e : ℕ) (alts : List L.Alternative) (fs : List (FrameOf L)) → Hopeless alts → Turns L (stands L p l c (Tries e alts ∷ fs)) (stands L p l c fs)
  turn_hopeless p l c e alts fs h = record {
    value = λ s. sym (hopeless-value p l c e alts fs h ∙ drop_move L p l c e fs s.1.0);
    sane = λ s. (sane-outside e alts fs p s.0, s.1.2);
    left = omega arith;
    lighter = λ i. omega arith;
  }

  -- and it may be left standing where what is tried next is behind them
  pub turn_skips : (e l : ℕ) (c : L.Clauses) (skipped alts : List L.Alternative) (fs : List (FrameOf L)) → Hopeless skipped → Turns L (stands L (Over Failed) l c (Tries e (skipped ++ alts) ∷ fs)) (stands L (Over Failed) l c (Tries e alts ∷ fs))
  turn_skips e l c [] alts fs h = turns_none L (stands L (Over Failed) l c (Tries e alts ∷ fs))
  turn_skips e l c (a ∷ skipped) alts fs h =
      turns_then L (stands L (Over Failed) l c (Tries e (a ∷ (skipped ++ alts)) ∷ fs)) (stands L (Over Failed) l c (Tries e (skipped ++ alts) ∷ fs)) (stands L (Over Failed) l c (Tries e alts ∷ fs))
      (turn_skip L e l c a (skipped ++ alts) fs (h.0 c)) (turn_skips e l c skipped alts fs h.1)
