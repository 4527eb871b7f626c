-- Alternatives that are none, before others of a node that is not searched now.
use Rattle.std.proofs.Common.{◌≡◌, ℕ, List, [], ◌∷◌, ◌++◌, refl, sym, ap, ◌∙◌, arith, length-append}
use Rattle.solver_model.specs.Search.{Item, Language, Call, Cut, Pop, Fail, At, Over, Tries, FrameOf, PointOf, Go, after, attempted, tries, of_point, found, resume, ended_by}
use Rattle.solver_model.specs.Frames.{top_end, value}
use Rattle.solver_model.specs.Configurations.{ItemsOk, SaneAt, AlternativesSane, Turns}
use Rattle.solver_model.proofs.TurnLaws.{stands}
use Rattle.solver_model.proofs.SkipLaws.{Hopeless}

module _ (L : Language) where
  tries-thin : (go : Go L) (e : ℕ) (skipped alts : List L.Alternative) → Hopeless L skipped → (l : ℕ) (c : L.Clauses) → tries L go e (skipped ++ alts) l c ≡ tries L go e alts l c
  tries-thin go e [] alts h l c = refl
  tries-thin go e (a ∷ skipped) alts h l c = ap (λ o. attempted L go e o (tries L go e (skipped ++ alts)) l c) (h.0 c) ∙ tries-thin go e skipped alts h.1 l c

  thin-value : (p : PointOf L) (l : ℕ) (c : L.Clauses) (e : ℕ) (skipped alts : List L.Alternative) (fs : List (FrameOf L)) → Hopeless L skipped → value L p l c (Tries e (skipped ++ alts) ∷ fs) ≡ value L p l c (Tries e alts ∷ fs)
  thin-value p l c e skipped alts fs h = λ i. ended_by L top_end (resume L (found L) (after L e (of_point L (found L) p l c) (λ m d. tries-thin (found L) e skipped alts h m d i)) fs)

  items-thin : (e : ℕ) (skipped alts : List L.Alternative) (fs : List (FrameOf L)) (items : List (Item L.Goal)) → ItemsOk L (Tries e (skipped ++ alts) ∷ fs) items → ItemsOk L (Tries e alts ∷ fs) items
  items-thin e skipped alts fs [] h = tt
  items-thin e skipped alts fs (Call g ∷ items) h = (h.0, items-thin e skipped alts fs items h.1)
  items-thin e skipped alts fs (Cut d ∷ items) h = (h.0, items-thin e skipped alts fs items h.1)
  items-thin e skipped alts fs (Pop d ∷ items) h = (h.0, items-thin e skipped alts fs items h.1)
  items-thin e skipped alts fs (Fail ∷ items) h = items-thin e skipped alts fs items h

  sane-thin : (e : ℕ) (skipped alts : List L.Alternative) (fs : List (FrameOf L)) (p : PointOf L) → SaneAt L (Tries e (skipped ++ alts) ∷ fs) p → SaneAt L (Tries e alts ∷ fs) p
  sane-thin e skipped alts fs (At s) h = (h.0, h.1, items-thin e skipped alts fs s.items h.2)
  sane-thin e skipped alts fs (Over x) h = h

  alternatives-thin : (e : ℕ) (skipped alts : List L.Alternative) (fs : List (FrameOf L)) → AlternativesSane L e fs (skipped ++ alts) → AlternativesSane L e fs alts
  alternatives-thin e [] alts fs h = h
  alternatives-thin e (a ∷ skipped) alts fs h = alternatives-thin e skipped alts fs h.1

  pub turn_thins : (p : PointOf L) (l : ℕ) (c : L.Clauses) (e : ℕ) (skipped alts : List L.Alternative) (fs : List (FrameOf L)) → Hopeless L skipped → Turns L (stands L p l c (Tries e (skipped ++ alts) ∷ fs)) (stands L p l c (Tries e alts ∷ fs))
  turn_thins p l c e skipped alts fs h = record {
    value = λ s. sym (thin-value p l c e skipped alts fs h);
    sane = λ s. (sane-thin e skipped alts fs p s.0, (s.1.0, alternatives-thin e skipped alts fs s.1.1, s.1.2));
    left = omega arith;
    lighter = λ i. omega (arith, length-append skipped alts);
  }
