-- The exits among items fall, so a ball on its way outward meets the catches of its active exits in order.
use Rattle.std.proofs.Common.{◌≡◌, ℕ, ◌<◌, Bool, true, false, ◌||◌, List, [], ◌∷◌, refl, ap, ◌∙◌, arith}
use Rattle.std.specs.Prelude.{nat_eq}
use Rattle.std.proofs.lemmas.Bool.{eq-eqb, eqb-true}
use Rattle.solver_model.specs.Search.{Item, Language, Call, Cut, Pop, Fail, FrameOf, has, pops}
use Rattle.solver_model.specs.Configurations.{AllBelow, Falling, ItemsOk}

module _ (L : Language) where
  pub pops-fall : (fs : List (FrameOf L)) (items : List (Item L.Goal)) → ItemsOk L fs items → Falling L (pops items)
  pops-fall fs [] h = tt
  pops-fall fs (Call g ∷ items) h = pops-fall fs items h.1
  pops-fall fs (Cut d ∷ items) h = pops-fall fs items h.1
  pops-fall fs (Pop d ∷ items) h = (h.0, pops-fall fs items h.1)
  pops-fall fs (Fail ∷ items) h = pops-fall fs items h

  apart : (d e : ℕ) → (d ≡ e → ⊥) → nat_eq d e ≡ false
  apart d e h = go (nat_eq d e) refl
    where
      go : (b : Bool) → nat_eq d e ≡ b → b ≡ false
      go true q = absurd (h (eqb-true d e q))
      go false q = refl

  -- a catch of the innermost active exit
  pub has-first : (e : ℕ) (ks : List ℕ) → has (e ∷ ks) e ≡ true
  has-first e ks = ap (λ b. b || has ks e) (eq-eqb e e refl)

  -- a catch above all active exits is not active
  pub has-above : (e : ℕ) (ks : List ℕ) → AllBelow L e ks → has ks e ≡ false
  has-above e [] h = refl
  has-above e (k ∷ ks) h = ap (λ b. b || has ks e) (apart k e (λ q. omega (arith, q, h.0))) ∙ has-above e ks h.1

  -- an active exit above the catch is of no matter for it
  pub has-below : (e d : ℕ) (ks : List ℕ) → e < d → has (d ∷ ks) e ≡ has ks e
  has-below e d ks h = ap (λ b. b || has ks e) (apart d e (λ q. omega (arith, q, h)))
