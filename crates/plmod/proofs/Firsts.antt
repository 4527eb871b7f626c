-- Files that are units, or the first that is none.
use Rattle.std.proofs.Common.{◌≡◌, ℕ, List, [], ◌∷◌, refl, ap, ◌∙◌}
use Rattle.unit_model.specs.Facts.{Facts}
use Rattle.unit_model.specs.Directives.{Text}
use Rattle.unit_format.proofs.Decodes.{one_unit}
use Rattle.plmod.specs.Prepares.{AreUnits, no_files, one_more, FirstNoUnit, here, later}

pub same_units : (contents : List (List ℕ)) (fs gs : List (Facts Text)) → AreUnits contents fs → AreUnits contents gs → fs ≡ gs
same_units [] [] [] no_files no_files = refl
same_units [] [] (g ∷ gs) a b = elim b [ ]
same_units [] (f ∷ fs) gs a b = elim a [ ]
same_units (c ∷ contents) [] gs a b = elim a [ ]
same_units (c ∷ contents) (f ∷ fs) [] a b = elim b [ ]
same_units (c ∷ contents) (f ∷ fs) (g ∷ gs) (one_more u are) (one_more v more) =
    ap (λ x. x ∷ fs) (one_unit f g c u v) ∙ ap (λ l. g ∷ l) (same_units contents fs gs are more)

pub same_first : (names contents : List (List ℕ)) (a b : List ℕ) → FirstNoUnit names contents a → FirstNoUnit names contents b → a ≡ b
same_first [] contents a b p q = elim p [ ]
same_first (n ∷ names) [] a b p q = elim p [ ]
same_first (n ∷ names) (c ∷ contents) a b (here absent) (here none) = refl
same_first (n ∷ names) (c ∷ contents) a b (here absent) (later f u later_one) = absurd (absent f u)
same_first (n ∷ names) (c ∷ contents) a b (later f u first) (here absent) = absurd (absent f u)
same_first (n ∷ names) (c ∷ contents) a b (later f u first) (later g v other) = same_first names contents a b first other

pub no_first : (names contents : List (List ℕ)) (fs : List (Facts Text)) (a : List ℕ) → AreUnits contents fs → FirstNoUnit names contents a → ⊥
no_first [] contents fs a p q = elim q [ ]
no_first (n ∷ names) [] fs a p q = elim q [ ]
no_first (n ∷ names) (c ∷ contents) [] a p q = elim p [ ]
no_first (n ∷ names) (c ∷ contents) (f ∷ fs) a (one_more u are) (here absent) = absent f u
no_first (n ∷ names) (c ∷ contents) (f ∷ fs) a (one_more u are) (later g v first) = no_first names contents fs a are first
