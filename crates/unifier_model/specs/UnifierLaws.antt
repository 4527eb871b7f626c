-- What makes the unifier of equations the most general one.
use Rattle.std.specs.Prelude.{◌≡◌, ℕ, ◌≤◌, List, [], ◌∷◌, Option, Some, None}
use Rattle.pl_terms.specs.Trees.{Tree, var}
use Rattle.unifier_model.specs.Substitution.{substitute, composed, apply, made_by}
use Rattle.unifier_model.specs.Unifier.{Solved}
use Rattle.unifier_model.specs.Mgu.{mgu}

-- the substitution makes both sides of each equation one tree
abbrev pub Unifies : (ℕ → Tree ℕ) → List (Tree ℕ × Tree ℕ) → Type 0
Unifies s [] = Unit {0}
Unifies s (e ∷ es) = (substitute s e.0 ≡ substitute s e.1) × Unifies s es

-- the replacements make both sides of each equation one tree
abbrev pub UnifiedBy : List (ℕ × Tree ℕ) → List (Tree ℕ × Tree ℕ) → Type 0
UnifiedBy bs [] = Unit {0}
UnifiedBy bs (e ∷ es) = (apply bs e.0 ≡ apply bs e.1) × UnifiedBy bs es

-- where there is an answer, it is a unifier
abbrev pub IsUnifier : Option (List (ℕ × Tree ℕ)) → List (Tree ℕ × Tree ℕ) → Type 0
IsUnifier None es = Unit {0}
IsUnifier (Some bs) es = UnifiedBy bs es

-- s is the answer, and s after it; and there is no s where the answer is none
abbrev pub Factors : (ℕ → Tree ℕ) → Option (List (ℕ × Tree ℕ)) → Type 0
Factors s None = ⊥
Factors s (Some bs) = (t : Tree ℕ) → substitute s (apply bs t) ≡ substitute s t

-- making the replacements again changes nothing
abbrev pub IsIdempotent : Option (List (ℕ × Tree ℕ)) → Type 0
IsIdempotent None = Unit {0}
IsIdempotent (Some bs) = (t : Tree ℕ) → apply bs (apply bs t) ≡ apply bs t

-- a variable becomes no higher one
abbrev pub IsLow : (ℕ → Tree ℕ) → Type 0
IsLow s = (n m : ℕ) → s n ≡ var m → m ≤ n

-- r is s, and r after it
abbrev pub FactorsThrough : (ℕ → Tree ℕ) → (ℕ → Tree ℕ) → Type 0
FactorsThrough s r = (n : ℕ) → composed r s n ≡ r n

-- a unifier that each unifier factors through, and that makes no variable a higher one
pub record IsMgu (es : List (Tree ℕ × Tree ℕ)) (s : ℕ → Tree ℕ) : Type 0 where
  pub unifies : Unifies s es
  pub general : (r : ℕ → Tree ℕ) → Unifies r es → FactorsThrough s r
  pub low : IsLow s

-- the steps end in `mgu`, and in nothing else
abbrev pub SolvedByMgu : Type 0
SolvedByMgu = (es : List (Tree ℕ × Tree ℕ)) → Solved es (mgu es)

abbrev pub SolvedOnce : Type 0
SolvedOnce = (es : List (Tree ℕ × Tree ℕ)) (a : Option (List (ℕ × Tree ℕ))) → Solved es a → a ≡ mgu es

abbrev pub MguUnifies : Type 0
MguUnifies = (es : List (Tree ℕ × Tree ℕ)) → IsUnifier (mgu es) es

abbrev pub MguIdempotent : Type 0
MguIdempotent = (es : List (Tree ℕ × Tree ℕ)) → IsIdempotent (mgu es)

-- each unifier factors through the answer
abbrev pub MguGeneral : Type 0
MguGeneral = (es : List (Tree ℕ × Tree ℕ)) (s : ℕ → Tree ℕ) → Unifies s es → Factors s (mgu es)

abbrev pub MguNone : Type 0
MguNone = (es : List (Tree ℕ × Tree ℕ)) → mgu es ≡ None → (s : ℕ → Tree ℕ) → Unifies s es → ⊥

abbrev pub MguMost : Type 0
MguMost = (es : List (Tree ℕ × Tree ℕ)) (bs : List (ℕ × Tree ℕ)) → mgu es ≡ Some bs → IsMgu es (made_by bs)

-- two most general unifiers of the same equations that make no variable a higher one are one
abbrev pub MguUnique : Type 0
MguUnique = (es : List (Tree ℕ × Tree ℕ)) (s r : ℕ → Tree ℕ) → IsMgu es s → IsMgu es r → (n : ℕ) → s n ≡ r n
