-- Where the names of unifiers come from.
use Rattle.std.specs.Prelude.{◌≡◌, ℕ, List, [], ◌∷◌, ◌++◌, Some}
use Rattle.pl_terms.specs.Trees.{Tree}
use Rattle.pl_terms.specs.NameBounds.{NamesBelow}
use Rattle.unifier_model.specs.Substitution.{apply, raise}
use Rattle.unifier_model.specs.Unifier.{Solved}
use Rattle.unifier_model.specs.Mgu.{mgu}

-- the numbers of names in equations are below a limit
abbrev pub EquationsNamed : ℕ → List (Tree ℕ × Tree ℕ) → Type 0
EquationsNamed limit [] = Unit {0}
EquationsNamed limit (e ∷ es) = NamesBelow limit e.0 × NamesBelow limit e.1 × EquationsNamed limit es

-- those in the trees of replacements are
abbrev pub BoundNamed : ℕ → List (ℕ × Tree ℕ) → Type 0
BoundNamed limit [] = Unit {0}
BoundNamed limit (b ∷ bs) = NamesBelow limit b.1 × BoundNamed limit bs

-- a most general unifier has no other names than its equations
abbrev pub UnifierNamed : Type 0
UnifierNamed = (limit : ℕ) (es : List (Tree ℕ × Tree ℕ)) (bs : List (ℕ × Tree ℕ)) → EquationsNamed limit es → mgu es ≡ Some bs → BoundNamed limit bs

abbrev pub SolvedNamed : Type 0
SolvedNamed = (limit : ℕ) (es : List (Tree ℕ × Tree ℕ)) (bs : List (ℕ × Tree ℕ)) → EquationsNamed limit es → Solved es (Some bs) → BoundNamed limit bs

-- replacements one after another
abbrev pub BoundsJoin : Type 0
BoundsJoin = (limit : ℕ) (bs cs : List (ℕ × Tree ℕ)) → BoundNamed limit bs → BoundNamed limit cs → BoundNamed limit (bs ++ cs)

-- replacements that are made
abbrev pub ApplyNamed : Type 0
ApplyNamed = (limit : ℕ) (bs : List (ℕ × Tree ℕ)) (t : Tree ℕ) → BoundNamed limit bs → NamesBelow limit t → NamesBelow limit (apply bs t)

-- other numbers for variables
abbrev pub RaiseNamed : Type 0
RaiseNamed = (limit base : ℕ) (t : Tree ℕ) → NamesBelow limit t → NamesBelow limit (raise base t)
