-- Lists of places that are still to be looked at. The last of the list is the next one.
use Rattle.std.specs.Prelude.{ℕ, zero, suc, ◌+◌, ◌<◌, List, [], ◌∷◌, map, reverse}
use Rattle.pl_terms.specs.Trees.{Tree}
use Rattle.pl_unify.specs.State.{State, tree_at}

-- the places from `first` on
abbrev pub span : ℕ → ℕ → List ℕ
span first zero = []
span first (suc k) = first ∷ span (first + 1) k

abbrev pub Below : ℕ → List ℕ → Type 0
Below n [] = Unit {0}
Below n (p ∷ ps) = (p < n) × Below n ps

-- the trees of the places, the next one first
abbrev pub stack : State → List ℕ → List (Tree ℕ)
stack s work = map (λ p. tree_at s (record { 0 = p })) (reverse work)
