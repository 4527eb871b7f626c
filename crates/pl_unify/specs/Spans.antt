-- Spans of equations of places of a store with places of code.
use Rattle.std.specs.Prelude.{ℕ, List, [], ◌∷◌, ◌++◌, None}
use Rattle.unifier_model.specs.Unifier.{Solved}
use Rattle.pl_terms.specs.Trees.{Tree}
use Rattle.pl_unify.specs.declared.code.CodeWord.{CodeWord}
use Rattle.pl_unify.specs.declared.store.head.Span.{Span}
use Rattle.pl_unify.specs.declared.store.head.Met.{Met}
use Rattle.pl_unify.specs.declared.store.head.Met.TheVariants.{Done, Clash, Parts}
use Rattle.pl_unify.specs.State.{State}
use Rattle.pl_unify.specs.Steps.{pair_span}
use Rattle.pl_unify.specs.Match.{Matched, code_equation}

-- the places of a span's equations
abbrev pub pairs_of : Span → List (ℕ × ℕ)
pairs_of s = pair_span s.place s.code s.left

abbrev pub all_pairs : List Span → List (ℕ × ℕ)
all_pairs [] = []
all_pairs (s ∷ ss) = pairs_of s ++ all_pairs ss

-- what is left of the equation of a tree with a place of code
abbrev pub IsMet : State → State → ℕ → List CodeWord → Tree ℕ → ℕ → Met → Type 0
IsMet old new base ws t p Done = Matched old new base ws t p []
IsMet old new base ws t p Clash = Solved (code_equation old base ws t p) None
IsMet old new base ws t p (Parts s) = Matched old new base ws t p (pairs_of s)
