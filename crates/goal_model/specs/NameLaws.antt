-- Unifiers under other names.
use Rattle.std.specs.Prelude.{◌≡◌, ℕ, List, map, option_map, Bool}
use Rattle.pl_terms.specs.Trees.{Tree, renamed}
use Rattle.unifier_model.specs.Mgu.{mgu}

-- different names become different ones
abbrev pub KeepsApart : (ℕ → ℕ) → Type 0
KeepsApart f = (a b : ℕ) → f a ≡ f b → a ≡ b

-- names are one exactly where those that they become are
abbrev pub SameNames : {N M : Type 0} → (N → M) → (N → N → Bool) → (M → M → Bool) → Type 0
SameNames {N} f same same' = (a b : N) → same' (f a) (f b) ≡ same a b

abbrev pub equation_by : {N M : Type 0} → (N → M) → Tree N × Tree N → Tree M × Tree M
equation_by f e = (renamed f e.0, renamed f e.1)

abbrev pub replacement_by : {N M : Type 0} → (N → M) → ℕ × Tree N → ℕ × Tree M
replacement_by f b = (b.0, renamed f b.1)

-- the unifier of equations under other names is that of the equations, under these names
abbrev pub MguRenames : Type 0
MguRenames = (f : ℕ → ℕ) → KeepsApart f → (es : List (Tree ℕ × Tree ℕ)) → mgu (map (equation_by f) es) ≡ option_map (map (replacement_by f)) (mgu es)
