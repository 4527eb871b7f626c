-- Files that were fetched.
use Rattle.std.specs.Prelude.{◌≡◌, ℕ, List, [], ◌∷◌, length, ◌≤◌, Some, IfSome}
use Rattle.plmod.specs.Meets.{Told}

-- the bytes under a name are these, where they are told, and they are short enough
abbrev pub IsUnder : Told → List ℕ → List ℕ → Type 0
IsUnder file name bytes = IfSome (file name) (λ told. told ≡ Some bytes) × (length bytes ≤ 67108864)

-- the same of several
abbrev pub AreUnder : Told → List (List ℕ) → List (List ℕ) → Type 0
AreUnder file [] [] = Unit {0}
AreUnder file [] (bytes ∷ contents) = ⊥
AreUnder file (name ∷ names) [] = ⊥
AreUnder file (name ∷ names) (bytes ∷ contents) = IsUnder file name bytes × AreUnder file names contents
