-- Places in a list at which a test holds.
use Rattle.std.specs.Prelude.{ℕ, ◌+◌, List, [], ◌∷◌, nat_le, Bool, Option, None, Some, find, if◌then◌else◌}

-- the places of the items that pass a test, where the first item is at place i
abbrev pub places_from : {X : Type 0} → (X → Bool) → ℕ → List X → List ℕ
places_from test i [] = []
places_from test i (x ∷ xs) = if test x then i ∷ places_from test (i + 1) xs else places_from test (i + 1) xs

abbrev pub places : {X : Type 0} → (X → Bool) → List X → List ℕ
places test xs = places_from test 0 xs

-- the first place from k on at which a test holds
abbrev pub next_place : {X : Type 0} → (X → Bool) → ℕ → List X → Option ℕ
next_place test k xs = find (nat_le k) (places test xs)

-- the lesser of two places, where there are any
abbrev pub earlier : Option ℕ → Option ℕ → Option ℕ
earlier None q = q
earlier (Some i) None = Some i
earlier (Some i) (Some j) = if nat_le i j then Some i else Some j
