-- Where a name and a number of arguments may stand among the evaluable functors, by a key of both.
use Rattle.std.specs.Prelude.{ℕ, ◌+◌, ◌-◌, ◌*◌, ◌%◌, List, [], ◌∷◌, length, slice_index}

-- no two evaluable functors have the same key
abbrev pub key : List ℕ → ℕ → ℕ
key name k = (slice_index name 0 + 4 * slice_index name (length name - 1) + 3 * k) % 32

-- the place of the evaluable functor of each key, or 0
unfoldable pub places : List ℕ
places =
    0 ∷ 0 ∷ 0 ∷ 11 ∷ 2 ∷ 5 ∷ 0 ∷ 3
    ∷ 0 ∷ 0 ∷ 0 ∷ 0 ∷ 12 ∷ 0 ∷ 13 ∷ 8
    ∷ 10 ∷ 4 ∷ 6 ∷ 0 ∷ 0 ∷ 0 ∷ 0 ∷ 0
    ∷ 0 ∷ 0 ∷ 0 ∷ 0 ∷ 7 ∷ 1 ∷ 9 ∷ 0 ∷ []

-- the only place of an evaluable functor that may have this name and number of arguments
abbrev pub likely_place : List ℕ → ℕ → ℕ
likely_place name k = slice_index places (key name k)
