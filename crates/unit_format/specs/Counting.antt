-- Numbers that come in order: each is one that came before, or the next.
use Rattle.std.specs.Prelude.{ℕ, suc, List, [], ◌∷◌, Option, Some, None, nat_eq, nat_lt, if◌then◌else◌}

-- how many have come, where these come after so many, and no more than the limit may come
abbrev pub counted_within : ℕ → ℕ → List ℕ → Option ℕ
counted_within limit k [] = Some k
counted_within limit k (x ∷ xs) = if nat_lt x k then counted_within limit k xs else if nat_eq x k then (if nat_lt k limit then counted_within limit (suc k) xs else None) else None
