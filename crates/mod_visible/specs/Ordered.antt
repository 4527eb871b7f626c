-- Elements in their order, each once.
use Rattle.std.specs.Prelude.{List, [], ◌∷◌, Option, Some, None, if◌then◌else◌}
use Rattle.std.specs.Ordering.{is_lt}
use Rattle.std.specs.declared.cmp.Ordering.{Ordering}
use Rattle.std.specs.declared.cmp.Ordering.TheVariants.{Less, Equal, Greater}

module _ {X : Type 0} where
  abbrev pub put_by : Ordering → X → X → List X → List X → List X
  put_by Less x y ys put = x ∷ y ∷ ys
  put_by Equal x y ys put = y ∷ ys
  put_by Greater x y ys put = y ∷ put

  abbrev pub put : (X → X → Ordering) → X → List X → List X
  put cmp x [] = x ∷ []
  put cmp x (y ∷ ys) = put_by (cmp x y) x y ys (put cmp x ys)

  abbrev pub ordered : (X → X → Ordering) → List X → List X
  ordered cmp [] = []
  ordered cmp (x ∷ xs) = put cmp x (ordered cmp xs)

  -- of elements that never fall, those that rise above the one before them
  abbrev pub distinct_after : (X → X → Ordering) → Option X → List X → List X
  distinct_after cmp o [] = []
  distinct_after cmp None (x ∷ xs) = x ∷ distinct_after cmp (Some x) xs
  distinct_after cmp (Some y) (x ∷ xs) = if is_lt (cmp y x) then x ∷ distinct_after cmp (Some x) xs else distinct_after cmp (Some y) xs
