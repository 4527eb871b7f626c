-- Texts by number: a list of texts, in which each has its place as its number.
use Rattle.std.specs.Prelude.{◌≡◌, ℕ, List, [], ◌∷◌, ◌++◌, length, take, map, slice_get, nat_eq, Bool, Option, Some, fold, position, if◌then◌else◌}
use Rattle.std.specs.Cmp.Lexicographic.{pointwise}
use Rattle.std.specs.List.{list_any, IsDistinct}

-- whether two texts are the same
abbrev pub same_text : List ℕ → List ℕ → Bool
same_text = pointwise nat_eq

-- the texts, with this one last unless it is there
abbrev pub with_text : List (List ℕ) → List ℕ → List (List ℕ)
with_text texts text = if list_any (same_text text) texts then texts else texts ++ text ∷ []

-- the texts, with each of these in turn
abbrev pub with_texts : List (List ℕ) → List (List ℕ) → List (List ℕ)
with_texts = fold with_text

-- the number of a text, where it is there
abbrev pub text_place : List (List ℕ) → List ℕ → Option ℕ
text_place texts text = position (same_text text) texts

-- no text is there twice
abbrev pub AreDistinct : List (List ℕ) → Type 0
AreDistinct = IsDistinct same_text

-- the first texts stand at the front of the second, so that each number of them keeps its text
abbrev pub IsFront : List (List ℕ) → List (List ℕ) → Type 0
IsFront first second = take (length first) second ≡ first

-- each number of a list stands, in a second list, for the text at its place in the first
abbrev pub Remaps : List (List ℕ) → List (List ℕ) → List ℕ → Type 0
Remaps from into numbers = map (slice_get into) numbers ≡ map Some from
