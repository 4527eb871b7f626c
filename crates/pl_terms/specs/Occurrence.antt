-- The variables of a tree in order of first occurrence.
use Rattle.std.specs.Prelude.{◌≡◌, ℕ, zero, suc, List, [], ◌∷◌, ◌++◌, length, nat_eq, Bool, true, false, ◌||◌, if◌then◌else◌}
use Rattle.pl_terms.specs.Trees.{Tree, var, int, atom, comp, Trees, nil, cons}

-- each occurrence, from the left
abbrev mutual
  pub occurrences : {N : Type 0} → Tree N → List ℕ
  occurrences (var n) = n ∷ []
  occurrences (int z) = []
  occurrences (atom s) = []
  occurrences (comp s ts) = all_occurrences ts

  pub all_occurrences : {N : Type 0} → Trees N → List ℕ
  all_occurrences nil = []
  all_occurrences (cons t ts) = occurrences t ++ all_occurrences ts

-- a number is in the list
abbrev pub is_in : ℕ → List ℕ → Bool
is_in n [] = false
is_in n (m ∷ ms) = nat_eq n m || is_in n ms

-- a number in front, unless it was seen
abbrev pub unless_seen : Bool → ℕ → List ℕ → List ℕ
unless_seen true n ns = ns
unless_seen false n ns = n ∷ ns

-- the list, each number at its first place alone, without those that were seen before
abbrev pub first_after : List ℕ → List ℕ → List ℕ
first_after seen [] = []
first_after seen (n ∷ ns) = unless_seen (is_in n seen) n (first_after (n ∷ seen) ns)

abbrev pub variables : {N : Type 0} → Tree N → List ℕ
variables t = first_after [] (occurrences t)

abbrev pub from_to : ℕ → ℕ → List ℕ
from_to n zero = []
from_to n (suc k) = n ∷ from_to (suc n) k

-- the variables are 0, 1, 2 and so on
abbrev pub IsNumbered : {N : Type 0} → Tree N → Type 0
IsNumbered t = variables t ≡ from_to 0 (length (variables t))

-- the place of a number in a list, or the list's length
abbrev pub place_of : ℕ → List ℕ → ℕ
place_of n [] = 0
place_of n (m ∷ ms) = if nat_eq n m then 0 else suc (place_of n ms)

abbrev mutual
  pub numbered_by : {N : Type 0} → (ℕ → ℕ) → Tree N → Tree N
  numbered_by f (var n) = var (f n)
  numbered_by f (int z) = int z
  numbered_by f (atom s) = atom s
  numbered_by f (comp s ts) = comp s (all_numbered_by f ts)

  pub all_numbered_by : {N : Type 0} → (ℕ → ℕ) → Trees N → Trees N
  all_numbered_by f nil = nil
  all_numbered_by f (cons t ts) = cons (numbered_by f t) (all_numbered_by f ts)

-- the tree with its variables numbered from 0 in order of first occurrence
abbrev pub canon : {N : Type 0} → Tree N → Tree N
canon t = numbered_by (λ n. place_of n (variables t)) t
