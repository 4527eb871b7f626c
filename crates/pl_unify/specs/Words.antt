-- What the words of a store mean. A compound's arguments stand in places before it, one after another.
use Rattle.std.specs.Prelude.{◌≡◌, ℕ, ◌+◌, ◌<◌, ◌≤◌, pos, List, [], ◌∷◌, ◌++◌, take, drop, length, nat_eq, if◌then◌else◌}
use Rattle.pl_terms.specs.Trees.{Tree, var, int, atom, comp}
use Rattle.pl_unify.specs.Prefix.{trees}
use Rattle.pl_unify.specs.declared.word.Word.{Word}
use Rattle.pl_unify.specs.declared.word.Word.TheVariants.{Var, Int, Name, Comp}
use Rattle.unifier_model.specs.Substitution.{apply}

-- stands past the end of a list of words
abbrev pub no_word : Word
no_word = Int (pos 0)

-- the tree of a word, no binding followed, where `base` has the trees of the places before it
abbrev pub word_tree : List (Tree ℕ) → Word → Tree ℕ
word_tree base (Var n) = var n
word_tree base (Int z) = int z
word_tree base (Name a) = atom a.0
word_tree base (Comp k f first) = comp f.0 (trees (take k (drop first base)))

-- the trees of places, no binding followed: those of `base`, and behind them one for each word
abbrev pub bases : List (Tree ℕ) → List Word → List (Tree ℕ)
bases base [] = base
bases base (w ∷ ws) = bases (base ++ word_tree base w ∷ []) ws

-- a variable that was bound, and the word that it was bound to
pub record Link : Type 0 where
  pub var : ℕ
  pub word : Word

abbrev pub link : ℕ → Word → Link
link n w = record { var = n; word = w }

abbrev pub no_link : Link
no_link = record { var = 0; word = no_word }

-- the replacements that links make, oldest first: those of `done`, and behind them one for each link
abbrev pub bound_onto : List (Tree ℕ) → List (ℕ × Tree ℕ) → List Link → List (ℕ × Tree ℕ)
bound_onto base done [] = done
bound_onto base done (l ∷ ls) = bound_onto base (done ++ (l.var, apply done (word_tree base l.word)) ∷ []) ls

-- the place of the link of a variable, or their number where it has none
abbrev pub place_of : ℕ → List Link → ℕ
place_of n [] = 0
place_of n (l ∷ ls) = if nat_eq l.var n then 0 else (place_of n ls + 1)

-- the variable has no link
abbrev pub IsFree : ℕ → List Link → Type 0
IsFree n ls = place_of n ls ≡ length ls

-- the variables of a word are below `next`, and its arguments, at least one, at places below `cells`
abbrev pub WordIn : ℕ → ℕ → Word → Type 0
WordIn cells next (Var n) = n < next
WordIn cells next (Int z) = Unit {0}
WordIn cells next (Name a) = Unit {0}
WordIn cells next (Comp k f first) = (first + k ≤ cells) × (0 < k)
