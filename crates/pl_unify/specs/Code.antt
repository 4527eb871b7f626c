-- The code of terms: words as those of a store, whose variables have the numbers of a clause's own.
use Rattle.std.specs.Prelude.{ℕ, zero, suc, ◌+◌, ◌-◌, ◌<◌, ◌≤◌, ◌^◌, pos, List, [], ◌∷◌, map, length, slice_index_or}
use Rattle.pl_terms.specs.Trees.{Tree, var}
use Rattle.unifier_model.specs.Substitution.{raise, apply}
use Rattle.pl_unify.specs.declared.word.Word.{Word}
use Rattle.pl_unify.specs.declared.word.Word.TheVariants as W
use Rattle.pl_unify.specs.declared.code.CodeWord.{CodeWord}
use Rattle.pl_unify.specs.declared.code.CodeWord.TheVariants as K
use Rattle.pl_terms.specs.declared.cell.Cell.{Cell}
use Rattle.pl_terms.specs.declared.cell.Cell.TheVariants as C
use Rattle.pl_unify.specs.Words.{bases}
use Rattle.pl_unify.specs.State.{State, bound}

-- the words of the places, and a number that all variables are below
pub record Layout : Type 0 where
  pub words : List CodeWord
  pub vars : ℕ

-- stands past the end of a list of words
abbrev pub no_code : CodeWord
no_code = K.Int (pos 0)

-- the word as one of a store
abbrev pub plain : CodeWord → Word
plain (K.Var n) = W.Var n
plain (K.Int z) = W.Int z
plain (K.Name a) = W.Name a
plain (K.Comp k f first from) = W.Comp k f first

-- the word is a compound's
abbrev pub IsCompound : CodeWord → Type 0
IsCompound (K.Var n) = ⊥
IsCompound (K.Int z) = ⊥
IsCompound (K.Name a) = ⊥
IsCompound (K.Comp k f first from) = Unit {0}

-- the trees of the places
abbrev pub code_base : List CodeWord → List (Tree ℕ)
code_base ws = bases [] (map plain ws)

abbrev pub code_tree : List CodeWord → ℕ → Tree ℕ
code_tree ws p = slice_index_or (code_base ws) p (var 0)

-- the tree of the last place
abbrev pub last_tree : List CodeWord → Tree ℕ
last_tree ws = code_tree ws (length ws - 1)

-- the tree of a place in a state, whose variables have numbers from `base` on there
abbrev pub code_tree_in : State → ℕ → List CodeWord → ℕ → Tree ℕ
code_tree_in s base ws p = apply (bound s) (raise base (code_tree ws p))

-- nothing of the word stands before a place
abbrev pub From : ℕ → CodeWord → Type 0
From start (K.Var n) = Unit {0}
From start (K.Int z) = Unit {0}
From start (K.Name a) = Unit {0}
From start (K.Comp k f first from) = start ≤ from

-- nothing of the words of a range stands before it
abbrev pub Closed : List CodeWord → ℕ → ℕ → Type 0
Closed ws start end = (q : ℕ) → start ≤ q → q < end → From start (slice_index_or ws q no_code)

-- a word is in order at a place
abbrev pub CodeIn : List CodeWord → ℕ → ℕ → CodeWord → Type 0
CodeIn ws vars p (K.Var n) = n < vars
CodeIn ws vars p (K.Int z) = Unit {0}
CodeIn ws vars p (K.Name a) = Unit {0}
CodeIn ws vars p (K.Comp k f first from) = (from ≤ first) × (first + k ≤ p) × Closed ws from (first + k) × (0 < k)

pub record IsCode (ws : List CodeWord) (vars : ℕ) : Type 0 where
  pub small : vars < 2 ^ 63
  pub words_in : (p : ℕ) → p < length ws → CodeIn ws vars p (slice_index_or ws p no_code)

-- the word of a store for one of the code's range from `start` on, where the range is put from `at` on
abbrev pub placed : ℕ → ℕ → ℕ → CodeWord → Word
placed base start at (K.Var n) = W.Var (n + base)
placed base start at (K.Int z) = W.Int z
placed base start at (K.Name a) = W.Name a
placed base start at (K.Comp k f first from) = W.Comp k f ((first - start) + at)

-- a variable's raised number is below
abbrev pub RaisedBelow : ℕ → ℕ → CodeWord → Type 0
RaisedBelow top base (K.Var n) = n + base < top
RaisedBelow top base (K.Int z) = Unit {0}
RaisedBelow top base (K.Name a) = Unit {0}
RaisedBelow top base (K.Comp k f first from) = Unit {0}

-- words of unbound variables, from a number on
abbrev pub own_words : ℕ → ℕ → List Word
own_words n zero = []
own_words n (suc k) = W.Var n ∷ own_words (n + 1) k

-- the variables of the cells are below
abbrev pub VarsBelow : ℕ → List Cell → Type 0
VarsBelow vars [] = Unit {0}
VarsBelow vars (C.Var n ∷ cs) = (n < vars) × VarsBelow vars cs
VarsBelow vars (C.Int z ∷ cs) = VarsBelow vars cs
VarsBelow vars (C.Name a ∷ cs) = VarsBelow vars cs
VarsBelow vars (C.Comp f k ∷ cs) = VarsBelow vars cs

-- where the first of some pieces starts that stand one after another up to a place
abbrev pub start_of : ℕ → ℕ → List (CodeWord × ℕ) → ℕ
start_of zero end ps = end
start_of (suc k) end [] = end
start_of (suc k) end (p ∷ ps) = start_of k p.1 ps

-- the pieces' words
abbrev pub piece_words : List (CodeWord × ℕ) → List CodeWord
piece_words ps = map (λ p. p.0) ps
