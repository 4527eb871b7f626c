-- What `load` asks and makes.
use Rattle.std.specs.Prelude.{ℕ, ◌+◌, ◌<◌, ◌≤◌, ◌^◌, max, List, [], ◌∷◌, map, reverse}
use Rattle.pl_terms.specs.declared.cell.Cell.{Cell}
use Rattle.pl_terms.specs.declared.cell.Cell.TheVariants as C
use Rattle.pl_terms.specs.Trees.{Tree}
use Rattle.pl_unify.specs.declared.word.Word.{Word}
use Rattle.pl_unify.specs.Words.{WordIn, word_tree}
use Rattle.pl_unify.specs.State.{State, base}

-- each raised number is one of the store, or the next one
abbrev pub NewInOrder : ℕ → ℕ → List Cell → Type 0
NewInOrder base next [] = Unit {0}
NewInOrder base next (C.Var n ∷ cs) = (n + base ≤ next) × NewInOrder base (max next (n + base + 1)) cs
NewInOrder base next (C.Int z ∷ cs) = NewInOrder base next cs
NewInOrder base next (C.Name a ∷ cs) = NewInOrder base next cs
NewInOrder base next (C.Comp f k ∷ cs) = NewInOrder base next cs

-- the next number after the variables of these cells are there
abbrev pub next_after : ℕ → ℕ → List Cell → ℕ
next_after base next [] = next
next_after base next (C.Var n ∷ cs) = max (n + base + 1) (next_after base next cs)
next_after base next (C.Int z ∷ cs) = next_after base next cs
next_after base next (C.Name a ∷ cs) = next_after base next cs
next_after base next (C.Comp f k ∷ cs) = next_after base next cs

-- the words are those of a store
abbrev pub WordsIn : ℕ → ℕ → List Word → Type 0
WordsIn cells next [] = Unit {0}
WordsIn cells next (w ∷ ws) = WordIn cells next w × WordsIn cells next ws

-- the trees of words, the last word's first
abbrev pub word_trees : State → List Word → List (Tree ℕ)
word_trees s words = map (word_tree (base s)) (reverse words)

-- a variable whose raised number is a number of the machine, or a compound with arguments, which are there
abbrev pub CellAllowed : ℕ → ℕ → Cell → Type 0
CellAllowed base words (C.Var n) = n + base < 2 ^ 64
CellAllowed base words (C.Int z) = Unit {0}
CellAllowed base words (C.Name a) = Unit {0}
CellAllowed base words (C.Comp f k) = (k ≤ words) × (0 < k)

abbrev pub raise_cell : ℕ → Cell → Cell
raise_cell base (C.Var n) = C.Var (n + base)
raise_cell base (C.Int z) = C.Int z
raise_cell base (C.Name a) = C.Name a
raise_cell base (C.Comp f k) = C.Comp f k
