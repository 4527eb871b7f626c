-- How code is made, piece by piece.
use Rattle.std.specs.Prelude.{ℕ, ◌≤◌, List, [], ◌∷◌, map, length}
use Rattle.pl_terms.specs.Trees.{Tree}
use Rattle.pl_unify.specs.declared.code.CodeWord.{CodeWord}
use Rattle.pl_unify.specs.Words.{word_tree}
use Rattle.pl_unify.specs.Code.{plain, code_base, From, Closed, CodeIn, IsCode}

-- pieces that stand one after another up to a place, the last one first
abbrev pub Segments : List CodeWord → ℕ → List (CodeWord × ℕ) → Type 0
Segments ws end [] = Unit {0}
Segments ws end (p ∷ ps) = (p.1 ≤ end) × Closed ws p.1 end × From p.1 p.0 × Segments ws p.1 ps

abbrev pub PiecesIn : List CodeWord → ℕ → List (CodeWord × ℕ) → Type 0
PiecesIn ws vars [] = Unit {0}
PiecesIn ws vars (p ∷ ps) = CodeIn ws vars (length ws) p.0 × PiecesIn ws vars ps

-- code, and words that are to be put behind it
pub record Coded (ws : List CodeWord) (vars : ℕ) (ps : List (CodeWord × ℕ)) : Type 0 where
  pub code : IsCode ws vars
  pub pieces : PiecesIn ws vars ps
  pub segments : Segments ws (length ws) ps

-- the trees of words that are to be put behind the code
abbrev pub piece_trees : List CodeWord → List (CodeWord × ℕ) → List (Tree ℕ)
piece_trees ws ps = map (λ p. word_tree (code_base ws) (plain p.0)) ps
