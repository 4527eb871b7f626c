-- What matching a head against its code says.
use Rattle.std.specs.Prelude.{◌≡◌, ℕ, ◌+◌, ◌<◌, List, [], ◌∷◌, ◌++◌, length, map, Option, Some, None}
use Rattle.pl_terms.specs.Trees.{Tree}
use Rattle.unifier_model.specs.Substitution.{size, apply}
use Rattle.pl_unify.specs.declared.word.Word.{Word}
use Rattle.pl_unify.specs.declared.code.CodeWord.{CodeWord}
use Rattle.pl_unify.specs.declared.word.Ref.{Ref}
use Rattle.pl_unify.specs.Words.{WordIn}
use Rattle.pl_unify.specs.State.{State, tree_at, tree_of_word, tree_of_var, bound, Extends, IsRef}
use Rattle.unifier_model.specs.Unifier.{Solved}
use Rattle.pl_unify.specs.Code.{code_tree, code_tree_in}

-- the equations after the replacements
abbrev pub applied : List (ℕ × Tree ℕ) → List (Tree ℕ × Tree ℕ) → List (Tree ℕ × Tree ℕ)
applied bs [] = []
applied bs (e ∷ es) = (apply bs e.0, apply bs e.1) ∷ applied bs es

-- the answer with replacements in front
abbrev pub after : List (ℕ × Tree ℕ) → Option (List (ℕ × Tree ℕ)) → Option (List (ℕ × Tree ℕ))
after done None = None
after done (Some bs) = Some (done ++ bs)

-- the most general unifier of equations was applied to all
pub record SolvedBy (old new : State) (es : List (Tree ℕ × Tree ℕ)) : Type 0 where
  pub extends : Extends old new
  pub unifier : List (ℕ × Tree ℕ)
  pub solved : Solved es (Some unifier)
  pub bound : bound new ≡ bound old ++ unifier
  pub places : (r : Ref) → IsRef old r → tree_at new r ≡ apply unifier (tree_at old r)
  pub words : (w : Word) → WordIn (length old.cells) old.next w → tree_of_word new w ≡ apply unifier (tree_of_word old w)
  pub variables : (n : ℕ) → tree_of_var new n ≡ apply unifier (tree_of_var old n)

-- a new variable was made, bound to a word from before it
pub record Born (old new : State) (w : Word) : Type 0 where
  pub extends : Extends old new
  pub cells : new.cells ≡ old.cells
  pub next : new.next ≡ old.next + 1
  pub bound : bound new ≡ bound old ++ (old.next, tree_of_word old w) ∷ []

-- places of a store and of code
abbrev pub PairsIn : ℕ → ℕ → List (ℕ × ℕ) → Type 0
PairsIn cells words [] = Unit {0}
PairsIn cells words (p ∷ ps) = (p.0 < cells) × (p.1 < words) × PairsIn cells words ps

-- the equations of places of a store with places of code
abbrev pub code_equations : State → ℕ → List CodeWord → List (ℕ × ℕ) → List (Tree ℕ × Tree ℕ)
code_equations s base ws ps = map (λ p. (tree_at s (record { 0 = p.0 }), code_tree_in s base ws p.1)) ps

-- how large the code's sides are
abbrev pub code_weight : List CodeWord → List (ℕ × ℕ) → ℕ
code_weight ws [] = 0
code_weight ws (p ∷ ps) = size (code_tree ws p.1) + code_weight ws ps

-- the equation of a tree with a place of code was solved, up to the equations of these places
pub record Matched (old new : State) (base : ℕ) (ws : List CodeWord) (t : Tree ℕ) (p : ℕ) (left : List (ℕ × ℕ)) : Type 0 where
  pub extends : Extends old new
  pub unifier : List (ℕ × Tree ℕ)
  pub bound : bound new ≡ bound old ++ unifier
  pub below : PairsIn (length new.cells) (length ws) left
  pub smaller : code_weight ws left < size (code_tree ws p)
  pub reduces : (es : List (Tree ℕ × Tree ℕ)) (r : Option (List (ℕ × Tree ℕ))) → Solved (code_equations new base ws left ++ applied unifier es) r
      → Solved ((t, code_tree_in old base ws p) ∷ es) (after unifier r)

-- the equation of a tree with a place of code
abbrev pub code_equation : State → ℕ → List CodeWord → Tree ℕ → ℕ → List (Tree ℕ × Tree ℕ)
code_equation s base ws t p = (t, code_tree_in s base ws p) ∷ []

-- how far the unifier of equations has come, of which those of the list are left
pub record Matching (old s : State) (base : ℕ) (ws : List CodeWord) (all left : List (Tree ℕ × Tree ℕ)) : Type 0 where
  pub extends : Extends old s
  pub unifier : List (ℕ × Tree ℕ)
  pub bound : bound s ≡ bound old ++ unifier
  pub reduces : (r : Option (List (ℕ × Tree ℕ))) → Solved left r → Solved all (after unifier r)
