-- The equations of a goal's arguments.
use Rattle.std.specs.Prelude.{ℕ, ◌+◌, List, [], ◌∷◌}
use Rattle.pl_terms.specs.Trees.{Tree, var, int, atom, comp, Trees, nil, cons}
use Rattle.pl_unify.specs.declared.code.CodeWord.{CodeWord}
use Rattle.pl_unify.specs.State.{State}
use Rattle.pl_unify.specs.Code.{code_tree_in}

abbrev pub arguments_of : Tree ℕ → Trees ℕ
arguments_of (var n) = nil
arguments_of (int z) = nil
arguments_of (atom a) = nil
arguments_of (comp f ts) = ts

-- the equations of trees with the code's places from one on
abbrev pub argument_equations : State → ℕ → List CodeWord → ℕ → Trees ℕ → List (Tree ℕ × Tree ℕ)
argument_equations s base ws p nil = []
argument_equations s base ws p (cons t ts) = (t, code_tree_in s base ws p) ∷ argument_equations s base ws (p + 1) ts
