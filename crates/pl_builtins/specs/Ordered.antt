-- Comparing two terms of a store.
use Rattle.std.specs.Prelude.{◌≡◌, ℕ, ◌+◌, ◌<◌, zero, suc, List, [], ◌∷◌}
use Rattle.std.specs.declared.cmp.Ordering.{Ordering}
use Rattle.std.specs.declared.cmp.Ordering.TheVariants.{Less, Equal, Greater}
use Rattle.std.specs.Ordering.{nat_cmp, int_cmp, ordering_then}
use Rattle.pl_terms.specs.Trees.{Tree, Trees, var, int, atom, comp, nil, cons}
use Rattle.pl_terms.specs.Order.{tree_cmp, trees_cmp}
use Rattle.pl_terms.specs.CellOrder.{name_cmp}
use Rattle.unifier_model.specs.Substitution.{size, sizes}
use Rattle.pl_unify.specs.declared.word.Ref.{Ref}
use Rattle.pl_unify.specs.declared.word.View.{View}
use Rattle.pl_unify.specs.declared.word.View.TheVariants as V
use Rattle.pl_unify.specs.State.{State, tree_at, IsRef}

-- the order of the roots
abbrev pub root_cmp : List (List ℕ) → View → View → Ordering
root_cmp names (V.Var n) (V.Var m) = nat_cmp n m
root_cmp names (V.Var n) u = Less
root_cmp names (V.Int x) (V.Var m) = Greater
root_cmp names (V.Int x) (V.Int y) = int_cmp x y
root_cmp names (V.Int x) u = Less
root_cmp names (V.Name a) (V.Name b) = name_cmp names a.0 b.0
root_cmp names (V.Name a) (V.Comp g j) = Less
root_cmp names (V.Name a) u = Greater
root_cmp names (V.Comp f k) (V.Comp g j) = ordering_then (nat_cmp k j) (name_cmp names f.0 g.0)
root_cmp names (V.Comp f k) u = Greater

abbrev pub view_arity : View → ℕ
view_arity (V.Var n) = 0
view_arity (V.Int z) = 0
view_arity (V.Name a) = 0
view_arity (V.Comp f k) = k

-- the order of pairs of places, the first pair first
abbrev pub pairs_cmp : State → List (List ℕ) → List (Ref × Ref) → Ordering
pairs_cmp s names [] = Equal
pairs_cmp s names (p ∷ ps) = ordering_then (tree_cmp (name_cmp names) (tree_at s p.0) (tree_at s p.1)) (pairs_cmp s names ps)

-- the places of the pairs are there
abbrev pub PairsOk : State → List (Ref × Ref) → Type 0
PairsOk s [] = Unit {0}
PairsOk s (p ∷ ps) = (IsRef s p.0 × IsRef s p.1) × PairsOk s ps

-- the nodes of the left sides
abbrev pub left_size : State → List (Ref × Ref) → ℕ
left_size s [] = 0
left_size s (p ∷ ps) = size (tree_at s p.0) + left_size s ps

-- one pair was compared at its roots, and its arguments are there in its place
pub record Compared (s : State) (names : List (List ℕ)) (old new : List (Ref × Ref)) (o : Ordering) : Type 0 where
  pub same : ordering_then o (pairs_cmp s names new) ≡ pairs_cmp s names old
  pub ok : PairsOk s old → PairsOk s new
  pub smaller : left_size s new < left_size s old

abbrev pub args_of : Tree ℕ → Trees ℕ
args_of (var n) = nil
args_of (int z) = nil
args_of (atom a) = nil
args_of (comp f ts) = ts

-- the trees from a place on
abbrev pub from : ℕ → Trees ℕ → Trees ℕ
from i nil = nil
from zero (cons t ts) = cons t ts
from (suc i) (cons t ts) = from i ts

-- the pairs of the arguments of p and q from i on stand in front of the old ones
pub record ArgumentsOn (s : State) (p q : Ref) (i : ℕ) (old new : List (Ref × Ref)) : Type 0 where
  pub same : (names : List (List ℕ)) → pairs_cmp s names new ≡ ordering_then (trees_cmp (name_cmp names) (from i (args_of (tree_at s p))) (from i (args_of (tree_at s q)))) (pairs_cmp s names old)
  pub ok : PairsOk s old → PairsOk s new
  pub smaller : left_size s new ≡ sizes (from i (args_of (tree_at s p))) + left_size s old
