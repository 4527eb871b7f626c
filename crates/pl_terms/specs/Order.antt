-- The standard order: variables, integers, atoms, compound terms (arity, name, arguments from the left).
use Rattle.std.specs.Prelude.{ℕ, List, [], slice_index_or}
use Rattle.std.specs.Ordering.{nat_cmp, ordering_then, int_cmp}
use Rattle.std.specs.Cmp.Lexicographic.{slice_cmp}
use Rattle.std.specs.declared.cmp.Ordering.{Ordering}
use Rattle.std.specs.declared.cmp.Ordering.TheVariants.{Less, Equal, Greater}
use Rattle.pl_terms.specs.Trees.{Tree, var, int, atom, comp, Trees, nil, cons, count, renamed}

abbrev mutual
  pub tree_cmp : {N : Type 0} → (N → N → Ordering) → Tree N → Tree N → Ordering
  tree_cmp R (var m) (var n) = nat_cmp m n
  tree_cmp R (var m) (int z) = Less
  tree_cmp R (var m) (atom s) = Less
  tree_cmp R (var m) (comp s ts) = Less
  tree_cmp R (int y) (var n) = Greater
  tree_cmp R (int y) (int z) = int_cmp y z
  tree_cmp R (int y) (atom s) = Less
  tree_cmp R (int y) (comp s ts) = Less
  tree_cmp R (atom r) (var n) = Greater
  tree_cmp R (atom r) (int z) = Greater
  tree_cmp R (atom r) (atom s) = R r s
  tree_cmp R (atom r) (comp s ts) = Less
  tree_cmp R (comp r ts) (var n) = Greater
  tree_cmp R (comp r ts) (int z) = Greater
  tree_cmp R (comp r ts) (atom s) = Greater
  tree_cmp R (comp r ts) (comp s us) = ordering_then (nat_cmp (count ts) (count us)) (ordering_then (R r s) (trees_cmp R ts us))

  pub trees_cmp : {N : Type 0} → (N → N → Ordering) → Trees N → Trees N → Ordering
  trees_cmp R nil nil = Equal
  trees_cmp R nil (cons u us) = Less
  trees_cmp R (cons t ts) nil = Greater
  trees_cmp R (cons t ts) (cons u us) = ordering_then (tree_cmp R t u) (trees_cmp R ts us)

-- texts go by their bytes, which is the order of their characters
abbrev pub text_cmp : List ℕ → List ℕ → Ordering
text_cmp = slice_cmp nat_cmp

abbrev pub standard_cmp : Tree (List ℕ) → Tree (List ℕ) → Ordering
standard_cmp = tree_cmp text_cmp

-- the tree with texts for the numbers of names
abbrev pub text_of : List (List ℕ) → ℕ → List ℕ
text_of names n = slice_index_or names n []

abbrev pub texts_of : List (List ℕ) → Tree ℕ → Tree (List ℕ)
texts_of names = renamed (text_of names)
