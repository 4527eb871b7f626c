-- What one look at a tree shows.
use Rattle.std.specs.Prelude.{◌≡◌, ℕ, zero, suc}
use Rattle.pl_terms.specs.Trees.{Tree, Trees, var, int, atom, comp, nil, cons, count}
use Rattle.pl_unify.specs.declared.word.View.{View}
use Rattle.pl_unify.specs.declared.word.View.TheVariants as V

-- the root of a tree
abbrev pub root : Tree ℕ → View
root (var n) = V.Var n
root (int z) = V.Int z
root (atom a) = V.Name (record { 0 = a })
root (comp f ts) = V.Comp (record { 0 = f }) (count ts)

abbrev pub arity : Tree ℕ → ℕ
arity (var n) = 0
arity (int z) = 0
arity (atom a) = 0
arity (comp f ts) = count ts

abbrev pub nth_tree : Trees ℕ → ℕ → Tree ℕ
nth_tree nil k = var 0
nth_tree (cons t ts) zero = t
nth_tree (cons t ts) (suc k) = nth_tree ts k

-- an argument, counted from 0
abbrev pub argument : Tree ℕ → ℕ → Tree ℕ
argument (var n) k = var 0
argument (int z) k = var 0
argument (atom a) k = var 0
argument (comp f ts) k = nth_tree ts k

-- the number of a variable
abbrev pub number_of : Tree ℕ → ℕ
number_of (var n) = n
number_of (int z) = 0
number_of (atom a) = 0
number_of (comp f ts) = 0

abbrev pub IsVariable : Tree ℕ → Type 0
IsVariable t = t ≡ var (number_of t)
