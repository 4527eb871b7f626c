-- Substitutions: a tree for each variable, or replacements made one after another.
use Rattle.std.specs.Prelude.{ℕ, suc, ◌+◌, ◌||◌, List, [], ◌∷◌, Bool, false, nat_eq, if◌then◌else◌}
use Rattle.pl_terms.specs.Trees.{Tree, var, int, atom, comp, Trees, nil, cons}
use Rattle.pl_terms.specs.Occurrence.{numbered_by, all_numbered_by}

-- the tree with s n for each variable n, all at once
abbrev mutual
  pub substitute : {N : Type 0} → (ℕ → Tree N) → Tree N → Tree N
  substitute s (var n) = s n
  substitute s (int z) = int z
  substitute s (atom a) = atom a
  substitute s (comp f ts) = comp f (substitute_all s ts)

  pub substitute_all : {N : Type 0} → (ℕ → Tree N) → Trees N → Trees N
  substitute_all s nil = nil
  substitute_all s (cons t ts) = cons (substitute s t) (substitute_all s ts)

-- first r, then s
abbrev pub composed : {N : Type 0} → (ℕ → Tree N) → (ℕ → Tree N) → ℕ → Tree N
composed s r n = substitute s (r n)

-- the tree with r for each variable of the number n
abbrev mutual
  pub replace : {N : Type 0} → ℕ → Tree N → Tree N → Tree N
  replace n r (var m) = if nat_eq n m then r else var m
  replace n r (int z) = int z
  replace n r (atom a) = atom a
  replace n r (comp f ts) = comp f (replace_all n r ts)

  pub replace_all : {N : Type 0} → ℕ → Tree N → Trees N → Trees N
  replace_all n r nil = nil
  replace_all n r (cons t ts) = cons (replace n r t) (replace_all n r ts)

-- the tree after the replacements, the first of the list first
abbrev pub apply : {N : Type 0} → List (ℕ × Tree N) → Tree N → Tree N
apply [] t = t
apply (b ∷ bs) t = apply bs (replace b.0 b.1 t)

abbrev pub apply_all : {N : Type 0} → List (ℕ × Tree N) → Trees N → Trees N
apply_all [] ts = ts
apply_all (b ∷ bs) ts = apply_all bs (replace_all b.0 b.1 ts)

-- the replacements as a substitution
abbrev pub made_by : {N : Type 0} → List (ℕ × Tree N) → ℕ → Tree N
made_by bs n = apply bs (var n)

-- whether the variable of the number n is in the tree
abbrev mutual
  pub occurs : {N : Type 0} → ℕ → Tree N → Bool
  occurs n (var m) = nat_eq n m
  occurs n (int z) = false
  occurs n (atom a) = false
  occurs n (comp f ts) = occurs_any n ts

  pub occurs_any : {N : Type 0} → ℕ → Trees N → Bool
  occurs_any n nil = false
  occurs_any n (cons t ts) = occurs n t || occurs_any n ts

-- how many nodes a tree has
abbrev mutual
  pub size : {N : Type 0} → Tree N → ℕ
  size (var m) = 1
  size (int z) = 1
  size (atom a) = 1
  size (comp f ts) = suc (sizes ts)

  pub sizes : {N : Type 0} → Trees N → ℕ
  sizes nil = 0
  sizes (cons t ts) = size t + sizes ts

-- each variable's number raised
abbrev pub raise : {N : Type 0} → ℕ → Tree N → Tree N
raise base t = numbered_by (λ n. n + base) t

abbrev pub raise_all : {N : Type 0} → ℕ → Trees N → Trees N
raise_all base ts = all_numbered_by (λ n. n + base) ts
