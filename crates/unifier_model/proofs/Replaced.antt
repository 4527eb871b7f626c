-- Laws of `replace` and `apply`.
use Rattle.std.proofs.Common.{◌≡◌, ℕ, List, [], ◌∷◌, ◌++◌, refl, ap, ◌∙◌, Bool, true, false, ◌||◌, nat_eq, arith}
use Rattle.pl_terms.specs.Trees.{Tree, Trees, var, int, atom, comp, nil, cons}
use Rattle.unifier_model.specs.Substitution.{replace, replace_all, occurs, occurs_any, apply, apply_all}

-- of a disjunction that is false both sides are
pub or_false_left : (a b : Bool) → (a || b) ≡ false → a ≡ false
or_false_left true b h = cc
or_false_left false b h = refl

pub or_false_right : (a b : Bool) → (a || b) ≡ false → b ≡ false
or_false_right true b h = cc
or_false_right false b h = h

-- a tree without the variable stays
mutual
  pub replace-absent : (n : ℕ) (r t : Tree ℕ) → occurs n t ≡ false → replace n r t ≡ t
  replace-absent n r (var m) h = rw h
  replace-absent n r (int z) h = refl
  replace-absent n r (atom a) h = refl
  replace-absent n r (comp f ts) h = ap (comp f) (replace_all-absent n r ts h)

  pub replace_all-absent : (n : ℕ) (r : Tree ℕ) (ts : Trees ℕ) → occurs_any n ts ≡ false → replace_all n r ts ≡ ts
  replace_all-absent n r nil h = refl
  replace_all-absent n r (cons t ts) h =
      ap (λ x. cons x (replace_all n r ts)) (replace-absent n r t (or_false_left (occurs n t) (occurs_any n ts) h))
      ∙ ap (cons t) (replace_all-absent n r ts (or_false_right (occurs n t) (occurs_any n ts) h))

pub apply-append : (xs ys : List (ℕ × Tree ℕ)) (t : Tree ℕ) → apply (xs ++ ys) t ≡ apply ys (apply xs t)
apply-append [] ys t = refl
apply-append (x ∷ xs) ys t = apply-append xs ys (replace x.0 x.1 t)

pub apply_all-append : (xs ys : List (ℕ × Tree ℕ)) (t : Trees ℕ) → apply_all (xs ++ ys) t ≡ apply_all ys (apply_all xs t)
apply_all-append [] ys t = refl
apply_all-append (x ∷ xs) ys t = apply_all-append xs ys (replace_all x.0 x.1 t)

pub apply-int : (bs : List (ℕ × Tree ℕ)) (z : _) → apply bs (int z) ≡ int z
apply-int [] z = refl
apply-int (b ∷ bs) z = apply-int bs z

pub apply-atom : (bs : List (ℕ × Tree ℕ)) (a : _) → apply bs (atom a) ≡ atom a
apply-atom [] a = refl
apply-atom (b ∷ bs) a = apply-atom bs a

pub apply-comp : (bs : List (ℕ × Tree ℕ)) (f : _) (ts : Trees ℕ) → apply bs (comp f ts) ≡ comp f (apply_all bs ts)
apply-comp [] f ts = refl
apply-comp (b ∷ bs) f ts = apply-comp bs f (replace_all b.0 b.1 ts)

pub apply_all-none : (bs : List (ℕ × Tree ℕ)) → apply_all bs nil ≡ nil
apply_all-none [] = refl
apply_all-none (b ∷ bs) = apply_all-none bs

pub apply_all-tree : (bs : List (ℕ × Tree ℕ)) (t : Tree ℕ) (ts : Trees ℕ) → apply_all bs (cons t ts) ≡ cons (apply bs t) (apply_all bs ts)
apply_all-tree [] t ts = refl
apply_all-tree (b ∷ bs) t ts = apply_all-tree bs (replace b.0 b.1 t) (replace_all b.0 b.1 ts)

pub replace-same : (n : ℕ) (r : Tree ℕ) → replace n r (var n) ≡ r
replace-same n r = let e : nat_eq n n ≡ true = search arith in rw e
