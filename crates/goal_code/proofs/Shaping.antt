-- What a term's construct says of its goals and its size.
use Rattle.std.proofs.Common.{◌≡◌, ℕ, zero, suc, ◌+◌, Bool, true, false, List, [], ◌∷◌, ◌++◌, refl, ap, ◌∙◌, arith}
use Rattle.std.specs.Prelude.{nat_eq, if◌then◌else◌}
use Rattle.pl_atoms.specs.declared.names.NameId.{NameId}
use Rattle.pl_terms.specs.Trees.{Tree, var, int, atom, comp, nil, cons, count}
use Rattle.unifier_model.specs.Substitution.{size}
use Rattle.pl_unify.specs.declared.word.View.TheVariants as V
use Rattle.pl_unify.specs.Shape.{root, arity, argument}
use Rattle.goal_code.specs.declared.shape.ControlNames.{ControlNames}
use Rattle.goal_code.specs.Shapes.{Shape, conjunction, disjunction, if_then_else, if_then, cut, other, shape_of, disjunction_shape, conjuncts}

pub binary_root : (t : Tree ℕ) (f : NameId) → root t ≡ V.Comp f 2 → t ≡ comp f.0 (cons (argument t 0) (cons (argument t 1) nil))
binary_root (var n) f h = cc
binary_root (int z) f h = cc
binary_root (atom a) f h = cc
binary_root (comp g nil) f h = let e : zero ≡ 2 = cc in absurd (omega (arith, e))
binary_root (comp g (cons l nil)) f h = let e : suc zero ≡ 2 = cc in absurd (omega (arith, e))
binary_root (comp g (cons l (cons r nil))) f h = let e : g ≡ f.0 = cc in ap (λ x. comp x (cons l (cons r nil))) e
binary_root (comp g (cons l (cons r (cons u us)))) f h = let e : suc (suc (suc (count us))) ≡ 2 = cc in absurd (omega (arith, e))

pub two_arguments : (t : Tree ℕ) (f : NameId) → root t ≡ V.Comp f 2 → arity t ≡ 2
two_arguments t f h = ap arity (binary_root t f h)

pub disjunction_is : (s : ControlNames) (t : Tree ℕ) (f : NameId) → root t ≡ V.Comp f 2 → nat_eq f.0 s.conjunction.0 ≡ false → nat_eq f.0 s.disjunction.0 ≡ true
    → shape_of s t ≡ disjunction_shape s (argument t 0) (argument t 1)
disjunction_is s t f h e1 e2 =
    let l : Tree ℕ = argument t 0 in
    let r : Tree ℕ = argument t 1 in
    let rest : Bool → Shape = λ b. if b then disjunction_shape s l r else (if nat_eq f.0 s.implication.0 then if_then l r else other) in
    ap (shape_of s) (binary_root t f h)
    ∙ (ap (λ b. if b then conjunction l r else rest (nat_eq f.0 s.disjunction.0)) e1 ∙ ap rest e2)

-- what a construct says of the goals and the size of its term
abbrev pub Sized : ControlNames → Tree ℕ → Shape → Type 0
Sized s t (conjunction l r) = (conjuncts s t ≡ conjuncts s l ++ conjuncts s r) × (size t ≡ suc (size l + size r))
Sized s t (disjunction l r) = (conjuncts s t ≡ t ∷ []) × (size t ≡ suc (size l + size r))
Sized s t (if_then_else c x e) = (conjuncts s t ≡ t ∷ []) × (size t ≡ suc (suc (size c + size x) + size e))
Sized s t (if_then c x) = (conjuncts s t ≡ t ∷ []) × (size t ≡ suc (size c + size x))
Sized s t cut = conjuncts s t ≡ t ∷ []
Sized s t other = conjuncts s t ≡ t ∷ []

two_sizes : (f : ℕ) (l r : Tree ℕ) → size (comp f (cons l (cons r nil))) ≡ suc (size l + size r)
two_sizes f l r = omega arith

module _ (s : ControlNames) where
  disjunction_sized : (f : ℕ) (l r : Tree ℕ) → conjuncts s (comp f (cons l (cons r nil))) ≡ comp f (cons l (cons r nil)) ∷ [] → Sized s (comp f (cons l (cons r nil))) (disjunction_shape s l r)
  disjunction_sized f (var n) r e = (e, two_sizes f (var n) r)
  disjunction_sized f (int z) r e = (e, two_sizes f (int z) r)
  disjunction_sized f (atom a) r e = (e, two_sizes f (atom a) r)
  disjunction_sized f (comp g nil) r e = (e, two_sizes f (comp g nil) r)
  disjunction_sized f (comp g (cons c nil)) r e = (e, two_sizes f (comp g (cons c nil)) r)
  disjunction_sized f (comp g (cons c (cons t nil))) r e = go (nat_eq g s.implication.0)
    where
      whole : Tree ℕ
      whole = comp f (cons (comp g (cons c (cons t nil))) (cons r nil))

      go : (b : Bool) → Sized s (comp f (cons (comp g (cons c (cons t nil))) (cons r nil))) (if b then if_then_else c t r else disjunction (comp g (cons c (cons t nil))) r)
      go true = (e, omega arith)
      go false = (e, two_sizes f (comp g (cons c (cons t nil))) r)
  disjunction_sized f (comp g (cons c (cons t (cons u us)))) r e = (e, two_sizes f (comp g (cons c (cons t (cons u us)))) r)

  pub sized : (t : Tree ℕ) → Sized s t (shape_of s t)
  sized (var n) = refl
  sized (int z) = refl
  sized (atom a) = go (nat_eq a s.cut.0)
    where
      go : (b : Bool) → Sized s (atom a) (if b then cut else other)
      go true = refl
      go false = refl
  sized (comp f nil) = refl
  sized (comp f (cons l nil)) = refl
  sized (comp f (cons l (cons r nil))) = go (nat_eq f s.conjunction.0) refl
    where
      both : List (Tree ℕ)
      both = conjuncts s l ++ conjuncts s r

      third : (b : Bool) → conjuncts s (comp f (cons l (cons r nil))) ≡ comp f (cons l (cons r nil)) ∷ [] → Sized s (comp f (cons l (cons r nil))) (if b then if_then l r else other)
      third true e = (e, two_sizes f l r)
      third false e = e

      second : (b : Bool) → conjuncts s (comp f (cons l (cons r nil))) ≡ comp f (cons l (cons r nil)) ∷ []
          → Sized s (comp f (cons l (cons r nil))) (if b then disjunction_shape s l r else (if nat_eq f s.implication.0 then if_then l r else other))
      second true e = disjunction_sized f l r e
      second false e = third (nat_eq f s.implication.0) e

      go : (b : Bool) → nat_eq f s.conjunction.0 ≡ b
          → Sized s (comp f (cons l (cons r nil))) (if b then conjunction l r else (if nat_eq f s.disjunction.0 then disjunction_shape s l r else (if nat_eq f s.implication.0 then if_then l r else other)))
      go true p = (ap (λ b. if b then conjuncts s l ++ conjuncts s r else comp f (cons l (cons r nil)) ∷ []) p, two_sizes f l r)
      go false p = second (nat_eq f s.disjunction.0) (ap (λ b. if b then conjuncts s l ++ conjuncts s r else comp f (cons l (cons r nil)) ∷ []) p)
  sized (comp f (cons l (cons r (cons u us)))) = refl
