-- Settled bodies stay what they are under replacements.
use Rattle.std.proofs.Common.{◌≡◌, ℕ, Bool, true, false, List, [], ◌∷◌, ◌++◌, refl, sym, ap, ◌∙◌, subst, map}
use Rattle.std.specs.Prelude.{nat_eq, ◌&&◌, ◌||◌, if◌then◌else◌, codes}
use Rattle.std.proofs.lemmas.List.{map-append}
use Rattle.pl_terms.specs.Trees.{Tree, var, int, atom, comp, Trees, nil, cons}
use Rattle.unifier_model.specs.Substitution.{apply_all, raise, raise_all}
use Rattle.unifier_model.proofs.Replaced.{apply-atom, apply-comp, apply_all-none, apply_all-tree}
use Rattle.builtin_model.specs.Naming.{Naming}
use Rattle.goal_model.specs.Environments.{Environment}
use Rattle.goal_model.specs.Bodies.{is_named}
use Rattle.goal_model.specs.Rows.{Row, commit, if_then_else as if_then_else_row, if_then as if_then_row, either, row_of, either_row, other_row, repeat, in_module, from_context, call_row}
use Rattle.goal_code.specs.declared.shape.ControlNames.{ControlNames}
use Rattle.goal_code.specs.Shapes.{Shape, conjunction, disjunction, if_then_else, if_then, cut, other, shape_of, disjunction_shape, conjuncts}
use Rattle.goal_code.specs.Denotation.{AreControlNames, called}
use Rattle.goal_code.specs.Settled.{is_settled, standing, IsRow, PartsSettled, RowsStay, GoalsStay}
use Rattle.goal_code.proofs.DenotationLaws.{flat_are_goals}

pub both-true : (a b : Bool) → a && b ≡ true → (a ≡ true) × (b ≡ true)
both-true true b h = (refl, h)
both-true false b h = cc

-- both sides of a settled arrow are settled
pub arrow_parts : (s : ControlNames) (g : ℕ) (c t : Tree ℕ) → nat_eq g s.implication.0 ≡ true → is_settled s (comp g (cons c (cons t nil))) ≡ true → (is_settled s c ≡ true) × (is_settled s t ≡ true)
arrow_parts s g c t e h = both-true (is_settled s c) (is_settled s t) (sym control ∙ h)
  where
    last : (a b : Bool) → (if (a || (b || true)) then is_settled s c && is_settled s t else true) ≡ is_settled s c && is_settled s t
    last true b = refl
    last false true = refl
    last false false = refl

    control : is_settled s (comp g (cons c (cons t nil))) ≡ is_settled s c && is_settled s t
    control = ap (λ b. if (nat_eq g s.conjunction.0 || (nat_eq g s.disjunction.0 || b)) then is_settled s c && is_settled s t else true) e ∙ last (nat_eq g s.conjunction.0) (nat_eq g s.disjunction.0)

module _ (bs : List (ℕ × Tree ℕ)) (base : ℕ) where
  abbrev ups : Trees ℕ → Trees ℕ
  ups ts = apply_all bs (raise_all base ts)

  up-atom : (a : ℕ) → standing bs base (atom a) ≡ atom a
  up-atom a = apply-atom bs a

  up-comp : (f : ℕ) (ts : Trees ℕ) → standing bs base (comp f ts) ≡ comp f (ups ts)
  up-comp f ts = apply-comp bs f (raise_all base ts)

  ups-nil : ups nil ≡ nil
  ups-nil = apply_all-none bs

  ups-cons : (t : Tree ℕ) (ts : Trees ℕ) → ups (cons t ts) ≡ cons (standing bs base t) (ups ts)
  ups-cons t ts = apply_all-tree bs (raise base t) (raise_all base ts)

  up-one : (f : ℕ) (l : Tree ℕ) → standing bs base (comp f (cons l nil)) ≡ comp f (cons (standing bs base l) nil)
  up-one f l = up-comp f (cons l nil) ∙ ap (comp f) (ups-cons l nil ∙ ap (cons (standing bs base l)) ups-nil)

  up-two : (f : ℕ) (l r : Tree ℕ) → standing bs base (comp f (cons l (cons r nil))) ≡ comp f (cons (standing bs base l) (cons (standing bs base r) nil))
  up-two f l r =
      up-comp f (cons l (cons r nil)) ∙ ap (comp f) (ups-cons l (cons r nil) ∙ ap (cons (standing bs base l)) (ups-cons r nil ∙ ap (cons (standing bs base r)) ups-nil))

  up-more : (f : ℕ) (l r u : Tree ℕ) (us : Trees ℕ) → standing bs base (comp f (cons l (cons r (cons u us)))) ≡ comp f (cons (standing bs base l) (cons (standing bs base r) (cons (standing bs base u) (ups us))))
  up-more f l r u us =
      up-comp f (cons l (cons r (cons u us)))
      ∙ ap (comp f) (ups-cons l (cons r (cons u us)) ∙ ap (cons (standing bs base l)) (ups-cons r (cons u us) ∙ ap (cons (standing bs base r)) (ups-cons u us)))

  module _ (s : ControlNames) where
    single : (t u : Tree ℕ) → t ≡ u → conjuncts s u ≡ u ∷ [] → conjuncts s t ≡ t ∷ []
    single t u e h = subst (λ x. conjuncts s x ≡ x ∷ []) (sym e) h

    goals : (t : Tree ℕ) → is_settled s t ≡ true → conjuncts s (standing bs base t) ≡ map (standing bs base) (conjuncts s t)
    goals (var v) h = cc
    goals (int z) h = cc
    goals (atom a) h = single (standing bs base (atom a)) (atom a) (up-atom a) refl
    goals (comp f nil) h = single (standing bs base (comp f nil)) (comp f nil) (up-comp f nil ∙ ap (comp f) ups-nil) refl
    goals (comp f (cons l nil)) h = single (standing bs base (comp f (cons l nil))) (comp f (cons (standing bs base l) nil)) (up-one f l) refl
    goals (comp f (cons l (cons r nil))) h = go (nat_eq f s.conjunction.0) refl h (goals l) (goals r)
      where
        go : (b : Bool) → nat_eq f s.conjunction.0 ≡ b → (if (b || (nat_eq f s.disjunction.0 || nat_eq f s.implication.0)) then is_settled s l && is_settled s r else true) ≡ true
            → (is_settled s l ≡ true → conjuncts s (standing bs base l) ≡ map (standing bs base) (conjuncts s l))
            → (is_settled s r ≡ true → conjuncts s (standing bs base r) ≡ map (standing bs base) (conjuncts s r))
            → conjuncts s (standing bs base (comp f (cons l (cons r nil)))) ≡ map (standing bs base) (if b then conjuncts s l ++ conjuncts s r else comp f (cons l (cons r nil)) ∷ [])
        go true e k il ir =
            let z = both-true (is_settled s l) (is_settled s r) k in
            ap (conjuncts s) (up-two f l r)
            ∙ (ap (λ b. if b then conjuncts s (standing bs base l) ++ conjuncts s (standing bs base r) else comp f (cons (standing bs base l) (cons (standing bs base r) nil)) ∷ []) e
            ∙ (ap (λ x. x ++ conjuncts s (standing bs base r)) (il z.0)
            ∙ (ap (λ x. map (standing bs base) (conjuncts s l) ++ x) (ir z.1) ∙ sym (map-append (standing bs base) (conjuncts s l) (conjuncts s r)))))
        go false e k il ir =
            single (standing bs base (comp f (cons l (cons r nil)))) (comp f (cons (standing bs base l) (cons (standing bs base r) nil))) (up-two f l r)
            (ap (λ b. if b then conjuncts s (standing bs base l) ++ conjuncts s (standing bs base r) else comp f (cons (standing bs base l) (cons (standing bs base r) nil)) ∷ []) e)
    goals (comp f (cons l (cons r (cons u us)))) h =
        single (standing bs base (comp f (cons l (cons r (cons u us))))) (comp f (cons (standing bs base l) (cons (standing bs base r) (cons (standing bs base u) (ups us))))) (up-more f l r u us) refl

    -- ---- rows

    module _ (n : Naming ℕ) (are : AreControlNames n s) where
      abbrev HasRow : Shape → Row ℕ → Type 0
      HasRow x r = IsRow (standing bs base) x r × PartsSettled s x

      disjunction_row : (l r : Tree ℕ) → is_settled s l ≡ true → is_settled s r ≡ true → HasRow (disjunction_shape s l r) (either_row n (standing bs base l) (standing bs base r))
      disjunction_row (var v) r h k = cc
      disjunction_row (int z) r h k = cc
      disjunction_row (atom a) r h k =
          (subst (λ x. either_row n x (standing bs base r) ≡ either x (standing bs base r)) (sym (up-atom a)) refl, (h, k))
      disjunction_row (comp g nil) r h k =
          (subst (λ x. either_row n x (standing bs base r) ≡ either x (standing bs base r)) (sym (up-comp g nil ∙ ap (comp g) ups-nil)) refl, (h, k))
      disjunction_row (comp g (cons c nil)) r h k =
          (subst (λ x. either_row n x (standing bs base r) ≡ either x (standing bs base r)) (sym (up-one g c)) refl, (h, k))
      disjunction_row (comp g (cons c (cons t nil))) r h k = go (nat_eq g s.implication.0) refl
        where
          go : (b : Bool) → nat_eq g s.implication.0 ≡ b
              → HasRow (if b then if_then_else c t r else disjunction (comp g (cons c (cons t nil))) r) (either_row n (standing bs base (comp g (cons c (cons t nil)))) (standing bs base r))
          go true e =
              let z = arrow_parts s g c t e h in (
                ap (λ x. either_row n x (standing bs base r)) (up-two g c t)
                    ∙ ap (λ b. if b then if_then_else_row (standing bs base c) (standing bs base t) (standing bs base r) else either (comp g (cons (standing bs base c) (cons (standing bs base t) nil))) (standing bs base r)) (are.implication g ∙ e),
                (z.0, z.1, k),
              )
          go false e = (
            ap (λ x. either_row n x (standing bs base r)) (up-two g c t)
                ∙ (ap (λ b. if b then if_then_else_row (standing bs base c) (standing bs base t) (standing bs base r) else either (comp g (cons (standing bs base c) (cons (standing bs base t) nil))) (standing bs base r)) (are.implication g ∙ e)
                ∙ ap (λ x. either x (standing bs base r)) (sym (up-two g c t))),
            (h, k),
          )
      disjunction_row (comp g (cons c (cons t (cons u us)))) r h k =
          (subst (λ x. either_row n x (standing bs base r) ≡ either x (standing bs base r)) (sym (up-more g c t u us)) refl, (h, k))

      rows : (t : Tree ℕ) → is_settled s t ≡ true → HasRow (shape_of s t) (row_of n (standing bs base t))
      unfolding row_of
      rows (var v) h = cc
      rows (int z) h = cc
      rows (atom a) h = go (nat_eq a s.cut.0) refl
        where
          go : (b : Bool) → nat_eq a s.cut.0 ≡ b → HasRow (if b then cut else other) (row_of n (standing bs base (atom a)))
          go true e = (ap (row_of n) (up-atom a) ∙ ap (λ b. if b then commit else if is_named n a (codes "repeat") then repeat else other_row n a nil) (are.cut a ∙ e), tt)
          go false e = (tt, tt)
      rows (comp f nil) h = (tt, tt)
      rows (comp f (cons l nil)) h = (tt, tt)
      rows (comp f (cons l (cons r nil))) h = first (nat_eq f s.conjunction.0) (nat_eq f s.disjunction.0) (nat_eq f s.implication.0) refl refl refl h
        where
          up : Tree ℕ → Tree ℕ
          up = standing bs base

          rest : Row ℕ
          rest = (if is_named n f (codes ":") then in_module (standing bs base l) (standing bs base r)
              else if is_named n f (codes "@") then from_context (standing bs base l) (standing bs base r)
              else call_row n f (cons (standing bs base l) (cons (standing bs base r) nil)))

          first : (a b c : Bool) → nat_eq f s.conjunction.0 ≡ a → nat_eq f s.disjunction.0 ≡ b → nat_eq f s.implication.0 ≡ c
              → (if (a || (b || c)) then is_settled s l && is_settled s r else true) ≡ true
              → HasRow (if a then conjunction l r else (if b then disjunction_shape s l r else (if c then if_then l r else other))) (row_of n (standing bs base (comp f (cons l (cons r nil)))))
          first true b c e1 e2 e3 k = (tt, both-true (is_settled s l) (is_settled s r) k)
          first false true c e1 e2 e3 k =
              let z = both-true (is_settled s l) (is_settled s r) k in
              subst (HasRow (disjunction_shape s l r))
              (sym (ap (row_of n) (up-two f l r) ∙ ap (λ b. if b then either_row n (standing bs base l) (standing bs base r) else
              (if is_named n f (codes "->") then if_then_row (standing bs base l) (standing bs base r)
              else if is_named n f (codes ":") then in_module (standing bs base l) (standing bs base r)
              else if is_named n f (codes "@") then from_context (standing bs base l) (standing bs base r)
              else call_row n f (cons (standing bs base l) (cons (standing bs base r) nil)))) (are.disjunction f ∙ e2)))
              (disjunction_row l r z.0 z.1)
          first false false true e1 e2 e3 k = (
            ap (row_of n) (up-two f l r)
                ∙ (ap (λ b. if b then either_row n (standing bs base l) (standing bs base r) else
                (if is_named n f (codes "->") then if_then_row (standing bs base l) (standing bs base r)
                else if is_named n f (codes ":") then in_module (standing bs base l) (standing bs base r)
                else if is_named n f (codes "@") then from_context (standing bs base l) (standing bs base r)
                else call_row n f (cons (standing bs base l) (cons (standing bs base r) nil)))) (are.disjunction f ∙ e2)
                ∙ ap (λ b. if b then if_then_row (standing bs base l) (standing bs base r) else
                (if is_named n f (codes ":") then in_module (standing bs base l) (standing bs base r)
                else if is_named n f (codes "@") then from_context (standing bs base l) (standing bs base r)
                else call_row n f (cons (standing bs base l) (cons (standing bs base r) nil)))) (are.implication f ∙ e3)),
            both-true (is_settled s l) (is_settled s r) k,
          )
          first false false false e1 e2 e3 k = (tt, tt)
      rows (comp f (cons l (cons r (cons u us)))) h = (tt, tt)

calls_map : (bs : List (ℕ × Tree ℕ)) (base : ℕ) (env : Environment ℕ) (d : ℕ) (ts : List (Tree ℕ)) → map (called env d) (map (standing bs base) ts) ≡ map (λ u. called env d (standing bs base u)) ts
calls_map bs base env d [] = refl
calls_map bs base env d (t ∷ ts) = ap (λ l. called env d (standing bs base t) ∷ l) (calls_map bs base env d ts)

pub rows_stay : RowsStay
rows_stay n s are t h bs base = rows bs base s n are t h

pub goals_stay : GoalsStay
goals_stay n s are t h bs base env d =
    flat_are_goals n s are (standing bs base t) env d ∙ (ap (map (called env d)) (goals bs base s t h) ∙ calls_map bs base env d (conjuncts s t))
