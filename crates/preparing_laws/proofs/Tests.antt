-- Texts that are the same, and lists that hold a text.
use Rattle.std.proofs.Common.{◌≡◌, List, [], ◌∷◌, ◌++◌, Bool, true, false, ◌||◌, nat_eq, refl, sym, ap, ◌∙◌, inl, inr, subst}
use Rattle.std.proofs.lemmas.Bool.{eqb-true, eq-eqb, and_from, and_parts, cases_Bool, or_cases, or_right, or_left}
use Rattle.pl_ops.specs.Tables.{same_text}
use Rattle.unit_model.specs.Directives.{Text}
use Rattle.unit_model.specs.Validity.{holds}

pub no_both : {A : Type 0} {b : Bool} → b ≡ true → b ≡ false → A
no_both {A} {b} h k = absurd (let e : true ≡ false = sym h ∙ k in cc)

pub same_text-true : (s t : Text) → same_text s t ≡ true → s ≡ t
same_text-true [] [] h = refl
same_text-true [] (y ∷ ys) h = absurd (cc)
same_text-true (x ∷ xs) [] h = absurd (cc)
same_text-true (x ∷ xs) (y ∷ ys) h =
    let p = and_parts (nat_eq x y) (same_text xs ys) h in
    ap (λ a. a ∷ xs) (eqb-true x y p.0) ∙ ap (λ l. y ∷ l) (same_text-true xs ys p.1)

pub same_text-itself : (s : Text) → same_text s s ≡ true
same_text-itself [] = refl
same_text-itself (x ∷ xs) = and_from (nat_eq x x) (same_text xs xs) (eq-eqb x x refl) (same_text-itself xs)

pub same_text-from : (s t : Text) → s ≡ t → same_text s t ≡ true
same_text-from s t e = subst (λ u. same_text s u ≡ true) e (same_text-itself s)

-- two texts that differ one way differ the other way
pub apart_back : (s t : Text) → same_text s t ≡ false → same_text t s ≡ false
apart_back s t h = elim (cases_Bool (same_text t s)) [
  | inr e ↦ e
  | inl e ↦ no_both (same_text-from s t (sym (same_text-true t s e))) h
]

-- ---- lists that hold a text

pub holds-front : (xs ys : List Text) (m : Text) → holds xs m ≡ true → holds (xs ++ ys) m ≡ true
holds-front [] ys m h = absurd (cc)
holds-front (x ∷ xs) ys m h = elim (or_cases (same_text m x) (holds xs m) h) [
  | inl e ↦ or_left (same_text m x) (holds (xs ++ ys) m) e
  | inr e ↦ or_right (same_text m x) (holds (xs ++ ys) m) (holds-front xs ys m e)
]

pub holds-back : (xs ys : List Text) (m : Text) → holds ys m ≡ true → holds (xs ++ ys) m ≡ true
holds-back [] ys m h = h
holds-back (x ∷ xs) ys m h = or_right (same_text m x) (holds (xs ++ ys) m) (holds-back xs ys m h)

pub holds-either : (xs ys : List Text) (m : Text) → holds (xs ++ ys) m ≡ (holds xs m || holds ys m)
holds-either [] ys m = refl
holds-either (x ∷ xs) ys m = ap (λ b. same_text m x || b) (holds-either xs ys m) ∙ go (same_text m x)
  where
    go : (b : Bool) → (b || (holds xs m || holds ys m)) ≡ ((b || holds xs m) || holds ys m)
    go true = refl
    go false = refl

pub holds-one : (m : Text) → holds (m ∷ []) m ≡ true
holds-one m = or_left (same_text m m) false (same_text-itself m)
