-- Tests, their parts, and texts that are the same.
use Rattle.std.proofs.Common.{ap, ◌≡◌, ℕ, List, [], ◌∷◌, Bool, true, false, ◌&&◌, ◌||◌, if◌then◌else◌, refl, sym, ◌∙◌, ◌⊎◌, inl, inr}
use Rattle.std.proofs.lemmas.Bool.{eqb-true}
use Rattle.pl_ops.specs.Tables.{same_text}

pub bool_of : (b : Bool) → (b ≡ true) ⊎ (b ≡ false)
bool_of true = inl refl
bool_of false = inr refl

pub no_both : {A : Type 0} {b : Bool} → b ≡ true → b ≡ false → A
no_both {A} {b} h k = absurd (let e : true ≡ false = sym h ∙ k in cc)

pub and-false : (b : Bool) → (b && false) ≡ false
and-false true = refl
and-false false = refl

pub and-comm : (a b : Bool) → (a && b) ≡ (b && a)
and-comm true true = refl
and-comm true false = refl
and-comm false true = refl
and-comm false false = refl

pub or-false : (b : Bool) → (b || false) ≡ b
or-false true = refl
or-false false = refl

pub or-true : (b : Bool) → (b || true) ≡ true
or-true true = refl
or-true false = refl

pub and-first : (a b : Bool) → (a && b) ≡ true → a ≡ true
and-first true b h = refl
and-first false b h = h

pub and-second : (a b : Bool) → (a && b) ≡ true → b ≡ true
and-second true b h = h
and-second false b h = absurd (cc)

pub and-both : (a b : Bool) → a ≡ true → b ≡ true → (a && b) ≡ true
and-both true b h k = k
and-both false b h k = h

pub or-neither_first : (a b : Bool) → (a || b) ≡ false → a ≡ false
or-neither_first true b h = h
or-neither_first false b h = refl

pub or-neither_second : (a b : Bool) → (a || b) ≡ false → b ≡ false
or-neither_second true b h = absurd (cc)
or-neither_second false b h = h

pub or-either : (a b : Bool) → (a || b) ≡ true → (a ≡ true) ⊎ (b ≡ true)
or-either true b h = inl refl
or-either false b h = inr h

pub if_true : {A : Type 0} (c : Bool) (x y : A) → c ≡ true → (if c then x else y) ≡ x
if_true true x y h = refl
if_true false x y h = absurd (cc)

pub if_false : {A : Type 0} (c : Bool) (x y : A) → c ≡ false → (if c then x else y) ≡ y
if_false true x y h = absurd (cc)
if_false false x y h = refl

pub not-true : (b : Bool) → (if b then false else true) ≡ true → b ≡ false
not-true true h = absurd (cc)
not-true false h = refl

pub not-false : (b : Bool) → (if b then false else true) ≡ false → b ≡ true
not-false true h = refl
not-false false h = absurd (cc)

pub same_text-true : (s t : List ℕ) → same_text s t ≡ true → s ≡ t
same_text-true [] [] h = refl
same_text-true [] (y ∷ ys) h = absurd (cc)
same_text-true (x ∷ xs) [] h = absurd (cc)
same_text-true (x ∷ xs) (y ∷ ys) h =
    ap (λ a. a ∷ xs) (eqb-true x y (and-first _ _ h)) ∙ ap (λ l. y ∷ l) (same_text-true xs ys (and-second _ _ h))
