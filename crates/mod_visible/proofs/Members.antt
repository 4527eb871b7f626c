-- What lists made from lists contain.
use Rattle.std.proofs.Common.{◌≡◌, zero, suc, ◌<◌, List, [], ◌∷◌, map, filter, Bool, true, false, cond, refl, sym, ap, subst, ◌∙◌, Option, Some, None, arith, inl, inr, ◌⊎◌}
use Rattle.std.specs.Prelude.{Contains}
use Rattle.std.specs.List.{flat_map, filter_map, list_any, cons_option}
use Rattle.std.proofs.lemmas.Bool.{or_cases, or_left, or_right}
use Rattle.std.proofs.lemmas.List.Elements.{Contains-append_left, Contains-append_right, Contains-append_cases}

pub in-nil : {A : Type 0} (y : A) → Contains [] y → ⊥
in-nil y i = let lt : i.0 < 0 = i.1 in omega arith

pub in-here : {A : Type 0} (x : A) (xs : List A) → Contains (x ∷ xs) x
in-here x xs = (0, omega arith, refl)

pub in-there : {A : Type 0} (x y : A) (xs : List A) → Contains xs y → Contains (x ∷ xs) y
in-there x y xs i = (suc i.0, omega (arith, i.1), i.2)

pub in-cases : {A : Type 0} (x y : A) (xs : List A) → Contains (x ∷ xs) y → (x ≡ y) ⊎ Contains xs y
in-cases x y xs (zero, lt, is) = inl is
in-cases x y xs (suc k, lt, is) = inr (k, omega arith, is)

module _ {A B : Type 0} (f : A → B) where
  pub in-map : (xs : List A) (x : A) → Contains xs x → Contains (map f xs) (f x)
  in-map [] x i = absurd (in-nil x i)
  in-map (z ∷ xs) x i = elim (in-cases z x xs i) [
    | inl e ↦ subst (λ w. Contains (f z ∷ map f xs) (f w)) e (in-here (f z) (map f xs))
    | inr j ↦ in-there (f z) (f x) (map f xs) (in-map xs x j)
  ]

  pub of-map : (xs : List A) (y : B) → Contains (map f xs) y → (x : A) × (Contains xs x) × (y ≡ f x)
  of-map [] y i = absurd (in-nil y i)
  of-map (z ∷ xs) y i = elim (in-cases (f z) y (map f xs) i) [
    | inl e ↦ (z, in-here z xs, sym e)
    | inr j ↦ let r = of-map xs y j in (r.0, in-there z r.0 xs r.1, r.2)
  ]

module _ {A B : Type 0} (f : A → List B) where
  pub in-flat_map : (xs : List A) (x : A) (y : B) → Contains xs x → Contains (f x) y → Contains (flat_map f xs) y
  in-flat_map [] x y i j = absurd (in-nil x i)
  in-flat_map (z ∷ xs) x y i j = elim (in-cases z x xs i) [
    | inl e ↦ Contains-append_left (f z) (flat_map f xs) y (subst (λ w. Contains (f w) y) (sym e) j)
    | inr k ↦ Contains-append_right (f z) (flat_map f xs) y (in-flat_map xs x y k j)
  ]

  pub of-flat_map : (xs : List A) (y : B) → Contains (flat_map f xs) y → (x : A) × (Contains xs x) × (Contains (f x) y)
  of-flat_map [] y i = absurd (in-nil y i)
  of-flat_map (z ∷ xs) y i = elim (Contains-append_cases (f z) (flat_map f xs) y i) [
    | inl j ↦ (z, in-here z xs, j)
    | inr j ↦ let r = of-flat_map xs y j in (r.0, in-there z r.0 xs r.1, r.2)
  ]

module _ {A B : Type 0} (f : A → Option B) where
  pub in-filter_map : (xs : List A) (x : A) (y : B) → Contains xs x → f x ≡ Some y → Contains (filter_map f xs) y
  in-filter_map [] x y i e = absurd (in-nil x i)
  in-filter_map (z ∷ xs) x y i e = elim (in-cases z x xs i) [
    | inl same ↦ rw (ap f same ∙ e) (in-here y (filter_map f xs))
    | inr j ↦ go (f z) (in-filter_map xs x y j e)
  ]
    where
      go : (o : Option B) → Contains (filter_map f xs) y → Contains (cons_option o (filter_map f xs)) y
      go None i = i
      go (Some w) i = in-there w y (filter_map f xs) i

  pub of-filter_map : (xs : List A) (y : B) → Contains (filter_map f xs) y → (x : A) × (Contains xs x) × (f x ≡ Some y)
  of-filter_map [] y i = absurd (in-nil y i)
  of-filter_map (z ∷ xs) y i = go (f z) refl (of-filter_map xs y) i
    where
      go : (o : Option B) → f z ≡ o → (Contains (filter_map f xs) y → (x : A) × (Contains xs x) × (f x ≡ Some y)) → Contains (cons_option o (filter_map f xs)) y → (x : A) × (Contains (z ∷ xs) x) × (f x ≡ Some y)
      go None e ih j = let r = ih j in (r.0, in-there z r.0 xs r.1, r.2)
      go (Some w) e ih j = elim (in-cases w y (filter_map f xs) j) [
        | inl same ↦ (z, in-here z xs, e ∙ ap Some same)
        | inr k ↦ let r = ih k in (r.0, in-there z r.0 xs r.1, r.2)
      ]

module _ {A : Type 0} (p : A → Bool) where
  pub in-filter : (xs : List A) (x : A) → Contains xs x → p x ≡ true → Contains (filter p xs) x
  in-filter [] x i e = absurd (in-nil x i)
  in-filter (z ∷ xs) x i e = elim (in-cases z x xs i) [
    | inl same ↦ rw (ap p same ∙ e) (subst (λ w. Contains (z ∷ filter p xs) w) same (in-here z (filter p xs)))
    | inr j ↦ go (p z) (in-filter xs x j e)
  ]
    where
      go : (b : Bool) → Contains (filter p xs) x → Contains (cond b (z ∷ filter p xs) (filter p xs)) x
      go true i = in-there z x (filter p xs) i
      go false i = i

  pub of-filter : (xs : List A) (x : A) → Contains (filter p xs) x → Contains xs x × (p x ≡ true)
  of-filter [] x i = absurd (in-nil x i)
  of-filter (z ∷ xs) x i = go (p z) refl (of-filter xs x) i
    where
      go : (b : Bool) → p z ≡ b → (Contains (filter p xs) x → Contains xs x × (p x ≡ true)) → Contains (cond b (z ∷ filter p xs) (filter p xs)) x → Contains (z ∷ xs) x × (p x ≡ true)
      go true e ih j = elim (in-cases z x (filter p xs) j) [
        | inl same ↦ (subst (λ w. Contains (z ∷ xs) w) same (in-here z xs), subst (λ w. p w ≡ true) same e)
        | inr k ↦ let r = ih k in (in-there z x xs r.0, r.1)
      ]
      go false e ih j = let r = ih j in (in-there z x xs r.0, r.1)

  pub in-any : (xs : List A) (x : A) → Contains xs x → p x ≡ true → list_any p xs ≡ true
  in-any [] x i e = absurd (in-nil x i)
  in-any (z ∷ xs) x i e = elim (in-cases z x xs i) [
    | inl same ↦ or_left (p z) (list_any p xs) (ap p same ∙ e)
    | inr j ↦ or_right (p z) (list_any p xs) (in-any xs x j e)
  ]

  pub of-any : (xs : List A) → list_any p xs ≡ true → (x : A) × (Contains xs x) × (p x ≡ true)
  of-any [] e = absurd cc
  of-any (z ∷ xs) e = elim (or_cases (p z) (list_any p xs) e) [
    | inl a ↦ (z, in-here z xs, a)
    | inr b ↦ let r = of-any xs b in (r.0, in-there z r.0 xs r.1, r.2)
  ]

pub made_if : {A : Type 0} (b : Bool) (x y : A) → cond b (Some x) None ≡ Some y → (b ≡ true) × (x ≡ y)
made_if true x y e = (refl, (let f : Some x ≡ Some y = e in cc))
made_if false x y e = absurd cc
