-- The first place in a list that grows, and the first element.
use Rattle.std.proofs.Common.{◌≡◌, ℕ, zero, suc, ◌+◌, ◌<◌, List, [], ◌∷◌, ◌++◌, length, get_or, Bool, true, false, not, cond, ltb, ltb-true, ltb-false, lt-ltb, le-ltb, refl, sym, ap, ◌∙◌, arith, Option, Some, None, find, position}
use Rattle.std.specs.Prelude.{nat_lt, is_some, ◌||◌}
use Rattle.std.specs.List.{position_or_len, list_any}
use Rattle.std.specs.Option.{option_map, option_or}

less-suc : (n m : ℕ) (b : Bool) → ltb n m ≡ b → nat_lt (1 + n) (suc m) ≡ b
less-suc n m true e = let h : n < m = ltb-true n m e in lt-ltb (1 + n) (suc m) (omega arith)
less-suc n m false e = let h = ltb-false n m e in le-ltb (1 + n) (suc m) (omega arith)

some-suc : (b : Bool) (n : ℕ) → cond b (Some (1 + n)) None ≡ option_map (λ k. suc k) (cond b (Some n) None)
some-suc true n = let e : 1 + n ≡ suc n = omega arith in ap Some e
some-suc false n = refl

module _ {A : Type 0} (t : A → Bool) where
  pub position-cons : (x : A) (xs : List A) → position t (x ∷ xs) ≡ cond (t x) (Some 0) (option_map (λ k. suc k) (position t xs))
  position-cons x xs = go (t x)
    where
      go : (b : Bool) → cond (nat_lt (cond (not b) (1 + position_or_len t xs) 0) (suc (length xs))) (Some (cond (not b) (1 + position_or_len t xs) 0)) None ≡ cond b (Some 0) (option_map (λ k. suc k) (position t xs))
      go true = ap (λ c. cond c (Some 0) None) (lt-ltb 0 (suc (length xs)) (omega arith))
      go false =
          ap (λ c. cond c (Some (1 + position_or_len t xs)) None) (less-suc (position_or_len t xs) (length xs) (ltb (position_or_len t xs) (length xs)) refl)
          ∙ some-suc (nat_lt (position_or_len t xs) (length xs)) (position_or_len t xs)

  or-none : (o : Option ℕ) → option_or o None ≡ o
  or-none None = refl
  or-none (Some n) = refl

  map-or : (o p : Option ℕ) → option_map (λ k. suc k) (option_or o p) ≡ option_or (option_map (λ k. suc k) o) (option_map (λ k. suc k) p)
  map-or None p = refl
  map-or (Some n) p = refl

  last-suc : (b : Bool) (n : ℕ) → option_map (λ k. suc k) (cond b (Some n) None) ≡ cond b (Some (suc n)) None
  last-suc true n = refl
  last-suc false n = refl

  pub position-push : (xs : List A) (x : A) → position t (xs ++ x ∷ []) ≡ option_or (position t xs) (cond (t x) (Some (length xs)) None)
  position-push [] x = position-cons x [] ∙ go (t x)
    where
      go : (b : Bool) → cond {A = Option ℕ} b (Some 0) None ≡ option_or None (cond {A = Option ℕ} b (Some 0) None)
      go true = refl
      go false = refl
  position-push (y ∷ xs) x =
      position-cons y (xs ++ x ∷ [])
      ∙ go (t y) (position-push xs x)
      ∙ ap (λ o. option_or o (cond (t x) (Some (suc (length xs))) None)) (sym (position-cons y xs))
    where
      go : (b : Bool) → position t (xs ++ x ∷ []) ≡ option_or (position t xs) (cond (t x) (Some (length xs)) None)
          → cond b (Some 0) (option_map (λ k. suc k) (position t (xs ++ x ∷ []))) ≡ option_or (cond b (Some 0) (option_map (λ k. suc k) (position t xs))) (cond (t x) (Some (suc (length xs))) None)
      go true ih = refl
      go false ih =
          ap (option_map (λ k. suc k)) ih ∙ map-or (position t xs) (cond (t x) (Some (length xs)) None)
          ∙ ap (option_or (option_map (λ k. suc k) (position t xs))) (last-suc (t x) (length xs))

  pub find-push : (xs : List A) (x : A) → find t (xs ++ x ∷ []) ≡ option_or (find t xs) (cond (t x) (Some x) None)
  find-push [] x = go (t x)
    where
      go : (b : Bool) → cond b (Some x) None ≡ option_or None (cond b (Some x) None)
      go true = refl
      go false = refl
  find-push (y ∷ xs) x = go (t y) (find-push xs x)
    where
      go : (b : Bool) → find t (xs ++ x ∷ []) ≡ option_or (find t xs) (cond (t x) (Some x) None) → cond b (Some y) (find t (xs ++ x ∷ [])) ≡ option_or (cond b (Some y) (find t xs)) (cond (t x) (Some x) None)
      go true ih = refl
      go false ih = ih

pub get_or-left : {A : Type 0} (xs ys : List A) (k : ℕ) (d : A) → k < length xs → get_or (xs ++ ys) k d ≡ get_or xs k d
get_or-left [] ys k d lt = absurd (omega arith)
get_or-left (x ∷ xs) ys zero d lt = refl
get_or-left (x ∷ xs) ys (suc k) d lt = get_or-left xs ys k d (omega arith)

pub get_or-last : {A : Type 0} (xs : List A) (x d : A) → get_or (xs ++ x ∷ []) (length xs) d ≡ x
get_or-last [] x d = refl
get_or-last (y ∷ xs) x d = get_or-last xs x d

pub any-position : {A : Type 0} (t : A → Bool) (xs : List A) → is_some (position t xs) ≡ list_any t xs
any-position t [] = refl
any-position t (x ∷ xs) = ap is_some (position-cons t x xs) ∙ go (t x) (position t xs) (any-position t xs)
  where
    go : (b : Bool) (o : Option ℕ) → is_some o ≡ list_any t xs → is_some (cond b (Some 0) (option_map (λ k. suc k) o)) ≡ (b || list_any t xs)
    go true o e = refl
    go false None e = e
    go false (Some n) e = e
