-- Counting part by part, as a loop does.
use Rattle.std.proofs.Common.{◌≡◌, ℕ, suc, ◌+◌, ◌<◌, ◌≤◌, List, [], ◌∷◌, ◌++◌, length, drop, get_or, Bool, true, false, cond, ltb, eqb, Option, Some, None, refl, sym, ap, ◌∙◌, arith, add-one}
use Rattle.std.specs.List.{flat_map}
use Rattle.std.proofs.Math.Seq.{drop-cons}
use Rattle.std.proofs.lemmas.List.{nil_from_length, length-drop}
use Rattle.unit_format.specs.Counting.{counted_within}

pub counted_more : (limit k m : ℕ) (xs ys : List ℕ) → counted_within limit k xs ≡ Some m → counted_within limit k (xs ++ ys) ≡ counted_within limit m ys
counted_more limit k m [] ys h = let e : k ≡ m = cc in ap (λ j. counted_within limit j ys) e
counted_more limit k m (x ∷ xs) ys h = go (ltb x k) (eqb x k) (ltb k limit) h (counted_more limit k m xs ys) (counted_more limit (suc k) m xs ys)
  where
    go : (a b c : Bool) → cond a (counted_within limit k xs) (cond b (cond c (counted_within limit (suc k) xs) None) None) ≡ Some m
        → (counted_within limit k xs ≡ Some m → counted_within limit k (xs ++ ys) ≡ counted_within limit m ys) → (counted_within limit (suc k) xs ≡ Some m → counted_within limit (suc k) (xs ++ ys) ≡ counted_within limit m ys)
        → cond a (counted_within limit k (xs ++ ys)) (cond b (cond c (counted_within limit (suc k) (xs ++ ys)) None) None) ≡ counted_within limit m ys
    go true b c e f g = f e
    go false true true e f g = g e
    go false true false e f g = absurd cc
    go false false c e f g = absurd cc

pub counted_none : (limit k : ℕ) (xs ys : List ℕ) → counted_within limit k xs ≡ None → counted_within limit k (xs ++ ys) ≡ None
counted_none limit k [] ys h = absurd cc
counted_none limit k (x ∷ xs) ys h = go (ltb x k) (eqb x k) (ltb k limit) h (counted_none limit k xs ys) (counted_none limit (suc k) xs ys)
  where
    go : (a b c : Bool) → cond a (counted_within limit k xs) (cond b (cond c (counted_within limit (suc k) xs) None) None) ≡ None
        → (counted_within limit k xs ≡ None → counted_within limit k (xs ++ ys) ≡ None) → (counted_within limit (suc k) xs ≡ None → counted_within limit (suc k) (xs ++ ys) ≡ None)
        → cond a (counted_within limit k (xs ++ ys)) (cond b (cond c (counted_within limit (suc k) (xs ++ ys)) None) None) ≡ None
    go true b c e f g = f e
    go false true true e f g = g e
    go false true false e f g = refl
    go false false c e f g = refl

-- the item at a place, and those behind it
pub at_front : {A : Type 0} (xs : List A) (i : ℕ) (x : A) → i < length xs → get_or xs i x ≡ x → drop i xs ≡ x ∷ drop (i + 1) xs
at_front xs i x lt is = drop-cons xs i x lt ∙ ap (λ y. y ∷ drop (suc i) xs) is ∙ ap (λ j. x ∷ drop j xs) (sym (add-one i))

pub at_end : {A : Type 0} (xs : List A) (i : ℕ) → length xs ≤ i → drop i xs ≡ []
at_end xs i le = nil_from_length (drop i xs) (omega (arith, length-drop i xs))

module _ {A : Type 0} (f : A → List ℕ) (limit : ℕ) where
  abbrev pub Left : ℕ → ℕ → List A → Option ℕ → Type 0
  Left k i xs total = counted_within limit k (flat_map f (drop i xs)) ≡ total

  pub goes_on : (xs : List A) (i : ℕ) (x : A) (k m : ℕ) (total : Option ℕ) → i < length xs → get_or xs i x ≡ x → Some m ≡ counted_within limit k (f x) → Left k i xs total → Left m (i + 1) xs total
  goes_on xs i x k m total lt is one so_far =
      sym (counted_more limit k m (f x) (flat_map f (drop (i + 1) xs)) (sym one)) ∙ ap (λ ys. counted_within limit k (flat_map f ys)) (sym (at_front xs i x lt is)) ∙ so_far

  pub stops : (xs : List A) (i : ℕ) (x : A) (k : ℕ) (total : Option ℕ) → i < length xs → get_or xs i x ≡ x → None ≡ counted_within limit k (f x) → Left k i xs total → None ≡ total
  stops xs i x k total lt is one so_far =
      sym (counted_none limit k (f x) (flat_map f (drop (i + 1) xs)) (sym one)) ∙ ap (λ ys. counted_within limit k (flat_map f ys)) (sym (at_front xs i x lt is)) ∙ so_far

  pub is_done : (xs : List A) (i : ℕ) (k : ℕ) (total : Option ℕ) → length xs ≤ i → Left k i xs total → Some k ≡ total
  is_done xs i k total le so_far = sym (ap (λ ys. counted_within limit k (flat_map f ys)) (at_end xs i le)) ∙ so_far
