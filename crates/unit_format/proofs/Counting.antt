-- Numbers that come in the order 0, 1, 2 and so on, counted.
use Rattle.std.proofs.Common.{◌≡◌, ℕ, zero, suc, ◌+◌, ◌<◌, ◌≤◌, List, [], ◌∷◌, Bool, true, false, ◌||◌, cond, refl, sym, ap, subst, ◌∙◌, arith, eqb, eqb-true, eq-eqb, ltb, Option, Some, None, inl, inr}
use Rattle.std.proofs.lemmas.Bool.{cases_lt, ltb-true, lt-ltb, le-ltb, or_left, or_right, or_from}
use Rattle.pl_terms.specs.Occurrence.{is_in, unless_seen, first_after, from_to}
use Rattle.pl_ops.specs.Tables.{same_text}
use Rattle.pl_atoms.proofs.Texts.{same_text-is, same_text-itself}
use Rattle.unit_format.specs.Counting.{counted_within}

-- the same without a limit
abbrev counted : ℕ → List ℕ → Option ℕ
counted k [] = Some k
counted k (x ∷ xs) = cond (ltb x k) (counted k xs) (cond (eqb x k) (counted (suc k) xs) None)

-- the numbers below k were seen, and no others
abbrev Seen : ℕ → List ℕ → Type 0
Seen k seen = (x : ℕ) → is_in x seen ≡ ltb x k

seen_more : (k : ℕ) (seen : List ℕ) → Seen k seen → Seen (suc k) (k ∷ seen)
seen_more k seen s x =
    elim (cases_lt x k) [
      | inl lt ↦ or_right (eqb x k) (is_in x seen) (s x ∙ lt-ltb x k lt) ∙ sym (lt-ltb x (suc k) (omega arith))
      | inr le ↦ elim (cases_lt k x) [
        | inl above ↦ or_from (eqb x k) (is_in x seen) (grind (arith, above)) (s x ∙ le-ltb _ _ le) ∙ sym (le-ltb _ _ above)
        | inr below ↦ let same : x ≡ k = omega arith in or_left (eqb x k) (is_in x seen) (eq-eqb x k same) ∙ sym (lt-ltb x (suc k) (omega arith))
      ]
    ]

seen_again : (k x : ℕ) (seen : List ℕ) → x < k → Seen k seen → Seen k (x ∷ seen)
seen_again k x seen lt s y = go (eqb y x) refl
  where
    go : (b : Bool) → eqb y x ≡ b → (b || is_in y seen) ≡ ltb y k
    go true e = let same : y ≡ x = eqb-true y x e in sym (lt-ltb y k (omega arith))
    go false e = s y

abbrev test : Bool → ℕ → ℕ → List ℕ → Option ℕ
test b x k xs = cond b (counted k xs) (cond (eqb x k) (counted (suc k) xs) None)

abbrev test_next : Bool → ℕ → List ℕ → Option ℕ
test_next b k xs = cond b (counted (suc k) xs) None

grows : (xs : List ℕ) (k m : ℕ) → counted k xs ≡ Some m → k ≤ m
grows [] k m h = let e : k ≡ m = cc in omega arith
grows (x ∷ xs) k m h = go (ltb x k) (eqb x k) h (grows xs k m) (grows xs (suc k) m)
  where
    go : (b c : Bool) → cond b (counted k xs) (test_next c k xs) ≡ Some m → (counted k xs ≡ Some m → k ≤ m) → (counted (suc k) xs ≡ Some m → suc k ≤ m) → k ≤ m
    go true c e f g = f e
    go false true e f g = let le = g e in omega arith
    go false false e f g = absurd cc

abbrev IsCounted : List ℕ → Type 0
IsCounted xs = (k n : ℕ) (seen : List ℕ) → Seen k seen → counted k xs ≡ Some (k + n) → first_after seen xs ≡ from_to k n

abbrev first : Bool → ℕ → List ℕ → List ℕ → List ℕ
first b x seen xs = unless_seen b x (first_after (x ∷ seen) xs)

step : (x : ℕ) (xs : List ℕ) → IsCounted xs → (k n : ℕ) (seen : List ℕ) → Seen k seen → (b c : Bool) → ltb x k ≡ b → eqb x k ≡ c → cond b (counted k xs) (test_next c k xs) ≡ Some (k + n) → first b x seen xs ≡ from_to k n
step x xs ih k n seen s true c lt e h = ih k n (x ∷ seen) (seen_again k x seen (ltb-true x k lt) s) h
step x xs ih k zero seen s false true lt e h = let le = grows xs (suc k) (k + 0) h in absurd (omega arith)
step x xs ih k (suc n) seen s false true lt e h =
    let same : x ≡ k = eqb-true x k e in
    let sum : k + suc n ≡ suc k + n = omega arith in
    let seen2 : Seen (suc k) (x ∷ seen) = subst (λ y. Seen (suc k) (y ∷ seen)) (sym same) (seen_more k seen s) in
    ap (λ y. y ∷ first_after (x ∷ seen) xs) same ∙ ap (λ (l : List ℕ). k ∷ l) (ih (suc k) n (x ∷ seen) seen2 (h ∙ ap Some sum))
step x xs ih k n seen s false false lt e h = absurd cc

pub counted-is : (xs : List ℕ) → IsCounted xs
counted-is [] k zero seen s h = refl
counted-is [] k (suc n) seen s h = let e : k ≡ k + suc n = cc in absurd (omega arith)
counted-is (x ∷ xs) k n seen s h = ap (λ b. first b x seen xs) (s x) ∙ step x xs (counted-is xs) k n seen s (ltb x k) (eqb x k) refl refl h

abbrev Counts : List ℕ → Type 0
Counts xs = (k n : ℕ) (seen : List ℕ) → Seen k seen → first_after seen xs ≡ from_to k n → counted k xs ≡ Some (k + n)

back_step : (x : ℕ) (xs : List ℕ) → Counts xs → (k n : ℕ) (seen : List ℕ) → Seen k seen → (b : Bool) → ltb x k ≡ b → first b x seen xs ≡ from_to k n → test b x k xs ≡ Some (k + n)
back_step x xs ih k n seen s true lt h = ih k n (x ∷ seen) (seen_again k x seen (ltb-true x k lt) s) h
back_step x xs ih k zero seen s false lt h = absurd cc
back_step x xs ih k (suc n) seen s false lt h =
    let same : x ≡ k = cc in
    let rest : first_after (x ∷ seen) xs ≡ from_to (suc k) n = cc in
    let sum : suc k + n ≡ k + suc n = omega arith in
    let seen2 : Seen (suc k) (x ∷ seen) = subst (λ y. Seen (suc k) (y ∷ seen)) (sym same) (seen_more k seen s) in
    ap (λ b. test_next b k xs) (eq-eqb x k same) ∙ ih (suc k) n (x ∷ seen) seen2 rest ∙ ap Some sum

pub is-counted : (xs : List ℕ) → Counts xs
is-counted [] k zero seen s h = let e : k ≡ k + 0 = omega arith in ap Some e
is-counted [] k (suc n) seen s h = absurd cc
is-counted (x ∷ xs) k n seen s h = back_step x xs (is-counted xs) k n seen s (ltb x k) refl (sym (ap (λ b. first b x seen xs) (s x)) ∙ h)

-- ---- with a limit

within : (limit : ℕ) (xs : List ℕ) (k m : ℕ) → counted_within limit k xs ≡ Some m → counted k xs ≡ Some m
within limit [] k m h = h
within limit (x ∷ xs) k m h = go (ltb x k) (eqb x k) (ltb k limit) h (within limit xs k m) (within limit xs (suc k) m)
  where
    go : (a b c : Bool) → cond a (counted_within limit k xs) (cond b (cond c (counted_within limit (suc k) xs) None) None) ≡ Some m → (counted_within limit k xs ≡ Some m → counted k xs ≡ Some m) → (counted_within limit (suc k) xs ≡ Some m → counted (suc k) xs ≡ Some m)
        → cond a (counted k xs) (cond b (counted (suc k) xs) None) ≡ Some m
    go true b c e f g = f e
    go false true true e f g = g e
    go false true false e f g = absurd cc
    go false false c e f g = absurd cc

up_to : (limit : ℕ) (xs : List ℕ) (k : ℕ) → counted k xs ≡ Some limit → counted_within limit k xs ≡ Some limit
up_to limit [] k h = h
up_to limit (x ∷ xs) k h = go (ltb x k) (eqb x k) h (up_to limit xs k) (up_to limit xs (suc k)) (grows xs (suc k) limit)
  where
    go : (a b : Bool) → cond a (counted k xs) (cond b (counted (suc k) xs) None) ≡ Some limit → (counted k xs ≡ Some limit → counted_within limit k xs ≡ Some limit) → (counted (suc k) xs ≡ Some limit → counted_within limit (suc k) xs ≡ Some limit) → (counted (suc k) xs ≡ Some limit → suc k ≤ limit)
        → cond a (counted_within limit k xs) (cond b (cond (ltb k limit) (counted_within limit (suc k) xs) None) None) ≡ Some limit
    go true b e f g le = f e
    go false true e f g le = let l = le e in ap (λ t. cond t (counted_within limit (suc k) xs) None) (lt-ltb k limit (omega arith)) ∙ g e
    go false false e f g le = absurd cc

none_seen : Seen 0 []
none_seen x = sym (le-ltb x 0 (omega arith))

-- all of them have come, in order
pub in_order : (limit next : ℕ) (xs : List ℕ) → counted_within limit 0 xs ≡ Some next → next ≡ limit → same_text (first_after [] xs) (from_to 0 limit) ≡ true
in_order limit next xs h same =
    let e : next ≡ 0 + limit = omega arith in
    subst (λ l. same_text l (from_to 0 limit) ≡ true) (sym (counted-is xs 0 limit [] none_seen (within limit xs 0 next h ∙ ap Some e))) (same_text-itself (from_to 0 limit))

pub not_in_order : (limit : ℕ) (xs : List ℕ) → (counted_within limit 0 xs ≡ Some limit → ⊥) → same_text (first_after [] xs) (from_to 0 limit) ≡ false
not_in_order limit xs never = go (same_text (first_after [] xs) (from_to 0 limit)) refl
  where
    go : (b : Bool) → same_text (first_after [] xs) (from_to 0 limit) ≡ b → b ≡ false
    go true e =
        let n : 0 + limit ≡ limit = omega arith in
        absurd (never (up_to limit xs 0 (is-counted xs 0 limit [] none_seen (same_text-is (first_after [] xs) (from_to 0 limit) e) ∙ ap Some n)))
    go false e = refl

pub decides : (limit next : ℕ) (xs : List ℕ) → Some next ≡ counted_within limit 0 xs → eqb next limit ≡ same_text (first_after [] xs) (from_to 0 limit)
decides limit next xs h = go (eqb next limit) refl
  where
    go : (b : Bool) → eqb next limit ≡ b → b ≡ same_text (first_after [] xs) (from_to 0 limit)
    go true e = sym (in_order limit next xs (sym h) (eqb-true next limit e))
    go false e = sym (not_in_order limit xs (λ k. let same : next ≡ limit = some_is next limit (h ∙ k) in absurd (differ (sym (eq-eqb next limit same) ∙ e))))
      where
        differ : true ≡ false → ⊥
        differ h = cc

        some_is : (a b : ℕ) → Some a ≡ Some b → a ≡ b
        some_is a b h = cc

pub decides_none : (limit : ℕ) (xs : List ℕ) → None ≡ counted_within limit 0 xs → false ≡ same_text (first_after [] xs) (from_to 0 limit)
decides_none limit xs h = sym (not_in_order limit xs (λ k. none_is limit (h ∙ k)))
  where
    none_is : (a : ℕ) → None ≡ Some a → ⊥
    none_is a h = cc
