-- Laws of the places at which a test holds.
use Rattle.std.proofs.Common.{◌≡◌, ℕ, zero, suc, ◌+◌, ◌<◌, ◌≤◌, ◌⊎◌, inl, inr, Bool, true, false, cond, List, [], ◌∷◌, ◌++◌, map, length, slice_get, get_or, nat_le, nat_lt, Option, None, Some, find, refl, sym, ap, ◌∙◌, if◌then◌else◌, arith}
use Rattle.std.proofs.lemmas.Bool.{false≢true}
use Rattle.std.proofs.lemmas.List.{get_or_default}
use Rattle.std.proofs.lemmas.Bool.Decides.{nat_tests, leb_tells}
use Rattle.std.proofs.lemmas.Option.{same_Some, none-some}
use Rattle.std.specs.List.Sorted.{IsNonDecreasing}
use Rattle.pl_store.specs.Places.{places_from, places, next_place, earlier}
use Rattle.pl_store.specs.Tags.{or_else}

le_yes : (a b : ℕ) → a ≤ b → nat_le a b ≡ true
le_yes a b h = grind (arith, nat_tests)

le_no : (a b : ℕ) → b < a → nat_le a b ≡ false
le_no a b h = grind (arith, nat_tests)

le_tells : (a b : ℕ) → nat_le a b ≡ true → a ≤ b
le_tells a b h = grind (arith, nat_tests)

le_tells_not : (a b : ℕ) → nat_le a b ≡ false → b < a
le_tells_not a b h = grind (arith, nat_tests)

module _ {X : Type 0} (t : X → Bool) where
  -- ---- one more item

  put_last : (b : Bool) (i m n : ℕ) (A B : List ℕ) → A ≡ B ++ m ∷ [] → m ≡ n → (if b then i ∷ A else A) ≡ (if b then i ∷ B else B) ++ n ∷ []
  put_last true i m n A B e f = ap (λ l. i ∷ l) e ∙ ap (λ k. i ∷ (B ++ k ∷ [])) f
  put_last false i m n A B e f = e ∙ ap (λ k. B ++ k ∷ []) f

  places_from-yes : (o : ℕ) (xs : List X) (x : X) → t x ≡ true → places_from t o (xs ++ x ∷ []) ≡ places_from t o xs ++ (o + length xs) ∷ []
  places_from-yes o [] x h = ap (λ b. if b then o ∷ [] else []) h ∙ ap (λ n. n ∷ []) (omega arith)
  places_from-yes o (y ∷ ys) x h = put_last (t y) o (o + 1 + length ys) (o + suc (length ys)) (places_from t (o + 1) (ys ++ x ∷ [])) (places_from t (o + 1) ys) (places_from-yes (o + 1) ys x h) (omega arith)

  places_from-no : (o : ℕ) (xs : List X) (x : X) → t x ≡ false → places_from t o (xs ++ x ∷ []) ≡ places_from t o xs
  places_from-no o [] x h = ap (λ b. if b then o ∷ [] else []) h
  places_from-no o (y ∷ ys) x h = ap (λ l. if t y then o ∷ l else l) (places_from-no (o + 1) ys x h)

  pub places-yes : (xs : List X) (x : X) → t x ≡ true → places t (xs ++ x ∷ []) ≡ places t xs ++ length xs ∷ []
  places-yes xs x h = places_from-yes 0 xs x h ∙ ap (λ n. places t xs ++ n ∷ []) (omega arith)

  pub places-no : (xs : List X) (x : X) → t x ≡ false → places t (xs ++ x ∷ []) ≡ places t xs
  places-no xs x h = places_from-no 0 xs x h

  pub next_place-no : (k : ℕ) (xs : List X) (x : X) → t x ≡ false → next_place t k (xs ++ x ∷ []) ≡ next_place t k xs
  next_place-no k xs x h = ap (find (nat_le k)) (places-no xs x h)

  find-last : (k n : ℕ) (ns : List ℕ) → nat_le k n ≡ true → find (nat_le k) (ns ++ n ∷ []) ≡ or_else (find (nat_le k) ns) n
  find-last k n [] h = ap (λ b. cond b (Some n) None) h
  find-last k n (m ∷ ns) h = go (nat_le k m) (find-last k n ns h)
    where
      go : (b : Bool) → find (nat_le k) (ns ++ n ∷ []) ≡ or_else (find (nat_le k) ns) n → cond b (Some m) (find (nat_le k) (ns ++ n ∷ [])) ≡ or_else (cond b (Some m) (find (nat_le k) ns)) n
      go true rest = refl
      go false rest = rest

  pub next_place-yes : (k : ℕ) (xs : List X) (x : X) → t x ≡ true → k ≤ length xs → next_place t k (xs ++ x ∷ []) ≡ or_else (next_place t k xs) (length xs)
  next_place-yes k xs x h le = ap (find (nat_le k)) (places-yes xs x h) ∙ find-last k (length xs) (places t xs) (le_yes k (length xs) le)

  -- ---- places ascend

  places-low : (o : ℕ) (xs : List X) (j d : ℕ) → j < length (places_from t o xs) → o ≤ get_or (places_from t o xs) j d
  places-low o [] j d h = absurd (omega arith)
  places-low o (x ∷ xs) j d h = by (t x) (places-low (o + 1) xs) j h
    where
      by : (b : Bool) → ((j d : ℕ) → j < length (places_from t (o + 1) xs) → o + 1 ≤ get_or (places_from t (o + 1) xs) j d) → (j : ℕ) → j < length (if b then o ∷ places_from t (o + 1) xs else places_from t (o + 1) xs) → o ≤ get_or (if b then o ∷ places_from t (o + 1) xs else places_from t (o + 1) xs) j d
      by true rest zero l = omega arith
      by true rest (suc j) l = let r = rest j d (omega arith) in omega arith
      by false rest j l = let r = rest j d l in omega arith

  places_from-ascend : (o : ℕ) (xs : List X) → IsNonDecreasing (places_from t o xs)
  places_from-ascend o [] = λ i j d le lt. absurd (omega arith)
  places_from-ascend o (x ∷ xs) = by (t x) (places_from-ascend (o + 1) xs)
    where
      by : (b : Bool) → IsNonDecreasing (places_from t (o + 1) xs) → IsNonDecreasing (if b then o ∷ places_from t (o + 1) xs else places_from t (o + 1) xs)
      by true rest zero zero d le lt = omega arith
      by true rest zero (suc j) d le lt = let r = places-low (o + 1) xs j d (omega arith) in omega arith
      by true rest (suc i) zero d le lt = absurd (omega arith)
      by true rest (suc i) (suc j) d le lt = rest i j d (omega arith) (omega arith)
      by false rest i j d le lt = rest i j d le lt

  pub places-ascend : (xs : List X) → IsNonDecreasing (places t xs)
  places-ascend xs = places_from-ascend 0 xs

  -- ---- what the next place is

  -- the test holds at place i, and at none before it from place k on
  pub record IsNext (k o : ℕ) (xs : List X) (i : ℕ) : Type 0 where
    pub at : ℕ
    pub place : i ≡ o + at
    pub from : k ≤ i
    pub within : at < length xs
    pub holds : (d : X) → t (get_or xs at d) ≡ true
    pub before : (m : ℕ) (d : X) → k ≤ o + m → m < at → t (get_or xs m d) ≡ true → ⊥

  after : (k o : ℕ) (x : X) (xs : List X) (i : ℕ) → (k ≤ o → t x ≡ true → ⊥) → IsNext k (o + 1) xs i → IsNext k o (x ∷ xs) i
  after k o x xs i none n = record {
    at = suc n.at;
    place = omega (arith, n.place);
    from = n.from;
    within = omega (arith, n.within);
    holds = n.holds;
    before = λ m d. earlier_one m d;
  }
    where
      earlier_one : (m : ℕ) (d : X) → k ≤ o + m → m < suc n.at → t (get_or (x ∷ xs) m d) ≡ true → ⊥
      earlier_one zero d le lt pass = none (omega arith) pass
      earlier_one (suc m) d le lt pass = n.before m d (omega arith) (omega arith) pass

  next-is : (k o : ℕ) (xs : List X) (i : ℕ) → find (nat_le k) (places_from t o xs) ≡ Some i → IsNext k o xs i
  next-is k o [] i e = absurd (none-some i e)
  next-is k o (x ∷ xs) i e = by (t x) refl (next-is k (o + 1) xs i) e
    where
      here : (b : Bool) → nat_le k o ≡ b → t x ≡ true → (find (nat_le k) (places_from t (o + 1) xs) ≡ Some i → IsNext k (o + 1) xs i) → cond b (Some o) (find (nat_le k) (places_from t (o + 1) xs)) ≡ Some i → IsNext k o (x ∷ xs) i
      here true le pass rest f =
          let s : o ≡ i = same_Some o i f in
          record {
            at = 0;
            place = omega arith;
            from = omega (arith, le_tells k o le);
            within = omega arith;
            holds = λ d. pass;
            before = λ m d a b c. absurd (omega arith);
          }
      here false le pass rest f = after k o x xs i (λ a b. absurd (omega (arith, le_tells_not k o le))) (rest f)

      by : (b : Bool) → t x ≡ b → (find (nat_le k) (places_from t (o + 1) xs) ≡ Some i → IsNext k (o + 1) xs i) → find (nat_le k) (if b then o ∷ places_from t (o + 1) xs else places_from t (o + 1) xs) ≡ Some i → IsNext k o (x ∷ xs) i
      by true pass rest f = here (nat_le k o) refl pass rest f
      by false miss rest f = after k o x xs i (λ a b. false≢true (sym miss ∙ b)) (rest f)

  abbrev Nowhere : ℕ → ℕ → List X → Type 0
  Nowhere k o xs = (m : ℕ) (d : X) → k ≤ o + m → m < length xs → t (get_or xs m d) ≡ true → ⊥

  none-is : (k o : ℕ) (xs : List X) → find (nat_le k) (places_from t o xs) ≡ None → Nowhere k o xs
  none-is k o [] e = λ m d le lt pass. absurd (omega arith)
  none-is k o (x ∷ xs) e = by (t x) refl (none-is k (o + 1) xs) e
    where
      here : (b : Bool) → nat_le k o ≡ b → (find (nat_le k) (places_from t (o + 1) xs) ≡ None → Nowhere k (o + 1) xs) → cond b (Some o) (find (nat_le k) (places_from t (o + 1) xs)) ≡ None → Nowhere k o (x ∷ xs)
      here true l rest f m d le lt pass = none-some o (sym f)
      here false l rest f zero d le lt pass = absurd (omega (arith, le_tells_not k o l))
      here false l rest f (suc m) d le lt pass = rest f m d (omega arith) (omega arith) pass

      by : (b : Bool) → t x ≡ b → (find (nat_le k) (places_from t (o + 1) xs) ≡ None → Nowhere k (o + 1) xs) → find (nat_le k) (if b then o ∷ places_from t (o + 1) xs else places_from t (o + 1) xs) ≡ None → Nowhere k o (x ∷ xs)
      by true y rest f m d le lt pass = here (nat_le k o) refl rest f m d le lt pass
      by false miss rest f zero d le lt pass = false≢true (sym miss ∙ pass)
      by false miss rest f (suc m) d le lt pass = rest f m d (omega arith) (omega arith) pass

  pub next_place-none : (k : ℕ) (xs : List X) → next_place t k xs ≡ None → (m : ℕ) (d : X) → k ≤ m → m < length xs → t (get_or xs m d) ≡ true → ⊥
  next_place-none k xs e m d le lt pass = none-is k 0 xs e m d (omega arith) lt pass

  -- the same for a whole list
  pub record Next (k : ℕ) (xs : List X) (i : ℕ) : Type 0 where
    pub from : k ≤ i
    pub within : i < length xs
    pub holds : (d : X) → t (get_or xs i d) ≡ true
    pub before : (m : ℕ) (d : X) → k ≤ m → m < i → t (get_or xs m d) ≡ true → ⊥

  pub next_place-some : (k : ℕ) (xs : List X) (i : ℕ) → next_place t k xs ≡ Some i → Next k xs i
  next_place-some k xs i e =
      let n = next-is k 0 xs i e in
      let s : n.at ≡ i = omega (arith, n.place) in
      record {
        from = n.from;
        within = omega (arith, n.within);
        holds = λ d. ap (λ j. t (get_or xs j d)) (sym s) ∙ n.holds d;
        before = λ m d a b c. n.before m d (omega arith) (omega arith) c;
      }

  pub some-next_place : (k : ℕ) (xs : List X) (i : ℕ) (d : X) → k ≤ i → i < length xs → t (get_or xs i d) ≡ true → ((m : ℕ) → k ≤ m → m < i → t (get_or xs m d) ≡ true → ⊥) → next_place t k xs ≡ Some i
  some-next_place k xs i d from within holds before = go (next_place t k xs) refl
    where
      go : (r : Option ℕ) → next_place t k xs ≡ r → r ≡ Some i
      go None e = absurd (next_place-none k xs e i d from within holds)
      go (Some j) e =
          let n = next_place-some k xs j e in
          let up : j < i → ⊥ = λ h. before j n.from h (n.holds d) in
          let down : i < j → ⊥ = λ h. n.before i d from h holds in
          ap Some (omega arith)

  pub none-next_place : (k : ℕ) (xs : List X) → ((m : ℕ) (d : X) → k ≤ m → m < length xs → t (get_or xs m d) ≡ true → ⊥) → next_place t k xs ≡ None
  none-next_place k xs none = go (next_place t k xs) refl
    where
      go : (r : Option ℕ) → next_place t k xs ≡ r → r ≡ None
      go None e = refl
      go (Some j) e = let n = next_place-some k xs j e in absurd (none j (first xs n.within) n.from n.within (n.holds (first xs n.within)))
        where
          first : (l : List X) → {m : ℕ} → m < length l → X
          first [] h = absurd (omega arith)
          first (x ∷ l) h = x

  pub next_place-past : (k : ℕ) (xs : List X) → length xs ≤ k → next_place t k xs ≡ None
  next_place-past k xs h = none-next_place k xs (λ m d a b c. absurd (omega arith))

  none-from : (o : ℕ) (xs : List X) (d : X) → ((m : ℕ) → m < length xs → t (get_or xs m d) ≡ true → ⊥) → places_from t o xs ≡ []
  none-from o [] d h = refl
  none-from o (x ∷ xs) d h = by (t x) refl (none-from (o + 1) xs d (λ m lt. h (suc m) (omega arith)))
    where
      by : (b : Bool) → t x ≡ b → places_from t (o + 1) xs ≡ [] → (if b then o ∷ places_from t (o + 1) xs else places_from t (o + 1) xs) ≡ []
      by true pass rest = absurd (h 0 (omega arith) pass)
      by false miss rest = rest

  pub none-places : (xs : List X) (d : X) → ((m : ℕ) → m < length xs → t (get_or xs m d) ≡ true → ⊥) → places t xs ≡ []
  none-places xs d h = none-from 0 xs d h

  -- no places at all
  pub next_place-nowhere : (k : ℕ) (xs : List X) → places t xs ≡ [] → next_place t k xs ≡ None
  next_place-nowhere k xs e = ap (find (nat_le k)) e

-- ---- two tests

module _ {X : Type 0} (a b c : X → Bool) (splits : (x : X) → c x ≡ true → (a x ≡ true) ⊎ (b x ≡ true)) (left : (x : X) → a x ≡ true → c x ≡ true) (right : (x : X) → b x ≡ true → c x ≡ true) where
  -- the next place of either test
  pub earlier-next : (k : ℕ) (xs : List X) (d : X) → earlier (next_place a k xs) (next_place b k xs) ≡ next_place c k xs
  earlier-next k xs d = go (next_place a k xs) (next_place b k xs) refl refl
    where
      either : (m : ℕ) → (a (get_or xs m d) ≡ true → ⊥) → (b (get_or xs m d) ≡ true → ⊥) → c (get_or xs m d) ≡ true → ⊥
      either m one other pass = elim (splits (get_or xs m d) pass) [ inl h ↦ one h | inr h ↦ other h ]

      both : (i j : ℕ) (t : Bool) → nat_le i j ≡ t → Next a k xs i → Next b k xs j → (if t then Some i else Some j) ≡ next_place c k xs
      both i j true le n m =
          let le' : i ≤ j = le_tells i j le in
          sym (some-next_place c k xs i d n.from n.within (left _ (n.holds d)) (λ p f l. either p (n.before p d f l) (m.before p d f (omega arith))))
      both i j false le n m =
          let le' : j < i = le_tells_not i j le in
          sym (some-next_place c k xs j d m.from m.within (right _ (m.holds d)) (λ p f l. either p (n.before p d f (omega arith)) (m.before p d f l)))

      go : (q r : Option ℕ) → next_place a k xs ≡ q → next_place b k xs ≡ r → earlier q r ≡ next_place c k xs
      go None None e f = sym (none-next_place c k xs (λ m g le lt pass. at_other m g le lt pass))
        where
          at_other : (m : ℕ) (g : X) → k ≤ m → m < length xs → c (get_or xs m g) ≡ true → ⊥
          at_other m g le lt pass = elim (splits (get_or xs m g) pass) [ inl h ↦ next_place-none a k xs e m g le lt h | inr h ↦ next_place-none b k xs f m g le lt h ]
      go None (Some j) e f =
          let m = next_place-some b k xs j f in
          sym (some-next_place c k xs j d m.from m.within (right _ (m.holds d)) (λ p g l. either p (next_place-none a k xs e p d g (omega (arith, m.within))) (m.before p d g l)))
      go (Some i) None e f =
          let n = next_place-some a k xs i e in
          sym (some-next_place c k xs i d n.from n.within (left _ (n.holds d)) (λ p g l. either p (n.before p d g l) (next_place-none b k xs f p d g (omega (arith, n.within)))))
      go (Some i) (Some j) e f = both i j (nat_le i j) refl (next_place-some a k xs i e) (next_place-some b k xs j f)

-- a test that asks more
module _ {X : Type 0} (a c : X → Bool) (less : (x : X) → c x ≡ true → a x ≡ true) (k : ℕ) (xs : List X) where
  pub narrower-none : next_place a k xs ≡ None → next_place c k xs ≡ None
  narrower-none e = none-next_place c k xs (λ m d le lt pass. next_place-none a k xs e m d le lt (less _ pass))

  module _ (i : ℕ) (d : X) (e : next_place a k xs ≡ Some i) where
    pub narrower-here : c (get_or xs i d) ≡ true → next_place c k xs ≡ Some i
    narrower-here pass =
        let n = next_place-some a k xs i e in
        some-next_place c k xs i d n.from n.within pass (λ m f l h. n.before m d f l (less _ h))

    pub narrower-later : c (get_or xs i d) ≡ false → next_place c k xs ≡ next_place c (i + 1) xs
    narrower-later miss = go (next_place c (i + 1) xs) refl
      where
        none : (m : ℕ) → k ≤ m → m < i + 1 → c (get_or xs m d) ≡ true → ⊥
        none m f l h =
            let n = next_place-some a k xs i e in
            let at : m ≡ i → ⊥ = λ q. false≢true (sym miss ∙ ap (λ p. c (get_or xs p d)) (sym q) ∙ h) in
            let early : m < i → ⊥ = λ q. n.before m d f q (less _ h) in
            absurd (omega arith)

        other : (m : ℕ) (g : X) → m < length xs → c (get_or xs m g) ≡ true → c (get_or xs m d) ≡ true
        other m g lt pass = ap c (get_or_default xs m d g lt) ∙ pass

        split : (m : ℕ) → (m < i + 1) ⊎ (i + 1 ≤ m)
        split m = elim (leb_tells (i + 1) m) [ inl h ↦ inr h.1 | inr h ↦ inl h.1 ]

        go : (r : Option ℕ) → next_place c (i + 1) xs ≡ r → next_place c k xs ≡ r
        go None f =
            none-next_place c k xs (λ m g le lt pass. elim (split m) [
              | inl h ↦ none m le h (other m g lt pass)
              | inr h ↦ next_place-none c (i + 1) xs f m g h lt pass
            ])
        go (Some j) f =
            let n = next_place-some c (i + 1) xs j f in
            let s = next_place-some a k xs i e in
            some-next_place c k xs j d (omega (arith, n.from, s.from)) n.within (n.holds d) (λ m le lt pass. elim (split m) [
              | inl h ↦ none m le h pass
              | inr h ↦ n.before m d h lt pass
            ])

-- ---- the first number from k on, in numbers of which the first i are below k and the others are not

pub find-at : (k : ℕ) (ns : List ℕ) (i : ℕ) → i ≤ length ns → ((m d : ℕ) → m < i → nat_lt (get_or ns m d) k ≡ true) → ((m d : ℕ) → i ≤ m → m < length ns → nat_lt (get_or ns m d) k ≡ false) → find (nat_le k) ns ≡ slice_get ns i
find-at k [] i le below others = refl
find-at k (n ∷ ns) zero le below others = ap (λ b. cond b (Some n) (find (nat_le k) ns)) here
  where
    here : nat_le k n ≡ true
    here = let h : nat_lt n k ≡ false = others 0 0 (omega arith) (omega arith) in grind (arith, nat_tests)
find-at k (n ∷ ns) (suc i) le below others =
    ap (λ b. cond b (Some n) (find (nat_le k) ns)) here
    ∙ find-at k ns i (omega arith) (λ m d lt. below (suc m) d (omega arith)) (λ m d a b. others (suc m) d (omega arith) (omega arith))
  where
    here : nat_le k n ≡ false
    here = let h : nat_lt n k ≡ true = below 0 0 (omega arith) in grind (arith, nat_tests)

-- ---- tests and items that are the same

pub places_from-same : {X : Type 0} (s t : X → Bool) → ((x : X) → s x ≡ t x) → (o : ℕ) (xs : List X) → places_from s o xs ≡ places_from t o xs
places_from-same s t h o [] = refl
places_from-same s t h o (x ∷ xs) = ap (λ b. if b then o ∷ places_from s (o + 1) xs else places_from s (o + 1) xs) (h x) ∙ ap (λ l. if t x then o ∷ l else l) (places_from-same s t h (o + 1) xs)

pub next_place-same : {X : Type 0} (s t : X → Bool) → ((x : X) → s x ≡ t x) → (k : ℕ) (xs : List X) → next_place s k xs ≡ next_place t k xs
next_place-same s t h k xs = ap (find (nat_le k)) (places_from-same s t h 0 xs)

places_from-map : {X Y : Type 0} (f : X → Y) (t : Y → Bool) (o : ℕ) (xs : List X) → places_from t o (map f xs) ≡ places_from (λ x. t (f x)) o xs
places_from-map f t o [] = refl
places_from-map f t o (x ∷ xs) = ap (λ l. if t (f x) then o ∷ l else l) (places_from-map f t (o + 1) xs)

pub next_place-map : {X Y : Type 0} (f : X → Y) (t : Y → Bool) (k : ℕ) (xs : List X) → next_place t k (map f xs) ≡ next_place (λ x. t (f x)) k xs
next_place-map f t k xs = ap (find (nat_le k)) (places_from-map f t 0 xs)
