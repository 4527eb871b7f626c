-- Lists whose elements rise: there is one for the same elements.
use Rattle.std.proofs.Common.{◌≡◌, ℕ, zero, suc, ◌<◌, ◌≤◌, List, [], ◌∷◌, length, map, get_or, Bool, true, false, cond, refl, sym, ap, subst, ◌∙◌, arith, inl, inr, ◌⊎◌, Some, None}
use Rattle.std.specs.Prelude.{Contains}
use Rattle.std.specs.Cmp.{IsTotalOrder}
use Rattle.std.specs.List.{AllByRecursion}
use Rattle.std.specs.List.Sorted.{IsSorted, IsPermutation}
use Rattle.std.specs.Ordering.{is_lt, ordering_reverse}
use Rattle.std.specs.declared.cmp.Ordering.{Ordering}
use Rattle.std.specs.declared.cmp.Ordering.TheVariants.{Less, Equal, Greater}
use Rattle.std.proofs.lemmas.Cmp.{tied_itself}
use Rattle.std.proofs.lemmas.List.Sorted.{ranks_by, sorted_far, Contains-permutation, IsPermutation-sym}
use Rattle.mod_visible.specs.Ordered.{put_by, put, ordered, distinct_after}
use Rattle.mod_visible.proofs.Members.{in-nil, in-here, in-there, in-cases, in-map, of-map}

pub all_for : {A : Type 0} (P : A → Type 0) (xs : List A) (x : A) → AllByRecursion P xs → Contains xs x → P x
all_for P [] x h i = absurd (in-nil x i)
all_for P (y ∷ xs) x h i = elim (in-cases y x xs i) [ inl e ↦ subst P e h.0 | inr j ↦ all_for P xs x h.1 j ]

pub for_all : {A : Type 0} (P : A → Type 0) (xs : List A) → ((x : A) → Contains xs x → P x) → AllByRecursion P xs
for_all P [] h = tt
for_all P (x ∷ xs) h = (h x (in-here x xs), for_all P xs (λ y i. h y (in-there x y xs i)))

module _ {X : Type 0} (cmp : X → X → Ordering) where
  abbrev pub Above : X → List X → Type 0
  Above x = AllByRecursion (λ y. cmp x y ≡ Less)

  abbrev pub Rises : List X → Type 0
  Rises [] = Unit {0}
  Rises (x ∷ xs) = Above x xs × Rises xs

  abbrev pub NeverFalls : List X → Type 0
  NeverFalls [] = Unit {0}
  NeverFalls (x ∷ xs) = AllByRecursion (λ y. is_lt (cmp y x) ≡ false) xs × NeverFalls xs

is_Less : (r : Ordering) → is_lt r ≡ true → r ≡ Less
is_Less Less e = refl
is_Less Equal e = absurd cc
is_Less Greater e = absurd cc

turned : (r s : Ordering) → r ≡ ordering_reverse s → s ≡ Greater → r ≡ Less
turned r s e f = e ∙ ap ordering_reverse f

is_Equal : (r s : Ordering) → r ≡ ordering_reverse s → is_lt r ≡ false → is_lt s ≡ false → r ≡ Equal
is_Equal Less s e a b = absurd cc
is_Equal Equal s e a b = refl
is_Equal Greater Less e a b = absurd cc
is_Equal Greater Equal e a b = absurd cc
is_Equal Greater Greater e a b = absurd cc

not_both : (r s : Ordering) → r ≡ ordering_reverse s → r ≡ Less → s ≡ Less → ⊥
not_both r s e a b = let g : Less ≡ Greater = sym a ∙ e ∙ ap ordering_reverse b in cc

module _ {X : Type 0} (cmp : X → X → Ordering) (total : IsTotalOrder cmp) (same : (x y : X) → cmp x y ≡ Equal → x ≡ y) where
  above-more : (x y : X) (ys : List X) → cmp x y ≡ Less → Above cmp y ys → Above cmp x ys
  above-more x y [] e h = tt
  above-more x y (z ∷ zs) e h = (total.trans x y z e h.0, above-more x y zs e h.1)

  -- ---- what one more element makes

  put-above : (z x : X) (ys : List X) → cmp z x ≡ Less → Above cmp z ys → Above cmp z (put cmp x ys)
  put-above z x [] e h = (e, tt)
  put-above z x (y ∷ ys) e h = go (cmp x y) (put-above z x ys e h.1)
    where
      go : (r : Ordering) → Above cmp z (put cmp x ys) → Above cmp z (put_by r x y ys (put cmp x ys))
      go Less ih = (e, h)
      go Equal ih = h
      go Greater ih = (h.0, ih)

  put-rises : (x : X) (ys : List X) → Rises cmp ys → Rises cmp (put cmp x ys)
  put-rises x [] h = (tt, tt)
  put-rises x (y ∷ ys) h = go (cmp x y) refl (put-rises x ys h.1)
    where
      go : (r : Ordering) → cmp x y ≡ r → Rises cmp (put cmp x ys) → Rises cmp (put_by r x y ys (put cmp x ys))
      go Less e ih = ((e, above-more x y ys e h.0), h)
      go Equal e ih = h
      go Greater e ih = (put-above y x ys (turned (cmp y x) (cmp x y) (total.antisymm y x) e) h.0, ih)

  put-cases : (x z : X) (ys : List X) → Contains (put cmp x ys) z → (x ≡ z) ⊎ Contains ys z
  put-cases x z [] i = in-cases x z [] i
  put-cases x z (y ∷ ys) i = go (cmp x y) (put-cases x z ys) i
    where
      go : (r : Ordering) → (Contains (put cmp x ys) z → (x ≡ z) ⊎ Contains ys z) → Contains (put_by r x y ys (put cmp x ys)) z → (x ≡ z) ⊎ Contains (y ∷ ys) z
      go Less ih j = in-cases x z (y ∷ ys) j
      go Equal ih j = inr j
      go Greater ih j = elim (in-cases y z (put cmp x ys) j) [
        | inl e ↦ inr (subst (Contains (y ∷ ys)) e (in-here y ys))
        | inr k ↦ elim (ih k) [ inl e ↦ inl e | inr l ↦ inr (in-there y z ys l) ]
      ]

  put-here : (x : X) (ys : List X) → Contains (put cmp x ys) x
  put-here x [] = in-here x []
  put-here x (y ∷ ys) = go (cmp x y) refl (put-here x ys)
    where
      go : (r : Ordering) → cmp x y ≡ r → Contains (put cmp x ys) x → Contains (put_by r x y ys (put cmp x ys)) x
      go Less e ih = in-here x (y ∷ ys)
      go Equal e ih = subst (Contains (y ∷ ys)) (sym (same x y e)) (in-here y ys)
      go Greater e ih = in-there y x (put cmp x ys) ih

  put-kept : (x z : X) (ys : List X) → Contains ys z → Contains (put cmp x ys) z
  put-kept x z [] i = absurd (in-nil z i)
  put-kept x z (y ∷ ys) i = go (cmp x y) (put-kept x z ys)
    where
      go : (r : Ordering) → (Contains ys z → Contains (put cmp x ys) z) → Contains (put_by r x y ys (put cmp x ys)) z
      go Less ih = in-there x z (y ∷ ys) i
      go Equal ih = i
      go Greater ih = elim (in-cases y z ys i) [
        | inl e ↦ subst (Contains (y ∷ put cmp x ys)) e (in-here y (put cmp x ys))
        | inr j ↦ in-there y z (put cmp x ys) (ih j)
      ]

  ordered-rises : (xs : List X) → Rises cmp (ordered cmp xs)
  ordered-rises [] = tt
  ordered-rises (x ∷ xs) = put-rises x (ordered cmp xs) (ordered-rises xs)

  of-ordered : (xs : List X) (z : X) → Contains (ordered cmp xs) z → Contains xs z
  of-ordered [] z i = i
  of-ordered (x ∷ xs) z i = elim (put-cases x z (ordered cmp xs) i) [
    | inl e ↦ subst (Contains (x ∷ xs)) e (in-here x xs)
    | inr j ↦ in-there x z xs (of-ordered xs z j)
  ]

  in-ordered : (xs : List X) (z : X) → Contains xs z → Contains (ordered cmp xs) z
  in-ordered [] z i = i
  in-ordered (x ∷ xs) z i = elim (in-cases x z xs i) [
    | inl e ↦ subst (Contains (put cmp x (ordered cmp xs))) e (put-here x (ordered cmp xs))
    | inr j ↦ put-kept x z (ordered cmp xs) (in-ordered xs z j)
  ]

  -- ---- one list

  smallest : (x y : X) (xs ys : List X) → Above cmp x xs → Above cmp y ys → Contains (y ∷ ys) x → Contains (x ∷ xs) y → x ≡ y
  smallest x y xs ys a b i j = elim (in-cases y x ys i) [
    | inl e ↦ sym e
    | inr k ↦ elim (in-cases x y xs j) [
      | inl e ↦ e
      | inr l ↦ absurd (not_both (cmp x y) (cmp y x) (total.antisymm x y) (all_for (λ z. cmp x z ≡ Less) xs y a l) (all_for (λ z. cmp y z ≡ Less) ys x b k))
    ]
  ]

  rest : (x y z : X) (xs ys : List X) → Above cmp x xs → x ≡ y → Contains xs z → Contains (y ∷ ys) z → Contains ys z
  rest x y z xs ys a e i j = elim (in-cases y z ys j) [
    | inl f ↦ absurd (let less : cmp x z ≡ Less = all_for (λ w. cmp x w ≡ Less) xs z a i in let tie : cmp x z ≡ Equal = ap (cmp x) (sym (e ∙ f)) ∙ tied_itself total x in cc)
    | inr k ↦ k
  ]

  one_list : (xs ys : List X) → Rises cmp xs → Rises cmp ys → ((z : X) → Contains xs z → Contains ys z) → ((z : X) → Contains ys z → Contains xs z) → xs ≡ ys
  one_list [] [] a b f g = refl
  one_list [] (y ∷ ys) a b f g = absurd (in-nil y (g y (in-here y ys)))
  one_list (x ∷ xs) [] a b f g = absurd (in-nil x (f x (in-here x xs)))
  one_list (x ∷ xs) (y ∷ ys) a b f g =
      let e = smallest x y xs ys a.0 b.0 (f x (in-here x xs)) (g y (in-here y ys)) in
      let t = one_list xs ys a.1 b.1 (λ z i. rest x y z xs ys a.0 e i (f z (in-there x z xs i))) (λ z i. rest y x z ys xs b.0 (sym e) i (g z (in-there y z ys i))) in
      cc

  -- ---- those that rise above the one before them

  abbrev After : X → List X → List X
  After y = distinct_after cmp (Some y)

  of-after : (y z : X) (xs : List X) → Contains (After y xs) z → Contains xs z
  of-after y z [] i = i
  of-after y z (x ∷ xs) i = go (is_lt (cmp y x)) (of-after x z xs) (of-after y z xs) i
    where
      go : (b : Bool) → (Contains (After x xs) z → Contains xs z) → (Contains (After y xs) z → Contains xs z) → Contains (cond b (x ∷ After x xs) (After y xs)) z → Contains (x ∷ xs) z
      go true f g j = elim (in-cases x z (After x xs) j) [ inl e ↦ subst (Contains (x ∷ xs)) e (in-here x xs) | inr k ↦ in-there x z xs (f k) ]
      go false f g j = in-there x z xs (g j)

  in-after : (y z : X) (xs : List X) → NeverFalls cmp (y ∷ xs) → Contains xs z → (y ≡ z) ⊎ Contains (After y xs) z
  in-after y z [] h i = absurd (in-nil z i)
  in-after y z (x ∷ xs) h i = go (is_lt (cmp y x)) refl (in-after x z xs h.1) (in-after y z xs (h.0.1, h.1.1))
    where
      go : (b : Bool) → is_lt (cmp y x) ≡ b → (Contains xs z → (x ≡ z) ⊎ Contains (After x xs) z) → (Contains xs z → (y ≡ z) ⊎ Contains (After y xs) z) → (y ≡ z) ⊎ Contains (cond b (x ∷ After x xs) (After y xs)) z
      go true e rest_x rest_y = elim (in-cases x z xs i) [
        | inl f ↦ inr (subst (Contains (x ∷ After x xs)) f (in-here x (After x xs)))
        | inr j ↦ elim (rest_x j) [
          | inl f ↦ inr (subst (Contains (x ∷ After x xs)) f (in-here x (After x xs)))
          | inr k ↦ inr (in-there x z (After x xs) k)
        ]
      ]
      go false e rest_x rest_y = elim (in-cases x z xs i) [
        | inl f ↦ inl (same y x (is_Equal (cmp y x) (cmp x y) (total.antisymm y x) e h.0.0) ∙ f)
        | inr j ↦ rest_y j
      ]

  after-rises : (y : X) (xs : List X) → NeverFalls cmp (y ∷ xs) → Above cmp y (After y xs) × Rises cmp (After y xs)
  after-rises y [] h = (tt, tt)
  after-rises y (x ∷ xs) h = go (is_lt (cmp y x)) refl (after-rises x xs h.1) (after-rises y xs (h.0.1, h.1.1))
    where
      go : (b : Bool) → is_lt (cmp y x) ≡ b → Above cmp x (After x xs) × Rises cmp (After x xs) → Above cmp y (After y xs) × Rises cmp (After y xs) → Above cmp y (cond b (x ∷ After x xs) (After y xs)) × Rises cmp (cond b (x ∷ After x xs) (After y xs))
      go true e t u = let less = is_Less (cmp y x) e in ((less, above-more y x (After x xs) less t.0), t)
      go false e t u = u

  distinct-rises : (xs : List X) → NeverFalls cmp xs → Rises cmp (distinct_after cmp None xs)
  distinct-rises [] h = tt
  distinct-rises (x ∷ xs) h = after-rises x xs h

  of-distinct : (xs : List X) (z : X) → Contains (distinct_after cmp None xs) z → Contains xs z
  of-distinct [] z i = i
  of-distinct (x ∷ xs) z i = elim (in-cases x z (After x xs) i) [ inl e ↦ subst (Contains (x ∷ xs)) e (in-here x xs) | inr j ↦ in-there x z xs (of-after x z xs j) ]

  in-distinct : (xs : List X) (z : X) → NeverFalls cmp xs → Contains xs z → Contains (distinct_after cmp None xs) z
  in-distinct [] z h i = i
  in-distinct (x ∷ xs) z h i = elim (in-cases x z xs i) [
    | inl e ↦ subst (Contains (x ∷ After x xs)) e (in-here x (After x xs))
    | inr j ↦ elim (in-after x z xs h j) [ inl e ↦ subst (Contains (x ∷ After x xs)) e (in-here x (After x xs)) | inr k ↦ in-there x z (After x xs) k ]
  ]

  pub ordered-is : (xs zs : List X) → NeverFalls cmp zs → ((z : X) → Contains zs z → Contains xs z) → ((z : X) → Contains xs z → Contains zs z) → distinct_after cmp None zs ≡ ordered cmp xs
  ordered-is xs zs h f g =
      one_list (distinct_after cmp None zs) (ordered cmp xs) (distinct-rises zs h) (ordered-rises xs)
      (λ z i. in-ordered xs z (f z (of-distinct zs z i))) (λ z i. in-distinct zs z h (g z (of-ordered xs z i)))

-- ---- sorted lists never fall

module _ {A X : Type 0} (cmp : X → X → Ordering) (total : IsTotalOrder cmp) (view : A → X) where
  abbrev Later : List A → Type 0
  Later xs = (i j : ℕ) (d : A) → i ≤ j → j < length xs → is_lt (cmp (view (get_or xs j d)) (view (get_or xs i d))) ≡ false

  all_later : (x : A) (xs : List A) → ((k : ℕ) → k < length xs → is_lt (cmp (view (get_or xs k x)) (view x)) ≡ false) → AllByRecursion (λ y. is_lt (cmp y (view x)) ≡ false) (map view xs)
  all_later x [] h = tt
  all_later x (y ∷ ys) h = (h zero (omega arith), all_later x ys (λ k lt. h (suc k) (omega arith)))

  from_later : (xs : List A) → Later xs → NeverFalls cmp (map view xs)
  from_later [] h = tt
  from_later (x ∷ xs) h = (all_later x xs (λ k lt. h zero (suc k) x (omega arith) (omega arith)), from_later xs (λ i j d le lt. h (suc i) (suc j) d (omega arith) (omega arith)))

  pub never_falls : (xs : List A) → IsSorted (λ a b. cmp (view a) (view b)) xs → NeverFalls cmp (map view xs)
  never_falls xs h = from_later xs (sorted_far (λ a b. is_lt (cmp (view a) (view b))) (ranks_by total view) xs h)

  -- the elements of a list, in order and each once, by a sort of them
  pub sorted-is : (same : (x y : X) → cmp x y ≡ Equal → x ≡ y) (xs ys : List A) (want : List X) → IsPermutation xs ys → IsSorted (λ a b. cmp (view a) (view b)) ys
      → ((z : X) → Contains (map view xs) z → Contains want z) → ((z : X) → Contains want z → Contains (map view xs) z) → distinct_after cmp None (map view ys) ≡ ordered cmp want
  sorted-is same xs ys want perm sorted f g =
      ordered-is cmp total same want (map view ys) (never_falls ys sorted)
      (λ z i. let a = of-map view ys z i in subst (Contains want) (sym a.2) (f (view a.0) (in-map view xs a.0 (Contains-permutation ys xs a.0 (IsPermutation-sym xs ys perm) a.1))))
      (λ z i. let a = of-map view xs z (g z i) in subst (Contains (map view ys)) (sym a.2) (in-map view ys a.0 (Contains-permutation xs ys a.0 perm a.1)))
