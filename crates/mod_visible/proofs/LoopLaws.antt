-- Loops that keep some elements.
use Rattle.std.proofs.Common.{◌≡◌, ℕ, zero, suc, ◌+◌, ◌<◌, ◌≤◌, List, [], ◌∷◌, ◌++◌, length, map, take, drop, get_or, true, false, cond, refl, sym, ap, subst, ◌∙◌, arith, append_assoc, drop-cons, Option, Some, None, inl, inr}
use Rattle.std.specs.Prelude.{Contains}
use Rattle.std.specs.List.{filter_map}
use Rattle.std.specs.declared.cmp.Ordering.{Ordering}
use Rattle.std.proofs.lemmas.List.{take_more, take_all, append-nil, map-append}
use Rattle.std.proofs.lemmas.List.Elements.{filter_map-append, Contains-get_or, Contains-append_cases}
use Rattle.mod_visible.specs.Ordered.{distinct_after}
use Rattle.mod_visible.specs.Clashing.{rises}
use Rattle.mod_visible.proofs.Members.{in-nil, in-cases}

module _ {A B : Type 0} (f : A → Option B) where
  pub kept_more : (xs : List A) (k : ℕ) (d : A) (old new : List B) → k < length xs → new ≡ old ++ filter_map f (get_or xs k d ∷ []) → old ≡ filter_map f (take k xs) → new ≡ filter_map f (take (k + 1) xs)
  kept_more xs k d old new lt step h =
      step ∙ ap (λ l. l ++ filter_map f (get_or xs k d ∷ [])) h ∙ sym (filter_map-append f (take k xs) (get_or xs k d ∷ [])) ∙ ap (filter_map f) (sym (take_more xs k d lt))

  pub kept_all : (xs : List A) (k : ℕ) (old : List B) → length xs ≤ k → old ≡ filter_map f (take k xs) → old ≡ filter_map f xs
  kept_all xs k old le h = h ∙ ap (filter_map f) (take_all k xs le)

-- ---- those that rise above the one before them

abbrev pub viewed : {A X : Type 0} → (A → X) → Option A → Option X
viewed view None = None
viewed view (Some a) = Some (view a)

module _ {A X : Type 0} (cmp : X → X → Ordering) (view : A → X) where
  -- what is kept so far, and what the rest adds to it
  abbrev pub SoFar : List A → List A → Option A → ℕ → Type 0
  SoFar xs kept last k = map view kept ++ distinct_after cmp (viewed view last) (map view (drop k xs)) ≡ distinct_after cmp None (map view xs)

  one_kept : (last : Option A) (x : A) (xs : List A) → rises cmp view last x ≡ true → distinct_after cmp (viewed view last) (map view (x ∷ xs)) ≡ view x ∷ distinct_after cmp (Some (view x)) (map view xs)
  one_kept None x xs e = refl
  one_kept (Some y) x xs e = ap (λ b. cond b (view x ∷ distinct_after cmp (Some (view x)) (map view xs)) (distinct_after cmp (Some (view y)) (map view xs))) e

  one_left : (last : Option A) (x : A) (xs : List A) → rises cmp view last x ≡ false → distinct_after cmp (viewed view last) (map view (x ∷ xs)) ≡ distinct_after cmp (viewed view last) (map view xs)
  one_left None x xs e = absurd cc
  one_left (Some y) x xs e = ap (λ b. cond b (view x ∷ distinct_after cmp (Some (view x)) (map view xs)) (distinct_after cmp (Some (view y)) (map view xs))) e

  next_is : (xs : List A) (k : ℕ) (d : A) → k < length xs → drop k xs ≡ get_or xs k d ∷ drop (k + 1) xs
  next_is xs k d lt = let e : k + 1 ≡ suc k = omega arith in drop-cons xs k d lt ∙ ap (λ n. get_or xs k d ∷ drop n xs) (sym e)

  pub so_far_kept : (xs kept : List A) (last : Option A) (k : ℕ) (d : A) → k < length xs → SoFar xs kept last k → rises cmp view last (get_or xs k d) ≡ true → SoFar xs (kept ++ get_or xs k d ∷ []) (Some (get_or xs k d)) (k + 1)
  so_far_kept xs kept last k d lt h e =
      let x = get_or xs k d in
      let more = distinct_after cmp (Some (view x)) (map view (drop (k + 1) xs)) in
      ap (λ l. l ++ more) (map-append view kept (x ∷ [])) ∙ append_assoc (map view kept) (view x ∷ []) more
      ∙ ap (λ l. map view kept ++ l) (sym (one_kept last x (drop (k + 1) xs) e))
      ∙ ap (λ l. map view kept ++ distinct_after cmp (viewed view last) (map view l)) (sym (next_is xs k d lt)) ∙ h

  pub so_far_left : (xs kept : List A) (last : Option A) (k : ℕ) (d : A) → k < length xs → SoFar xs kept last k → rises cmp view last (get_or xs k d) ≡ false → SoFar xs kept last (k + 1)
  so_far_left xs kept last k d lt h e =
      ap (λ l. map view kept ++ l) (sym (one_left last (get_or xs k d) (drop (k + 1) xs) e))
      ∙ ap (λ l. map view kept ++ distinct_after cmp (viewed view last) (map view l)) (sym (next_is xs k d lt)) ∙ h

  none_left : (n : ℕ) (xs : List A) → length xs ≤ n → drop n xs ≡ []
  none_left zero [] le = refl
  none_left (suc n) [] le = refl
  none_left zero (x ∷ xs) le = absurd (omega arith)
  none_left (suc n) (x ∷ xs) le = none_left n xs (omega arith)

  pub so_far_all : (xs kept : List A) (last : Option A) (k : ℕ) → length xs ≤ k → SoFar xs kept last k → map view kept ≡ distinct_after cmp None (map view xs)
  so_far_all xs kept last k le h =
      sym (append-nil (map view kept)) ∙ ap (λ l. map view kept ++ distinct_after cmp (viewed view last) (map view l)) (sym (none_left k xs le)) ∙ h

pub one_more_in : {A : Type 0} (xs kept : List A) (k : ℕ) (d : A) → k < length xs → ((x : A) → Contains kept x → Contains xs x) → (x : A) → Contains (kept ++ get_or xs k d ∷ []) x → Contains xs x
one_more_in xs kept k d lt h x i = elim (Contains-append_cases kept (get_or xs k d ∷ []) x i) [
  | inl a ↦ h x a
  | inr b ↦ elim (in-cases (get_or xs k d) x [] b) [ inl e ↦ subst (Contains xs) e (Contains-get_or xs k d lt) | inr c ↦ absurd (in-nil x c) ]
]
