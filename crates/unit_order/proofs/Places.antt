-- Places of numbers, in a list at those numbers.
use Rattle.std.proofs.Common.{◌≡◌, ℕ, suc, ◌<◌, List, [], ◌∷◌, ◌++◌, length, get_or, set, Bool, true, false, ◌||◌, if◌then◌else◌, eqb, Option, Some, None, refl, sym, ap, subst, ◌∙◌, eqb-true, eq-eqb, get_or-set_other, get_or-set_same, ◌≢◌}
use Rattle.std.specs.List.{list_any}
use Rattle.std.specs.Option.{option_map, is_some}
use Rattle.pl_terms.specs.Occurrence.{place_of}
use Rattle.unit_order.specs.Numbering.{noted, known_place, ArePlaces}

-- what is known to have a place is there, at it
some-suc : (o : Option ℕ) (p : ℕ) → option_map suc o ≡ Some p → (q : ℕ) × (o ≡ Some q) × (suc q ≡ p)
some-suc None p h = absurd cc
some-suc (Some q) p h = (q, refl, cc)

none-suc : (o : Option ℕ) → option_map suc o ≡ None → o ≡ None
none-suc None h = refl
none-suc (Some q) h = absurd cc

place_known : (n p : ℕ) (used : List ℕ) → known_place n used ≡ Some p → (list_any (eqb n) used ≡ true) × (p ≡ place_of n used)
place_known n p [] h = absurd cc
place_known n p (m ∷ used) h = go (eqb n m) h (λ q. place_known n q used)
  where
    go : (b : Bool) → (if b then Some 0 else option_map suc (known_place n used)) ≡ Some p → ((q : ℕ) → known_place n used ≡ Some q → (list_any (eqb n) used ≡ true) × (q ≡ place_of n used))
        → ((b || list_any (eqb n) used) ≡ true) × (p ≡ (if b then 0 else suc (place_of n used)))
    go true k ih = let e : 0 ≡ p = cc in (refl, sym e)
    go false k ih =
        let s = some-suc (known_place n used) p k in
        let r = ih s.0 s.1 in
        (r.0, sym s.2 ∙ ap suc r.1)

place_unknown : (n : ℕ) (used : List ℕ) → known_place n used ≡ None → (list_any (eqb n) used ≡ false) × (length used ≡ place_of n used)
place_unknown n [] h = (refl, refl)
place_unknown n (m ∷ used) h = go (eqb n m) h (place_unknown n used)
  where
    go : (b : Bool) → (if b then Some 0 else option_map suc (known_place n used)) ≡ None → (known_place n used ≡ None → (list_any (eqb n) used ≡ false) × (length used ≡ place_of n used))
        → ((b || list_any (eqb n) used) ≡ false) × (suc (length used) ≡ (if b then 0 else suc (place_of n used)))
    go true k ih = absurd cc
    go false k ih = let r = ih (none-suc (known_place n used) k) in (r.0, ap suc r.1)

known_last : (n : ℕ) (used : List ℕ) → known_place n used ≡ None → known_place n (used ++ n ∷ []) ≡ Some (length used)
known_last n [] h = ap (λ b. if b then Some 0 else None) (eq-eqb n n refl)
known_last n (m ∷ used) h = go (eqb n m) h (known_last n used)
  where
    go : (b : Bool) → (if b then Some 0 else option_map suc (known_place n used)) ≡ None → (known_place n used ≡ None → known_place n (used ++ n ∷ []) ≡ Some (length used))
        → (if b then Some 0 else option_map suc (known_place n (used ++ n ∷ []))) ≡ Some (suc (length used))
    go true k ih = absurd cc
    go false k ih = ap (option_map suc) (ih (none-suc (known_place n used) k))

known_before : (k n : ℕ) (used : List ℕ) → eqb k n ≡ false → known_place k (used ++ n ∷ []) ≡ known_place k used
known_before k n [] h = ap (λ b. if b then Some 0 else None) h
known_before k n (m ∷ used) h = ap (λ o. if eqb k m then Some 0 else option_map suc o) (known_before k n used h)

-- one more name
module _ (places : List (Option ℕ)) (used : List ℕ) (n : ℕ) where
  pub put_place : ArePlaces places used → n < length places → known_place n used ≡ None → ArePlaces (set places n (Some (length used))) (used ++ n ∷ [])
  put_place are lt new k = go (eqb k n) refl
    where
      go : (b : Bool) → eqb k n ≡ b → get_or (set places n (Some (length used))) k None ≡ known_place k (used ++ n ∷ [])
      go true e =
          let same : k ≡ n = eqb-true k n e in
          subst (λ j. get_or (set places n (Some (length used))) j None ≡ known_place j (used ++ n ∷ [])) (sym same)
          (get_or-set_same places n (Some (length used)) None lt ∙ sym (known_last n used new))
      go false e =
          let other : k ≢ n = λ s. differ (sym (eq-eqb k n s) ∙ e) in
          get_or-set_other places n k (Some (length used)) None other ∙ are k ∙ sym (known_before k n used e)
        where
          differ : true ≡ false → ⊥
          differ h = cc

  pub noted_new : known_place n used ≡ None → used ++ n ∷ [] ≡ noted used n
  noted_new h = ap (λ b. if b then used else used ++ n ∷ []) (sym (place_unknown n used h).0)

  pub noted_known : (p : ℕ) → known_place n used ≡ Some p → used ≡ noted used n
  noted_known p h = ap (λ b. if b then used else used ++ n ∷ []) (sym (place_known n p used h).0)

  pub number_known : (p : ℕ) → known_place n used ≡ Some p → p ≡ place_of n used
  number_known p h = (place_known n p used h).1

  pub number_unknown : known_place n used ≡ None → length used ≡ place_of n used
  number_unknown h = (place_unknown n used h).1

-- by a test
pub noted_some : (used : List ℕ) (n : ℕ) (place : Option ℕ) → known_place n used ≡ place → is_some place ≡ true → used ≡ noted used n
noted_some used n None e h = absurd cc
noted_some used n (Some p) e h = noted_known [] used n p e

pub none_of : (place : Option ℕ) → is_some place ≡ false → place ≡ None
none_of None h = refl
none_of (Some p) h = absurd cc
