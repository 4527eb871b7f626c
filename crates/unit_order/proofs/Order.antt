-- Places in a list of numbers that were noted come in order.
use Rattle.std.proofs.Common.{◌≡◌, ℕ, suc, ◌<◌, List, [], ◌∷◌, ◌++◌, map, length, Bool, true, false, ◌||◌, if◌then◌else◌, cond, ltb, eqb, Option, Some, None, refl, sym, ap, subst, ◌∙◌, arith, append_assoc, eq-eqb}
use Rattle.std.specs.List.{list_any, AllByRecursion}
use Rattle.std.proofs.lemmas.Bool.{or_parts, lt-ltb, le-ltb}
use Rattle.std.proofs.lemmas.List.{append-nil, length-append}
use Rattle.pl_terms.specs.Occurrence.{first_after, from_to, place_of}
use Rattle.pl_atoms.proofs.Texts.{same_text-is}
use Rattle.unit_format.specs.Counting.{counted_within}
use Rattle.unit_format.proofs.Counting.{decides}
use Rattle.unit_order.specs.Numbering.{noted, all_noted, number_in}

-- what was noted stays in front
pub grown : (used ns : List ℕ) → (more : List ℕ) × (all_noted used ns ≡ used ++ more)
grown used [] = ([], sym (append-nil used))
grown used (n ∷ ns) = go (list_any (eqb n) used) refl (grown used ns) (grown (used ++ n ∷ []) ns)
  where
    go : (b : Bool) → list_any (eqb n) used ≡ b → (more : List ℕ) × (all_noted used ns ≡ used ++ more) → (more : List ℕ) × (all_noted (used ++ n ∷ []) ns ≡ (used ++ n ∷ []) ++ more) → (more : List ℕ) × (all_noted (noted used n) ns ≡ used ++ more)
    go true e r s = (r.0, ap (λ b. all_noted (if b then used else used ++ n ∷ []) ns) e ∙ r.1)
    go false e r s = (n ∷ s.0, ap (λ b. all_noted (if b then used else used ++ n ∷ []) ns) e ∙ s.1 ∙ append_assoc used (n ∷ []) s.0)

pub place_held : (n : ℕ) (used more : List ℕ) → list_any (eqb n) used ≡ true → place_of n (used ++ more) < length used
place_held n [] more h = absurd cc
place_held n (m ∷ used) more h = go (eqb n m) refl h (place_held n used more)
  where
    go : (b : Bool) → eqb n m ≡ b → (b || list_any (eqb n) used) ≡ true → (list_any (eqb n) used ≡ true → place_of n (used ++ more) < length used)
        → (if b then 0 else suc (place_of n (used ++ more))) < suc (length used)
    go true e k ih = omega arith
    go false e k ih = omega (arith, ih k)

place_new : (n : ℕ) (used more : List ℕ) → list_any (eqb n) used ≡ false → place_of n (used ++ n ∷ more) ≡ length used
place_new n [] more h = ap (λ b. if b then 0 else suc (place_of n more)) (eq-eqb n n refl)
place_new n (m ∷ used) more h =
    let p = or_parts (eqb n m) (list_any (eqb n) used) h in
    ap (λ b. if b then 0 else suc (place_of n (used ++ n ∷ more))) p.0 ∙ ap suc (place_new n used more p.1)

abbrev counted_step : ℕ → ℕ → ℕ → List ℕ → Option ℕ
counted_step limit k x xs = cond (ltb x k) (counted_within limit k xs) (cond (eqb x k) (cond (ltb k limit) (counted_within limit (suc k) xs) None) None)

step_seen : (limit k x : ℕ) (xs : List ℕ) → x < k → counted_within limit k (x ∷ xs) ≡ counted_within limit k xs
step_seen limit k x xs h = ap (λ b. cond b (counted_within limit k xs) (cond (eqb x k) (cond (ltb k limit) (counted_within limit (suc k) xs) None) None)) (lt-ltb x k h)

step_next : (limit k x : ℕ) (xs : List ℕ) → x ≡ k → k < limit → counted_within limit k (x ∷ xs) ≡ counted_within limit (suc k) xs
step_next limit k x xs e h =
    ap (λ b. cond b (counted_within limit k xs) (cond (eqb x k) (cond (ltb k limit) (counted_within limit (suc k) xs) None) None)) (le-ltb x k (omega arith))
    ∙ ap (λ b. cond b (cond (ltb k limit) (counted_within limit (suc k) xs) None) None) (eq-eqb x k e)
    ∙ ap (λ b. cond b (counted_within limit (suc k) xs) None) (lt-ltb k limit h)

abbrev Counts : List ℕ → List ℕ → List ℕ → Type 0
Counts last ns seen = all_noted seen ns ≡ last → counted_within (length last) (length seen) (map (number_in last) ns) ≡ Some (length last)

counted_places : (last used ns : List ℕ) → all_noted used ns ≡ last → counted_within (length last) (length used) (map (number_in last) ns) ≡ Some (length last)
counted_places last used [] h = ap (λ (l : List ℕ). Some (length l)) h
counted_places last used (n ∷ ns) h = go (list_any (eqb n) used) refl (counted_places last used ns) (counted_places last (used ++ n ∷ []) ns)
  where
    go : (b : Bool) → list_any (eqb n) used ≡ b → Counts last ns used → Counts last ns (used ++ n ∷ []) → counted_within (length last) (length used) (map (number_in last) (n ∷ ns)) ≡ Some (length last)
    go true e ih other =
        let h2 : all_noted used ns ≡ last = sym (ap (λ b. all_noted (if b then used else used ++ n ∷ []) ns) e) ∙ h in
        let r = grown used ns in
        let whole : last ≡ used ++ r.0 = sym h2 ∙ r.1 in
        let lt : number_in last n < length used = subst (λ l. place_of n l < length used) (sym whole) (place_held n used r.0 e) in
        step_seen (length last) (length used) (number_in last n) (map (number_in last) ns) lt ∙ ih h2
    go false e other ih =
        let h2 : all_noted (used ++ n ∷ []) ns ≡ last = sym (ap (λ b. all_noted (if b then used else used ++ n ∷ []) ns) e) ∙ h in
        let r = grown (used ++ n ∷ []) ns in
        let whole : last ≡ used ++ n ∷ r.0 = sym h2 ∙ r.1 ∙ append_assoc used (n ∷ []) r.0 in
        let at : number_in last n ≡ length used = ap (place_of n) whole ∙ place_new n used r.0 e in
        let lt : length used < length last = omega (arith, ap length whole, length-append used (n ∷ r.0)) in
        let more : length (used ++ n ∷ []) ≡ suc (length used) = omega (arith, length-append used (n ∷ [])) in
        step_next (length last) (length used) (number_in last n) (map (number_in last) ns) at lt
        ∙ ap (λ k. counted_within (length last) k (map (number_in last) ns)) (sym more)
        ∙ ih h2

-- the places of the uses, at their first, are 0, 1, 2 and so on
pub places_in_order : (last ns : List ℕ) → all_noted [] ns ≡ last → first_after [] (map (number_in last) ns) ≡ from_to 0 (length last)
places_in_order last ns h =
    let uses = map (number_in last) ns in
    same_text-is (first_after [] uses) (from_to 0 (length last))
    (sym (decides (length last) (length last) uses (sym (counted_places last [] ns h))) ∙ eq-eqb (length last) (length last) refl)

-- ---- none is noted twice, and each use is

abbrev pub AreFresh : List ℕ → List ℕ → Type 0
AreFresh seen [] = Unit {0}
AreFresh seen (n ∷ ns) = (list_any (eqb n) seen ≡ false) × AreFresh (seen ++ n ∷ []) ns

fresh_last : (seen ns : List ℕ) (n : ℕ) → AreFresh seen ns → list_any (eqb n) (seen ++ ns) ≡ false → AreFresh seen (ns ++ n ∷ [])
fresh_last seen [] n h k = (ap (list_any (eqb n)) (sym (append-nil seen)) ∙ k, tt)
fresh_last seen (m ∷ ns) n h k = (h.0, fresh_last (seen ++ m ∷ []) ns n h.1 (ap (list_any (eqb n)) (append_assoc seen (m ∷ []) ns) ∙ k))

pub fresh : (used ns : List ℕ) → AreFresh [] used → AreFresh [] (all_noted used ns)
fresh used [] h = h
fresh used (n ∷ ns) h = go (list_any (eqb n) used) refl (fresh used ns) (fresh (used ++ n ∷ []) ns)
  where
    go : (b : Bool) → list_any (eqb n) used ≡ b → (AreFresh [] used → AreFresh [] (all_noted used ns)) → (AreFresh [] (used ++ n ∷ []) → AreFresh [] (all_noted (used ++ n ∷ []) ns)) → AreFresh [] (all_noted (noted used n) ns)
    go true e ih other = subst (λ c. AreFresh [] (all_noted (if c then used else used ++ n ∷ []) ns)) (sym e) (ih h)
    go false e other ih = subst (λ c. AreFresh [] (all_noted (if c then used else used ++ n ∷ []) ns)) (sym e) (ih (fresh_last [] used n h e))

AllBy-append : (P : ℕ → Type 0) (xs ys : List ℕ) → AllByRecursion P xs → AllByRecursion P ys → AllByRecursion P (xs ++ ys)
AllBy-append P [] ys h k = k
AllBy-append P (x ∷ xs) ys h k = (h.0, AllBy-append P xs ys h.1 k)

-- what holds of each use holds of each that was noted
pub all_of_uses : (P : ℕ → Type 0) (used ns : List ℕ) → AllByRecursion P used → AllByRecursion P ns → AllByRecursion P (all_noted used ns)
all_of_uses P used [] h k = h
all_of_uses P used (n ∷ ns) h k = all_of_uses P (noted used n) ns (go (list_any (eqb n) used)) k.1
  where
    go : (b : Bool) → AllByRecursion P (if b then used else used ++ n ∷ [])
    go true = h
    go false = AllBy-append P used (n ∷ []) h (k.0, tt)

-- each use has been noted
abbrev pub IsNoted : List ℕ → ℕ → Type 0
IsNoted used n = list_any (eqb n) used ≡ true

held_front : (n : ℕ) (used more : List ℕ) → list_any (eqb n) used ≡ true → list_any (eqb n) (used ++ more) ≡ true
held_front n [] more h = absurd cc
held_front n (m ∷ used) more h = go (eqb n m) h (held_front n used more)
  where
    go : (b : Bool) → (b || list_any (eqb n) used) ≡ true → (list_any (eqb n) used ≡ true → list_any (eqb n) (used ++ more) ≡ true) → (b || list_any (eqb n) (used ++ more)) ≡ true
    go true k ih = refl
    go false k ih = ih k

held_last : (n : ℕ) (used more : List ℕ) → list_any (eqb n) (used ++ n ∷ more) ≡ true
held_last n [] more = ap (λ b. b || list_any (eqb n) more) (eq-eqb n n refl)
held_last n (m ∷ used) more = go (eqb n m) (held_last n used more)
  where
    go : (b : Bool) → list_any (eqb n) (used ++ n ∷ more) ≡ true → (b || list_any (eqb n) (used ++ n ∷ more)) ≡ true
    go true ih = refl
    go false ih = ih

pub uses_noted : (last used ns : List ℕ) → all_noted used ns ≡ last → AllByRecursion (IsNoted last) ns
uses_noted last used [] h = tt
uses_noted last used (n ∷ ns) h = (go (list_any (eqb n) used) refl, uses_noted last (noted used n) ns h)
  where
    go : (b : Bool) → list_any (eqb n) used ≡ b → IsNoted last n
    go true e =
        let r = grown used (n ∷ ns) in
        subst (λ l. IsNoted l n) (sym r.1 ∙ h) (held_front n used r.0 e)
    go false e =
        let r = grown (used ++ n ∷ []) ns in
        let whole : used ++ n ∷ r.0 ≡ last = sym (append_assoc used (n ∷ []) r.0) ∙ sym r.1 ∙ sym (ap (λ b. all_noted (if b then used else used ++ n ∷ []) ns) e) ∙ h in
        subst (λ l. IsNoted l n) whole (held_last n used r.0)
