-- Texts by their places in a table, in the order of first use.
use Rattle.std.proofs.Common.{◌≡◌, ℕ, zero, suc, ◌+◌, ◌<◌, ◌≤◌, List, [], ◌∷◌, map, length, Bool, true, false, ◌||◌, refl, sym, ap, subst, ◌∙◌, arith, eqb, eqb-true, eq-eqb, inl, inr, if◌then◌else◌}
use Rattle.std.specs.List.{AllByRecursion}
use Rattle.std.proofs.lemmas.Bool.{or_parts, or_cases, or_left, or_right, or_from}
use Rattle.pl_ops.specs.Tables.{same_text}
use Rattle.pl_terms.specs.Occurrence.{is_in, unless_seen, first_after, from_to}
use Rattle.unit_model.specs.Facts.{Facts, names_of, facts_by}
use Rattle.unit_model.specs.Encoding.{text_place, holds_text, unless_held, distinct_after, table_of, encoding, text_at, facts_in, unit_bytes, IsInOrder}
use Rattle.pl_atoms.proofs.Texts.{same_text-is, same_text-itself}
use Rattle.unit_format.proofs.Renaming.{facts_back, names_of-by}

abbrev pub Text : Type 0
Text = List ℕ

-- none of these was seen before it
abbrev pub IsNew : List Text → List Text → Type 0
IsNew seen [] = Unit {0}
IsNew seen (s ∷ ss) = (holds_text s seen ≡ false) × IsNew (s ∷ seen) ss

abbrev of_test : Bool → Text → List Text → List Text → List Text
of_test b s seen ss = unless_held b s (distinct_after (s ∷ seen) ss)

shorter : (seen ss : List Text) → length (distinct_after seen ss) ≤ length ss
shorter seen [] = omega arith
shorter seen (s ∷ ss) = go (holds_text s seen) (shorter (s ∷ seen) ss)
  where
    go : (b : Bool) → length (distinct_after (s ∷ seen) ss) ≤ length ss → length (of_test b s seen ss) ≤ suc (length ss)
    go true ih = omega arith
    go false ih = omega arith

pub are_new : (seen ss : List Text) → distinct_after seen ss ≡ ss → IsNew seen ss
are_new seen [] h = tt
are_new seen (s ∷ ss) h = go (holds_text s seen) refl h (shorter (s ∷ seen) ss) (are_new (s ∷ seen) ss)
  where
    go : (b : Bool) → holds_text s seen ≡ b → of_test b s seen ss ≡ s ∷ ss → length (distinct_after (s ∷ seen) ss) ≤ length ss → (distinct_after (s ∷ seen) ss ≡ ss → IsNew (s ∷ seen) ss) → IsNew seen (s ∷ ss)
    go true e k short ih = absurd (omega (arith, ap length k))
    go false e k short ih = let rest : distinct_after (s ∷ seen) ss ≡ ss = cc in (e, ih rest)

pub new_are : (seen ss : List Text) → IsNew seen ss → distinct_after seen ss ≡ ss
new_are seen [] h = refl
new_are seen (s ∷ ss) h = ap (λ b. of_test b s seen ss) h.0 ∙ ap (λ (l : List Text). s ∷ l) (new_are (s ∷ seen) ss h.1)

-- what is made distinct is new
distinct_new : (seen ss : List Text) → IsNew seen (distinct_after seen ss)
distinct_new seen [] = tt
distinct_new seen (s ∷ ss) = go (holds_text s seen) refl (distinct_new (s ∷ seen) ss)
  where
    less : (r : Text) (new ts : List Text) → IsNew (r ∷ new) ts → IsNew new ts
    less r new ts h = weaken new (r ∷ new) ts (λ t k. (or_parts (same_text r t) (holds_text t new) k).1) h
      where
        weaken : (a b us : List Text) → ((t : Text) → holds_text t b ≡ false → holds_text t a ≡ false) → IsNew b us → IsNew a us
        weaken a b [] f h = tt
        weaken a b (u ∷ us) f h = (f u h.0, weaken (u ∷ a) (u ∷ b) us (λ t k. let p = or_parts (same_text u t) (holds_text t b) k in or_from (same_text u t) (holds_text t a) p.0 (f t p.1)) h.1)

    go : (b : Bool) → holds_text s seen ≡ b → IsNew (s ∷ seen) (distinct_after (s ∷ seen) ss) → IsNew seen (of_test b s seen ss)
    go true e ih = less s seen (distinct_after (s ∷ seen) ss) ih
    go false e ih = (e, ih)

-- ---- places

not_seen : (seen ss : List Text) (i : ℕ) → IsNew seen ss → i < length ss → holds_text (text_at ss i) seen ≡ false
not_seen seen [] i h lt = absurd (omega arith)
not_seen seen (s ∷ ss) zero h lt = h.0
not_seen seen (s ∷ ss) (suc i) h lt = (or_parts (same_text s (text_at ss i)) (holds_text (text_at ss i) seen) (not_seen (s ∷ seen) ss i h.1 (omega arith))).1

place_back : (seen ss : List Text) (i : ℕ) → IsNew seen ss → i < length ss → text_place ss (text_at ss i) ≡ i
place_back seen [] i h lt = absurd (omega arith)
place_back seen (s ∷ ss) zero h lt = ap (λ b. if b then 0 else suc (text_place ss s)) (same_text-itself s)
place_back seen (s ∷ ss) (suc i) h lt =
    let other = (or_parts (same_text s (text_at ss i)) (holds_text (text_at ss i) seen) (not_seen (s ∷ seen) ss i h.1 (omega arith))).0 in
    ap (λ b. if b then 0 else suc (text_place ss (text_at ss i))) other ∙ ap suc (place_back (s ∷ seen) ss i h.1 (omega arith))

abbrev placed : Bool → ℕ → ℕ
placed b n = if b then 0 else suc n

text_back : (ss : List Text) (s : Text) → holds_text s ss ≡ true → (text_at ss (text_place ss s) ≡ s) × (text_place ss s < length ss)
text_back [] s h = absurd cc
text_back (r ∷ ss) s h = go (same_text r s) refl h (text_back ss s)
  where
    go : (b : Bool) → same_text r s ≡ b → (b || holds_text s ss) ≡ true → (holds_text s ss ≡ true → (text_at ss (text_place ss s) ≡ s) × (text_place ss s < length ss)) → (text_at (r ∷ ss) (placed b (text_place ss s)) ≡ s) × (placed b (text_place ss s) < suc (length ss))
    go true e k ih = (same_text-is r s e, omega arith)
    go false e k ih = let p = ih k in (p.0, omega (arith, p.1))

-- ---- first uses, under a map that keeps apart what it is used on

module _ (g : ℕ → Text) (Used : ℕ → Type 0) (apart : (x y : ℕ) → Used x → Used y → same_text (g y) (g x) ≡ eqb x y) where
  held-is : (x : ℕ) (seen : List ℕ) → Used x → AllByRecursion Used seen → holds_text (g x) (map g seen) ≡ is_in x seen
  held-is x [] u h = refl
  held-is x (y ∷ seen) u h = ap (λ b. b || holds_text (g x) (map g seen)) (apart x y u h.0) ∙ ap (λ b. eqb x y || b) (held-is x seen u h.1)

  firsts : (seen uses : List ℕ) → AllByRecursion Used seen → AllByRecursion Used uses → distinct_after (map g seen) (map g uses) ≡ map g (first_after seen uses)
  firsts seen [] h k = refl
  firsts seen (x ∷ uses) h k =
      ap (λ b. of_test b (g x) (map g seen) (map g uses)) (held-is x seen k.0 h) ∙ ap (unless_held (is_in x seen) (g x)) (firsts (x ∷ seen) uses (k.0, h) k.1) ∙ go (is_in x seen)
    where
      go : (b : Bool) → unless_held b (g x) (map g (first_after (x ∷ seen) uses)) ≡ map g (unless_seen b x (first_after (x ∷ seen) uses))
      go true = refl
      go false = refl

-- ---- numbers from 0 on

from_to-suc : (n k : ℕ) → from_to (suc n) k ≡ map suc (from_to n k)
from_to-suc n zero = refl
from_to-suc n (suc k) = ap (λ (l : List ℕ). suc n ∷ l) (from_to-suc (suc n) k)

map-map : {A B C : Type 0} (g : B → C) (f : A → B) (xs : List A) → map g (map f xs) ≡ map (λ x. g (f x)) xs
map-map g f [] = refl
map-map {A} {B} {C} g f (x ∷ xs) = ap (λ (l : List C). g (f x) ∷ l) (map-map g f xs)

texts_in_order : (ss : List Text) → map (text_at ss) (from_to 0 (length ss)) ≡ ss
texts_in_order [] = refl
texts_in_order (s ∷ ss) =
    ap (λ (l : List Text). s ∷ l) (ap (map (text_at (s ∷ ss))) (from_to-suc 0 (length ss)) ∙ map-map (text_at (s ∷ ss)) suc (from_to 0 (length ss)) ∙ texts_in_order ss)

below : (n k : ℕ) → AllByRecursion (λ i. i < n + k) (from_to n k)
below n zero = tt
below n (suc k) = (omega arith, lift n k (below (suc n) k))
  where
    lift : (n k : ℕ) → AllByRecursion (λ i. i < suc n + k) (from_to (suc n) k) → AllByRecursion (λ i. i < n + suc k) (from_to (suc n) k)
    lift n k h = all_weaker (λ i. i < suc n + k) (λ i. i < n + suc k) (λ i l. omega arith) (from_to (suc n) k) h
      where
        all_weaker : (P Q : ℕ → Type 0) → ((i : ℕ) → P i → Q i) → (xs : List ℕ) → AllByRecursion P xs → AllByRecursion Q xs
        all_weaker P Q f [] h = tt
        all_weaker P Q f (x ∷ xs) h = (f x h.0, all_weaker P Q f xs h.1)

-- what holds of the first uses holds of all
member : (P : ℕ → Type 0) (x : ℕ) (seen : List ℕ) → is_in x seen ≡ true → AllByRecursion P seen → P x
member P x [] e h = absurd cc
member P x (y ∷ seen) e h =
    elim (or_cases (eqb x y) (is_in x seen) e) [
      | inl here ↦ subst P (sym (eqb-true x y here)) h.0
      | inr there ↦ member P x seen there h.1
    ]

all_uses : (P : ℕ → Type 0) (seen uses : List ℕ) → AllByRecursion P seen → AllByRecursion P (first_after seen uses) → AllByRecursion P uses
all_uses P seen [] h k = tt
all_uses P seen (x ∷ uses) h k = go (is_in x seen) refl k (all_uses P (x ∷ seen) uses)
  where
    go : (b : Bool) → is_in x seen ≡ b → AllByRecursion P (unless_seen b x (first_after (x ∷ seen) uses)) → (AllByRecursion P (x ∷ seen) → AllByRecursion P (first_after (x ∷ seen) uses) → AllByRecursion P uses) → AllByRecursion P (x ∷ uses)
    go true e l ih = let p = member P x seen e h in (p, ih (p, h) l)
    go false e l ih = (l.0, ih (l.0, h) l.1)

map_weaker : (P Q : ℕ → Type 0) → ((i : ℕ) → P i → Q i) → (xs : List ℕ) → AllByRecursion P xs → AllByRecursion Q xs
map_weaker P Q f [] h = tt
map_weaker P Q f (x ∷ xs) h = (f x h.0, map_weaker P Q f xs h.1)

module _ (names : List Text) (new : IsNew [] names) where
  abbrev pub InRange : ℕ → Type 0
  InRange n = n < length names

  pub at_apart : (x y : ℕ) → InRange x → InRange y → same_text (text_at names y) (text_at names x) ≡ eqb x y
  at_apart x y p q = go (eqb x y) refl (same_text (text_at names y) (text_at names x)) refl
    where
      go : (b : Bool) → eqb x y ≡ b → (t : Bool) → same_text (text_at names y) (text_at names x) ≡ t → t ≡ b
      go true e true f = refl
      go false e false f = refl
      go true e false f = sym f ∙ ap (λ z. same_text (text_at names z) (text_at names x)) (sym (eqb-true x y e)) ∙ same_text-itself (text_at names x)
      go false e true f =
          let same : x ≡ y = sym (place_back [] names x new p) ∙ ap (text_place names) (sym (same_text-is (text_at names y) (text_at names x) f)) ∙ place_back [] names y new q in
          sym (eq-eqb x y same) ∙ e

  pub in_range : (uses : List ℕ) → first_after [] uses ≡ from_to 0 (length names) → AllByRecursion InRange uses
  in_range uses h = all_uses InRange [] uses tt (subst (AllByRecursion InRange) (sym h) (map_weaker (λ i. i < 0 + length names) InRange (λ i l. omega arith) (from_to 0 (length names)) (below 0 (length names))))

  table_back : (uses : List ℕ) → first_after [] uses ≡ from_to 0 (length names) → distinct_after [] (map (text_at names) uses) ≡ names
  table_back uses h =
      firsts (text_at names) InRange at_apart [] uses tt (in_range uses h) ∙ ap (map (text_at names)) h ∙ texts_in_order names

  places_back : (uses : List ℕ) → AllByRecursion InRange uses → AllByRecursion (λ n. text_place names (text_at names n) ≡ n) uses
  places_back uses h = map_weaker InRange (λ n. text_place names (text_at names n) ≡ n) (λ n l. place_back [] names n new l) uses h

  unmap : (xs : List ℕ) → AllByRecursion InRange xs → map (text_place names) (map (text_at names) xs) ≡ xs
  unmap [] h = refl
  unmap (x ∷ xs) h = ap (λ y. y ∷ map (text_place names) (map (text_at names) xs)) (place_back [] names x new h.0) ∙ ap (λ (l : List ℕ). x ∷ l) (unmap xs h.1)

firsts_of : (P : ℕ → Type 0) (seen uses : List ℕ) → AllByRecursion P uses → AllByRecursion P (first_after seen uses)
firsts_of P seen [] h = tt
firsts_of P seen (x ∷ uses) h = go (is_in x seen) (firsts_of P (x ∷ seen) uses h.1)
  where
    go : (b : Bool) → AllByRecursion P (first_after (x ∷ seen) uses) → AllByRecursion P (unless_seen b x (first_after (x ∷ seen) uses))
    go true ih = ih
    go false ih = (h.0, ih)

-- each text stands in the table of all of them
abbrev Stands : List Text → List Text → Text → Type 0
Stands seen table s = (holds_text s table || holds_text s seen) ≡ true

all_stand : (seen ss : List Text) → AllByRecursion (Stands seen (distinct_after seen ss)) ss
all_stand seen [] = tt
all_stand seen (s ∷ ss) = go (holds_text s seen) refl (all_stand (s ∷ seen) ss)
  where
    each : (P Q : Text → Type 0) → ((t : Text) → P t → Q t) → (ts : List Text) → AllByRecursion P ts → AllByRecursion Q ts
    each P Q f [] h = tt
    each P Q f (t ∷ ts) h = (f t h.0, each P Q f ts h.1)

    go : (b : Bool) → holds_text s seen ≡ b → AllByRecursion (Stands (s ∷ seen) (distinct_after (s ∷ seen) ss)) ss → AllByRecursion (Stands seen (of_test b s seen ss)) (s ∷ ss)
    go true e ih = (
      or_right (holds_text s (distinct_after (s ∷ seen) ss)) (holds_text s seen) e,
      each (Stands (s ∷ seen) (distinct_after (s ∷ seen) ss)) (Stands seen (distinct_after (s ∷ seen) ss))
          (λ t h. elim (or_cases (holds_text t (distinct_after (s ∷ seen) ss)) (same_text s t || holds_text t seen) h) [
            | inl a ↦ or_left (holds_text t (distinct_after (s ∷ seen) ss)) (holds_text t seen) a
            | inr b ↦ elim (or_cases (same_text s t) (holds_text t seen) b) [
              | inl c ↦ or_right (holds_text t (distinct_after (s ∷ seen) ss)) (holds_text t seen) (subst (λ z. holds_text z seen ≡ true) (same_text-is s t c) e)
              | inr d ↦ or_right (holds_text t (distinct_after (s ∷ seen) ss)) (holds_text t seen) d
            ]
          ]) ss ih,
    )
    go false e ih = (
      or_left (holds_text s (s ∷ distinct_after (s ∷ seen) ss)) (holds_text s seen) (or_left (same_text s s) (holds_text s (distinct_after (s ∷ seen) ss)) (same_text-itself s)),
      each (Stands (s ∷ seen) (distinct_after (s ∷ seen) ss)) (Stands seen (s ∷ distinct_after (s ∷ seen) ss))
          (λ t h. elim (or_cases (holds_text t (distinct_after (s ∷ seen) ss)) (same_text s t || holds_text t seen) h) [
            | inl a ↦ or_left (holds_text t (s ∷ distinct_after (s ∷ seen) ss)) (holds_text t seen) (or_right (same_text s t) (holds_text t (distinct_after (s ∷ seen) ss)) a)
            | inr b ↦ elim (or_cases (same_text s t) (holds_text t seen) b) [
              | inl c ↦ or_left (holds_text t (s ∷ distinct_after (s ∷ seen) ss)) (holds_text t seen) (or_left (same_text s t) (holds_text t (distinct_after (s ∷ seen) ss)) c)
              | inr d ↦ or_right (holds_text t (s ∷ distinct_after (s ∷ seen) ss)) (holds_text t seen) d
            ]
          ]) ss ih,
    )

-- ---- texts to places and back

module _ (ss : List Text) where
  abbrev pub Table : List Text
  Table = distinct_after [] ss

  abbrev AtPlace : Text → Type 0
  AtPlace s = (text_at Table (text_place Table s) ≡ s) × (text_place Table s < length Table)

  at_places : (ts : List Text) → AllByRecursion (Stands [] Table) ts → AllByRecursion AtPlace ts
  at_places [] h = tt
  at_places (t ∷ ts) h =
      let held : holds_text t Table ≡ true = elim (or_cases (holds_text t Table) false h.0) [ inl a ↦ a | inr b ↦ absurd cc ] in
      (text_back Table t held, at_places ts h.1)

  places_in_range : (ts : List Text) → AllByRecursion AtPlace ts → AllByRecursion (λ n. n < length Table) (map (text_place Table) ts)
  places_in_range [] h = tt
  places_in_range (t ∷ ts) h = (h.0.1, places_in_range ts h.1)

  texts_again : (ts : List Text) → AllByRecursion AtPlace ts → map (text_at Table) (map (text_place Table) ts) ≡ ts
  texts_again [] h = refl
  texts_again (t ∷ ts) h = ap (λ x. x ∷ map (text_at Table) (map (text_place Table) ts)) h.0.0 ∙ ap (λ (l : List Text). t ∷ l) (texts_again ts h.1)

  first_parts : (ts : List Text) → AllByRecursion AtPlace ts → AllByRecursion (λ s. text_at Table (text_place Table s) ≡ s) ts
  first_parts [] h = tt
  first_parts (t ∷ ts) h = (h.0.0, first_parts ts h.1)

  pub table_new : IsNew [] Table
  table_new = distinct_new [] ss

  used_in_order : first_after [] (map (text_place Table) ss) ≡ from_to 0 (length Table)
  used_in_order =
      let here = at_places ss (all_stand [] ss) in
      let uses = map (text_place Table) ss in
      let range = places_in_range ss here in
      let f : Table ≡ map (text_at Table) (first_after [] uses) = ap (distinct_after []) (sym (texts_again ss here)) ∙ firsts (text_at Table) (λ n. n < length Table) (at_apart Table table_new) [] uses tt range in
      let g : map (text_place Table) Table ≡ first_after [] uses = ap (map (text_place Table)) f ∙ unmap Table table_new (first_after [] uses) (firsts_of (λ n. n < length Table) [] uses range) in
      let i : map (text_place Table) Table ≡ from_to 0 (length Table) = ap (map (text_place Table)) (sym (texts_in_order Table)) ∙ unmap Table table_new (from_to 0 (length Table)) (map_weaker (λ i. i < 0 + length Table) (λ n. n < length Table) (λ i l. omega arith) (from_to 0 (length Table)) (below 0 (length Table))) in
      sym g ∙ i

pub table_is : (names : List Text) (f : Facts ℕ) → IsInOrder names f → table_of (facts_in names f) ≡ names
table_is names f h = ap (distinct_after []) (names_of-by (text_at names) f) ∙ table_back names (are_new [] names h.distinct) (names_of f) h.used

-- the encoding of a unit's facts is its bytes
pub by_places : (names : List Text) (f : Facts ℕ) → IsInOrder names f → encoding (facts_in names f) ≡ unit_bytes names f
by_places names f h =
    let new = are_new [] names h.distinct in
    let table : table_of (facts_in names f) ≡ names = ap (distinct_after []) (names_of-by (text_at names) f) ∙ table_back names new (names_of f) h.used in
    let facts : facts_by (text_place names) (facts_in names f) ≡ f = facts_back (text_at names) (text_place names) f (places_back names new (names_of f) (in_range names new (names_of f) h.used)) in
    ap (λ t. unit_bytes t (facts_by (text_place t) (facts_in names f))) table ∙ ap (unit_bytes names) facts

pub facts_again : (names : List Text) (f : Facts ℕ) → IsInOrder names f → facts_by (text_place names) (facts_in names f) ≡ f
facts_again names f h =
    let new = are_new [] names h.distinct in
    facts_back (text_at names) (text_place names) f (places_back names new (names_of f) (in_range names new (names_of f) h.used))

-- facts by the places of their names are in order, and stand for those facts
pub placed_facts : (f : Facts Text) → IsInOrder (table_of f) (facts_by (text_place (table_of f)) f) × (facts_in (table_of f) (facts_by (text_place (table_of f)) f) ≡ f)
placed_facts f =
    let ss = names_of f in
    let here = at_places ss ss (all_stand [] ss) in (
      record {
        used = ap (first_after []) (names_of-by (text_place (table_of f)) f) ∙ used_in_order ss;
        distinct = new_are [] (table_of f) (table_new ss);
      },
      facts_back (text_place (table_of f)) (text_at (table_of f)) f (first_parts ss ss here),
    )

pub text_place_le : (ss : List Text) (s : Text) → text_place ss s ≤ length ss
text_place_le [] s = omega arith
text_place_le (r ∷ ss) s = go (same_text r s) (text_place_le ss s)
  where
    go : (b : Bool) → text_place ss s ≤ length ss → placed b (text_place ss s) ≤ suc (length ss)
    go true h = omega arith
    go false h = omega arith
