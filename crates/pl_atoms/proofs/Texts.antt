-- Lists of texts, and what they are of the keys of a set.
use Rattle.std.proofs.Common.{◌≡◌, ℕ, ◌+◌, Bool, true, false, cond, nat_lt, List, [], ◌∷◌, ◌++◌, map, Vec, Global, length, slice_get, get_or, None, Some, refl, sym, ap, ◌∙◌, if◌then◌else◌, ◌||◌, not, position}
use Rattle.std.specs.List.{list_any, position_or_len, IsDistinct, AllByRecursion}
use Rattle.std.specs.Option.{option_map}
use Rattle.std.proofs.lemmas.List.{length-map, map-append}
use Rattle.std.proofs.lemmas.List.Folds.{list_any_at}
use Rattle.std.proofs.lemmas.List.Quantifiers.{position-Some}
use Rattle.std.proofs.lemmas.Option.{slice_get-map, slice_get-get_or}
use Rattle.std.proofs.lemmas.Slice.Eq.{bytes_eq-Decides}
use Rattle.indexmap.specs.IndexSet.{insert_key}
use Rattle.pl_atoms.specs.Names.{same_text, with_text, text_place}

module _ {X Y : Type 0} (f : X → Y) (p : Y → Bool) where
  pub list_any-map : (xs : List X) → list_any p (map f xs) ≡ list_any (λ x. p (f x)) xs
  list_any-map [] = refl
  list_any-map (x ∷ xs) = ap (λ b. p (f x) || b) (list_any-map xs)

  position_or_len-map : (xs : List X) → position_or_len p (map f xs) ≡ position_or_len (λ x. p (f x)) xs
  position_or_len-map [] = refl
  position_or_len-map (x ∷ xs) = ap (λ n. cond (not (p (f x))) (1 + n) 0) (position_or_len-map xs)

  pub position-map : (xs : List X) → position p (map f xs) ≡ position (λ x. p (f x)) xs
  position-map xs =
      let e = position_or_len-map xs in
      let l = length-map xs f in
      ap (λ n. cond (nat_lt n (length (map f xs))) (Some n) None) e
      ∙ ap (λ n. cond (nat_lt (position_or_len (λ x. p (f x)) xs) n) (Some (position_or_len (λ x. p (f x)) xs)) None) l

module _ {X Y : Type 0} (f : X → Y) (e : Y → Y → Bool) where
  AllByRecursion-map : (P : Y → Type 0) (xs : List X) → AllByRecursion (λ x. P (f x)) xs → AllByRecursion P (map f xs)
  AllByRecursion-map P [] h = tt
  AllByRecursion-map P (x ∷ xs) h = (h.0, AllByRecursion-map P xs h.1)

  pub IsDistinct-map : (xs : List X) → IsDistinct (λ x y. e (f x) (f y)) xs → IsDistinct e (map f xs)
  unfolding IsDistinct
  IsDistinct-map [] h = tt
  IsDistinct-map (x ∷ xs) h = (AllByRecursion-map (λ y. e (f x) y ≡ false) xs h.0, IsDistinct-map xs h.1)

-- one text is the same as another exactly where they are equal
pub same_text-is : (s t : List ℕ) → same_text s t ≡ true → s ≡ t
same_text-is s t = (bytes_eq-Decides s t).0

pub same_text-itself : (s : List ℕ) → same_text s s ≡ true
same_text-itself s = (bytes_eq-Decides s s).1 refl

-- a text that has a number stands there, and is not put in again
module _ (texts : List (List ℕ)) (t : List ℕ) (n : ℕ) (found : text_place texts t ≡ Some n) where
  pub slice_get-place : slice_get texts n ≡ Some t
  slice_get-place =
      let h = position-Some (same_text t) texts n [] found in
      slice_get-get_or texts n [] h.0 ∙ ap Some (sym (same_text-is t (get_or texts n []) h.1))

  pub with_text-known : with_text texts t ≡ texts
  with_text-known =
      let h = position-Some (same_text t) texts n [] found in
      ap (λ b. if b then texts else texts ++ t ∷ []) (list_any_at (same_text t) texts n [] h.0 h.1)

-- a key of a set put in is its text put in
abbrev pub Key : Type 0
Key = Vec ℕ Global

abbrev pub text_in : Key → List ℕ
text_in key = key.items

pushed : (b : Bool) (keys : List Key) (key : Key) → map text_in (if b then keys else keys ++ key ∷ []) ≡ (if b then map text_in keys else map text_in keys ++ key.items ∷ [])
pushed true keys key = refl
pushed false keys key = map-append text_in keys (key ∷ [])

pub map-insert_key : (keys : List Key) (key : Key) → map text_in (insert_key (λ k l. same_text k.items l.items) keys key) ≡ with_text (map text_in keys) key.items
map-insert_key keys key =
    pushed (list_any (λ k. same_text key.items k.items) keys) keys key
    ∙ ap (λ b. if b then map text_in keys else map text_in keys ++ key.items ∷ []) (sym (list_any-map text_in (same_text key.items) keys))

-- where a key that is the same is found, its text is
pub slice_get-stored : (keys : List Key) (n : ℕ) (key stored : Key) → slice_get keys n ≡ Some stored → same_text key.items stored.items ≡ true → slice_get (map text_in keys) n ≡ Some key.items
slice_get-stored keys n key stored at same =
    slice_get-map text_in keys n ∙ ap (option_map text_in) at ∙ ap Some (sym (same_text-is key.items stored.items same))
