-- Numbers of texts: where a list grows, and in another list.
use Rattle.std.proofs.Common.{◌≡◌, ℕ, zero, suc, ◌+◌, ◌<◌, ◌≤◌, Bool, true, false, List, [], ◌∷◌, ◌++◌, map, length, take, drop, slice_get, get_or, None, Some, refl, sym, ap, subst, ◌∙◌, if◌then◌else◌, arith}
use Rattle.std.specs.List.{list_any}
use Rattle.std.proofs.Math.Seq.{take-append_seam, take-length}
use Rattle.std.proofs.lemmas.Bool.{false≢true}
use Rattle.std.proofs.lemmas.List.{length-map, length-take, take-append-drop, take-take, take_more, get_or-take, get_or-map, map-append}
use Rattle.std.proofs.lemmas.List.Sums.{fold_push}
use Rattle.std.proofs.lemmas.Map.Keys.{apart_from_distinct}
use Rattle.std.proofs.lemmas.Option.{slice_get_within, get_or_from_slice_get, same_Some}
use Rattle.pl_atoms.specs.Names.{same_text, with_text, with_texts, AreDistinct, IsFront, Remaps}
use Rattle.pl_atoms.proofs.Texts.{same_text-itself}

-- two numbers of a table are equal exactly where their texts are
module _ (texts : List (List ℕ)) (distinct : AreDistinct texts) where
  apart : (m n : ℕ) → m < n → n < length texts → get_or texts m [] ≡ get_or texts n [] → ⊥
  apart m n lt within same =
      let e : same_text (get_or texts m []) (get_or texts n []) ≡ false = apart_from_distinct same_text texts m n [] distinct lt within in
      let t : same_text (get_or texts m []) (get_or texts n []) ≡ true = ap (same_text (get_or texts m [])) (sym same) ∙ same_text-itself (get_or texts m []) in
      false≢true (sym e ∙ t)

  pub number-is : (m n : ℕ) → m < length texts → n < length texts → get_or texts m [] ≡ get_or texts n [] → m ≡ n
  number-is m n hm hn same =
      let left : m < n → ⊥ = λ h. apart m n h hn same in
      let right : n < m → ⊥ = λ h. apart n m h hm (sym same) in
      omega arith

-- a list is a front of itself, of itself with more, and of what a front of it is a front of
pub IsFront-itself : (xs : List (List ℕ)) → IsFront xs xs
IsFront-itself xs = take-length xs

pub IsFront-with_text : (xs : List (List ℕ)) (t : List ℕ) → IsFront xs (with_text xs t)
IsFront-with_text xs t = by (list_any (same_text t) xs)
  where
    by : (b : Bool) → IsFront xs (if b then xs else xs ++ t ∷ [])
    by true = take-length xs
    by false = take-append_seam xs (t ∷ [])

pub slice_get-front : (xs ys : List (List ℕ)) → IsFront xs ys → (n : ℕ) (t : List ℕ) → slice_get xs n ≡ Some t → slice_get ys n ≡ Some t
slice_get-front xs ys front n t at = ap (λ l. slice_get l n) whole ∙ more xs n at
  where
    whole : ys ≡ xs ++ drop (length xs) ys
    whole = sym (take-append-drop (length xs) ys) ∙ ap (λ l. l ++ drop (length xs) ys) front

    more : (l : List (List ℕ)) (k : ℕ) → slice_get l k ≡ Some t → slice_get (l ++ drop (length xs) ys) k ≡ Some t
    more [] k h = absurd (cc)
    more (x ∷ l) zero h = h
    more (x ∷ l) (suc k) h = more l k h

pub length-front : (xs ys : List (List ℕ)) → IsFront xs ys → length xs ≤ length ys
length-front xs ys front = omega (arith, length-take (length xs) ys, ap length front)

pub get_or-front : (xs ys : List (List ℕ)) → IsFront xs ys → (n : ℕ) → n < length xs → get_or ys n [] ≡ get_or xs n []
get_or-front xs ys front n h = sym (get_or-take (length xs) ys n [] h) ∙ ap (λ l. get_or l n []) front

pub IsFront-trans : (xs ys zs : List (List ℕ)) → IsFront xs ys → IsFront ys zs → IsFront xs zs
IsFront-trans xs ys zs front next = sym (take-take (length xs) (length ys) zs (length-front xs ys front)) ∙ ap (take (length xs)) next ∙ front

-- numbers taken into another list
pub length-Remaps : (from into : List (List ℕ)) (numbers : List ℕ) → Remaps from into numbers → length numbers ≡ length from
length-Remaps from into numbers e = sym (length-map numbers (slice_get into)) ∙ ap length e ∙ length-map from Some

pub slice_get-Remaps : (from into : List (List ℕ)) (numbers : List ℕ) → Remaps from into numbers → (n : ℕ) → n < length from → slice_get into (get_or numbers n 0) ≡ Some (get_or from n [])
slice_get-Remaps from into numbers e n h =
    let within : n < length numbers = omega (arith, length-Remaps from into numbers e) in
    sym (get_or-map (slice_get into) numbers n 0 None within) ∙ ap (λ l. get_or l n None) e ∙ get_or-map Some from n [] None h

pub Remaps-front : (from old new : List (List ℕ)) (numbers : List ℕ) → IsFront old new → Remaps from old numbers → Remaps from new numbers
Remaps-front [] old new [] front e = refl
Remaps-front [] old new (n ∷ ns) front e = absurd (cc)
Remaps-front (t ∷ ts) old new [] front e = absurd (cc)
Remaps-front (t ∷ ts) old new (n ∷ ns) front e =
    let here : slice_get old n ≡ Some t = cc in
    let rest : Remaps ts old ns = cc in
    let now = slice_get-front old new front n t here in
    let others = Remaps-front ts old new ns front rest in
    cc

pub Remaps-push : (from into : List (List ℕ)) (numbers : List ℕ) (t : List ℕ) (n : ℕ) → Remaps from into numbers → slice_get into n ≡ Some t → Remaps (from ++ t ∷ []) into (numbers ++ n ∷ [])
Remaps-push from into numbers t n e at =
    map-append (slice_get into) numbers (n ∷ [])
    ∙ ap (λ l. l ++ slice_get into n ∷ []) e
    ∙ ap (λ o. map Some from ++ o ∷ []) at
    ∙ sym (map-append Some from (t ∷ []))

-- equal exactly where their texts are
module _ (first second into : List (List ℕ)) (ms ns : List ℕ) (distinct : AreDistinct into) (one : Remaps first into ms) (two : Remaps second into ns) (m n : ℕ) (hm : m < length first) (hn : n < length second) where
  pub remapped-texts : get_or ms m 0 ≡ get_or ns n 0 → get_or first m [] ≡ get_or second n []
  remapped-texts e = same_Some _ _ (sym (slice_get-Remaps first into ms one m hm) ∙ ap (slice_get into) e ∙ slice_get-Remaps second into ns two n hn)

  pub remapped-numbers : get_or first m [] ≡ get_or second n [] → get_or ms m 0 ≡ get_or ns n 0
  remapped-numbers e =
      let a = slice_get-Remaps first into ms one m hm in
      let b = slice_get-Remaps second into ns two n hn in
      number-is into distinct _ _ (slice_get_within into _ _ a) (slice_get_within into _ _ b)
      (get_or_from_slice_get into _ _ [] a ∙ e ∙ sym (get_or_from_slice_get into _ _ [] b))

pub with_texts-push : (texts ts : List (List ℕ)) (t : List ℕ) → with_texts texts (ts ++ t ∷ []) ≡ with_text (with_texts texts ts) t
with_texts-push texts ts t = fold_push with_text texts ts t

-- one more text taken into a list
module _ (from : List (List ℕ)) (place : ℕ) (within : place < length from) (t : List ℕ) (e : t ≡ get_or from place []) where
  more : take (place + 1) from ≡ take place from ++ t ∷ []
  more = take_more from place [] within ∙ ap (λ x. take place from ++ x ∷ []) (sym e)

  pub with_texts-more : (start old new : List (List ℕ)) → old ≡ with_texts start (take place from) → new ≡ with_text old t → new ≡ with_texts start (take (place + 1) from)
  with_texts-more start old new was step =
      step ∙ ap (λ l. with_text l t) was ∙ sym (with_texts-push start (take place from) t) ∙ ap (with_texts start) (sym more)

  pub Remaps-more : (old new : List (List ℕ)) (numbers : List ℕ) (n : ℕ) → IsFront old new → Remaps (take place from) old numbers → slice_get new n ≡ Some t → Remaps (take (place + 1) from) new (numbers ++ n ∷ [])
  Remaps-more old new numbers n front was at =
      subst (λ l. Remaps l new (numbers ++ n ∷ [])) (sym more) (Remaps-push (take place from) new numbers t n (Remaps-front (take place from) old new numbers front was) at)

pub IsFront-grown : (old new : List (List ℕ)) (t : List ℕ) → new ≡ with_text old t → IsFront old new
IsFront-grown old new t step = subst (IsFront old) (sym step) (IsFront-with_text old t)
