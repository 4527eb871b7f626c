-- The new table of names.
use Rattle.std.proofs.Common.{◌≡◌, ℕ, suc, ◌<◌, List, [], ◌∷◌, ◌++◌, map, length, Bool, true, false, ◌||◌, if◌then◌else◌, eqb, refl, sym, ap, subst, ◌∙◌, append_assoc, eqb-true, eq-eqb}
use Rattle.std.specs.List.{list_any, AllByRecursion}
use Rattle.std.proofs.lemmas.List.{append-nil, map-append}
use Rattle.pl_atoms.specs.Names.{same_text, with_texts, AreDistinct}
use Rattle.pl_atoms.proofs.Texts.{same_text-is, same_text-itself}
use Rattle.pl_atoms.proofs.Numbers.{number-is}
use Rattle.pl_terms.specs.Occurrence.{place_of}
use Rattle.unit_model.specs.Encoding.{text_at, distinct_after, holds_text}
use Rattle.unit_format.proofs.Places.{IsNew, new_are}
use Rattle.unit_order.specs.Numbering.{number_in}
use Rattle.unit_order.proofs.Order.{AreFresh, IsNoted}

abbrev Text : Type 0
Text = List ℕ

-- texts that are fresh are put last, each
abbrev FreshTexts : List Text → List Text → Type 0
FreshTexts seen [] = Unit {0}
FreshTexts seen (s ∷ ss) = (list_any (same_text s) seen ≡ false) × FreshTexts (seen ++ s ∷ []) ss

all_put : (seen ss : List Text) → FreshTexts seen ss → with_texts seen ss ≡ seen ++ ss
all_put seen [] h = sym (append-nil seen)
all_put seen (s ∷ ss) h =
    ap (λ b. with_texts (if b then seen else seen ++ s ∷ []) ss) h.0 ∙ all_put (seen ++ s ∷ []) ss h.1 ∙ append_assoc seen (s ∷ []) ss

-- and are new in the order of use
same-swap : (s t : Text) → same_text s t ≡ same_text t s
same-swap s t = go (same_text s t) refl (same_text t s) refl
  where
    go : (a : Bool) → same_text s t ≡ a → (b : Bool) → same_text t s ≡ b → a ≡ b
    go true e true f = refl
    go false e false f = refl
    go true e false f = sym (subst (λ x. same_text x s ≡ true) (same_text-is s t e) (same_text-itself s)) ∙ f
    go false e true f = sym e ∙ subst (λ x. same_text x t ≡ true) (same_text-is t s f) (same_text-itself t)

any-last : (p : Text → Bool) (names : List Text) (s : Text) → list_any p (names ++ s ∷ []) ≡ (p s || list_any p names)
any-last p [] s = refl
any-last p (x ∷ names) s = ap (λ b. p x || b) (any-last p names s) ∙ swap (p x) (p s) (list_any p names)
  where
    swap : (a b c : Bool) → (a || (b || c)) ≡ (b || (a || c))
    swap true true c = refl
    swap true false c = refl
    swap false b c = refl

abbrev Same : List Text → List Text → Type 0
Same seen names = (t : Text) → holds_text t seen ≡ list_any (same_text t) names

same_more : (seen names : List Text) (s : Text) → Same seen names → Same (s ∷ seen) (names ++ s ∷ [])
same_more seen names s h t = ap (λ b. b || holds_text t seen) (same-swap s t) ∙ ap (λ b. same_text t s || b) (h t) ∙ sym (any-last (same_text t) names s)

are_new : (seen names ss : List Text) → Same seen names → FreshTexts names ss → IsNew seen ss
are_new seen names [] same h = tt
are_new seen names (s ∷ ss) same h = (same s ∙ h.0, are_new (s ∷ seen) (names ++ s ∷ []) ss (same_more seen names s same) h.1)

module _ (names : List Text) (distinct : AreDistinct names) where
  abbrev InRange : ℕ → Type 0
  InRange n = n < length names

  apart : (x y : ℕ) → InRange x → InRange y → same_text (text_at names x) (text_at names y) ≡ eqb x y
  apart x y p q = go (eqb x y) refl (same_text (text_at names x) (text_at names y)) refl
    where
      go : (b : Bool) → eqb x y ≡ b → (t : Bool) → same_text (text_at names x) (text_at names y) ≡ t → t ≡ b
      go true e true f = refl
      go false e false f = refl
      go true e false f = sym f ∙ ap (λ z. same_text (text_at names x) (text_at names z)) (sym (eqb-true x y e)) ∙ same_text-itself (text_at names x)
      go false e true f = sym (eq-eqb x y (number-is names distinct x y p q (same_text-is (text_at names x) (text_at names y) f))) ∙ e

  any_text : (x : ℕ) (seen : List ℕ) → InRange x → AllByRecursion InRange seen → list_any (same_text (text_at names x)) (map (text_at names) seen) ≡ list_any (eqb x) seen
  any_text x [] p h = refl
  any_text x (y ∷ seen) p h = ap (λ b. b || list_any (same_text (text_at names x)) (map (text_at names) seen)) (apart x y p h.0) ∙ ap (λ b. eqb x y || b) (any_text x seen p h.1)

  AllBy-last : (seen : List ℕ) (x : ℕ) → AllByRecursion InRange seen → InRange x → AllByRecursion InRange (seen ++ x ∷ [])
  AllBy-last [] x h p = (p, tt)
  AllBy-last (y ∷ seen) x h p = (h.0, AllBy-last seen x h.1 p)

  texts_fresh : (seen ns : List ℕ) → AllByRecursion InRange seen → AllByRecursion InRange ns → AreFresh seen ns → FreshTexts (map (text_at names) seen) (map (text_at names) ns)
  texts_fresh seen [] h k f = tt
  texts_fresh seen (n ∷ ns) h k f = (
    any_text n seen k.0 h ∙ f.0,
    subst (λ l. FreshTexts l (map (text_at names) ns)) (map-append (text_at names) seen (n ∷ [])) (texts_fresh (seen ++ n ∷ []) ns (AllBy-last seen n h k.0) k.1 f.1),
  )

  -- the table has the texts of the numbers, in order
  pub table_texts : (ns : List ℕ) → AllByRecursion InRange ns → AreFresh [] ns → with_texts [] (map (text_at names) ns) ≡ map (text_at names) ns
  table_texts ns h f = all_put [] (map (text_at names) ns) (texts_fresh [] ns tt h f)

  pub table_distinct : (ns : List ℕ) → AllByRecursion InRange ns → AreFresh [] ns → distinct_after [] (map (text_at names) ns) ≡ map (text_at names) ns
  table_distinct ns h f = new_are [] (map (text_at names) ns) (are_new [] [] (map (text_at names) ns) (λ t. refl) (texts_fresh [] ns tt h f))

-- a number's text is at its new number
pub text_again : (names : List Text) (used : List ℕ) (n : ℕ) → IsNoted used n → text_at (map (text_at names) used) (number_in used n) ≡ text_at names n
text_again names [] n h = absurd cc
text_again names (m ∷ used) n h = go (eqb n m) refl h (text_again names used n)
  where
    go : (b : Bool) → eqb n m ≡ b → (b || list_any (eqb n) used) ≡ true → (IsNoted used n → text_at (map (text_at names) used) (number_in used n) ≡ text_at names n)
        → text_at (map (text_at names) (m ∷ used)) (if b then 0 else suc (place_of n used)) ≡ text_at names n
    go true e k ih = ap (text_at names) (sym (eqb-true n m e))
    go false e k ih = ih k
