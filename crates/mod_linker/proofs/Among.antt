-- Texts that are among names, and texts that aren't.
use Rattle.std.proofs.Common.{◌≡◌, ℕ, zero, suc, ◌<◌, List, [], ◌∷◌, length, get_or, slice_get, Bool, true, false, ◌&&◌, refl, sym, ap, ◌∙◌, arith, Some}
use Rattle.std.specs.List.{AllByRecursion}
use Rattle.std.proofs.lemmas.List.Folds.{list_any_at}
use Rattle.std.proofs.lemmas.Option.{slice_get_within, get_or_from_slice_get}
use Rattle.pl_atoms.specs.Names.{same_text, Remaps}
use Rattle.pl_atoms.proofs.Texts.{same_text-is, same_text-itself}
use Rattle.pl_atoms.proofs.Numbers.{slice_get-Remaps}
use Rattle.unit_model.specs.Directives.{Text}
use Rattle.unit_model.specs.Encoding.{text_at}
use Rattle.mod_linker.specs.Linking.{is_among}

pub among-at : (names : List Text) (n : ℕ) → n < length names → is_among names (text_at names n) ≡ true
among-at names n lt = list_any_at (same_text (text_at names n)) names n [] lt (same_text-itself (text_at names n))

pub among-number : (names : List Text) (n : ℕ) (t : Text) → slice_get names n ≡ Some t → is_among names t ≡ true
among-number names n t e = list_any_at (same_text t) names n [] (slice_get_within names n t e) (ap (same_text t) (get_or_from_slice_get names n t [] e) ∙ same_text-itself t)

pub not-at : (names : List Text) (t : Text) (n : ℕ) → is_among names t ≡ false → n < length names → same_text t (text_at names n) ≡ false
not-at names t n none lt = go (same_text t (text_at names n)) refl
  where
    go : (b : Bool) → same_text t (text_at names n) ≡ b → b ≡ false
    go true e = absurd (let h = list_any_at (same_text t) names n [] lt e in cc)
    go false e = refl

pub not-same : (names : List Text) (t u : Text) → is_among names t ≡ false → is_among names u ≡ true → same_text t u ≡ false
not-same names t u none some = go (same_text t u) refl
  where
    go : (b : Bool) → same_text t u ≡ b → b ≡ false
    go true e = absurd (let h : is_among names t ≡ true = ap (is_among names) (same_text-is t u e) ∙ some in cc)
    go false e = refl

pub and_false : (b : Bool) → (b && false) ≡ false
and_false true = refl
and_false false = refl

-- of two texts that aren't both among names, not both are those of numbers
pub not-both : (names : List Text) (m n : Text) (k j : ℕ) (rest : Bool) → (is_among names m && is_among names n) ≡ false → k < length names → j < length names → (same_text m (text_at names k) && (same_text n (text_at names j) && rest)) ≡ false
not-both names m n k j rest none hk hj = go (is_among names m) refl none
  where
    go : (b : Bool) → is_among names m ≡ b → (b && is_among names n) ≡ false → (same_text m (text_at names k) && (same_text n (text_at names j) && rest)) ≡ false
    go true e f = ap (λ b. same_text m (text_at names k) && (b && rest)) (not-at names n j f hj) ∙ and_false (same_text m (text_at names k))
    go false e f = ap (λ b. b && (same_text n (text_at names j) && rest)) (not-at names m k e hk)

-- ---- lists by their places

pub all-from : {A : Type 0} (P : A → Type 0) (xs : List A) → ((k : ℕ) (x : A) → k < length xs → x ≡ get_or xs k x → P x) → AllByRecursion P xs
all-from P [] h = tt
all-from P (x ∷ xs) h = (h 0 x (omega arith) refl, all-from P xs (λ k y lt e. h (suc k) y (omega arith) e))

pub any-default : {A : Type 0} (xs : List A) (k : ℕ) (d e : A) → k < length xs → get_or xs k d ≡ get_or xs k e
any-default [] k d e lt = absurd (omega arith)
any-default (x ∷ xs) zero d e lt = refl
any-default (x ∷ xs) (suc k) d e lt = any-default xs k d e (omega arith)

-- the names of a table that is taken into another are among its names
pub remapped-among : (from names : List Text) (numbers : List ℕ) → Remaps from names numbers → AllByRecursion (λ t. is_among names t ≡ true) from
remapped-among from names numbers e = all-from (λ t. is_among names t ≡ true) from (λ k t lt is.
    among-number names (get_or numbers k 0) t (slice_get-Remaps from names numbers e k lt ∙ ap Some (any-default from k [] t lt ∙ sym is)))
