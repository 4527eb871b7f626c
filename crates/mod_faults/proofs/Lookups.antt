-- What look-ups in tables and sets find.
use Rattle.std.proofs.Common.{◌≡◌, ℕ, suc, ◌+◌, ◌<◌, List, [], ◌∷◌, ◌++◌, length, Bool, true, false, not, cond, ◌||◌, ltb, ltb-true, ltb-false, lt-ltb, le-ltb, eqb, eqb-true, eq-eqb, refl, sym, ap, subst, ◌∙◌, arith, Option, Some, None}
use Rattle.std.specs.Prelude.{is_some, nat_lt, Result, Ok, Err, OnOk}
use Rattle.std.specs.List.{list_any, position_or_len}
use Rattle.std.specs.Option.{option_map}
use Rattle.std.proofs.lemmas.List.Folds.{list_any-append}
use Rattle.pl_atoms.specs.Names.{same_text, AreDistinct, text_place}
use Rattle.pl_atoms.specs.declared.names.NameId.{NameId}
use Rattle.pl_atoms.proofs.Texts.{same_text-is, same_text-itself}
use Rattle.pl_atoms.proofs.Numbers.{number-is}
use Rattle.indexmap.specs.IndexSet.{insert_key}
use Rattle.unit_model.specs.Directives.{Text}
use Rattle.unit_model.specs.Encoding.{text_at}

pub or_false : (b : Bool) → (b || false) ≡ b
or_false true = refl
or_false false = refl

pub or_true : (b : Bool) → (b || true) ≡ true
or_true true = refl
or_true false = refl

-- ---- a text in a table

less-suc : (n m : ℕ) (b : Bool) → ltb n m ≡ b → nat_lt (1 + n) (suc m) ≡ b
less-suc n m true e = let h : n < m = ltb-true n m e in lt-ltb (1 + n) (suc m) (omega arith)
less-suc n m false e = let h = ltb-false n m e in le-ltb (1 + n) (suc m) (omega arith)

module _ {A : Type 0} (p : A → Bool) where
  within_any : (xs : List A) → nat_lt (position_or_len p xs) (length xs) ≡ list_any p xs
  within_any [] = refl
  within_any (x ∷ xs) = go (p x) (within_any xs)
    where
      go : (b : Bool) → nat_lt (position_or_len p xs) (length xs) ≡ list_any p xs → nat_lt (cond (not b) (1 + position_or_len p xs) 0) (suc (length xs)) ≡ (b || list_any p xs)
      go true e = lt-ltb 0 (suc (length xs)) (omega arith)
      go false e = less-suc (position_or_len p xs) (length xs) (ltb (position_or_len p xs) (length xs)) refl ∙ e

some_if : (b : Bool) (n : ℕ) → is_some (cond b (Some n) None) ≡ b
some_if true n = refl
some_if false n = refl

same_some : {A B : Type 0} (f : A → B) (o : Option A) → is_some (option_map f o) ≡ is_some o
same_some f None = refl
same_some f (Some x) = refl

pub found_any : (texts : List Text) (t : Text) (o : Option NameId) → option_map (λ id. id.0) o ≡ text_place texts t → is_some o ≡ list_any (same_text t) texts
found_any texts t o e =
    sym (same_some (λ (id : NameId). id.0) o) ∙ ap is_some e
    ∙ some_if (nat_lt (position_or_len (same_text t) texts) (length texts)) (position_or_len (same_text t) texts)
    ∙ within_any (same_text t) texts

-- ---- one more key

-- a test by which equal keys are equal to the same keys
module _ {K : Type 0} (same : K → K → Bool) (along : (q p x : K) → same p x ≡ true → same q x ≡ same q p) where
  any_along : (q p : K) (keys : List K) → list_any (same p) keys ≡ true → same q p ≡ true → list_any (same q) keys ≡ true
  any_along q p [] e f = absurd cc
  any_along q p (k ∷ keys) e f = go (same p k) refl (λ h. any_along q p keys h f)
    where
      go : (b : Bool) → same p k ≡ b → (list_any (same p) keys ≡ true → list_any (same q) keys ≡ true) → (same q k || list_any (same q) keys) ≡ true
      go true h ih = ap (λ b. b || list_any (same q) keys) (along q p k h ∙ f)
      go false h ih = ap (λ b. same q k || b) (ih (sym (ap (λ b. b || list_any (same p) keys) h) ∙ e)) ∙ or_true (same q k)

  pub any_insert : (q p : K) (keys : List K) → list_any (same q) (insert_key same keys p) ≡ (list_any (same q) keys || same q p)
  any_insert q p keys = go (list_any (same p) keys) refl (same q p) refl
    where
      go : (b : Bool) → list_any (same p) keys ≡ b → (t : Bool) → same q p ≡ t → list_any (same q) (cond b keys (keys ++ p ∷ [])) ≡ (list_any (same q) keys || same q p)
      go false e t f = list_any-append (same q) keys (p ∷ []) ∙ ap (λ b. list_any (same q) keys || b) (or_false (same q p))
      go true e false f = sym (ap (λ b. list_any (same q) keys || b) f ∙ or_false (list_any (same q) keys))
      go true e true f = any_along q p keys e f ∙ sym (ap (λ b. list_any (same q) keys || b) f ∙ or_true (list_any (same q) keys))

-- ---- numbers and texts of a table without repetition

module _ (names : List Text) (distinct : AreDistinct names) where
  abbrev T : ℕ → Text
  T = text_at names

  pub same_number : (m n : ℕ) → m < length names → n < length names → same_text (T m) (T n) ≡ eqb m n
  same_number m n hm hn = go (eqb m n) refl (same_text (T m) (T n)) refl
    where
      go : (a : Bool) → eqb m n ≡ a → (b : Bool) → same_text (T m) (T n) ≡ b → b ≡ a
      go true e true f = refl
      go false e false f = refl
      go true e false f = absurd (let h : same_text (T m) (T n) ≡ true = subst (λ k. same_text (T m) (T k) ≡ true) (eqb-true m n e) (same_text-itself (T m)) in cc)
      go false e true f = absurd (let h : eqb m n ≡ true = eq-eqb m n (number-is names distinct m n hm hn (same_text-is (T m) (T n) f)) in cc)

-- ---- what follows where a function succeeds

pub on_ok2 : {X E A B C : Type 0} (r : Result X E) → (A → B → C) → OnOk r A → OnOk r B → OnOk r C
on_ok2 (Ok x) f a b = f a b
on_ok2 (Err e) f a b = tt

pub on_ok3 : {X E A B C D : Type 0} (r : Result X E) → (A → B → C → D) → OnOk r A → OnOk r B → OnOk r C → OnOk r D
on_ok3 (Ok x) f a b c = f a b c
on_ok3 (Err e) f a b c = tt
