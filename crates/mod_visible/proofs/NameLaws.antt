-- Where texts stand in a table of names.
use Rattle.std.proofs.Common.{◌≡◌, ℕ, zero, suc, ◌+◌, ◌<◌, ◌≤◌, List, [], ◌∷◌, length, slice_get, get_or, Bool, true, false, cond, not, refl, sym, ap, ◌∙◌, arith, Option, Some, None, lt-ltb}
use Rattle.std.specs.Option.{option_map}
use Rattle.std.specs.Prelude.{is_some, IfSome, IfNone}
use Rattle.std.specs.List.{list_any, position_or_len}
use Rattle.std.proofs.lemmas.List.Folds.{list_any_at}
use Rattle.std.proofs.lemmas.List.Quantifiers.{position-Some}
use Rattle.std.proofs.lemmas.Option.{slice_get_within, get_or_from_slice_get, slice_get-get_or}
use Rattle.pl_atoms.specs.Names.{same_text, text_place}
use Rattle.pl_atoms.proofs.Texts.{same_text-itself}
use Rattle.unit_model.specs.Directives.{Text}
use Rattle.mod_visible.specs.declared.cause.Sort.{Sort}
use Rattle.mod_visible.specs.declared.keys.Key.{Key}
use Rattle.mod_visible.specs.Looking.{IsKeyIn, IsKeyFor}
use Rattle.mod_visible.proofs.Members.{of-any}

-- the first place that passes is not behind another one
first-low : {A : Type 0} (p : A → Bool) (xs : List A) (n : ℕ) (d : A) → n < length xs → p (get_or xs n d) ≡ true → position_or_len p xs ≤ n
first-low p [] n d lt h = absurd (omega arith)
first-low p (x ∷ xs) zero d lt h = let e : position_or_len p (x ∷ xs) ≡ 0 = ap (λ b. cond (not b) (1 + position_or_len p xs) 0) h in omega arith
first-low {A} p (x ∷ xs) (suc n) d lt h = go (p x) (first-low p xs n d (omega arith) h)
  where
    go : (b : Bool) → position_or_len p xs ≤ n → cond (not b) (1 + position_or_len p xs) 0 ≤ suc n
    go true ih = omega arith
    go false ih = omega arith

placed_at : (texts : List Text) (t : Text) (n : ℕ) → n < length texts → same_text t (get_or texts n []) ≡ true → (k : ℕ) × (text_place texts t ≡ Some k)
placed_at texts t n lt h =
    let k : ℕ = position_or_len (same_text t) texts in
    let low : k ≤ n = first-low (same_text t) texts n [] lt h in
    (k, ap (λ b. cond b (Some k) None) (lt-ltb k (length texts) (omega arith)))

-- a text that stands somewhere has a place
pub no_place : (texts : List Text) (t : Text) (n : ℕ) → text_place texts t ≡ None → slice_get texts n ≡ Some t → ⊥
no_place texts t n none at =
    let here = get_or_from_slice_get texts n t [] at in
    let p = placed_at texts t n (slice_get_within texts n t at) (ap (same_text t) here ∙ same_text-itself t) in
    let wrong : None ≡ Some p.0 = sym none ∙ p.1 in
    cc

pub is_placed : (texts : List Text) (t : Text) → is_some (text_place texts t) ≡ list_any (same_text t) texts
is_placed texts t = go (text_place texts t) refl (list_any (same_text t) texts) refl
  where
    go : (o : Option ℕ) → text_place texts t ≡ o → (b : Bool) → list_any (same_text t) texts ≡ b → is_some o ≡ b
    go (Some k) e true f = refl
    go None e false f = refl
    go (Some k) e false f =
        let h = position-Some (same_text t) texts k [] e in
        let g : false ≡ true = sym f ∙ list_any_at (same_text t) texts k [] h.0 h.1 in
        cc
    go None e true f =
        let a = of-any (same_text t) texts f in
        let i = a.1 in
        let same : get_or texts i.0 [] ≡ a.0 = get_or_from_slice_get texts i.0 a.0 [] (slice_get-get_or texts i.0 a.0 i.1 ∙ ap Some i.2) in
        let p = placed_at texts t i.0 i.1 (ap (same_text t) same ∙ a.2) in
        let wrong : None ≡ Some p.0 = sym e ∙ p.1 in
        cc

pub is_some-mapped : {A B : Type 0} (f : A → B) (o : Option A) → is_some o ≡ is_some (option_map f o)
is_some-mapped f None = refl
is_some-mapped f (Some x) = refl

-- ---- keys

module _ (names : List Text) (s : Sort) (m i : Text) (a : ℕ) (home : ℕ) (at : slice_get names home ≡ Some m) (o : Option Key) where
  pub some_key : IfSome o (IsKeyIn names s home i a) → IfSome o (IsKeyFor names s m i a)
  some_key h = go o h
    where
      go : (p : Option Key) → IfSome p (IsKeyIn names s home i a) → IfSome p (IsKeyFor names s m i a)
      go None k = tt
      go (Some x) k = record { home = home; of = at; key = k }

  pub none_key : IfNone o ((n : ℕ) → slice_get names n ≡ Some i → ⊥) → IfNone o ((k : Key) → IsKeyFor names s m i a k → ⊥)
  none_key h = go o h
    where
      go : (p : Option Key) → IfNone p ((n : ℕ) → slice_get names n ≡ Some i → ⊥) → IfNone p ((k : Key) → IsKeyFor names s m i a k → ⊥)
      go None none = λ k for. none for.key.name for.key.called
      go (Some x) none = tt
