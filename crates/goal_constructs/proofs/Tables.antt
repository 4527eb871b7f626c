-- Numbers of names in a table that grows.
use Rattle.std.proofs.Common.{◌≡◌, ◌∙◌, ℕ, zero, suc, ◌+◌, ◌<◌, ◌≤◌, Bool, true, false, nat_eq, List, [], ◌∷◌, ◌++◌, map, length, take, slice_get, get_or, Some, refl, sym, ap, subst, arith, eq-eqb, inl, inr}
use Rattle.std.proofs.lemmas.Bool.{eqb-true, false≢true, false_from_ne_true, cases_lt}
use Rattle.std.proofs.lemmas.List.{map-append, take_more, take_all, get_or_past}
use Rattle.std.proofs.lemmas.Option.{slice_get_within, get_or_from_slice_get}
use Rattle.pl_atoms.specs.declared.names.NameId.{NameId}
use Rattle.pl_atoms.specs.Names.{same_text, AreDistinct, IsFront}
use Rattle.pl_atoms.proofs.Numbers.{number-is, slice_get-front}
use Rattle.pl_atoms.proofs.Texts.{same_text-is, same_text-itself}
use Rattle.builtin_model.specs.Naming.{by_numbers}
use Rattle.pl_builtin_ends.proofs.Known.{number-known}
use Rattle.goal_constructs.specs.Numbers.{AreIn}
use Rattle.goal_constructs.specs.Constructs.{IsNumber}

-- the items of a list one by one, so many from a place on
abbrev pub spread : List NameId → NameId → ℕ → ℕ → List NameId
spread xs d zero i = []
spread xs d (suc k) i = get_or xs i d ∷ spread xs d k (suc i)

spread-behind : (x : NameId) (xs : List NameId) (d : NameId) (k i : ℕ) → spread (x ∷ xs) d k (suc i) ≡ spread xs d k i
spread-behind x xs d zero i = refl
spread-behind x xs d (suc k) i = ap (λ ys. get_or xs i d ∷ ys) (spread-behind x xs d k (suc i))

pub spread-all : (xs : List NameId) (d : NameId) → spread xs d (length xs) 0 ≡ xs
spread-all [] d = refl
spread-all (x ∷ xs) d = ap (λ ys. x ∷ ys) (spread-behind x xs d (length xs) 0 ∙ spread-all xs d)

-- ---- numbers of texts

pub AreIn-front : (old new : List (List ℕ)) → IsFront old new → (texts : List (List ℕ)) (ids : List NameId) → AreIn old texts ids → AreIn new texts ids
AreIn-front old new front [] [] e = refl
AreIn-front old new front [] (n ∷ ns) e = absurd (cc)
AreIn-front old new front (t ∷ ts) [] e = absurd (cc)
AreIn-front old new front (t ∷ ts) (n ∷ ns) e =
    let here : slice_get old n.0 ≡ Some t = cc in
    let rest : AreIn old ts ns = cc in
    ap (λ o. o ∷ map (λ id. slice_get new id.0) ns) (slice_get-front old new front n.0 t here) ∙ ap (λ l. Some t ∷ l) (AreIn-front old new front ts ns rest)

AreIn-push : (table texts : List (List ℕ)) (ids : List NameId) (t : List ℕ) (id : NameId) → AreIn table texts ids → slice_get table id.0 ≡ Some t → AreIn table (texts ++ t ∷ []) (ids ++ id ∷ [])
AreIn-push table texts ids t id e at =
    map-append (λ n. slice_get table n.0) ids (id ∷ [])
    ∙ (ap (λ l. l ++ slice_get table id.0 ∷ []) e ∙ (ap (λ o. map Some texts ++ o ∷ []) at ∙ sym (map-append Some texts (t ∷ []))))

pub AreIn-at : (table texts : List (List ℕ)) (ids : List NameId) (i : ℕ) (d : NameId) → AreIn table texts ids → i < length texts → slice_get table (get_or ids i d).0 ≡ Some (get_or texts i [])
AreIn-at table [] ids i d e h = absurd (omega arith)
AreIn-at table (t ∷ ts) [] i d e h = absurd (cc)
AreIn-at table (t ∷ ts) (n ∷ ns) zero d e h = cc
AreIn-at table (t ∷ ts) (n ∷ ns) (suc i) d e h = let rest : AreIn table ts ns = cc in AreIn-at table ts ns i d rest (omega arith)

module _ {X : Type 0} (f : X → List ℕ) (xs : List X) where
  -- one text more
  pub numbered-more : (i : ℕ) (d : X) (old table : List (List ℕ)) (ids new : List NameId) (id : NameId) → i < length xs → IsFront old table
      → AreIn old (map f (take i xs)) ids → slice_get table id.0 ≡ Some (f (get_or xs i d)) → new ≡ ids ++ id ∷ [] → AreIn table (map f (take (i + 1) xs)) new
  numbered-more i d old table ids new id h front e at is =
      let more : map f (take i xs) ++ f (get_or xs i d) ∷ [] ≡ map f (take (i + 1) xs) = sym (ap (map f) (take_more xs i d h) ∙ map-append f (take i xs) (get_or xs i d ∷ [])) in
      subst (λ ts. AreIn table ts new) more
      (subst (AreIn table (map f (take i xs) ++ f (get_or xs i d) ∷ [])) (sym is)
      (AreIn-push table (map f (take i xs)) ids (f (get_or xs i d)) id (AreIn-front old table front (map f (take i xs)) ids e) at))

  pub numbered-all : (i : ℕ) (table : List (List ℕ)) (ids : List NameId) → length xs ≤ i → AreIn table (map f (take i xs)) ids → AreIn table (map f xs) ids
  numbered-all i table ids h e = subst (λ ys. AreIn table (map f ys) ids) (take_all i xs h) e

-- a text that stands in a table has its place for a number
pub number-here : (table : List (List ℕ)) → AreDistinct table → (t : List ℕ) (id : NameId) → 0 < length t → slice_get table id.0 ≡ Some t → IsNumber (by_numbers table) t id
number-here table distinct t id some at = record {
  made = number-known table distinct t id.0 at;
  known = λ f. by f (nat_eq f id.0) refl;
}
  where
    within : id.0 < length table
    within = slice_get_within table id.0 t at

    here : get_or table id.0 [] ≡ t
    here = get_or_from_slice_get table id.0 t [] at

    same : (f : ℕ) → same_text (get_or table f []) t ≡ true → f ≡ id.0
    same f h = elim (cases_lt f (length table)) [
      | inl low ↦ number-is table distinct f id.0 low within (same_text-is (get_or table f []) t h ∙ sym here)
      | inr high ↦ absurd (let none : get_or table f [] ≡ [] = get_or_past table f [] high in let is : [] ≡ t = sym none ∙ same_text-is (get_or table f []) t h in omega (arith, ap length is))
    ]

    by : (f : ℕ) (b : Bool) → nat_eq f id.0 ≡ b → same_text (get_or table f []) t ≡ nat_eq f id.0
    by f true e = ap (λ s. same_text s t) (ap (λ k. get_or table k []) (eqb-true f id.0 e) ∙ here) ∙ (same_text-itself t ∙ sym e)
    by f false e = false_from_ne_true (same_text (get_or table f []) t) (λ h. false≢true (sym e ∙ eq-eqb f id.0 (same f h))) ∙ sym e
