-- Variables by their texts and numbers.
use Rattle.std.proofs.Common.{◌≡◌, ℕ, zero, suc, ◌+◌, ◌<◌, ◌≤◌, List, [], ◌∷◌, ◌++◌, length, length-append, get_or, Bool, true, false, cond, not, nat_lt, Option, Some, None, refl, sym, ap, ◌∙◌, arith, if◌then◌else◌, position}
use Rattle.std.specs.List.{AllByRecursion, position_or_len, list_any}
use Rattle.std.proofs.lemmas.Bool.{ltb-false}
use Rattle.std.proofs.lemmas.Slice.Eq.{bytes_eq-Decides}
use Rattle.std.proofs.lemmas.List.Quantifiers.{position-Some}
use Rattle.pl_ops.specs.Tables.{same_text}
use Rattle.pl_atoms.specs.Names.{with_text, text_place}
use Rattle.text_model.specs.Reading.{number_of, is_anonymous}
use Rattle.pl_reader.specs.Numbering.{Met, paired, known_number, number_at, with_variable, met_with}

no_truth : {A : Type 0} → true ≡ false → A
no_truth h = absurd (cc)

same_text-sym : (s t : List ℕ) → same_text s t ≡ same_text t s
same_text-sym s t = go (same_text s t) refl (same_text t s) refl
  where
    go : (a : Bool) → same_text s t ≡ a → (b : Bool) → same_text t s ≡ b → same_text s t ≡ same_text t s
    go true h true k = h ∙ sym k
    go true h false k = no_truth (sym ((bytes_eq-Decides t s).1 (sym ((bytes_eq-Decides s t).0 h))) ∙ k)
    go false h true k = no_truth (sym ((bytes_eq-Decides s t).1 (sym ((bytes_eq-Decides t s).0 k))) ∙ h)
    go false h false k = h ∙ sym k

-- a text that has a place has the number there
at_place : (s : List ℕ) (texts : List (List ℕ)) (numbers : List ℕ) (i d : ℕ) → length texts ≡ length numbers → i < length texts → same_text s (get_or texts i []) ≡ true → ((k : ℕ) → k < i → same_text s (get_or texts k []) ≡ false) → number_of s (paired texts numbers) ≡ Some (get_or numbers i d)
at_place s [] numbers i d e h here before = absurd (omega arith)
at_place s (t ∷ ts) [] i d e h here before = absurd (omega arith)
at_place s (t ∷ ts) (n ∷ ns) zero d e h here before = ap (λ b. if b then Some n else number_of s (paired ts ns)) (same_text-sym t s ∙ here)
at_place s (t ∷ ts) (n ∷ ns) (suc i) d e h here before =
    ap (λ b. if b then Some n else number_of s (paired ts ns)) (same_text-sym t s ∙ before 0 (omega arith))
    ∙ at_place s ts ns i d (omega arith) (omega arith) here (λ k l. before (suc k) (omega arith))

known : (s : List ℕ) (texts : List (List ℕ)) (numbers : List ℕ) (i d : ℕ) → length texts ≡ length numbers → Some i ≡ text_place texts s → number_of s (paired texts numbers) ≡ Some (get_or numbers i d)
known s texts numbers i d e h =
    let p = position-Some (same_text s) texts i [] (sym h) in
    at_place s texts numbers i d e p.0 p.1 p.2

-- a text that has no place has no number
none_there : (s : List ℕ) (texts : List (List ℕ)) → length texts ≤ position_or_len (same_text s) texts → AllByRecursion (λ t. same_text s t ≡ false) texts
none_there s [] h = tt
none_there s (t ∷ ts) h = go (same_text s t) refl (none_there s ts)
  where
    go : (b : Bool) → same_text s t ≡ b → (length ts ≤ position_or_len (same_text s) ts → AllByRecursion (λ t. same_text s t ≡ false) ts) → AllByRecursion (λ t. same_text s t ≡ false) (t ∷ ts)
    go true e ih = let f : position_or_len (same_text s) (t ∷ ts) ≡ 0 = ap (λ b. cond (not b) (1 + position_or_len (same_text s) ts) 0) e in absurd (omega arith)
    go false e ih = let f : position_or_len (same_text s) (t ∷ ts) ≡ 1 + position_or_len (same_text s) ts = ap (λ b. cond (not b) (1 + position_or_len (same_text s) ts) 0) e in (e, ih (omega arith))

no_place : (s : List ℕ) (texts : List (List ℕ)) → None ≡ text_place texts s → length texts ≤ position_or_len (same_text s) texts
no_place s texts h = go (nat_lt (position_or_len (same_text s) texts) (length texts)) refl
  where
    go : (b : Bool) → nat_lt (position_or_len (same_text s) texts) (length texts) ≡ b → length texts ≤ position_or_len (same_text s) texts
    go true e = absurd (no_some (position_or_len (same_text s) texts) (h ∙ ap (λ b. cond b (Some (position_or_len (same_text s) texts)) None) e))
      where
        no_some : (n : ℕ) → None ≡ Some n → ⊥
        no_some n k = cc
    go false e = ltb-false _ _ e

none_any : (s : List ℕ) (texts : List (List ℕ)) → AllByRecursion (λ t. same_text s t ≡ false) texts → list_any (same_text s) texts ≡ false
none_any s [] h = refl
none_any s (t ∷ ts) h = ap (λ b. Rattle.std.proofs.Common.◌||◌ b (list_any (same_text s) ts)) h.0 ∙ none_any s ts h.1

none_numbered : (s : List ℕ) (texts : List (List ℕ)) (numbers : List ℕ) → AllByRecursion (λ t. same_text s t ≡ false) texts → number_of s (paired texts numbers) ≡ None
none_numbered s [] numbers h = refl
none_numbered s (t ∷ ts) [] h = refl
none_numbered s (t ∷ ts) (n ∷ ns) h = ap (λ b. if b then Some n else number_of s (paired ts ns)) (same_text-sym t s ∙ h.0) ∙ none_numbered s ts ns h.1

paired-push : (s : List ℕ) (n : ℕ) (texts : List (List ℕ)) (numbers : List ℕ) → length texts ≡ length numbers → paired (texts ++ s ∷ []) (numbers ++ n ∷ []) ≡ paired texts numbers ++ (s, n) ∷ []
paired-push s n [] [] e = refl
paired-push s n [] (m ∷ ns) e = absurd (omega arith)
paired-push s n (t ∷ ts) [] e = absurd (omega arith)
paired-push s n (t ∷ ts) (m ∷ ns) e = ap (λ l. (t, m) ∷ l) (paired-push s n ts ns (omega arith))

module _ (s : List ℕ) (texts : List (List ℕ)) (numbers : List ℕ) (next : ℕ) (named : is_anonymous s ≡ false) where
  abbrev start : Met
  start = record { names = paired texts numbers; next = next }

  found : (o : Option ℕ) → number_of s (paired texts numbers) ≡ o → known_number start s ≡ o
  found o h = ap (λ b. if b then None else number_of s (paired texts numbers)) named ∙ h

  pub number_found : (i r : ℕ) → length texts ≡ length numbers → Some i ≡ text_place texts s → r ≡ get_or numbers i r → r ≡ number_at start s
  number_found i r e h is = is ∙ sym (ap (λ o. Rattle.std.specs.Option.unwrap_or o next) (found _ (known s texts numbers i r e h)))

  abbrev met_by : Option ℕ → Met
  met_by o = elim o [ Some n ↦ start | None ↦ with_variable start s ]

  pub met_found : (i : ℕ) → length texts ≡ length numbers → Some i ≡ text_place texts s → start ≡ met_with start s
  met_found i e h = sym (ap met_by (found _ (known s texts numbers i 0 e h)))

  absent : None ≡ text_place texts s → number_of s (paired texts numbers) ≡ None
  absent h = none_numbered s texts numbers (none_there s texts (no_place s texts h))

  pub number_new : None ≡ text_place texts s → next ≡ number_at start s
  number_new h = sym (ap (λ o. Rattle.std.specs.Option.unwrap_or o next) (found None (absent h)))

  pub text_new : None ≡ text_place texts s → with_text texts s ≡ texts ++ s ∷ []
  text_new h = ap (λ b. if b then texts else texts ++ s ∷ []) (none_any s texts (none_there s texts (no_place s texts h)))

  pub met_new : (texts2 : List (List ℕ)) (numbers2 : List ℕ) → length texts ≡ length numbers → None ≡ text_place texts s → texts2 ≡ with_text texts s → numbers2 ≡ numbers ++ next ∷ [] → ◌≡◌ {A = Met} (record { names = paired texts2 numbers2; next = suc next }) (met_with start s)
  met_new texts2 numbers2 e h t n =
      let made : List (List ℕ × ℕ) → Met = λ l. record { names = l; next = suc next } in
      ap made (ap (λ l. paired l numbers2) (t ∙ text_new h) ∙ ap (paired (texts ++ s ∷ [])) n ∙ paired-push s next texts numbers e ∙ ap (λ b. if b then paired texts numbers else paired texts numbers ++ (s, next) ∷ []) (sym named))
      ∙ sym (ap met_by (found None (absent h)))

  pub paired_new : (n : ℕ) (texts2 : List (List ℕ)) (numbers2 : List ℕ) → length texts ≡ length numbers → None ≡ text_place texts s → texts2 ≡ with_text texts s → numbers2 ≡ numbers ++ n ∷ [] → length texts2 ≡ length numbers2
  paired_new n texts2 numbers2 e h t m = ap length (t ∙ text_new h) ∙ omega (arith, length-append {A = List ℕ}, length-append {A = ℕ}) ∙ sym (ap length m)
