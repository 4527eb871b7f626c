-- Texts of a table, and their numbers.
use Rattle.std.proofs.Common.{◌≡◌, ◌∙◌, ℕ, zero, suc, ◌+◌, ◌<◌, ◌≤◌, Bool, true, false, cond, not, nat_lt, List, [], ◌∷◌, ◌++◌, map, length, slice_get, get_or, Some, None, refl, ap, sym, arith, ◌⊎◌, if◌then◌else◌}
use Rattle.std.specs.Prelude.{unwrap_or, option_map}
use Rattle.std.specs.List.{All, Contains, position_or_len, list_any}
use Rattle.std.proofs.lemmas.Cmp.{nat_list_eq_equiv}
use Rattle.std.proofs.lemmas.List.Folds.{Any-from_list_any, list_any_at}
use Rattle.std.proofs.lemmas.List.Quantifiers.{position-Some}
use Rattle.std.proofs.lemmas.Map.Keys.{IsDistinct-push}
use Rattle.std.proofs.lemmas.Option.{slice_get_within, slice_get-get_or, get_or_from_slice_get}
use Rattle.pl_atoms.specs.Names.{same_text, text_place, with_text, with_texts, AreDistinct}
use Rattle.pl_atoms.proofs.Numbers.{number-is, IsFront-with_text, slice_get-front}
use Rattle.pl_atoms.proofs.Texts.{same_text-is, same_text-itself}
use Rattle.pl_terms.specs.Order.{text_of}
use Rattle.unit_model.specs.Facts.{Indicator, indicator_by}
use Rattle.builtin_model.specs.Naming.{number_in}
use Rattle.naming_laws.specs.Translation.{written_names, is_written, clause_by}
use Rattle.naming_laws.specs.SameRun.{NamesAreAdded, TextsSaySame}

-- the first place that passes is not behind another one
first-low : {A : Type 0} (p : A → Bool) (xs : List A) (n : ℕ) (d : A) → n < length xs → p (get_or xs n d) ≡ true → position_or_len p xs ≤ n
first-low p [] n d h e = absurd (omega arith)
first-low p (x ∷ xs) zero d h e = rw e (omega arith)
first-low p (x ∷ xs) (suc n) d h e = by (p x) (first-low p xs n d (omega arith) e)
  where
    by : (b : Bool) → position_or_len p xs ≤ n → cond (not b) (1 + position_or_len p xs) 0 ≤ suc n
    by true k = omega arith
    by false k = omega arith

lt-true : (k n : ℕ) → k < n → nat_lt k n ≡ true
lt-true k n h = search arith

pub within-or-past : (k n : ℕ) → (k < n) ⊎ (n ≤ k)
within-or-past k n = search arith

pub same_tests : (a b : Bool) → (a ≡ true → b ≡ true) → (b ≡ true → a ≡ true) → a ≡ b
same_tests true b f g = sym (f refl)
same_tests false true f g = g refl
same_tests false false f g = refl

-- a text that is there is that of its number
pub record IsThere (names : List (List ℕ)) (s : List ℕ) : Type 0 where
  pub within : number_in names s < length names
  pub text : text_of names (number_in names s) ≡ s

pub there : (names : List (List ℕ)) (s : List ℕ) → Contains names s → IsThere names s
there names s c =
    let k : ℕ = position_or_len (same_text s) names in
    let low : k ≤ c.0 = first-low (same_text s) names c.0 s c.1 (ap (same_text s) c.2 ∙ same_text-itself s) in
    let found : text_place names s ≡ Some k = ap (λ b. cond b (Some k) None) (lt-true k (length names) (omega (arith, c.1))) in
    let number : number_in names s ≡ k = ap (λ o. unwrap_or o (length names)) found in
    let h = position-Some (same_text s) names k [] found in
    record {
      within = omega (arith, h.0, number);
      text = ap (text_of names) number ∙ sym (same_text-is s (get_or names k []) h.1);
    }

-- ---- names that are put in

record IsAt (names : List (List ℕ)) (s : List ℕ) : Type 0 where
  place : ℕ
  at : slice_get names place ≡ Some s

last-at : (names : List (List ℕ)) (s : List ℕ) → slice_get (names ++ s ∷ []) (length names) ≡ Some s
last-at [] s = refl
last-at (t ∷ names) s = last-at names s

tested : (names : List (List ℕ)) (s : List ℕ) → list_any (same_text s) names ≡ true → IsAt names s
tested names s e =
    let a = Any-from_list_any (same_text s) names e in
    let same : s ≡ a.1 = same_text-is s a.1 a.4 in
    record { place = a.0; at = slice_get-get_or names a.0 a.1 a.2 ∙ ap Some (a.3 ∙ sym same) }

put : (names : List (List ℕ)) (s : List ℕ) → IsAt (with_text names s) s
put names s = go (list_any (same_text s) names) refl
  where
    go : (b : Bool) → list_any (same_text s) names ≡ b → IsAt (if b then names else names ++ s ∷ []) s
    go true e = tested names s e
    go false e = record { place = length names; at = last-at names s }

kept : (ts names : List (List ℕ)) (s : List ℕ) → IsAt names s → IsAt (with_texts names ts) s
kept [] names s h = h
kept (t ∷ ts) names s h = kept ts (with_text names t) s (record { place = h.place; at = slice_get-front names (with_text names t) (IsFront-with_text names t) h.place s h.at })

all_put : (ts names : List (List ℕ)) (k : ℕ) (d : List ℕ) → k < length ts → IsAt (with_texts names ts) (get_or ts k d)
all_put [] names k d h = absurd (omega arith)
all_put (t ∷ ts) names zero d h = kept ts (with_text names t) t (put names t)
all_put (t ∷ ts) names (suc k) d h = all_put ts (with_text names t) k d (omega arith)

distinct-with_text : (names : List (List ℕ)) (t : List ℕ) → AreDistinct names → AreDistinct (with_text names t)
distinct-with_text names t h = go (list_any (same_text t) names) refl
  where
    go : (b : Bool) → list_any (same_text t) names ≡ b → AreDistinct (if b then names else names ++ t ∷ [])
    go true e = h
    go false e = IsDistinct-push nat_list_eq_equiv names t h e

distinct-with_texts : (ts names : List (List ℕ)) → AreDistinct names → AreDistinct (with_texts names ts)
distinct-with_texts [] names h = h
distinct-with_texts (t ∷ ts) names h = distinct-with_texts ts (with_text names t) (distinct-with_text names t h)

contained : (names : List (List ℕ)) (s : List ℕ) → IsAt names s → Contains names s
contained names s h = (h.place, slice_get_within names h.place s h.at, get_or_from_slice_get names h.place s s h.at)

-- where each of the texts passes the test of being there, each is there
pub written-from_tests : (names : List (List ℕ)) → ((s : List ℕ) → is_written s ≡ true → list_any (same_text s) names ≡ true) → All (Contains names) written_names
written-from_tests names h = λ k d l.
    let s : List ℕ = get_or written_names k d in
    contained names s (tested names s (h s (list_any_at (same_text s) written_names k d l (same_text-itself s))))

pub names-are-added : NamesAreAdded
names-are-added names h = record {
  distinct = distinct-with_texts written_names names h;
  written = λ k d l. contained (with_texts names written_names) (get_or written_names k d) (all_put written_names names k d l);
}

-- ---- the program over texts

number_of-text : (names : List (List ℕ)) → AreDistinct names → (k : ℕ) → k < length names → number_in names (text_of names k) ≡ k
number_of-text names distinct k h =
    let s : List ℕ = text_of names k in
    let t = there names s (contained names s (record { place = k; at = slice_get-get_or names k [] h })) in
    number-is names distinct (number_in names s) k t.within h t.text

pub texts-say-same : TextsSaySame
texts-say-same names p distinct within = record {
  within = within;
  exists = λ m h. ap p.exists (number m h);
  visible = λ m i h k. ap (λ x. option_map (text_of names) (p.visible x (indicator_by (number_in names) (indicator_by (text_of names) i)))) (number m h) ∙ ap (λ s. option_map (text_of names) (p.visible m (named s i))) (number i.name k);
  modes = λ d i h k. ap (λ x. p.modes x (indicator_by (number_in names) (indicator_by (text_of names) i))) (number d h) ∙ ap (λ s. p.modes d (named s i)) (number i.name k);
  clauses = λ d i h k. ap (λ x. map (clause_by (text_of names)) (p.clauses x (indicator_by (number_in names) (indicator_by (text_of names) i)))) (number d h) ∙ ap (λ s. map (clause_by (text_of names)) (p.clauses d (named s i))) (number i.name k);
}
  where
    number : (k : ℕ) → k < length names → number_in names (text_of names k) ≡ k
    number = number_of-text names distinct

    named : ℕ → Indicator ℕ → Indicator ℕ
    named s i = record { name = s; arity = i.arity }
