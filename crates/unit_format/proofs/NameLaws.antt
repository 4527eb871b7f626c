-- The table of names.
use Rattle.std.proofs.Common.{◌≡◌, ℕ, zero, suc, ◌+◌, ◌-◌, ◌^◌, ◌<◌, ◌≤◌, Bool, true, false, not, ◌&&◌, ◌||◌, cond, List, [], ◌∷◌, ◌++◌, length, Option, Some, None, refl, sym, ap, subst, ◌∙◌, append_assoc, arith, if◌then◌else◌}
use Rattle.std.specs.Prelude.{IsUtf8, Result, Ok, Err, MatchResult, is_ok}
use Rattle.std.specs.Int.{w32, to_be_bytes}
use Rattle.std.specs.List.{flat_map, AllByRecursion, list_any}
use Rattle.std.specs.Str.{is_utf8}
use Rattle.std.proofs.lemmas.Bool.{and_parts, and_from}
use Rattle.std.proofs.lemmas.List.{append-nil, length-append}
use Rattle.std.proofs.lemmas.Str.{IsUtf8-from_is_utf8, is_utf8-from_IsUtf8, IsUtf8-nil}
use Rattle.pl_ops.specs.Tables.{same_text}
use Rattle.pl_atoms.specs.Names.{with_text}
use Rattle.pl_atoms.proofs.Texts.{same_text-is, same_text-itself}
use Rattle.unit_model.specs.Encoding.{counted, name_bytes, text_at as name_at, holds_text}
use Rattle.unit_model.specs.Validity.{IsName}
use Rattle.unit_format.specs.declared.fault.UnitFault.{UnitFault}
use Rattle.unit_format.specs.declared.fault.UnitFault.TheVariants.{NotUnit, NoMemory}
use Rattle.unit_format.specs.Reading.{◌>>=◌, number_at, text_at, is_new_name, name_or_none, names_from, names_at}
use Rattle.unit_format.specs.Views.{Fails}
use Rattle.unit_format.proofs.FieldLaws.{IsBytes, IsField, Takes, Takes-then, bind_some, some_is, field32, text_field}
use Rattle.unit_format.proofs.Places.{IsNew}

abbrev Text : Type 0
Text = List ℕ

-- each may stand in the table after those before it
abbrev pub AreNamesFrom : List Text → List Text → Type 0
AreNamesFrom names [] = Unit {0}
AreNamesFrom names (s ∷ ss) = (is_new_name names s ≡ true) × (length s < 2 ^ 32) × AreNamesFrom (names ++ s ∷ []) ss

abbrev pub AreNames : List Text → Type 0
AreNames names = (length names < 2 ^ 32) × AreNamesFrom [] names

guard_is : {A : Type 0} (b : Bool) (o : Option A) (y : A) → cond b o None ≡ Some y → (b ≡ true) × (o ≡ Some y)
guard_is true o y h = (refl, h)
guard_is false o y h = absurd cc

record Taken (n : ℕ) (names : List Text) (bytes : List ℕ) (x : List Text × List ℕ) : Type 0 where
  pub more : List Text
  pub whole : x.0 ≡ names ++ more
  pub counted : length more ≡ n
  pub taken : Takes bytes (flat_map name_bytes more) x.1
  pub are : AreNamesFrom names more

names_takes : (n : ℕ) (names : List Text) (bytes : List ℕ) (x : List Text × List ℕ) → IsBytes bytes → names_from n names bytes ≡ Some x → Taken n names bytes x
unfolding names_from
names_takes zero names bytes x fits e =
    subst (λ (y : List Text × List ℕ). Taken 0 names bytes y) (some_is (names, bytes) x e)
    (record { more = []; whole = sym (append-nil names); counted = refl; taken = record { parts = refl; rest_fits = fits }; are = tt })
names_takes (suc n) names bytes x fits e =
    let a = bind_some (text_at bytes) (λ s. if is_new_name names s.0 then names_from n (names ++ s.0 ∷ []) s.1 else None) x e in
    let g = guard_is (is_new_name names a.0.0) (names_from n (names ++ a.0.0 ∷ []) a.0.1) x a.2 in
    let t = text_field.takes bytes a.0.0 a.0.1 fits a.1 in
    let u = names_takes n (names ++ a.0.0 ∷ []) a.0.1 x t.0.rest_fits g.1 in
    record {
      more = a.0.0 ∷ u.more;
      whole = u.whole ∙ append_assoc names (a.0.0 ∷ []) u.more;
      counted = ap suc u.counted;
      taken = Takes-then bytes (name_bytes a.0.0) a.0.1 (flat_map name_bytes u.more) x.1 t.0 u.taken;
      are = (g.0, t.1, u.are);
    }

names_again : (names ss : List Text) (rest : List ℕ) → AreNamesFrom names ss → names_from (length ss) names (flat_map name_bytes ss ++ rest) ≡ Some (names ++ ss, rest)
unfolding names_from
names_again names [] rest h = ap (λ (l : List Text). Some (l, rest)) (sym (append-nil names))
names_again names (s ∷ ss) rest h =
    ap (names_from (suc (length ss)) names) (append_assoc (name_bytes s) (flat_map name_bytes ss) rest)
    ∙ ap (λ r. r >>= λ x. if is_new_name names x.0 then names_from (length ss) (names ++ x.0 ∷ []) x.1 else None) (text_field.again s (flat_map name_bytes ss ++ rest) h.1)
    ∙ ap (λ b. if b then names_from (length ss) (names ++ s ∷ []) (flat_map name_bytes ss ++ rest) else None) h.0
    ∙ names_again (names ++ s ∷ []) ss rest h.2
    ∙ ap (λ (l : List Text). Some (l, rest)) (append_assoc names (s ∷ []) ss)

pub names_field : IsField names_at (counted name_bytes) AreNames
unfolding names_at
names_field = record {
  takes = λ bytes names rest fits e.
      let a = bind_some (number_at w32 bytes) (λ n. names_from n.0 [] n.1) (names, rest) e in
      let t = field32.takes bytes a.0.0 a.0.1 fits a.1 in
      let u = names_takes a.0.0 [] a.0.1 (names, rest) t.0.rest_fits a.2 in
      let both : Takes bytes (to_be_bytes w32 a.0.0 ++ flat_map name_bytes u.more) rest = Takes-then bytes (to_be_bytes w32 a.0.0) a.0.1 (flat_map name_bytes u.more) rest t.0 u.taken in
      let with_count : Takes bytes (counted name_bytes u.more) rest = subst (λ (n : ℕ). Takes bytes (to_be_bytes w32 n ++ flat_map name_bytes u.more) rest) (sym u.counted) both in
      let are : AreNames u.more = (omega (arith, t.1, u.counted), u.are) in
      subst (λ (l : List Text). Takes bytes (counted name_bytes l) rest × AreNames l) (sym u.whole) (with_count, are);
  again = λ names rest h.
      ap names_at (append_assoc (to_be_bytes w32 (length names)) (flat_map name_bytes names) rest)
      ∙ ap (λ r. r >>= λ n. names_from n.0 [] n.1) (field32.again (length names) (flat_map name_bytes names ++ rest) h.0)
      ∙ names_again [] names rest h.1;
}

-- ---- names of a table are UTF-8 and distinct

pub same-swap : (s t : Text) → same_text s t ≡ same_text t s
same-swap s t = go (same_text s t) refl (same_text t s) refl
  where
    go : (a : Bool) → same_text s t ≡ a → (b : Bool) → same_text t s ≡ b → a ≡ b
    go true e true f = refl
    go false e false f = refl
    go true e false f = sym (subst (λ x. same_text x s ≡ true) (same_text-is s t e) (same_text-itself s)) ∙ f
    go false e true f = sym e ∙ subst (λ x. same_text x t ≡ true) (same_text-is t s f) (same_text-itself t)

any-last : (p : Text → Bool) (names : List Text) (s : Text) → list_any p (names ++ s ∷ []) ≡ (p s || list_any p names)
any-last p [] s = refl
any-last p (x ∷ names) s = ap (λ b. p x || b) (any-last p names s) ∙ swap (p x) (p s) (list_any p names)
  where
    swap : (a b c : Bool) → (a || (b || c)) ≡ (b || (a || c))
    swap true true c = refl
    swap true false c = refl
    swap false b c = refl

-- these texts were seen, in the one list and in the other
abbrev Same : List Text → List Text → Type 0
Same seen names = (t : Text) → holds_text t seen ≡ list_any (same_text t) names

same_more : (seen names : List Text) (s : Text) → Same seen names → Same (s ∷ seen) (names ++ s ∷ [])
same_more seen names s h t = ap (λ b. b || holds_text t seen) (same-swap s t) ∙ ap (λ b. same_text t s || b) (h t) ∙ sym (any-last (same_text t) names s)

not_false : (b : Bool) → not b ≡ true → b ≡ false
not_false true h = absurd cc
not_false false h = refl

new_from : (seen names ss : List Text) → Same seen names → AreNamesFrom names ss → IsNew seen ss
new_from seen names [] same h = tt
new_from seen names (s ∷ ss) same h =
    let p = and_parts (is_utf8 s) (not (list_any (same_text s) names)) h.0 in
    (same s ∙ not_false (list_any (same_text s) names) p.1, new_from (s ∷ seen) (names ++ s ∷ []) ss (same_more seen names s same) h.2)

pub are_distinct : (names : List Text) → AreNamesFrom [] names → IsNew [] names
are_distinct names h = new_from [] [] names (λ t. refl) h

pub are_utf8 : (front names : List Text) → AreNamesFrom front names → (n : ℕ) → IsName (name_at names n)
are_utf8 front [] h n = (IsUtf8-nil, omega arith)
are_utf8 front (s ∷ names) h zero = (IsUtf8-from_is_utf8 s (and_parts (is_utf8 s) (not (list_any (same_text s) front)) h.0).0, h.1)
are_utf8 front (s ∷ names) h (suc n) = are_utf8 (front ++ s ∷ []) names h.2 n

from_new : (seen names ss : List Text) → Same seen names → AllByRecursion IsName ss → IsNew seen ss → AreNamesFrom names ss
from_new seen names [] same a h = tt
from_new seen names (s ∷ ss) same a h = (
  and_from (is_utf8 s) (not (list_any (same_text s) names)) (is_utf8-from_IsUtf8 s a.0.0) (ap not (sym (same s) ∙ h.0)),
  a.0.1,
  from_new (s ∷ seen) (names ++ s ∷ []) ss (same_more seen names s same) a.1 h.1,
)

pub names_from_distinct : (names : List Text) → AllByRecursion IsName names → IsNew [] names → AreNamesFrom [] names
names_from_distinct names a h = from_new [] [] names (λ t. refl) a h

-- ---- reading names one after the other, as a loop does

pub goes_on : (names : List Text) (count i : ℕ) (bytes : List ℕ) (text after : List ℕ) (total : Option (List Text × List ℕ)) → i < count → text_at bytes ≡ Some (text, after) → is_new_name names text ≡ true
    → names_from (count - i) names bytes ≡ total → names_from (count - (i + 1)) (names ++ text ∷ []) after ≡ total
unfolding names_from
goes_on names count i bytes text after total lt h new so_far =
    let k : count - i ≡ suc (count - (i + 1)) = omega arith in
    let one : names_from (count - i) names bytes ≡ names_from (count - (i + 1)) (names ++ text ∷ []) after = rw (k, h, new) refl in
    sym one ∙ so_far

pub ends : (e : UnitFault) (names : List Text) (count i : ℕ) (bytes : List ℕ) (total : Option (List Text × List ℕ)) → i < count → Fails e (text_at bytes)
    → names_from (count - i) names bytes ≡ total → Fails e total
unfolding names_from
ends NoMemory names count i bytes total lt h so_far = tt
ends NotUnit names count i bytes total lt h so_far =
    let k : count - i ≡ suc (count - (i + 1)) = omega arith in
    let one : names_from (count - i) names bytes ≡ None = rw (k, h) refl in
    sym so_far ∙ one

not_new : (b : Bool) (s : Text) → cond b (Some s) None ≡ None → b ≡ false
not_new true s h = absurd cc
not_new false s h = refl

pub refuses : (e : UnitFault) (names : List Text) (count i : ℕ) (bytes : List ℕ) (text after : List ℕ) (total : Option (List Text × List ℕ)) → i < count → text_at bytes ≡ Some (text, after) → Fails e (name_or_none names text)
    → names_from (count - i) names bytes ≡ total → Fails e total
unfolding names_from
refuses NoMemory names count i bytes text after total lt h new so_far = tt
refuses NotUnit names count i bytes text after total lt h new so_far =
    let k : count - i ≡ suc (count - (i + 1)) = omega arith in
    let no : is_new_name names text ≡ false = not_new (is_new_name names text) text new in
    let one : names_from (count - i) names bytes ≡ None = rw (k, h, no) refl in
    sym so_far ∙ one

pub is_done : (names : List Text) (count i : ℕ) (bytes : List ℕ) (total : Option (List Text × List ℕ)) → count ≤ i → names_from (count - i) names bytes ≡ total → total ≡ Some (names, bytes)
unfolding names_from
is_done names count i bytes total le so_far =
    let k : count - i ≡ 0 = omega arith in
    let one : names_from (count - i) names bytes ≡ Some (names, bytes) = rw k refl in
    sym so_far ∙ one

-- ---- putting a name in

pub decides_utf8 : {X E : Type 0} (bs : List ℕ) (P : X → Type 0) (Q : E → Type 0) (r : Result X E) → MatchResult r (λ x. P x × IsUtf8 bs) (λ e. ¬ (IsUtf8 bs) × Q e) → is_ok r ≡ is_utf8 bs
decides_utf8 bs P Q (Ok x) h = sym (is_utf8-from_IsUtf8 bs h.1)
decides_utf8 bs P Q (Err e) h = go (is_utf8 bs) refl
  where
    go : (b : Bool) → is_utf8 bs ≡ b → false ≡ is_utf8 bs
    go true k = absurd (h.0 (IsUtf8-from_is_utf8 bs k))
    go false k = sym k

pub is_kept : (names new : List Text) (s : Text) → new ≡ with_text names s → length new ≡ length names → name_or_none names s ≡ None
is_kept names new s e same = go (list_any (same_text s) names) refl (ap length e)
  where
    go : (b : Bool) → list_any (same_text s) names ≡ b → length new ≡ length (if b then names else names ++ s ∷ []) → name_or_none names s ≡ None
    go true k l = ap (λ b. if is_utf8 s && not b then Some s else None) k ∙ none (is_utf8 s)
      where
        none : (b : Bool) → cond (b && false) (Some s) None ≡ None
        none true = refl
        none false = refl
    go false k l = absurd (omega (arith, length-append names (s ∷ []), l, same))

pub is_put : (names new : List Text) (s : Text) → is_utf8 s ≡ true → new ≡ with_text names s → (length new ≡ length names → ⊥) → (is_new_name names s ≡ true) × (new ≡ names ++ s ∷ [])
is_put names new s u e other = go (list_any (same_text s) names) refl e
  where
    go : (b : Bool) → list_any (same_text s) names ≡ b → new ≡ (if b then names else names ++ s ∷ []) → (is_new_name names s ≡ true) × (new ≡ names ++ s ∷ [])
    go true k l = absurd (other (ap length l))
    go false k l = (and_from (is_utf8 s) (not (list_any (same_text s) names)) u (ap not k), l)
