-- The places of first interfaces.
use Rattle.std.specs.Option.{option_copied}
use Rattle.indexmap.specs.IndexMap.{insert_entry}
use Rattle.std.proofs.Common.{Bor, ◌≡◌, ℕ, zero, suc, ◌<◌, Bool, true, false, cond, List, [], ◌∷◌, ◌++◌, map, length, get_or, Option, Some, None, is_some, Vec, Global, refl, sym, ap, ◌∙◌, if◌then◌else◌, arith}
use Rattle.std.specs.Prelude.{option_map}
use Rattle.std.specs.Map.{lookup}
use Rattle.std.specs.Cmp.Lexicographic.{nat_list_eq_equiv}
use Rattle.std.proofs.lemmas.Slice.Eq.{bytes_eq-Decides}
use Rattle.pl_ops.specs.Tables.{same_text}
use Rattle.unit_model.specs.Facts.{OperatorOf}
use Rattle.unit_model.specs.Directives.{Text, first_of}
use Rattle.unit_model.specs.Preparing.{Interface, operators_known}
use Rattle.prep_texts.specs.declared.interfaces.KnownInterface.{KnownInterface}
use Rattle.prep_texts.specs.Interfaces.{operators_view, interface_view, is_key, is_of, first_place}

flip : (s t : Text) → same_text s t ≡ same_text t s
flip = nat_list_eq_equiv.symm

-- ---- one more interface

pub place-push : (m : Text) (xs : List KnownInterface) (x : KnownInterface) → first_place m (xs ++ x ∷ []) ≡ first_of (first_place m xs) (if is_of m x then Some (length xs) else None)
place-push m [] x = go (is_of m x)
  where
    go : (b : Bool) → ◌≡◌ {A = Option ℕ} (if b then Some 0 else None) (if b then Some 0 else None)
    go b = refl
place-push m (y ∷ xs) x = ap (λ o. if is_of m y then Some 0 else option_map suc o) (place-push m xs x) ∙ go (is_of m y) (first_place m xs) (is_of m x)
  where
    go : (b : Bool) (o : Option ℕ) (c : Bool)
        → (if b then Some 0 else option_map suc (first_of o (if c then Some (length xs) else None))) ≡ first_of (if b then Some 0 else option_map suc o) (if c then Some (suc (length xs)) else None)
    go true o c = refl
    go false (Some n) c = refl
    go false None true = refl
    go false None false = refl

pub lookup-push : {K X : Type 0} (test : K → Bool) (es : List (K × X)) (k : K) (v : X) → lookup test (es ++ (k, v) ∷ []) ≡ first_of (lookup test es) (if test k then Some v else None)
lookup-push test [] k v = refl
lookup-push {K} {X} test (e ∷ es) k v = ap (λ o. cond (test e.0) (Some e.1) o) (lookup-push test es k v) ∙ go (test e.0)
  where
    go : (b : Bool) → cond b (Some e.1) (first_of (lookup test es) (if test k then Some v else None)) ≡ first_of (cond b (Some e.1) (lookup test es)) (if test k then Some v else None)
    go true = refl
    go false = refl

-- a module with a first interface keeps it
first_of-some : (o p : Option ℕ) → is_some o ≡ true → first_of o p ≡ o
first_of-some None p h = absurd (cc)
first_of-some (Some n) p h = refl

-- where the module of the new interface is known already
pub place-known : (m : Text) (xs : List KnownInterface) (x : KnownInterface) → is_some (first_place x.module xs) ≡ true → first_place m (xs ++ x ∷ []) ≡ first_place m xs
place-known m xs x known = place-push m xs x ∙ go (is_of m x) refl
  where
    go : (b : Bool) → is_of m x ≡ b → first_of (first_place m xs) (if b then Some (length xs) else None) ≡ first_place m xs
    go true e = first_of-some (first_place m xs) (Some (length xs)) (ap (λ n. is_some (first_place n xs)) ((bytes_eq-Decides m x.module).0 e) ∙ known)
    go false e = none (first_place m xs)
      where
        none : (o : Option ℕ) → first_of o None ≡ o
        none None = refl
        none (Some n) = refl

-- ---- what is found

-- the operators of this interface, or of the first one behind it
abbrev chosen : Text → KnownInterface → List KnownInterface → Bool → Option (List (OperatorOf Text))
chosen m x xs b = if b then Some (operators_view x.operators) else operators_known (map interface_view xs) m

-- the interface at the place has the operators that are known
pub record IsFound (m : Text) (xs : List KnownInterface) (place : ℕ) (d : KnownInterface) : Type 0 where
  pub within : place < length xs
  pub operators : operators_known (map interface_view xs) m ≡ Some (operators_view (get_or xs place d).operators)

pub place-found : (m : Text) (xs : List KnownInterface) (place : ℕ) (d : KnownInterface) → first_place m xs ≡ Some place → IsFound m xs place d
place-found m [] place d e = absurd (cc)
place-found m (x ∷ xs) place d e = go (λ n. place-found m xs n d) (is_of m x) refl (first_place m xs) refl place e
  where
    go : ((n : ℕ) → first_place m xs ≡ Some n → IsFound m xs n d) → (b : Bool) → is_of m x ≡ b → (o : Option ℕ) → first_place m xs ≡ o → (n : ℕ) → (if b then Some 0 else option_map suc o) ≡ Some n → IsFound m (x ∷ xs) n d
    go ih true t o p zero f = record { within = omega arith; operators = ap (chosen m x xs) (flip x.module m ∙ t) }
    go ih true t o p (suc n) f = absurd (cc)
    go ih false t None p n f = absurd (cc)
    go ih false t (Some k) p zero f = absurd (cc)
    go ih false t (Some k) p (suc n) f =
        let same : k ≡ n = cc in
        let found = ih n (p ∙ ap Some same) in
        let within = found.within in
        record { within = omega (arith, within); operators = ap (chosen m x xs) (flip x.module m ∙ t) ∙ found.operators }

pub place-none : (m : Text) (xs : List KnownInterface) → first_place m xs ≡ None → operators_known (map interface_view xs) m ≡ None
place-none m [] e = refl
place-none m (x ∷ xs) e = go (place-none m xs) (is_of m x) refl (first_place m xs) refl e
  where
    go : (first_place m xs ≡ None → operators_known (map interface_view xs) m ≡ None) → (b : Bool) → is_of m x ≡ b → (o : Option ℕ) → first_place m xs ≡ o → (if b then Some 0 else option_map suc o) ≡ None → operators_known (map interface_view (x ∷ xs)) m ≡ None
    go ih true t o p f = absurd (cc)
    go ih false t None p f = ap (chosen m x xs) (flip x.module m ∙ t) ∙ ih p
    go ih false t (Some k) p f = absurd (cc)

-- ---- two lists of interfaces, one after the other

pub known-append : (is js : List Interface) (m : Text) → operators_known (is ++ js) m ≡ first_of (operators_known is m) (operators_known js m)
known-append [] js m = refl
known-append (i ∷ is) js m = ap (λ o. if same_text i.of m then Some i.operators else o) (known-append is js m) ∙ go (same_text i.of m)
  where
    go : (b : Bool) → (if b then Some i.operators else first_of (operators_known is m) (operators_known js m)) ≡ first_of (if b then Some i.operators else operators_known is m) (operators_known js m)
    go true = refl
    go false = refl

-- ---- an interface put in

abbrev pub Key : Type 0
Key = Vec ℕ Global

-- each place of these is that of the first interface
abbrev pub ArePlaces : List (Key × ℕ) → List KnownInterface → Type 0
ArePlaces es xs = (m : Text) → lookup (is_key m) es ≡ first_place m xs

copied-some : (r : Option (Bor ℕ)) → is_some (option_copied r) ≡ is_some r
copied-some None = refl
copied-some (Some n) = refl

none-is : {A : Type 0} (o : Option A) → is_some o ≡ false → o ≡ None
none-is None h = refl
none-is (Some n) h = absurd (cc)

module _ (es : List (Key × ℕ)) (xs all : List KnownInterface) (x : KnownInterface) (key : Text) (r : Option (Bor ℕ))
    (were : ArePlaces es xs) (same : key ≡ x.module) (found : option_copied r ≡ lookup (is_key key) es) (pushed : all ≡ xs ++ x ∷ []) where
  looked : is_some (lookup (is_key x.module) es) ≡ is_some r
  looked = ap (λ n. is_some (lookup (is_key n) es)) (sym same) ∙ ap is_some (sym found) ∙ copied-some r

  pub places-known : is_some r ≡ true → ArePlaces es all
  places-known h m = were m ∙ sym (place-known m xs x (ap is_some (sym (were x.module)) ∙ looked ∙ h)) ∙ ap (first_place m) (sym pushed)

  module _ (k : Key) (place : ℕ) (new : List (Key × ℕ)) (spelled : k.items ≡ key) (behind : place ≡ length xs) (inserted : new ≡ insert_entry (λ (a b : Key). same_text a.items b.items) es k place) (h : is_some r ≡ false) where
    last : (fs : List (Key × ℕ)) → lookup (λ (b : Key). same_text k.items b.items) fs ≡ None → insert_entry (λ (a b : Key). same_text a.items b.items) fs k place ≡ fs ++ (k, place) ∷ []
    last [] none = refl
    last (f ∷ fs) none = go (last fs) (same_text k.items f.0.items) none
      where
        go : (lookup (λ (b : Key). same_text k.items b.items) fs ≡ None → insert_entry (λ (a b : Key). same_text a.items b.items) fs k place ≡ fs ++ (k, place) ∷ []) → (b : Bool) → cond b (Some f.1) (lookup (λ (b : Key). same_text k.items b.items) fs) ≡ None
            → ◌≡◌ {A = List (Key × ℕ)} (if b then (f.0, place) ∷ fs else f ∷ insert_entry (λ (a b : Key). same_text a.items b.items) fs k place) (f ∷ (fs ++ (k, place) ∷ []))
        go ih true e = absurd (cc)
        go ih false e = ap (λ (l : List (Key × ℕ)). f ∷ l) (ih e)

    pub entries-new : new ≡ es ++ (k, place) ∷ []
    entries-new = inserted ∙ last es (none-is (lookup (is_key k.items) es) (ap (λ n. is_some (lookup (is_key n) es)) (spelled ∙ same) ∙ looked ∙ h))

    pub places-new : ArePlaces new all
    places-new m =
        ap (lookup (is_key m)) entries-new ∙ lookup-push (is_key m) es k place
        ∙ ap (λ o. first_of o (if is_key m k then Some place else None)) (were m)
        ∙ ap (λ n. first_of (first_place m xs) (if is_key m k then Some n else None)) behind
        ∙ ap (λ n. first_of (first_place m xs) (if same_text m n then Some (length xs) else None)) (spelled ∙ same)
        ∙ sym (place-push m xs x) ∙ ap (first_place m) (sym pushed)
