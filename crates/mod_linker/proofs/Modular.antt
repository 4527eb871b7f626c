-- Names and modules of a program, one after another.
use Rattle.std.proofs.Common.{◌≡◌, ℕ, suc, ◌+◌, ◌<◌, List, [], ◌∷◌, ◌++◌, length, take, get_or, slice_get, fold, Bool, true, false, not, ◌&&◌, ◌||◌, cond, nat_eq, eqb, eqb-true, refl, sym, ap, subst, ◌∙◌, arith, Some}
use Rattle.std.specs.Prelude.{codes}
use Rattle.std.specs.List.{list_any}
use Rattle.std.proofs.lemmas.List.{take_more, length-take, get_or-take}
use Rattle.std.proofs.lemmas.List.Folds.{list_any-append}
use Rattle.std.proofs.lemmas.List.Sums.{fold-append}
use Rattle.std.proofs.lemmas.Option.{slice_get_within, get_or_from_slice_get}
use Rattle.pl_atoms.specs.Names.{same_text, with_text, AreDistinct}
use Rattle.pl_atoms.proofs.Texts.{same_text-is}
use Rattle.pl_atoms.proofs.Numbers.{number-is}
use Rattle.unit_model.specs.Directives.{Text}
use Rattle.unit_model.specs.Encoding.{text_at}
use Rattle.pl_store.specs.Linked.{Linked, is_system, is_module, with_module}
use Rattle.mod_faults.proofs.Lookups.{or_false, any_insert, same_number}
use Rattle.mod_linker.specs.Counting.{with_one}
use Rattle.mod_linker.specs.Modules.{AreModules, with_module_text, AddsModules}
use Rattle.mod_linker.proofs.Counting.{all-one, one-by}

-- ---- names in their order

none_any : (t : Text) (xs : List Text) → ((j : ℕ) → j < length xs → same_text t (get_or xs j []) ≡ true → ⊥) → list_any (same_text t) xs ≡ false
none_any t [] h = refl
none_any t (x ∷ xs) h = go (same_text t x) refl (none_any t xs (λ j lt e. h (suc j) (omega arith) e))
  where
    go : (b : Bool) → same_text t x ≡ b → list_any (same_text t) xs ≡ false → (b || list_any (same_text t) xs) ≡ false
    go true e r = absurd (h 0 (omega arith) e)
    go false e r = r

pub next_name : (names : List Text) → AreDistinct names → (k : ℕ) (t : Text) → k < length names → t ≡ get_or names k [] → with_text (take k names) t ≡ take (k + 1) names
next_name names distinct k t lt is =
    let fresh = none_any t (take k names) (λ j less e.
    let within : j < k = omega (arith, length-take k names) in
    let there : get_or (take k names) j [] ≡ get_or names j [] = get_or-take k names j [] within in
    let same : get_or names k [] ≡ get_or names j [] = sym is ∙ same_text-is t (get_or (take k names) j []) e ∙ there in
    let equal = number-is names distinct k j lt (omega arith) same in omega arith) in
    ap (λ b. cond b (take k names) (take k names ++ t ∷ [])) fresh ∙ ap (λ x. take k names ++ x ∷ []) is ∙ sym (take_more names k [] lt)

-- ---- modules

or_assoc : (a b c : Bool) → ((a || b) || c) ≡ (a || (b || c))
or_assoc true b c = refl
or_assoc false b c = refl

and_or : (a b c : Bool) → ((a && b) || (a && c)) ≡ (a && (b || c))
and_or true b c = refl
and_or false b c = refl

and_false : (b : Bool) → (b && false) ≡ false
and_false true = refl
and_false false = refl

pub adds-none : (l : Linked) → AddsModules [] l l
adds-none l = record {
  names = refl;
  procedures = refl;
  clauses = refl;
  rows = refl;
  modules = λ distinct n lt. sym (ap (λ b. is_module l n || b) (and_false (not (is_system l.names n))) ∙ or_false (is_module l n));
  named = λ distinct before h. h;
}

pub adds-more : (xs ys : List Text) (l m k : Linked) → AddsModules xs l m → AddsModules ys m k → AddsModules (xs ++ ys) l k
adds-more xs ys l m k p q = record {
  names = q.names ∙ p.names;
  procedures = q.procedures ∙ p.procedures;
  clauses = q.clauses ∙ p.clauses;
  rows = q.rows ∙ p.rows;
  modules = λ distinct n lt.
      let second : is_module k n ≡ (is_module m n || (not (is_system l.names n) && list_any (same_text (text_at l.names n)) ys)) =
      subst (λ names. is_module k n ≡ (is_module m n || (not (is_system names n) && list_any (same_text (text_at names n)) ys))) p.names
      (q.modules (subst AreDistinct (sym p.names) distinct) n (subst (λ names. n < length names) (sym p.names) lt)) in
      second
      ∙ ap (λ b. b || (not (is_system l.names n) && list_any (same_text (text_at l.names n)) ys)) (p.modules distinct n lt)
      ∙ or_assoc (is_module l n) (not (is_system l.names n) && list_any (same_text (text_at l.names n)) xs) (not (is_system l.names n) && list_any (same_text (text_at l.names n)) ys)
      ∙ ap (λ b. is_module l n || b) (and_or (not (is_system l.names n)) (list_any (same_text (text_at l.names n)) xs) (list_any (same_text (text_at l.names n)) ys)
      ∙ ap (λ b. not (is_system l.names n) && b) (sym (list_any-append (same_text (text_at l.names n)) xs ys)));
  named = λ distinct before h.
      subst (AreModules k) (sym (fold-append with_module_text before xs ys))
      (q.named (subst AreDistinct (sym p.names) distinct) (fold with_module_text before xs) (p.named distinct before h));
}

module _ (l : Linked) (text : Text) (id : ℕ) (known : list_any (same_text text) l.names ≡ true) (there : slice_get (with_text l.names text) id ≡ Some text) where
  names_same : with_text l.names text ≡ l.names
  names_same = ap (λ b. cond b l.names (l.names ++ text ∷ [])) known

  here : slice_get l.names id ≡ Some text
  here = subst (λ names. slice_get names id ≡ Some text) names_same there

  within : id < length l.names
  within = slice_get_within l.names id text here

  text_is : text_at l.names id ≡ text
  text_is = get_or_from_slice_get l.names id text [] here

  is_its_number : AreDistinct l.names → (n : ℕ) → n < length l.names → eqb n id ≡ same_text (text_at l.names n) text
  is_its_number distinct n lt = sym (same_number l.names distinct n id lt within) ∙ ap (same_text (text_at l.names n)) text_is

  barred : (n : ℕ) → same_text text (codes "system") ≡ true → (b : Bool) → same_text (text_at l.names n) text ≡ b → (not (is_system l.names n) && b) ≡ false
  barred n s true e = ap (λ x. not x && true) (ap (λ t. same_text t (codes "system")) (same_text-is (text_at l.names n) text e) ∙ s)
  barred n s false e = and_false (not (is_system l.names n))

  let_in : (n : ℕ) → same_text text (codes "system") ≡ false → (b : Bool) → same_text (text_at l.names n) text ≡ b → (not (is_system l.names n) && b) ≡ b
  let_in n s true e = ap (λ x. not x && true) (ap (λ t. same_text t (codes "system")) (same_text-is (text_at l.names n) text e) ∙ s)
  let_in n s false e = and_false (not (is_system l.names n))

  added : AreDistinct l.names → (n : ℕ) → n < length l.names → (b : Bool) → same_text text (codes "system") ≡ b
      → list_any (nat_eq n) (cond b l.modules (cond (list_any (nat_eq id) l.modules) l.modules (l.modules ++ id ∷ []))) ≡ (is_module l n || (not (is_system l.names n) && (same_text (text_at l.names n) text || false)))
  added distinct n lt true s =
      sym (ap (λ x. is_module l n || (not (is_system l.names n) && x)) (or_false (same_text (text_at l.names n) text)) ∙ ap (λ x. is_module l n || x) (barred n s (same_text (text_at l.names n) text) refl) ∙ or_false (is_module l n))
  added distinct n lt false s =
      any_insert nat_eq (λ q p x e. ap (nat_eq q) (sym (eqb-true p x e))) n id l.modules
      ∙ ap (λ x. is_module l n || x) (is_its_number distinct n lt)
      ∙ sym (ap (λ x. is_module l n || (not (is_system l.names n) && x)) (or_false (same_text (text_at l.names n) text)) ∙ ap (λ x. is_module l n || x) (let_in n s (same_text (text_at l.names n) text) refl))

  same_name : AreDistinct l.names → (a b : ℕ) → a < length l.names → b < length l.names → same_text (text_at l.names a) (text_at l.names b) ≡ nat_eq a b
  same_name distinct a b ha hb = same_number l.names distinct a b ha hb

  named_with : AreDistinct l.names → (before : List Text) → AreModules l before → (b : Bool)
      → AreModules (record l { modules = cond b l.modules (with_one nat_eq l.modules id) }) (cond b before (with_one same_text before text))
  named_with distinct before h true = record { below = h.below; texts = h.texts }
  named_with distinct before h false = record {
    below = all-one nat_eq (λ k. k < length l.names) id l.modules within h.below;
    texts = one-by nat_eq same_text (text_at l.names) (λ k. k < length l.names) (same_name distinct) id l.modules within h.below
        ∙ ap (λ ts. with_one same_text ts (text_at l.names id)) h.texts ∙ ap (with_one same_text before) text_is;
  }

  named_one : AreDistinct l.names → (before : List Text) → AreModules l before → AreModules (with_module l text id) (with_module_text before text)
  named_one distinct before h =
      let b = same_text text (codes "system") in
      subst (λ (ns : List Text). AreModules (record l { names = ns; modules = cond b l.modules (with_one nat_eq l.modules id) }) (cond b before (with_one same_text before text)))
      (sym names_same) (named_with distinct before h b)

  pub adds-one : AddsModules (text ∷ []) l (with_module l text id)
  adds-one = record {
    names = names_same;
    procedures = refl;
    clauses = refl;
    rows = refl;
    modules = λ distinct n lt. added distinct n lt (same_text text (codes "system")) refl;
    named = named_one;
  }
