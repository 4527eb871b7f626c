-- How many modules and procedures units and their program have.
use Rattle.std.proofs.Common.{◌≡◌, ℕ, suc, ◌<◌, List, [], ◌∷◌, ◌++◌, length, map, fold, Bool, true, false, not, ◌&&◌, ◌||◌, cond, nat_eq, eqb, refl, sym, ap, subst, ◌∙◌, Option, Some, None}
use Rattle.std.specs.List.{AllByRecursion, filter_map, flat_map, list_any, list_all, cons_option}
use Rattle.std.specs.Option.{option_map}
use Rattle.std.proofs.lemmas.Bool.{and_parts}
use Rattle.std.proofs.lemmas.List.{length-map, map-append}
use Rattle.std.proofs.lemmas.List.Elements.{filter_map-append}
use Rattle.std.proofs.lemmas.Option.{same_Some}
use Rattle.pl_atoms.specs.Names.{AreDistinct}
use Rattle.pl_ops.specs.Tables.{same_text}
use Rattle.pl_terms.specs.Trees.{Tree, var, int, atom, comp, count, renamed}
use Rattle.unit_model.specs.Facts.{Indicator, What, exports, reexports_all, reexports, has_modes, declares, imports_all, imports, clause, Entry, Section, Facts, tree_names, what_names, indicator_by, what_by}
use Rattle.unit_model.specs.Directives.{Text}
use Rattle.unit_model.specs.Encoding.{text_at}
use Rattle.unit_model.specs.Preparing.{Interface, is_interface, operators_of}
use Rattle.unit_model.specs.Validity.{is_user, is_system, begins_with_user, keeps_rules}
use Rattle.unit_format.proofs.Renaming.{AllBy-parts}
use Rattle.unit_model.specs.Known.{interface_of, interfaces_of}
use Rattle.link_model.specs.Places.{same_ind, user, system, defined_by, role_of, place_of, places_in, places_from, places_of}
use Rattle.program_model.specs.Saying.{Said, said_by, said_of, said_in, said, head_indicator}
use Rattle.mod_faults.proofs.Lookups.{same_number}
use Rattle.mod_visible.specs.Placing.{AllBelow}
use Rattle.pl_store.specs.Linked.{Linked, Procedure, is_procedure}
use Rattle.mod_linker.specs.Counting.{with_one, each_once, interface_texts, linked_modules, Defined, same_defined, defined_in, defined_at, linked_procedures}
use Rattle.mod_linker.specs.Entering.{defined, same_numbers, defined_said}
use Rattle.mod_linker.specs.Holding.{SaidBelow, AreSaids}
use Rattle.mod_linker.specs.Modules.{module_texts, AreModules, with_module_text}
use Rattle.mod_linker.proofs.Defined.{all_append}
use Rattle.mod_linker.proofs.Saying.{count-all_renamed, cons-map}

-- ---- elements that stand once

module _ {A : Type 0} (same : A → A → Bool) (P : A → Type 0) where
  pub all-one : (x : A) (xs : List A) → P x → AllByRecursion P xs → AllByRecursion P (with_one same xs x)
  all-one x xs h all = go (list_any (same x) xs)
    where
      go : (b : Bool) → AllByRecursion P (cond b xs (xs ++ x ∷ []))
      go true = all
      go false = all_append P xs (x ∷ []) all (h, tt)

module _ {A B : Type 0} (same : A → A → Bool) (alike : B → B → Bool) (f : A → B) (P : A → Type 0) (agree : (x y : A) → P x → P y → alike (f x) (f y) ≡ same x y) where
  any-by : (x : A) (xs : List A) → P x → AllByRecursion P xs → list_any (alike (f x)) (map f xs) ≡ list_any (same x) xs
  any-by x [] h all = refl
  any-by x (y ∷ xs) h all = ap (λ b. b || list_any (alike (f x)) (map f xs)) (agree x y h all.0) ∙ ap (λ b. same x y || b) (any-by x xs h all.1)

  pub one-by : (x : A) (xs : List A) → P x → AllByRecursion P xs → map f (with_one same xs x) ≡ with_one alike (map f xs) (f x)
  one-by x xs h all = go (list_any (same x) xs) ∙ ap (λ b. cond b (map f xs) (map f xs ++ f x ∷ [])) (sym (any-by x xs h all))
    where
      go : (b : Bool) → map f (cond b xs (xs ++ x ∷ [])) ≡ cond b (map f xs) (map f xs ++ f x ∷ [])
      go true = refl
      go false = map-append f xs (x ∷ [])

  pub once-by : (xs ys : List A) → AllByRecursion P xs → AllByRecursion P ys → map f (fold (with_one same) xs ys) ≡ fold (with_one alike) (map f xs) (map f ys)
  once-by xs [] all rest = refl
  once-by xs (y ∷ ys) all rest =
      once-by (with_one same xs y) ys (all-one same P y xs rest.0 all) rest.1
      ∙ ap (λ l. fold (with_one alike) l (map f ys)) (one-by y xs rest.0 all)

-- ---- no module of a unit is system

neither : (a b : Bool) → not (a || b) ≡ true → b ≡ false
neither true b h = absurd cc
neither false true h = absurd cc
neither false false h = refl

abbrev IsOwn : Text → Type 0
IsOwn t = same_text t system ≡ false

abbrev module_of : Interface → Text
module_of i = i.of

rest-own : (ss : List (Section Text)) → list_all (λ t. not (is_user t.of || is_system t.of)) ss ≡ true → AllByRecursion IsOwn (map module_of (filter_map interface_of ss))
rest-own [] h = tt
rest-own (s ∷ ss) h =
    let p = and_parts (not (is_user s.of || is_system s.of)) (list_all (λ (t : Section Text). not (is_user t.of || is_system t.of)) ss) h in
    go (is_interface s.kind) (neither (is_user s.of) (is_system s.of) p.0) (rest-own ss p.1)
  where
    go : (b : Bool) → IsOwn s.of → AllByRecursion IsOwn (map module_of (filter_map interface_of ss))
        → AllByRecursion IsOwn (map module_of (cons_option (cond b (Some (record { of = s.of; operators = operators_of s.entries })) None) (filter_map interface_of ss)))
    go true own all = (own, all)
    go false own all = all

sections-own : (ss : List (Section Text)) → begins_with_user ss ≡ true → AllByRecursion IsOwn (map module_of (filter_map interface_of ss))
sections-own [] h = tt
sections-own (s ∷ ss) h =
    let p = and_parts (not (is_interface s.kind)) _ h in
    let q = and_parts (nat_eq s.byte 0) _ p.1 in
    let r = and_parts (is_user s.of) (list_all (λ (t : Section Text). not (is_user t.of || is_system t.of)) ss) q.1 in
    go (is_interface s.kind) p.0 (rest-own ss r.1)
  where
    go : (b : Bool) → not b ≡ true → AllByRecursion IsOwn (map module_of (filter_map interface_of ss))
        → AllByRecursion IsOwn (map module_of (cons_option (cond b (Some (record { of = s.of; operators = operators_of s.entries })) None) (filter_map interface_of ss)))
    go true e all = absurd cc
    go false e all = all

units-own : (us : List (Facts Text)) → AllByRecursion (λ f. keeps_rules f ≡ true) us → AllByRecursion IsOwn (flat_map module_texts us)
units-own [] h = tt
units-own (u ∷ us) h = all_append IsOwn (module_texts u) (flat_map module_texts us) (sections-own u.sections (and_parts (begins_with_user u.sections) _ h.0).0) (units-own us h.1)

-- ---- modules

own-fold : (before texts : List Text) → AllByRecursion IsOwn texts → fold with_module_text before texts ≡ fold (with_one same_text) before texts
own-fold before [] h = refl
own-fold before (t ∷ texts) h =
    ap (λ b. fold with_module_text (cond b before (with_one same_text before t)) texts) h.0 ∙ own-fold (with_one same_text before t) texts h.1

interfaces-are : (us : List (Facts Text)) → flat_map module_texts us ≡ interface_texts us
interfaces-are [] = refl
interfaces-are (u ∷ us) = ap (λ l. module_texts u ++ l) (interfaces-are us) ∙ sym (map-append module_of (interfaces_of u) (flat_map interfaces_of us))

pub modules-many : (us : List (Facts Text)) (l : Linked) → AllByRecursion (λ f. keeps_rules f ≡ true) us → AreModules l (fold with_module_text [] (user ∷ flat_map module_texts us))
    → length l.modules ≡ length (linked_modules us)
modules-many us l rules h =
    sym (length-map l.modules (text_at l.names))
    ∙ ap length (h.texts ∙ own-fold [] (user ∷ flat_map module_texts us) (refl, units-own us rules) ∙ ap (λ (ts : List Text). each_once same_text (user ∷ ts)) (interfaces-are us))

-- ---- procedures of clauses, by their places and entry by entry

entries-said : (u k : ℕ) (m : Text) (es : List (Entry Text)) → filter_map defined_at (map (place_of u k m) es) ≡ filter_map defined_said (map (λ e. said_of m e.what) es)
entries-said u k m [] = refl
entries-said u k m (e ∷ es) = ap (cons_option (defined_in m (role_of e.what))) (entries-said u k m es)

sections-said : (u k : ℕ) (ss : List (Section Text)) → filter_map defined_at (places_from u k ss) ≡ filter_map defined_said (flat_map said_in ss)
sections-said u k [] = refl
sections-said u k (s ∷ ss) =
    filter_map-append defined_at (places_in u k s) (places_from u (suc k) ss)
    ∙ ap (λ l. l ++ filter_map defined_at (places_from u (suc k) ss)) (entries-said u k s.of s.entries)
    ∙ ap (λ l. filter_map defined_said (said_in s) ++ l) (sections-said u (suc k) ss)
    ∙ sym (filter_map-append defined_said (said_in s) (flat_map said_in ss))

places-said : (u : ℕ) (fs : List (Facts Text)) → filter_map defined_at (places_of u fs) ≡ filter_map defined_said (said fs)
places-said u [] = refl
places-said u (f ∷ fs) =
    filter_map-append defined_at (places_from u 0 f.sections) (places_of (suc u) fs)
    ∙ ap (λ l. l ++ filter_map defined_at (places_of (suc u) fs)) (sections-said u 0 f.sections)
    ∙ ap (λ l. filter_map defined_said (flat_map said_in f.sections) ++ l) (places-said (suc u) fs)
    ∙ sym (filter_map-append defined_said (flat_map said_in f.sections) (said fs))

-- the procedure of a clause's head
pub head-defined : (m : ℕ) (h : Tree ℕ) (i : Indicator ℕ) → head_indicator h ≡ Some i → defined_in m (defined_by h) ≡ Some (m, i)
head-defined m (var n) i e = absurd cc
head-defined m (int z) i e = absurd cc
head-defined m (atom s) i e = ap (option_map (λ (j : Indicator ℕ). (m, j))) e
head-defined m (comp s ts) i e = ap (option_map (λ (j : Indicator ℕ). (m, j))) e

pub any-defined : (d : ℕ) (i : Indicator ℕ) (ps : List Procedure) → list_any (same_numbers (d, i)) (map defined ps) ≡ list_any (is_procedure d i) ps
any-defined d i [] = refl
any-defined d i (p ∷ ps) = ap (λ b. is_procedure d i p || b) (any-defined d i ps)

-- ---- procedures over the table of names

module _ (names : List Text) (distinct : AreDistinct names) where
  abbrev T : ℕ → Text
  T = text_at names

  abbrev text_defined : Defined ℕ → Defined Text
  text_defined x = (T x.0, indicator_by T x.1)

  abbrev IsNamed : Defined ℕ → Type 0
  IsNamed x = (x.0 < length names) × (x.1.name < length names)

  same_texts : (x y : Defined ℕ) → IsNamed x → IsNamed y → same_defined (text_defined x) (text_defined y) ≡ same_numbers x y
  same_texts x y h k =
      ap (λ b. b && same_ind (indicator_by T x.1) (indicator_by T y.1)) (same_number names distinct x.0 y.0 h.0 k.0)
      ∙ ap (λ b. eqb x.0 y.0 && (b && eqb x.1.arity y.1.arity)) (same_number names distinct x.1.name y.1.name h.1 k.1)

  head_text : (m : ℕ) (h : Tree ℕ) → defined_in (T m) (defined_by (renamed T h)) ≡ option_map text_defined (defined_in m (defined_by h))
  head_text m (var n) = refl
  head_text m (int z) = refl
  head_text m (atom s) = refl
  head_text m (comp s ts) = ap (λ k. Some (T m, record { name = T s; arity = k })) (count-all_renamed T ts)

  what_text : (m : ℕ) (w : What ℕ) → defined_in (T m) (role_of (what_by T w)) ≡ option_map text_defined (defined_in m (role_of w))
  what_text m (exports i) = refl
  what_text m (reexports_all n) = refl
  what_text m (reexports n i) = refl
  what_text m (has_modes s ms) = refl
  what_text m (declares o) = refl
  what_text m (imports_all n) = refl
  what_text m (imports n i) = refl
  what_text m (clause n h b) = head_text m h

  texts_said : (xs : List (Said ℕ)) → filter_map defined_said (map (said_by T) xs) ≡ map text_defined (filter_map defined_said xs)
  texts_said [] = refl
  texts_said (x ∷ xs) =
      ap (λ o. cons_option o (filter_map defined_said (map (said_by T) xs))) (what_text x.of x.what)
      ∙ ap (cons_option (option_map text_defined (defined_said x))) (texts_said xs)
      ∙ cons-map text_defined (defined_said x) (filter_map defined_said xs)

  head_named : (m : ℕ) (h : Tree ℕ) → m < length names → AllBelow (length names) (tree_names h) → (y : Defined ℕ) → defined_in m (defined_by h) ≡ Some y → IsNamed y
  head_named m (var n) hm below y e = absurd cc
  head_named m (int z) hm below y e = absurd cc
  head_named m (atom s) hm below y e = subst IsNamed (same_Some (m, record { name = s; arity = 0 }) y e) (hm, below.0)
  head_named m (comp s ts) hm below y e = subst IsNamed (same_Some (m, record { name = s; arity = count ts }) y e) (hm, below.0)

  what_named : (m : ℕ) (w : What ℕ) → m < length names → AllBelow (length names) (what_names w) → (y : Defined ℕ) → defined_in m (role_of w) ≡ Some y → IsNamed y
  what_named m (exports i) hm below y e = absurd cc
  what_named m (reexports_all n) hm below y e = absurd cc
  what_named m (reexports n i) hm below y e = absurd cc
  what_named m (has_modes s ms) hm below y e = absurd cc
  what_named m (declares o) hm below y e = absurd cc
  what_named m (imports_all n) hm below y e = absurd cc
  what_named m (imports n i) hm below y e = absurd cc
  what_named m (clause n h b) hm below y e = head_named m h hm (AllBy-parts (λ k. k < length names) (tree_names h) (tree_names b) below).0 y e

  all_named : (xs : List (Said ℕ)) → AllByRecursion (SaidBelow (length names)) xs → AllByRecursion IsNamed (filter_map defined_said xs)
  all_named [] h = tt
  all_named (x ∷ xs) h = go (defined_said x) (what_named x.of x.what h.0.0 h.0.1) (all_named xs h.1)
    where
      go : (o : Option (Defined ℕ)) → ((y : Defined ℕ) → o ≡ Some y → IsNamed y) → AllByRecursion IsNamed (filter_map defined_said xs) → AllByRecursion IsNamed (cons_option o (filter_map defined_said xs))
      go None f all = all
      go (Some y) f all = (f y refl, all)

  pub procedures-many : (us : List (Facts Text)) (xs : List (Said ℕ)) (ps : List Procedure) → AreSaids us names xs → map defined ps ≡ fold (with_one same_numbers) [] (filter_map defined_said xs)
      → length ps ≡ length (linked_procedures us)
  procedures-many us xs ps saids is =
      let ys = filter_map defined_said xs in
      sym (length-map ps defined) ∙ ap length is ∙ sym (length-map (fold (with_one same_numbers) [] ys) text_defined)
      ∙ ap length
      (once-by same_numbers same_defined text_defined IsNamed same_texts [] ys tt (all_named xs saids.below)
      ∙ ap (each_once same_defined) (sym (texts_said xs) ∙ ap (filter_map defined_said) saids.texts ∙ sym (places-said 0 us)))
