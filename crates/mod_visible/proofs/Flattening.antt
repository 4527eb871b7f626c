-- The entries of a unit mean the same under the names of all units, and those of earlier units stay the same where the names grow.
use mathlib.Core.Bool.{Bool-set}
use Rattle.std.proofs.Common.{◌≡◌, ℕ, suc, ◌+◌, ◌<◌, ◌≤◌, List, [], ◌∷◌, ◌++◌, length, map, take, get_or, slice_index, Bool, true, false, cond, ltb, ltb-true, lt-ltb, refl, sym, ap, subst, ◌∙◌, arith, append_assoc}
use Rattle.std.proofs.Math.Logic.{∥∥₁_elim}
use Rattle.std.specs.List.{AllByRecursion, flat_map, list_any, list_all}
use Rattle.std.proofs.lemmas.Bool.{and_parts, and_from}
use Rattle.std.proofs.lemmas.Cmp.{nat_list_eq_equiv}
use Rattle.std.proofs.lemmas.List.{append-nil, take_all, length-map, length-take, map-append}
use Rattle.std.proofs.lemmas.Map.Keys.{IsDistinct-push}
use Rattle.std.proofs.lemmas.Option.{get_or_from_slice_get, slice_get_within}
use Rattle.pl_atoms.specs.Names.{same_text, with_text, with_texts, AreDistinct, IsFront, Remaps}
use Rattle.pl_atoms.proofs.Numbers.{IsFront-grown, get_or-front, slice_get-Remaps, length-Remaps, length-front}
use Rattle.pl_terms.specs.Trees.{Tree, var, int, atom, comp, count, renamed, all_renamed}
use Rattle.unit_model.specs.Facts.{Indicator, Facts as FactsOf, tree_names, names_of, indicator_by, what_by, entry_by, section_by}
use Rattle.unit_model.specs.Directives.{Text}
use Rattle.unit_model.specs.Encoding.{text_at}
use Rattle.unit_model.specs.Validity.{FitsSection, FitsEntry}
use Rattle.unit_model.specs.Views.{ind_view, what_view, entry_view, entries_view, section_view, facts_view}
use Rattle.unit_model.specs.declared.facts.What.{What}
use Rattle.unit_model.specs.declared.facts.What.TheVariants.{Export, ReexportAll, Reexport, Meta, Operator, ImportAll, Import, Clause}
use Rattle.unit_model.specs.declared.facts.Entry.{Entry}
use Rattle.unit_model.specs.declared.facts.Section.{Section}
use Rattle.unit_model.specs.declared.facts.Facts.{Facts}
use Rattle.unit_format.specs.Units.{IsUnitOf}
use Rattle.unit_format.specs.Uses.{what_uses, entry_uses, need_uses, section_uses, facts_uses}
use Rattle.unit_format.specs.Spelling.{IsPlace}
use Rattle.unit_format.specs.Views.{unit_facts}
use Rattle.unit_format.specs.declared.unit.Unit.{Unit as ReadUnit}
use Rattle.unit_format.proofs.Renaming.{AllBy-parts}
use Rattle.unit_format.proofs.UseLaws.{names_of-view}
use Rattle.unit_format.proofs.Fit.{fits}
use Rattle.unit_format.proofs.Places.{are_new, in_range}
use Rattle.link_model.specs.Places.{Role as RoleOf, defining, exporting, reexporting_all, reexporting, moding, importing_all, importing, idle, Placed as PlacedOf, defined_by, role_of, place_of, places_in, places_from, places_of}
use Rattle.mod_visible.specs.declared.placed.Placed.{Placed}
use Rattle.mod_visible.specs.Placing.{AllBelow, IsBelow, ModesFit, EntryFits, SectionFits, IsFlat, places_view, role_by, placed_by, texts_in, role_names}
use Rattle.mod_visible.proofs.Placing.{count-all_renamed, placed_entries, placed_sections, more_taken}

-- ---- one unit under the names of all

all_append : {A : Type 0} (P : A → Type 0) (xs ys : List A) → AllByRecursion P xs → AllByRecursion P ys → AllByRecursion P (xs ++ ys)
all_append P [] ys a b = b
all_append P (x ∷ xs) ys a b = (a.0, all_append P xs ys a.1 b)

pub text_there : (names into : List Text) (numbers : List ℕ) → Remaps names into numbers → (n : ℕ) → n < length numbers → text_at into (slice_index numbers n) ≡ text_at names n
text_there names into numbers e n lt = get_or_from_slice_get into (get_or numbers n 0) (get_or names n []) [] (slice_get-Remaps names into numbers e n (omega (arith, length-Remaps names into numbers e)))

pub number_there : (names into : List Text) (numbers : List ℕ) → Remaps names into numbers → (n : ℕ) → n < length numbers → slice_index numbers n < length into
number_there names into numbers e n lt = slice_get_within into (get_or numbers n 0) (get_or names n []) (slice_get-Remaps names into numbers e n (omega (arith, length-Remaps names into numbers e)))

abbrev made_ind : {N : Type 0} → N → ℕ → Indicator N
made_ind s n = record { name = s; arity = n }

abbrev with_role : {N : Type 0} → PlacedOf N → N → RoleOf N → PlacedOf N
with_role p m r = record { unit = p.unit; section = p.section; byte = p.byte; of = m; role = r }

module _ (names into : List Text) (numbers : List ℕ) (e : Remaps names into numbers) where
  abbrev number : ℕ → ℕ
  number = slice_index numbers

  abbrev same : (n : ℕ) → n < length numbers → text_at into (number n) ≡ text_at names n
  same = text_there names into numbers e

  abbrev here : (n : ℕ) → n < length numbers → number n < length into
  here = number_there names into numbers e

  ind-texts : (i : Indicator ℕ) → i.name < length numbers → indicator_by (text_at into) (indicator_by number i) ≡ indicator_by (text_at names) i
  ind-texts i lt = ap (λ (s : Text). made_ind s i.arity) (same i.name lt)

  head-texts : (t : Tree ℕ) → AllBelow (length numbers) (tree_names t) → role_by (text_at into) (defined_by (renamed number t)) ≡ defined_by (renamed (text_at names) t)
  head-texts (var n) h = refl
  head-texts (int z) h = refl
  head-texts (atom s) h = ap (λ (x : Text). defining (made_ind x 0)) (same s h.0)
  head-texts (comp s ts) h =
      ap (λ (x : Text). defining (made_ind x (count (all_renamed number ts)))) (same s h.0)
      ∙ ap (λ n. defining (made_ind (text_at names s) n)) (count-all_renamed number ts ∙ sym (count-all_renamed (text_at names) ts))

  role-texts : (w : What) → AllBelow (length numbers) (what_uses w) → role_by (text_at into) (role_of (what_by number (what_view w))) ≡ role_of (what_by (text_at names) (what_view w))
  role-texts (Export i) h = ap exporting (ind-texts (ind_view i) h.0)
  role-texts (ReexportAll m) h = ap reexporting_all (same m.0 h.0)
  role-texts (Reexport m i) h = ap (λ x. reexporting x (indicator_by (text_at into) (indicator_by number (ind_view i)))) (same m.0 h.0) ∙ ap (reexporting (text_at names m.0)) (ind-texts (ind_view i) h.1.0)
  role-texts (Meta s ms) h = ap (λ (x : Text). moding (made_ind x (length ms))) (same s.0 h.0)
  role-texts (Operator o) h = refl
  role-texts (ImportAll m) h = ap importing_all (same m.0 h.0)
  role-texts (Import m i) h = ap (λ x. importing x (indicator_by (text_at into) (indicator_by number (ind_view i)))) (same m.0 h.0) ∙ ap (importing (text_at names m.0)) (ind-texts (ind_view i) h.1.0)
  role-texts (Clause n t u) h = head-texts t (AllBy-parts (λ k. k < length numbers) (tree_names t) (tree_names u) h).0

  head-below : (t : Tree ℕ) → AllBelow (length numbers) (tree_names t) → AllBelow (length into) (role_names (defined_by (renamed number t)))
  head-below (var n) h = tt
  head-below (int z) h = tt
  head-below (atom s) h = (here s h.0, tt)
  head-below (comp s ts) h = (here s h.0, tt)

  role-below : (w : What) → AllBelow (length numbers) (what_uses w) → AllBelow (length into) (role_names (role_of (what_by number (what_view w))))
  role-below (Export i) h = (here i.name.0 h.0, tt)
  role-below (ReexportAll m) h = (here m.0 h.0, tt)
  role-below (Reexport m i) h = (here m.0 h.0, (here i.name.0 h.1.0, tt))
  role-below (Meta s ms) h = (here s.0 h.0, tt)
  role-below (Operator o) h = tt
  role-below (ImportAll m) h = (here m.0 h.0, tt)
  role-below (Import m i) h = (here m.0 h.0, (here i.name.0 h.1.0, tt))
  role-below (Clause n t u) h = head-below t (AllBy-parts (λ k. k < length numbers) (tree_names t) (tree_names u) h).0

  entries-texts : (u k m : ℕ) → m < length numbers → (es : List Entry) → AllByRecursion (EntryFits (length numbers)) es
      → texts_in into (placed_entries number u k (number m) es) ≡ map (place_of u k (text_at names m)) (map (entry_by (text_at names)) (entries_view es))
  entries-texts u k m lt [] h = refl
  entries-texts u k m lt (x ∷ es) h =
      let p = place_of u k (text_at names m) (entry_by (text_at names) (entry_view x)) in
      let r = role_by (text_at into) (role_of (what_by number (what_view x.what))) in
      ap (λ y. with_role p y r ∷ texts_in into (placed_entries number u k (number m) es)) (same m lt)
      ∙ ap (λ y. with_role p (text_at names m) y ∷ texts_in into (placed_entries number u k (number m) es)) (role-texts x.what h.0.names)
      ∙ ap (λ (l : List (PlacedOf Text)). p ∷ l) (entries-texts u k m lt es h.1)

  entries-below : (u k m : ℕ) → m < length numbers → (es : List Entry) → AllByRecursion (EntryFits (length numbers)) es → AllByRecursion (IsBelow (length into)) (placed_entries number u k (number m) es)
  entries-below u k m lt [] h = tt
  entries-below u k m lt (x ∷ es) h = ((here m lt, role-below x.what h.0.names), entries-below u k m lt es h.1)

  abbrev sections_of : ℕ → ℕ → List Section → List (PlacedOf ℕ)
  sections_of u k ss = places_from u k (map (section_by number) (map section_view ss))

  sections-texts : (u k : ℕ) (ss : List Section) → AllByRecursion (SectionFits (length numbers)) ss → texts_in into (sections_of u k ss) ≡ places_from u k (map (section_by (text_at names)) (map section_view ss))
  sections-texts u k [] h = refl
  sections-texts u k (s ∷ ss) h =
      map-append (placed_by (text_at into)) (placed_entries number u k (number s.module.0) s.entries) (sections_of u (suc k) ss)
      ∙ ap (λ l. l ++ texts_in into (sections_of u (suc k) ss)) (entries-texts u k s.module.0 h.0.of s.entries h.0.entries)
      ∙ ap (λ l. places_in u k (section_by (text_at names) (section_view s)) ++ l) (sections-texts u (suc k) ss h.1)

  sections-below : (u k : ℕ) (ss : List Section) → AllByRecursion (SectionFits (length numbers)) ss → AllByRecursion (IsBelow (length into)) (sections_of u k ss)
  sections-below u k [] h = tt
  sections-below u k (s ∷ ss) h = all_append (IsBelow (length into)) (placed_entries number u k (number s.module.0) s.entries) (sections_of u (suc k) ss) (entries-below u k s.module.0 h.0.of s.entries h.0.entries) (sections-below u (suc k) ss h.1)

-- ---- the entries of a unit keep what is asked of them

modes_fit : (w : What) → Rattle.unit_model.specs.Validity.FitsWhat IsPlace (what_view w) → ModesFit w
modes_fit (Export i) h = tt
modes_fit (ReexportAll m) h = tt
modes_fit (Reexport m i) h = tt
modes_fit (Meta s ms) h = h.1
modes_fit (Operator o) h = tt
modes_fit (ImportAll m) h = tt
modes_fit (Import m i) h = tt
modes_fit (Clause n t u) h = tt

all_entries : (n : ℕ) (es : List Entry) → AllBelow n (flat_map entry_uses es) → AllByRecursion (FitsEntry IsPlace) (entries_view es) → AllByRecursion (EntryFits n) es
all_entries n [] h k = tt
all_entries n (x ∷ es) h k =
    let p = AllBy-parts (λ (i : ℕ). i < n) (entry_uses x) (flat_map entry_uses es) h in
    (record { names = p.0; modes = modes_fit x.what k.0.what }, all_entries n es p.1 k.1)

all_sections : (n : ℕ) (ss : List Section) → AllBelow n (flat_map section_uses ss) → AllByRecursion (FitsSection IsPlace) (map section_view ss) → AllByRecursion (SectionFits n) ss
all_sections n [] h k = tt
all_sections n (s ∷ ss) h k =
    let p = AllBy-parts (λ (i : ℕ). i < n) (section_uses s) (flat_map section_uses ss) h in
    (record { of = p.0.0; entries = all_entries n s.entries p.0.1 k.0.entries }, all_sections n ss p.1 k.1)

from_test : (n : ℕ) (ks : List ℕ) → list_all (λ k. ltb k n) ks ≡ true → AllBelow n ks
from_test n [] h = tt
from_test n (k ∷ ks) h = let p = and_parts (ltb k n) (list_all (λ k. ltb k n) ks) h in (ltb-true k n p.0, from_test n ks p.1)

to_test : (n : ℕ) (ks : List ℕ) → AllBelow n ks → list_all (λ k. ltb k n) ks ≡ true
to_test n [] h = refl
to_test n (k ∷ ks) h = and_from (ltb k n) (list_all (λ k. ltb k n) ks) (lt-ltb k n h.0) (to_test n ks h.1)

names_below : (names : List Text) (f : Facts) → ∥ IsUnitOf names f ∥₁ → AllBelow (length names) (facts_uses f)
names_below names f h =
    let uses = names_of (facts_view f) in
    subst (AllBelow (length names)) (names_of-view f)
    (from_test (length names) uses (∥∥₁_elim h (Bool-set (list_all (λ k. ltb k (length names)) uses) true)
    (λ u. to_test (length names) uses (in_range names (are_new [] names u.order.distinct) uses u.order.used))))

pub unit_sections : (names : List Text) (f : Facts) → ∥ IsUnitOf names f ∥₁ → AllByRecursion (SectionFits (length names)) f.sections
unit_sections names f h =
    all_sections (length names) f.sections (AllBy-parts (λ (i : ℕ). i < length names) (flat_map need_uses f.needs) (flat_map section_uses f.sections) (names_below names f h)).1 (fits names f h).facts.sections

-- ---- where the names grow

below-more : (n m : ℕ) → n ≤ m → (ks : List ℕ) → AllBelow n ks → AllBelow m ks
below-more n m le [] h = tt
below-more n m le (k ∷ ks) h = (omega (arith, h.0), below-more n m le ks h.1)

places-below-more : (n m : ℕ) → n ≤ m → (ps : List (PlacedOf ℕ)) → AllByRecursion (IsBelow n) ps → AllByRecursion (IsBelow m) ps
places-below-more n m le [] h = tt
places-below-more n m le (p ∷ ps) h = ((omega (arith, h.0.0), below-more n m le (role_names p.role) h.0.1), places-below-more n m le ps h.1)

module _ (names more : List Text) (front : IsFront names more) where
  kept : (n : ℕ) → n < length names → text_at more n ≡ text_at names n
  kept = get_or-front names more front

  ind-kept : (i : Indicator ℕ) → i.name < length names → indicator_by (text_at more) i ≡ indicator_by (text_at names) i
  ind-kept i lt = ap (λ (s : Text). made_ind s i.arity) (kept i.name lt)

  role-kept : (r : RoleOf ℕ) → AllBelow (length names) (role_names r) → role_by (text_at more) r ≡ role_by (text_at names) r
  role-kept (defining i) h = ap defining (ind-kept i h.0)
  role-kept (exporting i) h = ap exporting (ind-kept i h.0)
  role-kept (reexporting_all m) h = ap reexporting_all (kept m h.0)
  role-kept (reexporting m i) h = ap (λ x. reexporting x (indicator_by (text_at more) i)) (kept m h.0) ∙ ap (reexporting (text_at names m)) (ind-kept i h.1.0)
  role-kept (moding i) h = ap moding (ind-kept i h.0)
  role-kept (importing_all m) h = ap importing_all (kept m h.0)
  role-kept (importing m i) h = ap (λ x. importing x (indicator_by (text_at more) i)) (kept m h.0) ∙ ap (importing (text_at names m)) (ind-kept i h.1.0)
  role-kept idle h = refl

  places-kept : (ps : List (PlacedOf ℕ)) → AllByRecursion (IsBelow (length names)) ps → texts_in more ps ≡ texts_in names ps
  places-kept [] h = refl
  places-kept (p ∷ ps) h =
      let q = placed_by (text_at names) p in
      ap (λ m. with_role q m (role_by (text_at more) p.role) ∷ texts_in more ps) (kept p.of h.0.0)
      ∙ ap (λ r. with_role q (text_at names p.of) r ∷ texts_in more ps) (role-kept p.role h.0.1)
      ∙ ap (λ (l : List (PlacedOf Text)). q ∷ l) (places-kept ps h.1)

distinct-with_text : (texts : List Text) (t : Text) → AreDistinct texts → AreDistinct (with_text texts t)
distinct-with_text texts t h = go (list_any (same_text t) texts) refl
  where
    go : (b : Bool) → list_any (same_text t) texts ≡ b → AreDistinct (cond b texts (texts ++ t ∷ []))
    go true e = h
    go false e = IsDistinct-push nat_list_eq_equiv texts t h e

distinct-with_texts : (ts texts : List Text) → AreDistinct texts → AreDistinct (with_texts texts ts)
distinct-with_texts [] texts h = h
distinct-with_texts (t ∷ ts) texts h = distinct-with_texts ts (with_text texts t) (distinct-with_text texts t h)

-- ---- unit by unit

places_of-append : {N : Type 0} (u : ℕ) (fs gs : List (FactsOf N)) → places_of u (fs ++ gs) ≡ places_of u fs ++ places_of (u + length fs) gs
places_of-append u [] gs = let e : u + 0 ≡ u = omega arith in ap (λ n. places_of n gs) (sym e)
places_of-append u (f ∷ fs) gs =
    let e : suc u + length fs ≡ u + suc (length fs) = omega arith in
    ap (λ l. places_from u 0 f.sections ++ l) (places_of-append (suc u) fs gs ∙ ap (λ n. places_of (suc u) fs ++ places_of n gs) e)
    ∙ sym (append_assoc (places_from u 0 f.sections) (places_of (suc u) fs) (places_of (u + suc (length fs)) gs))

pub flat_none : IsFlat [] [] []
unfolding Rattle.std.specs.List.IsDistinct
flat_none = record { distinct = tt; below = tt; places = refl }

module _ (names more : List Text) (numbers : List ℕ) (old new : List Placed) (units : List ReadUnit) (k : ℕ) (u : ReadUnit) (lt : k < length units) (is : u ≡ get_or units k u) (e : Remaps u.names more numbers) (front : IsFront names more) (grown : more ≡ with_texts names u.names) (step : places_view new ≡ places_view old ++ placed_sections (slice_index numbers) k u.facts.sections) (h : IsFlat names old (map unit_facts (take k units))) where
  sections_fit : AllByRecursion (SectionFits (length numbers)) u.facts.sections
  sections_fit = subst (λ n. AllByRecursion (SectionFits n) u.facts.sections) (sym (length-Remaps u.names more numbers e)) (unit_sections u.names u.facts u.valid)

  new_texts : texts_in more (placed_sections (slice_index numbers) k u.facts.sections) ≡ places_of k (unit_facts u ∷ [])
  new_texts = sections-texts u.names more numbers e k 0 u.facts.sections sections_fit ∙ sym (append-nil (places_from k 0 (unit_facts u).sections))

  number_is : 0 + length (map unit_facts (take k units)) ≡ k
  number_is = omega (arith, length-map (take k units) unit_facts, length-take k units)

  all_texts : texts_in more (places_view new) ≡ places_of 0 (map unit_facts (take (k + 1) units))
  all_texts =
      ap (texts_in more) step ∙ map-append (placed_by (text_at more)) (places_view old) (placed_sections (slice_index numbers) k u.facts.sections)
      ∙ ap (λ l. l ++ texts_in more (placed_sections (slice_index numbers) k u.facts.sections)) (places-kept names more front (places_view old) h.below ∙ h.places)
      ∙ ap (λ l. places_of 0 (map unit_facts (take k units)) ++ l) new_texts
      ∙ ap (λ n. places_of 0 (map unit_facts (take k units)) ++ places_of n (unit_facts u ∷ [])) (sym number_is)
      ∙ sym (places_of-append 0 (map unit_facts (take k units)) (unit_facts u ∷ []))
      ∙ ap (places_of 0) (sym (map-append unit_facts (take k units) (u ∷ [])))
      ∙ ap (λ l. places_of 0 (map unit_facts l)) (sym (more_taken units k u lt is))

  pub flat_more : IsFlat more new (map unit_facts (take (k + 1) units))
  flat_more = record {
    distinct = subst AreDistinct (sym grown) (distinct-with_texts u.names names h.distinct);
    below = subst (AllByRecursion (IsBelow (length more))) (sym step)
        (all_append (IsBelow (length more)) (places_view old) (placed_sections (slice_index numbers) k u.facts.sections)
        (places-below-more (length names) (length more) (length-front names more front) (places_view old) h.below)
        (sections-below u.names more numbers e k 0 u.facts.sections sections_fit));
    places = all_texts;
  }

pub flat_all : (names : List Text) (entries : List Placed) (units : List ReadUnit) (k : ℕ) → length units ≤ k → IsFlat names entries (map unit_facts (take k units)) → IsFlat names entries (map unit_facts units)
flat_all names entries units k le h = subst (λ l. IsFlat names entries (map unit_facts l)) (take_all k units le) h

-- one more name
pub flat_grown : (names more : List Text) (t : Text) (entries : List Placed) (units : List (FactsOf Text)) → more ≡ with_text names t → IsFlat names entries units → IsFlat more entries units
flat_grown names more t entries units grown h =
    let front = IsFront-grown names more t grown in
    record {
      distinct = subst AreDistinct (sym grown) (distinct-with_text names t h.distinct);
      below = places-below-more (length names) (length more) (length-front names more front) (places_view entries) h.below;
      places = places-kept names more front (places_view entries) h.below ∙ h.places;
    }
