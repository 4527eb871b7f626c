-- Decoding is exact.
use Rattle.std.proofs.Common.{◌≡◌, ℕ, suc, List, [], ◌∷◌, ◌++◌, map, length, Bool, true, false, ◌&&◌, cond, ltb, refl, sym, ap, subst, ◌∙◌, arith, Option, Some, None}
use Rattle.std.specs.List.{AllByRecursion, flat_map}
use Rattle.std.proofs.lemmas.Bool.{and_parts, and_from, ltb-false, le-ltb}
use Rattle.pl_terms.specs.Trees.{Tree, var, int, atom, comp, Trees, nil, cons, count, renamed, all_renamed}
use Rattle.pl_ops.specs.Tables.{same_text}
use Rattle.pl_terms.specs.Occurrence.{first_after, from_to}
use Rattle.unit_model.specs.Facts.{Indicator, OperatorOf, Need, What, exports, reexports_all, reexports, has_modes, declares, imports_all, imports, clause, Entry, Section, Facts, names_of, facts_by, operator_by, need_by, entry_by, section_by, what_by, indicator_by, tree_names, trees_names, need_names, what_names, section_names}
use Rattle.unit_model.specs.Encoding.{distinct_after, table_of, text_at, text_place, IsInOrder, holds_text, unless_held}
use Rattle.unit_model.specs.Validity.{Text, IsName, IsValid, IsUnit, keeps_rules, FitsTree, FitTrees, FitsIndicator, FitsOperator, FitsWhat, FitsEntry, FitsNeed, FitsSection, FitsFacts}
use Rattle.pl_atoms.proofs.Texts.{same_text-is, same_text-itself}
use Rattle.unit_format.specs.Reading.{◌>>=◌, Raw, raw_of}
use Rattle.unit_format.specs.Decoding.{is_in_order, facts_of, if_valid, decoded, DecodingIsExact}
use Rattle.unit_format.proofs.FieldLaws.{IsBytes, bind_some, IsPlace}
use Rattle.unit_format.proofs.UnitLaws.{FitsRaw, raw_takes, raw_again}
use Rattle.unit_format.proofs.NameLaws.{are_utf8, are_distinct, names_from_distinct}
use Rattle.unit_format.proofs.Places.{by_places, table_is, placed_facts, text_place_le, new_are, table_new}

-- ---- what fits under other names

module _ {N M : Type 0} (P : N → Type 0) (Q : M → Type 0) (g : N → M) (keeps : (x : N) → P x → Q (g x)) where
  count-by : (ts : Trees N) → count (all_renamed g ts) ≡ count ts
  count-by nil = refl
  count-by (cons t ts) = ap suc (count-by ts)

  mutual
    tree_by : (t : Tree N) → FitsTree P t → FitsTree Q (renamed g t)
    tree_by (var n) h = h
    tree_by (int z) h = h
    tree_by (atom s) h = keeps s h
    tree_by (comp s ts) h = (keeps s h.0, omega (arith, count-by ts, h.1), omega (arith, count-by ts, h.2), trees_by ts h.3)

    trees_by : (ts : Trees N) → FitTrees P ts → FitTrees Q (all_renamed g ts)
    trees_by nil h = tt
    trees_by (cons t ts) h = (tree_by t h.0, trees_by ts h.1)

  length-by : {A B : Type 0} (f : A → B) (xs : List A) → length (map f xs) ≡ length xs
  length-by f [] = refl
  length-by f (x ∷ xs) = ap suc (length-by f xs)

  all_by : {A B : Type 0} (f : A → B) (R : A → Type 0) (S : B → Type 0) → ((a : A) → R a → S (f a)) → (xs : List A) → AllByRecursion R xs → AllByRecursion S (map f xs)
  all_by f R S step [] h = tt
  all_by f R S step (x ∷ xs) h = (step x h.0, all_by f R S step xs h.1)

  an_indicator : (i : Indicator N) → FitsIndicator P i → FitsIndicator Q (indicator_by g i)
  an_indicator i h = record { name = keeps i.name h.name; arity = h.arity }

  an_operator : (o : OperatorOf N) → FitsOperator P o → FitsOperator Q (operator_by g o)
  an_operator o h = record { priority = h.priority; name = keeps o.name h.name }

  a_need : (n : Need N) → FitsNeed P n → FitsNeed Q (need_by g n)
  a_need n h = record { byte = h.byte; of = keeps n.of h.of; length = omega (arith, length-by (operator_by g) n.operators, h.length); operators = all_by (operator_by g) (FitsOperator P) (FitsOperator Q) an_operator n.operators h.operators }

  a_what : (w : What N) → FitsWhat P w → FitsWhat Q (what_by g w)
  a_what (exports i) h = an_indicator i h
  a_what (reexports_all m) h = keeps m h
  a_what (reexports m i) h = (keeps m h.0, an_indicator i h.1)
  a_what (has_modes s ms) h = (keeps s h.0, h.1)
  a_what (declares o) h = an_operator o h
  a_what (imports_all m) h = keeps m h
  a_what (imports m i) h = (keeps m h.0, an_indicator i h.1)
  a_what (clause n t u) h = (h.0, tree_by t h.1, tree_by u h.2)

  an_entry : (e : Entry N) → FitsEntry P e → FitsEntry Q (entry_by g e)
  an_entry e h = record { byte = h.byte; what = a_what e.what h.what }

  a_section : (s : Section N) → FitsSection P s → FitsSection Q (section_by g s)
  a_section s h = record { byte = h.byte; of = keeps s.of h.of; length = omega (arith, length-by (entry_by g) s.entries, h.length); entries = all_by (entry_by g) (FitsEntry P) (FitsEntry Q) an_entry s.entries h.entries }

  pub facts_fit : (f : Facts N) → FitsFacts P f → FitsFacts Q (facts_by g f)
  facts_fit f h = record {
    needs_length = omega (arith, length-by (need_by g) f.needs, h.needs_length);
    needs = all_by (need_by g) (FitsNeed P) (FitsNeed Q) a_need f.needs h.needs;
    sections_length = omega (arith, length-by (section_by g) f.sections, h.sections_length);
    sections = all_by (section_by g) (FitsSection P) (FitsSection Q) a_section f.sections h.sections;
  }

-- ---- the names of facts that fit

module _ {N : Type 0} (P : N → Type 0) where
  AllBy-append : (xs ys : List N) → AllByRecursion P xs → AllByRecursion P ys → AllByRecursion P (xs ++ ys)
  AllBy-append [] ys a b = b
  AllBy-append (x ∷ xs) ys a b = (a.0, AllBy-append xs ys a.1 b)

  parts_all : {A : Type 0} (f : A → List N) (Fits : A → Type 0) → ((a : A) → Fits a → AllByRecursion P (f a)) → (xs : List A) → AllByRecursion Fits xs → AllByRecursion P (flat_map f xs)
  parts_all f Fits step [] h = tt
  parts_all f Fits step (x ∷ xs) h = AllBy-append (f x) (flat_map f xs) (step x h.0) (parts_all f Fits step xs h.1)

  mutual
    tree_all : (t : Tree N) → FitsTree P t → AllByRecursion P (tree_names t)
    tree_all (var n) h = tt
    tree_all (int z) h = tt
    tree_all (atom s) h = (h, tt)
    tree_all (comp s ts) h = (h.0, trees_all ts h.3)

    trees_all : (ts : Trees N) → FitTrees P ts → AllByRecursion P (trees_names ts)
    trees_all nil h = tt
    trees_all (cons t ts) h = AllBy-append (tree_names t) (trees_names ts) (tree_all t h.0) (trees_all ts h.1)

  operators_all : (os : List (OperatorOf N)) → AllByRecursion (FitsOperator P) os → AllByRecursion P (map (λ o. o.name) os)
  operators_all [] h = tt
  operators_all (o ∷ os) h = (h.0.name, operators_all os h.1)

  what_all : (w : What N) → FitsWhat P w → AllByRecursion P (what_names w)
  what_all (exports i) h = (h.name, tt)
  what_all (reexports_all m) h = (h, tt)
  what_all (reexports m i) h = (h.0, (h.1.name, tt))
  what_all (has_modes s ms) h = (h.0, tt)
  what_all (declares o) h = (h.name, tt)
  what_all (imports_all m) h = (h, tt)
  what_all (imports m i) h = (h.0, (h.1.name, tt))
  what_all (clause n t u) h = AllBy-append (tree_names t) (tree_names u) (tree_all t h.1) (tree_all u h.2)

  pub names_all : (f : Facts N) → FitsFacts P f → AllByRecursion P (names_of f)
  names_all f h =
      AllBy-append (flat_map need_names f.needs) (flat_map section_names f.sections)
      (parts_all need_names (FitsNeed P) (λ n k. (k.of, operators_all n.operators k.operators)) f.needs h.needs)
      (parts_all section_names (FitsSection P) (λ s k. (k.of, parts_all (λ e. what_names e.what) (FitsEntry P) (λ e l. what_all e.what l.what) s.entries k.entries)) f.sections h.sections)

pub distinct_all : (P : Text → Type 0) (seen ss : List Text) → AllByRecursion P ss → AllByRecursion P (distinct_after seen ss)
distinct_all P seen [] h = tt
distinct_all P seen (s ∷ ss) h = go (holds_text s seen) (distinct_all P (s ∷ seen) ss h.1)
  where
    go : (b : Bool) → AllByRecursion P (distinct_after (s ∷ seen) ss) → AllByRecursion P (unless_held b s (distinct_after (s ∷ seen) ss))
    go true ih = ih
    go false ih = (h.0, ih)

-- ---- both ways

guard_is : {A : Type 0} (b : Bool) (o : Option A) (y : A) → cond b None o ≡ Some y → (b ≡ false) × (o ≡ Some y)
guard_is true o y h = absurd cc
guard_is false o y h = (refl, h)

valid_is : {A : Type 0} (b : Bool) (x y : A) → cond b (Some x) None ≡ Some y → (b ≡ true) × (x ≡ y)
valid_is true x y h = (refl, cc)
valid_is false x y h = absurd cc

found : (bytes : List ℕ) (r : Raw) → IsBytes bytes → decoded bytes ≡ Some r → IsUnit (facts_of r) bytes × IsInOrder r.names r.facts
unfolding decoded
found bytes r fits e =
    let g = guard_is (ltb 67108864 (length bytes)) (raw_of bytes >>= if_valid) r e in
    let a = bind_some (raw_of bytes) if_valid r g.1 in
    let raw = a.0 in
    let v = valid_is (is_in_order raw && keeps_rules (facts_of raw)) raw r a.2 in
    let t = raw_takes bytes raw fits a.1 in
    let both = and_parts (is_in_order raw) (keeps_rules (facts_of raw)) v.0 in
    let order : IsInOrder raw.names raw.facts = record {
      used = same_text-is (first_after [] (names_of raw.facts)) (from_to 0 (length raw.names)) both.0;
      distinct = new_are [] raw.names (are_distinct raw.names t.0.names.1);
    } in
    let table : table_of (facts_of raw) ≡ raw.names = table_is raw.names raw.facts order in
    let valid : IsValid (facts_of raw) = record {
      fits = facts_fit IsPlace IsName (text_at raw.names) (λ n h. are_utf8 [] raw.names t.0.names.1 n) raw.facts t.0.facts;
      names = omega (arith, ap length table, t.0.names.0);
      rules = both.1;
    } in
    let unit : IsUnit (facts_of raw) bytes = record { valid = valid; spelled = t.1 ∙ sym (by_places raw.names raw.facts order); within = ltb-false 67108864 (length bytes) g.0 } in
    subst (λ (q : Raw). IsUnit (facts_of q) bytes × IsInOrder q.names q.facts) v.1 (unit, order)

only : (bytes : List ℕ) (f : Facts Text) → IsUnit f bytes → (r : Raw) × (decoded bytes ≡ Some r) × (facts_of r ≡ f)
unfolding decoded
only bytes f unit =
    let names = table_of f in
    let facts : Facts ℕ = facts_by (text_place names) f in
    let r : Raw = record { names = names; facts = facts } in
    let p = placed_facts f in
    let all : AllByRecursion IsName names = distinct_all IsName [] (names_of f) (names_all IsName f unit.valid.fits) in
    let fit : FitsRaw r = record {
      names = (unit.valid.names, names_from_distinct names all (table_new (names_of f)));
      facts = facts_fit IsName IsPlace (text_place names) (λ s h. omega (arith, text_place_le names s, unit.valid.names)) f unit.valid.fits;
    } in
    let read : raw_of bytes ≡ Some r = ap raw_of unit.spelled ∙ raw_again r fit in
    let short : ltb 67108864 (length bytes) ≡ false = le-ltb _ _ unit.within in
    let order : is_in_order r ≡ true = subst (λ l. same_text l (from_to 0 (length names)) ≡ true) (sym p.0.used) (same_text-itself (from_to 0 (length names))) in
    let rules : keeps_rules (facts_of r) ≡ true = subst (λ g. keeps_rules g ≡ true) (sym p.1) unit.valid.rules in
    let passes = and_from (is_in_order r) (keeps_rules (facts_of r)) order rules in
    (r, ap (λ b. cond b None (raw_of bytes >>= if_valid)) short ∙ ap (λ o. o >>= if_valid) read ∙ ap (λ b. cond b (Some r) None) passes, p.1)

pub exact : DecodingIsExact
exact = record { found = found; only = only }
