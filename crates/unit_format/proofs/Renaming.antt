-- Facts under other names and back.
use Rattle.std.proofs.Common.{◌≡◌, ℕ, List, [], ◌∷◌, ◌++◌, map, refl, sym, ap, ◌∙◌}
use Rattle.std.specs.List.{flat_map, AllByRecursion}
use Rattle.pl_terms.specs.Trees.{Tree, var, int, atom, comp, Trees, nil, cons, renamed, all_renamed}
use Rattle.unit_model.specs.Facts.{Indicator, OperatorOf, Need, What, exports, reexports_all, reexports, has_modes, declares, imports_all, imports, clause, Entry, SectionKind, Section, Facts, tree_names, trees_names, need_names, what_names, section_names, names_of, indicator_by, operator_by, need_by, what_by, entry_by, section_by, facts_by}

pub AllBy-parts : {X : Type 0} (P : X → Type 0) (xs ys : List X) → AllByRecursion P (xs ++ ys) → AllByRecursion P xs × AllByRecursion P ys
AllBy-parts P [] ys h = (tt, h)
AllBy-parts P (x ∷ xs) ys h = let r = AllBy-parts P xs ys h.1 in ((h.0, r.0), r.1)

pub map-append : {A B : Type 0} (g : A → B) (xs ys : List A) → map g (xs ++ ys) ≡ map g xs ++ map g ys
map-append g [] ys = refl
map-append {A} {B} g (x ∷ xs) ys = ap (λ (l : List B). g x ∷ l) (map-append g xs ys)

module _ {N M : Type 0} (g : N → M) (k : M → N) where
  abbrev pub Back : N → Type 0
  Back x = k (g x) ≡ x

  abbrev AllBack : List N → Type 0
  AllBack = AllByRecursion Back

  mutual
    tree_back : (t : Tree N) → AllBack (tree_names t) → renamed k (renamed g t) ≡ t
    tree_back (var n) h = refl
    tree_back (int z) h = refl
    tree_back (atom s) h = ap atom h.0
    tree_back (comp s ts) h = ap (λ x. comp x (all_renamed k (all_renamed g ts))) h.0 ∙ ap (comp s) (trees_back ts h.1)

    trees_back : (ts : Trees N) → AllBack (trees_names ts) → all_renamed k (all_renamed g ts) ≡ ts
    trees_back nil h = refl
    trees_back (cons t ts) h =
        let p = AllBy-parts Back (tree_names t) (trees_names ts) h in
        ap (λ x. cons x (all_renamed k (all_renamed g ts))) (tree_back t p.0) ∙ ap (cons t) (trees_back ts p.1)

  abbrev indicator : ℕ → N → Indicator N
  indicator a s = record { name = s; arity = a }

  indicator_back : (i : Indicator N) → Back i.name → indicator_by k (indicator_by g i) ≡ i
  indicator_back i h = ap (indicator i.arity) h

  abbrev an_operator : OperatorOf N → N → OperatorOf N
  an_operator o s = record { op = o.op; name = s }

  operator_back : (o : OperatorOf N) → Back o.name → operator_by k (operator_by g o) ≡ o
  operator_back o h = ap (an_operator o) h

  operators_back : (os : List (OperatorOf N)) → AllBack (map (λ o. o.name) os) → map (operator_by k) (map (operator_by g) os) ≡ os
  operators_back [] h = refl
  operators_back (o ∷ os) h = ap (λ x. x ∷ map (operator_by k) (map (operator_by g) os)) (operator_back o h.0) ∙ ap (λ (l : List (OperatorOf N)). o ∷ l) (operators_back os h.1)

  abbrev a_need : ℕ → N → List (OperatorOf N) → Need N
  a_need b m os = record { byte = b; of = m; operators = os }

  need_back : (n : Need N) → AllBack (need_names n) → need_by k (need_by g n) ≡ n
  need_back n h = ap (λ m. a_need n.byte m (map (operator_by k) (map (operator_by g) n.operators))) h.0 ∙ ap (a_need n.byte n.of) (operators_back n.operators h.1)

  needs_back : (ns : List (Need N)) → AllBack (flat_map need_names ns) → map (need_by k) (map (need_by g) ns) ≡ ns
  needs_back [] h = refl
  needs_back (n ∷ ns) h =
      let p = AllBy-parts Back (need_names n) (flat_map need_names ns) h in
      ap (λ x. x ∷ map (need_by k) (map (need_by g) ns)) (need_back n p.0) ∙ ap (λ (l : List (Need N)). n ∷ l) (needs_back ns p.1)

  what_back : (w : What N) → AllBack (what_names w) → what_by k (what_by g w) ≡ w
  what_back (exports i) h = ap exports (indicator_back i h.0)
  what_back (reexports_all m) h = ap reexports_all h.0
  what_back (reexports m i) h = ap (λ x. reexports x (indicator_by k (indicator_by g i))) h.0 ∙ ap (reexports m) (indicator_back i h.1.0)
  what_back (has_modes s ms) h = ap (λ x. has_modes x ms) h.0
  what_back (declares o) h = ap declares (operator_back o h.0)
  what_back (imports_all m) h = ap imports_all h.0
  what_back (imports m i) h = ap (λ x. imports x (indicator_by k (indicator_by g i))) h.0 ∙ ap (imports m) (indicator_back i h.1.0)
  what_back (clause n t u) h =
      let p = AllBy-parts Back (tree_names t) (tree_names u) h in
      ap (λ x. clause n x (renamed k (renamed g u))) (tree_back t p.0) ∙ ap (clause n t) (tree_back u p.1)

  abbrev an_entry : ℕ → What N → Entry N
  an_entry b w = record { byte = b; what = w }

  entries_back : (es : List (Entry N)) → AllBack (flat_map (λ e. what_names e.what) es) → map (entry_by k) (map (entry_by g) es) ≡ es
  entries_back [] h = refl
  entries_back (e ∷ es) h =
      let p = AllBy-parts Back (what_names e.what) (flat_map (λ e. what_names e.what) es) h in
      ap (λ x. an_entry e.byte x ∷ map (entry_by k) (map (entry_by g) es)) (what_back e.what p.0) ∙ ap (λ (l : List (Entry N)). e ∷ l) (entries_back es p.1)

  abbrev a_section : SectionKind → ℕ → N → List (Entry N) → Section N
  a_section c b m es = record { kind = c; byte = b; of = m; entries = es }

  section_back : (s : Section N) → AllBack (section_names s) → section_by k (section_by g s) ≡ s
  section_back s h = ap (λ m. a_section s.kind s.byte m (map (entry_by k) (map (entry_by g) s.entries))) h.0 ∙ ap (a_section s.kind s.byte s.of) (entries_back s.entries h.1)

  sections_back : (ss : List (Section N)) → AllBack (flat_map section_names ss) → map (section_by k) (map (section_by g) ss) ≡ ss
  sections_back [] h = refl
  sections_back (s ∷ ss) h =
      let p = AllBy-parts Back (section_names s) (flat_map section_names ss) h in
      ap (λ x. x ∷ map (section_by k) (map (section_by g) ss)) (section_back s p.0) ∙ ap (λ (l : List (Section N)). s ∷ l) (sections_back ss p.1)

  abbrev some_facts : List (Need N) → List (Section N) → Facts N
  some_facts ns ss = record { needs = ns; sections = ss }

  pub facts_back : (f : Facts N) → AllByRecursion Back (names_of f) → facts_by k (facts_by g f) ≡ f
  facts_back f h =
      let p = AllBy-parts Back (flat_map need_names f.needs) (flat_map section_names f.sections) h in
      ap (λ x. some_facts x (map (section_by k) (map (section_by g) f.sections))) (needs_back f.needs p.0) ∙ ap (some_facts f.needs) (sections_back f.sections p.1)

-- ---- the names of facts under other names

module _ {N M : Type 0} (g : N → M) where
  mutual
    tree_names-by : (t : Tree N) → tree_names (renamed g t) ≡ map g (tree_names t)
    tree_names-by (var n) = refl
    tree_names-by (int z) = refl
    tree_names-by (atom s) = refl
    tree_names-by (comp s ts) = ap (λ (l : List M). g s ∷ l) (trees_names-by ts)

    trees_names-by : (ts : Trees N) → trees_names (all_renamed g ts) ≡ map g (trees_names ts)
    trees_names-by nil = refl
    trees_names-by (cons t ts) =
        ap (λ l. l ++ trees_names (all_renamed g ts)) (tree_names-by t) ∙ ap (λ l. map g (tree_names t) ++ l) (trees_names-by ts) ∙ sym (map-append g (tree_names t) (trees_names ts))

  operators_names-by : (os : List (OperatorOf N)) → map (λ o. o.name) (map (operator_by g) os) ≡ map g (map (λ o. o.name) os)
  operators_names-by [] = refl
  operators_names-by (o ∷ os) = ap (λ (l : List M). g o.name ∷ l) (operators_names-by os)

  what_names-by : (w : What N) → what_names (what_by g w) ≡ map g (what_names w)
  what_names-by (exports i) = refl
  what_names-by (reexports_all m) = refl
  what_names-by (reexports m i) = refl
  what_names-by (has_modes s ms) = refl
  what_names-by (declares o) = refl
  what_names-by (imports_all m) = refl
  what_names-by (imports m i) = refl
  what_names-by (clause n t u) =
      ap (λ l. l ++ tree_names (renamed g u)) (tree_names-by t) ∙ ap (λ l. map g (tree_names t) ++ l) (tree_names-by u) ∙ sym (map-append g (tree_names t) (tree_names u))

  -- one part after another
  names-by : {A B : Type 0} (f : A → List N) (h : B → List M) (made : A → B) → ((a : A) → h (made a) ≡ map g (f a)) → (xs : List A) → flat_map h (map made xs) ≡ map g (flat_map f xs)
  names-by f h made same [] = refl
  names-by f h made same (x ∷ xs) = ap (λ l. l ++ flat_map h (map made xs)) (same x) ∙ ap (λ l. map g (f x) ++ l) (names-by f h made same xs) ∙ sym (map-append g (f x) (flat_map f xs))

  pub names_of-by : (f : Facts N) → names_of (facts_by g f) ≡ map g (names_of f)
  names_of-by f =
      let a = names-by need_names need_names (need_by g) (λ n. ap (λ (l : List M). g n.of ∷ l) (operators_names-by n.operators)) f.needs in
      let b = names-by section_names section_names (section_by g) (λ s. ap (λ (l : List M). g s.of ∷ l) (names-by (λ e. what_names e.what) (λ e. what_names e.what) (entry_by g) (λ e. what_names-by e.what) s.entries)) f.sections in
      ap (λ l. l ++ flat_map section_names (map (section_by g) f.sections)) a ∙ ap (λ l. map g (flat_map need_names f.needs) ++ l) b ∙ sym (map-append g (flat_map need_names f.needs) (flat_map section_names f.sections))
