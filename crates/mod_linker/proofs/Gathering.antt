-- Entries of units under the names of all.
use mathlib.Core.Bool.{Bool-set}
use Rattle.std.proofs.Common.{◌≡◌, ℕ, ◌+◌, ◌<◌, List, [], ◌∷◌, ◌++◌, length, map, take, get_or, slice_index, Bool, true, ◌||◌, not, refl, sym, ap, subst, ◌∙◌, arith, append_assoc}
use Rattle.std.proofs.Math.Logic.{∥∥₁_elim}
use Rattle.std.specs.List.{AllByRecursion, flat_map, list_all}
use Rattle.std.proofs.lemmas.Bool.{and_parts}
use Rattle.std.proofs.lemmas.List.{map-append}
use Rattle.std.proofs.lemmas.List.Concat.{flat_map-append}
use Rattle.pl_atoms.specs.Names.{Remaps}
use Rattle.pl_atoms.proofs.Numbers.{length-Remaps}
use Rattle.pl_terms.specs.Trees.{Tree, var, int, atom, comp, Trees, nil, cons, renamed, all_renamed}
use Rattle.unit_model.specs.Facts.{Indicator, OperatorOf, What as WhatOf, exports, reexports_all, reexports, has_modes, declares, imports_all, imports, clause, Entry as EntryOf, Section as SectionOf, Facts as FactsOf, tree_names, trees_names, what_names, what_by, entry_by, section_by}
use Rattle.unit_model.specs.Directives.{Text}
use Rattle.unit_model.specs.Encoding.{text_at, facts_in}
use Rattle.unit_model.specs.Validity.{is_interface, begins_with_user, has_its_entries, is_accepted, operators_of, is_clause, keeps_rules, FitsWhat, FitsEntry, FitsSection}
use Rattle.unit_model.specs.Views.{what_view, entry_view, entries_view, section_view, facts_view}
use Rattle.unit_model.specs.declared.facts.What.{What}
use Rattle.unit_model.specs.declared.facts.What.TheVariants.{Export, ReexportAll, Reexport, Meta, Operator, ImportAll, Import, Clause}
use Rattle.unit_model.specs.declared.facts.Entry.{Entry}
use Rattle.unit_model.specs.declared.facts.Section.{Section}
use Rattle.unit_model.specs.declared.facts.Facts.{Facts}
use Rattle.unit_format.specs.Units.{IsUnitOf}
use Rattle.unit_format.specs.Spelling.{IsPlace}
use Rattle.unit_format.specs.Uses.{what_uses, entry_uses, section_uses}
use Rattle.unit_format.proofs.Renaming.{AllBy-parts}
use Rattle.unit_format.proofs.Fit.{fits}
use Rattle.mod_visible.specs.Placing.{AllBelow, ModesFit}
use Rattle.program_model.specs.Saying.{Said, said_by, said_of, said_in}
use Rattle.mod_faults.proofs.Units.{AllBy-at, more_taken, sections_below}
use Rattle.mod_faults.proofs.Tables.{text_there, number_there}
use Rattle.mod_linker.specs.declared.items.Item.{Item}
use Rattle.mod_linker.specs.Items.{item_view, items_view, saids_of, IsEntryOf, IsSectionOf, IsNarrow, IsItem, AreItems}

-- ---- lists

pub all_append : {A : Type 0} (P : A → Type 0) (xs ys : List A) → AllByRecursion P xs → AllByRecursion P ys → AllByRecursion P (xs ++ ys)
all_append P [] ys a b = b
all_append P (x ∷ xs) ys a b = (a.0, all_append P xs ys a.1 b)

-- ---- what an entry says under the names of all

module _ (from names : List Text) (numbers : List ℕ) (e : Remaps from names numbers) where
  abbrev f : ℕ → ℕ
  f = slice_index numbers

  abbrev T : ℕ → Text
  T = text_at names

  abbrev g : ℕ → Text
  g = text_at from

  abbrev same : (n : ℕ) → n < length numbers → T (f n) ≡ g n
  same = text_there from names numbers e

  abbrev here : (n : ℕ) → n < length numbers → f n < length names
  here = number_there from names numbers e

  mutual
    tree_same : (t : Tree ℕ) → AllBelow (length numbers) (tree_names t) → renamed T (renamed f t) ≡ renamed g t
    tree_same (var n) h = refl
    tree_same (int z) h = refl
    tree_same (atom s) h = ap atom (same s h.0)
    tree_same (comp s ts) h = ap (λ x. comp x (all_renamed T (all_renamed f ts))) (same s h.0) ∙ ap (comp (g s)) (trees_same ts h.1)

    trees_same : (ts : Trees ℕ) → AllBelow (length numbers) (trees_names ts) → all_renamed T (all_renamed f ts) ≡ all_renamed g ts
    trees_same nil h = refl
    trees_same (cons t ts) h =
        let p = AllBy-parts (λ k. k < length numbers) (tree_names t) (trees_names ts) h in
        ap (λ x. cons x (all_renamed T (all_renamed f ts))) (tree_same t p.0) ∙ ap (cons (renamed g t)) (trees_same ts p.1)

  mutual
    tree_here : (t : Tree ℕ) → AllBelow (length numbers) (tree_names t) → AllBelow (length names) (tree_names (renamed f t))
    tree_here (var n) h = tt
    tree_here (int z) h = tt
    tree_here (atom s) h = (here s h.0, tt)
    tree_here (comp s ts) h = (here s h.0, trees_here ts h.1)

    trees_here : (ts : Trees ℕ) → AllBelow (length numbers) (trees_names ts) → AllBelow (length names) (trees_names (all_renamed f ts))
    trees_here nil h = tt
    trees_here (cons t ts) h =
        let p = AllBy-parts (λ k. k < length numbers) (tree_names t) (trees_names ts) h in
        all_append (λ k. k < length names) (tree_names (renamed f t)) (trees_names (all_renamed f ts)) (tree_here t p.0) (trees_here ts p.1)

  abbrev made_ind : ℕ → Text → Indicator Text
  made_ind a s = record { name = s; arity = a }

  what_same : (w : What) → AllBelow (length numbers) (what_uses w) → what_by T (what_by f (what_view w)) ≡ what_by g (what_view w)
  what_same (Export i) h = ap (λ s. exports (made_ind i.arity s)) (same i.name.0 h.0)
  what_same (ReexportAll m) h = ap reexports_all (same m.0 h.0)
  what_same (Reexport m i) h = ap (λ s. reexports s (made_ind i.arity (T (f i.name.0)))) (same m.0 h.0) ∙ ap (λ s. reexports (g m.0) (made_ind i.arity s)) (same i.name.0 h.1.0)
  what_same (Meta s ms) h = ap (λ x. has_modes x ms) (same s.0 h.0)
  what_same (Operator o) h = ap (λ (x : Text). let d : OperatorOf Text = record { op = record { priority = o.priority; kind = o.kind }; name = x } in declares d) (same o.name.0 h.0)
  what_same (ImportAll m) h = ap imports_all (same m.0 h.0)
  what_same (Import m i) h = ap (λ s. imports s (made_ind i.arity (T (f i.name.0)))) (same m.0 h.0) ∙ ap (λ s. imports (g m.0) (made_ind i.arity s)) (same i.name.0 h.1.0)
  what_same (Clause n t u) h =
      let p = AllBy-parts (λ k. k < length numbers) (tree_names t) (tree_names u) h in
      ap (λ x. clause n x (renamed T (renamed f u))) (tree_same t p.0) ∙ ap (clause n (renamed g t)) (tree_same u p.1)

  what_here : (w : What) → AllBelow (length numbers) (what_uses w) → AllBelow (length names) (what_names (what_by f (what_view w)))
  what_here (Export i) h = (here i.name.0 h.0, tt)
  what_here (ReexportAll m) h = (here m.0 h.0, tt)
  what_here (Reexport m i) h = (here m.0 h.0, (here i.name.0 h.1.0, tt))
  what_here (Meta s ms) h = (here s.0 h.0, tt)
  what_here (Operator o) h = (here o.name.0 h.0, tt)
  what_here (ImportAll m) h = (here m.0 h.0, tt)
  what_here (Import m i) h = (here m.0 h.0, (here i.name.0 h.1.0, tt))
  what_here (Clause n t u) h =
      let p = AllBy-parts (λ k. k < length numbers) (tree_names t) (tree_names u) h in
      all_append (λ k. k < length names) (tree_names (renamed f t)) (tree_names (renamed f u)) (tree_here t p.0) (tree_here u p.1)

  modes_fit : (w : What) → FitsWhat IsPlace (what_view w) → ModesFit w
  modes_fit (Export i) h = tt
  modes_fit (ReexportAll m) h = tt
  modes_fit (Reexport m i) h = tt
  modes_fit (Meta s ms) h = h.1
  modes_fit (Operator o) h = tt
  modes_fit (ImportAll m) h = tt
  modes_fit (Import m i) h = tt
  modes_fit (Clause n t u) h = tt

  is_narrow : (w : What) → FitsWhat IsPlace (what_view w) → IsNarrow (what_by f (what_view w))
  is_narrow (Export i) h = tt
  is_narrow (ReexportAll m) h = tt
  is_narrow (Reexport m i) h = tt
  is_narrow (Meta s ms) h = tt
  is_narrow (Operator o) h = tt
  is_narrow (ImportAll m) h = tt
  is_narrow (Import m i) h = tt
  is_narrow (Clause n t u) h = h.0

  long : length from ≡ length numbers
  long = sym (length-Remaps from names numbers e)

  pub item_is : (x : Item) (y : Entry) → x.remap.now ≡ numbers → x.what.now ≡ y.what → x.home.0 < length names → IsEntryOf from y → IsItem names x
  item_is x y r w home h =
      let uses : AllBelow (length numbers) (what_uses y.what) = subst (λ n. AllBelow n (what_uses y.what)) long h.uses in
      let said : what_by (slice_index x.remap.now) (what_view x.what.now) ≡ what_by f (what_view y.what) =
      ap (λ (ns : List ℕ). what_by (slice_index ns) (what_view x.what.now)) r ∙ ap (λ (z : What). what_by f (what_view z)) w in
      record {
        uses = subst (λ (ns : List ℕ). AllBelow (length ns) (what_uses x.what.now)) (sym r) (subst (λ (z : What). AllBelow (length numbers) (what_uses z)) (sym w) uses);
        modes = subst (λ (z : What). ModesFit z) (sym w) (modes_fit y.what h.fits.what);
        home = home;
        below = subst (λ (z : WhatOf ℕ). AllBelow (length names) (what_names z)) (sym said) (what_here y.what uses);
        rules = ap (λ (z : WhatOf ℕ). is_clause (what_by T z)) said ∙ ap is_clause (what_same y.what uses) ∙ h.rules;
        narrow = subst (λ (z : WhatOf ℕ). IsNarrow z) (sym said) (is_narrow y.what h.fits.what);
      }

  -- ---- the same over texts

  said_same : (m : ℕ) → m < length numbers → (es : List Entry) → AllByRecursion (IsEntryOf from) es
      → map (said_by T) (map (λ y. said_of (f m) y.what) (map (entry_by f) (entries_view es))) ≡ map (λ y. said_of (g m) y.what) (map (entry_by g) (entries_view es))
  said_same m lt [] h = refl
  said_same m lt (y ∷ es) h =
      let uses : AllBelow (length numbers) (what_uses y.what) = subst (λ n. AllBelow n (what_uses y.what)) long h.0.uses in
      ap (λ (s : Text). said_of s (what_by T (what_by f (what_view y.what))) ∷ map (said_by T) (map (λ z. said_of (f m) z.what) (map (entry_by f) (entries_view es)))) (same m lt)
      ∙ ap (λ (z : WhatOf Text). said_of (g m) z ∷ map (said_by T) (map (λ z. said_of (f m) z.what) (map (entry_by f) (entries_view es)))) (what_same y.what uses)
      ∙ ap (λ (l : List (Said Text)). said_of (g m) (what_by g (what_view y.what)) ∷ l) (said_same m lt es h.1)

  pub saids_same : (ss : List Section) → AllByRecursion (IsSectionOf from) ss → map (said_by T) (saids_of numbers ss) ≡ flat_map said_in (map (section_by g) (map section_view ss))
  saids_same [] h = refl
  saids_same (s ∷ ss) h =
      map-append (said_by T) (said_in (section_by f (section_view s))) (saids_of numbers ss)
      ∙ ap (λ l. l ++ map (said_by T) (saids_of numbers ss)) (said_same s.module.0 (subst (λ n. s.module.0 < n) long h.0.of) s.entries h.0.entries)
      ∙ ap (λ l. said_in (section_by g (section_view s)) ++ l) (saids_same ss h.1)

-- ---- a unit's sections

pub rules_of : (names : List Text) (u : Facts) → ∥ IsUnitOf names u ∥₁ → keeps_rules (facts_in names (facts_view u)) ≡ true
rules_of names u h = ∥∥₁_elim h (Bool-set (keeps_rules (facts_in names (facts_view u))) true) (λ v. v.valid.rules)

abbrev clauses_fine : SectionOf Text → Bool
clauses_fine s = list_all (λ y. is_clause y.what) s.entries

all_fine : (f : FactsOf Text) → keeps_rules f ≡ true → list_all clauses_fine f.sections ≡ true
all_fine f h =
    let a = (and_parts (begins_with_user f.sections) _ h).1 in
    let b = (and_parts (list_all has_its_entries f.sections) _ a).1 in
    let c = (and_parts (list_all (λ s. not (is_interface s.kind) || is_accepted (operators_of s)) f.sections) _ b).1 in
    let d = (and_parts (list_all (λ n. is_accepted n.operators) f.needs) _ c).1 in
    (and_parts (list_all clauses_fine f.sections) _ d).0

entries_are : (names : List Text) (es : List Entry) → AllBelow (length names) (flat_map entry_uses es) → AllByRecursion (FitsEntry IsPlace) (entries_view es) → list_all (λ y. is_clause y.what) (map (entry_by (text_at names)) (entries_view es)) ≡ true → AllByRecursion (IsEntryOf names) es
entries_are names [] h k r = tt
entries_are names (y ∷ es) h k r =
    let p = AllBy-parts (λ (i : ℕ). i < length names) (entry_uses y) (flat_map entry_uses es) h in
    let q = and_parts (is_clause (what_by (text_at names) (what_view y.what))) _ r in
    (record { uses = p.0; fits = k.0; rules = q.0 }, entries_are names es p.1 k.1 q.1)

sections_are : (names : List Text) (ss : List Section) → AllByRecursion (λ s. AllBelow (length names) (section_uses s)) ss → AllByRecursion (FitsSection IsPlace) (map section_view ss) → list_all clauses_fine (map (section_by (text_at names)) (map section_view ss)) ≡ true → AllByRecursion (IsSectionOf names) ss
sections_are names [] h k r = tt
sections_are names (s ∷ ss) h k r =
    let q = and_parts (clauses_fine (section_by (text_at names) (section_view s))) _ r in
    (record { of = h.0.0; entries = entries_are names s.entries h.0.1 k.0.entries q.0 }, sections_are names ss h.1 k.1 q.1)

pub unit_sections : (names : List Text) (u : Facts) → ∥ IsUnitOf names u ∥₁ → AllByRecursion (IsSectionOf names) u.sections
unit_sections names u h = sections_are names u.sections (sections_below names u h) (fits names u h).facts.sections (all_fine (facts_in names (facts_view u)) (rules_of names u h))

-- ---- loops

abbrev pub entries_said : (ℕ → ℕ) → ℕ → List Entry → List (Said ℕ)
entries_said f m es = map (λ y. said_of m y.what) (map (entry_by f) (entries_view es))

entries_said-append : (f : ℕ → ℕ) (m : ℕ) (xs ys : List Entry) → entries_said f m (xs ++ ys) ≡ entries_said f m xs ++ entries_said f m ys
entries_said-append f m xs ys =
    ap (λ l. map (λ (y : EntryOf ℕ). said_of m y.what) (map (entry_by f) l)) (map-append entry_view xs ys)
    ∙ ap (map (λ (y : EntryOf ℕ). said_of m y.what)) (map-append (entry_by f) (entries_view xs) (entries_view ys))
    ∙ map-append (λ (y : EntryOf ℕ). said_of m y.what) (map (entry_by f) (entries_view xs)) (map (entry_by f) (entries_view ys))

saids_of-append : (numbers : List ℕ) (xs ys : List Section) → saids_of numbers (xs ++ ys) ≡ saids_of numbers xs ++ saids_of numbers ys
saids_of-append numbers xs ys =
    ap (λ l. flat_map said_in (map (section_by (slice_index numbers)) l)) (map-append section_view xs ys)
    ∙ ap (flat_map said_in) (map-append (section_by (slice_index numbers)) (map section_view xs) (map section_view ys))
    ∙ flat_map-append said_in (map (section_by (slice_index numbers)) (map section_view xs)) (map (section_by (slice_index numbers)) (map section_view ys))

pub entry-more : (f : ℕ → ℕ) (m : ℕ) (es : List Entry) (k : ℕ) (y : Entry) (old out new : List Item) (x : Item) → k < length es → y ≡ get_or es k y → items_view out ≡ items_view old ++ entries_said f m (take k es)
    → new ≡ out ++ x ∷ [] → item_view x ≡ said_of m (what_by f (what_view y.what)) → items_view new ≡ items_view old ++ entries_said f m (take (k + 1) es)
entry-more f m es k y old out new x lt is h step view =
    ap items_view step ∙ map-append item_view out (x ∷ []) ∙ ap (λ l. l ++ item_view x ∷ []) h ∙ append_assoc (items_view old) (entries_said f m (take k es)) (item_view x ∷ [])
    ∙ ap (λ (z : Said ℕ). items_view old ++ (entries_said f m (take k es) ++ z ∷ [])) view
    ∙ ap (λ l. items_view old ++ l) (sym (entries_said-append f m (take k es) (y ∷ [])))
    ∙ ap (λ l. items_view old ++ entries_said f m l) (sym (more_taken es k y lt is))

pub section-more : (numbers : List ℕ) (ss : List Section) (k : ℕ) (s : Section) (old out new : List (Said ℕ)) → k < length ss → s ≡ get_or ss k s → out ≡ old ++ saids_of numbers (take k ss) → new ≡ out ++ saids_of numbers (s ∷ []) → new ≡ old ++ saids_of numbers (take (k + 1) ss)
section-more numbers ss k s old out new lt is h step =
    step ∙ ap (λ l. l ++ saids_of numbers (s ∷ [])) h ∙ append_assoc old (saids_of numbers (take k ss)) (saids_of numbers (s ∷ []))
    ∙ ap (λ l. old ++ l) (sym (saids_of-append numbers (take k ss) (s ∷ []))) ∙ ap (λ l. old ++ saids_of numbers l) (sym (more_taken ss k s lt is))

pub good-more : (from names : List Text) (numbers : List ℕ) (e : Remaps from names numbers) (es : List Entry) (k : ℕ) (y : Entry) (out new : List Item) (x : Item) → k < length es → y ≡ get_or es k y → x.remap.now ≡ numbers → x.what.now ≡ y.what → x.home.0 < length names
    → AllByRecursion (IsEntryOf from) es → new ≡ out ++ x ∷ [] → AreItems names out → AreItems names new
good-more from names numbers e es k y out new x lt is r w home entries step old =
    subst (AreItems names) (sym step) (all_append (IsItem names) out (x ∷ []) old (item_is from names numbers e x y r w home (AllBy-at (IsEntryOf from) es k y lt is entries), tt))

pub good-end : (from names : List Text) (numbers : List ℕ) (e : Remaps from names numbers) (s : Section) (home : ℕ) → home ≡ slice_index numbers s.module.0 → IsSectionOf from s → home < length names
good-end from names numbers e s home is h =
    subst (λ n. n < length names) (sym is) (number_there from names numbers e s.module.0 (omega (arith, h.of, length-Remaps from names numbers e)))
