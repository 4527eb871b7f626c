-- Needs that no earlier unit meets, unit by unit.
use Rattle.std.proofs.Common.{◌≡◌, ℕ, ◌+◌, ◌<◌, ◌≤◌, List, [], ◌∷◌, ◌++◌, length, map, take, get_or, slice_index, fold, Bool, true, false, cond, not, ◌||◌, refl, sym, ap, subst, ◌∙◌, arith, append_assoc, length-append, Option, Some, None}
use Rattle.std.specs.List.{AllByRecursion, flat_map, filter_map, list_any, cons_option}
use Rattle.std.proofs.lemmas.List.{append-nil, take_all, map-append}
use Rattle.std.proofs.lemmas.List.Concat.{flat_map-append}
use Rattle.std.proofs.lemmas.List.Elements.{filter_map-append}
use Rattle.std.proofs.lemmas.List.Folds.{list_any-append}
use Rattle.std.proofs.lemmas.List.Sums.{fold_push}
use Rattle.indexmap.specs.IndexSet.{insert_key}
use Rattle.pl_atoms.specs.Names.{AreDistinct, Remaps}
use Rattle.pl_atoms.proofs.Numbers.{length-Remaps}
use Rattle.unit_model.specs.Facts.{OperatorOf, Need as NeedOf, Facts, operator_by, need_by, what_by, entry_by, section_by}
use Rattle.unit_model.specs.Directives.{Text}
use Rattle.unit_model.specs.Encoding.{text_at}
use Rattle.unit_model.specs.Preparing.{Interface, is_interface, operator_in, operators_of}
use Rattle.unit_model.specs.Views.{op_view, ops_view, need_view, what_view, entries_view, kind_view, section_view}
use Rattle.unit_model.specs.declared.facts.OpDecl.{OpDecl}
use Rattle.unit_model.specs.declared.facts.Need.{Need}
use Rattle.unit_model.specs.declared.facts.What.{What}
use Rattle.unit_model.specs.declared.facts.What.TheVariants.{Export, ReexportAll, Reexport, Meta, Operator, ImportAll, Import, Clause}
use Rattle.unit_model.specs.declared.facts.Entry.{Entry}
use Rattle.unit_model.specs.declared.facts.Section.{Section}
use Rattle.unit_format.specs.Rules.{op_in}
use Rattle.unit_format.specs.Uses.{op_uses, need_uses, what_uses, entry_uses, section_uses}
use Rattle.unit_format.specs.Views.{unit_facts}
use Rattle.unit_format.specs.declared.unit.Unit.{Unit as ReadUnit}
use Rattle.unit_format.proofs.Renaming.{AllBy-parts}
use Rattle.unit_model.specs.Known.{interface_of, interfaces_of}
use Rattle.mod_visible.specs.Placing.{AllBelow}
use Rattle.link_model.specs.Faults.{fault, only_if, meets}
use Rattle.mod_faults.specs.declared.fault.Fault.{Fault}
use Rattle.mod_faults.specs.declared.needs.Mark.{Mark}
use Rattle.mod_faults.specs.Views.{fault_view, faults_view}
use Rattle.mod_faults.specs.Passing.{Passes}
use Rattle.mod_faults.specs.Needing.{mark, same_stamp, marks_by, stamp_by, unmet_by, learned, fits, AreOperatorsBelow, AreStamps, unmet_in, Known, Knows, unmets}
use Rattle.mod_faults.proofs.Units.{AllBy-at, more_taken, sections_below, needs_below, get_or-itself}
use Rattle.mod_faults.proofs.Tables.{text_there, number_there}
use Rattle.mod_faults.proofs.Stamps.{stamps_more, stamps_none}
use Rattle.mod_faults.proofs.Passing.{passes-none, passes-more, passes-one}

-- ---- stamps operator by operator

marks_by-append : (f : ℕ → ℕ) (os ps : List OpDecl) → marks_by f (os ++ ps) ≡ marks_by f os ++ marks_by f ps
marks_by-append f os ps =
    ap (λ l. map mark (map (operator_by f) l)) (map-append op_view os ps)
    ∙ ap (map mark) (map-append (operator_by f) (ops_view os) (ops_view ps))
    ∙ map-append mark (map (operator_by f) (ops_view os)) (map (operator_by f) (ops_view ps))

stamp_by-append : (f : ℕ → ℕ) (m : ℕ) (os ps : List OpDecl) → stamp_by f m (os ++ ps) ≡ stamp_by f m os ++ marks_by f ps
stamp_by-append f m os ps = ap (λ (l : List Mark). record { priority = 0; kind = 0; name = f m } ∷ l) (marks_by-append f os ps)

pub stamp-more : (f : ℕ → ℕ) (m : ℕ) (os : List OpDecl) (k : ℕ) (o : OpDecl) (marks new : List Mark) → k < length os → o ≡ get_or os k o → marks ≡ stamp_by f m (take k os) → new ≡ marks ++ mark (operator_by f (op_view o)) ∷ [] → new ≡ stamp_by f m (take (k + 1) os)
stamp-more f m os k o marks new lt is h step =
    step ∙ ap (λ l. l ++ mark (operator_by f (op_view o)) ∷ []) h ∙ sym (stamp_by-append f m (take k os) (o ∷ [])) ∙ ap (stamp_by f m) (sym (more_taken os k o lt is))

pub stamp-entry : (f : ℕ → ℕ) (m : ℕ) (es : List Entry) (k : ℕ) (e : Entry) (marks new : List Mark) → k < length es → e ≡ get_or es k e → marks ≡ stamp_by f m (filter_map op_in (take k es)) → new ≡ marks ++ marks_by f (filter_map op_in (e ∷ [])) → new ≡ stamp_by f m (filter_map op_in (take (k + 1) es))
stamp-entry f m es k e marks new lt is h step =
    step ∙ ap (λ l. l ++ marks_by f (filter_map op_in (e ∷ []))) h ∙ sym (stamp_by-append f m (filter_map op_in (take k es)) (filter_map op_in (e ∷ [])))
    ∙ ap (stamp_by f m) (sym (filter_map-append op_in (take k es) (e ∷ []))) ∙ ap (λ l. stamp_by f m (filter_map op_in l)) (sym (more_taken es k e lt is))

-- ---- names of operators are below

pub ops_below : (n : ℕ) (os : List OpDecl) → AllBelow n (flat_map op_uses os) → AllByRecursion (λ o. o.name.0 < n) os
ops_below n [] h = tt
ops_below n (o ∷ os) h = (h.0, ops_below n os h.1)

pub op_below : (n : ℕ) (os : List OpDecl) (k : ℕ) (o : OpDecl) → k < length os → o ≡ get_or os k o → AllBelow n (flat_map op_uses os) → o.name.0 < n
op_below n os k o lt is h = AllBy-at (λ (x : OpDecl). x.name.0 < n) os k o lt is (ops_below n os h)

abbrev op_of : What → Option OpDecl
op_of w = op_in (record { byte = 0; what = w })

entry_ops_below : (n : ℕ) (w : What) → AllBelow n (what_uses w) → AllByRecursion (λ o. o.name.0 < n) (cons_option (op_of w) [])
entry_ops_below n (Export i) h = tt
entry_ops_below n (ReexportAll m) h = tt
entry_ops_below n (Reexport m i) h = tt
entry_ops_below n (Meta s ms) h = tt
entry_ops_below n (Operator o) h = (h.0, tt)
entry_ops_below n (ImportAll m) h = tt
entry_ops_below n (Import m i) h = tt
entry_ops_below n (Clause w t u) h = tt

some_more : {A : Type 0} (P : A → Type 0) (o : Option A) (xs : List A) → AllByRecursion P (cons_option o []) → AllByRecursion P xs → AllByRecursion P (cons_option o xs)
some_more P None xs h k = k
some_more P (Some x) xs h k = (h.0, k)

entries_ops_below : (n : ℕ) (es : List Entry) → AllBelow n (flat_map entry_uses es) → AllByRecursion (λ o. o.name.0 < n) (filter_map op_in es)
entries_ops_below n [] h = tt
entries_ops_below n (e ∷ es) h =
    let p = AllBy-parts (λ (k : ℕ). k < n) (entry_uses e) (flat_map entry_uses es) h in
    some_more (λ (o : OpDecl). o.name.0 < n) (op_of e.what) (filter_map op_in es) (entry_ops_below n e.what p.0) (entries_ops_below n es p.1)

pub entry_below : (n : ℕ) (es : List Entry) (k : ℕ) (e : Entry) → k < length es → e ≡ get_or es k e → AllBelow n (flat_map entry_uses es) → AllByRecursion (λ o. o.name.0 < n) (filter_map op_in (e ∷ []))
entry_below n es k e lt is h = AllBy-at (λ (x : Entry). AllByRecursion (λ (o : OpDecl). o.name.0 < n) (cons_option (op_of x.what) [])) es k e lt is (each es h)
  where
    each : (xs : List Entry) → AllBelow n (flat_map entry_uses xs) → AllByRecursion (λ (x : Entry). AllByRecursion (λ (o : OpDecl). o.name.0 < n) (cons_option (op_of x.what) [])) xs
    each [] h = tt
    each (x ∷ xs) h = let p = AllBy-parts (λ (i : ℕ). i < n) (entry_uses x) (flat_map entry_uses xs) h in (entry_ops_below n x.what p.0, each xs p.1)

-- ---- one unit under the names of all

entry_operators : (g : ℕ → Text) (w : What) (os : List OpDecl) → operator_in (what_by g (what_view w)) ++ map (operator_by g) (ops_view os) ≡ map (operator_by g) (ops_view (cons_option (op_of w) os))
entry_operators g (Export i) os = refl
entry_operators g (ReexportAll m) os = refl
entry_operators g (Reexport m i) os = refl
entry_operators g (Meta s ms) os = refl
entry_operators g (Operator o) os = refl
entry_operators g (ImportAll m) os = refl
entry_operators g (Import m i) os = refl
entry_operators g (Clause n t u) os = refl

operators_of-view : (g : ℕ → Text) (es : List Entry) → operators_of (map (entry_by g) (entries_view es)) ≡ map (operator_by g) (ops_view (filter_map op_in es))
operators_of-view g [] = refl
operators_of-view g (e ∷ es) = ap (λ l. operator_in (what_by g (what_view e.what)) ++ l) (operators_of-view g es) ∙ entry_operators g e.what (filter_map op_in es)

list_any-flat_map : {A B : Type 0} (p : B → Bool) (h : A → List B) (xs : List A) → list_any p (flat_map h xs) ≡ list_any (λ x. list_any p (h x)) xs
list_any-flat_map p h [] = refl
list_any-flat_map p h (x ∷ xs) = list_any-append p (h x) (flat_map h xs) ∙ ap (λ b. list_any p (h x) || b) (list_any-flat_map p h xs)

view_if : (b : Bool) (f : Fault) → faults_view (cond b [] (f ∷ [])) ≡ only_if (not b) (fault_view f)
view_if true f = refl
view_if false f = refl

module _ (names from : List Text) (numbers : List ℕ) (distinct : AreDistinct names) (e : Remaps from names numbers) where
  abbrev f : ℕ → ℕ
  f = slice_index numbers

  abbrev T : ℕ → Text
  T = text_at names

  abbrev g : ℕ → Text
  g = text_at from

  abbrev operator_with : OperatorOf ℕ → Text → OperatorOf Text
  operator_with o s = record { op = o.op; name = s }

  ops_texts : (os : List OpDecl) → AllByRecursion (λ o. o.name.0 < length numbers) os → map (operator_by T) (map (operator_by f) (ops_view os)) ≡ map (operator_by g) (ops_view os)
  ops_texts [] h = refl
  ops_texts (o ∷ os) h =
      ap (λ x. operator_with (op_view o) x ∷ map (operator_by T) (map (operator_by f) (ops_view os))) (text_there from names numbers e o.name.0 h.0)
      ∙ ap (λ (l : List (OperatorOf Text)). operator_by g (op_view o) ∷ l) (ops_texts os h.1)

  ops_there : (os : List OpDecl) → AllByRecursion (λ o. o.name.0 < length numbers) os → AreOperatorsBelow (length names) (map (operator_by f) (ops_view os))
  ops_there [] h = tt
  ops_there (o ∷ os) h = (number_there from names numbers e o.name.0 h.0, ops_there os h.1)

  abbrev an_interface : Text → List (OperatorOf Text) → Interface
  an_interface m os = record { of = m; operators = os }

  abbrev interface_here : Section → Interface
  interface_here s = an_interface (g s.module.0) (operators_of (map (entry_by g) (entries_view s.entries)))

  one_learned : (stamps : List (List Mark)) (is : List Interface) (s : Section) → AllBelow (length numbers) (section_uses s) → AreStamps names stamps is
      → AreStamps names (insert_key same_stamp stamps (stamp_by f s.module.0 (filter_map op_in s.entries))) (is ++ interface_here s ∷ [])
  one_learned stamps is s below h =
      let os = filter_map op_in s.entries in
      let os_below = entries_ops_below (length numbers) s.entries below.1 in
      let same : an_interface (T (f s.module.0)) (map (operator_by T) (map (operator_by f) (ops_view os))) ≡ interface_here s =
      ap (λ m. an_interface m (map (operator_by T) (map (operator_by f) (ops_view os)))) (text_there from names numbers e s.module.0 below.0)
      ∙ ap (an_interface (g s.module.0)) (ops_texts os os_below ∙ sym (operators_of-view g s.entries)) in
      subst (λ (i : Interface). AreStamps names (insert_key same_stamp stamps (stamp_by f s.module.0 os)) (is ++ i ∷ [])) same
      (stamps_more names distinct stamps is (f s.module.0) (map (operator_by f) (ops_view os)) (number_there from names numbers e s.module.0 below.0) (ops_there os os_below) h)

  abbrev interfaces_here : List Section → List Interface
  interfaces_here ss = filter_map interface_of (map (section_by g) (map section_view ss))

  all_learned : (ss : List Section) → AllByRecursion (λ s. AllBelow (length numbers) (section_uses s)) ss → (stamps : List (List Mark)) (is : List Interface) → AreStamps names stamps is → AreStamps names (fold (learned f) stamps ss) (is ++ interfaces_here ss)
  all_learned [] below stamps is h = subst (AreStamps names stamps) (sym (append-nil is)) h
  all_learned (s ∷ ss) below stamps is h = go (is_interface (kind_view s.kind)) (all_learned ss below.1)
    where
      go : (b : Bool) → ((st : List (List Mark)) (js : List Interface) → AreStamps names st js → AreStamps names (fold (learned f) st ss) (js ++ interfaces_here ss))
          → AreStamps names (fold (learned f) (cond b (insert_key same_stamp stamps (stamp_by f s.module.0 (filter_map op_in s.entries))) stamps) ss) (is ++ cons_option (cond b (Some (interface_here s)) None) (interfaces_here ss))
      go false ih = ih stamps is h
      go true ih =
          let next = insert_key same_stamp stamps (stamp_by f s.module.0 (filter_map op_in s.entries)) in
          subst (AreStamps names (fold (learned f) next ss)) (append_assoc is (interface_here s ∷ []) (interfaces_here ss))
          (ih next (is ++ interface_here s ∷ []) (one_learned stamps is s below.0 h))

  abbrev need_here : Need → NeedOf Text
  need_here n = need_by g (need_view n)

  need_met : (stamps : List (List Mark)) (before : List (Facts Text)) (n : Need) → AllBelow (length numbers) (need_uses n) → AreStamps names stamps (flat_map interfaces_of before)
      → list_any (same_stamp (stamp_by f n.module.0 n.ops)) stamps ≡ list_any (meets (need_here n)) before
  need_met stamps before n below h =
      let os_below = ops_below (length numbers) n.ops below.1 in
      h (f n.module.0) (map (operator_by f) (ops_view n.ops)) (number_there from names numbers e n.module.0 below.0) (ops_there n.ops os_below)
      ∙ ap (λ m. list_any (fits m (map (operator_by T) (map (operator_by f) (ops_view n.ops)))) (flat_map interfaces_of before)) (text_there from names numbers e n.module.0 below.0)
      ∙ ap (λ os. list_any (fits (g n.module.0) os) (flat_map interfaces_of before)) (ops_texts n.ops os_below)
      ∙ list_any-flat_map (fits (g n.module.0) (map (operator_by g) (ops_view n.ops))) interfaces_of before

  needs_unmet : (k : ℕ) (stamps : List (List Mark)) (before : List (Facts Text)) → AreStamps names stamps (flat_map interfaces_of before) → (ns : List Need) → AllByRecursion (λ n. AllBelow (length numbers) (need_uses n)) ns
      → faults_view (flat_map (unmet_by k f stamps) ns) ≡ unmet_in k before (map (need_by g) (map need_view ns))
  needs_unmet k stamps before h [] below = refl
  needs_unmet k stamps before h (n ∷ ns) below =
      let one : Fault = record { number = 2; unit = k; byte = n.byte } in
      map-append fault_view (unmet_by k f stamps n) (flat_map (unmet_by k f stamps) ns)
      ∙ ap (λ l. l ++ faults_view (flat_map (unmet_by k f stamps) ns)) (view_if (list_any (same_stamp (stamp_by f n.module.0 n.ops)) stamps) one ∙ ap (λ b. only_if (not b) (fault k n.byte 2)) (need_met stamps before n below.0 h))
      ∙ ap (λ l. only_if (not (list_any (meets (need_here n)) before)) (fault k n.byte 2) ++ l) (needs_unmet k stamps before h ns below.1)

abbrev pub known : ℕ → List (List Mark) → Known
known k stamps = record { unit = k; stamps = stamps }

pub unit_passes : (names : List Text) (distinct : AreDistinct names) (u : ReadUnit) (numbers : List ℕ) → Remaps u.names names numbers → (k : ℕ) (stamps stamps' : List (List Mark)) (old new : List Fault)
    → new ≡ old ++ flat_map (unmet_by k (slice_index numbers) stamps) u.facts.needs → stamps' ≡ fold (learned (slice_index numbers)) stamps u.facts.sections
    → Passes (Knows names) unmets (unit_facts u ∷ []) (known k stamps) (known (k + 1) stamps') (faults_view old) (faults_view new)
unit_passes names distinct u numbers e k stamps stamps' old new faults learnt =
    let long : length u.names ≡ length numbers = sym (length-Remaps u.names names numbers e) in
    let needs = subst (λ n. AllByRecursion (λ x. AllBelow n (need_uses x)) u.facts.needs) long (needs_below u.names u.facts u.valid) in
    let sections = subst (λ n. AllByRecursion (λ x. AllBelow n (section_uses x)) u.facts.sections) long (sections_below u.names u.facts u.valid) in
    passes-one (Knows names) unmets (unit_facts u) (known k stamps) (known (k + 1) stamps') (faults_view old) (faults_view new) (λ before h.
    let count : k + 1 ≡ length (before ++ unit_facts u ∷ []) = omega (arith, h.unit, length-append before (unit_facts u ∷ [])) in
    let all : flat_map interfaces_of (before ++ unit_facts u ∷ []) ≡ flat_map interfaces_of before ++ interfaces_of (unit_facts u) =
    flat_map-append interfaces_of before (unit_facts u ∷ []) ∙ ap (λ l. flat_map interfaces_of before ++ l) (append-nil (interfaces_of (unit_facts u))) in (
      record {
        unit = count;
        stamps = subst (AreStamps names stamps') (sym all) (subst (λ s. AreStamps names s (flat_map interfaces_of before ++ interfaces_of (unit_facts u))) (sym learnt)
            (all_learned names u.names numbers distinct e u.facts.sections sections stamps (flat_map interfaces_of before) h.stamps));
      },
      ap faults_view faults ∙ map-append fault_view old (flat_map (unmet_by k (slice_index numbers) stamps) u.facts.needs)
          ∙ ap (λ l. faults_view old ++ l) (needs_unmet names u.names numbers distinct e k stamps before h.stamps u.facts.needs needs)
          ∙ ap (λ n. faults_view old ++ unmet_in n before (unit_facts u).needs) h.unit,
    ))

-- ---- unit by unit

pub passes-unit : (names : List Text) (units : List ReadUnit) (k : ℕ) (u : ReadUnit) (first s s' : Known) (old new last : List Fault) → k < length units → u ≡ get_or units k u
    → Passes (Knows names) unmets (map unit_facts (take k units)) first s (faults_view old) (faults_view new) → Passes (Knows names) unmets (unit_facts u ∷ []) s s' (faults_view new) (faults_view last)
    → Passes (Knows names) unmets (map unit_facts (take (k + 1) units)) first s' (faults_view old) (faults_view last)
passes-unit names units k u first s s' old new last lt is p q =
    subst (λ (l : List (Facts Text)). Passes (Knows names) unmets l first s' (faults_view old) (faults_view last)) (sym (ap (map unit_facts) (more_taken units k u lt is) ∙ map-append unit_facts (take k units) (u ∷ [])))
    (passes-more (Knows names) unmets (map unit_facts (take k units)) (unit_facts u ∷ []) first s s' (faults_view old) (faults_view new) (faults_view last) p q)

pub passes-start : (names : List Text) (stamps : List (List Mark)) (old : List Fault) → Passes (Knows names) unmets [] (known 0 stamps) (known 0 stamps) (faults_view old) (faults_view old)
passes-start names stamps old = passes-none (Knows names) unmets (known 0 stamps) (faults_view old)

pub passes-units : (names : List Text) (units : List ReadUnit) (k : ℕ) (stamps : List (List Mark)) (s : Known) (old new : List Fault) → length units ≤ k → stamps ≡ [] → Passes (Knows names) unmets (map unit_facts (take k units)) (known 0 stamps) s (faults_view old) (faults_view new)
    → faults_view new ≡ faults_view old ++ Rattle.link_model.specs.Faults.unmet (map unit_facts units)
passes-units names units k stamps s old new le none p =
    let whole = subst (λ l. Passes (Knows names) unmets (map unit_facts l) (known 0 stamps) s (faults_view old) (faults_view new)) (take_all k units le) p in
    (whole [] (record { unit = refl; stamps = subst (λ l. AreStamps names l []) (sym none) (stamps_none names) })).1

-- ---- loops

pub flat-more : {A B : Type 0} (h : A → List B) (xs : List A) (k : ℕ) (x : A) (old out new : List B) → k < length xs → x ≡ get_or xs k x → out ≡ old ++ flat_map h (take k xs) → new ≡ out ++ h x → new ≡ old ++ flat_map h (take (k + 1) xs)
flat-more h xs k x old out new lt is so_far step =
    step ∙ ap (λ l. l ++ h x) so_far ∙ append_assoc old (flat_map h (take k xs)) (h x)
    ∙ ap (λ l. old ++ (flat_map h (take k xs) ++ l)) (sym (append-nil (h x)))
    ∙ ap (λ l. old ++ l) (sym (flat_map-append h (take k xs) (x ∷ []))) ∙ ap (λ l. old ++ flat_map h l) (sym (more_taken xs k x lt is))

pub flat-all : {A B : Type 0} (h : A → List B) (xs : List A) (k : ℕ) (old out : List B) → length xs ≤ k → out ≡ old ++ flat_map h (take k xs) → out ≡ old ++ flat_map h xs
flat-all h xs k old out le so_far = so_far ∙ ap (λ l. old ++ flat_map h l) (take_all k xs le)

pub fold-more : {A B : Type 0} (h : B → A → B) (b : B) (xs : List A) (k : ℕ) (x : A) (out new : B) → k < length xs → x ≡ get_or xs k x → out ≡ fold h b (take k xs) → new ≡ h out x → new ≡ fold h b (take (k + 1) xs)
fold-more h b xs k x out new lt is so_far step =
    step ∙ ap (λ o. h o x) so_far ∙ sym (fold_push h b (take k xs) x) ∙ ap (fold h b) (sym (more_taken xs k x lt is))

-- ---- elements that are copied

pub op_below-at : (n : ℕ) (os : List OpDecl) (k : ℕ) (d : OpDecl) → k < length os → AllBelow n (flat_map op_uses os) → (get_or os k d).name.0 < n
op_below-at n os k d lt h = op_below n os k (get_or os k d) lt (get_or-itself os k d lt) h

pub stamp-more-at : (f : ℕ → ℕ) (m : ℕ) (os : List OpDecl) (k : ℕ) (d : OpDecl) (marks new : List Mark) → k < length os → marks ≡ stamp_by f m (take k os) → new ≡ marks ++ mark (operator_by f (op_view (get_or os k d))) ∷ [] → new ≡ stamp_by f m (take (k + 1) os)
stamp-more-at f m os k d marks new lt h step = stamp-more f m os k (get_or os k d) marks new lt (get_or-itself os k d lt) h step
