-- The rules on facts in memory are the rules on the facts that they stand for.
use Rattle.std.proofs.Common.{◌≡◌, ℕ, ◌<◌, List, [], ◌∷◌, ◌++◌, map, length, Bool, true, false, not, ◌&&◌, ◌||◌, ltb, eqb, Some, None, refl, sym, ap, ◌∙◌, arith, if◌then◌else◌, eqb-true}
use Rattle.std.proofs.lemmas.Bool.{le-ltb}
use Rattle.std.specs.Prelude.{is_some}
use Rattle.std.specs.List.{list_all, filter_map, flat_map, AllByRecursion, cons_option}
use Rattle.std.proofs.lemmas.List.{get_or-map}
use Rattle.pl_ops.specs.Tables.{Class, prefix_class, infix_class, postfix_class, class_of, same_class, same_text, Declaration, operator, is_for, later_or, last_declared, unless_zero}
use Rattle.pl_ops.specs.Standard.{standard}
use Rattle.unit_model.specs.Facts.{Section as SectionOf, OperatorOf, operator_by, need_by, what_by, entry_by, section_by}
use Rattle.unit_model.specs.Encoding.{text_at, facts_in}
use Rattle.unit_model.specs.Validity.{is_user, is_system, is_interface, is_for_interface, same_bool, is_barred, begins_with_user, has_its_entries, has_other, accepts, declaration, is_accepted, operator_in, operators_of, is_clause, own_modules, holds, are_needs, names_known, knows, known_in, all_known, keeps_rules}
use Rattle.unit_model.specs.Views.{op_view, need_view, what_view, entry_view, section_view, facts_view}
use Rattle.unit_model.specs.declared.facts.OpDecl.{OpDecl}
use Rattle.unit_model.specs.declared.facts.Need.{Need}
use Rattle.unit_model.specs.declared.facts.What.{What}
use Rattle.unit_model.specs.declared.facts.What.TheVariants.{Export, ReexportAll, Reexport, Meta, Operator as Op, ImportAll, Import, Clause}
use Rattle.unit_model.specs.declared.facts.Entry.{Entry}
use Rattle.unit_model.specs.declared.facts.Section.{Section}
use Rattle.unit_model.specs.declared.facts.Facts.{Facts}
use Rattle.unit_format.specs.Uses.{op_uses, need_uses, what_uses, entry_uses, section_uses, facts_uses}
use Rattle.unit_format.specs.Rules.{Texts, Marks, opens_interface, is_reserved, begins_by, has_entries_of_kind, has_clauses, put, infix_after, postfix_after, clashes_by, refused_by, accepts_by, accepted_by, bits, no_marks, standard_infixes, op_in, interface_accepted, need_accepted, holds_id, own_id, need_ids, needs_by, known_by, entries_known_by, section_known_by, all_known_by, modules_by, rules_by}
use Rattle.unit_format.proofs.Renaming.{AllBy-parts, map-append}
use Rattle.unit_format.proofs.Places.{IsNew, at_apart}
use Rattle.unit_format.proofs.NameLaws.{same-swap}

-- ---- lists

over : {A B C : Type 0} (f : B → C) (v : A → B) (P : A → Type 0) (p : C → Bool) (q : A → Bool) → ((a : A) → P a → p (f (v a)) ≡ q a) → (xs : List A) → AllByRecursion P xs → list_all p (map f (map v xs)) ≡ list_all q xs
over f v P p q same [] h = refl
over f v P p q same (x ∷ xs) h = ap (λ b. b && list_all p (map f (map v xs))) (same x h.0) ∙ ap (λ b. q x && b) (over f v P p q same xs h.1)

over_any : {A B C : Type 0} (f : B → C) (v : A → B) (p : C → Bool) (q : A → Bool) → ((a : A) → p (f (v a)) ≡ q a) → (xs : List A) → list_all p (map f (map v xs)) ≡ list_all q xs
over_any f v p q same [] = refl
over_any f v p q same (x ∷ xs) = ap (λ b. b && list_all p (map f (map v xs))) (same x) ∙ ap (λ b. q x && b) (over_any f v p q same xs)

parts_all : {A : Type 0} (P : ℕ → Type 0) (f : A → List ℕ) (xs : List A) → AllByRecursion P (flat_map f xs) → AllByRecursion (λ x. AllByRecursion P (f x)) xs
parts_all P f [] h = tt
parts_all P f (x ∷ xs) h = let p = AllBy-parts P (f x) (flat_map f xs) h in (p.0, parts_all P f xs p.1)

-- ---- modules needed, from the front on

-- the same as `are_needs`, where each name is compared with those before it instead of those behind it
abbrev needs_forward : Texts → Texts → Bool
needs_forward before [] = true
needs_forward before (m ∷ ms) = not (is_user m || (is_system m || holds before m)) && needs_forward (m ∷ before) ms

moved : (u s e o h q r : Bool) → not (u || (s || ((e || o) || h))) && (not q && r) ≡ not (e || q) && (not (u || (s || (o || h))) && r)
moved u s true o h q r = go u s
  where
    go : (u s : Bool) → not (u || (s || true)) && (not q && r) ≡ false
    go true s = refl
    go false true = refl
    go false false = refl
moved u s false o h q r = go (not (u || (s || (o || h)))) (not q)
  where
    go : (b c : Bool) → b && (c && r) ≡ c && (b && r)
    go true c = refl
    go false true = refl
    go false false = refl

one_more : (m : List ℕ) (own ms : Texts) → are_needs (m ∷ own) ms ≡ not (holds ms m) && are_needs own ms
one_more m own [] = refl
one_more m own (x ∷ xs) =
    ap (λ b. not (is_user x || (is_system x || ((b || holds own x) || holds xs x))) && are_needs (m ∷ own) xs) (same-swap x m)
    ∙ ap (λ b. not (is_user x || (is_system x || ((same_text m x || holds own x) || holds xs x))) && b) (one_more m own xs)
    ∙ moved (is_user x) (is_system x) (same_text m x) (holds own x) (holds xs x) (holds xs m) (are_needs own xs)

apart_from : (u s o h r : Bool) → not (u || (s || (o || h))) && r ≡ not (u || (s || o)) && (not h && r)
apart_from true s o h r = refl
apart_from false true o h r = refl
apart_from false false true h r = refl
apart_from false false false h r = refl

is_forward : (own ms : Texts) → are_needs own ms ≡ needs_forward own ms
is_forward own [] = refl
is_forward own (m ∷ ms) =
    apart_from (is_user m) (is_system m) (holds own m) (holds ms m) (are_needs own ms)
    ∙ ap (λ b. not (is_user m || (is_system m || holds own m)) && b) (sym (one_more m own ms) ∙ is_forward (m ∷ own) ms)

-- ---- tables

pushed : (c : Class) (s : List ℕ) (t : List Declaration) (d : Declaration) → last_declared c s (t ++ d ∷ []) ≡ (if is_for c s d then Some d.op else last_declared c s t)
pushed c s [] d = go (is_for c s d)
  where
    go : (b : Bool) → later_or (if b then Some d.op else None) None ≡ (if b then Some d.op else None)
    go true = refl
    go false = refl
pushed c s (e ∷ t) d = ap (later_or (if is_for c s e then Some e.op else None)) (pushed c s t d) ∙ go (is_for c s d)
  where
    go : (b : Bool) → later_or (if is_for c s e then Some e.op else None) (if b then Some d.op else last_declared c s t) ≡ (if b then Some d.op else later_or (if is_for c s e then Some e.op else None) (last_declared c s t))
    go true = refl
    go false = refl

abbrev There : Class → List ℕ → List Declaration → Bool
There c s t = is_some (operator t c s)

there_pushed : (c : Class) (s : List ℕ) (t : List Declaration) (d : Declaration) → There c s (t ++ d ∷ []) ≡ (if is_for c s d then ltb 0 d.op.priority else There c s t)
there_pushed c s t d = ap (λ o. is_some (unless_zero o)) (pushed c s t d) ∙ go (is_for c s d)
  where
    above : (n : ℕ) (b : Bool) → eqb n 0 ≡ b → is_some (if b then None else Some d.op) ≡ ltb 0 n
    above n true e = let z : n ≡ 0 = eqb-true n 0 e in sym (le-ltb 0 n (omega arith))
    above n false e = grind (arith, e)

    go : (b : Bool) → is_some (unless_zero (if b then Some d.op else last_declared c s t)) ≡ (if b then ltb 0 d.op.priority else There c s t)
    go true = above d.op.priority (eqb d.op.priority 0) refl
    go false = refl

no_postfix : (s : List ℕ) → There postfix_class s standard ≡ false
unfolding standard
no_postfix s = refl

module _ (names : Texts) (new : IsNew [] names) where
  abbrev Text : ℕ → List ℕ
  Text = text_at names

  abbrev InRange : ℕ → Type 0
  InRange n = n < length names

  abbrev AllIn : List ℕ → Type 0
  AllIn = AllByRecursion InRange

  apart : (m k : ℕ) → InRange m → InRange k → same_text (Text m) (Text k) ≡ eqb m k
  apart m k p q = same-swap (Text m) (Text k) ∙ at_apart names new m k p q

  -- ---- modules

  holds_is : (ids : List ℕ) → AllIn ids → (m : ℕ) → InRange m → holds (map Text ids) (Text m) ≡ holds_id ids m
  holds_is [] h m lm = refl
  holds_is (k ∷ ids) h m lm = ap (λ b. b || holds (map Text ids) (Text m)) (apart m k lm h.0) ∙ ap (λ b. eqb m k || b) (holds_is ids h.1 m lm)

  needs_are : (before ms : List ℕ) → AllIn before → AllIn ms → needs_forward (map Text before) (map Text ms) ≡ needs_by names before ms
  needs_are before [] h k = refl
  needs_are before (m ∷ ms) h k =
      ap (λ b. not (is_user (Text m) || (is_system (Text m) || b)) && needs_forward (map Text (m ∷ before)) (map Text ms)) (holds_is before h m k.0)
      ∙ ap (λ b. not (is_user (Text m) || (is_system (Text m) || holds_id before m)) && b) (needs_are (m ∷ before) ms (k.0, h) k.1)

  abbrev section_in : Section → SectionOf (List ℕ)
  section_in s = section_by Text (section_view s)

  abbrev sections_in : List Section → List (SectionOf (List ℕ))
  sections_in ss = map (section_by Text) (map section_view ss)

  own_are : (ss : List Section) → own_modules (sections_in ss) ≡ map Text (filter_map own_id ss)
  own_are [] = refl
  own_are (s ∷ ss) = go (opens_interface s) (own_are ss)
    where
      go : (b : Bool) → own_modules (sections_in ss) ≡ map Text (filter_map own_id ss) → cons_option (if b then Some (Text s.module.0) else None) (own_modules (sections_in ss)) ≡ map Text (cons_option (if b then Some s.module.0 else None) (filter_map own_id ss))
      go true ih = ap (λ (l : Texts). Text s.module.0 ∷ l) ih
      go false ih = ih

  own_in : (ss : List Section) → AllByRecursion (λ s. AllIn (section_uses s)) ss → AllIn (filter_map own_id ss)
  own_in [] h = tt
  own_in (s ∷ ss) h = go (opens_interface s) (own_in ss h.1)
    where
      go : (b : Bool) → AllIn (filter_map own_id ss) → AllIn (cons_option (if b then Some s.module.0 else None) (filter_map own_id ss))
      go true ih = (h.0.0, ih)
      go false ih = ih

  needed_are : (ns : List Need) → map (λ n. n.of) (map (need_by Text) (map need_view ns)) ≡ map Text (need_ids ns)
  needed_are [] = refl
  needed_are (n ∷ ns) = ap (λ (l : Texts). Text n.module.0 ∷ l) (needed_are ns)

  needed_in : (ns : List Need) → AllByRecursion (λ n. AllIn (need_uses n)) ns → AllIn (need_ids ns)
  needed_in [] h = tt
  needed_in (n ∷ ns) h = (h.0.0, needed_in ns h.1)

  join_in : (xs ys : List ℕ) → AllIn xs → AllIn ys → AllIn (xs ++ ys)
  join_in [] ys h k = k
  join_in (x ∷ xs) ys h k = (h.0, join_in xs ys h.1 k)

  module _ (ids : List ℕ) (in_range : AllIn ids) where
    abbrev Known : List (List ℕ)
    Known = map Text ids

    what_known : (w : What) → AllIn (what_uses w) → names_known Known (what_by Text (what_view w)) ≡ known_by (holds_id ids) w
    what_known (Export i) h = refl
    what_known (ReexportAll m) h = holds_is ids in_range m.0 h.0
    what_known (Reexport m i) h = holds_is ids in_range m.0 h.0
    what_known (Meta s ms) h = refl
    what_known (Op o) h = refl
    what_known (ImportAll m) h = holds_is ids in_range m.0 h.0
    what_known (Import m i) h = holds_is ids in_range m.0 h.0
    what_known (Clause n t u) h = refl

    entries_are : (s : Section) → AllIn (section_uses s) → list_all (λ e. names_known Known e.what) (section_in s).entries ≡ entries_known_by (holds_id ids) s
    entries_are s h = over (entry_by Text) entry_view (λ e. AllIn (entry_uses e)) (λ e. names_known Known e.what) (λ e. known_by (holds_id ids) e.what) (λ e k. what_known e.what k) s.entries (parts_all InRange entry_uses s.entries h.1)

    section_is : (s : Section) → AllIn (section_uses s) → knows Known (section_in s) ≡ section_known_by (holds_id ids) s
    section_is s h =
        ap (λ b. (opens_interface s || b) && list_all (λ e. names_known Known e.what) (section_in s).entries) (holds_is ids in_range s.module.0 h.0)
        ∙ ap (λ b. (opens_interface s || holds_id ids s.module.0) && b) (entries_are s h)

    all_are : (ss : List Section) → AllByRecursion (λ s. AllIn (section_uses s)) ss → all_known Known (sections_in ss) ≡ all_known_by (holds_id ids) ss
    all_are [] h = refl
    all_are (s ∷ ss) h =
        ap (λ b. b && list_all (knows Known) (sections_in ss)) (entries_are s h.0)
        ∙ ap (λ b. entries_known_by (holds_id ids) s && b) (over (section_by Text) section_view (λ s. AllIn (section_uses s)) (knows Known) (section_known_by (holds_id ids)) section_is ss h.1)

  -- ---- operators

  abbrev declared : OpDecl → Declaration
  declared o = declaration (operator_by Text (op_view o))

  abbrev Agrees : Class → List Declaration → Marks → Type 0
  Agrees c t marks = (n : ℕ) → InRange n → marks n ≡ There c (Text n) t

  clash_is : (t : List Declaration) (i p : Marks) (o : OpDecl) (c : Class) → InRange o.name.0 → Agrees infix_class t i → Agrees postfix_class t p → has_other t c (Text o.name.0) ≡ clashes_by i p c o.name.0
  clash_is t i p o prefix_class lt f g = refl
  clash_is t i p o infix_class lt f g = sym (g o.name.0 lt)
  clash_is t i p o postfix_class lt f g = sym (f o.name.0 lt)

  put_is : (t : List Declaration) (marks : Marks) (o : OpDecl) (c : Class) → InRange o.name.0 → Agrees c t marks → (same : Bool) → same_class (class_of o.kind) c ≡ same → (n : ℕ) → InRange n
      → (if same then put marks o.name.0 (ltb 0 o.priority) n else marks n) ≡ There c (Text n) (t ++ declared o ∷ [])
  put_is t marks o c lt f true e n ln =
      ap (λ b. if b then ltb 0 o.priority else marks n) (sym (apart o.name.0 n lt ln))
      ∙ ap (λ b. if same_text (Text o.name.0) (Text n) then ltb 0 o.priority else b) (f n ln)
      ∙ ap (λ b. if b && same_text (Text o.name.0) (Text n) then ltb 0 o.priority else There c (Text n) t) (sym e)
      ∙ sym (there_pushed c (Text n) t (declared o))
  put_is t marks o c lt f false e n ln =
      f n ln
      ∙ ap (λ b. if b && same_text (Text o.name.0) (Text n) then ltb 0 o.priority else There c (Text n) t) (sym e)
      ∙ sym (there_pushed c (Text n) t (declared o))

  infix_is : (marks : Marks) (o : OpDecl) (c : Class) (n : ℕ) → infix_after marks o c n ≡ (if same_class c infix_class then put marks o.name.0 (ltb 0 o.priority) n else marks n)
  infix_is marks o prefix_class n = refl
  infix_is marks o infix_class n = refl
  infix_is marks o postfix_class n = refl

  postfix_is : (marks : Marks) (o : OpDecl) (c : Class) (n : ℕ) → postfix_after marks o c n ≡ (if same_class c postfix_class then put marks o.name.0 (ltb 0 o.priority) n else marks n)
  postfix_is marks o prefix_class n = refl
  postfix_is marks o infix_class n = refl
  postfix_is marks o postfix_class n = refl

  accepts_is : (os : List OpDecl) (t : List Declaration) (i p : Marks) → AllIn (flat_map op_uses os) → Agrees infix_class t i → Agrees postfix_class t p → accepts t (map declaration (map (operator_by Text) (map op_view os))) ≡ accepts_by names i p os
  accepts_is [] t i p h f g = refl
  accepts_is (o ∷ os) t i p h f g =
      ap (λ b. not (ltb 1200 o.priority || (is_barred (Text o.name.0) || (ltb 0 o.priority && b))) && accepts (t ++ declared o ∷ []) (map declaration (map (operator_by Text) (map op_view os)))) (clash_is t i p o (class_of o.kind) h.0 f g)
      ∙ ap (λ b. not (refused_by names i p o) && b)
      (accepts_is os (t ++ declared o ∷ []) (infix_after i o (class_of o.kind)) (postfix_after p o (class_of o.kind)) h.1
      (λ n ln. infix_is i o (class_of o.kind) n ∙ put_is t i o infix_class h.0 f (same_class (class_of o.kind) infix_class) refl n ln)
      (λ n ln. postfix_is p o (class_of o.kind) n ∙ put_is t p o postfix_class h.0 g (same_class (class_of o.kind) postfix_class) refl n ln))

  abbrev Standard : Marks
  Standard = bits (standard_infixes names)

  standard_is : Agrees infix_class standard Standard
  standard_is n lt = get_or-map (λ s. There infix_class s standard) names n [] false lt

  accepted_is : (os : List OpDecl) → AllIn (flat_map op_uses os) → is_accepted (map (operator_by Text) (map op_view os)) ≡ accepted_by names Standard os
  accepted_is os h = accepts_is os standard Standard no_marks h standard_is (λ n lt. sym (no_postfix (Text n)))

  ops_are : (es : List Entry) → filter_map (λ e. operator_in e.what) (map (entry_by Text) (map entry_view es)) ≡ map (operator_by Text) (map op_view (filter_map op_in es))
  ops_are [] = refl
  ops_are (e ∷ es) = go e.what (ops_are es)
    where
      go : (w : What) → filter_map (λ e. operator_in e.what) (map (entry_by Text) (map entry_view es)) ≡ map (operator_by Text) (map op_view (filter_map op_in es))
          → cons_option (operator_in (what_by Text (what_view w))) (filter_map (λ e. operator_in e.what) (map (entry_by Text) (map entry_view es))) ≡ map (operator_by Text) (map op_view (cons_option (op_in (record { byte = 0; what = w })) (filter_map op_in es)))
      go (Export i) ih = ih
      go (ReexportAll m) ih = ih
      go (Reexport m i) ih = ih
      go (Meta s ms) ih = ih
      go (Op o) ih = ap (λ (l : List (OperatorOf (List ℕ))). operator_by Text (op_view o) ∷ l) ih
      go (ImportAll m) ih = ih
      go (Import m i) ih = ih
      go (Clause n t u) ih = ih

  ops_in : (es : List Entry) → AllByRecursion (λ e. AllIn (entry_uses e)) es → AllIn (flat_map op_uses (filter_map op_in es))
  ops_in [] h = tt
  ops_in (e ∷ es) h = go e.what h.0 (ops_in es h.1)
    where
      go : (w : What) → AllIn (what_uses w) → AllIn (flat_map op_uses (filter_map op_in es)) → AllIn (flat_map op_uses (cons_option (op_in (record { byte = 0; what = w })) (filter_map op_in es)))
      go (Export i) k ih = ih
      go (ReexportAll m) k ih = ih
      go (Reexport m i) k ih = ih
      go (Meta s ms) k ih = ih
      go (Op o) k ih = (k.0, ih)
      go (ImportAll m) k ih = ih
      go (Import m i) k ih = ih
      go (Clause n t u) k ih = ih

  interface_is : (s : Section) → AllIn (section_uses s) → (not (is_interface (section_in s).kind) || is_accepted (operators_of (section_in s))) ≡ interface_accepted names Standard s
  interface_is s h =
      ap (λ os. not (opens_interface s) || is_accepted os) (ops_are s.entries)
      ∙ ap (λ b. not (opens_interface s) || b) (accepted_is (filter_map op_in s.entries) (ops_in s.entries (parts_all InRange entry_uses s.entries h.1)))

  need_is : (n : Need) → AllIn (need_uses n) → is_accepted (need_by Text (need_view n)).operators ≡ need_accepted names Standard n
  need_is n h = accepted_is n.ops h.1

  -- ---- sections

  for_interface : (w : What) → is_for_interface (what_by Text (what_view w)) ≡ is_for_interface (what_view w)
  for_interface (Export i) = refl
  for_interface (ReexportAll m) = refl
  for_interface (Reexport m i) = refl
  for_interface (Meta s ms) = refl
  for_interface (Op o) = refl
  for_interface (ImportAll m) = refl
  for_interface (Import m i) = refl
  for_interface (Clause n t u) = refl

  kinds_are : (s : Section) → has_its_entries (section_in s) ≡ has_entries_of_kind s
  kinds_are s = over_any (entry_by Text) entry_view (λ e. same_bool (opens_interface s) (is_for_interface e.what)) (λ e. same_bool (opens_interface s) (is_for_interface (what_view e.what))) (λ e. ap (same_bool (opens_interface s)) (for_interface e.what)) s.entries

  clauses_are : (s : Section) → list_all (λ e. is_clause e.what) (section_in s).entries ≡ has_clauses names s
  clauses_are s = over_any (entry_by Text) entry_view (λ e. is_clause e.what) (λ e. is_clause (what_by Text (what_view e.what))) (λ e. refl) s.entries

  begins_are : (ss : List Section) → begins_with_user (sections_in ss) ≡ begins_by names ss
  begins_are [] = refl
  begins_are (s ∷ ss) =
      ap (λ b. not (opens_interface s) && (eqb s.byte 0 && (is_user (Text s.module.0) && b))) (over_any (section_by Text) section_view (λ t. not (is_user t.of || is_system t.of)) (λ t. not (is_reserved names t)) (λ t. refl) ss)
      ∙ regroup (not (opens_interface s)) (eqb s.byte 0) (is_user (Text s.module.0)) (list_all (λ t. not (is_reserved names t)) ss)
    where
      regroup : (a b c d : Bool) → (a && (b && (c && d))) ≡ ((a && (b && c)) && d)
      regroup false b c d = refl
      regroup true false c d = refl
      regroup true true c d = refl

  -- ---- all rules

  regroup_all : (a b k i n m : Bool) → ((a && b) && (k && ((i && n) && m))) ≡ (a && (b && (i && (n && (k && m)))))
  regroup_all false b k i n m = refl
  regroup_all true false k i n m = refl
  regroup_all true true false false n m = refl
  regroup_all true true false true false m = refl
  regroup_all true true false true true m = refl
  regroup_all true true true false n m = refl
  regroup_all true true true true false m = refl
  regroup_all true true true true true m = refl

  pub rules_are : (f : Facts) → AllIn (facts_uses f) → rules_by names Standard f ≡ keeps_rules (facts_in names (facts_view f))
  rules_are f h =
      let parts = AllBy-parts InRange (flat_map need_uses f.needs) (flat_map section_uses f.sections) h in
      let ns = parts_all InRange need_uses f.needs parts.0 in
      let ss = parts_all InRange section_uses f.sections parts.1 in
      let own = own_in f.sections ss in
      let ids = filter_map own_id f.sections ++ need_ids f.needs in
      let ids_in = join_in (filter_map own_id f.sections) (need_ids f.needs) own (needed_in f.needs ns) in
      let F = facts_in names (facts_view f) in
      let a : begins_by names f.sections ≡ begins_with_user F.sections = sym (begins_are f.sections) in
      let b : list_all has_entries_of_kind f.sections ≡ list_all has_its_entries F.sections = sym (over_any (section_by Text) section_view has_its_entries has_entries_of_kind kinds_are f.sections) in
      let k : list_all (has_clauses names) f.sections ≡ list_all (λ s. list_all (λ e. is_clause e.what) s.entries) F.sections =
      sym (over_any (section_by Text) section_view (λ s. list_all (λ e. is_clause e.what) s.entries) (has_clauses names) clauses_are f.sections) in
      let i : list_all (interface_accepted names Standard) f.sections ≡ list_all (λ s. not (is_interface s.kind) || is_accepted (operators_of s)) F.sections =
      sym (over (section_by Text) section_view (λ s. AllIn (section_uses s)) (λ s. not (is_interface s.kind) || is_accepted (operators_of s)) (interface_accepted names Standard) interface_is f.sections ss) in
      let n : list_all (need_accepted names Standard) f.needs ≡ list_all (λ n. is_accepted n.operators) F.needs =
      sym (over (need_by Text) need_view (λ n. AllIn (need_uses n)) (λ n. is_accepted n.operators) (need_accepted names Standard) need_is f.needs ns) in
      let m1 : needs_by names (filter_map own_id f.sections) (need_ids f.needs) ≡ are_needs (own_modules F.sections) (map (λ n. n.of) F.needs) =
      sym (needs_are (filter_map own_id f.sections) (need_ids f.needs) own (needed_in f.needs ns))
      ∙ sym (is_forward (map Text (filter_map own_id f.sections)) (map Text (need_ids f.needs)))
      ∙ ap (λ l. are_needs l (map Text (need_ids f.needs))) (sym (own_are f.sections)) ∙ ap (are_needs (own_modules F.sections)) (sym (needed_are f.needs)) in
      let known : map Text ids ≡ known_in F =
      map-append Text (filter_map own_id f.sections) (need_ids f.needs) ∙ ap (λ l. l ++ map Text (need_ids f.needs)) (sym (own_are f.sections)) ∙ ap (λ l. own_modules F.sections ++ l) (sym (needed_are f.needs)) in
      let m2 : all_known_by (holds_id ids) f.sections ≡ all_known (known_in F) F.sections = sym (all_are ids ids_in f.sections ss) ∙ ap (λ l. all_known l F.sections) known in
      regroup_all (begins_by names f.sections) (list_all has_entries_of_kind f.sections) (list_all (has_clauses names) f.sections) (list_all (interface_accepted names Standard) f.sections) (list_all (need_accepted names Standard) f.needs) (modules_by names f)
      ∙ ap (λ x. x && (list_all has_entries_of_kind f.sections && (list_all (interface_accepted names Standard) f.sections && (list_all (need_accepted names Standard) f.needs && (list_all (has_clauses names) f.sections && modules_by names f))))) a
      ∙ ap (λ x. begins_with_user F.sections && (x && (list_all (interface_accepted names Standard) f.sections && (list_all (need_accepted names Standard) f.needs && (list_all (has_clauses names) f.sections && modules_by names f))))) b
      ∙ ap (λ x. begins_with_user F.sections && (list_all has_its_entries F.sections && (x && (list_all (need_accepted names Standard) f.needs && (list_all (has_clauses names) f.sections && modules_by names f))))) i
      ∙ ap (λ x. begins_with_user F.sections && (list_all has_its_entries F.sections && (list_all (λ s. not (is_interface s.kind) || is_accepted (operators_of s)) F.sections && (x && (list_all (has_clauses names) f.sections && modules_by names f))))) n
      ∙ ap (λ x. begins_with_user F.sections && (list_all has_its_entries F.sections && (list_all (λ s. not (is_interface s.kind) || is_accepted (operators_of s)) F.sections && (list_all (λ n. is_accepted n.operators) F.needs && (x && modules_by names f))))) k
      ∙ ap (λ x. begins_with_user F.sections && (list_all has_its_entries F.sections && (list_all (λ s. not (is_interface s.kind) || is_accepted (operators_of s)) F.sections && (list_all (λ n. is_accepted n.operators) F.needs && (list_all (λ s. list_all (λ e. is_clause e.what) s.entries) F.sections && (x && all_known_by (holds_id ids) f.sections)))))) m1
      ∙ ap (λ x. begins_with_user F.sections && (list_all has_its_entries F.sections && (list_all (λ s. not (is_interface s.kind) || is_accepted (operators_of s)) F.sections && (list_all (λ n. is_accepted n.operators) F.needs && (list_all (λ s. list_all (λ e. is_clause e.what) s.entries) F.sections && (are_needs (own_modules F.sections) (map (λ n. n.of) F.needs) && x)))))) m2
