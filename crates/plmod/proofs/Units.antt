-- Files that are units, and what the command `prepare` makes of them.
use Rattle.std.proofs.Common.{arith, inr, inl, ◌≡◌, ℕ, zero, suc, map, ◌+◌, ◌<◌, ◌≤◌, List, [], ◌∷◌, ◌++◌, take, length, get_or, Result, Ok, Err, IfOk, Some, None, refl, sym, ap, ◌∙◌, subst}
use Rattle.std.proofs.lemmas.Grind.{flat_map-append}
use Rattle.std.proofs.lemmas.List.{take_more, append-nil, length-map}
use Rattle.unit_model.specs.Facts.{Facts, What as WhatOf, exports, reexports_all, reexports, has_modes, declares, imports_all, imports, clause, Entry as EntryOf, Section as SectionOf, what_by, entry_by, section_by}
use Rattle.unit_model.specs.Encoding.{encoding, text_at}
use Rattle.unit_format.specs.declared.unit.Unit.{Unit as ReadUnit}
use Rattle.unit_format.specs.Views.{unit_facts}
use Rattle.prep_report.specs.Lines.{not_unit_text, prepared_text}
use Rattle.plmod.specs.declared.status.Status.TheVariants.{Done, NotUnit}
use Rattle.unit_model.specs.Views.{entry_view, entries_view, what_view, section_view}
use Rattle.unit_model.specs.declared.facts.Entry.{Entry}
use Rattle.unit_model.specs.declared.facts.Section.{Section}
use Rattle.unit_model.specs.Prepared.{Prepared, FirstFault}
use Rattle.unit_format.proofs.Renaming.{map-append}
use Rattle.unit_model.specs.Directives.{Text}
use Rattle.unit_model.specs.Preparing.{Interface}
use Rattle.unit_model.specs.Validity.{IsUnit}
use Rattle.unit_model.specs.Known.{interfaces_of}
use Rattle.pl_atoms.specs.declared.memory.NoMemory.{NoMemory}
use Rattle.plmod.specs.declared.answer.Made.{Made}
use Rattle.plmod.specs.MadeOutcome.{outcome_of}
use Rattle.plmod.specs.Outcome.{Outcome}
use Rattle.plmod.specs.Prepares.{AreUnits, no_files, one_more, FirstNoUnit, here, later, no_unit, known_from, clauses_in_entry, clauses_in_entries, clause_count, PrepareGives, faulty, fault as gives_fault, too_long, unit}
use Rattle.plmod.specs.Gathering.{UnitGives, TextGives, fault, made}

-- one more unit
pub units_push : (contents : List (List ℕ)) (fs : List (Facts Text)) (bytes : List ℕ) (f : Facts Text) → AreUnits contents fs → IsUnit f bytes
    → AreUnits (contents ++ bytes ∷ []) (fs ++ f ∷ [])
units_push [] [] bytes f no_files u = one_more u no_files
units_push [] (g ∷ gs) bytes f are u = elim are [ ]
units_push (c ∷ contents) [] bytes f are u = elim are [ ]
units_push (c ∷ contents) (g ∷ gs) bytes f (one_more v are) u = one_more v (units_push contents gs bytes f are u)

-- what stands after another file that is a unit
pub record Gathered (contents : List (List ℕ)) (known : List Interface) : Type 0 where
  pub facts : List (Facts Text)
  pub are : AreUnits contents facts
  pub know : known ≡ known_from facts

pub gathered_more : (contents : List (List ℕ)) (i : ℕ) (known : List Interface) (bytes : List ℕ) (f : Facts Text) → i < length contents → bytes ≡ get_or contents i bytes
    → IsUnit f bytes → Gathered (take i contents) known → Gathered (take (i + 1) contents) (known ++ interfaces_of f)
gathered_more contents i known bytes f h at u g =
    let P : List (List ℕ) → Type 0 = λ l. AreUnits l (g.facts ++ f ∷ []) in
    record {
      facts = g.facts ++ f ∷ [];
      are = subst P (ap (λ b. take i contents ++ b ∷ []) at ∙ sym (take_more contents i bytes h)) (units_push (take i contents) g.facts bytes f g.are u);
      know = ap (λ k. k ++ interfaces_of f) g.know
          ∙ sym (flat_map-append interfaces_of g.facts (f ∷ []) ∙ ap (λ l. known_from g.facts ++ l) (append-nil (interfaces_of f)));
    }

-- the first file that is no unit, by its place
pub first_no_unit : (names contents : List (List ℕ)) (place : ℕ) (fs : List (Facts Text)) (name : List ℕ) → length names ≡ length contents → place < length contents
    → name ≡ get_or names place name → AreUnits (take place contents) fs → ((f : Facts Text) → IsUnit f (get_or contents place []) → ⊥)
    → FirstNoUnit names contents name
first_no_unit [] [] place fs name same h at are absent = absurd (omega arith)
first_no_unit [] (c ∷ contents) place fs name same h at are absent = absurd (omega arith)
first_no_unit (n ∷ names) [] place fs name same h at are absent = absurd (omega arith)
first_no_unit (n ∷ names) (c ∷ contents) zero fs name same h at are absent =
    let P : List ℕ → Type 0 = λ m. FirstNoUnit (n ∷ names) (c ∷ contents) m in subst P (sym at) (here absent)
first_no_unit (n ∷ names) (c ∷ contents) (suc place) [] name same h at are absent = elim are [ ]
first_no_unit (n ∷ names) (c ∷ contents) (suc place) (f ∷ fs) name same h at (one_more u are) absent =
    later f u (first_no_unit names contents place fs name (omega arith) (omega arith) at are absent)

-- the line of a file that is no unit
pub no_unit_made : (name text : List ℕ) (names contents : List (List ℕ)) (first line word : List ℕ) → line ≡ not_unit_text word → word ≡ first → FirstNoUnit names contents first
    → PrepareGives name names text contents (record { bytes = line; status = NotUnit; stored = None })
no_unit_made name text names contents first line word told same h =
    let P : List ℕ → Type 0 = λ l. PrepareGives name names text contents (record { bytes = l; status = NotUnit; stored = None }) in
    subst P (sym (told ∙ ap not_unit_text same)) (no_unit first h)

of_unit : (name text : List ℕ) (names contents : List (List ℕ)) (o : Outcome) (fs : List (Facts Text)) (f : Facts Text)
    → AreUnits contents fs → Prepared (known_from fs) text f → UnitGives name (length text) f o → PrepareGives name names text contents o
of_unit name text names contents o fs f are prepared (inl h) =
    let P : Outcome → Type 0 = λ p. PrepareGives name names text contents p in subst P (sym h.1) (too_long fs f are prepared h.0)
of_unit name text names contents o fs f are prepared (inr h) =
    let P : Outcome → Type 0 = λ p. PrepareGives name names text contents p in subst P (sym h.1) (unit fs f are prepared h.0)

of_text : (name text : List ℕ) (names contents : List (List ℕ)) (o : Outcome) (fs : List (Facts Text))
    → AreUnits contents fs → TextGives name (known_from fs) text o → PrepareGives name names text contents o
of_text name text names contents o fs are (fault n byte first) = gives_fault fs n byte are first
of_text name text names contents o fs are (made f p prepared g) = of_unit name text names contents o fs f are prepared g

-- what comes of a text, where the known files are units
pub text_gives : (name text : List ℕ) (names contents : List (List ℕ)) (known : List Interface) (o : Outcome) (fs : List (Facts Text))
    → AreUnits contents fs → known ≡ known_from fs → TextGives name known text o → PrepareGives name names text contents o
text_gives name text names contents known o fs are know g =
    let P : List Interface → Type 0 = λ k. TextGives name k text o in
    of_text name text names contents o fs are (subst P know g)

-- ---- counting clauses

clauses-append : (xs ys : List (EntryOf ℕ)) → clauses_in_entries (xs ++ ys) ≡ clauses_in_entries xs + clauses_in_entries ys
clauses-append [] ys = omega arith
clauses-append (x ∷ xs) ys = let e = clauses-append xs ys in omega (arith, e)

pub clauses_more : (es : List Entry) (i : ℕ) (e : Entry) → i < length es → e ≡ get_or es i e
    → clauses_in_entries (entries_view (take (i + 1) es)) ≡ clauses_in_entries (entries_view (take i es)) + clauses_in_entry (what_view e.what)
clauses_more es i e h at =
    ap (λ l. clauses_in_entries (entries_view l)) (take_more es i e h)
    ∙ ap clauses_in_entries (map-append entry_view (take i es) (get_or es i e ∷ []))
    ∙ clauses-append (entries_view (take i es)) (entry_view (get_or es i e) ∷ [])
    ∙ ap (λ x. clauses_in_entries (entries_view (take i es)) + clauses_in_entries (entry_view x ∷ [])) (sym at)
    ∙ (let z : clauses_in_entries (entry_view e ∷ []) ≡ clauses_in_entry (what_view e.what) = omega arith in ap (λ n. clauses_in_entries (entries_view (take i es)) + n) z)

count-append : (xs ys : List (SectionOf ℕ)) → clause_count (xs ++ ys) ≡ clause_count xs + clause_count ys
count-append [] ys = omega arith
count-append (x ∷ xs) ys = let e = count-append xs ys in omega (arith, e)

pub count_more : (ss : List Section) (i : ℕ) (s : Section) → i < length ss → s ≡ get_or ss i s
    → clause_count (map section_view (take (i + 1) ss)) ≡ clause_count (map section_view (take i ss)) + clauses_in_entries (entries_view s.entries)
count_more ss i s h at =
    ap (λ l. clause_count (map section_view l)) (take_more ss i s h)
    ∙ ap clause_count (map-append section_view (take i ss) (get_or ss i s ∷ []))
    ∙ count-append (map section_view (take i ss)) (section_view (get_or ss i s) ∷ [])
    ∙ ap (λ x. clause_count (map section_view (take i ss)) + clause_count (section_view x ∷ [])) (sym at)
    ∙ (let z : clause_count (section_view s ∷ []) ≡ clauses_in_entries (entries_view s.entries) = omega arith in ap (λ n. clause_count (map section_view (take i ss)) + n) z)

-- what comes of a text that became a unit, or has a fault
pub text_of_unit : (name : List ℕ) (known : List Interface) (text : List ℕ) (f : Facts Text) (made_one : Result Made NoMemory) → Prepared known text f
    → IfOk made_one (λ m. UnitGives name (length text) f (outcome_of m)) → IfOk made_one (λ m. TextGives name known text (outcome_of m))
text_of_unit name known text f (Ok m) prepared g = made f (outcome_of m) prepared g
text_of_unit name known text f (Err e) prepared g = tt

pub text_of_fault : (name : List ℕ) (known : List Interface) (text : List ℕ) (n byte : ℕ) (made_one : Result Made NoMemory) → FirstFault known text n byte
    → IfOk made_one (λ m. outcome_of m ≡ faulty name n byte) → IfOk made_one (λ m. TextGives name known text (outcome_of m))
text_of_fault name known text n byte (Ok m) first same = (let P : Outcome → Type 0 = λ o. TextGives name known text o in subst P (sym same) (fault n byte first))
text_of_fault name known text n byte (Err e) first same = tt

pub text_of_known : (name text : List ℕ) (names contents : List (List ℕ)) (known : List Interface) (made_one : Result Made NoMemory) (fs : List (Facts Text))
    → AreUnits contents fs → known ≡ known_from fs → IfOk made_one (λ m. TextGives name known text (outcome_of m))
    → IfOk made_one (λ m. PrepareGives name names text contents (outcome_of m))
text_of_known name text names contents known (Ok m) fs are know g = text_gives name text names contents known (outcome_of m) fs are know g
text_of_known name text names contents known (Err e) fs are know g = tt

-- facts have as many sections and clauses under other names
entries-by : (g : ℕ → Text) (es : List (EntryOf ℕ)) → clauses_in_entries (map (entry_by g) es) ≡ clauses_in_entries es
entries-by g [] = refl
entries-by g (e ∷ es) = ap (λ n. n + clauses_in_entries (map (entry_by g) es)) (what-by e.what) ∙ ap (λ n. clauses_in_entry e.what + n) (entries-by g es)
  where
    what-by : (w : WhatOf ℕ) → clauses_in_entry (what_by g w) ≡ clauses_in_entry w
    what-by (exports i) = refl
    what-by (reexports_all m) = refl
    what-by (reexports m i) = refl
    what-by (has_modes m bs) = refl
    what-by (declares o) = refl
    what-by (imports_all m) = refl
    what-by (imports m i) = refl
    what-by (clause n h b) = refl

count-by : (g : ℕ → Text) (ss : List (SectionOf ℕ)) → clause_count (map (section_by g) ss) ≡ clause_count ss
count-by g [] = refl
count-by g (s ∷ ss) = ap (λ n. n + clause_count (map (section_by g) ss)) (entries-by g s.entries) ∙ ap (λ n. clauses_in_entries s.entries + n) (count-by g ss)

-- a unit that is not too long
pub short_made : (name : List ℕ) (len : ℕ) (u : ReadUnit) (bytes line : List ℕ) (sections count : ℕ) → bytes ≡ encoding (unit_facts u) → length bytes ≤ 67108864
    → line ≡ prepared_text sections count → sections ≡ length u.facts.sections → count ≡ clause_count (map section_view u.facts.sections)
    → UnitGives name len (unit_facts u) (record { bytes = line; status = Done; stored = Some bytes })
short_made name len u bytes line sections count spelled within told many clauses =
    let g : ℕ → Text = text_at u.names in
    let views : List (SectionOf ℕ) = map section_view u.facts.sections in
    let all : sections ≡ length (map (section_by g) views) = many ∙ sym (length-map u.facts.sections section_view) ∙ sym (length-map views (section_by g)) in
    let some : count ≡ clause_count (map (section_by g) views) = clauses ∙ sym (count-by g views) in
    let P : List ℕ → Type 0 = λ b. length b ≤ 67108864 in
    inr (
      subst P spelled within,
      ap (λ l. record { bytes = l; status = Done; stored = Some bytes }) (told ∙ ap (λ n. prepared_text n count) all ∙ ap (prepared_text (length (map (section_by g) views))) some)
          ∙ ap (λ b. record { bytes = prepared_text (length (map (section_by g) views)) (clause_count (map (section_by g) views)); status = Done; stored = Some b }) spelled,
    )
