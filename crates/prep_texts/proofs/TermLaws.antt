-- A term that opens and ends no section.
use Rattle.std.proofs.Common.{◌≡◌, ℕ, Bool, true, false, List, [], ◌∷◌, ◌++◌, map, length, Option, Some, None, Ok, Err, refl, sym, ap, ◌∙◌, if◌then◌else◌, subst, IfSome}
use Rattle.std.specs.List.{AllByRecursion, flat_map}
use Rattle.pl_atoms.specs.Names.{IsFront}
use Rattle.pl_terms.specs.Trees.{Tree}
use Rattle.pl_ops.specs.Tables.{Operators, operator}
use Rattle.unit_model.specs.Facts.{OperatorOf, What, Entry, what_names}
use Rattle.unit_model.specs.Directives.{Text, Directive, opens, closes, exporting, reexporting, metapredicates, operators, importing, discontiguous}
use Rattle.unit_model.specs.Encoding.{text_at}
use Rattle.unit_model.specs.Views.{entries_view}
use Rattle.unit_model.specs.Preparing.{Interface, State, Sort, a_directive, a_query, a_clause, sort_of, sort_said, said, operators_known, declaration, entries_at, Source, no_module, passing, taking, source_of, table_in, in_interface, with_said, sort_step, step}
use Rattle.unit_model.specs.declared.facts.Entry.{Entry as CodeEntry}
use Rattle.unit_model.specs.Entries.{entries_in, EntriesBelow}
use Rattle.unit_model.specs.Saying.{IsSectionDirective, Says}
use Rattle.prep_texts.specs.declared.directives.ModuleSource.{ModuleSource}
use Rattle.prep_texts.specs.declared.directives.ModuleSource.TheVariants.{Passing, Taking}
use Rattle.prep_texts.specs.declared.draft.OpenSection.{OpenSection}
use Rattle.prep_texts.specs.declared.draft.Draft.{Draft}
use Rattle.prep_texts.specs.Looking.{extended, accepts_all, saying_seen}
use Rattle.prep_texts.specs.Interfaces.{IsBelow}
use Rattle.prep_texts.specs.Sections.{source_view, SourceBelow}
use Rattle.prep_texts.specs.Seen.{Seen, NextSeen, seen, next_seen, is_needed, needing, looking, holding, table_seen, imported, passed, sourced_seen, passed_seen, imported_seen, with_said_seen}
use Rattle.prep_texts.specs.Drafts.{state_of, opens_interface, IsWell}
use Rattle.prep_texts.proofs.Agreeing.{whole, entries-same, front-agrees}
use Rattle.prep_texts.proofs.SeenLaws.{with_said-seen}
use Rattle.prep_texts.proofs.Drafting.{state-grown, well-grown, table_in-state, with_table-seen, with_entries-seen}
use Rattle.prep_texts.proofs.ModuleLaws.{next_holding}

-- ---- what it says, and then what it takes

module _ (v : Seen) (m : Text) (os : List (OperatorOf Text)) (byte : ℕ) (look : Operators) where
  abbrev at : Option (Rattle.unit_model.specs.Facts.Section Text × Operators) → Seen
  at i = record v { inside = i }

  abbrev more : Seen → Seen
  more w = record w { needs = w.needs ++ record { byte = byte; of = m; operators = os } ∷ [] }

  exchanged : (i : Option (Rattle.unit_model.specs.Facts.Section Text × Operators)) (b : Bool) → looking look (if b then at i else more (at i)) ≡ (if b then looking look (at i) else more (looking look (at i)))
  exchanged None true = refl
  exchanged None false = refl
  exchanged (Some p) true = refl
  exchanged (Some p) false = refl

  needed-same : (i : Option (Rattle.unit_model.specs.Facts.Section Text × Operators)) → is_needed m (looking look (at i)) ≡ is_needed m (at i)
  needed-same None = refl
  needed-same (Some p) = refl

  pub exchange : looking look (needing m os byte v) ≡ needing m os byte (looking look v)
  exchange = exchanged v.inside (is_needed m v) ∙ ap (λ b. if b then looking look v else more (looking look v)) (sym (needed-same v.inside))

  twice : (f : Operators) (i : Option (Rattle.unit_model.specs.Facts.Section Text × Operators)) → looking f (looking look (at i)) ≡ looking f (at i)
  twice f None = refl
  twice f (Some p) = refl

  pub looked_twice : (f : Operators) → looking f (looking look v) ≡ looking f v
  looked_twice f = twice f v.inside

  looked : (i : Option (Rattle.unit_model.specs.Facts.Section Text × Operators)) → table_seen (looking look (at i)) ≡ look
  looked None = refl
  looked (Some p) = refl

  pub table-looking : table_seen (looking look v) ≡ look
  table-looking = looked v.inside

  known-same : (i : Option (Rattle.unit_model.specs.Facts.Section Text × Operators)) → operators_known (looking look (at i)).known m ≡ operators_known v.known m
  known-same None = refl
  known-same (Some p) = refl

  pub known-looking : operators_known (looking look v).known m ≡ operators_known v.known m
  known-looking = known-same v.inside

module _ (byte : ℕ) (ws : List (What Text)) (look : Operators) (v : Seen) where
  abbrev es : List (Entry Text)
  es = entries_at byte ws

  passed-holding : (m : Text) (o : Option (List (OperatorOf Text))) → passed_seen byte m ws look o v ≡ next_holding es (passed m byte o (looking look v))
  passed-holding m None = refl
  passed-holding m (Some os) = ap (λ w. Ok (holding es w)) (exchange v m os byte look)

  abbrev if_accepted : Bool → Operators → Seen → NextSeen
  if_accepted b f w = if b then Ok (looking f w) else Err 12

  chosen : (b : Bool) (f : Operators) (w : Seen) → (if b then Ok (holding es (looking f w)) else Err 12) ≡ next_holding es (if_accepted b f w)
  chosen true f w = refl
  chosen false f w = refl

  imported-holding : (m : Text) (o : Option (List (OperatorOf Text))) → imported_seen byte m ws look o v ≡ next_holding es (imported m byte o (looking look v))
  imported-holding m None = refl
  imported-holding m (Some os) =
      chosen (accepts_all os look) (extended look (map declaration os)) (needing m os byte v)
      ∙ ap (λ w. next_holding es (if accepts_all os look then Ok w else Err 12))
      (sym (looked_twice (needing m os byte v) m os byte look (extended look (map declaration os))) ∙ ap (looking (extended look (map declaration os))) (exchange v m os byte look))
      ∙ ap (λ f. next_holding es (if accepts_all os f then Ok (looking (extended f (map declaration os)) (needing m os byte (looking look v))) else Err 12)) (sym (table-looking v m os byte look))

  pub said-then_source : (source : Source) → with_said_seen (Ok (ws, look)) source byte v ≡ next_holding es (sourced_seen source byte (looking look v))
  said-then_source no_module = refl
  said-then_source (passing m) = passed-holding m (operators_known v.known m) ∙ ap (λ o. next_holding es (passed m byte o (looking look v))) (sym (known-looking v m [] byte look))
  said-then_source (taking m) = imported-holding m (operators_known v.known m) ∙ ap (λ o. next_holding es (imported m byte o (looking look v))) (sym (known-looking v m [] byte look))

-- ---- the step

other_step : (t : Tree Text) (byte : ℕ) (s : State) (sort : Sort) → (IsSectionDirective sort → ⊥) → sort_step sort t byte s ≡ with_said (sort_said (in_interface s) sort t (table_in s)) (source_of sort) byte s
other_step t byte s (a_directive (Err n)) h = refl
other_step t byte s (a_directive (Ok (opens k m))) h = absurd (h tt)
other_step t byte s (a_directive (Ok (closes k m))) h = absurd (h tt)
other_step t byte s (a_directive (Ok (exporting is))) h = refl
other_step t byte s (a_directive (Ok (reexporting m is))) h = refl
other_step t byte s (a_directive (Ok (metapredicates ms))) h = refl
other_step t byte s (a_directive (Ok (operators p k ns))) h = refl
other_step t byte s (a_directive (Ok (importing m is))) h = refl
other_step t byte s (a_directive (Ok discontiguous)) h = refl
other_step t byte s a_query h = refl
other_step t byte s a_clause h = refl

in_interface-state : (known : List Interface) (d : Draft) → in_interface (state_of known d) ≡ opens_interface d.section
in_interface-state known d = go d.section
  where
    go : (o : Option OpenSection) → in_interface (state_of known (record d { section = o })) ≡ opens_interface o
    go None = refl
    go (Some o) = refl

module _ (known : List Interface) (d : Draft) (t : Tree Text) (byte : ℕ) (other : IsSectionDirective (sort_of t) → ⊥) where
  abbrev v : Seen
  v = seen (state_of known d)

  pub other-seen : next_seen (step t byte (state_of known d)) ≡ with_said_seen (saying_seen (said (opens_interface d.section) t d.table)) (source_of (sort_of t)) byte v
  other-seen =
      ap next_seen (other_step t byte (state_of known d) (sort_of t) other)
      ∙ with_said-seen (said (in_interface (state_of known d)) t (table_in (state_of known d))) (source_of (sort_of t)) byte (state_of known d)
      ∙ ap (λ b. with_said_seen (saying_seen (said b t (table_in (state_of known d)))) (source_of (sort_of t)) byte v) (in_interface-state known d)
      ∙ ap (λ u. with_said_seen (saying_seen (said (opens_interface d.section) t u)) (source_of (sort_of t)) byte v) (table_in-state known d)

  pub other-fault : (n : ℕ) → said (opens_interface d.section) t d.table ≡ Err n → next_seen (step t byte (state_of known d)) ≡ Err n
  other-fault n h = other-seen ∙ ap (λ l. with_said_seen (saying_seen l) (source_of (sort_of t)) byte v) h

  module _ (mid : Draft) (es : List CodeEntry) (well : IsWell d) (front : IsFront d.names mid.names) (mid_is : mid ≡ record d { names = mid.names; table = mid.table })
      (says : Says (opens_interface d.section) t byte d.table mid.table (entries_in mid.names es)) where
    mid-seen : seen (state_of known mid) ≡ looking (operator says.what.table) v
    mid-seen =
        ap (λ e. seen (state_of known e)) mid_is
        ∙ with_table-seen known (record d { names = mid.names }) mid.table
        ∙ ap (λ s. looking (operator mid.table) (seen s)) (state-grown d mid.names front well known)
        ∙ ap (λ f. looking f v) says.table

    pub mid-well : IsWell mid
    mid-well =
        let grown = well-grown d mid.names front well in
        subst IsWell (sym mid_is) (record { indexed = grown.indexed; needed = grown.needed; needs = grown.needs; sections = grown.sections; entries = grown.entries; outer = grown.outer })

    pub goes_on : next_seen (step t byte (state_of known d)) ≡ next_holding (entries_in mid.names es) (sourced_seen (source_of (sort_of t)) byte (seen (state_of known mid)))
    goes_on =
        other-seen
        ∙ ap (λ l. with_said_seen (saying_seen l) (source_of (sort_of t)) byte v) says.said_is
        ∙ said-then_source byte says.what.entries (operator says.what.table) v (source_of (sort_of t))
        ∙ ap (λ w. next_holding (entries_at byte says.what.entries) (sourced_seen (source_of (sort_of t)) byte w)) (sym mid-seen)
        ∙ ap (λ l. next_holding l (sourced_seen (source_of (sort_of t)) byte (seen (state_of known mid)))) (sym says.entries_are)

    module _ (source : Option ModuleSource) (below : IfSome source (SourceBelow (length d.names))) (source_is : source_view d.names source ≡ source_of (sort_of t)) where
      source-grown : (o : Option ModuleSource) → IfSome o (SourceBelow (length d.names)) → source_view mid.names o ≡ source_view d.names o
      source-grown None h = refl
      source-grown (Some (Passing m)) h = ap passing (front-agrees d.names mid.names front m.0 h)
      source-grown (Some (Taking m)) h = ap taking (front-agrees d.names mid.names front m.0 h)

      from : source_view mid.names source ≡ source_of (sort_of t)
      from = source-grown source below ∙ source_is

      pub source-fault : (n : ℕ) → sourced_seen (source_view mid.names source) byte (seen (state_of known mid)) ≡ Err n → next_seen (step t byte (state_of known d)) ≡ Err n
      source-fault n h =
          goes_on ∙ ap (λ s. next_holding (entries_in mid.names es) (sourced_seen s byte (seen (state_of known mid)))) (sym from) ∙ ap (next_holding (entries_in mid.names es)) h

      module _ (last new : Draft) (names : IsFront mid.names last.names) (es_below : EntriesBelow (length mid.names) (entries_view es)) (last_well : IsWell last)
          (taken : sourced_seen (source_view mid.names source) byte (seen (state_of known mid)) ≡ Ok (seen (state_of known last))) (new_is : new ≡ record last { entries = last.entries ++ es }) where
        pub leads : next_seen (step t byte (state_of known d)) ≡ Ok (seen (state_of known new))
        leads =
            goes_on ∙ ap (λ s. next_holding (entries_in mid.names es) (sourced_seen s byte (seen (state_of known mid)))) (sym from) ∙ ap (next_holding (entries_in mid.names es)) taken
            ∙ ap (λ l. Ok (holding l (seen (state_of known last)))) (sym (entries-same (text_at last.names) (text_at mid.names) (length mid.names) (front-agrees mid.names last.names names) (entries_view es) es_below))
            ∙ ap (λ w. Ok w) (sym (with_entries-seen known last es))
            ∙ ap (λ e. Ok (seen (state_of known e))) (sym new_is)

-- ---- entries put last

flat : (xs ys : List (Entry ℕ)) → flat_map (λ e. what_names e.what) (xs ++ ys) ≡ flat_map (λ e. what_names e.what) xs ++ flat_map (λ e. what_names e.what) ys
flat [] ys = refl
flat (x ∷ xs) ys = ap (λ (l : List ℕ). what_names x.what ++ l) (flat xs ys) ∙ sym (Rattle.std.proofs.Common.append_assoc (what_names x.what) (flat_map (λ e. what_names e.what) xs) (flat_map (λ e. what_names e.what) ys))

pub put-well : (last : Draft) (names : List Text) (es all : List CodeEntry) → IsWell last → IsFront names last.names → EntriesBelow (length names) (entries_view es) → all ≡ last.entries ++ es → IsWell (record last { entries = all })
put-well last names es all well front below put = record {
  indexed = well.indexed;
  needed = well.needed;
  needs = well.needs;
  sections = well.sections;
  entries =
      subst (AllByRecursion (IsBelow (length last.names)))
      (sym (ap (λ l. flat_map (λ e. what_names e.what) (entries_view l)) put ∙ ap (flat_map (λ e. what_names e.what)) (Rattle.std.proofs.lemmas.List.map-append Rattle.unit_model.specs.Views.entry_view last.entries es) ∙ flat (entries_view last.entries) (entries_view es)))
      (whole (IsBelow (length last.names)) (flat_map (λ e. what_names e.what) (entries_view last.entries)) (flat_map (λ e. what_names e.what) (entries_view es)) well.entries
      (Rattle.prep_texts.proofs.Agreeing.higher (length names) (length last.names) (Rattle.pl_atoms.proofs.Numbers.length-front names last.names front) _ below));
  outer = well.outer;
}

-- ---- directives of sections

section-sort : (t : Tree Text) (byte : ℕ) (s : State) (sort : Sort) (d : Directive) → Rattle.prep_texts.specs.Sections.section_part sort ≡ Some d → next_seen (sort_step sort t byte s) ≡ Rattle.prep_texts.specs.Seen.section_seen d byte (seen s)
section-sort t byte s (a_directive (Err n)) d h = absurd (cc)
section-sort t byte s (a_directive (Ok (opens k m))) d h =
    let same : opens k m ≡ d = cc in
    Rattle.prep_texts.proofs.SeenLaws.opened-seen k m byte s ∙ ap (λ e. Rattle.prep_texts.specs.Seen.section_seen e byte (seen s)) same
section-sort t byte s (a_directive (Ok (closes k m))) d h =
    let same : closes k m ≡ d = cc in
    Rattle.prep_texts.proofs.SeenLaws.closed-seen k m s ∙ ap (λ e. Rattle.prep_texts.specs.Seen.section_seen e byte (seen s)) same
section-sort t byte s (a_directive (Ok (exporting is))) d h = absurd (cc)
section-sort t byte s (a_directive (Ok (reexporting m is))) d h = absurd (cc)
section-sort t byte s (a_directive (Ok (metapredicates ms))) d h = absurd (cc)
section-sort t byte s (a_directive (Ok (operators p k ns))) d h = absurd (cc)
section-sort t byte s (a_directive (Ok (importing m is))) d h = absurd (cc)
section-sort t byte s (a_directive (Ok discontiguous)) d h = absurd (cc)
section-sort t byte s a_query d h = absurd (cc)
section-sort t byte s a_clause d h = absurd (cc)

pub section-step : (t : Tree Text) (byte : ℕ) (s : State) (d : Directive) → Some d ≡ Rattle.prep_texts.specs.Sections.section_part (sort_of t) → next_seen (step t byte s) ≡ Rattle.prep_texts.specs.Seen.section_seen d byte (seen s)
section-step t byte s d h = section-sort t byte s (sort_of t) d (sym h)

pub no-section : (sort : Sort) → None ≡ Rattle.prep_texts.specs.Sections.section_part sort → IsSectionDirective sort → ⊥
no-section (a_directive (Err n)) h u = u
no-section (a_directive (Ok (opens k m))) h u = cc
no-section (a_directive (Ok (closes k m))) h u = cc
no-section (a_directive (Ok (exporting is))) h u = u
no-section (a_directive (Ok (reexporting m is))) h u = u
no-section (a_directive (Ok (metapredicates ms))) h u = u
no-section (a_directive (Ok (operators p k ns))) h u = u
no-section (a_directive (Ok (importing m is))) h u = u
no-section (a_directive (Ok discontiguous)) h u = u
no-section a_query h u = u
no-section a_clause h u = u
