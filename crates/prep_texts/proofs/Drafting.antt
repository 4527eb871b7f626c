-- What a draft stands for as its parts change.
use Rattle.std.proofs.Common.{◌≡◌, ℕ, ◌<◌, ◌≤◌, List, [], ◌∷◌, ◌++◌, map, length, Option, Some, None, refl, sym, ap, ◌∙◌, arith}
use Rattle.pl_atoms.specs.Names.{IsFront}
use Rattle.pl_atoms.proofs.Numbers.{length-front}
use Rattle.pl_ops.specs.Tables.{Declaration, operator}
use Rattle.unit_model.specs.Facts.{Need, Entry, Section, entry_by}
use Rattle.unit_model.specs.Directives.{Text}
use Rattle.unit_model.specs.Encoding.{text_at}
use Rattle.unit_model.specs.Views.{need_view, section_view, kind_view, entries_view, entry_view}
use Rattle.unit_model.specs.Preparing.{Interface, Opened, State, table_in}
use Rattle.unit_model.specs.declared.facts.Entry.{Entry as CodeEntry}
use Rattle.unit_model.specs.Entries.{entries_in, EntriesBelow}
use Rattle.prep_texts.specs.Interfaces.{interfaces_view}
use Rattle.prep_texts.specs.declared.draft.OpenSection.{OpenSection}
use Rattle.prep_texts.specs.declared.draft.Draft.{Draft}
use Rattle.prep_texts.specs.Seen.{Seen, seen, looking, holding}
use Rattle.prep_texts.specs.Drafts.{needs_in, sections_in, user_of, outside_of, inside_of, state_of, OuterBelow, IsWell}
use Rattle.prep_texts.proofs.Agreeing.{higher, needs-same, entries-same, sections-same, front-agrees}

-- ---- more names

module _ (d : Draft) (new : List Text) (front : IsFront d.names new) (well : IsWell d) where
  abbrev Grown : Draft
  Grown = record d { names = new }

  agree : (k : ℕ) → k < length d.names → text_at new k ≡ text_at d.names k
  agree = front-agrees d.names new front

  le : length d.names ≤ length new
  le = length-front d.names new front

  needs-stay : needs_in new d.needs ≡ needs_in d.names d.needs
  needs-stay = needs-same (text_at new) (text_at d.names) (length d.names) agree (map need_view d.needs) well.needs

  entries-stay : (es : List CodeEntry) → EntriesBelow (length d.names) (entries_view es) → entries_in new es ≡ entries_in d.names es
  entries-stay es h = entries-same (text_at new) (text_at d.names) (length d.names) agree (entries_view es) h

  user-stays : (o : Option OpenSection) → OuterBelow (length d.names) o → entries_in new (user_of o d.entries) ≡ entries_in d.names (user_of o d.entries)
  user-stays None h = entries-stay d.entries well.entries
  user-stays (Some o) h = entries-stay o.user h.1

  abbrev opened_with : OpenSection → Text → List (Entry Text) → Option Opened
  opened_with o m es = Some (record { section = record { kind = kind_view o.kind; byte = o.byte; of = m; entries = es }; table = d.table })

  inside-stays : (o : Option OpenSection) → OuterBelow (length d.names) o → inside_of new o d.entries d.table ≡ inside_of d.names o d.entries d.table
  inside-stays None h = refl
  inside-stays (Some o) h =
      ap (λ m. opened_with o m (entries_in new d.entries)) (agree o.module.0 h.0) ∙ ap (opened_with o (text_at d.names o.module.0)) (entries-stay d.entries well.entries)

  sections-stay : sections_in new d.sections.items ≡ sections_in d.names d.sections.items
  sections-stay = sections-same (text_at new) (text_at d.names) (length d.names) agree (map section_view d.sections.items) well.sections

  abbrev a_state : List Interface → List (Need Text) → List (Entry Text) → List (Section Text) → Option Opened → State
  a_state known ns es ss i = record { known = known ++ interfaces_view d.own; own = map (λ i. i.module) d.own.all.items; needs = ns; user = es; outside = outside_of d.section d.table; sections = ss; inside = i }

  pub state-grown : (known : List Interface) → state_of known Grown ≡ state_of known d
  state-grown known =
      ap (λ ns. a_state known ns (entries_in new (user_of d.section d.entries)) (sections_in new d.sections.items) (inside_of new d.section d.entries d.table)) needs-stay
      ∙ ap (λ es. a_state known (needs_in d.names d.needs) es (sections_in new d.sections.items) (inside_of new d.section d.entries d.table)) (user-stays d.section well.outer)
      ∙ ap (λ ss. a_state known (needs_in d.names d.needs) (entries_in d.names (user_of d.section d.entries)) ss (inside_of new d.section d.entries d.table)) sections-stay
      ∙ ap (a_state known (needs_in d.names d.needs) (entries_in d.names (user_of d.section d.entries)) (sections_in d.names d.sections.items)) (inside-stays d.section well.outer)

  outer-grown : (o : Option OpenSection) → OuterBelow (length d.names) o → OuterBelow (length new) o
  outer-grown None h = tt
  outer-grown (Some o) h =
      let lt = h.0 in
      (omega (arith, le, lt), higher (length d.names) (length new) le _ h.1)

  pub well-grown : IsWell Grown
  well-grown = record {
    indexed = well.indexed;
    needed = well.needed ∙ ap (map (λ (n : Need Text). n.of)) (sym needs-stay);
    needs = higher (length d.names) (length new) le _ well.needs;
    sections = higher (length d.names) (length new) le _ well.sections;
    entries = higher (length d.names) (length new) le _ well.entries;
    outer = outer-grown d.section well.outer;
  }

-- ---- another table

module _ (known : List Interface) (d : Draft) where
  pub table_in-state : table_in (state_of known d) ≡ d.table
  table_in-state = go d.section
    where
      go : (o : Option OpenSection) → table_in (state_of known (record d { section = o })) ≡ d.table
      go None = refl
      go (Some o) = refl

  pub with_table-seen : (t : List Declaration) → seen (state_of known (record d { table = t })) ≡ looking (operator t) (seen (state_of known d))
  with_table-seen t = go d.section
    where
      go : (o : Option OpenSection) → seen (state_of known (record d { table = t; section = o })) ≡ looking (operator t) (seen (state_of known (record d { section = o })))
      go None = refl
      go (Some o) = refl

  entries_in-append : (names : List Text) (es fs : List CodeEntry) → entries_in names (es ++ fs) ≡ entries_in names es ++ entries_in names fs
  entries_in-append names [] fs = refl
  entries_in-append names (e ∷ es) fs = ap (λ (l : List (Entry Text)). entry_by (text_at names) (entry_view e) ∷ l) (entries_in-append names es fs)

  abbrev user_put : List (Entry Text) → Seen
  user_put es = record (seen (state_of known (record d { section = None }))) { user = es }

  abbrev inside_put : OpenSection → List (Entry Text) → Seen
  inside_put o es = record (seen (state_of known (record d { section = Some o }))) { inside = Some (record { kind = kind_view o.kind; byte = o.byte; of = text_at d.names o.module.0; entries = es }, operator d.table) }

  pub with_entries-seen : (fs : List CodeEntry) → seen (state_of known (record d { entries = d.entries ++ fs })) ≡ holding (entries_in d.names fs) (seen (state_of known d))
  with_entries-seen fs = go d.section
    where
      go : (o : Option OpenSection) → seen (state_of known (record d { entries = d.entries ++ fs; section = o })) ≡ holding (entries_in d.names fs) (seen (state_of known (record d { section = o })))
      go None = ap user_put (entries_in-append d.names d.entries fs)
      go (Some o) = ap (inside_put o) (entries_in-append d.names d.entries fs)
