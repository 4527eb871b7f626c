-- A draft's facts.
use Rattle.std.proofs.Common.{◌≡◌, ◌<◌, List, [], ◌∷◌, ◌++◌, map, length, slice_get, codes, Some, None, sym, ap, ◌∙◌, subst}
use Rattle.std.specs.List.{AllByRecursion, flat_map}
use Rattle.std.proofs.lemmas.Option.{get_or_from_slice_get}
use Rattle.pl_atoms.specs.Names.{IsFront}
use Rattle.pl_atoms.specs.declared.names.NameId.{NameId}
use Rattle.unit_model.specs.Facts.{Need, Entry, Section, Facts, body, need_names, section_names}
use Rattle.unit_model.specs.Directives.{Text}
use Rattle.unit_model.specs.Encoding.{facts_in}
use Rattle.unit_model.specs.Preparing.{facts_of}
use Rattle.unit_model.specs.Views.{need_view, section_view, facts_view}
use Rattle.unit_model.specs.declared.facts.Facts.{Facts as CodeFacts}
use Rattle.unit_model.specs.declared.facts.Need.{Need as CodeNeed}
use Rattle.unit_model.specs.declared.facts.Section.{Section as CodeSection}
use Rattle.unit_model.specs.declared.facts.SectionKind.TheVariants.{Body}
use Rattle.unit_model.specs.Entries.{entries_in, FactsBelow}
use Rattle.prep_texts.specs.declared.draft.Draft.{Draft}
use Rattle.prep_texts.specs.Interfaces.{IsBelow}
use Rattle.prep_texts.specs.Drafts.{needs_in, sections_in, user_of, state_of, IsWell}
use Rattle.prep_texts.proofs.Agreeing.{whole}
use Rattle.prep_texts.proofs.Drafting.{state-grown, well-grown}

module _ (d : Draft) (well : IsWell d) (outside : d.section ≡ None) (new : List Text) (front : IsFront d.names new) (user : NameId) (named : slice_get new user.0 ≡ Some (codes "user")) (below : user.0 < length new)
    (facts : CodeFacts) (needs_are : facts.needs ≡ d.needs) (sections_are : facts.sections ≡ record { kind = Body; byte = 0; «module» = user; entries = d.entries } ∷ d.sections.items) where
  abbrev some_facts : List (Need Text) → Text → List (Entry Text) → List (Section Text) → Facts Text
  some_facts ns m es ss = record { needs = ns; sections = record { kind = body; byte = 0; of = m; entries = es } ∷ ss }

  abbrev first_section : CodeSection
  first_section = record { kind = Body; byte = 0; «module» = user; entries = d.entries }

  abbrev made : List CodeNeed → List CodeSection → Facts Text
  made ns ss = record { needs = needs_in new ns; sections = sections_in new ss }

  pub facts-same : facts_in new (facts_view facts) ≡ facts_of (state_of [] d)
  facts-same =
      ap (λ ns. made ns facts.sections) needs_are
      ∙ ap (made d.needs) sections_are
      ∙ ap (λ m. some_facts (needs_in new d.needs) m (entries_in new d.entries) (sections_in new d.sections.items)) (get_or_from_slice_get new user.0 (codes "user") [] named)
      ∙ ap (λ o. some_facts (needs_in new d.needs) (codes "user") (entries_in new (user_of o d.entries)) (sections_in new d.sections.items)) (sym outside)
      ∙ ap facts_of (state-grown d new front well [])

  pub facts-below : FactsBelow (length new) (facts_view facts)
  facts-below =
      let grown = well-grown d new front well in
      subst (λ ns. AllByRecursion (IsBelow (length new)) (flat_map need_names (map need_view ns) ++ flat_map section_names (map section_view facts.sections))) (sym needs_are)
      (subst (λ ss. AllByRecursion (IsBelow (length new)) (flat_map need_names (map need_view d.needs) ++ flat_map section_names (map section_view ss))) (sym sections_are)
      (whole (IsBelow (length new)) (flat_map need_names (map need_view d.needs)) (section_names (section_view first_section) ++ flat_map section_names (map section_view d.sections.items)) grown.needs
      (whole (IsBelow (length new)) (section_names (section_view first_section)) (flat_map section_names (map section_view d.sections.items)) (below, grown.entries) grown.sections)))
