-- Sections that open and end.
use Rattle.std.proofs.Common.{◌≡◌, ℕ, ◌<◌, true, false, List, [], ◌∷◌, ◌++◌, map, length, Option, Some, None, Ok, Err, refl, sym, ap, ◌∙◌, subst, append_assoc}
use Rattle.std.specs.List.{AllByRecursion, flat_map}
use Rattle.std.proofs.lemmas.List.{map-append}
use Rattle.pl_atoms.specs.declared.names.NameId.{NameId}
use Rattle.pl_ops.specs.Tables.{Declaration, operator}
use Rattle.unit_model.specs.Facts.{Section, SectionKind, interface, body, section_names, section_by}
use Rattle.unit_model.specs.Directives.{Text}
use Rattle.unit_model.specs.Encoding.{text_at}
use Rattle.unit_model.specs.Preparing.{Interface, operators_of, is_interface}
use Rattle.unit_model.specs.Views.{section_view, kind_view}
use Rattle.unit_model.specs.declared.facts.Section.{Section as CodeSection}
use Rattle.unit_model.specs.declared.facts.SectionKind.{SectionKind as CodeKind}
use Rattle.unit_model.specs.declared.facts.SectionKind.TheVariants.{Interface as InterfaceKind, Body as BodyKind}
use Rattle.unit_model.specs.Entries.{entries_in}
use Rattle.prep_texts.specs.declared.interfaces.KnownInterface.{KnownInterface}
use Rattle.prep_texts.specs.declared.interfaces.Interfaces.{Interfaces}
use Rattle.prep_texts.specs.declared.draft.OpenSection.{OpenSection}
use Rattle.prep_texts.specs.declared.draft.Draft.{Draft}
use Rattle.prep_texts.specs.Interfaces.{interface_view, interfaces_view, IsIndexed, IsBelow}
use Rattle.prep_texts.specs.Sections.{module_text}
use Rattle.prep_texts.specs.Seen.{Seen, seen, opened_section, known_after_seen, closed_here, closed_seen}
use Rattle.prep_texts.specs.Drafts.{sections_in, state_of, OuterBelow, IsWell, closes_section}
use Rattle.prep_texts.proofs.Agreeing.{whole}

-- ---- a section opens

module _ (d : Draft) (kind : CodeKind) (byte : ℕ) (name : NameId) (table : List Declaration) (outside : d.section ≡ None) where
  abbrev pub begun : Draft
  begun = record d { entries = []; table = table; section = Some (record { kind = kind; byte = byte; «module» = name; user = d.entries; outside = d.table }) }

  pub begun-seen : (known : List Interface) → seen (state_of known begun) ≡ opened_section (kind_view kind) (text_at d.names name.0) byte (operator table) (seen (state_of known d))
  begun-seen known = ap (λ o. opened_section (kind_view kind) (text_at d.names name.0) byte (operator table) (seen (state_of known (record d { section = o })))) (sym outside)

  pub begun-well : IsWell d → name.0 < length d.names → IsWell begun
  begun-well well below = record {
    indexed = well.indexed;
    needed = well.needed;
    needs = well.needs;
    sections = well.sections;
    entries = tt;
    outer = (below, well.entries);
  }

-- ---- a section ends

own-of : (xs : List KnownInterface) → map (λ (i : KnownInterface). i.module) xs ≡ map (λ (i : Interface). i.of) (map interface_view xs)
own-of [] = refl
own-of (x ∷ xs) = ap (λ (l : List Text). x.module ∷ l) (own-of xs)

flat : (xs : List (Section ℕ)) (x : Section ℕ) → flat_map section_names (xs ++ x ∷ []) ≡ flat_map section_names xs ++ (section_names x ++ [])
flat [] x = refl
flat (y ∷ xs) x = ap (λ (l : List ℕ). section_names y ++ l) (flat xs x) ∙ sym (append_assoc (section_names y) (flat_map section_names xs) (section_names x ++ []))

module _ (d : Draft) (o : OpenSection) (is : d.section ≡ Some o) where
  abbrev done : CodeSection
  done = record { kind = o.kind; byte = o.byte; «module» = o.module; entries = d.entries }

  abbrev part : Section Text
  part = section_by (text_at d.names) (section_view done)

  abbrev at : Option OpenSection → Draft
  at i = record d { section = i }

  closing : (k : CodeKind) (name : Option NameId) (known : List Interface) → closed_seen (kind_view k) (module_text d.names name) (seen (state_of known (at (Some o)))) ≡ closed_here (closes_section d.names k name o) part (seen (state_of known (at (Some o))))
  closing k None known = refl
  closing k (Some m) known = refl

  pub not_open : (k : CodeKind) (name : Option NameId) → closes_section d.names k name o ≡ false → (known : List Interface) → closed_seen (kind_view k) (module_text d.names name) (seen (state_of known d)) ≡ Err 7
  not_open k name h known =
      ap (λ i. closed_seen (kind_view k) (module_text d.names name) (seen (state_of known (at i)))) is
      ∙ closing k name known
      ∙ ap (λ b. closed_here b part (seen (state_of known (at (Some o))))) h

  module _ (own : Interfaces) (sections : List CodeSection) (new : Draft) (pushed : sections ≡ d.sections.items ++ done ∷ [])
      (new_is : new ≡ record d { own = own; sections = new.sections; entries = o.user; table = o.outside; section = None }) (items : new.sections.items ≡ sections) where
    abbrev After : Draft
    After = record d { own = own; sections = new.sections; entries = o.user; table = o.outside; section = None }

    sections-more : sections_in d.names new.sections.items ≡ sections_in d.names d.sections.items ++ part ∷ []
    sections-more =
        ap (sections_in d.names) (items ∙ pushed)
        ∙ ap (map (section_by (text_at d.names))) (map-append section_view d.sections.items (done ∷ []))
        ∙ map-append (section_by (text_at d.names)) (map section_view d.sections.items) (section_view done ∷ [])

    abbrev closed_state : List Interface → List Text → List (Section Text) → Seen
    closed_state ks os ss = record (seen (state_of [] (record d { section = None; entries = o.user; table = o.outside }))) { known = ks; own = os; sections = ss }

    abbrev Own : List Text
    Own = map (λ (i : KnownInterface). i.module) d.own.all.items

    leaves-body : (known : List Interface) → interfaces_view own ≡ interfaces_view d.own → seen (state_of known After) ≡ closed_state (known ++ interfaces_view d.own) Own (sections_in d.names d.sections.items ++ part ∷ [])
    leaves-body known same =
        ap (λ l. closed_state (known ++ l) (map (λ (i : KnownInterface). i.module) own.all.items) (sections_in d.names new.sections.items)) same
        ∙ ap (λ l. closed_state (known ++ interfaces_view d.own) l (sections_in d.names new.sections.items)) (own-of own.all.items ∙ ap (map (λ (i : Interface). i.of)) same ∙ sym (own-of d.own.all.items))
        ∙ ap (closed_state (known ++ interfaces_view d.own) Own) sections-more

    abbrev given : Interface
    given = record { of = text_at d.names o.module.0; operators = operators_of (entries_in d.names d.entries) }

    leaves-interface : (known : List Interface) → interfaces_view own ≡ interfaces_view d.own ++ given ∷ []
        → seen (state_of known After) ≡ closed_state ((known ++ interfaces_view d.own) ++ given ∷ []) (Own ++ text_at d.names o.module.0 ∷ []) (sections_in d.names d.sections.items ++ part ∷ [])
    leaves-interface known more =
        ap (λ l. closed_state (known ++ l) (map (λ (i : KnownInterface). i.module) own.all.items) (sections_in d.names new.sections.items)) more
        ∙ ap (λ l. closed_state l (map (λ (i : KnownInterface). i.module) own.all.items) (sections_in d.names new.sections.items)) (sym (append_assoc known (interfaces_view d.own) (given ∷ [])))
        ∙ ap (λ l. closed_state ((known ++ interfaces_view d.own) ++ given ∷ []) l (sections_in d.names new.sections.items))
        (own-of own.all.items ∙ ap (map (λ (i : Interface). i.of)) more ∙ map-append (λ (i : Interface). i.of) (interfaces_view d.own) (given ∷ [])
        ∙ ap (λ (l : List Text). l ++ text_at d.names o.module.0 ∷ []) (sym (own-of d.own.all.items)))
        ∙ ap (closed_state ((known ++ interfaces_view d.own) ++ given ∷ []) (Own ++ text_at d.names o.module.0 ∷ [])) sections-more

    -- the interfaces after the section's end
    abbrev Owns : SectionKind → Type 0
    Owns interface = interfaces_view own ≡ interfaces_view d.own ++ given ∷ []
    Owns body = interfaces_view own ≡ interfaces_view d.own

    abbrev kinded : CodeKind → Section Text
    kinded k = record { kind = kind_view k; byte = o.byte; of = text_at d.names o.module.0; entries = entries_in d.names d.entries }

    leaves : (known : List Interface) (k : CodeKind) → Owns (kind_view k) → closed_state (known ++ interfaces_view d.own) Own (sections_in d.names d.sections.items ++ part ∷ []) ≡ closed_state (known ++ interfaces_view d.own) Own (sections_in d.names d.sections.items ++ part ∷ [])
        → known_after_seen (kinded k) (closed_state (known ++ interfaces_view d.own) Own (sections_in d.names d.sections.items ++ part ∷ [])) ≡ seen (state_of known After)
    leaves known InterfaceKind h u = sym (leaves-interface known h)
    leaves known BodyKind h u = sym (leaves-body known h)

    pub closed-here : (k : CodeKind) (name : Option NameId) → closes_section d.names k name o ≡ true → Owns (kind_view o.kind) → (known : List Interface)
        → closed_seen (kind_view k) (module_text d.names name) (seen (state_of known d)) ≡ Ok (seen (state_of known new))
    closed-here k name h owns known =
        ap (λ i. closed_seen (kind_view k) (module_text d.names name) (seen (state_of known (at i)))) is
        ∙ closing k name known
        ∙ ap (λ b. closed_here b part (seen (state_of known (at (Some o))))) h
        ∙ ap (λ v. Ok v) (leaves known o.kind owns refl)
        ∙ ap (λ e. Ok (seen (state_of known e))) (sym new_is)

    pub closed-well : IsWell d → IsIndexed own → IsWell new
    closed-well well indexed =
        let outer : OuterBelow (length d.names) (Some o) = subst (OuterBelow (length d.names)) is well.outer in
        subst IsWell (sym new_is) (record {
          indexed = indexed;
          needed = well.needed;
          needs = well.needs;
          sections =
              subst (AllByRecursion (IsBelow (length d.names))) (sym (ap (λ l. flat_map section_names (map section_view l)) (items ∙ pushed) ∙ ap (flat_map section_names) (map-append section_view d.sections.items (done ∷ [])) ∙ flat (map section_view d.sections.items) (section_view done)))
              (whole (IsBelow (length d.names)) (flat_map section_names (map section_view d.sections.items)) (section_names (section_view done) ++ []) well.sections
              (whole (IsBelow (length d.names)) (section_names (section_view done)) [] (outer.0, well.entries) tt));
          entries = outer.1;
          outer = tt;
        })

    pub owns-interface : (k : SectionKind) → true ≡ is_interface k → interfaces_view own ≡ interfaces_view d.own ++ given ∷ [] → Owns k
    owns-interface interface h e = e
    owns-interface body h e = absurd (cc)

    pub owns-body : (k : SectionKind) → false ≡ is_interface k → interfaces_view own ≡ interfaces_view d.own → Owns k
    owns-body interface h e = absurd (cc)
    owns-body body h e = e
