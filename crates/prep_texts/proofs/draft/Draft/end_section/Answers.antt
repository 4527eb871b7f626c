use Rattle.std.proofs.Common.{◌≡◌, List, [], ◌∷◌, ◌++◌, Some, Option, sym, ap, ◌∙◌, refl}
use Rattle.unit_model.specs.Encoding.{text_at}
use Rattle.unit_model.specs.Preparing.{Interface, operators_of}
use Rattle.unit_model.specs.Views.{kind_view}
use Rattle.unit_model.specs.declared.facts.Section.{Section}
use Rattle.unit_model.specs.Entries.{entries_in}
use Rattle.prep_texts.specs.declared.draft.Draft.{Draft}
use Rattle.prep_texts.specs.declared.draft.OpenSection.{OpenSection}
use Rattle.prep_texts.specs.Interfaces.{interfaces_view}
use Rattle.prep_texts.proofs.SectionLaws.{closed-here, closed-well, owns-interface, owns-body}
use Rattle.prep_texts.proofs.draft.Draft.end_section.Goals as goal
use Rattle.prep_texts.proofs.draft.Draft.end_section.Goals.{then-is_interface+in_ok-interface+in_ok-push, else-is_interface}

pub returns-clause-ok : goal.returns-clause-ok
returns-clause-ok c = elim c.if-is_interface.branch [
  | then-is_interface+in_ok-interface+in_ok-push w ↦
      let d = c.args.self.now in
      let o = c.in-Some.section in
      let new = c.close.new.self in
      let is : d.section ≡ Some o = sym c.in-Some.ensures.value in
      let last : Section = record { kind = o.kind; byte = o.byte; «module» = o.module; entries = d.entries } in
      let made : Draft → Option OpenSection → Draft = λ j s. record { names = j.names; own = j.own; needed = j.needed; needs = j.needs; sections = new.sections; entries = o.user; table = o.outside; section = s } in
      let new_is = c.in_ok-close.ensures.ok ∙ ap (λ (j : Draft). made j j.section) w.self-is ∙ ap (made (record d { own = w.push.new.self })) c.in-Some.ensures.after in
      let items = c.in_ok-close.ensures.sections ∙ ap (λ (j : Draft). j.sections.items ++ record { kind = o.kind; byte = o.byte; «module» = o.module; entries = j.entries } ∷ []) w.self-is in
      let sections : List Section = d.sections.items ++ last ∷ [] in
      let given = w.in_ok-push.ensures.ok ∙ ap (λ (i : Interface). interfaces_view d.own ++ i ∷ []) (w.in_ok-interface.ensures ∙ ap (λ es. record { of = text_at d.names o.module.0; operators = operators_of (entries_in d.names es) }) w.as_slice.ensures) in
      closed-here d o is w.push.new.self sections new refl new_is items c.args.kind c.args.name (sym c.if-not-ends.ensures)
      (owns-interface d o is w.push.new.self sections new refl new_is items (kind_view o.kind) w.if-is_interface.ensures given)
  | else-is_interface w ↦
      let d = c.args.self.now in
      let o = c.in-Some.section in
      let new = c.close.new.self in
      let is : d.section ≡ Some o = sym c.in-Some.ensures.value in
      let last : Section = record { kind = o.kind; byte = o.byte; «module» = o.module; entries = d.entries } in
      let made : Draft → Option OpenSection → Draft = λ j s. record { names = j.names; own = j.own; needed = j.needed; needs = j.needs; sections = new.sections; entries = o.user; table = o.outside; section = s } in
      let new_is = c.in_ok-close.ensures.ok ∙ ap (λ (j : Draft). made j j.section) w.self-is ∙ ap (made (record d { own = d.own })) c.in-Some.ensures.after in
      let items = c.in_ok-close.ensures.sections ∙ ap (λ (j : Draft). j.sections.items ++ record { kind = o.kind; byte = o.byte; «module» = o.module; entries = j.entries } ∷ []) w.self-is in
      let sections : List Section = d.sections.items ++ last ∷ [] in
      closed-here d o is d.own sections new refl new_is items c.args.kind c.args.name (sym c.if-not-ends.ensures)
      (owns-body d o is d.own sections new refl new_is items (kind_view o.kind) w.if-is_interface.ensures refl)
]

pub returns-clause-well : goal.returns-clause-well
returns-clause-well c = elim c.if-is_interface.branch [
  | then-is_interface+in_ok-interface+in_ok-push w ↦
      let d = c.args.self.now in
      let o = c.in-Some.section in
      let new = c.close.new.self in
      let is : d.section ≡ Some o = sym c.in-Some.ensures.value in
      let last : Section = record { kind = o.kind; byte = o.byte; «module» = o.module; entries = d.entries } in
      let made : Draft → Option OpenSection → Draft = λ j s. record { names = j.names; own = j.own; needed = j.needed; needs = j.needs; sections = new.sections; entries = o.user; table = o.outside; section = s } in
      let new_is = c.in_ok-close.ensures.ok ∙ ap (λ (j : Draft). made j j.section) w.self-is ∙ ap (made (record d { own = w.push.new.self })) c.in-Some.ensures.after in
      let items = c.in_ok-close.ensures.sections ∙ ap (λ (j : Draft). j.sections.items ++ record { kind = o.kind; byte = o.byte; «module» = o.module; entries = j.entries } ∷ []) w.self-is in
      let sections : List Section = d.sections.items ++ last ∷ [] in
      closed-well d o is w.push.new.self sections new refl new_is items c.requires.well w.in_ok-push.ensures.indexed
  | else-is_interface w ↦
      let d = c.args.self.now in
      let o = c.in-Some.section in
      let new = c.close.new.self in
      let is : d.section ≡ Some o = sym c.in-Some.ensures.value in
      let last : Section = record { kind = o.kind; byte = o.byte; «module» = o.module; entries = d.entries } in
      let made : Draft → Option OpenSection → Draft = λ j s. record { names = j.names; own = j.own; needed = j.needed; needs = j.needs; sections = new.sections; entries = o.user; table = o.outside; section = s } in
      let new_is = c.in_ok-close.ensures.ok ∙ ap (λ (j : Draft). made j j.section) w.self-is ∙ ap (made (record d { own = d.own })) c.in-Some.ensures.after in
      let items = c.in_ok-close.ensures.sections ∙ ap (λ (j : Draft). j.sections.items ++ record { kind = o.kind; byte = o.byte; «module» = o.module; entries = j.entries } ∷ []) w.self-is in
      let sections : List Section = d.sections.items ++ last ∷ [] in
      closed-well d o is d.own sections new refl new_is items c.requires.well c.requires.well.indexed
]
