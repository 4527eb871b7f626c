use Rattle.std.proofs.Common.{refl, ◌≡◌, [], ◌∷◌, ◌++◌, codes, sym, ap, ◌∙◌, subst, IfOk}
use Rattle.pl_atoms.proofs.Numbers.{IsFront-grown}
use Rattle.unit_model.specs.declared.facts.Section.{Section}
use Rattle.unit_model.specs.declared.facts.SectionKind.TheVariants.{Body}
use Rattle.unit_format.specs.Views.{unit_facts}
use Rattle.unit_model.specs.Entries.{IsSound}
use Rattle.prep_texts.proofs.UnitLaws.{facts-same, facts-below}
use Rattle.prep_texts.proofs.draft.Draft.into_unit.Goals as goal

pub ordered-requires-clause-below : goal.ordered-requires-clause-below
ordered-requires-clause-below c =
    let d = c.args.self in
    let s : Section = record { kind = Body; byte = 0; «module» = c.in_ok-user.user; entries = d.entries } in
    facts-below d c.requires.well c.requires.outside c.intern.new.self (IsFront-grown d.names c.intern.new.self (codes "user") c.in_ok-user.ensures.ok) c.in_ok-user.user c.in_ok-user.ensures.number c.in_ok-user.ensures.below
    (record { needs = d.needs; sections = c.from_vec.result }) refl
    (c.from_vec.ensures ∙ c.in_ok-append.ensures.items ∙ ap (λ l. l ++ d.sections.items) (c.in_ok-push.ensures.items ∙ ap (λ l. l ++ s ∷ []) c.new-sections.ensures.items))

pub ordered-requires-clause-sound : goal.ordered-requires-clause-sound
ordered-requires-clause-sound c =
    let d = c.args.self in
    let s : Section = record { kind = Body; byte = 0; «module» = c.in_ok-user.user; entries = d.entries } in
    subst IsSound (sym (facts-same d c.requires.well c.requires.outside c.intern.new.self (IsFront-grown d.names c.intern.new.self (codes "user") c.in_ok-user.ensures.ok) c.in_ok-user.user c.in_ok-user.ensures.number c.in_ok-user.ensures.below
    (record { needs = d.needs; sections = c.from_vec.result }) refl
    (c.from_vec.ensures ∙ c.in_ok-append.ensures.items ∙ ap (λ l. l ++ d.sections.items) (c.in_ok-push.ensures.items ∙ ap (λ l. l ++ s ∷ []) c.new-sections.ensures.items)))) c.requires.sound

pub returns : goal.returns
returns c =
    let d = c.args.self in
    let s : Section = record { kind = Body; byte = 0; «module» = c.in_ok-user.user; entries = d.entries } in
    subst (λ f. IfOk c.ordered.result (λ u. unit_facts u ≡ f)) (facts-same d c.requires.well c.requires.outside c.intern.new.self (IsFront-grown d.names c.intern.new.self (codes "user") c.in_ok-user.ensures.ok) c.in_ok-user.user c.in_ok-user.ensures.number c.in_ok-user.ensures.below
    (record { needs = d.needs; sections = c.from_vec.result }) refl
    (c.from_vec.ensures ∙ c.in_ok-append.ensures.items ∙ ap (λ l. l ++ d.sections.items) (c.in_ok-push.ensures.items ∙ ap (λ l. l ++ s ∷ []) c.new-sections.ensures.items))) c.ordered.ensures.facts
