use Rattle.std.proofs.Common.{sym, subst}
use Rattle.std.specs.List.{AllByRecursion}
use Rattle.unit_model.specs.Validity.{FitsNeed, FitsSection}
use Rattle.unit_model.specs.Views.{need_view, section_view}
use Rattle.unit_format.specs.Spelling.{IsPlace}
use Rattle.unit_format.proofs.PutLaws.{unview}
use Rattle.unit_format.proofs.encoding.written.Goals as goal

pub put_needs-requires-clause-needs : goal.put_needs-requires-clause-needs
put_needs-requires-clause-needs c =
    subst (AllByRecursion (λ n. FitsNeed IsPlace (need_view n))) (sym c.as_slice.ensures) (unview (FitsNeed IsPlace) need_view c.args.facts.now.needs c.requires.facts.needs)

pub put_sections-requires-clause-sections : goal.put_sections-requires-clause-sections
put_sections-requires-clause-sections c =
    subst (AllByRecursion (λ s. FitsSection IsPlace (section_view s))) (sym c.as_slice-2.ensures) (unview (FitsSection IsPlace) section_view c.args.facts.now.sections c.requires.facts.sections)
