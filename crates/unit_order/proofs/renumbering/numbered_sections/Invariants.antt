use Rattle.std.proofs.Common.{◌≡◌, map, take}
use Rattle.unit_model.specs.Facts.{section_by}
use Rattle.unit_model.specs.Views.{section_view}
use Rattle.unit_order.specs.Numbering.{number_in}
use Rattle.unit_order.proofs.renumbering.numbered_sections.Given as goal

abbrev pub invariant-loop-section : goal.invariant-loop-section
invariant-loop-section l = map section_view l.copy ≡ map (section_by (number_in l.used)) (map section_view (take l.section-index l.sections))
