use Rattle.std.proofs.Common.{◌≡◌, ◌++◌, take, map}
use Rattle.std.specs.List.{flat_map}
use Rattle.unit_model.specs.Views.{section_view}
use Rattle.unit_model.specs.Encoding.{section_bytes}
use Rattle.unit_format.proofs.writing.put_each_section.Given as goal

abbrev pub invariant-loop-section : goal.invariant-loop-section
invariant-loop-section l = l.out ≡ l.initial.out ++ flat_map section_bytes (map section_view (take l.section-index l.sections))
