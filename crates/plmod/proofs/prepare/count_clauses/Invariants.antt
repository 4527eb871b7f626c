use Rattle.std.proofs.Common.{◌≡◌, take, map}
use Rattle.unit_model.specs.Views.{section_view}
use Rattle.plmod.specs.Prepares.{clause_count}
use Rattle.plmod.proofs.prepare.count_clauses.Given as goal

abbrev pub invariant-loop-section : goal.invariant-loop-section
invariant-loop-section l = record {
  so_far : l.count ≡ clause_count (map section_view (take l.section-index l.sections));
}
