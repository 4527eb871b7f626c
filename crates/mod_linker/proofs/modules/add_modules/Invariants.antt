use Rattle.std.proofs.Common.{map, take}
use Rattle.std.specs.List.{flat_map}
use Rattle.unit_format.specs.Views.{unit_facts}
use Rattle.mod_linker.specs.Modules.{module_texts, AddsModules}
use Rattle.mod_linker.proofs.modules.add_modules.Given as goal

abbrev pub invariant-loop-unit : goal.invariant-loop-unit
invariant-loop-unit l = AddsModules (flat_map module_texts (map unit_facts (take l.unit-index l.units))) l.initial.program l.program
