use Rattle.std.proofs.Common.{take}
use Rattle.unit_model.specs.Encoding.{text_at}
use Rattle.mod_linker.specs.Modules.{AddsModules}
use Rattle.mod_linker.proofs.Interfaces.{texts_in}
use Rattle.mod_linker.proofs.modules.add_interfaces.Given as goal

abbrev pub invariant-loop-section : goal.invariant-loop-section
invariant-loop-section l = AddsModules (texts_in (text_at l.unit.names) (take l.section-index l.section-items)) l.initial.program l.program
