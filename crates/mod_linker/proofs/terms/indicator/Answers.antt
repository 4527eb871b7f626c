use Rattle.std.proofs.Common.{sym, ap, ◌∙◌}
use Rattle.mod_linker.specs.Cells.{begun, is_begun}
use Rattle.mod_linker.proofs.Mapping.{begins, is_begun-cells}
use Rattle.mod_linker.proofs.terms.indicator.Goals as goal

pub begun-requires : goal.begun-requires
begun-requires c = ap is_begun c.cells.ensures.same ∙ is_begun-cells c.args.head.now ∙ c.requires

pub returns : goal.returns
returns c = sym (begins c.args.head.now) ∙ ap begun (sym c.cells.ensures.same) ∙ c.begun.ensures
