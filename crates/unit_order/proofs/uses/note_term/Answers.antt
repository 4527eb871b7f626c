use Rattle.std.proofs.Common.{◌≡◌, subst}
use Rattle.std.specs.Prelude.{OnOk}
use Rattle.unit_format.proofs.UseLaws.{names_in}
use Rattle.unit_order.specs.Numbering.{all_noted}
use Rattle.unit_order.proofs.uses.note_term.Goals as goal

pub returns : goal.returns
returns c =
    subst (λ l. OnOk c.note_cells.result (c.note_cells.new.used ≡ all_noted c.args.used.now l)) (names_in c.args.term.now c.cells.result.now c.cells.ensures.same) c.note_cells.ensures
