use Rattle.std.proofs.Common.{map}
use Rattle.unit_format.specs.Views.{unit_facts}
use Rattle.plmod.proofs.RowLaws.{shown_result}
use Rattle.plmod.proofs.link.row_lines.Goals as goal

pub returns : goal.returns
returns c =
    shown_result c.args.visibility.now.names (map unit_facts c.args.units.now) c.in_ok-rows.rows c.show_rows.result (c.in_ok-rows.ensures (map unit_facts c.args.units.now) c.requires)
    (rw c.names.ensures at c.show_rows.ensures)
