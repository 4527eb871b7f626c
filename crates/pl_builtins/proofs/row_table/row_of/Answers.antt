use Rattle.std.proofs.Common.{None, sym}
use Rattle.std.proofs.lemmas.List.{get_or_past}
use Rattle.builtin_model.specs.Rows.{rows}
use Rattle.pl_builtins.proofs.row_table.row_of.Goals as goal

pub returns-else-number-lt62 : goal.returns-else-number-lt62
returns-else-number-lt62 c = sym (get_or_past rows c.args.number None c.if-number-lt62.false)
