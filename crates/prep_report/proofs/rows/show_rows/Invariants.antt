use Rattle.std.proofs.Common.{◌≡◌, ◌++◌, drop}
use Rattle.prep_report.specs.Rows.{rows_text}
use Rattle.prep_report.proofs.rows.show_rows.Given as goal

-- the lines so far and those of the rows that are left are the lines of all
abbrev pub invariant-loop-row : goal.invariant-loop-row
invariant-loop-row l = l.lines ++ rows_text l.names (drop l.row-index l.items) ≡ rows_text l.names l.items
