-- The linked program of units.
use Rattle.std.specs.Prelude.{List, Bool, ◌&&◌, Option, find}
use Rattle.std.specs.Option.{option_map}
use Rattle.pl_ops.specs.Tables.{same_text}
use Rattle.unit_model.specs.Facts.{Facts}
use Rattle.unit_model.specs.Directives.{Text}
use Rattle.goal_model.specs.Program.{Program}
use Rattle.link_model.specs.Places.{Ind, same_ind}
use Rattle.link_model.specs.Seeing.{exists}
use Rattle.link_model.specs.Rows.{Row, rows_of}
use Rattle.program_model.specs.Saying.{said, clauses_said, modes_said}

abbrev pub is_row : Text → Ind → Row → Bool
is_row m i r = same_text m r.of && same_ind i r.ind

-- the module that defines what is visible as i in m: that of the first row
abbrev pub definer_in : List Row → Text → Ind → Option Text
definer_in rows m i = option_map (λ r. r.definer) (find (is_row m i) rows)

-- Which modules exist, what is visible in them, the last modes that each definer declares, and the clauses in the order of units,
-- sections and entries.
abbrev pub program_of_facts : List (Facts Text) → Program Text
program_of_facts us = record {
  exists = exists us;
  visible = definer_in (rows_of us);
  modes = modes_said same_text (said us);
  clauses = clauses_said same_text (said us);
}
