-- Words and files have no more than one outcome.
use Rattle.std.proofs.Common.{map, Some, None, sym, ◌∙◌}
use Rattle.goal_runs.specs.Goals.{GoalsAreDecided}
use Rattle.needs_laws.specs.Wholes.{OneWhole}
use Rattle.plmod.specs.Words.{Prepare, Link, Run, All, Show, Grow}
use Rattle.plmod.specs.Comes.{OneOutcome}
use Rattle.plmod.specs.Links.{link_lines, show_lines}
use Rattle.plmod.proofs.LinkLaws.{one_linked}
use Rattle.plmod.proofs.PrepareLaws.{one_prepared}
use Rattle.plmod.proofs.OneRun.{one_run, one_all, one_grown}

pub one_outcome : GoalsAreDecided → OneWhole → OneOutcome
one_outcome decided whole None files o p g h = g ∙ sym h
one_outcome decided whole (Some (Prepare out text known)) files o p g h = one_prepared text known (files text) (map files known) o p g h
one_outcome decided whole (Some (Link units)) files o p g h = one_linked link_lines units (map files units) o p g h
one_outcome decided whole (Some (Run budget goal units)) files o p g h = one_run decided whole units (map files units) budget goal o p g h
one_outcome decided whole (Some (All budget goal texts)) files o p g h = one_all decided whole texts (map files texts) budget goal o p g h
one_outcome decided whole (Some (Show units)) files o p g h = one_linked show_lines units (map files units) o p g h
one_outcome decided whole (Some (Grow count budget)) files o p g h = one_grown decided whole count budget o p g h
