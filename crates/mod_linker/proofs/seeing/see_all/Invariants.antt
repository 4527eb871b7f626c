use Rattle.std.proofs.Common.{map, take}
use Rattle.mod_linker.specs.Rowing.{ShowsMore}
use Rattle.mod_linker.specs.Showing.{shown_by}
use Rattle.mod_linker.proofs.seeing.see_all.Given as goal

abbrev pub invariant-loop-row : goal.invariant-loop-row
invariant-loop-row l = ShowsMore (map (shown_by l.remap) (take l.row-index l.rows)) l.initial.program l.program
