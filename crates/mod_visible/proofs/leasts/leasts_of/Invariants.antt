use Rattle.std.proofs.Common.{take}
use Rattle.mod_visible.specs.Leasts.{AreLeasts}
use Rattle.mod_visible.proofs.leasts.leasts_of.Given as goal

abbrev pub invariant-loop-cause : goal.invariant-loop-cause
invariant-loop-cause l = AreLeasts l.table.causes.entries (take l.cause-index l.causes) l.leasts.causes.entries
