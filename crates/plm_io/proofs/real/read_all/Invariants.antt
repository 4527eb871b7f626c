use Rattle.std.proofs.Common.{◌-◌, vec_len}
use Rattle.plm_io.proofs.real.read_all.Given as goal

-- each turn takes at least one byte
abbrev pub decreases-loop-piece : goal.decreases-loop-piece
decreases-loop-piece g l = 67108865 - vec_len l.vec
