use Rattle.std.proofs.Common.{◌-◌, length}
use Rattle.clause_code.proofs.ListLaws.{HaveUpTo}
use Rattle.clause_code.proofs.targets.clause_targets.Given as goal

abbrev pub invariant-loop-instruction : goal.invariant-loop-instruction
invariant-loop-instruction l = HaveUpTo l.constructs l.tables.rows l.home.0 l.code (length l.list.items) l.list.items

abbrev pub decreases-loop-instruction : goal.decreases-loop-instruction
decreases-loop-instruction l = length l.code.goals.code - length l.list.items
