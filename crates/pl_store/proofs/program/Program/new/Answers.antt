use Rattle.pl_store.proofs.FactLaws.{empty-linked}
use Rattle.pl_store.proofs.program.Program.new.Goals as goal

pub invariant_of-result : goal.invariant_of-result
invariant_of-result c = rw (c.new.ensures, c.new-2.ensures) empty-linked
