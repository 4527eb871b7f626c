use Rattle.plmod.proofs.LastLaws.{machine_left}
use Rattle.plmod.proofs.tests.left.Goals as goal

pub steps-requires : goal.steps-requires
steps-requires c = machine_left _ _ c.plmod-status.new.last _ c.plmod-status.ensures.leaves c.in-Some.is
