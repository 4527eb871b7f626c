use Rattle.std.proofs.Common.{ap, ◌∙◌}
use Rattle.mod_faults.specs.Needing.{stamps_in}
use Rattle.mod_faults.proofs.Stamps.{stamps-insert}
use Rattle.mod_faults.proofs.needs.Stamps.add.Goals as goal

pub returns : goal.returns
returns c = ap stamps_in c.in_ok-insert.ensures.keys ∙ stamps-insert c.args.self.now.all.keys c.args.stamp.marks
