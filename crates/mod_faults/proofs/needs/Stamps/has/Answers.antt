use Rattle.std.proofs.Common.{◌∙◌}
use Rattle.mod_faults.proofs.Stamps.{stamps-any}
use Rattle.mod_faults.proofs.needs.Stamps.has.Goals as goal

pub returns : goal.returns
returns c = c.contains.ensures ∙ stamps-any c.args.self.now.all.keys c.args.stamp.now.marks.items
