use Rattle.std.proofs.Common.{rules}
use Rattle.plm_io.proofs.Short.{short_result}
use Rattle.plm_io.proofs.entries.Entries.find.Goals as goal

pub returns-clause-short : goal.returns-clause-short
returns-clause-short c = short_result c.self.inside.vec.items c.args.name.now c.first_under.result c.self.invariant (search rules)
