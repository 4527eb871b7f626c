use Rattle.std.proofs.Common.{◌++◌}
use Rattle.pl_terms.specs.Occurrence.{occurrences}
use Rattle.unit_format.proofs.Counting.{decides, decides_none}
use Rattle.unit_format.proofs.order.is_numbered.Goals as goal

pub returns-in-Some : goal.returns-in-Some
returns-in-Some c = decides c.args.count c.in-Some.next (occurrences c.args.head.now ++ occurrences c.args.body.now) c.in-Some.ensures

pub returns-in-None : goal.returns-in-None
returns-in-None c = decides_none c.args.count (occurrences c.args.head.now ++ occurrences c.args.body.now) c.in-None.ensures
