use Rattle.mod_visible.specs.Takers.{takers_in}
use Rattle.mod_visible.proofs.SpreadLaws.{both_spread}
use Rattle.mod_visible.proofs.closing.Closing.spread_all.Goals as goal

pub returns : goal.returns
returns c = both_spread (takers_in c.args.takers.now.links.items) c.args.given c.args.self.now.found.keys c.spread.new.self.found.keys c.spread-2.new.self.found.keys c.args.self.now.causes.items c.spread.new.self.causes.items c.spread-2.new.self.causes.items c.in_ok-spread.ensures c.in_ok-spread-2.ensures
