use Rattle.std.proofs.Common.{◌∙◌}
use Rattle.mod_visible.specs.Finding.{indicator}
use Rattle.mod_visible.proofs.LookLaws.{gives_is}
use Rattle.mod_visible.proofs.visibility.Visibility.gives.Goals as goal

pub returns : goal.returns
returns c = λ units v. c.is_some.ensures ∙ gives_is units c.args.self.now.names c.args.home.now (indicator c.args.name.now c.args.arity) c.first.result (c.first.ensures units v)
