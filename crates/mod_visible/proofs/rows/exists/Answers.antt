use Rattle.std.proofs.Common.{ap, ◌∙◌}
use Rattle.std.specs.Prelude.{is_some}
use Rattle.mod_visible.proofs.NameLaws.{is_placed, is_some-mapped}
use Rattle.mod_visible.proofs.rows.exists.Goals as goal

pub returns : goal.returns
returns c = c.is_some.ensures ∙ is_some-mapped (λ id. id.0) c.find.result ∙ ap is_some c.find.ensures ∙ is_placed c.args.modules.now c.args.home.now
