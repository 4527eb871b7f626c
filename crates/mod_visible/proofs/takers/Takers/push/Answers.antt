use Rattle.std.proofs.Common.{ℕ, List, length, Some, cond, ap, sym, subst, ◌∙◌}
use Rattle.std.specs.Map.{lookup}
use Rattle.mod_visible.specs.declared.keys.Source.{Source}
use Rattle.mod_visible.specs.declared.takers.Link.{Link}
use Rattle.mod_visible.specs.Keys.{same_source}
use Rattle.mod_visible.specs.Takers.{IsChained}
use Rattle.mod_visible.proofs.ChainLaws.{chained_push}
use Rattle.mod_visible.proofs.takers.Takers.push.Goals as goal

pub returns-clause-chained : goal.returns-clause-chained
returns-clause-chained c =
    let table = c.put.new.self.places.entries in
    let now = λ (s : Source). c.in_ok-earlier.ensures.places s ∙ ap (λ (n : ℕ). cond (same_source c.args.taker.source s) (Some n) (lookup (same_source s) c.args.self.now.last.places.entries)) (ap (λ (l : List Link). length l) c.as_slice-place.ensures.value) in
    subst (λ (l : List Link). IsChained l table) (sym c.in_ok-push.ensures.items)
    (chained_push c.args.self.now.links.items c.args.self.now.last.places.entries table c.args.taker c.in_ok-earlier.earlier c.requires c.in_ok-earlier.ensures.earlier now)
