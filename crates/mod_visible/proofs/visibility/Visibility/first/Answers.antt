use Rattle.std.proofs.Common.{subst, sym}
use Rattle.mod_visible.specs.Causing.{sort_view}
use Rattle.mod_visible.specs.Finding.{indicator}
use Rattle.mod_visible.specs.Looking.{IsFirstFor}
use Rattle.mod_visible.proofs.LookLaws.{first_for, no_key}
use Rattle.mod_visible.proofs.visibility.Visibility.first.Goals as goal

pub returns-in-Some : goal.returns-in-Some
returns-in-Some c = λ units v.
    let s = c.args.self.now in
    subst (IsFirstFor units s.names (sort_view c.args.sort) c.args.home.now (indicator c.args.name.now c.args.arity)) (sym c.get.ensures)
    (first_for units s.names s.causes.items v.causes s.firsts.causes.entries v.firsts c.args.sort c.args.home.now c.args.name.now c.args.arity c.in-Some.key c.in-Some.ensures.some)

pub returns-in-None : goal.returns-in-None
returns-in-None c = λ units v. no_key units c.args.self.now.names c.args.self.now.causes.items v.causes c.args.sort c.args.home.now c.args.name.now c.args.arity c.in-None.ensures.none
