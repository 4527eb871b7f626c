use Rattle.std.proofs.Common.{◌≡◌, ◌<◌, ◌+◌, ◌-◌, ap, sym, subst, length, arith, get_or}
use Rattle.std.proofs.lemmas.List.{get_or_read}
use Rattle.pl_unify.proofs.Follow.{inside}
use Rattle.pl_unify.specs.State.{State, Stored}
use Rattle.pl_unify.specs.Notes.{GroundBlock}
use Rattle.pl_unify.proofs.Grounds.{noted-block}
use Rattle.pl_unify.proofs.store.Store.is_noted.Goals as goal

pub returns-then-count-index : goal.returns-then-count-index
returns-then-count-index c = λ t.
    let last = c.args.first + (c.args.count - 1) in
    let now = ap (λ (v : Stored). v.state) (sym c.self.view_is) in
    let s : State = inside c.self.inside.cells.items c.self.inside.vars.items c.self.inside.trail.items in
    let low : last < length c.self.inside.ground.items = omega (arith, c.if-last-len.true, c.len.ensures, c.self.inside.ground.ok.0) in
    let e : c.index.result.now ≡ get_or c.self.inside.ground.items last 0 = get_or_read c.self.inside.ground.items last c.index.result.now low c.index.ensures 0 in
    let b : GroundBlock s c.args.first c.args.count = noted-block s c.self.inside.ground.items c.self.inside.noted.items c.args.first c.args.count last c.self.invariant.notes (omega arith) (omega arith) (omega (arith, e, c.if-count-index.true)) in
    subst (λ (x : State). GroundBlock x c.args.first c.args.count) (sym now) b
