use Rattle.std.proofs.Common.{◌≡◌, rules}
use Rattle.pl_unify.specs.State.{IsStore}
use Rattle.pl_unify.proofs.Shapes.{shape_at}
use Rattle.pl_unify.proofs.store.Store.word_at.Goals as goal

pub returns-clause-shape : goal.returns-clause-shape
returns-clause-shape c =
    let st : IsStore c.args.self.now.state = rw (← c.self.view_is) c.self.invariant.inside.store in
    let cells : c.args.self.now.state.cells ≡ c.self.inside.cells.items = search rules in
    shape_at c.args.self.now.state c.args.at.0 c.index.result.now c.resolve.result st c.requires (rw cells c.index.ensures) c.resolve.ensures.same c.resolve.ensures.free
