use Rattle.std.proofs.Common.{refl}
use Rattle.pl_terms.specs.Occurrence.{canon}
use Rattle.pl_unify.specs.State.{tree_at}
use Rattle.solver_model.specs.Search.{pops}
use Rattle.goal_state.specs.Denotation.{naming, items_here}
use Rattle.goal_moves.specs.Moves.{Moved, called, goal_items, thrown}
use Rattle.goal_moves.proofs.OpenLaws.{with_store}
use Rattle.goal_moves.specs.Untried.{Leaves, TakesOff}
use Rattle.goal_moves.proofs.CallLaws.{grown_deeper, unknown, if_ok_map}
use Rattle.goal_moves.proofs.UntriedCalls.{unknown_leaves}
use Rattle.goal_moves.proofs.procedures.throw_unknown.Goals as goal

pub raise-requires-clause-well : goal.raise-requires-clause-well
raise-requires-clause-well c = grown_deeper c.args.compiled.now c.args.path.now _ c.args.active refl c.in_ok-ball.ensures.grows.extends c.next_var-next.ensures.store c.requires.ready

pub returns-clause-moved : goal.returns-clause-moved
returns-clause-moved c =
    if_ok_map c.raise.result
    (λ g. Moved c.args.compiled.now (with_store c.no_procedure.new.store c.args.path.now) c.raise.new.path (thrown c.args.compiled.now (with_store c.no_procedure.new.store c.args.path.now) (canon (tree_at c.no_procedure.new.store.state c.in_ok-ball.ball)) (pops (items_here c.args.compiled.now (with_store c.no_procedure.new.store c.args.path.now) c.args.active.rest.f c.args.active.rest.pc))) g)
    (λ g. Moved c.args.compiled.now c.args.path.now c.raise.new.path (called c.args.compiled.now c.args.path.now c.args.active.node (goal_items c.args.compiled.now c.args.path.now c.args.active)) g)
    (λ g h. unknown c.args.compiled.now c.requires.compiled c.args.path.now c.args.active c.requires.ready c.requires.row (with_store c.no_procedure.new.store c.args.path.now) c.raise.new.path c.in_ok-ball.ball _ g refl c.in_ok-ball.ensures.grows c.requires.goal c.requires.unseen
    (c.in_ok-ball.ensures.tree (naming c.args.compiled.now) c.requires.compiled.constructs) h)
    c.raise.ensures.moved

pub returns-clause-untried : goal.returns-clause-untried
returns-clause-untried c =
    if_ok_map c.raise.result
    (λ g. TakesOff (with_store c.no_procedure.new.store c.args.path.now) c.raise.new.path)
    (λ g. Leaves c.args.compiled.now c.args.path.now c.raise.new.path (called c.args.compiled.now c.args.path.now c.args.active.node (goal_items c.args.compiled.now c.args.path.now c.args.active)))
    (λ g h. unknown_leaves c.args.compiled.now c.requires.compiled c.args.path.now c.args.active c.requires.ready c.requires.row c.raise.new.path _ c.requires.goal c.requires.unseen h)
    c.raise.ensures.fewer
