use Rattle.std.proofs.Common.{◌∙◌, sym, ap, subst}
use Rattle.pl_unify.specs.State.{state_at, IsMark, Stored}
use Rattle.pl_unify.proofs.Fields.{fields-undone}
use Rattle.pl_unify.proofs.Follow.{inside}
use Rattle.pl_unify.proofs.Bound.{inside-unbindable, undo_made, UndoMade}
use Rattle.pl_unify.proofs.store.Store.undo.Goals as goal
use Rattle.pl_unify.proofs.store.Store.undo.Goals.{After-truncate-3}

pub unbind-requires-clause-order : goal.unbind-requires-clause-order
unbind-requires-clause-order c = inside-unbindable c.self.inside.cells.items _ _ c.self.invariant.inside

made : (c : After-truncate-3) → UndoMade c.self.inside.cells.items c.unbind.new.vars.items c.unbind.new.trail.items c.args.mark.now c.args.self.now.state
made c =
    undo_made c.self.inside.cells.items c.unbind.new.vars.items c.unbind.new.trail.items c.args.mark.now c.args.self.now.state c.requires
    (rw (← c.self.view_is)) (rw (← c.self.view_is) c.unbind.ensures.same) (rw (← c.self.view_is) c.unbind.ensures.links) c.unbind.ensures.order.free

pub invariant_of-self : goal.invariant_of-self
invariant_of-self c =
    let now = ap (λ (v : Stored). v.state) (sym c.self.view_is) in
    let mark : IsMark c.args.mark.now (inside c.self.inside.cells.items c.self.inside.vars.items c.self.inside.trail.items) = subst (IsMark c.args.mark.now) now c.requires in
    rw (c.truncate.ensures.items, c.truncate-2.ensures.items, c.truncate-3.ensures.items)
    (fields-undone c.self.inside.cells.items c.self.inside.vars.items c.self.inside.trail.items c.self.inside.ground.items c.forget.new.ground.items c.self.inside.noted.items c.forget.new.noted.items _ _ c.args.mark.now c.self.invariant mark c.forget.ensures
    ((made c).state ∙ ap (state_at c.args.mark.now) now) (made c).fields)

pub forget-requires : goal.forget-requires
forget-requires c = c.self.invariant.notes.order

pub returns-clause-state : goal.returns-clause-state
returns-clause-state c = rw (c.truncate-2.ensures.items, c.truncate-3.ensures.items) (made c).state
