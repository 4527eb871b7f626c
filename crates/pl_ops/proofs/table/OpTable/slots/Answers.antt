use Rattle.std.proofs.Common.{sym, ◌∙◌, ap, subst, IfSome}
use Rattle.pl_ops.specs.Tables.{operator}
use Rattle.pl_ops.specs.Entries.{AreSlots}
use Rattle.pl_ops.proofs.Lookups.{operator-declarations, lookup-AreSlots, slot-none, of_slots, for_name}
use Rattle.pl_ops.proofs.table.OpTable.slots.Goals as goal

pub returns-in-Some-clause-operators : goal.returns-in-Some-clause-operators
returns-in-Some-clause-operators c = λ k.
    ap (of_slots k) c.in-Some.ensures.value
    ∙ sym (operator-declarations _ c.self.invariant k c.args.name.now)
    ∙ ap (λ table. operator table k c.args.name.now) c.self.view_is

pub returns-in-Some-clause-are : goal.returns-in-Some-clause-are
returns-in-Some-clause-are c = subst (λ o. IfSome o AreSlots) (sym c.in-Some.ensures.value) (lookup-AreSlots (for_name c.args.name.now) _ c.self.invariant.slots)

pub returns-in-None-clause-operators : goal.returns-in-None-clause-operators
returns-in-None-clause-operators c = λ k.
    slot-none k
    ∙ ap (of_slots k) c.in-None.ensures.value
    ∙ sym (operator-declarations _ c.self.invariant k c.args.name.now)
    ∙ ap (λ table. operator table k c.args.name.now) c.self.view_is
