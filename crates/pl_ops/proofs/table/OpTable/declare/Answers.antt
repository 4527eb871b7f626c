use Rattle.std.proofs.Common.{◌≡◌, Some, None, if◌then◌else◌, ◌++◌, [], ◌∷◌, sym, ◌∙◌, ap, subst, IfSome}
use Rattle.std.specs.Map.{lookup}
use Rattle.pl_ops.specs.Tables.{operator, same_text}
use Rattle.pl_ops.specs.Entries.{AreSlots, AllSlots}
use Rattle.pl_ops.specs.declared.slots.Slots.{Slots}
use Rattle.pl_ops.proofs.Lookups.{lookup-AreSlots, AreEntries-set_value_at, lookup-set_value_at, AllSlots-insert_entry, lookup-Updates, slot-none, no_slots, of_slots-if, operator-declared, operator-undeclared, of_slots, for_name}
use Rattle.pl_ops.proofs.table.OpTable.declare.Goals as goal

no_operators : Slots
no_operators = record { as_prefix = None; as_infix = None; as_postfix = None }

pub with_op-requires-clause-before : goal.with_op-requires-clause-before
with_op-requires-clause-before c =
    let found : lookup (for_name c.args.name.now) c.self.inside.by_name.entries ≡ Some c.index.result.now = sym c.in-Some.ensures.value ∙ c.index.ensures in
    subst (λ o. IfSome o AreSlots) found (lookup-AreSlots (for_name c.args.name.now) _ c.self.invariant.slots)

pub invariant_of-self : goal.invariant_of-self
invariant_of-self c = AreEntries-set_value_at c.self.inside.by_name c.in-Some.place c.with_op.result c.self.invariant c.with_op.ensures.after

pub returns-in-Some-clause-ok : goal.returns-in-Some-clause-ok
returns-in-Some-clause-ok c =
    let found : lookup (for_name c.args.name.now) c.self.inside.by_name.entries ≡ Some c.index.result.now = sym c.in-Some.ensures.value ∙ c.index.ensures in
    operator-declared c.self.inside.by_name.entries _ c.self.invariant
    (AreEntries-set_value_at c.self.inside.by_name c.in-Some.place c.with_op.result c.self.invariant c.with_op.ensures.after)
    c.args.op c.args.name.now c.index.result.now c.with_op.result
    (λ k. ap (of_slots k) found)
    (λ k n. ap (of_slots k) (lookup-set_value_at c.self.inside.by_name c.args.name.now c.in-Some.place c.with_op.result c.self.invariant (sym c.in-Some.ensures.index) n) ∙ of_slots-if k (same_text n c.args.name.now) c.with_op.result _)
    c.with_op.ensures.slots
    ∙ ap (λ table. operator (table ++ record { op = c.args.op; name = c.args.name.now } ∷ [])) c.self.view_is

pub invariant_of-self-in-None-2 : goal.invariant_of-self-in-None-2
invariant_of-self-in-None-2 c = record {
  distinct = c.insert.ensures.unique;
  slots = subst AllSlots (sym c.in_ok-insert-in-None-2.ensures.entries) (AllSlots-insert_entry c.self.inside.by_name.entries c.in_ok-key-in-None-2.key c.with_op-in-None-2.result c.self.invariant.slots c.with_op-in-None-2.ensures.after);
}

pub returns-in-None-clause-ok : goal.returns-in-None-clause-ok
returns-in-None-clause-ok c =
    let none : lookup (for_name c.args.name.now) c.self.inside.by_name.entries ≡ None = no_slots _ (sym c.in-None.ensures.found) in
    ap operator (sym c.self.view_is)
    ∙ operator-undeclared c.self.inside.by_name.entries c.self.invariant c.args.op c.args.name.now none c.if-op-eq0.true
    ∙ ap (λ table. operator (table ++ record { op = c.args.op; name = c.args.name.now } ∷ [])) c.self.view_is

pub returns-in_ok-insert-in-None-2-clause-ok : goal.returns-in_ok-insert-in-None-2-clause-ok
unfolding no_operators
returns-in_ok-insert-in-None-2-clause-ok c =
    let none : lookup (for_name c.args.name.now) c.self.inside.by_name.entries ≡ None = no_slots _ (sym c.in-None-2.ensures.found) in
    operator-declared c.self.inside.by_name.entries c.insert.new.self.entries c.self.invariant (invariant_of-self-in-None-2 c)
    c.args.op c.args.name.now no_operators c.with_op-in-None-2.result
    (λ k. ap (of_slots k) none ∙ sym (slot-none k))
    (λ k n. ap (of_slots k) (lookup-Updates c.self.inside.by_name c.insert.new.self c.in_ok-key-in-None-2.key c.with_op-in-None-2.result c.in_ok-insert-in-None-2.ensures.updates n ∙ ap (λ t. if same_text n t then Some c.with_op-in-None-2.result else lookup (for_name n) c.self.inside.by_name.entries) c.in_ok-key-in-None-2.ensures.items) ∙ of_slots-if k (same_text n c.args.name.now) c.with_op-in-None-2.result _)
    c.with_op-in-None-2.ensures.slots
    ∙ ap (λ table. operator (table ++ record { op = c.args.op; name = c.args.name.now } ∷ [])) c.self.view_is
