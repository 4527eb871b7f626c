use Rattle.std.proofs.Common.{◌<◌, length, Bool, Some, None, sym, ap, ◌∙◌, subst, if◌then◌else◌}
use Rattle.pl_terms.specs.Order.{text_of}
use Rattle.pl_terms.specs.Trees.{Trees, count}
use Rattle.unit_model.specs.Entries.{entries_in}
use Rattle.term_walk.proofs.NameBounds.{entered_below}
use Rattle.mod_directives.proofs.Steps.{some_cell}
use Rattle.mod_directives.proofs.Reading.{one, proper, kept, pushed, names-left, proper-more, proper-fault, proper-end, lists-ok, lists-none}
use Rattle.mod_directives.proofs.listing.proper_list_entries.Goals as goal

pub push_item-requires-clause-some : goal.push_item-requires-clause-some
push_item-requires-clause-some c =
    subst (λ (ts : Trees _). 0 < count ts) (sym c.enter.ensures.trees)
    (some_cell (one c.args.names.now c.args.item c.args.byte) (text_of c.args.names.now) c.items.list (sym c.is_functor.ensures ∙ c.items-test.true))

pub push_item-requires-clause-below : goal.push_item-requires-clause-below
push_item-requires-clause-below c = entered_below (length c.args.names.now) c.items.list c.enter.new.self c.enter.ensures.trees c.items.invariant.below

pub returns-then-not-branch : goal.returns-then-not-branch
returns-then-not-branch c =
    let names = c.args.names.now in
    let k = kept names (one names c.args.item c.args.byte) c.enter.new.self c.push_item.new.list c.items.entries c.push_item.new.entries c.in_ok-push_item.field-0 c.if-not-branch.true c.in_ok-push_item.ensures in
    lists-none names (proper names c.args.item c.args.byte c.args.list)
    (proper-fault names c.args.item c.args.byte c.args.list c.items.list c.enter.new.self c.push_item.new.list c.items.entries c.push_item.new.entries c.new-entries.result c.is_functor.result
    c.new-entries.ensures c.is_functor.ensures c.items-test.true c.enter.ensures.trees k c.items.invariant.entries)

pub items-preserved : goal.items-preserved
items-preserved c =
    let names = c.args.names.now in
    let p = pushed names (one names c.args.item c.args.byte) c.enter.new.self c.push_item.new.list c.items.entries c.push_item.new.entries c.in_ok-push_item.field-0 c.if-not-branch.false c.in_ok-push_item.ensures in
    record {
      entries = proper-more names c.args.item c.args.byte c.items.list c.enter.new.self c.push_item.new.list c.items.entries c.push_item.new.entries c.is_functor.result _
          c.is_functor.ensures c.items-test.true c.enter.ensures.trees p c.items.invariant.entries;
      below = names-left (length names) c.enter.new.self c.push_item.new.list p.trees (entered_below (length names) c.items.list c.enter.new.self c.enter.ensures.trees c.items.invariant.below);
      bound = p.bound;
    }

pub returns-then-is_end : goal.returns-then-is_end
returns-then-is_end c =
    let names = c.args.names.now in
    lists-ok names (proper names c.args.item c.args.byte c.args.list) c.items.entries
    (proper-end names c.args.item c.args.byte c.args.list c.items.list c.items.entries c.new-entries.result c.is_functor.result c.is_end.result
    c.new-entries.ensures c.is_functor.ensures c.items-test.false c.is_end.ensures c.items.invariant.entries
    ∙ ap (λ (b : Bool). if b then Some (entries_in names c.items.entries) else None) c.if-is_end.true)
    c.items.invariant.bound

pub returns-else-is_end : goal.returns-else-is_end
returns-else-is_end c =
    let names = c.args.names.now in
    lists-none names (proper names c.args.item c.args.byte c.args.list)
    (proper-end names c.args.item c.args.byte c.args.list c.items.list c.items.entries c.new-entries.result c.is_functor.result c.is_end.result
    c.new-entries.ensures c.is_functor.ensures c.items-test.false c.is_end.ensures c.items.invariant.entries
    ∙ ap (λ (b : Bool). if b then Some (entries_in names c.items.entries) else None) c.if-is_end.false)
