use Rattle.std.proofs.Common.{ℕ, ◌<◌, length, sym, subst}
use Rattle.pl_terms.specs.Trees.{Trees}
use Rattle.pl_terms.specs.NameBounds.{AllNamesBelow}
use Rattle.term_walk.specs.Walks.{size}
use Rattle.term_walk.proofs.Walking.{size-back}
use Rattle.term_walk.proofs.NameBounds.{entered_below}
use Rattle.mod_directives.proofs.Reading.{one, pushed, kept, joined-comma, joined-none}
use Rattle.mod_directives.proofs.listing.push_joined.Goals as goal

pub returns-then-branch-clause-less : goal.returns-then-branch-clause-less
returns-then-branch-clause-less c =
    let p = pushed c.args.names.now (one c.args.names.now c.args.item c.args.byte) c.args.list.now c.push_item.new.list c.args.entries.now c.push_item.new.entries c.in_ok-push_item.field-0 c.if-branch.true c.in_ok-push_item.ensures in
    subst (λ (ts : Trees ℕ). size ts < size c.args.list.now) (sym p.trees) (size-back c.args.list.now c.requires.some)

pub returns-then-is_functor-clause-ok : goal.returns-then-is_functor-clause-ok
returns-then-is_functor-clause-ok c =
    let k = kept c.args.names.now (one c.args.names.now c.args.item c.args.byte) c.args.list.now c.push_item.new.list c.args.entries.now c.push_item.new.entries c.in_ok-push_item.field-0 c.if-branch.false c.in_ok-push_item.ensures in
    joined-comma c.args.names.now c.args.item c.args.byte c.args.list.now c.push_item.new.list c.enter.new.self c.args.entries.now c.push_item.new.entries c.is_functor.result
    k c.is_functor.ensures c.if-is_functor.true c.enter.ensures.trees

pub returns-then-is_functor-clause-below : goal.returns-then-is_functor-clause-below
returns-then-is_functor-clause-below c =
    let k = kept c.args.names.now (one c.args.names.now c.args.item c.args.byte) c.args.list.now c.push_item.new.list c.args.entries.now c.push_item.new.entries c.in_ok-push_item.field-0 c.if-branch.false c.in_ok-push_item.ensures in
    entered_below (length c.args.names.now) c.push_item.new.list c.enter.new.self c.enter.ensures.trees (subst (AllNamesBelow (length c.args.names.now)) (sym k.trees) c.requires.below)

pub returns-else-is_functor-clause-fault : goal.returns-else-is_functor-clause-fault
returns-else-is_functor-clause-fault c n e =
    let k = kept c.args.names.now (one c.args.names.now c.args.item c.args.byte) c.args.list.now c.push_item.new.list c.args.entries.now c.push_item.new.entries c.in_ok-push_item.field-0 c.if-branch.false c.in_ok-push_item.ensures in (
      cc,
      joined-none c.args.names.now c.args.item c.args.byte c.args.list.now c.push_item.new.list c.args.entries.now c.push_item.new.entries c.is_functor.result c.requires.some
          k c.is_functor.ensures c.if-is_functor.false,
    )
