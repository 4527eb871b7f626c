use Rattle.mod_directives.proofs.Reading.{one, kept, list-joined, list-proper, Lists-same}
use Rattle.mod_directives.proofs.listing.list_entries.Goals as goal

pub returns-then-is_functor : goal.returns-then-is_functor
returns-then-is_functor c =
    let names = c.args.names.now in
    let k = kept names (one names c.args.item c.args.byte) c.args.list c.push_item.new.list c.new-entries.result c.push_item.new.entries c.in_ok-push_item.field-0 c.if-branch.false c.in_ok-push_item.ensures in
    Lists-same names _ _ c.joined_entries.result
    (list-joined names c.args.item c.args.byte c.args.list c.push_item.new.list c.new-entries.result c.push_item.new.entries c.is_functor.result c.requires.one k c.is_functor.ensures c.if-is_functor.true)
    c.joined_entries.ensures

pub returns : goal.returns
returns c =
    let names = c.args.names.now in
    let k = kept names (one names c.args.item c.args.byte) c.args.list c.push_item.new.list c.new-entries.result c.push_item.new.entries c.in_ok-push_item.field-0 c.if-branch.false c.in_ok-push_item.ensures in
    Lists-same names _ _ c.proper_list_entries.result
    (list-proper names c.args.item c.args.byte c.args.list c.push_item.new.list c.new-entries.result c.push_item.new.entries c.is_functor.result c.requires.one k c.is_functor.ensures c.if-is_functor.false)
    c.proper_list_entries.ensures
