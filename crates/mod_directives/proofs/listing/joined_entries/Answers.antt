use Rattle.mod_directives.proofs.Reading.{rest, joined-end, lists-ok, not_so}
use Rattle.mod_directives.proofs.listing.joined_entries.Goals as goal

pub returns : goal.returns
returns c =
    lists-ok c.args.names.now (rest c.args.names.now c.args.item c.args.byte c.args.list) c.loop-list.entries
    (joined-end c.args.names.now c.args.item c.args.byte c.args.list c.loop-list.list c.new-entries.result c.loop-list.entries c.new-entries.ensures
    (not_so c.has_more.result c.loop-list-test.false c.has_more.ensures.1) c.loop-list.invariant.entries)
    c.loop-list.invariant.bound
