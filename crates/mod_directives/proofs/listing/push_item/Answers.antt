use Rattle.std.proofs.Common.{◌≡◌, length, subst}
use Rattle.mod_directives.specs.Lists.{ItemBelow}
use Rattle.mod_directives.specs.declared.listing.Item.TheVariants.{Indicator}
use Rattle.mod_directives.proofs.Reading.{push-indicator}
use Rattle.mod_directives.proofs.listing.push_item.Goals as goal

pub returns-in_ok-push_role-in-Some : goal.returns-in_ok-push_role-in-Some
returns-in_ok-push_role-in-Some c =
    let is : c.args.item ≡ Indicator c.in-Indicator.role = c.in-Indicator.is in
    let n = length c.args.names.now in
    push-indicator c.args.names.now c.args.item c.args.byte c.in-Indicator.role c.in-Some.ind c.args.list.now c.take_tree.new.self c.args.entries.now c.push_role.new.entries is c.in-Some.ensures.form
    (c.in_ok-push_role-in-Some.ensures.entries c.args.names.now)
    (c.in_ok-push_role-in-Some.ensures.below n (subst (ItemBelow n) is c.requires.item_below) (c.in-Some.ensures.below n c.requires.below) c.requires.entries_below)
    c.take_tree.ensures.trees
