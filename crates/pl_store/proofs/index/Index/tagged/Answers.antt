use Rattle.std.proofs.Common.{◌<◌, ◌∙◌, length, sym, ap, subst, arith, nat_le, find}
use Rattle.std.specs.List.Sorted.{IsNonDecreasing}
use Rattle.pl_store.specs.Places.{next_place}
use Rattle.pl_store.specs.Tags.{Indexed, same_tag, tags_of, lists}
use Rattle.pl_store.proofs.PlaceLaws.{places-ascend}
use Rattle.pl_store.proofs.IndexLaws.{untagged, group-is, list-at, length-lists}
use Rattle.pl_store.proofs.index.Index.tagged.Goals as goal

pub returns-in_err-group : goal.returns-in_err-group
returns-in_err-group c =
    c.from_residual.ensures
    ∙ untagged c.self.inside.entries.items c.self.inside.ends.items c.self.inside.tags.keys (lists c.self.inside.groups.items) c.self.invariant c.args.tag c.args.from c.group_number.result c.group_number.ensures.found (sym c.in_err-group.was)
    ∙ ap (λ (x : Indexed). next_place (same_tag c.args.tag) c.args.from x.tags) c.self.view_is

pub index-requires : goal.index-requires
index-requires c =
    let group = group-is c.self.inside.entries.items c.self.inside.ends.items c.self.inside.tags.keys (lists c.self.inside.groups.items) c.self.invariant c.args.tag c.in_ok-group.group (sym c.group_number.ensures.place ∙ c.in_ok-group.was) in
    omega (arith, group.1, length-lists c.self.inside.groups.items, c.self.inside.groups.ok.0)

pub first_from-requires : goal.first_from-requires
first_from-requires c =
    let group = group-is c.self.inside.entries.items c.self.inside.ends.items c.self.inside.tags.keys (lists c.self.inside.groups.items) c.self.invariant c.args.tag c.in_ok-group.group (sym c.group_number.ensures.place ∙ c.in_ok-group.was) in
    let low : c.in_ok-group.group < length c.self.inside.groups.items = omega (arith, group.1, length-lists c.self.inside.groups.items) in
    subst IsNonDecreasing (sym (c.as_slice.ensures.value ∙ sym (list-at c.self.inside.groups.items c.in_ok-group.group c.index.result.now low c.index.ensures) ∙ group.0))
    (places-ascend (same_tag c.args.tag) (tags_of c.self.inside.entries.items))

pub returns : goal.returns
returns c =
    let group = group-is c.self.inside.entries.items c.self.inside.ends.items c.self.inside.tags.keys (lists c.self.inside.groups.items) c.self.invariant c.args.tag c.in_ok-group.group (sym c.group_number.ensures.place ∙ c.in_ok-group.was) in
    let low : c.in_ok-group.group < length c.self.inside.groups.items = omega (arith, group.1, length-lists c.self.inside.groups.items) in
    c.first_from.ensures
    ∙ ap (find (nat_le c.args.from)) (c.as_slice.ensures.value ∙ sym (list-at c.self.inside.groups.items c.in_ok-group.group c.index.result.now low c.index.ensures) ∙ group.0)
    ∙ ap (λ (x : Indexed). next_place (same_tag c.args.tag) c.args.from x.tags) c.self.view_is
