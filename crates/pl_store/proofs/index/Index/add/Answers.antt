use Rattle.std.proofs.Common.{◌≡◌, ◌<◌, ◌∙◌, ◌++◌, ◌∷◌, [], sym, ap, subst, arith, set, length, IfSome}
use Rattle.std.proofs.lemmas.List.{length-set}
use Rattle.std.proofs.lemmas.Option.{slice_get_within}
use Rattle.pl_store.specs.Tags.{Indexed, IsIndex, lists}
use Rattle.pl_store.proofs.IndexLaws.{IsIndex-grown, last-within, list-at, lists-same, lists-set, length-lists, IsIndex-entered, entered-tags}
use Rattle.pl_store.proofs.index.Index.add.Goals as goal

pub invariant_of-self-in_err-make_room : goal.invariant_of-self-in_err-make_room
invariant_of-self-in_err-make_room c =
    subst (λ es. IsIndex es c.self.inside.ends.items c.group_of.new.tags.keys (lists c.group_of.new.groups.items)) (sym c.in_err-make_room.ensures.items)
    (IsIndex-grown _ _ _ _ c.self.invariant c.args.tag _ _ c.in_ok-group.ensures.tags c.in_ok-group.ensures.groups)

pub index_mut-requires : goal.index_mut-requires
index_mut-requires c =
    let grown = IsIndex-grown _ _ _ _ c.self.invariant c.args.tag _ _ c.in_ok-group.ensures.tags c.in_ok-group.ensures.groups in
    omega (arith, slice_get_within c.group_of.new.tags.keys c.in_ok-group.group c.args.tag c.in_ok-group.ensures.group, grown.count, length-lists c.group_of.new.groups.items, c.group_of.new.groups.ok.0)

pub invariant_of-self-in_err-push : goal.invariant_of-self-in_err-push
invariant_of-self-in_err-push c =
    let grown = IsIndex-grown _ _ _ _ c.self.invariant c.args.tag _ _ c.in_ok-group.ensures.tags c.in_ok-group.ensures.groups in
    let low : c.in_ok-group.group < length c.group_of.new.groups.items = omega (arith, slice_get_within c.group_of.new.tags.keys c.in_ok-group.group c.args.tag c.in_ok-group.ensures.group, grown.count, length-lists c.group_of.new.groups.items) in
    subst (λ l. IsIndex c.make_room.new.list.items c.self.inside.ends.items c.group_of.new.tags.keys l)
    (sym (lists-same c.group_of.new.groups.items c.in_ok-group.group c.index_mut.result.now c.push.new.list low c.index_mut.ensures.value c.in_err-push.ensures.err))
    (subst (λ es. IsIndex es c.self.inside.ends.items c.group_of.new.tags.keys (lists c.group_of.new.groups.items)) (sym c.in_ok-make_room.ensures.items) grown)

pub enter-requires-clause-last : goal.enter-requires-clause-last
enter-requires-clause-last c =
    let grown = IsIndex-grown _ _ _ _ c.self.invariant c.args.tag _ _ c.in_ok-group.ensures.tags c.in_ok-group.ensures.groups in
    let owned : c.args.tag.owner < length c.self.inside.ends.items = subst (λ n. c.args.tag.owner < n) (sym (ap (λ (x : Indexed). x.owners) c.self.view_is)) c.requires in
    subst (λ es. IfSome c.index-ends.result.now.last (λ l. l < length es)) (sym c.in_ok-make_room.ensures.items)
    (last-within _ _ _ _ grown c.args.tag.owner c.index-ends.result.now owned c.index-ends.ensures)

pub invariant_of-self-2 : goal.invariant_of-self-2
invariant_of-self-2 c =
    let grown = IsIndex-grown _ _ _ _ c.self.invariant c.args.tag _ _ c.in_ok-group.ensures.tags c.in_ok-group.ensures.groups in
    let owned : c.args.tag.owner < length c.self.inside.ends.items = subst (λ n. c.args.tag.owner < n) (sym (ap (λ (x : Indexed). x.owners) c.self.view_is)) c.requires in
    let low : c.in_ok-group.group < length c.group_of.new.groups.items = omega (arith, slice_get_within c.group_of.new.tags.keys c.in_ok-group.group c.args.tag c.in_ok-group.ensures.group, grown.count, length-lists c.group_of.new.groups.items) in
    let count : c.len-place.result ≡ length c.self.inside.entries.items = c.len-place.ensures ∙ c.make_room.new.list.ok.0 ∙ ap length c.in_ok-make_room.ensures.items in
    IsIndex-entered _ _ _ _ grown c.in_ok-group.ensures.distinct c.args.tag c.in_ok-group.group c.in_ok-group.ensures.group owned c.index-ends.result.now c.index-ends.ensures c.len-place.result count
    c.make_room.new.list.items c.in_ok-make_room.ensures.items c.enter.new.entries.items c.enter.ensures c.with_last.result c.with_last.ensures.first c.with_last.ensures.last
    (lists (set c.group_of.new.groups.items c.in_ok-group.group c.push.new.list)) c.push.new.list.items (lists-set c.group_of.new.groups.items c.in_ok-group.group c.push.new.list)
    (c.in_ok-push.ensures.ok ∙ ap (λ l. l ++ c.len-place.result ∷ []) (sym (list-at c.group_of.new.groups.items c.in_ok-group.group c.index_mut.result.now low c.index_mut.ensures.value)))

pub returns-clause-ok : goal.returns-clause-ok
returns-clause-ok c =
    let grown = IsIndex-grown _ _ _ _ c.self.invariant c.args.tag _ _ c.in_ok-group.ensures.tags c.in_ok-group.ensures.groups in
    let owned : c.args.tag.owner < length c.self.inside.ends.items = subst (λ n. c.args.tag.owner < n) (sym (ap (λ (x : Indexed). x.owners) c.self.view_is)) c.requires in
    let low : c.in_ok-group.group < length c.group_of.new.groups.items = omega (arith, slice_get_within c.group_of.new.tags.keys c.in_ok-group.group c.args.tag c.in_ok-group.ensures.group, grown.count, length-lists c.group_of.new.groups.items) in
    let count : c.len-place.result ≡ length c.self.inside.entries.items = c.len-place.ensures ∙ c.make_room.new.list.ok.0 ∙ ap length c.in_ok-make_room.ensures.items in
    let tags = entered-tags _ _ _ _ grown c.in_ok-group.ensures.distinct c.args.tag c.in_ok-group.group c.in_ok-group.ensures.group owned c.index-ends.result.now c.index-ends.ensures c.len-place.result count
    c.make_room.new.list.items c.in_ok-make_room.ensures.items c.enter.new.entries.items c.enter.ensures c.with_last.result c.with_last.ensures.first c.with_last.ensures.last
    (lists (set c.group_of.new.groups.items c.in_ok-group.group c.push.new.list)) c.push.new.list.items (lists-set c.group_of.new.groups.items c.in_ok-group.group c.push.new.list)
    (c.in_ok-push.ensures.ok ∙ ap (λ l. l ++ c.len-place.result ∷ []) (sym (list-at c.group_of.new.groups.items c.in_ok-group.group c.index_mut.result.now low c.index_mut.ensures.value))) in
    let all_tags = tags ∙ ap (λ (x : Indexed). x.tags ++ c.args.tag ∷ []) c.self.view_is in
    let owners = length-set c.self.inside.ends.items c.args.tag.owner c.with_last.result ∙ ap (λ (x : Indexed). x.owners) c.self.view_is in
    λ i. record { owners = owners i; tags = all_tags i }
