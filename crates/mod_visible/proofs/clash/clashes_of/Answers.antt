use Rattle.std.proofs.Common.{◌≡◌, List, [], map, None, ap, subst, ◌∙◌}
use Rattle.std.specs.List.Sorted.{IsPermutation}
use Rattle.std.proofs.lemmas.Result.{IfOk-weaker}
use Rattle.unit_model.specs.Facts.{Facts}
use Rattle.unit_model.specs.Directives.{Text}
use Rattle.mod_visible.specs.declared.clash.Clash.{Clash}
use Rattle.mod_visible.specs.Finding.{place_cmp, clash_place, clash_places}
use Rattle.mod_visible.specs.Leasts.{AreLeasts}
use Rattle.mod_visible.specs.Ordered.{distinct_after}
use Rattle.mod_visible.specs.Visibility.{HasCauses}
use Rattle.mod_visible.proofs.ClashLaws.{are_clashes}
use Rattle.mod_visible.proofs.clash.clashes_of.Goals as goal

pub returns : goal.returns
returns c =
    let names = c.args.names.now in
    let causes = c.args.causes.now in
    let firsts = c.args.firsts.now.causes.entries in
    let sorted = c.sort_clashes.new.clashes.items in
    let perm = subst (λ (l : List Clash). IsPermutation l sorted) c.in_ok-found.ensures c.in_ok-sort_clashes.ensures.permutation in
    IfOk-weaker c.distinct_clashes.result
    (λ cs. map clash_place cs.items ≡ distinct_after place_cmp None (map clash_place c.as_slice.result.now))
    (λ cs. (units : List (Facts Text)) → HasCauses units names causes → AreLeasts [] causes firsts → map clash_place cs.items ≡ clash_places units)
    (λ cs is. λ units h first.
    are_clashes units names causes h firsts c.in_ok-others.others.causes.entries first c.in_ok-others.ensures sorted cs.items perm c.in_ok-sort_clashes.ensures.sorted
    (is ∙ ap (λ (l : List Clash). distinct_after place_cmp None (map clash_place l)) c.as_slice.ensures.value))
    c.distinct_clashes.ensures
