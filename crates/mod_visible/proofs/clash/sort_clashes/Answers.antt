use Rattle.std.proofs.Common.{rules, is_lt}
use Rattle.std.proofs.lemmas.List.Sorted.{ranks_by}
use Rattle.std.proofs.lemmas.Fn.{always_returns_same}
use Rattle.mod_visible.specs.Finding.{place_cmp, clash_place}
use Rattle.mod_visible.proofs.PlaceLaws.{place_total}
use Rattle.mod_visible.proofs.clash.sort_clashes.Goals as goal

pub returns-clause-sorted : goal.returns-clause-sorted
returns-clause-sorted c = c.in_ok-sort_by.ensures.sorted (λ a b. is_lt (place_cmp (clash_place a) (clash_place b))) (ranks_by place_total clash_place) (always_returns_same _ _ _ (λ a r f k. search rules))
