use Rattle.std.proofs.Common.{◌<◌, ◌∙◌, ℕ, sym, rules, arith, nat_lt, length}
use Rattle.std.proofs.lemmas.List.Sorted.{IsPartitionPoint-from_clause, IsPartitionedBy-ltb}
use Rattle.std.proofs.lemmas.Option.{slice_get-get_or, slice_get_past}
use Rattle.pl_store.proofs.PlaceLaws.{find-at}
use Rattle.pl_store.proofs.index.first_from.Goals as goal

pub returns-then-at-places : goal.returns-then-at-places
returns-then-at-places c =
    let parted = IsPartitionedBy-ltb (λ (p : ℕ). p) c.args.places.now c.args.from c.requires in
    let point = IsPartitionPoint-from_clause (λ p. nat_lt p c.args.from) _ _ c.partition_point-at.ensures.partitioned parted (λ a r q k. search rules) in
    let low : c.partition_point-at.result < length c.args.places.now = omega arith in
    sym (find-at c.args.from c.args.places.now c.partition_point-at.result (omega arith) (λ m d lt. point.0 m d (omega arith) lt) (λ m d a b. point.1 m d a b)
    ∙ slice_get-get_or c.args.places.now c.partition_point-at.result 0 low)

pub returns-else-at-places : goal.returns-else-at-places
returns-else-at-places c =
    let parted = IsPartitionedBy-ltb (λ (p : ℕ). p) c.args.places.now c.args.from c.requires in
    let point = IsPartitionPoint-from_clause (λ p. nat_lt p c.args.from) _ _ c.partition_point-at.ensures.partitioned parted (λ a r q k. search rules) in
    sym (find-at c.args.from c.args.places.now c.partition_point-at.result (omega (arith, c.partition_point-at.ensures.bound)) (λ m d lt. point.0 m d (omega arith) lt) (λ m d a b. point.1 m d a b)
    ∙ slice_get_past c.args.places.now c.partition_point-at.result (omega arith))
