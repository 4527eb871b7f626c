use Rattle.std.proofs.Common.{rules, is_lt}
use Rattle.std.proofs.lemmas.List.Sorted.{ranks_by}
use Rattle.std.proofs.lemmas.Fn.{always_returns_same}
use Rattle.link_model.specs.Rows.{row_cmp}
use Rattle.mod_visible.specs.Finding.{row_text}
use Rattle.mod_visible.proofs.PlaceLaws.{row_total}
use Rattle.mod_visible.proofs.rows.sort_rows.Goals as goal

pub returns-clause-sorted : goal.returns-clause-sorted
returns-clause-sorted c = c.in_ok-sort_by.ensures.sorted (λ a b. is_lt (row_cmp (row_text c.args.names.now a) (row_text c.args.names.now b))) (ranks_by row_total (row_text c.args.names.now)) (always_returns_same _ _ _ (λ a r f k. search rules))
