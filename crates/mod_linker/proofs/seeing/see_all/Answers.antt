use Rattle.std.proofs.Common.{◌<◌, ℕ, List, [], ◌∷◌, length, map, take, get_or, ◌+◌}
use Rattle.std.specs.List.{AllByRecursion}
use Rattle.search_model.specs.declared.rows.VisibleRow.{VisibleRow}
use Rattle.mod_faults.proofs.Units.{get_or-itself}
use Rattle.pl_store.specs.Linked.{Linked}
use Rattle.mod_linker.specs.Rowing.{Shown, ShowsMore}
use Rattle.mod_linker.specs.Showing.{shown_by, IsShowable}
use Rattle.mod_linker.proofs.Rows.{shows-none}
use Rattle.mod_linker.proofs.Visibles.{known-known, row-showable, rows-more}
use Rattle.mod_linker.proofs.seeing.see_all.Goals as goal

row-there : (numbers : List ℕ) (rows : List VisibleRow) (k : ℕ) (d : VisibleRow) (xs : List Shown) (l m : Linked) → k < length rows → ShowsMore xs l m → AllByRecursion (IsShowable numbers l) rows → IsShowable numbers m (get_or rows k d)
row-there numbers rows k d xs l m lt s h = row-showable numbers rows k (get_or rows k d) xs l m lt (get_or-itself rows k d lt) s h

one-more : (numbers : List ℕ) (rows : List VisibleRow) (k : ℕ) (d : VisibleRow) (l m n : Linked) → k < length rows → ShowsMore (map (shown_by numbers) (take k rows)) l m → ShowsMore (shown_by numbers (get_or rows k d) ∷ []) m n
    → ShowsMore (map (shown_by numbers) (take (k + 1) rows)) l n
one-more numbers rows k d l m n lt p q = rows-more numbers rows k (get_or rows k d) l m n lt (get_or-itself rows k d lt) p q

pub loop-row-init : goal.loop-row-init
loop-row-init c = shows-none c.args.program.now

pub see_row-requires-clause-row : goal.see_row-requires-clause-row
see_row-requires-clause-row c = row-there c.args.remap.now c.args.rows.now c.loop-row.row-index _ _ c.args.program.now c.loop-row.program c.loop-row-test.true c.loop-row.invariant c.requires.rows

pub see_row-requires-clause-known : goal.see_row-requires-clause-known
see_row-requires-clause-known c = known-known c.args.program.now c.loop-row.program c.args.known.now.numbers.entries c.loop-row.invariant.procedures c.requires.known

pub loop-row-preserved : goal.loop-row-preserved
loop-row-preserved c = one-more c.args.remap.now c.args.rows.now c.loop-row.row-index _ c.args.program.now c.loop-row.program c.see_row.new.program c.loop-row-test.true c.loop-row.invariant c.in_ok-see_row.ensures
