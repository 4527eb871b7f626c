use Rattle.std.proofs.Common.{◌≡◌, [], take, map, nat_eq}
use Rattle.indexmap.specs.IndexSet.{insert_all}
use Rattle.pl_terms.specs.CellNumbers.{cell_by, numbers}
use Rattle.pl_terms.specs.Occurrence.{place_of}
use Rattle.pl_builtin_terms.proofs.copying.numbered.Given as goal

abbrev pub invariant-loop-cell : goal.invariant-loop-cell
invariant-loop-cell l = record {
  keys : l.seen.keys ≡ insert_all nat_eq [] (numbers (take l.cell-index l.cells));
  copy : l.copy ≡ map (cell_by (λ n. place_of n (insert_all nat_eq [] (numbers l.cells)))) (take l.cell-index l.cells);
}
