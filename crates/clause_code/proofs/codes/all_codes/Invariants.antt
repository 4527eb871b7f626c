use Rattle.std.proofs.Common.{◌≡◌, ◌<◌, length, slice_index_or, ℕ}
use Rattle.pl_store.specs.Linked.{no_clause}
use Rattle.clause_code.specs.Codes.{IsCoded, code_at}
use Rattle.clause_code.proofs.codes.all_codes.Given as goal

abbrev pub invariant-loop-number : goal.invariant-loop-number
invariant-loop-number l = record {
  count : length l.list.items ≡ l.number;
  each : (c : ℕ) → c < l.number → IsCoded l.names (slice_index_or l.tables.clauses c no_clause).clause (code_at l.list.items c);
}
