use Rattle.std.proofs.Common.{◌≡◌, ℕ, ap, ◌∙◌}
use Rattle.indexmap.specs.IndexSet.{IndexSet}
use Rattle.pl_terms.proofs.Seen.{seen-variable, seen-other, seen-whole}
use Rattle.pl_terms.proofs.term.Term.variables.Goals as goal
use Rattle.pl_terms.proofs.term.Term.variables.Goals.{in-Var+in_ok-insert, in_default}

keys_are : {S : Type 0} (s r : IndexSet ℕ S) → s ≡ r → s.keys ≡ r.keys
keys_are {S} s r e = ap (λ (x : IndexSet ℕ S). x.keys) e

pub loop-cell-preserved : goal.loop-cell-preserved
loop-cell-preserved c = elim c.match-cell.branch [
  | in-Var+in_ok-insert w ↦ keys_are _ _ w.seen-is ∙ seen-variable c.cells-cells.result.now c.loop-cell.cell-index _ _ _ c.loop-cell-test.true w.in-Var.is c.loop-cell.invariant w.in_ok-insert.ensures.keys
  | in_default w ↦ keys_are _ _ w.seen-is ∙ seen-other c.cells-cells.result.now c.loop-cell.cell-index _ c.loop-cell-test.true w.in_default.not-Var c.loop-cell.invariant
]

pub returns : goal.returns
returns c =
    c.from_vec.ensures
    ∙ c.in_ok-numbers.ensures.items
    ∙ c.as_slice.ensures.keys
    ∙ seen-whole c.cells-cells.result.now c.loop-cell.cell-index c.args.self.now _ c.cells-cells.ensures.same c.loop-cell-test.false c.loop-cell.invariant
