use Rattle.std.proofs.Common.{◌≡◌, ℕ, ◌++◌, ap, ◌∙◌, subst}
use Rattle.std.specs.Result.{OnOk}
use Rattle.pl_terms.specs.Trees.{Tree}
use Rattle.pl_terms.specs.Order.{texts_of}
use Rattle.pl_terms.specs.Cells.{tree_of}
use Rattle.pl_terms.specs.Forest.{tree_of-cells}
use Rattle.pl_ops.specs.Tables.{operator}
use Rattle.text_model.specs.Writing.{written}
use Rattle.pl_writer.proofs.writer.write_onto.Goals as goal

pub returns-clause-ok : goal.returns-clause-ok
returns-clause-ok c =
    let same : tree_of c.cells.result.now ≡ c.args.term.now = ap tree_of c.cells.ensures.same ∙ tree_of-cells c.args.term.now in
    subst (λ (t : Tree ℕ). OnOk c.write_cells.result (c.write_cells.new.out ≡ c.args.out.now ++ written (operator c.args.table.now) c.args.quote c.args.max (texts_of c.args.names.now t))) same c.write_cells.ensures.ok
