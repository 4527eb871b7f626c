use Rattle.pl_terms.specs.Trees.{renamed}
use Rattle.unit_model.specs.Encoding.{text_at}
use Rattle.unit_model.specs.Validity.{is_converted}
use Rattle.unit_format.proofs.BodyLaws.{Stands}
use Rattle.unit_format.proofs.clauses.is_converted.Given as goal

abbrev pub invariant-loop-cell : goal.invariant-loop-cell
invariant-loop-cell l = Stands l.names l.passed l.cell-index l.cells (is_converted (renamed (text_at l.names) l.body))
