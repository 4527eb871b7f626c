use Rattle.std.proofs.Common.{sym, ◌∙◌, true}
use Rattle.unit_model.specs.Encoding.{text_at}
use Rattle.unit_format.proofs.BodyLaws.{clause_is}
use Rattle.unit_format.proofs.clauses.are_parts.Goals as goal

pub returns : goal.returns
returns c = clause_is (text_at c.args.names.now) c.args.variables c.args.head.now c.args.body.now true true _ (sym c.if-not-is_head.false ∙ c.is_head.ensures) (sym c.if-not-is_converted.false ∙ c.is_converted.ensures) c.is_numbered.ensures
