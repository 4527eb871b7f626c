use Rattle.std.proofs.Common.{false, Option, Some, None, sym, ap, ◌∙◌, if◌then◌else◌, ℤ, w64, SFits, rules}
use Rattle.std.proofs.lemmas.Int.{to_z-of_z}
use Rattle.text_model.specs.Reading.{negative}
use Rattle.pl_terms.specs.declared.cell.Cell.TheVariants.{Int}
use Rattle.pl_reader.specs.declared.machine.ParseItem.TheVariants.{Operand}
use Rattle.pl_reader.specs.declared.classes.ItemMove.{ItemMove}
use Rattle.pl_reader.proofs.classes.minus_number.Goals as goal

pub returns-then-signed : goal.returns-then-signed
returns-then-signed c = λ look.
    let f : SFits w64 c.negative.result = search rules in
    let made : ℤ → Option ItemMove = λ z. Some (record { item = Operand (Int z); more = 1; to_operand = false }) in
    ap made (to_z-of_z w64 c.negative.result f ∙ c.negative.ensures look) ∙ ap (λ b. if b then made (negative look c.args.n) else None) (sym c.if-signed.true)
