use Rattle.std.proofs.Common.{◌≡◌, length, false, nat_eq, sym, ◌∙◌, arith}
use Rattle.std.proofs.lemmas.Bool.{eqb-false}
use Rattle.pl_writer.proofs.EdgeSteps.{last-at}
use Rattle.pl_writer.proofs.edge.last_of.Goals as goal

pub returns-else-is_empty : goal.returns-else-is_empty
returns-else-is_empty c =
    let e : nat_eq (length c.args.text.now) 0 ≡ false = sym c.is_empty.ensures ∙ c.if-is_empty.false in
    let some : length c.args.text.now ≡ 0 → ⊥ = eqb-false (length c.args.text.now) 0 e in
    c.from.ensures ∙ sym (last-at c.args.before c.args.text.now (omega arith))
