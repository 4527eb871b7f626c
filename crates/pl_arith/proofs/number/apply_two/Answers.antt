use Rattle.std.proofs.Common.{◌∙◌, ap, sym}
use Rattle.pl_arith.proofs.BitLaws.{and_ranged, or_ranged}
use Rattle.value_model.specs.Value.{apply_two}
use Rattle.pl_arith.proofs.number.apply_two.Goals as goal

pub returns-in-And : goal.returns-in-And
returns-in-And c = and_ranged c.args.x c.args.y c.ranges.x c.ranges.y ∙ ap (λ o. apply_two o c.args.x c.args.y) (sym c.in-And.is)

pub returns-in-Or : goal.returns-in-Or
returns-in-Or c = or_ranged c.args.x c.args.y c.ranges.x c.ranges.y ∙ ap (λ o. apply_two o c.args.x c.args.y) (sym c.in-Or.is)
