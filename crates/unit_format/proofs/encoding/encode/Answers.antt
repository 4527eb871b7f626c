use Rattle.std.proofs.Common.{length, sym, ap, ◌∙◌, arith}
use Rattle.unit_format.proofs.Fit.{fits, encoded}
use Rattle.unit_format.proofs.encoding.encode.Goals as goal

pub written-requires : goal.written-requires
written-requires c = fits c.args.unit.now.names c.args.unit.now.facts c.args.unit.now.valid

pub returns-then-as_slice-gt-LIMIT-clause-too_long : goal.returns-then-as_slice-gt-LIMIT-clause-too_long
returns-then-as_slice-gt-LIMIT-clause-too_long c = λ e.
    omega (arith, ap length (encoded c.args.unit.now.names c.args.unit.now.facts c.args.unit.now.valid), ap length c.in_ok-bytes.ensures, ap length c.as_slice.ensures)

pub returns-clause-encoding : goal.returns-clause-encoding
returns-clause-encoding c = c.in_ok-bytes.ensures ∙ sym (encoded c.args.unit.now.names c.args.unit.now.facts c.args.unit.now.valid)
