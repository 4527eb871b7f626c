use Rattle.std.proofs.Common.{◌∙◌, ap, Some}
use Rattle.pl_atoms.specs.Names.{with_text}
use Rattle.prep_texts.proofs.OperatorLaws.{interning-more}
use Rattle.prep_texts.proofs.operators.interned.Goals as goal

pub interning-preserved : goal.interning-preserved
interning-preserved c =
    interning-more c.args.names.now c.interning.names c.intern.new.self c.interning.ops c.args.operators.now c.interning.operator-index c.operator-item.result c.in_ok-name.name
    c.interning-test.true c.operator-item.is (c.in_ok-name.ensures.ok ∙ ap (with_text c.interning.names) c.as_slice.ensures) (c.in_ok-name.ensures.number ∙ ap Some c.as_slice.ensures)
    c.in_ok-name.ensures.below c.interning.invariant c.push.new.self c.in_ok-push.ensures.ok
