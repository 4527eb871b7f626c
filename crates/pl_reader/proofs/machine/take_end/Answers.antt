use Rattle.std.proofs.Common.{subst}
use Rattle.pl_reader.specs.Standing.{Steps}
use Rattle.pl_reader.proofs.Parsing.{whole}
use Rattle.pl_reader.specs.declared.machine.Stepped.{Stepped}
use Rattle.pl_reader.proofs.machine.take_end.Goals as goal

pub returns-in_ok-ended-in-ToOperator : goal.returns-in_ok-ended-in-ToOperator
returns-in_ok-ended-in-ToOperator c = λ num onward h.
    let P : Stepped → Type 0 = λ s. Steps num onward s c.args.waiting.now.items c.args.contexts.now c.args.out.now.items in
    whole num c.in_ok-ended-in-ToOperator.ended onward c.in-ToOperator.top c.args.waiting.now.items _ c.args.contexts.now c.args.out.now.items _ c.if-contexts-gt0.false (subst P c.in-ToOperator.is h) (λ cs fs e k. c.in_ok-ended-in-ToOperator.ensures num cs fs e k)
