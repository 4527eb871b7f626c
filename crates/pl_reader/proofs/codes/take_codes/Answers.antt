use Rattle.std.proofs.Common.{subst}
use Rattle.pl_reader.specs.Standing.{Steps}
use Rattle.pl_reader.specs.declared.machine.Stepped.{Stepped}
use Rattle.pl_reader.proofs.CodeLists.{leaf_taken, leaf_late, leaf_lost}
use Rattle.pl_reader.proofs.codes.take_codes.Goals as goal

pub returns-in_ok-push_code_list-in-ToOperand : goal.returns-in_ok-push_code_list-in-ToOperand
returns-in_ok-push_code_list-in-ToOperand c = λ num look onward stack contexts are h.
    let P : Stepped → Type 0 = λ s. Steps num onward s stack contexts c.args.out.now.items in
    leaf_taken num _ onward stack contexts c.args.out.now.items _ (subst P c.in-ToOperand.is h) (c.in_ok-push_code_list-in-ToOperand.ensures num look are)

pub returns-in-Fails : goal.returns-in-Fails
returns-in-Fails c = λ num look onward stack contexts are h.
    let P : Stepped → Type 0 = λ s. Steps num onward s stack contexts c.args.out.now.items in
    leaf_lost num _ onward stack contexts c.args.out.now.items (subst P c.in-Fails.is h)

pub returns-in-ToOperator : goal.returns-in-ToOperator
returns-in-ToOperator c = λ num look onward stack contexts are h.
    let P : Stepped → Type 0 = λ s. Steps num onward s stack contexts c.args.out.now.items in
    leaf_late num _ onward stack contexts c.args.out.now.items c.in-ToOperator.field-0 (subst P c.in-ToOperator.is h)
