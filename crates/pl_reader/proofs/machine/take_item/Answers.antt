use Rattle.std.proofs.Common.{◌∷◌, Some, None, subst}
use Rattle.pl_reader.specs.Machine.{run}
use Rattle.pl_reader.specs.Standing.{Steps}
use Rattle.pl_reader.proofs.Parsing.{steps_as}
use Rattle.pl_reader.specs.declared.machine.Stepped.{Stepped}
use Rattle.pl_reader.proofs.machine.take_item.Goals as goal

pub returns-in-Fails : goal.returns-in-Fails
returns-in-Fails c = λ num onward i are h r.
    let P : Stepped → Type 0 = λ s. Steps num onward s c.args.waiting.now.items c.args.contexts.now.items c.args.out.now.items in
    let g = subst P c.in-Fails.is r in
    λ is. g (i ∷ is)

pub returns-in_ok-stepped-in-ToOperand : goal.returns-in_ok-stepped-in-ToOperand
returns-in_ok-stepped-in-ToOperand c = λ num onward i are h r.
    let P : Stepped → Type 0 = λ s. Steps num onward s c.args.waiting.now.items c.args.contexts.now.items c.args.out.now.items in
    let g = subst P c.in-ToOperand.is r in
    steps_as num (λ is. onward (i ∷ is)) (λ js. run g.0.0 g.0.1 None (i ∷ js)) c.in_ok-stepped-in-ToOperand.stepped c.take_operand.new.waiting.items c.take_operand.new.contexts.items c.take_operand.new.out.items (λ js. g.1 (i ∷ js)) (c.in_ok-stepped-in-ToOperand.ensures num g.0.0 g.0.1 i h g.2)

pub returns-in_ok-stepped-in-ToOperator : goal.returns-in_ok-stepped-in-ToOperator
returns-in_ok-stepped-in-ToOperator c = λ num onward i are h r.
    let P : Stepped → Type 0 = λ s. Steps num onward s c.args.waiting.now.items c.args.contexts.now.items c.args.out.now.items in
    let g = subst P c.in-ToOperator.is r in
    steps_as num (λ is. onward (i ∷ is)) (λ js. run g.0.0 g.0.1 (Some g.0.2) (i ∷ js)) c.in_ok-stepped-in-ToOperator.stepped c.take_operator.new.waiting.items c.take_operator.new.contexts.items c.take_operator.new.out.items (λ js. g.1 (i ∷ js)) (c.in_ok-stepped-in-ToOperator.ensures num g.0.0 g.0.1 g.0.2 i are h g.2 g.3)
