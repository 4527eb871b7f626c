use Rattle.std.proofs.Common.{Bool, ◌∙◌, subst}
use Rattle.pl_reader.specs.Machine.{waits_conjoined}
use Rattle.text_model.specs.Grammar.{argument_priority}
use Rattle.pl_reader.specs.Standing.{CommaDoes, EndsWhole, NextArgument}
use Rattle.pl_reader.proofs.Contexts.{comma_argument, comma_joins, conjoins}
use Rattle.pl_reader.specs.declared.machine.CommaKind.{CommaKind}
use Rattle.pl_reader.specs.declared.machine.CommaKind.TheVariants.{Joining}
use Rattle.pl_reader.proofs.machine.comma.Goals as goal

pub returns-in_ok-joined-in-Joining : goal.returns-in_ok-joined-in-Joining
returns-in_ok-joined-in-Joining c = λ num cs fs e names h k.
    let inner = c.innermost-inner.ensures num cs (c.as_slice.ensures.value ∙ h) in
    let P : CommaKind → Type 0 = λ d. CommaDoes num cs d in
    let d : CommaDoes num cs Joining = subst P c.in-Joining.is (c.in_ok-kind.ensures num cs inner) in
    comma_joins num _ cs fs e _ c.args.contexts.now.items _ (d fs e) h (c.in_ok-joined-in-Joining.ensures num cs fs e waits_conjoined (conjoins num c.args.comma_name names) k)

pub returns-in_ok-replace_innermost-in-Argument : goal.returns-in_ok-replace_innermost-in-Argument
returns-in_ok-replace_innermost-in-Argument c = λ num cs fs e names h k.
    let inner = c.innermost-inner.ensures num cs (c.as_slice.ensures.value ∙ h) in
    let P : CommaKind → Type 0 = λ d. CommaDoes num cs d in
    let n : NextArgument num cs c.in-Argument.context = subst P c.in-Argument.is (c.in_ok-kind.ensures num cs inner) in
    let Q : Bool → Type 0 = λ b. EndsWhole num argument_priority cs fs e b c.end_term.new.waiting.items c.end_term.new.out.items in
    comma_argument num cs fs e c.in-Argument.context _ c.args.contexts.now.items _ _ n (subst Q c.if-ended.true (c.in_ok-ended-in-Argument.ensures num cs fs e k)) h c.in_ok-replace_innermost-in-Argument.ensures
