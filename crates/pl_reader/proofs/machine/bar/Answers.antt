use Rattle.std.proofs.Common.{Bool, ◌∙◌, subst}
use Rattle.text_model.specs.Grammar.{argument_priority}
use Rattle.pl_reader.specs.Standing.{EndsWhole, NextTail}
use Rattle.pl_reader.proofs.Contexts.{bar_tail}
use Rattle.pl_reader.proofs.machine.bar.Goals as goal

pub returns-in_ok-replace_innermost-in-Some : goal.returns-in_ok-replace_innermost-in-Some
returns-in_ok-replace_innermost-in-Some c = λ num cs fs e h k.
    let inner = c.innermost-inner.ensures num cs (c.as_slice.ensures.value ∙ h) in
    let n : NextTail num cs c.in-Some.context = c.in-Some.ensures num cs inner in
    let P : Bool → Type 0 = λ b. EndsWhole num argument_priority cs fs e b c.end_term.new.waiting.items c.end_term.new.out.items in
    bar_tail num cs fs e c.in-Some.context _ c.args.contexts.now.items _ _ n (subst P c.if-ended.true (c.in_ok-ended-in-Some.ensures num cs fs e k)) h c.in_ok-replace_innermost-in-Some.ensures
