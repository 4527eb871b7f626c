use Rattle.std.proofs.Common.{◌-◌, Bool, take, ap, sym, ◌∙◌, subst}
use Rattle.pl_reader.specs.Standing.{EndsWhole, Brackets, bracket_of}
use Rattle.pl_reader.proofs.Contexts.{bracket_closed}
use Rattle.pl_reader.proofs.machine.close_bracket.Goals as goal

pub returns : goal.returns
returns c = λ num cs fs e are h k.
    let inner = c.in-Some.ensures num cs (c.as_slice.ensures.value ∙ h) in
    let P : Bool → Type 0 = λ b. EndsWhole num c.greatest_inside.result cs fs e b c.end_term.new.waiting.items c.end_term.new.out.items in
    let ended = subst P c.if-not-ended.false (c.in_ok-ended.ensures num cs fs e k) in
    bracket_closed num (bracket_of c.args.bracket) cs fs e c.in-Some.context c.greatest_inside.result c.end_term.new.waiting.items _ c.args.contexts.now.items _ c.end_term.new.out.items _ inner
    (λ o g. sym c.if-not-ends_bracket.false ∙ c.ends_bracket.ensures num o g)
    (λ o g. c.greatest_inside.ensures num o g)
    ended
    (λ o q b g f. let Q : Bool → Type 0 = λ x. Brackets num o q b x c.finish_bracket.new.out.items in subst Q c.if-not-fits.false (c.in_ok-fits.ensures num o q b are g f))
    h
    (c.pop.ensures.rest ∙ ap (λ n. take (n - 1) c.end_term.new.waiting.items) c.end_term.new.waiting.ok.0)
    (c.pop-2.ensures.rest ∙ ap (λ n. take (n - 1) c.args.contexts.now.items) c.args.contexts.now.ok.0)
