use Rattle.std.proofs.Common.{◌≡◌, Option, Some, sym, ap, ◌∙◌, subst, length, IfSome}
use Rattle.pl_atoms.specs.declared.names.NameId.{NameId}
use Rattle.term_walk.specs.Walks.{first_cell, entered}
use Rattle.prep_texts.specs.Sections.{atom_name, section_word, DirectiveBelow}
use Rattle.prep_texts.proofs.BoundLaws.{module-bound, section-bound}
use Rattle.prep_texts.proofs.DirectiveLaws.{by_word, section-not, section-is}
use Rattle.prep_texts.proofs.directives.section_directive.Goals as goal

pub returns-then-not-is_functor-clause-directive : goal.returns-then-not-is_functor-clause-directive
returns-then-not-is_functor-clause-directive c = section-not c.args.names.now c.args.term.now c.of-walk.result c.is_functor.result (c.is_functor.ensures, c.of-walk.ensures) c.if-not-is_functor.true

pub returns-in_err-word-clause-directive : goal.returns-in_err-word-clause-directive
returns-in_err-word-clause-directive c =
    section-is c.args.names.now c.args.term.now c.of-walk.result c.enter.new.self c.is_functor.result (c.is_functor.ensures, c.of-walk.ensures) c.if-not-is_functor.false c.enter.ensures.trees
    c.from_residual.result (c.from_residual.ensures ∙ sym (ap (λ (w : Option NameId). by_word c.args.names.now w (atom_name (first_cell (entered c.enter.new.self)))) (sym c.unary_name.ensures ∙ c.in_err-word.was)))

pub returns-clause-directive : goal.returns-clause-directive
returns-clause-directive c =
    let a : c.atom_name.result ≡ atom_name (first_cell (entered c.enter.new.self)) = c.atom_name.ensures ∙ ap (λ ts. atom_name (first_cell ts)) c.enter-2.ensures.trees in
    section-is c.args.names.now c.args.term.now c.of-walk.result c.enter.new.self c.is_functor.result (c.is_functor.ensures, c.of-walk.ensures) c.if-not-is_functor.false c.enter.ensures.trees
    c.section_word.result
    (c.section_word.ensures ∙ ap (λ s. section_word s c.atom_name.result) c.text.ensures ∙ ap (λ m. by_word c.args.names.now (Some c.in_ok-word.word) m) a
    ∙ ap (λ (w : Option NameId). by_word c.args.names.now w (atom_name (first_cell (entered c.enter.new.self)))) (sym c.in_ok-word.was ∙ c.unary_name.ensures))

pub returns-clause-below : goal.returns-clause-below
returns-clause-below c =
    subst (λ r. IfSome r (DirectiveBelow (length c.args.names.now))) (sym c.section_word.ensures)
    (section-bound (length c.args.names.now) c.text.result.now c.atom_name.result
    (λ m e. module-bound (length c.args.names.now) c.args.term.now c.of-walk.result c.enter.new.self c.enter-2.new.self c.requires c.of-walk.ensures c.enter.ensures.trees c.enter-2.ensures.trees c.atom_name.result c.atom_name.ensures m e))
