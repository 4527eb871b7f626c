use Rattle.std.proofs.Common.{◌≡◌, Option, Some, None, sym, ap, ◌∙◌, subst, length, IfSome}
use Rattle.pl_atoms.specs.declared.names.NameId.{NameId}
use Rattle.term_walk.specs.Walks.{first_cell, entered}
use Rattle.prep_texts.specs.Sections.{short_name, atom_name, source_word, SourceBelow}
use Rattle.prep_texts.proofs.BoundLaws.{module-bound, source-bound}
use Rattle.prep_texts.proofs.DirectiveLaws.{by_source, source-not, source-is}
use Rattle.prep_texts.proofs.directives.module_source.Goals as goal

pub returns-then-not-is_functor-clause-source : goal.returns-then-not-is_functor-clause-source
returns-then-not-is_functor-clause-source c = λ one table l spoke. source-not c.args.names.now c.args.term.now one table l spoke c.of-walk.result c.is_functor.result (c.is_functor.ensures, c.of-walk.ensures) c.if-not-is_functor.true

pub returns-in_err-word-clause-source : goal.returns-in_err-word-clause-source
returns-in_err-word-clause-source c = λ one table l spoke.
    source-is c.args.names.now c.args.term.now one table l spoke c.of-walk.result c.enter.new.self c.is_functor.result (c.is_functor.ensures, c.of-walk.ensures) c.if-not-is_functor.false c.enter.ensures.trees
    c.from_residual.result (c.from_residual.ensures ∙ sym (ap (λ (w : Option NameId). by_source c.args.names.now w (atom_name (first_cell (entered c.enter.new.self)))) (sym c.short_name.ensures ∙ c.in_err-word.was)))

pub returns-in_err-name-clause-source : goal.returns-in_err-name-clause-source
returns-in_err-name-clause-source c = λ one table l spoke.
    let a : atom_name (first_cell (entered c.enter.new.self)) ≡ None = sym (c.atom_name.ensures ∙ ap (λ ts. atom_name (first_cell ts)) c.enter-2.ensures.trees) ∙ c.in_err-name.was in
    source-is c.args.names.now c.args.term.now one table l spoke c.of-walk.result c.enter.new.self c.is_functor.result (c.is_functor.ensures, c.of-walk.ensures) c.if-not-is_functor.false c.enter.ensures.trees
    c.from_residual-in_err-name.result
    (c.from_residual-in_err-name.ensures ∙ sym (ap (λ (m : Option NameId). by_source c.args.names.now (short_name (first_cell c.enter.new.self)) m) a
    ∙ ap (λ (w : Option NameId). by_source c.args.names.now w None) (sym c.short_name.ensures ∙ c.in_ok-word.was)))

pub returns-clause-source : goal.returns-clause-source
returns-clause-source c = λ one table l spoke.
    let a : Some c.in_ok-name.name ≡ atom_name (first_cell (entered c.enter.new.self)) = sym c.in_ok-name.was ∙ c.atom_name.ensures ∙ ap (λ ts. atom_name (first_cell ts)) c.enter-2.ensures.trees in
    source-is c.args.names.now c.args.term.now one table l spoke c.of-walk.result c.enter.new.self c.is_functor.result (c.is_functor.ensures, c.of-walk.ensures) c.if-not-is_functor.false c.enter.ensures.trees
    c.source_word.result
    (c.source_word.ensures ∙ ap (λ s. source_word s c.in_ok-name.name) c.text.ensures ∙ ap (λ m. by_source c.args.names.now (Some c.in_ok-word.word) m) a
    ∙ ap (λ (w : Option NameId). by_source c.args.names.now w (atom_name (first_cell (entered c.enter.new.self)))) (sym c.in_ok-word.was ∙ c.short_name.ensures))

pub returns-clause-below : goal.returns-clause-below
returns-clause-below c =
    subst (λ r. IfSome r (SourceBelow (length c.args.names.now))) (sym c.source_word.ensures)
    (source-bound (length c.args.names.now) c.text.result.now c.in_ok-name.name
    (module-bound (length c.args.names.now) c.args.term.now c.of-walk.result c.enter.new.self c.enter-2.new.self c.requires c.of-walk.ensures c.enter.ensures.trees c.enter-2.ensures.trees c.atom_name.result c.atom_name.ensures c.in_ok-name.name c.in_ok-name.was))
