use Rattle.std.proofs.Common.{[], length, codes, false, ap, sym, ◌∙◌, subst, All}
use Rattle.std.proofs.lemmas.Option.{get_or_from_slice_get}
use Rattle.pl_atoms.proofs.Numbers.{IsFront-grown}
use Rattle.pl_terms.specs.Trees.{atom}
use Rattle.pl_terms.specs.Cells.{first, IsTerm, IsCell}
use Rattle.pl_terms.specs.Order.{text_of, texts_of}
use Rattle.pl_terms.specs.NameBounds.{NamesBelow}
use Rattle.pl_terms.proofs.Whole.{IsTerm-cells}
use Rattle.unit_model.specs.Builtins.{is_builtin}
use Rattle.mod_body.proofs.Making.{made, first-below}
use Rattle.mod_body.proofs.clause.fact.Goals as goal

pub copy-requires-clause-whole : goal.copy-requires-clause-whole
copy-requires-clause-whole c =
    subst IsTerm (sym c.take_tree.ensures.tree) (IsTerm-cells (first c.args.head) (subst (All IsCell) c.take_tree.ensures.tree c.take_tree.ensures.are))

pub returns-clause-clause : goal.returns-clause-clause
returns-clause-clause c =
    let old = c.args.names.now in
    let new = c.intern.new.self in
    let front = IsFront-grown old new (codes "true") c.in_ok-name.ensures.ok in
    made old new front c.args.variables _ (first c.args.head) (atom (codes "true")) c.in-Some.ind c.is_builtin.result c.in_ok-head.head c.in_ok-body.body
    (c.in-Some.ensures.procedure (text_of old))
    (c.is_builtin.ensures ∙ ap (λ s. is_builtin s c.in-Some.ind.arity) c.text.ensures) c.if-is_builtin.false
    (sym c.is_functor.ensures ∙ c.if-is_functor.false)
    (c.in_ok-head.ensures ∙ c.take_tree.ensures.tree)
    (ap atom (sym (get_or_from_slice_get new c.in_ok-name.name.0 (codes "true") [] c.in_ok-name.ensures.number)) ∙ ap (texts_of new) (sym c.in_ok-body.ensures))
    (first-below (length old) c.args.head c.requires.below)
    (subst (NamesBelow (length new)) (sym c.in_ok-body.ensures) c.in_ok-name.ensures.below)
