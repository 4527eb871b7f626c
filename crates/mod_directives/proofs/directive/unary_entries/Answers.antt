use Rattle.std.proofs.Common.{sym, ap, ◌∙◌}
use Rattle.pl_terms.specs.Cells.{first}
use Rattle.pl_terms.specs.Order.{texts_of}
use Rattle.unit_model.specs.Directives.{Form}
use Rattle.unit_model.specs.Preparing.{form_said}
use Rattle.mod_directives.proofs.Telling.{Tells-same, unary-is, unary_by, export-tells, metapredicate-tells, discontiguous-tells}
use Rattle.mod_directives.proofs.directive.unary_entries.Goals as goal

pub returns-in-Export : goal.returns-in-Export
returns-in-Export c table =
    let names = c.args.names.now in
    let t = texts_of names (first c.args.arg) in
    Tells-same names c.args.byte _ _ table c.placed.result _
    (ap (λ (form : Form). form_said c.args.in_interface form table) (unary-is c.args.name.now t c.requires.other ∙ ap (λ w. unary_by w t) (sym c.in-Export.ensures))) c.placed.ensures
    (export-tells names c.args.byte c.args.in_interface table t c.list_entries.result c.list_entries.ensures)

pub returns-in-Metapredicate : goal.returns-in-Metapredicate
returns-in-Metapredicate c table =
    let names = c.args.names.now in
    let t = texts_of names (first c.args.arg) in
    Tells-same names c.args.byte _ _ table c.placed-in-Metapredicate.result _
    (ap (λ (form : Form). form_said c.args.in_interface form table) (unary-is c.args.name.now t c.requires.other ∙ ap (λ w. unary_by w t) (sym c.in-Metapredicate.ensures))) c.placed-in-Metapredicate.ensures
    (metapredicate-tells names c.args.byte c.args.in_interface table t c.list_entries-in-Metapredicate.result c.list_entries-in-Metapredicate.ensures)

pub returns-in-Discontiguous : goal.returns-in-Discontiguous
returns-in-Discontiguous c table =
    let names = c.args.names.now in
    let t = texts_of names (first c.args.arg) in
    Tells-same names c.args.byte _ _ table c.placed-in-Discontiguous.result _
    (ap (λ (form : Form). form_said c.args.in_interface form table) (unary-is c.args.name.now t c.requires.other ∙ ap (λ w. unary_by w t) (sym c.in-Discontiguous.ensures))) c.placed-in-Discontiguous.ensures
    (discontiguous-tells names c.args.byte c.args.in_interface table t c.list_entries-in-Discontiguous.result c.list_entries-in-Discontiguous.ensures)
