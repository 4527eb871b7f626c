use Rattle.std.proofs.Common.{sym, ap, ◌∙◌}
use Rattle.pl_terms.specs.Cells.{first}
use Rattle.pl_terms.specs.Order.{texts_of}
use Rattle.pl_terms.specs.Trees.{back}
use Rattle.unit_model.specs.Directives.{Form}
use Rattle.unit_model.specs.Preparing.{form_said}
use Rattle.mod_directives.proofs.Telling.{Tells-same, binary-is, binary_by, reexports-tells, imports-tells}
use Rattle.mod_directives.proofs.directive.binary_entries.Goals as goal

pub returns-in-Reexport : goal.returns-in-Reexport
returns-in-Reexport c table =
    let names = c.args.names.now in
    let t = texts_of names (first c.args.args) in
    let u = texts_of names (first (back 1 c.args.args)) in
    Tells-same names c.args.byte _ _ table c.placed.result _
    (ap (λ (form : Form). form_said c.args.in_interface form table) (binary-is c.args.name.now t u ∙ ap (λ w. binary_by w t u) (sym c.in-Reexport.ensures))) c.placed.ensures
    (reexports-tells names c.args.byte c.args.in_interface table t u c.part_entries.result c.part_entries.ensures)

pub returns-in-Import : goal.returns-in-Import
returns-in-Import c table =
    let names = c.args.names.now in
    let t = texts_of names (first c.args.args) in
    let u = texts_of names (first (back 1 c.args.args)) in
    Tells-same names c.args.byte _ _ table c.placed-in-Import.result _
    (ap (λ (form : Form). form_said c.args.in_interface form table) (binary-is c.args.name.now t u ∙ ap (λ w. binary_by w t u) (sym c.in-Import.ensures))) c.placed-in-Import.ensures
    (imports-tells names c.args.byte c.args.in_interface table t u c.part_entries-in-Import.result c.part_entries-in-Import.ensures)
