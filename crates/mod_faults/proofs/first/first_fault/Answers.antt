use Rattle.std.proofs.Common.{map, ap, sym, subst, ◌∙◌, ◌++◌}
use Rattle.unit_format.specs.Views.{unit_facts}
use Rattle.link_model.specs.Faults.{least}
use Rattle.mod_visible.specs.Causing.{IsTable, entry_texts}
use Rattle.mod_faults.specs.Views.{faults_view}
use Rattle.mod_faults.specs.Bodies.{AreDefined, splits}
use Rattle.mod_faults.proofs.Leasts.{collected}
use Rattle.mod_faults.proofs.first.first_fault.Goals as goal

pub returns : goal.returns
returns c =
    let us = map unit_facts c.args.units.now in
    let names = c.in_ok-flat.flat.names in
    let flat = c.in_ok-flat.ensures in
    let same = c.as_slice-entries.ensures.value in
    let texts = ap (entry_texts names) same ∙ flat.places in
    let table : IsTable names c.as_slice-entries.result.now = subst (IsTable names) (sym same) (record { distinct = flat.distinct; below = flat.below }) in
    let defined = subst (λ ps. AreDefined names ps c.in_ok-defined.defined.procedures.keys) texts (c.in_ok-defined.ensures names table) in
    c.least.ensures ∙ ap (λ fs. least (faults_view fs)) c.as_slice.ensures.value
    ∙ collected us (faults_view c.new-faults.result.items) (faults_view c.unmet.new.out.items) (faults_view c.repeated.new.out.items) (faults_view c.missing.new.out.items) (faults_view c.clash.new.out.items) (faults_view c.split.new.out.items)
    (ap faults_view c.new-faults.ensures.items) c.in_ok-unmet.ensures c.in_ok-repeated.ensures (c.in_ok-missing.ensures us flat c.requires defined) (c.in_ok-clash.ensures us c.requires)
    (c.in_ok-split.ensures names table ∙ ap (λ ps. faults_view c.clash.new.out.items ++ splits ps) texts)
