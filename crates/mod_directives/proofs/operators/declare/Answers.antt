use Rattle.std.proofs.Common.{◌<◌, length, subst, sym}
use Rattle.pl_atoms.specs.declared.names.NameId.{NameId}
use Rattle.pl_terms.specs.Order.{text_of}
use Rattle.mod_directives.proofs.Declaring.{declared-made}
use Rattle.mod_directives.proofs.operators.declare.Goals as goal

pub returns-clause-ok : goal.returns-clause-ok
returns-clause-ok c =
    let names = c.args.names.now in
    declared-made names c.args.declared.now c.args.name c.args.table.now c.add.new.table c.args.entries.now c.push_operator.new.entries c.text.result.now c.in-Some.operator
    c.text.ensures c.in_ok-add.ensures.free c.in_ok-add.ensures.ok (c.in-Some.ensures.some (text_of names)) (c.in_ok-push_operator.ensures.entries names)

pub returns-clause-below : goal.returns-clause-below
returns-clause-below c =
    let n = length c.args.names.now in
    c.in_ok-push_operator.ensures.below n (subst (λ (id : NameId). id.0 < n) (sym c.in-Some.ensures.named) c.requires.below) c.requires.entries_below
