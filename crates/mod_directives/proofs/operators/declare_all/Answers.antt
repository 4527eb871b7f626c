use Rattle.std.proofs.Common.{◌≡◌, ◌+◌, Err, ap, sym, ◌∙◌, arith, refl}
use Rattle.std.proofs.lemmas.Result.{err_from_is_err_and}
use Rattle.pl_terms.specs.Order.{text_of}
use Rattle.mod_directives.specs.Operators.{texts}
use Rattle.mod_directives.specs.declared.fault.DirFault.TheVariants.{Fault}
use Rattle.mod_directives.proofs.Telling.{err-tells, Tells-same}
use Rattle.mod_directives.proofs.Declaring.{said_of, loop-more, loop-end, loop-fault}
use Rattle.mod_directives.proofs.operators.declare_all.Goals as goal

pub returns-in_err-declare : goal.returns-in_err-declare
returns-in_err-declare c =
    let names = c.args.names.now in
    let d = c.args.declared.now in
    let p = err_from_is_err_and c.from_residual.result c.from_residual.ensures.1 in
    let same : texts (text_of names) c.args.list.now ≡ texts (text_of names) c.as_slice-ids.result.now = ap (texts (text_of names)) (sym c.as_slice-ids.ensures) in
    rw (p.1, p.2)
    (err-tells names d.byte d.is_entry c.declare.new.table _ c.in_err-declare.field-0.0
    (λ n e. let same_fault : c.in_err-declare.field-0.0 ≡ Fault n = cc in
    let f = c.in_err-declare.ensures.fault n (ap Err same_fault) in
    ap (said_of names d c.args.table.now) same
    ∙ loop-fault names d c.args.table.now c.as_slice-ids.result.now c.loop-id.id-index _ c.loop-id.table c.loop-id.entries c.loop-id-test.true c.loop-id.invariant f.1
    ∙ ap Err (sym f.0)))

pub loop-id-preserved : goal.loop-id-preserved
loop-id-preserved c =
    loop-more c.args.names.now c.args.declared.now c.args.table.now c.as_slice-ids.result.now c.loop-id.id-index (c.loop-id.id-index + 1) _ c.loop-id.table c.declare.new.table c.loop-id.entries c.declare.new.entries
    c.loop-id-test.true (omega arith) c.loop-id.invariant c.in_ok-declare.ensures.ok c.in_ok-declare.ensures.below

pub returns : goal.returns
returns c =
    let names = c.args.names.now in
    let d = c.args.declared.now in
    let same : texts (text_of names) c.args.list.now ≡ texts (text_of names) c.as_slice-ids.result.now = ap (texts (text_of names)) (sym c.as_slice-ids.ensures) in
    Tells-same names d.byte _ _ c.loop-id.table _ _ (ap (said_of names d c.args.table.now) same) refl
    (loop-end names d c.args.table.now c.as_slice-ids.result.now c.loop-id.id-index c.loop-id.table c.loop-id.entries (omega arith) c.loop-id.invariant)
