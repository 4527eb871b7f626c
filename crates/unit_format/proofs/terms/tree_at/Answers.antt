use Rattle.std.proofs.Common.{◌≡◌, ◌-◌, ◌+◌, arith}
use Rattle.std.proofs.lemmas.Result.{err_from_is_err_and}
use Rattle.unit_format.specs.Reading.{arity_of}
use Rattle.unit_format.proofs.TreeLoop.{goes_on, ends, lacks_bytes, whole_is, never_lacks, shorter, after_fits, cell_is, starts}
use Rattle.unit_format.proofs.terms.tree_at.Goals as goal

pub returns-then-wanted-rest : goal.returns-then-wanted-rest
returns-then-wanted-rest c = lacks_bytes c.loop-wanted.cells c.loop-wanted.wanted c.loop-wanted.rest.now c.args.bytes.now c.loop-wanted.invariant.1 c.if-wanted-rest.true c.loop-wanted.invariant.0

pub returns-in_err-cell : goal.returns-in_err-cell
returns-in_err-cell c =
    let p = err_from_is_err_and c.from_residual.result c.from_residual.ensures.1 in
    rw (p.1, p.2) (ends c.in_err-cell.field-0.0 c.loop-wanted.cells c.loop-wanted.wanted c.loop-wanted.rest.now c.args.bytes.now c.loop-wanted-test.true c.in_err-cell.ensures c.loop-wanted.invariant.0)

pub push-requires : goal.push-requires
push-requires c = cell_is c.loop-wanted.rest.now c.in_ok-cell.cell c.in_ok-cell.after.now c.loop-wanted.invariant.1 c.in_ok-cell.ensures

pub loop-wanted-init : goal.loop-wanted-init
loop-wanted-init c = (starts c.new-cells.result c.args.bytes.now c.new-cells.ensures, λ i. omega (arith, c.type_inv.bytes i), omega arith)

pub overflow_add-wanted : goal.overflow_add-wanted
overflow_add-wanted c = omega arith

pub loop-wanted-smaller : goal.loop-wanted-smaller
loop-wanted-smaller c = shorter c.loop-wanted.rest.now c.in_ok-cell.cell c.in_ok-cell.after.now c.loop-wanted.invariant.1 c.in_ok-cell.ensures

pub loop-wanted-preserved : goal.loop-wanted-preserved
loop-wanted-preserved c =
    let new : c.loop-wanted.wanted - 1 + c.arity.result ≡ c.loop-wanted.wanted - 1 + arity_of c.in_ok-cell.cell = omega arith in
    let s = shorter c.loop-wanted.rest.now c.in_ok-cell.cell c.in_ok-cell.after.now c.loop-wanted.invariant.1 c.in_ok-cell.ensures in (
      rw c.in_ok-push.ensures.ok (goes_on c.loop-wanted.cells c.loop-wanted.wanted (c.loop-wanted.wanted - 1 + c.arity.result) c.loop-wanted.rest.now c.in_ok-cell.after.now c.args.bytes.now c.in_ok-cell.cell c.loop-wanted-test.true c.loop-wanted.invariant.1 c.in_ok-cell.ensures new c.loop-wanted.invariant.0),
      after_fits c.loop-wanted.rest.now c.in_ok-cell.cell c.in_ok-cell.after.now c.loop-wanted.invariant.1 c.in_ok-cell.ensures,
      omega arith,
    )

pub returns-in-Ok : goal.returns-in-Ok
returns-in-Ok c = whole_is c.loop-wanted.cells c.loop-wanted.wanted c.loop-wanted.rest.now c.args.bytes.now c.in-Ok.term (omega arith) c.in-Ok.ensures.ok c.loop-wanted.invariant.0

pub returns : goal.returns
returns c = absurd (never_lacks c.loop-wanted.cells c.loop-wanted.wanted c.loop-wanted.rest.now c.args.bytes.now (λ i. omega (arith, c.type_inv.bytes i)) (omega arith) c.in-Err.ensures.no_term c.loop-wanted.invariant.0)
