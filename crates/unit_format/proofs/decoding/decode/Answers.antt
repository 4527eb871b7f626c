use Rattle.std.proofs.Common.{arith}
use Rattle.std.proofs.lemmas.Result.{err_from_is_err_and}
use Rattle.unit_format.proofs.Decodes.{is_found, is_unit, is_only, fails_only}
use Rattle.unit_format.proofs.decoding.decode.Goals as goal

pub returns-in_err-names-clause-only : goal.returns-in_err-names-clause-only
returns-in_err-names-clause-only c = λ f unit.
    let p = err_from_is_err_and c.from_residual.result c.from_residual.ensures.1 in
    rw (p.1, p.2) (fails_only c.in_err-names.field-0.0 c.args.bytes.now c.in_err-names.ensures f unit)

pub invariant_of-result : goal.invariant_of-result
invariant_of-result c = record { valid = ∣ is_unit c.args.bytes.now c.in_ok-names.names c.in_ok-names.facts (λ i. omega (arith, c.type_inv.bytes i)) c.in_ok-names.ensures ∣₁ }

pub returns-clause-found : goal.returns-clause-found
returns-clause-found c = is_found c.args.bytes.now c.in_ok-names.names c.in_ok-names.facts (λ i. omega (arith, c.type_inv.bytes i)) c.in_ok-names.ensures

pub returns-clause-only : goal.returns-clause-only
returns-clause-only c = λ f unit. is_only c.args.bytes.now c.in_ok-names.names c.in_ok-names.facts c.in_ok-names.ensures f unit
