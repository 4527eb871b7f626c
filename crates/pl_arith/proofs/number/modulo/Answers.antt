use Rattle.std.proofs.Common.{◌≢◌, pos, ◌+ℤ◌}
use Rattle.std.specs.Int.{w64}
use Rattle.std.specs.Int.Signed.{lt_z}
use Rattle.std.specs.Int.RustNames.{FitsSigned}
use Rattle.std.proofs.lemmas.Int.{to_z-of_z}
use Rattle.pl_arith.proofs.Numbers.{modulo_even, modulo_unlike, nonzero, zero_bits, bits_nonzero, beq_no, sum_fits}
use Rattle.pl_arith.proofs.number.modulo.Goals as goal

pub returns-then-rest-eq0 : goal.returns-then-rest-eq0
returns-then-rest-eq0 c =
    let f : FitsSigned w64 c.rest-rest.result = record { sfits = c.rest-rest.type_inv } in
    let fx : FitsSigned w64 c.args.x = c.ranges.x in
    let fy : FitsSigned w64 c.args.y = c.ranges.y in
    modulo_even c.args.x c.args.y c.rest-rest.result (nonzero c.args.y c.if-y-eq0.false) (simp to_z-of_z at c.rest-rest.ensures) (zero_bits c.rest-rest.result f c.if-rest-eq0.true)

pub returns : goal.returns
returns c =
    let f : FitsSigned w64 c.rest-rest.result = record { sfits = c.rest-rest.type_inv } in
    let fx : FitsSigned w64 c.args.x = c.ranges.x in
    let fy : FitsSigned w64 c.args.y = c.ranges.y in
    let unlike : lt_z c.rest-rest.result (pos 0) ≢ lt_z c.args.y (pos 0) = beq_no _ _ (simp to_z-of_z at c.if-rest-y.false) in
    let fs : FitsSigned w64 (c.rest-rest.result +ℤ c.args.y) = sum_fits c.rest-rest.result c.args.y f fy unlike in
    simp to_z-of_z (modulo_unlike c.args.x c.args.y c.rest-rest.result (nonzero c.args.y c.if-y-eq0.false) (simp to_z-of_z at c.rest-rest.ensures) (bits_nonzero c.rest-rest.result f c.if-rest-eq0.false) f fy unlike)
