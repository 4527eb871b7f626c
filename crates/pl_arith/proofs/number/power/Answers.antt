use Rattle.std.proofs.Common.{◌≡◌, ◌∙◌, ◌<◌, ◌^◌, ◌*◌, ◌%◌, ap, arith}
use Rattle.std.proofs.lemmas.Int.{to_z_pos}
use Rattle.std.proofs.Math.Pow.{pow-lt}
use Rattle.std.specs.Int.{w64, cast_signed}
use Rattle.pl_arith.proofs.number.power.Goals as goal

pub returns : goal.returns
returns c =
    let p : 2 ^ c.args.y < 2 ^ 63 = pow-lt c.requires in
    let e : 1 * 2 ^ c.args.y % 2 ^ 64 ≡ 2 ^ c.args.y = omega arith in
    ap (cast_signed w64) e ∙ to_z_pos w64 (2 ^ c.args.y) p
