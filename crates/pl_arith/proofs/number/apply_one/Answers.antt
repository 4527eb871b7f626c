use Rattle.std.proofs.Common.{◌∙◌, ap, sym, pos, unsigned_abs}
use Rattle.pl_arith.proofs.Numbers.{abs_fits}
use Rattle.value_model.specs.Value.{apply_one}
use Rattle.std.proofs.lemmas.Int.{to_z-of_z}
use Rattle.pl_arith.proofs.number.apply_one.Goals as goal

pub returns-in-Abs : goal.returns-in-Abs
returns-in-Abs c =
    let f = c.ranges.x in
    c.in_range-in-Abs.ensures (pos (unsigned_abs c.args.x)) (abs_fits c.checked_abs.result c.args.x c.ranges.x (simp to_z-of_z at c.checked_abs.ensures)) ∙ ap (λ o. apply_one o c.args.x) (sym c.in-Abs.is)
