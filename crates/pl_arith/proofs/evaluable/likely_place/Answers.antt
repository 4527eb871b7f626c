use Rattle.std.proofs.Common.{◌<◌, ap, sym, subst, get_or}
use Rattle.pl_arith.specs.Keys.{places}
use Rattle.pl_arith.proofs.Evaluables.{likely_low}
use Rattle.pl_arith.proofs.evaluable.likely_place.Goals as goal

pub returns-clause-place : goal.returns-clause-place
unfolding places
returns-clause-place c = ap (λ n. get_or places n 0) c.key.ensures.key

pub returns-clause-below : goal.returns-clause-below
unfolding places
returns-clause-below c =
    subst (λ n. get_or places n 0 < 14) (sym c.key.ensures.key)
    (likely_low c.args.name.now c.args.arity (subst (λ n. n < 32) c.key.ensures.key c.key.ensures.below))
