use Rattle.std.proofs.Common.{◌≡◌, suc, ◌<◌, ◌-◌, arith, length, drop, length-drop, subst}
use Rattle.pl_terms.specs.Cells.{IsCell}
use Rattle.pl_terms.proofs.Steps.{comp_in_front, lacks, count-forest_le}
use Rattle.pl_terms.proofs.term.is_term.Goals as goal

pub returns-then-trees-arity : goal.returns-then-trees-arity
returns-then-trees-arity c = (
  λ ok. cc,
  λ term. absurd (lacks c.args.cells.now _ c.loop-at.at c.loop-at.trees _ _ (omega arith) (omega arith) c.in-Comp.is c.if-trees-arity.true (record { whole = c.loop-at.invariant.whole; counted = c.loop-at.invariant.counted }) term.whole),
)

pub overflow_add-trees-in_default : goal.overflow_add-trees-in_default
overflow_add-trees-in_default c = let h = c.well_formed in omega (arith, count-forest_le (drop c.loop-at.at c.args.cells.now), length-drop c.loop-at.at c.args.cells.now, c.loop-at.invariant.counted)

pub loop-at-preserved-in-Comp : goal.loop-at-preserved-in-Comp
loop-at-preserved-in-Comp c =
    let within : c.loop-at.at - 1 < length c.args.cells.now = omega arith in
    let next : suc (c.loop-at.at - 1) ≡ c.loop-at.at = omega arith in
    let step = comp_in_front c.args.cells.now (c.loop-at.at - 1) c.loop-at.at c.loop-at.trees c.in-Comp.field-0 c.in-Comp.arity next within c.in-Comp.is (subst IsCell c.in-Comp.is (c.requires _ _ within)) (omega arith) (record { whole = c.loop-at.invariant.whole; counted = c.loop-at.invariant.counted }) in
    record { in_range = omega arith; whole = step.whole; counted = step.counted }
