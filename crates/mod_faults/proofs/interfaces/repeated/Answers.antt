use Rattle.std.proofs.Common.{List, sym, subst, length}
use Rattle.std.specs.List.{AllByRecursion}
use Rattle.unit_model.specs.declared.facts.Section.{Section}
use Rattle.unit_model.specs.Directives.{Text}
use Rattle.unit_format.specs.Uses.{section_uses}
use Rattle.mod_visible.specs.Placing.{AllBelow}
use Rattle.mod_faults.specs.Repeating.{Repeats, interfaces_here}
use Rattle.mod_faults.proofs.Units.{sections_below}
use Rattle.mod_faults.proofs.Repeating.{so_far, repeats-unit, repeats-units}
use Rattle.mod_faults.proofs.interfaces.repeated.Goals as goal

pub repeated_in-requires : goal.repeated_in-requires
repeated_in-requires c =
    let u = c.index-units-number.result in
    subst (λ (ss : List Section). AllByRecursion (λ s. AllBelow (length u.names) (section_uses s)) ss) (sym c.as_slice-sections.ensures) (sections_below u.names u.facts u.valid)

pub loop-number-preserved : goal.loop-number-preserved
loop-number-preserved c =
    let u = c.index-units-number.result in
    let step = subst (λ (ss : List Section). Repeats (interfaces_here c.loop-number.number u.names ss) c.loop-number.seen c.repeated_in.new.seen c.loop-number.out.items c.repeated_in.new.out.items) c.as_slice-sections.ensures c.in_ok-repeated_in.ensures in
    repeats-unit c.args.units.now c.loop-number.number u c.new-seen.result c.loop-number.seen c.repeated_in.new.seen c.args.out.now.items c.loop-number.out.items c.repeated_in.new.out.items c.loop-number-test.true c.index-units-number.is c.loop-number.invariant step

pub returns : goal.returns
returns c =
    let start = subst (λ (s : List Text). Repeats (so_far (Rattle.std.proofs.Common.take c.loop-number.number c.args.units.now)) s c.loop-number.seen c.args.out.now.items c.loop-number.out.items) c.new-seen.ensures c.loop-number.invariant in
    repeats-units c.args.units.now c.loop-number.number c.loop-number.seen c.args.out.now.items c.loop-number.out.items c.loop-number-test.false start
