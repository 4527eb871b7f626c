use Rattle.std.proofs.Common.{List, length, sym, subst}
use Rattle.std.specs.List.{AllByRecursion}
use Rattle.unit_model.specs.declared.facts.Section.{Section}
use Rattle.mod_visible.specs.Placing.{SectionFits}
use Rattle.mod_visible.proofs.ExistingLaws.{units_all}
use Rattle.mod_visible.proofs.Flattening.{unit_sections}
use Rattle.mod_visible.proofs.existing.existing.Goals as goal

pub add_interfaces-requires : goal.add_interfaces-requires
add_interfaces-requires c =
    let u = c.unit-item.result in
    subst (λ (ss : List Section). AllByRecursion (SectionFits (length u.names)) ss) (sym c.as_slice.ensures) (unit_sections u.names u.facts u.valid)

pub returns : goal.returns
returns c = units_all c.args.units.now c.loop-unit.unit-index c.loop-unit.modules c.loop-unit-test.false c.loop-unit.invariant
