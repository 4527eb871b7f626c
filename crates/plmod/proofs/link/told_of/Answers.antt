use Rattle.std.proofs.Common.{map}
use Rattle.unit_format.specs.Views.{unit_facts}
use Rattle.plmod.specs.Telling.{lines_of}
use Rattle.plmod.proofs.Tellings.{no_unit_told, given_by_units}
use Rattle.plmod.proofs.link.told_of.Goals as goal

pub returns-in-NoUnit-clause-gives : goal.returns-in-NoUnit-clause-gives
returns-in-NoUnit-clause-gives c =
    let g = rw c.in-NoUnit.is at c.in_ok-place.ensures in
    no_unit_told (lines_of c.args.asked) c.args.names.now c.args.contents.now c.in-NoUnit.place g.1.0 c.no_unit.result c.requires g.0 g.1.1 g.2 c.no_unit.ensures.gives

pub returns-in-All-clause-gives : goal.returns-in-All-clause-gives
returns-in-All-clause-gives c =
    let g = rw c.in-All.is at c.in_ok-place.ensures in
    given_by_units (lines_of c.args.asked) c.args.names.now c.args.contents.now (map unit_facts c.in-All.units.items) c.units_told.result g
    (rw c.as_slice.ensures.value at c.units_told.ensures.gives)
