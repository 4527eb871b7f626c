use Rattle.plmod.proofs.Units.{text_of_known, first_no_unit, no_unit_made}
use Rattle.plmod.proofs.prepare.made_of.Goals as goal

pub returns-in_ok-not_unit_line-in-NoUnit-clause-gives : goal.returns-in_ok-not_unit_line-in-NoUnit-clause-gives
returns-in_ok-not_unit_line-in-NoUnit-clause-gives c =
    let g = rw c.in-NoUnit.is at c.in_ok-place.ensures in
    no_unit_made c.args.name.now c.args.text.now c.args.known.now c.args.contents.now c.index-known-place.result _ _ c.in_ok-not_unit_line-in-NoUnit.ensures c.as_bytes.ensures
    (first_no_unit c.args.known.now c.args.contents.now c.in-NoUnit.place g.1.0 c.index-known-place.result c.requires.each g.0 c.index-known-place.is g.1.1 g.2)

pub returns-in-All-clause-gives : goal.returns-in-All-clause-gives
returns-in-All-clause-gives c =
    let g = rw c.in-All.is at c.in_ok-place.ensures in
    text_of_known _ _ _ _ _ _ g.0 g.1 g.2 c.text_made.ensures.gives
