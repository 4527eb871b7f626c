use Rattle.std.proofs.Common.{List, ℕ, [], sym, subst}
use Rattle.mod_faults.specs.Tables.{AreTaken}
use Rattle.mod_faults.proofs.Tables.{taken_none, taken_unit, taken_units}
use Rattle.mod_faults.proofs.table.Table.of.Goals as goal

pub loop-unit-init : goal.loop-unit-init
loop-unit-init c = subst (λ (l : List (List ℕ)). AreTaken [] c.new-names.result l) (sym c.new-remaps.ensures.items) (taken_none c.new-names.result)

pub loop-unit-preserved : goal.loop-unit-preserved
loop-unit-preserved c =
    taken_unit c.args.units.now c.loop-unit.unit-index c.unit-item.result c.loop-unit.names c.of.new.into c.loop-unit.remaps.items _ c.in_ok-remap.remap c.loop-unit-test.true c.unit-item.is c.loop-unit.invariant c.in_ok-remap.ensures.front c.in_ok-remap.ensures.ok c.in_ok-push.ensures.items

pub returns-clause-taken : goal.returns-clause-taken
returns-clause-taken c = taken_units c.args.units.now c.loop-unit.unit-index c.loop-unit.names c.loop-unit.remaps.items c.loop-unit-test.false c.loop-unit.invariant
