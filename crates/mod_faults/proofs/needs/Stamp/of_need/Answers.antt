use Rattle.std.proofs.Common.{List, length, slice_index, sym, subst}
use Rattle.std.specs.List.{flat_map}
use Rattle.unit_model.specs.declared.facts.OpDecl.{OpDecl}
use Rattle.unit_format.specs.Uses.{op_uses}
use Rattle.mod_visible.specs.Placing.{AllBelow}
use Rattle.mod_faults.proofs.Needing.{op_below-at, stamp-more-at}
use Rattle.mod_faults.proofs.needs.Stamp.of_need.Goals as goal

pub add-requires : goal.add-requires
add-requires c =
    let below = subst (λ (os : List OpDecl). AllBelow (length c.args.remap.now) (flat_map op_uses os)) (sym c.as_slice-op-items.ensures) c.requires.1 in
    op_below-at (length c.args.remap.now) c.as_slice-op-items.result.now c.loop-op.op-index _ c.loop-op-test.true below

pub loop-op-preserved : goal.loop-op-preserved
loop-op-preserved c = stamp-more-at (slice_index c.args.remap.now) c.args.need.now.module.0 c.as_slice-op-items.result.now c.loop-op.op-index _ c.loop-op.stamp.marks.items _ c.loop-op-test.true c.loop-op.invariant c.in_ok-add.ensures
