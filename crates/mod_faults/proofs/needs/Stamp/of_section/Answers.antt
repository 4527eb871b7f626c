use Rattle.std.proofs.Common.{List, length, slice_index, sym, subst}
use Rattle.std.specs.List.{flat_map}
use Rattle.unit_model.specs.declared.facts.Entry.{Entry}
use Rattle.unit_format.specs.Uses.{entry_uses}
use Rattle.mod_visible.specs.Placing.{AllBelow}
use Rattle.mod_faults.proofs.Needing.{entry_below, stamp-entry}
use Rattle.mod_faults.proofs.needs.Stamp.of_section.Goals as goal

pub add_entry-requires : goal.add_entry-requires
add_entry-requires c =
    let below = subst (λ (es : List Entry). AllBelow (length c.args.remap.now) (flat_map entry_uses es)) (sym c.as_slice-entry-items.ensures) c.requires.1 in
    entry_below (length c.args.remap.now) c.as_slice-entry-items.result.now c.loop-entry.entry-index c.entry-item.result c.loop-entry-test.true c.entry-item.is below

pub loop-entry-preserved : goal.loop-entry-preserved
loop-entry-preserved c = stamp-entry (slice_index c.args.remap.now) c.args.section.now.module.0 c.as_slice-entry-items.result.now c.loop-entry.entry-index c.entry-item.result c.loop-entry.stamp.marks.items _ c.loop-entry-test.true c.entry-item.is c.loop-entry.invariant c.in_ok-add_entry.ensures
