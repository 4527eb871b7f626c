use Rattle.std.proofs.Common.{List, sym, subst, refl, slice_index}
use Rattle.std.specs.List.{AllByRecursion}
use Rattle.unit_model.specs.declared.facts.Entry.{Entry}
use Rattle.mod_linker.specs.Items.{IsEntryOf}
use Rattle.mod_linker.proofs.Gathering.{entry-more, good-more, good-end}
use Rattle.mod_linker.proofs.items.push_section.Goals as goal

pub loop-entry-preserved : goal.loop-entry-preserved
loop-entry-preserved c = record {
  items = entry-more (slice_index c.args.remap.now) c.get-home.result.0 c.as_slice-entry-items.result.now c.loop-entry.entry-index c.entry-item.result c.args.items.now.items c.loop-entry.items.items _ _ c.loop-entry-test.true c.entry-item.is c.loop-entry.invariant.items c.in_ok-push.ensures.items refl;
  good = λ from names e entries home old.
      good-more from names c.args.remap.now e c.as_slice-entry-items.result.now c.loop-entry.entry-index c.entry-item.result c.loop-entry.items.items _ _ c.loop-entry-test.true c.entry-item.is refl refl home entries c.in_ok-push.ensures.items
      (c.loop-entry.invariant.good from names e entries home old);
}

pub returns-clause-good : goal.returns-clause-good
returns-clause-good c = λ from names e section old.
    c.loop-entry.invariant.good from names e (subst (λ (es : List Entry). AllByRecursion (IsEntryOf from) es) (sym c.as_slice-entry-items.ensures) section.entries)
    (good-end from names c.args.remap.now e c.args.section.now c.get-home.result.0 c.get-home.ensures section) old
