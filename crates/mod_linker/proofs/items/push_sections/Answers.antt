use Rattle.mod_faults.proofs.Units.{AllBy-at}
use Rattle.mod_linker.specs.Items.{items_view, IsSectionOf}
use Rattle.mod_linker.proofs.Gathering.{section-more}
use Rattle.mod_linker.proofs.items.push_sections.Goals as goal

pub loop-section-preserved : goal.loop-section-preserved
loop-section-preserved c = record {
  items = section-more c.args.remap.now c.args.sections.now c.loop-section.section-index c.section-item.result (items_view c.args.items.now.items) (items_view c.loop-section.items.items) (items_view c.push_section.new.items.items) c.loop-section-test.true c.section-item.is c.loop-section.invariant.items c.in_ok-push_section.ensures.items;
  good = λ from names e sections old.
      c.in_ok-push_section.ensures.good from names e (AllBy-at (IsSectionOf from) c.args.sections.now c.loop-section.section-index c.section-item.result c.loop-section-test.true c.section-item.is sections)
      (c.loop-section.invariant.good from names e sections old);
}
