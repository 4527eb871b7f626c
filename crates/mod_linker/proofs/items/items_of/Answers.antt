use Rattle.std.proofs.Common.{◌++◌, List, length, sym, subst, ap, ◌∙◌, ◌<◌}
use Rattle.std.specs.List.{AllByRecursion}
use Rattle.unit_model.specs.declared.facts.Section.{Section}
use Rattle.mod_faults.proofs.Tables.{taken_at}
use Rattle.mod_linker.specs.Items.{items_view, saids_of, IsSectionOf}
use Rattle.mod_linker.proofs.Gathering.{unit_sections}
use Rattle.mod_linker.proofs.Listing.{homes_below, unit-more}
use Rattle.mod_linker.proofs.items.items_of.Goals as goal

pub push_sections-requires : goal.push_sections-requires
push_sections-requires c =
    let u = c.index-units-number.result in
    let numbers = c.index-remap.result.now in
    let taken = taken_at c.args.units.now c.loop-number.number u c.args.table.now.names c.args.table.now.remaps.items numbers c.loop-number-test.true c.index-units-number.is c.index-remap.ensures c.requires in
    subst (λ (ss : List Section). AllByRecursion (λ s. s.module.0 < length numbers) ss) (sym c.as_slice.ensures) (homes_below u c.args.table.now.names numbers taken)

pub loop-number-preserved : goal.loop-number-preserved
loop-number-preserved c =
    let u = c.index-units-number.result in
    let names = c.args.table.now.names in
    let numbers = c.index-remap.result.now in
    let taken = taken_at c.args.units.now c.loop-number.number u names c.args.table.now.remaps.items numbers c.loop-number-test.true c.index-units-number.is c.index-remap.ensures c.requires in
    record {
      texts = unit-more c.args.units.now c.loop-number.number u names numbers (items_view c.loop-number.items.items) (items_view c.push_sections.new.items.items) c.loop-number-test.true c.index-units-number.is taken c.loop-number.invariant.texts
          (c.in_ok-push_sections.ensures.items ∙ ap (λ (ss : List Section). items_view c.loop-number.items.items ++ saids_of numbers ss) c.as_slice.ensures);
      items = c.in_ok-push_sections.ensures.good u.names names taken (subst (λ (ss : List Section). AllByRecursion (IsSectionOf u.names) ss) (sym c.as_slice.ensures) (unit_sections u.names u.facts u.valid)) c.loop-number.invariant.items;
    }
