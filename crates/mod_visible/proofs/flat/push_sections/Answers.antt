use Rattle.std.proofs.Common.{List, ◌++◌, ap, sym, subst, slice_index, length, ◌∙◌}
use Rattle.std.specs.List.{AllByRecursion}
use Rattle.unit_model.specs.declared.facts.Entry.{Entry}
use Rattle.mod_visible.specs.Placing.{SectionFits, EntryFits, places_view}
use Rattle.mod_visible.proofs.Placing.{AllBy-at, placed_entries, sections_more, sections_end}
use Rattle.mod_visible.proofs.flat.push_sections.Goals as goal

pub get-home-requires : goal.get-home-requires
get-home-requires c = (AllBy-at (SectionFits (length c.args.remap.now)) c.args.sections.now c.loop-number.number c.index-sections-number.result c.loop-number-test.true c.index-sections-number.is c.requires).of

pub push_entries-requires : goal.push_entries-requires
push_entries-requires c =
    let fits = AllBy-at (SectionFits (length c.args.remap.now)) c.args.sections.now c.loop-number.number c.index-sections-number.result c.loop-number-test.true c.index-sections-number.is c.requires in
    subst (λ (es : List Entry). AllByRecursion (EntryFits (length c.args.remap.now)) es) (sym c.as_slice.ensures) fits.entries

pub loop-number-preserved : goal.loop-number-preserved
loop-number-preserved c =
    let f = slice_index c.args.remap.now in
    sections_more f c.args.unit c.args.entries.now.items c.loop-number.entries.items c.push_entries.new.out.items c.args.sections.now c.loop-number.number c.index-sections-number.result c.get-home.result.0
    c.loop-number-test.true c.index-sections-number.is c.get-home.ensures c.loop-number.invariant
    (c.in_ok-push_entries.ensures ∙ ap (λ (es : List Entry). places_view c.loop-number.entries.items ++ placed_entries f c.args.unit c.loop-number.number c.get-home.result.0 es) c.as_slice.ensures)

pub returns : goal.returns
returns c = sections_end (slice_index c.args.remap.now) c.args.unit c.args.entries.now.items c.loop-number.entries.items c.args.sections.now c.loop-number.number c.loop-number-test.false c.loop-number.invariant
