use Rattle.std.proofs.Common.{List, length, sym, subst, ap, ◌∙◌, ◌++◌}
use Rattle.std.specs.List.{AllByRecursion, flat_map}
use Rattle.mod_visible.specs.declared.placed.Placed.{Placed}
use Rattle.mod_visible.specs.Placing.{IsBelow, places_view}
use Rattle.link_model.specs.Places.{places_of}
use Rattle.mod_faults.specs.Missing.{missing_by}
use Rattle.mod_faults.proofs.Needing.{flat-all}
use Rattle.mod_faults.proofs.Asking.{entry_below, asked}
use Rattle.mod_faults.proofs.missing.missing.Goals as goal

pub number_of-requires : goal.number_of-requires
number_of-requires c =
    let below = subst (λ (es : List Placed). AllByRecursion (IsBelow (length c.args.flat.now.names)) (places_view es)) (sym c.as_slice-entry-items.ensures.value) c.requires in
    entry_below (length c.args.flat.now.names) c.as_slice-entry-items.result.now c.loop-entry.entry-index _ c.loop-entry-test.true below

pub returns : goal.returns
returns c = λ units flat visible defined.
    let h = missing_by c.args.flat.now.names c.args.defined.now.procedures.keys (places_of 0 units) in
    let all = flat-all h c.as_slice-entry-items.result.now c.loop-entry.entry-index c.args.out.now.items c.loop-entry.out.items c.loop-entry-test.false (c.loop-entry.invariant units visible) in
    asked c.args.flat.now.names c.args.flat.now.entries.items units c.args.defined.now.procedures.keys c.args.out.now.items c.loop-entry.out.items flat defined
    (all ∙ ap (λ es. c.args.out.now.items ++ flat_map h es) c.as_slice-entry-items.ensures.value)
