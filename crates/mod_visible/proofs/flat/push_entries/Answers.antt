use Rattle.std.proofs.Common.{ℕ, ap, slice_index, length, arith, ◌∙◌}
use Rattle.link_model.specs.Places.{Role as RoleOf, Placed as PlacedOf}
use Rattle.mod_visible.specs.Placing.{EntryFits, places_view}
use Rattle.mod_visible.proofs.Placing.{AllBy-at, entries_more, entries_end}
use Rattle.mod_visible.proofs.flat.push_entries.Goals as goal

pub role_of-role-requires-clause-names : goal.role_of-role-requires-clause-names
role_of-role-requires-clause-names c = (AllBy-at (EntryFits (length c.args.remap.now)) c.args.entries.now c.loop-entry.entry-index c.entry-item.result c.loop-entry-test.true c.entry-item.is c.requires).names

pub role_of-role-requires-clause-modes : goal.role_of-role-requires-clause-modes
role_of-role-requires-clause-modes c = (AllBy-at (EntryFits (length c.args.remap.now)) c.args.entries.now c.loop-entry.entry-index c.entry-item.result c.loop-entry-test.true c.entry-item.is c.requires).modes

pub loop-entry-preserved : goal.loop-entry-preserved
loop-entry-preserved c =
    let put : RoleOf ℕ → PlacedOf ℕ = λ r. record { unit = c.args.unit; section = c.args.section; byte = c.entry-item.result.byte; of = c.args.home.0; role = r } in
    ap (λ l. places_view l) c.in_ok-push.ensures.items
    ∙ entries_more (slice_index c.args.remap.now) c.args.unit c.args.section c.args.home.0 c.args.out.now.items c.loop-entry.out.items c.args.entries.now c.loop-entry.entry-index c.entry-item.result _ c.loop-entry-test.true c.entry-item.is c.loop-entry.invariant (ap put c.role_of-role.ensures)

pub returns : goal.returns
returns c = entries_end (slice_index c.args.remap.now) c.args.unit c.args.section c.args.home.0 c.args.out.now.items c.loop-entry.out.items c.args.entries.now c.loop-entry.entry-index (omega (arith, c.loop-entry-test.false)) c.loop-entry.invariant
