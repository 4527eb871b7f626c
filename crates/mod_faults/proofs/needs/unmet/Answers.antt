use Rattle.std.proofs.Common.{◌≡◌, ◌+◌, ◌++◌, List, ◌∙◌, ap, sym, subst, length, fold, slice_index}
use Rattle.std.specs.List.{AllByRecursion, flat_map}
use Rattle.pl_atoms.proofs.Numbers.{length-Remaps}
use Rattle.unit_model.specs.declared.facts.Need.{Need}
use Rattle.unit_model.specs.declared.facts.Section.{Section}
use Rattle.unit_format.specs.Uses.{need_uses, section_uses}
use Rattle.mod_visible.specs.Placing.{AllBelow}
use Rattle.mod_faults.specs.Needing.{stamps_in, unmet_by, learned}
use Rattle.mod_faults.proofs.Units.{needs_below, sections_below}
use Rattle.mod_faults.proofs.Tables.{taken_at}
use Rattle.mod_faults.proofs.Needing.{known, unit_passes, passes-unit, passes-units}
use Rattle.mod_faults.proofs.needs.unmet.Goals as goal

pub check_needs-requires : goal.check_needs-requires
check_needs-requires c =
    let u = c.index-units-number.result in
    let taken = taken_at c.args.units.now c.loop-number.number u c.in_ok-table.table.names c.in_ok-table.table.remaps.items c.index-remap.result.now c.loop-number-test.true c.index-units-number.is c.index-remap.ensures c.in_ok-table.ensures.taken in
    subst (λ (ns : List Need). AllByRecursion (λ n. AllBelow (length c.index-remap.result.now) (need_uses n)) ns) (sym c.as_slice-needs.ensures)
    (subst (λ k. AllByRecursion (λ n. AllBelow k (need_uses n)) u.facts.needs) (sym (length-Remaps u.names c.in_ok-table.table.names c.index-remap.result.now taken)) (needs_below u.names u.facts u.valid))

pub learn-requires : goal.learn-requires
learn-requires c =
    let u = c.index-units-number.result in
    let taken = taken_at c.args.units.now c.loop-number.number u c.in_ok-table.table.names c.in_ok-table.table.remaps.items c.index-remap.result.now c.loop-number-test.true c.index-units-number.is c.index-remap.ensures c.in_ok-table.ensures.taken in
    subst (λ (ss : List Section). AllByRecursion (λ s. AllBelow (length c.index-remap.result.now) (section_uses s)) ss) (sym c.as_slice.ensures)
    (subst (λ k. AllByRecursion (λ s. AllBelow k (section_uses s)) u.facts.sections) (sym (length-Remaps u.names c.in_ok-table.table.names c.index-remap.result.now taken)) (sections_below u.names u.facts u.valid))

pub loop-number-preserved : goal.loop-number-preserved
loop-number-preserved c =
    let u = c.index-units-number.result in
    let names = c.in_ok-table.table.names in
    let numbers = c.index-remap.result.now in
    let taken = taken_at c.args.units.now c.loop-number.number u names c.in_ok-table.table.remaps.items numbers c.loop-number-test.true c.index-units-number.is c.index-remap.ensures c.in_ok-table.ensures.taken in
    let stamps = stamps_in c.loop-number.stamps.all.keys in
    let next = stamps_in c.learn.new.stamps.all.keys in
    let step = unit_passes names c.in_ok-table.ensures.distinct u numbers taken c.loop-number.number stamps next c.loop-number.out.items c.check_needs.new.out.items
    (subst (λ (ns : List Need). c.check_needs.new.out.items ≡ c.loop-number.out.items ++ flat_map (unmet_by c.loop-number.number (slice_index numbers) stamps) ns) c.as_slice-needs.ensures c.in_ok-check_needs.ensures)
    (c.in_ok-learn.ensures ∙ ap (λ (ss : List Section). fold (learned (slice_index numbers)) stamps ss) c.as_slice.ensures) in
    passes-unit names c.args.units.now c.loop-number.number u (known 0 (stamps_in c.new-stamps.result.all.keys)) (known c.loop-number.number stamps) (known (c.loop-number.number + 1) next) c.args.out.now.items c.loop-number.out.items c.check_needs.new.out.items
    c.loop-number-test.true c.index-units-number.is c.loop-number.invariant step

pub returns : goal.returns
returns c =
    passes-units c.in_ok-table.table.names c.args.units.now c.loop-number.number (stamps_in c.new-stamps.result.all.keys) (known c.loop-number.number (stamps_in c.loop-number.stamps.all.keys)) c.args.out.now.items c.loop-number.out.items c.loop-number-test.false
    (ap stamps_in c.new-stamps.ensures) c.loop-number.invariant
