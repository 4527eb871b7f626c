use Rattle.std.proofs.Common.{ℕ, [], ap, sym, subst, length, slice_index, ◌∙◌, List, ◌++◌}
use Rattle.std.specs.List.{AllByRecursion}
use Rattle.pl_atoms.proofs.Numbers.{length-Remaps}
use Rattle.unit_model.specs.declared.facts.Section.{Section}
use Rattle.mod_visible.specs.declared.placed.Placed.{Placed}
use Rattle.mod_visible.specs.Placing.{SectionFits, IsFlat, places_view}
use Rattle.mod_visible.proofs.Placing.{placed_sections}
use Rattle.mod_visible.proofs.Flattening.{flat_none, flat_more, flat_all, unit_sections}
use Rattle.mod_visible.proofs.flat.flattened.Goals as goal

pub loop-number-init : goal.loop-number-init
loop-number-init c = subst (λ n. IsFlat n c.new-entries.result.items []) (sym c.new-names.ensures) (subst (λ (l : List Placed). IsFlat [] l []) (sym c.new-entries.ensures.items) flat_none)

pub push_sections-requires : goal.push_sections-requires
push_sections-requires c =
    let u = c.index-units-number.result in
    subst (λ (n : ℕ). AllByRecursion (SectionFits n) c.as_slice.result.now) (sym (length-Remaps u.names c.of.new.into c.in_ok-remap.remap c.in_ok-remap.ensures.ok))
    (subst (λ (ss : List Section). AllByRecursion (SectionFits (length u.names)) ss) (sym c.as_slice.ensures) (unit_sections u.names u.facts u.valid))

pub loop-number-preserved : goal.loop-number-preserved
loop-number-preserved c =
    let u = c.index-units-number.result in
    let old = c.loop-number.entries.items in
    let step = c.in_ok-push_sections.ensures ∙ ap (λ (ss : List Section). places_view old ++ placed_sections (slice_index c.in_ok-remap.remap) c.loop-number.number ss) c.as_slice.ensures in
    flat_more c.loop-number.names c.of.new.into c.in_ok-remap.remap old c.push_sections.new.entries.items c.args.units.now c.loop-number.number u c.loop-number-test.true c.index-units-number.is c.in_ok-remap.ensures.ok c.in_ok-remap.ensures.front c.in_ok-remap.ensures.texts step c.loop-number.invariant

pub returns : goal.returns
returns c = flat_all c.loop-number.names c.loop-number.entries.items c.args.units.now c.loop-number.number c.loop-number-test.false c.loop-number.invariant
