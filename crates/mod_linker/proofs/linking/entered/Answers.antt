use Rattle.std.proofs.Common.{map, sym, subst, ap, ◌∙◌, List, true, ◌≡◌}
use Rattle.std.specs.Prelude.{codes}
use Rattle.std.specs.List.{AllByRecursion}
use Rattle.unit_model.specs.Encoding.{text_at}
use Rattle.unit_format.specs.Views.{unit_facts}
use Rattle.unit_format.specs.declared.unit.Unit.{Unit as ReadUnit}
use Rattle.program_model.specs.Saying.{said_by, said}
use Rattle.pl_store.specs.Linked.{Linked}
use Rattle.mod_linker.specs.declared.items.Item.{Item}
use Rattle.mod_linker.specs.Items.{items_view, AreItems}
use Rattle.mod_linker.specs.Linking.{is_among}
use Rattle.mod_linker.proofs.Arities.{have-arity, usable-items}
use Rattle.mod_linker.proofs.Assembly.{faultless}
use Rattle.mod_linker.proofs.Existing.{modules_exist}
use Rattle.mod_linker.proofs.Holding.{homes-there, entered-holds}
use Rattle.mod_linker.proofs.Taken.{taken-among, modules-among, units-rules}
use Rattle.mod_linker.proofs.linking.entered.Goals as goal

pub add_modules-requires-clause-user : goal.add_modules-requires-clause-user
add_modules-requires-clause-user c = ap (λ (l : Linked). is_among l.names (codes "user")) c.in_ok-program.ensures ∙ c.requires.user

pub add_modules-requires-clause-named : goal.add_modules-requires-clause-named
add_modules-requires-clause-named c =
    subst (λ (l : Linked). AllByRecursion (λ (u : ReadUnit). AllByRecursion (λ t. is_among l.names t ≡ true) u.names) c.args.units.now) (sym c.in_ok-program.ensures)
    (taken-among c.args.units.now c.args.table.now.names c.args.table.now.remaps.items c.requires.taken)

pub of-requires : goal.of-requires
of-requires c =
    usable-items c.args.table.now.names c.as_slice-entries.result.now
    (subst (λ (xs : List Item). AreItems c.args.table.now.names xs) (sym c.as_slice-entries.ensures.value) c.in_ok-items.ensures.items)

pub enter_all-requires-clause-homes : goal.enter_all-requires-clause-homes
enter_all-requires-clause-homes c =
    let us = map unit_facts c.args.units.now in
    let names = c.args.table.now.names in
    let good = subst (λ (xs : List Item). AreItems names xs) (sym c.as_slice-entries.ensures.value) c.in_ok-items.ensures.items in
    let texts = subst (λ (xs : List Item). map (said_by (text_at names)) (items_view xs) ≡ said us) (sym c.as_slice-entries.ensures.value) c.in_ok-items.ensures.texts in
    homes-there us names c.in_ok-program.program c.add_modules.new.program c.in_ok-program.ensures c.in_ok-add_modules.ensures c.requires.distinct c.as_slice-entries.result.now good texts
    (modules_exist us (units-rules c.args.units.now) (faultless us c.requires.none).0)

pub enter_all-requires-clause-arity : goal.enter_all-requires-clause-arity
enter_all-requires-clause-arity c = have-arity (items_view c.as_slice-entries.result.now) c.in_ok-declared.declared.modes.entries c.in_ok-declared.ensures

pub returns : goal.returns
returns c =
    let us = map unit_facts c.args.units.now in
    let names = c.args.table.now.names in
    let good = subst (λ (xs : List Item). AreItems names xs) (sym c.as_slice-entries.ensures.value) c.in_ok-items.ensures.items in
    let texts = subst (λ (xs : List Item). map (said_by (text_at names)) (items_view xs) ≡ said us) (sym c.as_slice-entries.ensures.value) c.in_ok-items.ensures.texts in
    entered-holds us names c.in_ok-program.program c.add_modules.new.program c.enter_all.new.self.program c.as_slice-entries.result.now c.in_ok-declared.declared.modes.entries c.enter_all.new.self.known.numbers.entries
    c.requires.distinct (units-rules c.args.units.now) c.requires.user (modules-among names c.args.units.now (taken-among c.args.units.now names c.args.table.now.remaps.items c.requires.taken))
    c.in_ok-program.ensures c.in_ok-add_modules.ensures good texts c.in_ok-declared.ensures c.in_ok-enter_all.ensures
