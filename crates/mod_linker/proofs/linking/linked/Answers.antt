use Rattle.std.proofs.Common.{map, sym, subst, List, ℕ}
use Rattle.std.specs.Prelude.{codes}
use Rattle.pl_atoms.specs.Names.{Remaps}
use Rattle.pl_atoms.proofs.Numbers.{IsFront-trans, IsFront-grown, Remaps-front}
use Rattle.unit_model.specs.Directives.{Text}
use Rattle.unit_format.specs.Views.{unit_facts}
use Rattle.search_model.specs.declared.rows.VisibleRow.{VisibleRow}
use Rattle.mod_visible.specs.Finding.{AreRows}
use Rattle.mod_linker.proofs.Among.{among-number}
use Rattle.mod_linker.proofs.Assembly.{linked-is}
use Rattle.mod_linker.proofs.Showable.{rows-showable}
use Rattle.mod_linker.proofs.Taken.{taken-front}
use Rattle.mod_linker.proofs.linking.linked.Goals as goal

pub entered-requires-clause-taken : goal.entered-requires-clause-taken
entered-requires-clause-taken c =
    taken-front (map (λ u. u.names) c.args.units.now) c.in_ok-table.table.names c.intern.new.self c.in_ok-table.table.remaps.items
    (IsFront-trans c.in_ok-table.table.names c.of-2.new.into c.intern.new.self c.of-2.ensures.front (IsFront-grown c.of-2.new.into c.intern.new.self (codes "user") c.in_ok-intern.ensures.ok))
    c.in_ok-table.ensures.taken

pub entered-requires-clause-user : goal.entered-requires-clause-user
entered-requires-clause-user c = among-number c.intern.new.self c.in_ok-intern.field-0.0 (codes "user") c.in_ok-intern.ensures.number

pub see_all-requires-clause-rows : goal.see_all-requires-clause-rows
see_all-requires-clause-rows c =
    let us = map unit_facts c.args.units.now in
    let from : List Text = c.args.visibility.now.names in
    let names : List Text = c.intern.new.self in
    let numbers : List ℕ = c.in_ok-remap.remap in
    let taken = subst (λ (ts : List Text). Remaps ts c.of-2.new.into numbers) c.names.ensures c.in_ok-remap.ensures.ok in
    let remaps = Remaps-front from c.of-2.new.into names numbers (IsFront-grown c.of-2.new.into names (codes "user") c.in_ok-intern.ensures.ok) taken in
    let are = subst (λ (rs : List VisibleRow). AreRows from us rs) (sym c.as_slice.ensures) (c.in_ok-rows.ensures us c.requires.visibility) in
    let h = c.in_ok-linker.ensures in
    rows-showable us names h.entries c.in_ok-linker.linker.program c.len.ensures.distinct h.saids h.holds from numbers remaps c.as_slice.result.now are

pub returns : goal.returns
returns c =
    let us = map unit_facts c.args.units.now in
    let from : List Text = c.args.visibility.now.names in
    let names : List Text = c.intern.new.self in
    let numbers : List ℕ = c.in_ok-remap.remap in
    let taken = subst (λ (ts : List Text). Remaps ts c.of-2.new.into numbers) c.names.ensures c.in_ok-remap.ensures.ok in
    let remaps = Remaps-front from c.of-2.new.into names numbers (IsFront-grown c.of-2.new.into names (codes "user") c.in_ok-intern.ensures.ok) taken in
    let are = subst (λ (rs : List VisibleRow). AreRows from us rs) (sym c.as_slice.ensures) (c.in_ok-rows.ensures us c.requires.visibility) in
    linked-is us names from numbers c.as_slice.result.now c.in_ok-linker.linker.program c.see_all.new.program c.in_ok-linker.linker.known.numbers.entries c.requires.none c.len.ensures.distinct c.in_ok-linker.ensures remaps are
    c.in_ok-see_all.ensures c.names-2.ensures.linked
