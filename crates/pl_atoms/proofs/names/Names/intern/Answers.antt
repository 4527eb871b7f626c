use Rattle.std.proofs.Common.{ap, sym, ◌∙◌, map, Some}
use Rattle.pl_atoms.specs.Names.{with_text}
use Rattle.pl_atoms.proofs.Texts.{with_text-known, slice_get-place, text_in, map-insert_key, slice_get-stored}
use Rattle.pl_atoms.proofs.names.Names.intern.Goals as goal

pub returns-in-Some-clause-ok : goal.returns-in-Some-clause-ok
returns-in-Some-clause-ok c = sym (with_text-known _ c.args.text.now _ (sym c.in-Some.ensures))

pub returns-in-Some-clause-number : goal.returns-in-Some-clause-number
returns-in-Some-clause-number c = slice_get-place _ c.args.text.now _ (sym c.in-Some.ensures)

pub returns-clause-ok : goal.returns-clause-ok
returns-clause-ok c =
    ap (map text_in) c.in_ok-place.ensures.keys
    ∙ map-insert_key _ c.in_ok-copy.copy
    ∙ ap (λ texts. with_text texts c.in_ok-copy.copy.items) c.self.view_is
    ∙ ap (with_text c.args.self.now) c.in_ok-copy.ensures.items

pub returns-clause-number : goal.returns-clause-number
returns-clause-number c =
    let stored = c.in_ok-place.ensures.stored in
    slice_get-stored c.insert_full.new.self.keys c.in_ok-place.place c.in_ok-copy.copy stored.0 stored.1 stored.2
    ∙ ap Some c.in_ok-copy.ensures.items
