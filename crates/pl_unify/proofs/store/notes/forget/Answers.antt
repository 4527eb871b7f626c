use Rattle.std.proofs.Common.{◌≡◌, ◌≤◌, ◌-◌, subst, length, arith, get_or}
use Rattle.std.proofs.lemmas.List.{get_or_read}
use Rattle.pl_unify.specs.Notes.{no_note}
use Rattle.pl_unify.proofs.Grounds.{forgotten}
use Rattle.pl_unify.proofs.store.notes.forget.Goals as goal

pub returns-then-place-cells : goal.returns-then-place-cells
returns-then-place-cells c =
    forgotten c.args.ground.now.items c.notes.ground.items c.args.noted.now.items c.notes.noted.items c.args.bindings c.requires c.notes.invariant.few c.notes.invariant.front
    (λ h.
    let items = c.notes.noted.items in
    let n : c.len-in-notes.result - 1 ≡ length items - 1 = omega (arith, c.len-in-notes.ensures, c.notes.noted.ok.0) in
    let e : c.index.result.now ≡ get_or items (length items - 1) no_note = get_or_read items (length items - 1) c.index.result.now (omega arith) (subst (λ k. c.index.result.now ≡ get_or items k c.index.result.now) n c.index.ensures) no_note in
    subst (λ x. x.1 ≤ c.args.bindings) e c.if-then-bindings.true) c.notes.invariant.same c.notes.invariant.kept
