use Rattle.std.proofs.Common.{◌<◌, length, ap, ◌∙◌, arith}
use Rattle.pl_atoms.specs.Names.{with_text}
use Rattle.pl_store.specs.Linked.{Linked, empty, with_names}
use Rattle.mod_linker.proofs.Modular.{next_name}
use Rattle.mod_linker.proofs.naming.named.Goals as goal

pub loop-place-preserved : goal.loop-place-preserved
loop-place-preserved c =
    let lt : c.loop-place.place < length c.args.names.now = omega (arith, c.loop-place-test.true, c.len-place-end.ensures.length) in
    let t = c.text.result.now in
    c.in_ok-intern.ensures.ok ∙ ap (λ (l : Linked). with_names l (with_text l.names t)) c.loop-place.invariant
    ∙ ap (with_names empty) (next_name c.args.names.now c.len-place-end.ensures.distinct c.loop-place.place t lt c.text.ensures)
