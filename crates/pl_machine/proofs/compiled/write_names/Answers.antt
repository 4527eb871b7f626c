use Rattle.std.proofs.Common.{◌<◌, Bor, List, ℕ, length, arith}
use Rattle.std.proofs.lemmas.List.{length-map}
use Rattle.pl_builtin_ends.proofs.Kept.{texts_in, text-at}
use Rattle.pl_machine.proofs.NamesLaws.{put-more}
use Rattle.pl_machine.proofs.compiled.write_names.Goals as goal

pub loop-text-preserved : goal.loop-text-preserved
loop-text-preserved c =
    let low : c.loop-text.text-index < length c.written-text-items.result.now = omega arith in
    put-more c.args.names.now c.loop-text.names c.intern.new.self (texts_in c.written-text-items.result.now) c.loop-text.text-index _
    (omega (arith, low, length-map c.written-text-items.result.now (λ (text : Bor (List ℕ)). text.now))) c.loop-text.invariant c.in_ok-intern.ensures.ok
    (text-at c.written-text-items.result.now c.loop-text.text-index _ low)
