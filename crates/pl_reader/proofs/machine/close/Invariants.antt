use Rattle.std.proofs.Common.{ℕ, List, vec_len}
use Rattle.text_model.specs.Grammar.{Parse}
use Rattle.pl_reader.specs.Machine.{Frame, close, Context as Opened}
use Rattle.pl_reader.specs.Standing.{StandsAfter}
use Rattle.pl_reader.proofs.Closing.{Turned}
use Rattle.pl_reader.proofs.machine.close.Given as goal

abbrev pub invariant-closing : goal.invariant-closing
invariant-closing l =
    (num : List ℕ → ℕ) (cs : List Opened) (fs : List Frame) (e : Parse) → StandsAfter num cs fs e l.initial.waiting.items l.initial.out.items (record { priority = l.initial.priority; weight = l.initial.weight }) →
    Turned num (close l.limit) cs fs e l.waiting.items l.out.items (record { priority = l.priority; weight = l.weight })

abbrev pub decreases-closing : goal.decreases-closing
decreases-closing l = vec_len l.waiting
