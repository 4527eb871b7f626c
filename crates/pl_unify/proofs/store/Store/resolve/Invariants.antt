use Rattle.std.proofs.Common.{◌≡◌, length}
use Rattle.pl_unify.specs.Words.{WordIn}
use Rattle.pl_unify.specs.State.{State, tree_of_word, links_of}
use Rattle.pl_unify.proofs.Follow.{inside, rank}
use Rattle.pl_unify.proofs.store.Store.resolve.Given as goal

abbrev pub invariant-loop-word : goal.invariant-loop-word
invariant-loop-word l =
    let s : State = inside l.self-inside.cells.items l.self-inside.vars.items l.self-inside.trail.items in
    record {
      same : tree_of_word s l.word ≡ tree_of_word s l.initial.word;
      within : WordIn (length s.cells) s.next l.word;
    }

abbrev pub decreases-loop-word : goal.decreases-loop-word
decreases-loop-word l = rank (links_of l.self-inside.vars.items l.self-inside.trail.items) l.word
