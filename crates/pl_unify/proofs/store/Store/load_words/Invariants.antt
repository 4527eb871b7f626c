use Rattle.std.proofs.Common.{◌≡◌, ◌≤◌, drop, reverse, map, length}
use Rattle.unifier_model.specs.Substitution.{raise}
use Rattle.pl_unify.specs.Prefix.{build}
use Rattle.pl_unify.specs.State.{Grows}
use Rattle.pl_unify.specs.Load.{WordsIn, word_trees, next_after}
use Rattle.pl_unify.proofs.store.Store.load_words.Given as goal

abbrev pub invariant-loop-left : goal.invariant-loop-left
invariant-loop-left l = record {
  few : l.left ≤ length l.cells;
  grows : Grows l.initial.self.state l.self.state;
  words : WordsIn (length l.self.state.cells) l.self.state.next (reverse l.words.items);
  trees : word_trees l.self.state l.words.items ≡ map (raise l.base) (build (drop l.left l.cells));
  next : l.self.state.next ≡ next_after l.base l.initial.self.state.next (drop l.left l.cells);
}

abbrev pub decreases-loop-left : goal.decreases-loop-left
decreases-loop-left l = l.left
