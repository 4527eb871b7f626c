use Rattle.std.proofs.Common.{◌≤◌, ◌+◌, ◌++◌, length, reverse, max}
use Rattle.pl_unify.specs.Spans.{pairs_of, all_pairs}
use Rattle.pl_unify.specs.Match.{Matching, PairsIn, code_equations, code_weight}
use Rattle.pl_unify.proofs.store.Store.match_spans.Given as goal

abbrev pub invariant-turns : goal.invariant-turns
invariant-turns l = record {
  matching : Matching l.initial.self.state l.self.state l.base l.code.words (code_equations l.initial.self.state l.base l.code.words (pairs_of l.fn.span))
      (code_equations l.self.state l.base l.code.words (pairs_of l.now ++ all_pairs (reverse l.work.items)));
  below : PairsIn (length l.self.state.cells) (length l.code.words) (pairs_of l.now ++ all_pairs (reverse l.work.items));
  next : l.self.state.next ≤ max l.initial.self.state.next (l.code.vars + l.base);
}

-- A step may put one span onto the list, so that equations count twice.
abbrev pub decreases-turns : goal.decreases-turns
decreases-turns l =
    (code_weight l.code.words (pairs_of l.now ++ all_pairs (reverse l.work.items)) + code_weight l.code.words (pairs_of l.now ++ all_pairs (reverse l.work.items))) + length l.work.items
