use Rattle.std.proofs.lemmas.List.Elements.{All-take, All-same}
use Rattle.pl_terms.specs.Cells.{IsCell}
use Rattle.term_walk.proofs.Walking.{IsForest-IsCell}
use Rattle.term_walk.proofs.walk.Walk.take_tree.Goals as goal

pub returns-clause-are : goal.returns-clause-are
returns-clause-are c = All-same IsCell _ _ c.split_at.ensures.front (All-take IsCell _ _ (IsForest-IsCell _ c.self.invariant))
