use Rattle.std.proofs.Common.{◌≤◌, ◌+◌, length, map, take}
use Rattle.pl_unify.specs.State.{tree_at}
use Rattle.pl_unify.proofs.Compounds.{Copied}
use Rattle.pl_unify.proofs.store.Store.compound.Given as goal

abbrev pub invariant-loop-at : goal.invariant-loop-at
invariant-loop-at l = record {
  copied : Copied l.initial.self.state l.self.state (map (tree_at l.initial.self.state) (take l.at-index l.args));
  room : length l.args + 1 ≤ l.self.cell_room + l.at-index;
}
