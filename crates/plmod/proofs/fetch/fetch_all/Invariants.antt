use Rattle.std.proofs.Common.{◌≡◌, ◌≤◌, ℕ, List, take}
use Rattle.plmod.specs.Fetched.{AreUnder}
use Rattle.plmod.proofs.fetch.fetch_all.Given as goal

abbrev pub invariant-loop-name : goal.invariant-loop-name
invariant-loop-name g l = record {
  under : AreUnder (g.S.Shelf.file l.fn.shelf) (take l.name-index l.names) l.contents;
  counts : (name : List ℕ) → g.S.Shelf.fetch_faults l.fn.shelf name ≤ g.S.Shelf.fetch_faults l.shelf name;
  files : g.S.Shelf.file l.shelf ≡ g.S.Shelf.file l.fn.shelf;
  puts : g.S.Shelf.put_faults l.shelf ≡ g.S.Shelf.put_faults l.fn.shelf;
}
