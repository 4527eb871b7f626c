use Rattle.std.proofs.Common.{◌≡◌, ◌++◌, take}
use Rattle.prep_texts.proofs.copies.append.Given as goal

abbrev pub invariant-appending : goal.invariant-appending
invariant-appending l = l.into ≡ l.initial.into ++ take l.entry-index l.entries
