use Rattle.std.proofs.Common.{◌≡◌, take}
use Rattle.prep_texts.proofs.copies.modes_copy.Given as goal

abbrev pub invariant-copying : goal.invariant-copying
invariant-copying l = l.copy ≡ take l.mode-index l.mode-items
