use Rattle.std.proofs.Common.{◌≡◌, ◌≤◌, ◌<◌, ℕ, take, length, get_or}
use Rattle.pl_unify.specs.Notes.{no_note}
use Rattle.pl_unify.proofs.store.notes.forget.Given as goal

abbrev pub invariant-notes : goal.invariant-notes
invariant-notes l = record {
  few : length l.noted.items ≤ length l.initial.noted.items;
  front : l.noted.items ≡ take (length l.noted.items) l.initial.noted.items;
  same : (p : ℕ) → 0 < get_or l.ground.items p 0 → get_or l.ground.items p 0 ≡ get_or l.initial.ground.items p 0;
  kept : (p : ℕ) → 0 < get_or l.ground.items p 0 → (i : ℕ) → i < length l.initial.noted.items → (get_or l.initial.noted.items i no_note).0 ≡ p → i < length l.noted.items;
}

abbrev pub decreases-notes : goal.decreases-notes
decreases-notes l = length l.noted.items
