-- One table for the names of all units.
use Rattle.std.specs.Prelude.{◌≡◌, ℕ, ◌<◌, List, [], length, slice_index_or}
use Rattle.pl_atoms.specs.Names.{Remaps}
use Rattle.unit_model.specs.Directives.{Text}

-- each table's names are numbers of one table
pub record AreTaken (froms : List (List Text)) (names : List Text) (numbers : List (List ℕ)) : Type 0 where
  pub count : length numbers ≡ length froms
  pub each : (k : ℕ) → k < length froms → Remaps (slice_index_or froms k []) names (slice_index_or numbers k [])
