-- What stands in a goal place.
use Rattle.std.specs.Prelude.{ℕ, List, nat_eq, ◌&&◌, Option, Some, if◌then◌else◌}
use Rattle.pl_terms.specs.declared.cell.Cell.{Cell}
use Rattle.pl_terms.specs.declared.cell.Cell.TheVariants.{Var, Int, Comp}
use Rattle.unit_model.specs.Directives.{is_control}
use Rattle.mod_body.specs.declared.convert.Place.{Place}
use Rattle.mod_body.specs.declared.convert.Place.TheVariants.{Variable, Integer, Control, Other}

-- by its first cell
abbrev pub place_of : (ℕ → List ℕ) → Option Cell → Place
place_of f (Some (Var n)) = Variable
place_of f (Some (Int z)) = Integer
place_of f (Some (Comp s k)) = if nat_eq k 2 && is_control (f s.0) then Control s else Other
place_of f _ = Other
