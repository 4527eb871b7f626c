-- Conversion of bodies whose names are numbers, over the cells of the goals that are left.
use Rattle.std.specs.Prelude.{ℕ, List, [], Bool, true, false, ◌&&◌, Option, Some, None, if◌then◌else◌, option_map}
use Rattle.pl_terms.specs.Trees.{Tree, var, int, comp, Trees, nil, cons}
use Rattle.pl_terms.specs.Cells.{cells}
use Rattle.pl_terms.specs.declared.cell.Cell.{Cell}
use Rattle.unit_model.specs.Directives.{is_control, both}

abbrev pub control_by : ℕ → Option (Tree ℕ) → Option (Tree ℕ) → Option (Tree ℕ)
control_by s None q = None
control_by s (Some l) None = None
control_by s (Some l) (Some r) = Some (comp s (cons l (cons r nil)))

-- a body's conversion, where the names have these texts and `call` this number
abbrev pub converted_by : (ℕ → List ℕ) → ℕ → Tree ℕ → Option (Tree ℕ)
converted_by f call (var n) = Some (comp call (cons (var n) nil))
converted_by f call (int z) = None
converted_by f call (comp s (cons l (cons r nil))) =
    if is_control (f s) then control_by s (converted_by f call l) (converted_by f call r) else Some (comp s (cons l (cons r nil)))
converted_by f call t = Some t

-- the cells of the conversions of goals one after another
abbrev pub goal_cells : (ℕ → List ℕ) → ℕ → Trees ℕ → Option (List Cell)
goal_cells f call nil = Some []
goal_cells f call (cons t ts) = both (option_map cells (converted_by f call t)) (goal_cells f call ts)

-- whether a body stays as it is
abbrev pub stays : (ℕ → List ℕ) → Tree ℕ → Bool
stays f (var n) = false
stays f (int z) = false
stays f (comp s (cons l (cons r nil))) = if is_control (f s) then stays f l && stays f r else true
stays f t = true

abbrev pub all_stay : (ℕ → List ℕ) → Trees ℕ → Bool
all_stay f nil = true
all_stay f (cons t ts) = stays f t && all_stay f ts
