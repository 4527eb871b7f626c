-- Clashes and rows in memory.
use Rattle.std.specs.Prelude.{List, Bool, true, false, ◌&&◌, ◌||◌, Option, Some, None, if◌then◌else◌}
use Rattle.std.specs.List.{list_any}
use Rattle.std.specs.Map.{lookup}
use Rattle.std.specs.Ordering.{is_lt}
use Rattle.std.specs.declared.cmp.Ordering.{Ordering}
use Rattle.pl_atoms.specs.Names.{same_text}
use Rattle.unit_model.specs.Builtins.{is_builtin}
use Rattle.unit_model.specs.Directives.{Text}
use Rattle.unit_model.specs.Encoding.{text_at}
use Rattle.search_model.specs.declared.rows.VisibleRow.{VisibleRow}
use Rattle.link_model.specs.Faults.{is_seeing}
use Rattle.mod_visible.specs.declared.cause.Cause.{Cause}
use Rattle.mod_visible.specs.declared.clash.Clash.{Clash}
use Rattle.mod_visible.specs.declared.keys.Key.{Key}
use Rattle.mod_visible.specs.Causing.{sort_view}
use Rattle.mod_visible.specs.Leasts.{key_of, same_key, is_upto}

abbrev pub is_after : Option Cause → Cause → Bool
is_after None c = false
is_after (Some o) c = is_upto o c

abbrev pub overrides : List Text → Cause → Bool
overrides names c = is_seeing (sort_view c.sort) && is_builtin (text_at names c.ind.name.0) c.ind.arity

-- `others` has the first causes with another definer than the first causes
abbrev pub is_clash_in : List Text → List (Key × Cause) → Cause → Bool
is_clash_in names others c = overrides names c || is_after (lookup (same_key (key_of c)) others) c

abbrev pub clash_at : Cause → Clash
clash_at c = record { unit = c.unit; byte = c.byte }

abbrev pub clash_of : List Text → List (Key × Cause) → Cause → Option Clash
clash_of names others c = if is_clash_in names others c then Some (clash_at c) else None

-- the row of a cause, where it's of visibility in a module that exists
abbrev pub row_at : Cause → VisibleRow
row_at c = record { «module» = c.module; ind = c.ind; definer = c.definer }

abbrev pub is_shown : List Text → List Text → Cause → Bool
is_shown names modules c = is_seeing (sort_view c.sort) && list_any (same_text (text_at names c.module.0)) modules

abbrev pub row_of : List Text → List Text → Cause → Option VisibleRow
row_of names modules c = if is_shown names modules c then Some (row_at c) else None

-- above the last one, if there is one
abbrev pub rises : {X Y : Type 0} → (Y → Y → Ordering) → (X → Y) → Option X → X → Bool
rises cmp view None x = true
rises cmp view (Some y) x = is_lt (cmp (view y) (view x))
