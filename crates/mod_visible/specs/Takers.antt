-- Imports and re-exports, linked by the module that they take from.
use Rattle.std.specs.Prelude.{◌≡◌, ℕ, ◌<◌, List, length, map, slice_index_or, Option, Some, None}
use Rattle.std.specs.Map.{lookup}
use Rattle.mod_visible.specs.declared.cause.Sort.{Sort}
use Rattle.mod_visible.specs.declared.cause.Sort.TheVariants.{Seeing, Giving}
use Rattle.mod_visible.specs.declared.keys.Source.{Source}
use Rattle.mod_visible.specs.declared.keys.Source.TheVariants.{All, One}
use Rattle.mod_visible.specs.declared.placed.Role.{Role}
use Rattle.mod_visible.specs.declared.placed.Role.TheVariants.{ReexportingAll, Reexporting, ImportingAll, Importing}
use Rattle.mod_visible.specs.declared.placed.Placed.{Placed}
use Rattle.mod_visible.specs.declared.takers.Taker.{Taker}
use Rattle.mod_visible.specs.declared.takers.Link.{Link}
use Rattle.mod_visible.specs.Keys.{procedure, same_source}

abbrev pub taker : Placed → Sort → Source → Taker
taker p sort source = record { sort = sort; «module» = p.module; unit = p.unit; byte = p.byte; source = source }

abbrev pub taker_by : Placed → Role → Option Taker
taker_by p (ReexportingAll m) = Some (taker p Giving (All m.0))
taker_by p (Reexporting m i) = Some (taker p Giving (One (procedure m i)))
taker_by p (ImportingAll m) = Some (taker p Seeing (All m.0))
taker_by p (Importing m i) = Some (taker p Seeing (One (procedure m i)))
taker_by p _ = None

abbrev pub taker_of : Placed → Option Taker
taker_of p = taker_by p p.role

abbrev pub takers_in : List Link → List Taker
takers_in = map (λ l. l.taker)

abbrev pub sources_in : List Link → List Source
sources_in links = map (λ t. t.source) (takers_in links)

abbrev pub source_at : List Source → ℕ → Source
source_at ss k = slice_index_or ss k (All 0)

-- the last place below a number where a source stands
abbrev pub IsLast : List Source → ℕ → Source → Option ℕ → Type 0
IsLast ss n s None = (k : ℕ) → k < n → source_at ss k ≡ s → ⊥
IsLast ss n s (Some j) = (j < n) × (source_at ss j ≡ s) × ((k : ℕ) → j < k → k < n → source_at ss k ≡ s → ⊥)

-- the table has the last taker of each source, and each taker the one before it with its source
pub record IsChained (links : List Link) (table : List (Source × ℕ)) : Type 0 where
  pub last : (s : Source) → IsLast (sources_in links) (length links) s (lookup (same_source s) table)
  pub earlier : (k : ℕ) (l : Link) → k < length links → slice_index_or links k l ≡ l → IsLast (sources_in links) k l.taker.source l.earlier
