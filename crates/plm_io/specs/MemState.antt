-- What a shelf and a sink in memory have, and which of their calls fail.
use Rattle.std.specs.Prelude.{ℕ, ◌+◌, ◌-◌, ◌^◌, ◌⊎◌, List, IsNone, Contains, min}
use Rattle.plm_io.specs.declared.entries.Stored.{Stored}
use Rattle.plm_io.specs.Files.{file_of}

-- calls is the number of the next call
pub record ShelfState : Type 0 where
  pub entries : List Stored
  pub fails : List ℕ
  pub calls : ℕ
  pub fetch_faults : ℕ
  pub put_faults : ℕ

pub record SinkState : Type 0 where
  pub bytes : List ℕ
  pub fails : List ℕ
  pub calls : ℕ
  pub faults : ℕ

-- a fetch fails exactly here
abbrev pub FetchFails : ShelfState → List ℕ → Type 0
FetchFails shelf name = Contains shelf.fails shelf.calls ⊎ IsNone (file_of shelf.entries name)

abbrev pub next_count : ℕ → ℕ
next_count n = min (n + 1) (2 ^ 64 - 1)
