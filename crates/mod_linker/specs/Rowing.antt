-- Programs that get visible procedures.
use Rattle.std.specs.Prelude.{◌≡◌, ℕ, List, ◌++◌, nat_eq, Bool, ◌&&◌, Option, find}
use Rattle.std.specs.Option.{option_map}
use Rattle.unit_model.specs.Facts.{Indicator}
use Rattle.pl_store.specs.Linked.{Linked, same_indicator, procedure_at, visible_in}

-- a visible procedure, by numbers of names
pub record Shown : Type 0 where
  pub of : ℕ
  pub ind : Indicator ℕ
  pub definer : ℕ

abbrev pub is_shown : ℕ → Indicator ℕ → Shown → Bool
is_shown m i r = nat_eq m r.of && same_indicator i r.ind

-- the definer of the first one
abbrev pub definer_shown : List Shown → ℕ → Indicator ℕ → Option ℕ
definer_shown rs m i = option_map (λ r. r.definer) (find (is_shown m i) rs)

-- what is visible is what the rows show
abbrev pub Shows : List Shown → Linked → Type 0
Shows rs l = (m : ℕ) (i : Indicator ℕ) → option_map (λ p. (procedure_at l p).home) (visible_in l.rows m i) ≡ definer_shown rs m i

-- the program shows these rows too; all else is the same
pub record ShowsMore (rs : List Shown) (l m : Linked) : Type 0 where
  pub names : m.names ≡ l.names
  pub modules : m.modules ≡ l.modules
  pub procedures : m.procedures ≡ l.procedures
  pub clauses : m.clauses ≡ l.clauses
  pub shows : (done : List Shown) → Shows done l → Shows (done ++ rs) m
