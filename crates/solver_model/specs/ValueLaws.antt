-- What the value of a search does not depend on, and what a larger budget of steps changes.
use Rattle.std.specs.Prelude.{◌≡◌, ℕ, ◌+◌, ◌≤◌, List, ◌++◌}
use Rattle.solver_model.specs.Search.{Event, Language, StateOf, OutcomeOf, Spent, search_of, found}

module _ (L : Language) where
  -- the second events begin with the first
  abbrev pub Begins : List (Event L.Answer) → List (Event L.Answer) → Type 0
  Begins a b = (more : List (Event L.Answer)) × (b ≡ a ++ more)

  -- What k steps more change: where no step was left, only what comes after; and else nothing but the steps left.
  pub data Longer (k : ℕ) (r r' : OutcomeOf L) : Type 0 where
    spent : r.ended ≡ Spent → Begins r.events r'.events → Longer k r r'
    same : r'.events ≡ r.events → r'.left ≡ r.left + k → r'.clauses ≡ r.clauses → r'.ended ≡ r.ended → Longer k r r'

  -- each bound that is no less than the steps left gives the same
  abbrev pub BoundFree : Type 0
  BoundFree = (n : ℕ) (s : StateOf L) (l : ℕ) (c : L.Clauses) → l ≤ n → search_of L n s l c ≡ found L s l c

  -- a larger budget only adds events, and changes nothing where a smaller one sufficed
  abbrev pub BudgetAdds : Type 0
  BudgetAdds = (k : ℕ) (s : StateOf L) (l : ℕ) (c : L.Clauses) → Longer k (found L s l c) (found L s (l + k) c)
