-- Languages whose types are given.
use Rattle.std.specs.Prelude.{ℕ, List, Option}
use Rattle.solver_model.specs.Search.{Item, State, Point, Activation, Language}

-- the functions of a language whose types are given
pub record Table (Goal World Alternative Recovery Gathering Answer Ball Clauses : Type 0) : Type 0 where
  pub attempt : Alternative → Clauses → Option (State Goal World × Clauses)
  pub recover : Recovery → Ball → Option (Point Goal World Ball)
  pub gather : Gathering → List Answer → Point Goal World Ball
  pub active_of : Gathering → List ℕ
  pub answer_of : World → Answer
  pub cut : Goal → ℕ
  pub activate : ℕ → Goal → List (Item Goal) → World → Clauses → Activation Goal World Alternative Recovery Gathering Answer Ball

abbrev pub language : {G W A R F T B C : Type 0} → Table G W A R F T B C → Language
language {G} {W} {A} {R} {F} {T} {B} {C} t = record { Goal = G; World = W; Alternative = A; Recovery = R; Gathering = F; Answer = T; Ball = B; Clauses = C; attempt = t.attempt; recover = t.recover; gather = t.gather; active_of = t.active_of; answer_of = t.answer_of; cut = t.cut; activate = t.activate }
