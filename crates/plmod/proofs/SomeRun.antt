-- The commands that run a goal have an outcome.
use Rattle.std.proofs.Common.{ℕ, ◌⊎◌, inl, inr, List, [], ◌∷◌, ◌++◌, Option, Some, None}
use Rattle.pl_terms.specs.Trees.{Tree}
use Rattle.unit_model.specs.Facts.{Facts}
use Rattle.unit_model.specs.Directives.{Text}
use Rattle.unit_model.specs.Prepared.{Prepared, FirstFault}
use Rattle.reading_laws.proofs.Decided.{PreparingIsDecided-holds}
use Rattle.link_model.specs.Faults.{Fault, first_link}
use Rattle.link_model.specs.Texts.{known, Whole, prep_fault, link_fault, program, WholeFrom, WholeIs, all_prepared, faulty, one_more}
use Rattle.goal_runs.specs.Goals.{IsGoal, IsGoalFault, GoalsAreDecided}
use Rattle.plmod.specs.Outcome.{Outcome}
use Rattle.plmod.specs.Growing.{grow_texts, grow_goal}
use Rattle.plmod.specs.Prepares.{AreUnits}
use Rattle.plmod.specs.Runs.{GoalGives, no_goal, runs, LinkedGives, faulty_link, linked, RunGives, units, AllGives, faulty_text, GrowGives}

-- texts are a whole
pub some_whole : (us : List (Facts Text)) (ts : List Text) → (w : Whole) × WholeFrom us ts w
some_whole us [] = (_, all_prepared us)
some_whole us (t ∷ ts) = go (PreparingIsDecided-holds (known us) t).either (λ f. some_whole (us ++ f ∷ []) ts)
  where
    go : ((f : Facts Text) × Prepared (known us) t f) ⊎ ((n : ℕ) × (byte : ℕ) × FirstFault (known us) t n byte)
        → ((f : Facts Text) → (w : Whole) × WholeFrom (us ++ f ∷ []) ts w) → (w : Whole) × WholeFrom us (t ∷ ts) w
    go (inl p) more = (let rest = more p.0 in (rest.0, one_more us t ts p.0 rest.0 p.1 rest.1))
    go (inr p) more = (_, faulty us t ts p.0 p.1 p.2)

module _ (decided : GoalsAreDecided) where
  some_goal : (us : List (Facts Text)) (budget : ℕ) (goal : List ℕ) → (o : Outcome) × GoalGives us budget goal o
  some_goal us budget goal = go (decided goal).either
    where
      go : ((t : Tree Text) × (names : List (Text × ℕ)) × IsGoal goal t names) ⊎ ((n : ℕ) × (byte : ℕ) × IsGoalFault goal n byte) → (o : Outcome) × GoalGives us budget goal o
      go (inl p) = (_, runs p.0 p.1 p.2)
      go (inr p) = (_, no_goal p.0 p.1 p.2)

  some_link : (names : List (List ℕ)) (us : List (Facts Text)) (budget : ℕ) (goal : List ℕ) (first : Option Fault) → (o : Outcome) × LinkedGives names us budget goal first o
  some_link names us budget goal None = (let g = some_goal us budget goal in (g.0, linked g.0 g.1))
  some_link names us budget goal (Some f) = (_, faulty_link f)

  -- over units
  pub some_run : (names contents : List (List ℕ)) (budget : ℕ) (goal : List ℕ) (us : List (Facts Text)) → AreUnits contents us → (o : Outcome) × RunGives names contents budget goal o
  some_run names contents budget goal us are = (let g = some_link names us budget goal (first_link us) in (g.0, units us g.0 are g.1))

  -- over texts
  pub some_all : (names contents : List (List ℕ)) (budget : ℕ) (goal : List ℕ) → (o : Outcome) × AllGives names contents budget goal o
  some_all names contents budget goal = (let r = some_whole [] contents in go r.0 r.1)
    where
      go : (w : Whole) → WholeIs contents w → (o : Outcome) × AllGives names contents budget goal o
      go (prep_fault n text byte) is = (_, faulty_text n text byte is)
      go (link_fault f) is = (_, faulty_link f is)
      go (program us) is = (let g = some_goal us budget goal in (g.0, runs us g.0 is g.1))

  counts_over : (count budget : ℕ) (us : List (Facts Text)) → WholeIs (grow_texts count) (program us)
      → ((t : Tree Text) × (names : List (Text × ℕ)) × IsGoal grow_goal t names) ⊎ ((n : ℕ) × (byte : ℕ) × IsGoalFault grow_goal n byte) → (o : Outcome) × GrowGives count budget o
  counts_over count budget us is (inl p) = (_, runs us p.0 p.1 is p.2)
  counts_over count budget us is (inr p) = (_, no_goal us p.0 p.1 is p.2)

  -- over the texts of so many modules
  pub some_grown : (count budget : ℕ) → (o : Outcome) × GrowGives count budget o
  some_grown count budget = (let r = some_whole [] (grow_texts count) in go r.0 r.1)
    where
      go : (w : Whole) → WholeIs (grow_texts count) w → (o : Outcome) × GrowGives count budget o
      go (prep_fault n text byte) is = (_, faulty_text n text byte is)
      go (link_fault f) is = (_, faulty_link f is)
      go (program us) is = counts_over count budget us is (decided grow_goal).either
