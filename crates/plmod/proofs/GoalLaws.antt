-- What is written of a goal over linked units.
use Rattle.std.proofs.Common.{◌≡◌, ◌≢◌, ℕ, ◌-◌, List, [], Result, Ok, Err, IfOk, Option, Some, None, sym, ap, ◌∙◌, subst, append-nil}
use Rattle.std.specs.Io.KnownBytes.{Appends, Keeps}
use Rattle.plm_io.specs.Causes.{AppendsFront}
use Rattle.plm_io.proofs.FrontLaws.{front_of_first}
use Rattle.pl_terms.specs.Trees.{Tree}
use Rattle.pl_ops.specs.Standard.{standard}
use Rattle.pl_ops.specs.Tables.{operator}
use Rattle.pl_atoms.specs.declared.memory.NoMemory.{NoMemory}
use Rattle.unit_model.specs.Facts.{Facts}
use Rattle.unit_model.specs.Directives.{Text}
use Rattle.goal_model.specs.Program.{Program}
use Rattle.program_model.specs.Linking.{program_of_facts}
use Rattle.prep_report.specs.Lines.{end_text}
use Rattle.goal_runs.specs.Goals.{VariableNames, GoalsAreDecided}
use Rattle.pl_machine.specs.declared.run.Show.TheVariants.{Lines}
use Rattle.goal_runs.specs.Ends.{manner}
use Rattle.goal_runs.specs.Runs.{Outcomes, run_over, events_text, Shows, no_goal as shows_none, a_goal as shows_goal, IsFinished, Ends}
use Rattle.goal_runs.specs.declared.running.Finished.{Finished}
use Rattle.goal_runs.specs.declared.running.GoalEnd.TheVariants as G
use Rattle.plmod.specs.declared.answer.Made.{Made}
use Rattle.plmod.specs.declared.status.Status.{Status}
use Rattle.plmod.specs.declared.status.Status.TheVariants.{GoalFault, ReadFault}
use Rattle.plmod.specs.Outcome.{Outcome, told}
use Rattle.plmod.specs.Meets.{Gives}
use Rattle.plmod.specs.MadeOutcome.{outcome_of}
use Rattle.plmod.specs.Runs.{GoalGives, no_goal, runs, ran, goal_line, end_line, status_of, status_in}
use Rattle.plmod.proofs.Parts.{answers_after}

-- what was made, if anything, is this
abbrev pub IsMade : Result Made NoMemory → Outcome → Type 0
IsMade made o = IfOk made (λ m. outcome_of m ≡ o)

pub made_same : (made : Result Made NoMemory) (o p : Outcome) → o ≡ p → IsMade made o → IsMade made p
made_same (Ok m) o p same is = is ∙ same
made_same (Err e) o p same is = tt

-- nothing is appended where all is kept
pub appends_none : (old new : Option (List ℕ)) → Keeps old new → Appends old new []
appends_none None new k = tt
appends_none (Some xs) None k = absurd k
appends_none (Some xs) (Some ys) k = k ∙ sym (append-nil xs)

-- what a call writes after a part that was written, and what it answers
abbrev pub Tells : Result Made NoMemory → Status → Option (List ℕ) → Option (List ℕ) → Type 0
Tells made status old new = (o : Outcome) → IsMade made o → Gives status o old new

-- the line of a run's end
pub end_is : (q : Program Text) (f : Finished) (budget : ℕ) (r : Outcomes) → IsFinished q budget f r
    → told (end_text (operator standard) f.machine.compiled.names f.end) (status_in (manner f.end)) ≡ told (end_line r) (status_of r)
end_is q f budget r is =
    ap (λ l. told l (status_in (manner f.end))) is.shown ∙ ap (λ m. told (end_line r) (status_in m)) is.manner

module _ (decided : GoalsAreDecided) where
  -- a goal that is none
  pub none_told : (us : List (Facts Text)) (budget : ℕ) (goal : List ℕ) (o : Outcome) (n byte : ℕ) (made : Result Made NoMemory) (status : Status) (old mid new : Option (List ℕ)) → status ≢ ReadFault
      → Ends us budget goal Lines old mid (G.NoGoal n byte) → IsMade made (told (goal_line n byte) GoalFault) → Tells made status mid new → GoalGives us budget goal o → Gives status o old new
  none_told us budget goal o n byte made status old mid new read ends is tells (no_goal m b h) =
      let same = (decided goal).one_fault n m byte b ends.0 h in
      answers_after status GoalFault [] (goal_line m b) old mid new read (appends_none old mid ends.1)
      (tells (told (goal_line m b) GoalFault)
      (made_same made (told (goal_line n byte) GoalFault) (told (goal_line m b) GoalFault) (ap (λ x. told (goal_line x byte) GoalFault) same.0 ∙ ap (λ x. told (goal_line m x) GoalFault) same.1) is))
  none_told us budget goal o n byte made status old mid new read ends is tells (runs t names h) = absurd ((decided goal).not_both t names n byte h ends.0)

  -- a run that has ended
  pub end_told : (us : List (Facts Text)) (budget : ℕ) (goal : List ℕ) (o : Outcome) (f : Finished) (made : Result Made NoMemory) (status : Status) (old mid new : Option (List ℕ)) → status ≢ ReadFault
      → Ends us budget goal Lines old mid (G.Ended f) → IsMade made (told (end_text (operator standard) f.machine.compiled.names f.end) (status_in (manner f.end)))
      → Tells made status mid new → GoalGives us budget goal o → Gives status o old new
  end_told us budget goal o f made status old mid new read ends is tells (no_goal n byte h) = absurd ((decided goal).not_both ends.0 ends.1 n byte ends.2 h)
  end_told us budget goal o f made status old mid new read ends is tells (runs t names h) =
      let r : Outcomes = run_over us ends.0 budget in
      let same = (decided goal).one_goal ends.0 t ends.1 names ends.2 h in
      let given : Gives status (ran ends.1 r) old new = answers_after status (status_of r) (events_text ends.1 r) (end_line r) old mid new read ends.3
      (tells (told (end_line r) (status_of r)) (made_same made (told (end_text (operator standard) f.machine.compiled.names f.end) (status_in (manner f.end))) (told (end_line r) (status_of r)) (end_is (program_of_facts us) f budget r ends.4) is)) in
      let P : Tree Text → Type 0 = λ x. Gives status (ran ends.1 (run_over us x budget)) old new in
      let Q : VariableNames → Type 0 = λ x. Gives status (ran x (run_over us t budget)) old new in
      subst Q same.1 (subst P same.0 given)

-- a run that was stopped
pub stopped_run : (us : List (Facts Text)) (budget : ℕ) (goal : List ℕ) (o : Outcome) (old new : Option (List ℕ))
    → ((bytes : List ℕ) → Shows us budget goal Lines bytes → AppendsFront old new bytes) → GoalGives us budget goal o → AppendsFront old new o.bytes
stopped_run us budget goal o old new front (no_goal n byte h) = front_of_first old new [] (goal_line n byte) (front [] (shows_none n byte h))
stopped_run us budget goal o old new front (runs t names h) =
    front_of_first old new (events_text names (run_over us t budget)) (end_line (run_over us t budget)) (front (events_text names (run_over us t budget)) (shows_goal t names h))
