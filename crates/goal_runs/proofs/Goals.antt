-- Goals that were read, and how they end.
use Rattle.std.proofs.Common.{◌≡◌, ◌∙◌, ℕ, List, Option, Result, Ok, Err, map, ap, sym, subst}
use Rattle.std.specs.Prelude.{IfErr}
use Rattle.std.specs.Io.KnownBytes.{Appends}
use Rattle.plm_io.specs.Causes.{AppendsFront}
use Rattle.pl_atoms.specs.Names.{AreDistinct, IsFront}
use Rattle.pl_terms.specs.Order.{texts_of}
use Rattle.pl_terms.specs.declared.read_term.ReadTerm.{ReadTerm}
use Rattle.pl_ops.specs.Standard.{standard}
use Rattle.pl_ops.specs.Tables.{operator}
use Rattle.unit_model.specs.Facts.{Facts}
use Rattle.unit_model.specs.Directives.{Text}
use Rattle.goal_model.specs.Program.{Program}
use Rattle.pl_store.specs.Facts.{IsLinked}
use Rattle.pl_store.specs.Linked.{Linked, with_names}
use Rattle.program_model.specs.Linking.{program_of_facts}
use Rattle.mod_linker.specs.Linking.{SaysSameFurther}
use Rattle.goal_runs.specs.GoalFaults.{IsFault}
use Rattle.goal_runs.specs.Goals.{VariableNames, IsGoal, IsGoalFault, GoalsAreDecided}
use Rattle.goal_runs.specs.declared.goal_fault.GoalFault.{GoalFault}
use Rattle.goal_runs.specs.declared.goal_fault.GoalFault.TheVariants.{Fault, NoMemory}
use Rattle.pl_machine.specs.declared.run.Show.{Show}
use Rattle.pl_machine.specs.Running.{bytes_by}
use Rattle.pl_machine.specs.Shown.{events_shown}
use Rattle.goal_runs.specs.declared.running.Finished.{Finished}
use Rattle.goal_runs.specs.declared.running.GoalEnd.TheVariants as G
use Rattle.goal_runs.specs.Runs.{Outcomes, Says, run_by, bytes_of, run_over, events_text, Shows, no_goal, a_goal, IsFinished, Ends}
use Rattle.goal_runs.proofs.Texts.{variables-of-pairs, nothing-else-of-more}

-- a program's texts say the same under a table to which a goal's names were added
pub says-read : SaysSameFurther → (tables p : Linked) (old new : List Text) (q : Program Text)
    → with_names tables old ≡ p → IsLinked p → IsFront old new → AreDistinct new → Says p q → Says (with_names tables new) q
says-read law tables p old new q whole =
    subst (λ l. IsLinked l → IsFront old new → AreDistinct new → Says l q → Says (with_names tables new) q) whole
    (λ ordered front distinct says. (law (with_names tables old) new q ordered front distinct says.0 says.1, nothing-else-of-more old new front q says.1))

module _ (us : List (Facts Text)) (budget : ℕ) (goal : List ℕ) (show : Show) (term : ReadTerm) (names : List Text)
    (is : IsGoal goal (texts_of names term.term) (map (λ v. (v.name, v.number)) term.names)) where
  abbrev pairs : VariableNames
  pairs = map (λ v. (v.name, v.number)) term.names

  abbrev run : Outcomes
  run = run_over us (texts_of names term.term) budget

  same-bytes : (r : Outcomes) → bytes_of show term r ≡ bytes_by show (events_text pairs r)
  same-bytes r = ap (λ vs. bytes_by show (events_shown (operator standard) vs r.events)) (sym (variables-of-pairs term.names))

  pub ends-so : (old new : Option (List ℕ)) (f : Finished) → Appends old new (bytes_of show term run) → IsFinished (program_of_facts us) budget f run → Ends us budget goal show old new (G.Ended f)
  ends-so old new f put finished = (texts_of names term.term, pairs, is, subst (Appends old new) (same-bytes run) put, finished)

  -- a front of what this goal puts is one of what any reading of the text puts
  pub front-so : GoalsAreDecided → (old new : Option (List ℕ)) → AppendsFront old new (bytes_of show term run) → (bytes : List ℕ) → Shows us budget goal show bytes → AppendsFront old new bytes
  front-so decided old new front bytes (no_goal n byte fault) = absurd ((decided goal).not_both (texts_of names term.term) pairs n byte is fault)
  front-so decided old new front bytes (a_goal t ns other) =
      let one = (decided goal).one_goal (texts_of names term.term) t pairs ns is other in
      subst (AppendsFront old new)
      (same-bytes run
      ∙ ap (λ vs. bytes_by show (events_text vs run)) one.1
      ∙ ap (λ u. bytes_by show (events_text ns (run_over us u budget))) one.0)
      front

-- a run under the program's own names is one under equal names
module _ (l m : Linked) (same : l ≡ m) (term : ReadTerm) (budget : ℕ) where
  pub finished-under : (f : Finished) → ((q : Program Text) → Says l q → IsFinished q budget f (run_by q l.names term budget))
      → (q : Program Text) → Says m q → IsFinished q budget f (run_by q m.names term budget)
  finished-under f = subst (λ (k : Linked). (q : Program Text) → Says k q → IsFinished q budget f (run_by q k.names term budget)) same

  pub put-under : (show : Show) (P : List ℕ → Type 0) → ((q : Program Text) → Says l q → P (bytes_of show term (run_by q l.names term budget)))
      → (q : Program Text) → Says m q → P (bytes_of show term (run_by q m.names term budget))
  put-under show P = subst (λ (k : Linked). (q : Program Text) → Says k q → P (bytes_of show term (run_by q k.names term budget))) same

-- the fault that reading answered
pub fault-of : {A : Type 0} (goal : List ℕ) (r : Result A GoalFault) (n byte : ℕ) → IfErr r (IsFault goal) → r ≡ Err (Fault n byte) → IsGoalFault goal n byte
fault-of goal (Ok a) n byte h e = absurd (cc)
fault-of goal (Err (Fault m at)) n byte h e =
    let first : m ≡ n = cc in
    let second : at ≡ byte = cc in
    subst (λ k. IsGoalFault goal k byte) first (subst (λ j. IsGoalFault goal m j) second h)
fault-of goal (Err NoMemory) n byte h e = absurd (cc)
