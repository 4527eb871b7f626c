-- What a call leaves of the machine of its run.
use Rattle.std.proofs.Common.{◌≡◌, ℕ, List, [], Bool, true, false, cond, Option, Some, None, map, refl, sym, ap, ◌∙◌, subst}
use Rattle.std.proofs.lemmas.Option.{same_Some}
use Rattle.plm_io.specs.declared.traits.IoFault.{IoFault}
use Rattle.plm_io.specs.declared.traits.IoFault.TheVariants.{Failed, NoMemory as OutOfMemory}
use Rattle.unit_model.specs.Facts.{Facts}
use Rattle.unit_model.specs.Directives.{Text}
use Rattle.pl_machine.specs.declared.machine.Machine.{Machine}
use Rattle.pl_machine.specs.declared.run.Show.{Show}
use Rattle.pl_machine.specs.Machine.{IsMachine}
use Rattle.goal_runs.specs.Runs.{HasMachine, Ends}
use Rattle.goal_runs.specs.declared.running.Finished.{Finished}
use Rattle.goal_runs.specs.declared.running.GoalEnd.{GoalEnd}
use Rattle.goal_runs.specs.declared.running.GoalEnd.TheVariants as G
use Rattle.plmod.specs.declared.status.Status.{Status}
use Rattle.plmod.specs.declared.status.Status.TheVariants.{Done, Usage, PrepFault, NotUnit, LinkFault, GoalFault, Uncaught, Spent, ReadFault, WriteFault, NoMemory}
use Rattle.plmod.specs.Words.{Run, All as AllOf, Grow}
use Rattle.plmod.specs.Outcome.{Outcome}
use Rattle.plmod.specs.Growing.{grow_texts, grow_goal}
use Rattle.plmod.specs.Fetched.{AreUnder}
use Rattle.plmod.specs.Meets.{Told, Tells, Answers, Gives, bytes_under}
use Rattle.plmod.specs.Last.{HasRun, HasRunOver, AreLinked, AreOfTexts, has_ended, Leaves, LeavesLast}
use Rattle.plmod.proofs.FetchedLaws.{bytes_all}

-- ---- answers that are not of a run

ended_as : (status want : Status) (bytes : List ℕ) (old new : Option (List ℕ)) → has_ended want ≡ false → Answers status want bytes old new → has_ended status ≡ false
ended_as Done want bytes old new unended a = sym (ap has_ended a.0) ∙ unended
ended_as Uncaught want bytes old new unended a = sym (ap has_ended a.0) ∙ unended
ended_as Spent want bytes old new unended a = sym (ap has_ended a.0) ∙ unended
ended_as Usage want bytes old new unended a = refl
ended_as PrepFault want bytes old new unended a = refl
ended_as NotUnit want bytes old new unended a = refl
ended_as LinkFault want bytes old new unended a = refl
ended_as GoalFault want bytes old new unended a = refl
ended_as ReadFault want bytes old new unended a = refl
ended_as WriteFault want bytes old new unended a = refl
ended_as NoMemory want bytes old new unended a = refl

module _ (Is : Machine → Type 0) (last : Option Machine) where
  -- no run has ended
  pub no_run : (status : Status) → has_ended status ≡ false → last ≡ None → Leaves (has_ended status) Is last
  no_run status unended none = (let P : Bool → Type 0 = λ b. Leaves b Is last in subst P (sym unended) none)

  -- the answer is that of an outcome of no run
  pub no_run_told : (status : Status) (o : Outcome) (old new : Option (List ℕ)) → has_ended o.status ≡ false → Gives status o old new → last ≡ None → Leaves (has_ended status) Is last
  no_run_told status o old new unended gives none = no_run status (ended_as status o.status o.bytes old new unended gives) none

  -- a file could not be read or written
  pub no_run_for : (fault : IoFault) (status other : Status) → has_ended other ≡ false → (fault ≡ Failed → status ≡ other) → (fault ≡ OutOfMemory → status ≡ NoMemory) → last ≡ None → Leaves (has_ended status) Is last
  no_run_for Failed status other unended failed memory none = no_run status (ap has_ended (failed refl) ∙ unended) none
  no_run_for OutOfMemory status other unended failed memory none = no_run status (ap has_ended (memory refl)) none

  -- the machine of a run
  pub run_left : (status : Status) (m : Machine) → last ≡ cond (has_ended status) (Some m) None → IsMachine m → Is m → Leaves (has_ended status) Is last
  run_left status m is machine h = go (has_ended status) is
    where
      go : (b : Bool) → last ≡ cond b (Some m) None → Leaves b Is last
      go true e = (m, e, machine, h)
      go false e = e

-- a machine of one kind is one of another
pub leaves_as : (b : Bool) (Is Other : Machine → Type 0) (last : Option Machine) → ((m : Machine) → Is m → Other m) → Leaves b Is last → Leaves b Other last
leaves_as true Is Other last f h = (h.0, h.1, h.2, f h.0 h.3)
leaves_as false Is Other last f h = h

-- what was left can be asked
pub machine_left : (b : Bool) (Is : Machine → Type 0) (last : Option Machine) (m : Machine) → Leaves b Is last → last ≡ Some m → IsMachine m
machine_left true Is last m h e = subst IsMachine (same_Some h.0 m (sym h.1 ∙ e)) h.2
machine_left false Is last m h e = let none : last ≡ None = h in absurd (cc)

-- ---- runs that have ended

pub machine_of : (e : GoalEnd) (f : Finished) → e ≡ G.Ended f → HasMachine e → IsMachine f.machine
machine_of e f is h = subst HasMachine is h

pub has_run : (us : List (Facts Text)) (budget : ℕ) (goal : List ℕ) (show : Show) (old new : Option (List ℕ)) (f : Finished) → Ends us budget goal show old new (G.Ended f) → HasRun us budget goal f.machine
has_run us budget goal show old new f e = record {
  term = e.0;
  names = e.1;
  is_goal = e.2;
  program = e.4.program;
  steps = e.4.steps;
  answers = e.4.answers;
  over = e.4.over;
}

-- ---- what the commands leave

module _ (budget : ℕ) (goal : List ℕ) (names contents : List (List ℕ)) (status : Status) (file : Told) (last : Option Machine) (under : AreUnder file names contents) where
  pub run_leaves : Leaves (has_ended status) (HasRunOver (AreLinked contents) budget goal) last → LeavesLast (Some (Run budget goal names)) status file last
  run_leaves h =
      leaves_as (has_ended status) (HasRunOver (AreLinked contents) budget goal) (λ m. Tells names file → HasRunOver (AreLinked (map (bytes_under file) names)) budget goal m) last
      (λ m k tells. (let P : List (List ℕ) → Type 0 = λ l. HasRunOver (AreLinked l) budget goal m in subst P (sym (bytes_all file names contents tells under)) k)) h

  pub all_leaves : Leaves (has_ended status) (HasRunOver (AreOfTexts contents) budget goal) last → LeavesLast (Some (AllOf budget goal names)) status file last
  all_leaves h =
      leaves_as (has_ended status) (HasRunOver (AreOfTexts contents) budget goal) (λ m. Tells names file → HasRunOver (AreOfTexts (map (bytes_under file) names)) budget goal m) last
      (λ m k tells. (let P : List (List ℕ) → Type 0 = λ l. HasRunOver (AreOfTexts l) budget goal m in subst P (sym (bytes_all file names contents tells under)) k)) h

pub grow_leaves : (count budget : ℕ) (status : Status) (file : Told) (last : Option Machine) → Leaves (has_ended status) (HasRunOver (AreOfTexts (grow_texts count)) budget grow_goal) last
    → LeavesLast (Some (Grow count budget)) status file last
grow_leaves count budget status file last h =
    leaves_as (has_ended status) (HasRunOver (AreOfTexts (grow_texts count)) budget grow_goal) (λ m. Tells [] file → HasRunOver (AreOfTexts (grow_texts count)) budget grow_goal m) last (λ m k tells. k) h
