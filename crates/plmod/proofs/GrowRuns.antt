-- What the command `grow` writes, by its parts.
use Rattle.std.proofs.Common.{◌≡◌, ◌≢◌, ℕ, ◌-◌, List, [], ◌++◌, length, Result, Option, refl, sym, ap, ◌∙◌, subst}
use Rattle.std.specs.Io.KnownBytes.{Appends}
use Rattle.plm_io.specs.Causes.{AppendsFront}
use Rattle.plm_io.specs.declared.traits.IoFault.{IoFault}
use Rattle.plm_io.specs.declared.traits.IoFault.TheVariants.{Failed, NoMemory as OutOfMemory}
use Rattle.plm_io.proofs.FrontLaws.{front_of_first}
use Rattle.pl_terms.specs.Trees.{Tree}
use Rattle.pl_ops.specs.Standard.{standard}
use Rattle.pl_ops.specs.Tables.{operator}
use Rattle.pl_atoms.specs.declared.memory.NoMemory.{NoMemory}
use Rattle.unit_model.specs.Facts.{Facts}
use Rattle.unit_model.specs.Directives.{Text}
use Rattle.solver_model.specs.Search.{answers_of}
use Rattle.link_model.specs.Faults.{Fault}
use Rattle.link_model.specs.Texts.{prep_fault, link_fault, program, WholeIs}
use Rattle.goal_model.specs.Program.{Program}
use Rattle.program_model.specs.Linking.{program_of_facts}
use Rattle.needs_laws.specs.Wholes.{OneWhole}
use Rattle.prep_report.specs.Lines.{end_text, count_text}
use Rattle.goal_runs.specs.Goals.{GoalsAreDecided}
use Rattle.pl_machine.specs.Running.{stopped}
use Rattle.pl_machine.specs.declared.run.Show.TheVariants.{Count}
use Rattle.goal_runs.specs.Ends.{manner}
use Rattle.goal_runs.specs.Runs.{Outcomes, run_over, Shows, no_goal as shows_none, a_goal as shows_goal, IsFinished, Ends}
use Rattle.goal_runs.specs.declared.running.Finished.{Finished}
use Rattle.goal_runs.specs.declared.running.GoalEnd.TheVariants as G
use Rattle.plmod.specs.declared.answer.Made.{Made}
use Rattle.plmod.specs.declared.status.Status.{Status}
use Rattle.plmod.specs.declared.status.Status.TheVariants.{GoalFault, ReadFault, WriteFault, NoMemory as NoMemoryLeft}
use Rattle.plmod.specs.Outcome.{Outcome, told}
use Rattle.plmod.specs.Prepares.{faulty}
use Rattle.plmod.specs.Links.{link_faulty, link_lines}
use Rattle.plmod.specs.Growing.{grow_texts, grow_goal}
use Rattle.plmod.specs.Meets.{Gives}
use Rattle.plmod.specs.Runs.{CountGives, no_count, counts, GrowGives, faulty_text, faulty_link, no_goal, runs, goal_line, end_line, status_of, status_in}
use Rattle.plmod.proofs.Parts.{answers_after}
use Rattle.plmod.proofs.GoalLaws.{IsMade, Tells, made_same, appends_none, end_is}

-- the lines of a run's counts and its end
abbrev pub count_lines : ℕ → Outcomes → List ℕ
count_lines budget r = count_text (stopped (length (answers_of r.events))) (budget - r.left) ++ end_line r

-- the same of a machine that has come to the end
abbrev pub lines_made : Finished → List ℕ
lines_made f = count_text f.machine.answers (f.machine.budget - f.machine.left) ++ end_text (operator standard) f.machine.compiled.names f.end

count_is : (q : Program Text) (f : Finished) (budget : ℕ) (r : Outcomes) → IsFinished q budget f r → told (lines_made f) (status_in (manner f.end)) ≡ told (count_lines budget r) (status_of r)
count_is q f budget r is =
    ap (λ a. told (count_text a (f.machine.budget - f.machine.left) ++ end_text (operator standard) f.machine.compiled.names f.end) (status_in (manner f.end))) is.answers
    ∙ ap (λ s. told (count_text (stopped (length (answers_of r.events))) s ++ end_text (operator standard) f.machine.compiled.names f.end) (status_in (manner f.end))) is.steps
    ∙ ap (λ p. record { bytes = count_text (stopped (length (answers_of r.events))) (budget - r.left) ++ p.bytes; status = p.status; stored = p.stored }) (end_is q f budget r is)

module _ (decided : GoalsAreDecided) where
  -- the goal is none
  pub none_counted : (us : List (Facts Text)) (budget : ℕ) (o : Outcome) (n byte : ℕ) (made : Result Made NoMemory) (status : Status) (old mid new : Option (List ℕ)) → status ≢ ReadFault
      → Ends us budget grow_goal Count old mid (G.NoGoal n byte) → IsMade made (told (goal_line n byte) GoalFault) → Tells made status mid new → CountGives [] us budget o → Gives status o old new
  none_counted us budget o n byte made status old mid new read ends is tells (no_count m b h) =
      let same = (decided grow_goal).one_fault n m byte b ends.0 h in
      answers_after status GoalFault [] (goal_line m b) old mid new read (appends_none old mid ends.1)
      (tells (told (goal_line m b) GoalFault)
      (made_same made (told (goal_line n byte) GoalFault) (told (goal_line m b) GoalFault) (ap (λ x. told (goal_line x byte) GoalFault) same.0 ∙ ap (λ x. told (goal_line m x) GoalFault) same.1) is))
  none_counted us budget o n byte made status old mid new read ends is tells (counts t names h) = absurd ((decided grow_goal).not_both t names n byte h ends.0)

  -- the run has ended
  pub end_counted : (us : List (Facts Text)) (budget : ℕ) (o : Outcome) (f : Finished) (made : Result Made NoMemory) (status : Status) (old mid new : Option (List ℕ)) → status ≢ ReadFault
      → Ends us budget grow_goal Count old mid (G.Ended f) → IsMade made (told (lines_made f) (status_in (manner f.end))) → Tells made status mid new → CountGives [] us budget o → Gives status o old new
  end_counted us budget o f made status old mid new read ends is tells (no_count n byte h) = absurd ((decided grow_goal).not_both ends.0 ends.1 n byte ends.2 h)
  end_counted us budget o f made status old mid new read ends is tells (counts t names h) =
      let r : Outcomes = run_over us ends.0 budget in
      let same = (decided grow_goal).one_goal ends.0 t ends.1 names ends.2 h in
      let given : Gives status (told (count_lines budget r) (status_of r)) old new = answers_after status (status_of r) [] (count_lines budget r) old mid new read ends.3
      (tells (told (count_lines budget r) (status_of r)) (made_same made (told (lines_made f) (status_in (manner f.end))) (told (count_lines budget r) (status_of r)) (count_is (program_of_facts us) f budget r ends.4) is)) in
      let P : Tree Text → Type 0 = λ x. Gives status (told (count_lines budget (run_over us x budget)) (status_of (run_over us x budget))) old new in
      subst P same.0 given

-- the run was stopped
pub stopped_count : (us : List (Facts Text)) (budget : ℕ) (o : Outcome) (old new : Option (List ℕ))
    → ((bytes : List ℕ) → Shows us budget grow_goal Count bytes → AppendsFront old new bytes) → CountGives [] us budget o → AppendsFront old new o.bytes
stopped_count us budget o old new front (no_count n byte h) = front_of_first old new [] (goal_line n byte) (front [] (shows_none n byte h))
stopped_count us budget o old new front (counts t names h) = front_of_first old new [] (count_lines budget (run_over us t budget)) (front [] (shows_goal t names h))

-- lines that were written before
pub count_after : (first : List ℕ) (us : List (Facts Text)) (budget : ℕ) (o : Outcome) (status : Status) (old mid new : Option (List ℕ)) → status ≢ ReadFault → Appends old mid first
    → ((p : Outcome) → CountGives [] us budget p → Gives status p mid new) → CountGives first us budget o → Gives status o old new
count_after first us budget o status old mid new read all gives (no_count n byte h) =
    answers_after status GoalFault first (goal_line n byte) old mid new read all (gives (told (goal_line n byte) GoalFault) (no_count n byte h))
count_after first us budget o status old mid new read all gives (counts t names h) =
    let r : Outcomes = run_over us t budget in
    answers_after status (status_of r) first (count_lines budget r) old mid new read all (gives (told (count_lines budget r) (status_of r)) (counts t names h))

-- they were not all written
pub first_refused : (first : List ℕ) (us : List (Facts Text)) (budget : ℕ) (o : Outcome) (fault : IoFault) (status : Status) (old new : Option (List ℕ))
    → (fault ≡ Failed → status ≡ WriteFault) → (fault ≡ OutOfMemory → status ≡ NoMemoryLeft) → AppendsFront old new first → CountGives first us budget o → Gives status o old new
first_refused first us budget o fault status old new failed memory front gives = go fault failed memory
  where
    written : (p : Outcome) → CountGives first us budget p → AppendsFront old new p.bytes
    written p (no_count n byte h) = front_of_first old new first (goal_line n byte) front
    written p (counts t names h) = front_of_first old new first (count_lines budget (run_over us t budget)) front

    go : (f : IoFault) → (f ≡ Failed → status ≡ WriteFault) → (f ≡ OutOfMemory → status ≡ NoMemoryLeft) → Gives status o old new
    go Failed x y = (let P : Status → Type 0 = λ s. Gives s o old new in subst P (sym (x refl)) (written o gives))
    go OutOfMemory x y = (let P : Status → Type 0 = λ s. Gives s o old new in subst P (sym (y refl)) (written o gives))

module _ (one : OneWhole) (count budget : ℕ) where
  -- a text that has a fault
  pub grown_faulty : (n text byte : ℕ) (o : Outcome) → WholeIs (grow_texts count) (prep_fault n text byte) → GrowGives count budget o → faulty [] n byte ≡ o
  grown_faulty n text byte o whole (faulty_text m t b h) =
      let same = one (grow_texts count) (prep_fault n text byte) (prep_fault m t b) whole h in
      let number : n ≡ m = cc in
      let at : byte ≡ b = cc in
      ap (λ x. faulty [] x byte) number ∙ ap (λ x. faulty [] m x) at
  grown_faulty n text byte o whole (faulty_link f h) = let same = one (grow_texts count) (prep_fault n text byte) (link_fault f) whole h in absurd (cc)
  grown_faulty n text byte o whole (no_goal us m b h k) = let same = one (grow_texts count) (prep_fault n text byte) (program us) whole h in absurd (cc)
  grown_faulty n text byte o whole (runs us t names h k) = let same = one (grow_texts count) (prep_fault n text byte) (program us) whole h in absurd (cc)

  -- units that don't link
  pub grown_apart : (f : Fault) (o : Outcome) → WholeIs (grow_texts count) (link_fault f) → GrowGives count budget o → link_faulty [] f ≡ o
  grown_apart f o whole (faulty_text m t b h) = let same = one (grow_texts count) (link_fault f) (prep_fault m t b) whole h in absurd (cc)
  grown_apart f o whole (faulty_link g h) =
      let same = one (grow_texts count) (link_fault f) (link_fault g) whole h in
      let e : f ≡ g = cc in
      ap (link_faulty []) e
  grown_apart f o whole (no_goal us m b h k) = let same = one (grow_texts count) (link_fault f) (program us) whole h in absurd (cc)
  grown_apart f o whole (runs us t names h k) = let same = one (grow_texts count) (link_fault f) (program us) whole h in absurd (cc)

  -- units that link
  pub grown : (us : List (Facts Text)) (o : Outcome) → WholeIs (grow_texts count) (program us) → GrowGives count budget o → CountGives (link_lines us) us budget o
  grown us o whole (faulty_text m t b h) = let same = one (grow_texts count) (program us) (prep_fault m t b) whole h in absurd (cc)
  grown us o whole (faulty_link f h) = let same = one (grow_texts count) (program us) (link_fault f) whole h in absurd (cc)
  grown us o whole (no_goal vs n byte h k) =
      let same = one (grow_texts count) (program us) (program vs) whole h in
      let e : vs ≡ us = cc in
      let P : List (Facts Text) → Type 0 = λ l. CountGives (link_lines l) l budget (told (link_lines vs ++ goal_line n byte) GoalFault) in
      subst P e (no_count n byte k)
  grown us o whole (runs vs t names h k) =
      let same = one (grow_texts count) (program us) (program vs) whole h in
      let e : vs ≡ us = cc in
      let P : List (Facts Text) → Type 0 = λ l. CountGives (link_lines l) l budget (told (link_lines vs ++ count_lines budget (run_over vs t budget)) (status_of (run_over vs t budget))) in
      subst P e (counts t names k)
