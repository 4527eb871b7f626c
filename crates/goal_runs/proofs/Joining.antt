-- What a machine's run gives, over texts.
use Rattle.std.proofs.Common.{◌≡◌, ◌∙◌, ℕ, ◌+◌, ◌-◌, Option, Result, Ok, Err, OnErr, true, List, map, length, nat_eq, ap, sym, subst, arith}
use Rattle.std.specs.Prelude.{IsErrAnd, IsErrOf}
use Rattle.std.proofs.KnownBytes.{Appends-nil}
use Rattle.plm_io.specs.Causes.{AppendsFront}
use Rattle.pl_atoms.specs.Names.{same_text}
use Rattle.pl_atoms.proofs.Numbers.{length-front}
use Rattle.pl_terms.specs.Order.{text_of}
use Rattle.pl_terms.specs.NameBounds.{NamesBelow}
use Rattle.pl_terms.specs.declared.read_term.ReadTerm.{ReadTerm}
use Rattle.pl_terms.specs.declared.read_term.VarName.{VarName}
use Rattle.pl_ops.specs.Standard.{standard}
use Rattle.pl_ops.specs.Tables.{operator}
use Rattle.term_walk.proofs.NameBounds.{texts_of-front, NamesBelow-more}
use Rattle.unit_model.specs.Directives.{Text}
use Rattle.solver_model.specs.Search.{answers_of}
use Rattle.builtin_model.specs.Naming.{by_texts}
use Rattle.goal_model.specs.Program.{Program}
use Rattle.goal_model.specs.Run.{run_of}
use Rattle.naming_laws.specs.SameRun.{event_by, SameRun, SaysSame, RunsByTexts}
use Rattle.pl_store.specs.Facts.{IsLinked}
use Rattle.pl_store.specs.Linked.{Linked}
use Rattle.pl_store.specs.Runs.{program_of}
use Rattle.goal_state.specs.declared.compiled.CompiledProgram.{CompiledProgram}
use Rattle.goal_state.specs.Denotation.{linked, naming}
use Rattle.prep_report.specs.declared.end.End2.{End2}
use Rattle.prep_report.specs.Lines.{end_text}
use Rattle.mod_linker.specs.Linking.{SaysSameFurther}
use Rattle.pl_machine.specs.declared.machine.Machine.{Machine}
use Rattle.pl_machine.specs.declared.run.Show.{Show}
use Rattle.pl_machine.specs.Shown.{events_shown}
use Rattle.pl_machine.specs.Starting.{IsStart}
use Rattle.pl_machine.specs.Running.{Ran, Remains, Outcomes as NumberOutcomes, shown_by, bytes_by, stopped}
use Rattle.goal_runs.specs.Ends.{end_shown, manner, manner_of}
use Rattle.goal_runs.specs.Runs.{Outcomes, SaysWhat, IsFinished, Says, run_by, bytes_of}
use Rattle.goal_runs.proofs.Ends.{end-shown, manner-by}
use Rattle.goal_runs.proofs.Texts.{answers-by}

-- the machine says what the program says
pub same-program : SaysSameFurther → (l : Linked) (goal : ReadTerm) (budget : ℕ) (m : Machine) (q : Program Text) → IsLinked l → IsStart l goal budget m → Says l q → SaysWhat m q
same-program law l goal budget m q ordered start says =
    subst (λ k. SaysSame m.compiled.names (program_of k) q) (sym start.tables) (law l m.compiled.names q ordered start.names start.written.distinct says.0 says.1)

-- the run over the program's numbers is the run over their texts
module _ (law : SaysSameFurther) (runs : RunsByTexts) where
  pub same-run : (l : Linked) (goal : ReadTerm) (budget : ℕ) (m : Machine) (q : Program Text) → IsLinked l → IsStart l goal budget m
      → NamesBelow (length l.names) goal.term → Says l q
      → SameRun (text_of m.compiled.names) (run_of (naming m.compiled) nat_eq (program_of (linked m.compiled)) goal.term budget) (run_by q l.names goal budget)
  same-run l goal budget m q ordered start below says =
      let there = same-program law l goal budget m q ordered start says in
      subst (λ t. SameRun (text_of m.compiled.names) (run_of (naming m.compiled) nat_eq (program_of (linked m.compiled)) goal.term budget) (run_of by_texts same_text q t budget))
      (texts_of-front l.names m.compiled.names start.names goal.term below)
      (runs m.compiled.names (program_of (linked m.compiled)) q start.written there goal.term budget
      (NamesBelow-more (length l.names) (length m.compiled.names) (length-front l.names m.compiled.names start.names) goal.term below))

module _ (old : Machine) (r : NumberOutcomes) (q : Outcomes) (same : SameRun (text_of old.compiled.names) r q) where
  -- the bytes are those of the events over texts
  pub same-bytes : (show : Show) (vs : List VarName) → old.variables.items ≡ vs → shown_by old show r.events ≡ bytes_by show (events_shown (operator standard) vs q.events)
  same-bytes show vs e =
      ap (λ ws. bytes_by show (events_shown (operator standard) ws (map (event_by (text_of old.compiled.names)) r.events))) e
      ∙ ap (λ es. bytes_by show (events_shown (operator standard) vs es)) same.events

  -- and the end is the end over texts
  pub same-end : (p : Program Text) (budget : ℕ) (new : Machine) (e : End2) → SaysWhat old p → old.budget ≡ budget → old.answers ≡ 0 → Ran old new e r → new.over ≡ true
      → IsFinished p budget (record { machine = new; end = e }) q
  same-end p budget new e says all none ran over = record {
    program = subst (λ (b : CompiledProgram). SaysSame b.names (program_of (linked b)) p) (sym ran.same.0) says;
    shown =
        ap (λ b. end_text (operator standard) b.names e) ran.same.0
        ∙ ap (end_text (operator standard) old.compiled.names) ran.ended
        ∙ end-shown (operator standard) old.compiled.names r.ended
        ∙ ap (end_shown (operator standard)) same.ended;
    manner = ap manner ran.ended ∙ manner-by old.compiled.names r.ended ∙ ap manner_of same.ended;
    steps = ap (λ n. n - new.left) (ran.same.2 ∙ all) ∙ ap (λ n. budget - n) (ran.left ∙ same.left);
    answers =
        ran.answers
        ∙ ap stopped (counted old.answers (length (answers_of r.events)) none ∙ sym (answers-by old.compiled.names r.events) ∙ ap (λ es. length (answers_of es)) same.events);
    over = over;
  }
    where
      counted : (a n : ℕ) → a ≡ 0 → a + n ≡ n
      counted a n h = omega arith

-- a machine that was made for a goal, and ran
module _ (law : SaysSameFurther) (runs : RunsByTexts) (l : Linked) (goal : ReadTerm) (budget : ℕ) (m : Machine)
    (ordered : IsLinked l) (start : IsStart l goal budget m) (below : NamesBelow (length l.names) goal.term) where
  abbrev whole : NumberOutcomes
  whole = run_of (naming m.compiled) nat_eq (program_of (linked m.compiled)) goal.term budget

  pub ended : (new : Machine) (e : End2) → ((r : NumberOutcomes) → Remains m r → Ran m new e r) → new.over ≡ true
      → (q : Program Text) → Says l q → IsFinished q budget (record { machine = new; end = e }) (run_by q l.names goal budget)
  ended new e ran over q says =
      same-end m whole (run_by q l.names goal budget) (same-run law runs l goal budget m q ordered start below says) q budget new e
      (same-program law l goal budget m q ordered start says) start.budget start.answers (ran whole start.remains) over

  pub put : (show : Show) (P : List ℕ → Type 0) → ((r : NumberOutcomes) → Remains m r → P (shown_by m show r.events))
      → (q : Program Text) → Says l q → P (bytes_of show goal (run_by q l.names goal budget))
  put show P h q says =
      subst P (same-bytes m whole (run_by q l.names goal budget) (same-run law runs l goal budget m q ordered start below says) show goal.names start.variables)
      (h whole start.remains)

-- nothing was put
pub nothing-put : (known : Option (List ℕ)) (bytes : List ℕ) → AppendsFront known known bytes
nothing-put known bytes = (0, Appends-nil known)

pub on-err : {A E : Type 0} (r : Result A E) (P : Type 0) → P → OnErr r P
on-err (Ok a) P h = tt
on-err (Err e) P h = h

-- a fault that was handed on is the fault that was answered
pub handed-on : {A B E : Type 0} (r : Result A E) (e w : E) (Q : Type 0) → IsErrAnd r (λ y. y ≡ e) → (IsErrOf {T = B} (Err e) w → Q) → IsErrOf r w → Q
handed-on (Ok a) e w Q h f i = absurd h
handed-on (Err y) e w Q h f i = f (cc)
