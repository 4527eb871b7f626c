-- Where a text's first run and what is left after it lead.
use Rattle.std.proofs.Common.{◌≡◌, ℕ, List, Bool, true, false, Option, Some, None, Result, Ok, Err, IfErr, IsErrAnd, length, nat_eq, eqb-true, refl, sym, ap, ◌∙◌, subst, if◌then◌else◌}
use Rattle.pl_terms.specs.Trees.{Tree}
use Rattle.text_model.specs.Tokens.{Placed, placed, bad_at, none_left, Run, run, run_fault, cut_short, ended, next_run}
use Rattle.pl_tokens.specs.declared.token.Token.{Token}
use Rattle.pl_tokens.specs.declared.token.TokenFault.{TokenFault}
use Rattle.pl_tokens.specs.declared.token.TokenFault.TheVariants.{Fault as TokenFaultOf, NoMemory as NoTokenMemory}
use Rattle.pl_tokens.specs.Views.{tokens_view}
use Rattle.pl_tokens.specs.Reader.{Reader, start_of, next_of, run_of, past_run}
use Rattle.pl_tokens.specs.Runs.{TakesNext, TakesRun}
use Rattle.unit_model.specs.Directives.{Text}
use Rattle.goal_runs.specs.Goals.{VariableNames, left_at, ReadsAs, IsGoal, IsGoalFault, no_token, unfinished, empty, no_term, a_token_more, no_token_more}
use Rattle.goal_runs.specs.GoalFaults.{token_fault, IsFault, IsTermFault, FaultAfter, IsFaultAfter}
use Rattle.goal_runs.specs.declared.goal_fault.GoalFault.{GoalFault}
use Rattle.goal_runs.specs.declared.goal_fault.GoalFault.TheVariants.{Fault, NoMemory}

-- ---- a fault that is handed on

pub handed_on : {A : Type 0} (P : GoalFault → Type 0) (f : GoalFault) (r : Result A GoalFault) → IsErrAnd r (λ e. e ≡ f) → P f → IfErr r P
handed_on P f (Ok a) given h = absurd given
handed_on P f (Err e) given h = subst P (sym given) h

-- ---- a run that there is none of

pub taken-none : (o : Option (List Token)) (r s : Reader) → ((ts : List Token) → o ≡ Some ts → ⊥) → TakesRun r (Ok o) s → TakesRun r (Ok None) s
taken-none None r s none h = h
taken-none (Some ts) r s none h = absurd (none ts refl)

-- ---- what is left after the end

pub none-left : (r s : Reader) → TakesNext r (Ok None) s → next_of r ≡ none_left
none-left r s h = h.0

pub more-left : (r s : Reader) (t : Token) → TakesNext r (Ok (Some t)) s → IsFaultAfter (next_of r) (Fault 5 t.byte)
more-left r s t h = subst (λ p. FaultAfter p 5 t.byte) (sym h.1) (refl, refl)

pub fault-left : (r s : Reader) (f : TokenFault) → TakesNext r (Err f) s → IsFaultAfter (next_of r) (token_fault f)
fault-left r s (TokenFaultOf n byte) h = subst (λ p. FaultAfter p n byte) (sym h.0) (refl, refl)
fault-left r s NoTokenMemory h = tt

-- ---- a text whose first run was taken

module _ (text : List ℕ) (reader after : Reader) (start : reader ≡ start_of text) where
  first-run : (r : Run) → run_of reader ≡ r → next_run text 0 ≡ r
  first-run r h = ap run_of (sym start) ∙ h

  left-is : (next : ℕ) → after ≡ past_run reader next → next_of after ≡ left_at text next
  left-is next h = ap next_of (h ∙ ap (λ r. past_run r next) start)

  pub no-run : TakesRun reader (Ok None) after → IsGoalFault text 6 (length text)
  no-run h = empty (first-run ended h.0)

  pub run-fault : (f : TokenFault) → TakesRun reader (Err f) after → IsFault text (token_fault f)
  run-fault NoTokenMemory h = tt
  run-fault (TokenFaultOf n byte) h = go (nat_eq n 6) refl
    where
      is : (b : Bool) → nat_eq n 6 ≡ b → next_run text 0 ≡ (if b then cut_short byte else run_fault n byte)
      is b e = first-run (if b then cut_short byte else run_fault n byte) (h.0 ∙ ap (λ b. if b then cut_short byte else run_fault n byte) e)

      go : (b : Bool) → nat_eq n 6 ≡ b → IsGoalFault text n byte
      go true e = subst (λ m. IsGoalFault text m byte) (sym (eqb-true n 6 e)) (unfinished (is true e))
      go false e = no_token (is false e)

  module _ (ts : List Token) (taken : TakesRun reader (Ok (Some ts)) after) where
    pub term-fault : (f : GoalFault) → IsTermFault (tokens_view ts) f → IsFault text f
    term-fault NoMemory h = tt
    term-fault (Fault n byte) h =
        let P : ℕ → ℕ → Type 0 = λ m b. IsGoalFault text m b in
        subst (λ m. P m byte) (sym h.number) (subst (P 5) (sym h.first) (no_term (tokens_view ts) (first-run (run (tokens_view ts) taken.0) taken.1) h.none))

    module _ (t : Tree Text) (names : VariableNames) (reads : ReadsAs (tokens_view ts) t names) where
      pub is-goal : next_of after ≡ none_left → IsGoal text t names
      is-goal h = record {
        tokens = tokens_view ts;
        next = taken.0;
        first = first-run (run (tokens_view ts) taken.0) taken.1;
        term = reads;
        last = sym (left-is taken.0 taken.2) ∙ h;
      }

      at_left : (p : Placed) (n byte : ℕ) → left_at text taken.0 ≡ p → FaultAfter p n byte → IsGoalFault text n byte
      at_left none_left n byte e h = absurd h
      at_left (placed more next) n byte e h =
          let P : ℕ → ℕ → Type 0 = λ m b. IsGoalFault text m b in
          subst (λ m. P m byte) (sym h.0) (subst (P 5) (sym h.1) (a_token_more (tokens_view ts) t more (first-run (run (tokens_view ts) taken.0) taken.1) reads.reads e))
      at_left (bad_at m at) n byte e h =
          let P : ℕ → ℕ → Type 0 = λ k b. IsGoalFault text k b in
          subst (λ k. P k byte) (sym h.0) (subst (P m) (sym h.1) (no_token_more (tokens_view ts) t (first-run (run (tokens_view ts) taken.0) taken.1) reads.reads e))

      pub left-fault : (f : GoalFault) → IsFaultAfter (next_of after) f → IsFault text f
      left-fault NoMemory h = tt
      left-fault (Fault n byte) h = at_left (next_of after) n byte (sym (left-is taken.0 taken.2)) h
