-- What goal a text is, and why it is none.
use Rattle.std.specs.Prelude.{◌≡◌, ℕ, List, [], length, false, ◌⊎◌}
use Rattle.pl_terms.specs.Trees.{Tree}
use Rattle.pl_ops.specs.Tables.{operator}
use Rattle.pl_ops.specs.Standard.{standard}
use Rattle.text_model.specs.Tokens.{Token, Placed, placed, bad_at, none_left, run, run_fault, cut_short, ended, next_run}
use Rattle.text_model.specs.Reading.{numbered}
use Rattle.pl_tokens.specs.Reader.{next_of}
use Rattle.unit_model.specs.Directives.{Text}
use Rattle.unit_model.specs.Prepared.{ReadsRun, first_byte}

-- the names of variables, each with the number that it stands for
abbrev pub VariableNames : Type 0
VariableNames = List (Text × ℕ)

-- what comes at a place of a text where an end stands before
abbrev pub left_at : List ℕ → ℕ → Placed
left_at text k = next_of (record { text = text; at = k; direct = false; minus = false })

-- the tokens of a run read as the term under the standard operators, and its variables have these names
pub record ReadsAs (tokens : List (Token Text)) (t : Tree Text) (names : VariableNames) : Type 0 where
  pub reads : ReadsRun (operator standard) tokens t
  pub named : names ≡ (numbered [] 0 reads.before).names

-- the text's first run is this term, and no token is left after it
pub record IsGoal (text : List ℕ) (t : Tree Text) (names : VariableNames) : Type 0 where
  pub tokens : List (Token Text)
  pub next : ℕ
  pub first : next_run text 0 ≡ run tokens next
  pub term : ReadsAs tokens t names
  pub last : left_at text next ≡ none_left

-- the number of the text's fault, and its byte
pub data IsGoalFault (text : List ℕ) : ℕ → ℕ → Type 0 where
  no_token : {n byte : ℕ} → next_run text 0 ≡ run_fault n byte → IsGoalFault text n byte
  unfinished : {byte : ℕ} → next_run text 0 ≡ cut_short byte → IsGoalFault text 6 byte
  empty : next_run text 0 ≡ ended → IsGoalFault text 6 (length text)
  no_term : {next : ℕ} (tokens : List (Token Text)) → next_run text 0 ≡ run tokens next
      → ((t : Tree Text) → ReadsRun (operator standard) tokens t → ⊥) → IsGoalFault text 5 (first_byte tokens)
  a_token_more : {next after : ℕ} (tokens : List (Token Text)) (t : Tree Text) (more : Token Text) → next_run text 0 ≡ run tokens next
      → ReadsRun (operator standard) tokens t → left_at text next ≡ placed more after → IsGoalFault text 5 more.byte
  no_token_more : {next n byte : ℕ} (tokens : List (Token Text)) (t : Tree Text) → next_run text 0 ≡ run tokens next
      → ReadsRun (operator standard) tokens t → left_at text next ≡ bad_at n byte → IsGoalFault text n byte

-- the text is one goal, or has one fault, and never both
pub record IsDecided (text : List ℕ) : Type 0 where
  pub either : ((t : Tree Text) × (names : VariableNames) × IsGoal text t names) ⊎ ((n : ℕ) × (byte : ℕ) × IsGoalFault text n byte)
  pub one_goal : (t u : Tree Text) (ms ns : VariableNames) → IsGoal text t ms → IsGoal text u ns → (t ≡ u) × (ms ≡ ns)
  pub one_fault : (n m a b : ℕ) → IsGoalFault text n a → IsGoalFault text m b → (n ≡ m) × (a ≡ b)
  pub not_both : (t : Tree Text) (names : VariableNames) (n byte : ℕ) → IsGoal text t names → IsGoalFault text n byte → ⊥

abbrev pub GoalsAreDecided : Type 0
GoalsAreDecided = (text : List ℕ) → IsDecided text
