-- Prepared texts, and the first fault of a text.
use Rattle.std.specs.Prelude.{◌≡◌, ℕ, List, [], ◌∷◌, ◌++◌, length, Bool, Some, None, Ok, Err, ◌⊎◌}
use Rattle.pl_terms.specs.Trees.{Tree}
use Rattle.pl_ops.specs.Tables.{Operators, operator}
use Rattle.text_model.specs.Tokens.{Token, stop, run, run_fault, cut_short, ended, next_run}
use Rattle.text_model.specs.Grammar.{max_priority}
use Rattle.text_model.specs.Reading.{numbered, ReadsTokens}
use Rattle.unit_model.specs.Facts.{Facts}
use Rattle.unit_model.specs.Directives.{Text}
use Rattle.unit_model.specs.Preparing.{Interface, State, Opened, start, table_in, facts_of, step}

-- the tokens of a run before its end read as the tree
pub record ReadsRun (look : Operators) (tokens : List (Token Text)) (t : Tree Text) : Type 0 where
  pub before : List (Token Text)
  pub end_byte : ℕ
  pub direct : Bool
  pub split : tokens ≡ before ++ record { lexeme = stop; byte = end_byte; direct = direct } ∷ []
  pub reads : ReadsTokens look (numbered [] 0 before).tokens (record { lexeme = stop; byte = end_byte; direct = direct }) max_priority t

-- the byte of a run's first token
abbrev pub first_byte : List (Token Text) → ℕ
first_byte [] = 0
first_byte (t ∷ ts) = t.byte

-- From a place of the text on, where the terms before it left this state, the text's terms give these facts.
pub data Prepares (text : List ℕ) : ℕ → State → Facts Text → Type 0 where
  ends : {k : ℕ} {s : State} → next_run text k ≡ ended → s.inside ≡ None → Prepares text k s (facts_of s)
  goes_on : {k next : ℕ} {s after : State} {f : Facts Text} (tokens : List (Token Text)) (t : Tree Text)
      → next_run text k ≡ run tokens next → ReadsRun (operator (table_in s)) tokens t → step t (first_byte tokens) s ≡ Ok after
      → Prepares text next after f → Prepares text k s f

-- the facts of a text, where these interfaces are known
abbrev pub Prepared : List Interface → List ℕ → Facts Text → Type 0
Prepared known text f = Prepares text 0 (start known) f

-- From a place on, the first fault has this number and byte.
pub data Faults (text : List ℕ) : ℕ → State → ℕ → ℕ → Type 0 where
  no_token : {k n byte : ℕ} {s : State} → next_run text k ≡ run_fault n byte → Faults text k s n byte
  unfinished : {k byte : ℕ} {s : State} → next_run text k ≡ cut_short byte → Faults text k s 6 byte
  no_term : {k next : ℕ} {s : State} (tokens : List (Token Text)) → next_run text k ≡ run tokens next
      → ((t : Tree Text) → ReadsRun (operator (table_in s)) tokens t → ⊥) → Faults text k s 5 (first_byte tokens)
  wrong_term : {k next n : ℕ} {s : State} (tokens : List (Token Text)) (t : Tree Text) → next_run text k ≡ run tokens next
      → ReadsRun (operator (table_in s)) tokens t → step t (first_byte tokens) s ≡ Err n → Faults text k s n (first_byte tokens)
  left_open : {k : ℕ} {s : State} (o : Opened) → next_run text k ≡ ended → s.inside ≡ Some o → Faults text k s 7 (length text)
  later : {k next n byte : ℕ} {s after : State} (tokens : List (Token Text)) (t : Tree Text) → next_run text k ≡ run tokens next
      → ReadsRun (operator (table_in s)) tokens t → step t (first_byte tokens) s ≡ Ok after
      → Faults text next after n byte → Faults text k s n byte

abbrev pub FirstFault : List Interface → List ℕ → ℕ → ℕ → Type 0
FirstFault known text n byte = Faults text 0 (start known) n byte

-- a text is prepared with one value of facts, or has one first fault, and never both
pub record IsDecided (known : List Interface) (text : List ℕ) : Type 0 where
  pub either : ((f : Facts Text) × Prepared known text f) ⊎ ((n : ℕ) × (byte : ℕ) × FirstFault known text n byte)
  pub one_value : (f g : Facts Text) → Prepared known text f → Prepared known text g → f ≡ g
  pub one_fault : (n m a b : ℕ) → FirstFault known text n a → FirstFault known text m b → (n ≡ m) × (a ≡ b)
  pub not_both : (f : Facts Text) (n byte : ℕ) → Prepared known text f → FirstFault known text n byte → ⊥

abbrev pub PreparingIsDecided : Type 0
PreparingIsDecided = (known : List Interface) (text : List ℕ) → IsDecided known text
