-- The places of a text at which runs begin, and what reading a run gives.
use Rattle.std.specs.Prelude.{◌≡◌, ℕ, ◌<◌, ◌≤◌, List, length, drop, IsUtf8}
use Rattle.pl_terms.specs.Trees.{Tree}
use Rattle.pl_ops.specs.Tables.{Operators}
use Rattle.text_model.specs.Tokens.{Token, run, next_run, valid_of}
use Rattle.unit_model.specs.Directives.{Text}
use Rattle.unit_model.specs.Prepared.{ReadsRun, first_byte}
use Rattle.unit_model.specs.Entries.{IsSoundTerm}

-- a character of the text begins there, or the bytes before the first ill-formed one end there
pub record IsPlace (text : List ℕ) (k : ℕ) : Type 0 where
  pub within : k ≤ length (valid_of text)
  pub begins : IsUtf8 (drop k (valid_of text))

abbrev pub StartIsPlace : Type 0
StartIsPlace = (text : List ℕ) → IsPlace text 0

-- a run from one place to the next
pub record Proceeds (text : List ℕ) (k : ℕ) (tokens : List (Token Text)) (next : ℕ) : Type 0 where
  pub later : k < next
  pub within : next ≤ length text
  pub first_later : k ≤ first_byte tokens
  pub first_before : first_byte tokens < next

abbrev pub RunsProceed : Type 0
RunsProceed = (text : List ℕ) (k next : ℕ) (tokens : List (Token Text)) → next_run text k ≡ run tokens next → Proceeds text k tokens next

abbrev pub RunsEndAtPlaces : Type 0
RunsEndAtPlaces = (text : List ℕ) (k next : ℕ) (tokens : List (Token Text)) → IsPlace text k → next_run text k ≡ run tokens next → IsPlace text next

-- what a run of a text of at most 64 MiB reads as is a term as units have them
abbrev pub ReadingIsSound : Type 0
ReadingIsSound = (text : List ℕ) (k next : ℕ) (tokens : List (Token Text)) (look : Operators) (t : Tree Text) → length text ≤ 67108864 → IsPlace text k
    → next_run text k ≡ run tokens next → ReadsRun look tokens t → IsSoundTerm t
