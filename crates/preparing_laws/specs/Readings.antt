-- What reading promises of a text's terms.
use Rattle.std.specs.Prelude.{◌≡◌, ℕ, ◌<◌, ◌^◌, List}
use Rattle.pl_terms.specs.Trees.{Tree}
use Rattle.pl_ops.specs.Tables.{Declaration, operator}
use Rattle.text_model.specs.Tokens.{Token, run, next_run}
use Rattle.unit_model.specs.Directives.{Text}
use Rattle.unit_model.specs.Prepared.{ReadsRun, first_byte}
use Rattle.unit_model.specs.Entries.{IsSoundTerm}

-- the places where the runs of a text begin: its front, and the end of each run
pub data BeginsRun (text : List ℕ) : ℕ → Type 0 where
  at_front : BeginsRun text 0
  at_end : {k next : ℕ} (tokens : List (Token Text)) → BeginsRun text k → next_run text k ≡ run tokens next → BeginsRun text next

-- each run of a text that reads as a term under some table reads as a sound one
abbrev pub ReadsSoundly : List ℕ → Type 0
ReadsSoundly text = (k next : ℕ) (table : List Declaration) (tokens : List (Token Text)) (t : Tree Text)
    → BeginsRun text k → next_run text k ≡ run tokens next → ReadsRun (operator table) tokens t → IsSoundTerm t × (first_byte tokens < 2 ^ 32)
