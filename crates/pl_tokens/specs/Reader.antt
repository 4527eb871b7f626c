-- A reader of tokens: a text, the place where it stands, whether a token of the same run ends there, and a minus sign alone.
use Rattle.std.specs.Prelude.{◌≡◌, ℕ, ◌≤◌, List, length, take, drop, IsUtf8, suc, Bool, true, false, if◌then◌else◌}
use Rattle.std.specs.Str.Lossy.{utf8_valid_len}
use Rattle.text_model.specs.Tokens.{Token, Placed, placed_at, is_stop, is_minus, Run, run_from, valid_of, is_marked}

pub record Reader : Type 0 where
  pub text : List ℕ
  pub at : ℕ
  pub direct : Bool
  pub minus : Bool

abbrev pub next_of : Reader → Placed
next_of r = placed_at (is_marked r.text) r.at r.direct r.minus (valid_of r.text)

-- the tokens up to the next end
abbrev pub run_of : Reader → Run
run_of r = run_from (suc (length r.text)) (is_marked r.text) r.at r.direct r.minus (valid_of r.text)

abbrev pub start_of : List ℕ → Reader
start_of text = record { text = text; at = 0; direct = false; minus = false }

-- after a token; after an end nothing stands before
abbrev pub past : Reader → Token (List ℕ) → ℕ → Reader
past r t next = record { text = r.text; at = next; direct = if is_stop t.lexeme then false else true; minus = is_minus t.lexeme }

abbrev pub past_run : Reader → ℕ → Reader
past_run r next = record { text = r.text; at = next; direct = false; minus = false }

-- the place is within the text's valid bytes, and a character begins there
pub record IsStanding (text : List ℕ) (valid at : ℕ) : Type 0 where
  pub valid_is : valid ≡ utf8_valid_len text
  pub within : at ≤ valid
  pub begins : IsUtf8 (drop at (take valid text))
