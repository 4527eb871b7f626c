-- How the answers of the reader of tokens stand for the definitions of runs.
use Rattle.std.specs.Prelude.{◌≡◌, ℕ, ◌<◌, ◌≤◌, List, [], ◌∷◌, nat_eq, length, drop, IsUtf8, if◌then◌else◌, Option, Some, None, Result, Ok, Err}
use Rattle.text_model.specs.Tokens.{Token, Placed, placed, bad_at, none_left, Run, run, run_fault, cut_short, ended, after_token}
use Rattle.pl_tokens.specs.Views.{token_view, tokens_view}
use Rattle.pl_tokens.specs.Facts.{IsRun}
use Rattle.pl_tokens.specs.Reader.{Reader, next_of, run_of, past, past_run}
use Rattle.pl_tokens.specs.declared.token.Token.{Token as CodeToken}
use Rattle.pl_tokens.specs.declared.token_reader.PlacedToken.{PlacedToken}
use Rattle.pl_tokens.specs.declared.token_reader.PlacedRun.{PlacedRun}
use Rattle.pl_tokens.specs.declared.token.TokenFault.{TokenFault}
use Rattle.pl_tokens.specs.declared.token.TokenFault.TheVariants.{Fault, NoMemory}

abbrev pub NextGives : Result (Option PlacedToken) TokenFault → Placed → Type 0
NextGives (Ok None) p = none_left ≡ p
NextGives (Ok (Some q)) p = placed (token_view q.token) q.next ≡ p
NextGives (Err (Fault n byte)) p = bad_at n byte ≡ p
NextGives (Err NoMemory) p = Unit {0}

abbrev pub NextWithin : Result (Option PlacedToken) TokenFault → ℕ → ℕ → Type 0
NextWithin (Ok None) at len = Unit {0}
NextWithin (Ok (Some q)) at len = (at ≤ q.token.byte) × (q.token.byte < q.next) × (q.next ≤ len)
NextWithin (Err (Fault n byte)) at len = n < 5
NextWithin (Err NoMemory) at len = Unit {0}

-- a run's fault: 6 where the text ends too early
abbrev pub fault_run : ℕ → ℕ → Run
fault_run n byte = if nat_eq n 6 then cut_short byte else run_fault n byte

-- a run after tokens that were read before
abbrev pub after_all : List (Token (List ℕ)) → Run → Run
after_all [] r = r
after_all (t ∷ ts) r = after_token t (after_all ts r)

abbrev pub RunGives : Result (Option PlacedRun) TokenFault → Run → Type 0
RunGives (Ok None) r = ended ≡ r
RunGives (Ok (Some q)) r = run (tokens_view q.tokens) q.next ≡ r
RunGives (Err (Fault n byte)) r = fault_run n byte ≡ r
RunGives (Err NoMemory) r = Unit {0}

-- the tokens of a run from a place on, and what stands after them
abbrev pub RunWithin : Result (Option PlacedRun) TokenFault → ℕ → List ℕ → Type 0
RunWithin (Ok None) from valid = Unit {0}
RunWithin (Ok (Some q)) from valid = IsRun from q.next (tokens_view q.tokens) × (q.next ≤ length valid) × IsUtf8 (drop q.next valid)
RunWithin (Err f) from valid = Unit {0}

-- what a reader gives, and where it stands then
abbrev pub TakesNext : Reader → Result (Option CodeToken) TokenFault → Reader → Type 0
TakesNext r (Ok None) s = (next_of r ≡ none_left) × (s ≡ r)
TakesNext r (Ok (Some t)) s = (next : ℕ) × (next_of r ≡ placed (token_view t) next) × (s ≡ past r (token_view t) next)
TakesNext r (Err (Fault n byte)) s = (next_of r ≡ bad_at n byte) × (s ≡ r)
TakesNext r (Err NoMemory) s = s ≡ r

abbrev pub TakesRun : Reader → Result (Option (List CodeToken)) TokenFault → Reader → Type 0
TakesRun r (Ok None) s = (run_of r ≡ ended) × (s ≡ r)
TakesRun r (Ok (Some ts)) s = (next : ℕ) × (run_of r ≡ run (tokens_view ts) next) × (s ≡ past_run r next)
TakesRun r (Err (Fault n byte)) s = (run_of r ≡ fault_run n byte) × (s ≡ r)
TakesRun r (Err NoMemory) s = s ≡ r
