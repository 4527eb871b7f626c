-- How the faults of the code stand for those of a text.
use Rattle.std.specs.Prelude.{◌≡◌, ℕ, List}
use Rattle.pl_terms.specs.Trees.{Tree}
use Rattle.pl_ops.specs.Tables.{operator}
use Rattle.pl_ops.specs.Standard.{standard}
use Rattle.text_model.specs.Tokens.{Token, Placed, placed, bad_at, none_left}
use Rattle.pl_tokens.specs.declared.token.TokenFault.{TokenFault}
use Rattle.pl_tokens.specs.declared.token.TokenFault.TheVariants.{Fault as TokenFaultOf, NoMemory as NoTokenMemory}
use Rattle.unit_model.specs.Directives.{Text}
use Rattle.unit_model.specs.Prepared.{ReadsRun, first_byte}
use Rattle.goal_runs.specs.Goals.{IsGoalFault}
use Rattle.goal_runs.specs.declared.goal_fault.GoalFault.{GoalFault}
use Rattle.goal_runs.specs.declared.goal_fault.GoalFault.TheVariants.{Fault, NoMemory}

abbrev pub token_fault : TokenFault → GoalFault
token_fault (TokenFaultOf n byte) = Fault n byte
token_fault NoTokenMemory = NoMemory

-- a fault of the text
abbrev pub IsFault : List ℕ → GoalFault → Type 0
IsFault text (Fault n byte) = IsGoalFault text n byte
IsFault text NoMemory = Unit {0}

-- no tree reads the tokens
pub record IsNoTerm (tokens : List (Token Text)) (n byte : ℕ) : Type 0 where
  pub number : n ≡ 5
  pub first : byte ≡ first_byte tokens
  pub none : (t : Tree Text) → ReadsRun (operator standard) tokens t → ⊥

abbrev pub IsTermFault : List (Token Text) → GoalFault → Type 0
IsTermFault tokens (Fault n byte) = IsNoTerm tokens n byte
IsTermFault tokens NoMemory = Unit {0}

-- what is left after the end has a fault: 5 at a token, or that of a token which there is none of
abbrev pub FaultAfter : Placed → ℕ → ℕ → Type 0
FaultAfter (placed t next) n byte = (n ≡ 5) × (byte ≡ t.byte)
FaultAfter (bad_at m at) n byte = (n ≡ m) × (byte ≡ at)
FaultAfter none_left n byte = ⊥

abbrev pub IsFaultAfter : Placed → GoalFault → Type 0
IsFaultAfter p (Fault n byte) = FaultAfter p n byte
IsFaultAfter p NoMemory = Unit {0}
