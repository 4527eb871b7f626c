-- Runs of tokens: the tokens before the end, and the end.
use Rattle.std.specs.Prelude.{◌≡◌, ℕ, ◌<◌, ◌≤◌, ◌^◌, List, [], ◌∷◌, length, All, false}
use Rattle.text_model.specs.Tokens.{stop, Token as ModelToken}
use Rattle.pl_tokens.specs.Facts.{IsRun}
use Rattle.pl_tokens.specs.Views.{tokens_view}
use Rattle.pl_tokens.specs.declared.token.TokenKind.{TokenKind}
use Rattle.pl_tokens.specs.declared.token.TokenKind.TheVariants.{Name, Quoted, Var, Int, Codes, Punct, End}
use Rattle.pl_tokens.specs.declared.token.Token.{Token}

-- a run as a reader of tokens gives it, between two places of its text
abbrev pub IsRead : List Token → Type 0
IsRead run = (from : ℕ) × (to : ℕ) × IsRun from to (tokens_view run)

-- an integer is at most 2^63
abbrev pub IsSmall : TokenKind → Type 0
IsSmall (Name s) = Unit {0}
IsSmall (Quoted s) = Unit {0}
IsSmall (Var s) = Unit {0}
IsSmall (Int n) = n ≤ 2 ^ 63
IsSmall (Codes s) = Unit {0}
IsSmall (Punct c) = Unit {0}
IsSmall End = Unit {0}

-- the last token; an end at byte 0 where there is none
abbrev pub last_of : List Token → Token
last_of [] = record { kind = End; byte = 0; direct = false }
last_of (t ∷ []) = t
last_of (t ∷ u ∷ ts) = last_of (u ∷ ts)

-- the tokens before the last
abbrev pub before_last : List Token → List Token
before_last [] = []
before_last (t ∷ []) = []
before_last (t ∷ u ∷ ts) = t ∷ before_last (u ∷ ts)

-- what reading takes of a run
pub record HasEnd (run : List Token) : Type 0 where
  pub some : 0 < length run
  pub ends : (last_of run).kind ≡ End
  pub small : All (λ t. IsSmall t.kind) run

-- the tokens before the end, and the end
abbrev pub body_of : List Token → List (ModelToken (List ℕ))
body_of run = tokens_view (before_last run)

abbrev pub end_of : List Token → ModelToken ℕ
end_of run = record { lexeme = stop; byte = (last_of run).byte; direct = (last_of run).direct }
