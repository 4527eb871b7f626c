-- What the tokens of a text keep.
use Rattle.std.specs.Prelude.{◌≡◌, ℕ, ◌<◌, ◌≤◌, ◌^◌, List, [], ◌∷◌, ◌++◌, true, false, IsTrue, IsUtf8}
use Rattle.std.specs.List.{All}
use Rattle.text_model.specs.Tokens.{Lexeme, name, quoted, variable, integer, text_codes, punctuation, stop, Token, is_punctuation, is_stop}

-- its text is UTF-8, its integer at most 2 ^ 63, its punctuation one of the eight signs
abbrev pub IsLexeme : Lexeme (List ℕ) → Type 0
IsLexeme (name s) = IsUtf8 s
IsLexeme (quoted s) = IsUtf8 s
IsLexeme (variable s) = IsUtf8 s
IsLexeme (integer n) = n ≤ 2 ^ 63
IsLexeme (text_codes s) = IsUtf8 s
IsLexeme (punctuation b) = IsTrue (is_punctuation b)
IsLexeme stop = Unit {0}

-- a token that begins between two places
pub record IsTokenBetween (from to : ℕ) (t : Token (List ℕ)) : Type 0 where
  pub lexeme : IsLexeme t.lexeme
  pub first : from ≤ t.byte
  pub last : t.byte < to

-- tokens between two places, of which the last is the end, and no other
pub record IsRun (from to : ℕ) (ts : List (Token (List ℕ))) : Type 0 where
  pub front : List (Token (List ℕ))
  pub end : Token (List ℕ)
  pub whole : ts ≡ front ++ end ∷ []
  pub unended : All (λ t. is_stop t.lexeme ≡ false) front
  pub ended : is_stop end.lexeme ≡ true
  pub tokens : All (IsTokenBetween from to) ts
