-- Numbers of variables, in order of first occurrence.
use Rattle.std.specs.Prelude.{◌≡◌, ℕ, suc, List, [], ◌∷◌, ◌++◌, length, Option, Some, None, if◌then◌else◌}
use Rattle.std.specs.Option.{unwrap_or}
use Rattle.text_model.specs.Tokens.{Lexeme, name, quoted, variable, integer, text_codes, punctuation, stop, Token as ModelToken}
use Rattle.text_model.specs.Reading.{number_of, is_anonymous, Numbered, numbered}
use Rattle.pl_reader.specs.declared.variables.Variables.{Variables}

-- the variables that were met, with their numbers, and the first number that is free
pub record Met : Type 0 where
  pub names : List (List ℕ × ℕ)
  pub next : ℕ

-- each text with its number
abbrev pub paired : List (List ℕ) → List ℕ → List (List ℕ × ℕ)
paired [] ns = []
paired (s ∷ ss) [] = []
paired (s ∷ ss) (n ∷ ns) = (s, n) ∷ paired ss ns

abbrev pub met : Variables → Met
met v = record { names = paired v.texts v.numbers.items; next = v.next }

-- each text has a number
pub record IsPaired (v : Variables) : Type 0 where
  pub same : length v.texts ≡ length v.numbers.items

-- the number that a variable has, where it was met
abbrev pub known_number : Met → List ℕ → Option ℕ
known_number m s = if is_anonymous s then None else number_of s m.names

abbrev pub number_at : Met → List ℕ → ℕ
number_at m s = unwrap_or (known_number m s) m.next

-- one variable more
abbrev pub with_variable : Met → List ℕ → Met
with_variable m s = record { names = if is_anonymous s then m.names else m.names ++ (s, m.next) ∷ []; next = suc m.next }

abbrev pub met_with : Met → List ℕ → Met
met_with m s = elim (known_number m s) [ Some n ↦ m | None ↦ with_variable m s ]

abbrev pub met_after : Met → Lexeme (List ℕ) → Met
met_after m (name s) = m
met_after m (quoted s) = m
met_after m (variable s) = met_with m s
met_after m (integer n) = m
met_after m (text_codes s) = m
met_after m (punctuation c) = m
met_after m stop = m

-- what a token is, with its variable's number
abbrev pub lexeme_at : Met → Lexeme (List ℕ) → Lexeme ℕ
lexeme_at m (name s) = name s
lexeme_at m (quoted s) = quoted s
lexeme_at m (variable s) = variable (number_at m s)
lexeme_at m (integer n) = integer n
lexeme_at m (text_codes s) = text_codes s
lexeme_at m (punctuation c) = punctuation c
lexeme_at m stop = stop

-- the tokens with numbers, from here on
abbrev pub numbered_from : Met → List (ModelToken (List ℕ)) → Numbered
numbered_from m = numbered m.names m.next
