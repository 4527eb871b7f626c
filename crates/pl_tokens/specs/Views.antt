-- How tokens of the code stand for tokens of a text.
use Rattle.std.specs.Prelude.{ℕ, List, map}
use Rattle.text_model.specs.Tokens.{Lexeme, name, quoted, variable, integer, text_codes, punctuation, stop, Token as ModelToken}
use Rattle.pl_tokens.specs.declared.token.TokenKind.{TokenKind}
use Rattle.pl_tokens.specs.declared.token.TokenKind.TheVariants.{Name, Quoted, Var, Int, Codes, Punct, End}
use Rattle.pl_tokens.specs.declared.token.Token.{Token}

abbrev pub kind_view : TokenKind → Lexeme (List ℕ)
kind_view (Name s) = name s
kind_view (Quoted s) = quoted s
kind_view (Var s) = variable s
kind_view (Int n) = integer n
kind_view (Codes s) = text_codes s
kind_view (Punct c) = punctuation c
kind_view End = stop

abbrev pub token_view : Token → ModelToken (List ℕ)
token_view t = record { lexeme = kind_view t.kind; byte = t.byte; direct = t.direct }

abbrev pub tokens_view : List Token → List (ModelToken (List ℕ))
tokens_view = map token_view
