-- How the code's classification of tokens stands for that of the definition.
use Rattle.std.specs.Prelude.{◌≡◌, ℕ, List, [], Bool, true, false, Option, Some, None}
use Rattle.text_model.specs.Reading.{Move, Place, at_operand, at_operator}
use Rattle.text_model.specs.Tokens.{Lexeme, name, quoted, variable, integer, text_codes, punctuation, stop, Token as ModelToken}
use Rattle.pl_tokens.specs.declared.token.TokenKind.{TokenKind}
use Rattle.pl_tokens.specs.declared.token.TokenKind.TheVariants.{Name, Quoted, Var, Int, Codes, Punct, End}
use Rattle.pl_tokens.specs.declared.token.Token.{Token}
use Rattle.pl_reader.specs.Standing.{ItemIs}
use Rattle.pl_reader.specs.Stands.{id}
use Rattle.pl_reader.specs.declared.classes.Symbol.{Symbol}
use Rattle.pl_reader.specs.declared.classes.Symbol.TheVariants.{Word, QuotedWord, Variable, Number, CodeText, Mark, Stop}
use Rattle.pl_reader.specs.declared.classes.ItemMove.{ItemMove}

abbrev pub place_of : Bool → Place
place_of true = at_operand
place_of false = at_operator

abbrev pub MoveIs : (List ℕ → ℕ) → Option ItemMove → Option Move → Type 0
MoveIs num None None = Unit {0}
MoveIs num (Some x) (Some m) = ItemIs num x.item m.item × (x.more ≡ m.more) × (place_of x.to_operand ≡ m.place)
MoveIs num None (Some m) = ⊥
MoveIs num (Some x) None = ⊥

-- a token that is looked at from before it
abbrev pub KindIs : TokenKind → Lexeme ℕ → Type 0
KindIs (Name r) (name s) = r ≡ s
KindIs (Quoted r) (quoted s) = r ≡ s
KindIs (Var r) (variable n) = Unit {0}
KindIs (Int m) (integer n) = m ≡ n
KindIs (Codes r) (text_codes s) = r ≡ s
KindIs (Punct c) (punctuation d) = c ≡ d
KindIs End stop = Unit {0}
KindIs _ _ = ⊥

pub record TokenIs (t : Token) (u : ModelToken ℕ) : Type 0 where
  pub kind_is : KindIs t.kind u.lexeme
  pub direct_is : t.direct ≡ u.direct

-- the text of a token, where it has one
abbrev pub kind_text : TokenKind → List ℕ
kind_text (Name s) = s
kind_text (Quoted s) = s
kind_text (Var s) = s
kind_text (Int n) = []
kind_text (Codes s) = s
kind_text (Punct c) = []
kind_text End = []

-- a token with its text, and with numbers for names and variables
abbrev pub SymbolIs : (List ℕ → ℕ) → Symbol → List ℕ → Lexeme ℕ → Type 0
SymbolIs num (Word n) text (name s) = (n ≡ id num s) × (text ≡ s)
SymbolIs num (QuotedWord n) text (quoted s) = (n ≡ id num s) × (text ≡ s)
SymbolIs num (Variable k) text (variable n) = k ≡ n
SymbolIs num (Number k) text (integer n) = k ≡ n
SymbolIs num CodeText text (text_codes s) = text ≡ s
SymbolIs num (Mark c) text (punctuation d) = c ≡ d
SymbolIs num Stop text stop = Unit {0}
SymbolIs num _ text _ = ⊥

abbrev pub IsNoCodeText : Symbol → Type 0
IsNoCodeText CodeText = ⊥
IsNoCodeText _ = Unit {0}
