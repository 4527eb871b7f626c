-- How the answers of the code stand for what the definitions of tokens say.
use Rattle.std.specs.Prelude.{◌≡◌, ℕ, ◌<◌, ◌≤◌, ◌^◌, List, [], take, Option, Some, None, encode_utf8}
use Rattle.text_model.specs.Tokens.{Lexeme, integer, Found, found, fault, Piece, piece, ends, bad_here, cut_off, line_end, Quoted, whole, bad_escape, unclosed}
use Rattle.pl_tokens.specs.declared.quoted.Part.{Part}
use Rattle.pl_tokens.specs.declared.quoted.Part.TheVariants.{Same, Char, Nothing}
use Rattle.pl_tokens.specs.declared.quoted.ItemPiece.{ItemPiece}
use Rattle.pl_tokens.specs.declared.quoted.ItemPiece.TheVariants.{Text, Ends, Bad, CutOff, LineEnd}
use Rattle.pl_tokens.specs.declared.quoted.ItemBody.{ItemBody}
use Rattle.pl_tokens.specs.declared.quoted.ItemBody.TheVariants.{Whole, BadEscape, Unclosed}
use Rattle.pl_tokens.specs.declared.numeral.Number.{Number}
use Rattle.pl_tokens.specs.declared.numeral.Number.TheVariants.{Value, Wrong}
use Rattle.pl_tokens.specs.Views.{kind_view}
use Rattle.pl_tokens.specs.declared.lexer.Scanned.{Scanned}
use Rattle.pl_tokens.specs.declared.lexer.Scanned.TheVariants.{Seen, Fault}

-- a value that is kept only where it is at most 2 ^ 63
abbrev pub IsValue : ℕ → Option ℕ → Type 0
IsValue v None = 2 ^ 63 < v
IsValue v (Some n) = (n ≡ v) × (n ≤ 2 ^ 63)

abbrev pub part_bytes : Part → ℕ → List ℕ → List ℕ
part_bytes Same n bs = take n bs
part_bytes (Char c) n bs = encode_utf8 c
part_bytes Nothing n bs = []

abbrev pub piece_view : List ℕ → ItemPiece → Piece
piece_view bs (Text p n) = piece (part_bytes p n bs) n
piece_view bs (Ends n) = ends n
piece_view bs Bad = bad_here 0
piece_view bs CutOff = cut_off
piece_view bs LineEnd = line_end

abbrev pub PieceWithin : ItemPiece → ℕ → Type 0
PieceWithin (Text p n) len = (0 < n) × (n ≤ len)
PieceWithin (Ends n) len = (0 < n) × (n ≤ len)
PieceWithin Bad len = Unit {0}
PieceWithin CutOff len = Unit {0}
PieceWithin LineEnd len = Unit {0}

abbrev pub body_view : ItemBody → Quoted
body_view (Whole cs n) = whole cs n
body_view (BadEscape k) = bad_escape k
body_view (Unclosed by_end) = unclosed by_end

abbrev pub BodyWithin : ItemBody → ℕ → Type 0
BodyWithin (Whole cs n) len = (0 < n) × (n ≤ len)
BodyWithin (BadEscape k) len = k < len
BodyWithin (Unclosed by_end) len = Unit {0}

abbrev pub number_view : Number → Found (Lexeme (List ℕ))
number_view (Value n len) = found (integer n) len
number_view (Wrong n at) = fault n at

abbrev pub NumberWithin : Number → ℕ → Type 0
NumberWithin (Value n taken) len = (0 < taken) × (taken ≤ len)
NumberWithin (Wrong n at) len = (at ≤ len) × (n < 5)

abbrev pub scanned_view : Scanned → Found (Lexeme (List ℕ))
scanned_view (Seen k len) = found (kind_view k) len
scanned_view (Fault n at) = fault n at

abbrev pub ScannedWithin : Scanned → ℕ → Type 0
ScannedWithin (Seen k taken) len = (0 < taken) × (taken ≤ len)
ScannedWithin (Fault n at) len = (at ≤ len) × (n < 5)
