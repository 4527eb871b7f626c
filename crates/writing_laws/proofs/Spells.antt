-- Pieces of written terms with the tokens that they are.
use Rattle.std.proofs.Common.{◌≡◌, ℕ, suc, ◌+◌, ◌<◌, ◌^◌, List, [], ◌∷◌, ◌++◌, length, Bool, true, false, ◌&&◌, ◌||◌, if◌then◌else◌, refl, nat_eq, nat_lt}
use Rattle.std.specs.Prelude.{codes, IsUtf8}
use Rattle.std.specs.Fmt.{decimal}
use Rattle.std.specs.List.{list_all, flat_map}
use Rattle.pl_ops.specs.Tables.{same_text}
use Rattle.text_model.specs.Tokens.{Lexeme, name, quoted, integer, punctuation, Token, is_lower, is_alnum, is_symbol, head_of, starts}
use Rattle.text_model.specs.Writing.{Piece, escaped, is_parted}
use Rattle.text_model.specs.declared.Role.{Role}
use Rattle.text_model.specs.declared.Role.TheVariants.{Ordinary as ordinary}

pub data Spell : Type 0 where
  word : Role → List ℕ → Spell
  in_quotes : Role → List ℕ → Spell
  number : ℕ → Spell
  negative_number : ℕ → Spell
  sign : ℕ → Spell
  square_pair : Spell
  curly_pair : Spell

abbrev pub quoted_text : List ℕ → List ℕ
quoted_text s = 39 ∷ (flat_map escaped s ++ 39 ∷ [])

abbrev pub text_in : Spell → List ℕ
text_in (word r s) = s
text_in (in_quotes r s) = quoted_text s
text_in (number n) = decimal n
text_in (negative_number n) = 45 ∷ decimal (suc n)
text_in (sign c) = c ∷ []
text_in square_pair = 91 ∷ 93 ∷ []
text_in curly_pair = 123 ∷ 125 ∷ []

abbrev pub role_in : Spell → Role
role_in (word r s) = r
role_in (in_quotes r s) = r
role_in (number n) = ordinary
role_in (negative_number n) = ordinary
role_in (sign c) = ordinary
role_in square_pair = ordinary
role_in curly_pair = ordinary

abbrev pub piece_in : Spell → Piece
piece_in u = record { text = text_in u; role = role_in u }

abbrev pub pieces_in : List Spell → List Piece
pieces_in [] = []
pieces_in (u ∷ us) = piece_in u ∷ pieces_in us

abbrev pub at_byte : {V : Type 0} → Lexeme V → ℕ → Bool → Token V
at_byte l at direct = record { lexeme = l; byte = at; direct = direct }

-- the tokens of a piece, before others
abbrev pub tokens_in : {V : Type 0} → Spell → ℕ → Bool → List (Token V) → List (Token V)
tokens_in (word r s) at direct ts = at_byte (name s) at direct ∷ ts
tokens_in (in_quotes r s) at direct ts = at_byte (quoted s) at direct ∷ ts
tokens_in (number n) at direct ts = at_byte (integer n) at direct ∷ ts
tokens_in (negative_number n) at direct ts = at_byte (name (45 ∷ [])) at direct ∷ at_byte (integer (suc n)) (at + 1) true ∷ ts
tokens_in (sign c) at direct ts = at_byte (punctuation c) at direct ∷ ts
tokens_in square_pair at direct ts = at_byte (punctuation 91) at direct ∷ at_byte (punctuation 93) (at + 1) true ∷ ts
tokens_in curly_pair at direct ts = at_byte (punctuation 123) at direct ∷ at_byte (punctuation 125) (at + 1) true ∷ ts

abbrev pub gap : Spell → Spell → ℕ
gap u v = if is_parted (piece_in u) (piece_in v) then 1 else 0

abbrev pub follows_directly : Spell → Spell → Bool
follows_directly u v = if is_parted (piece_in u) (piece_in v) then false else true

-- the tokens of what follows a piece, which ended before a byte
abbrev pub tokens_after : {V : Type 0} → ℕ → Spell → List Spell → List (Token V)
tokens_after at u [] = []
tokens_after at u (v ∷ vs) = tokens_in v (at + gap u v) (follows_directly u v) (tokens_after (at + gap u v + length (text_in v)) v vs)

abbrev pub tokens_from : {V : Type 0} → ℕ → Bool → List Spell → List (Token V)
tokens_from at direct [] = []
tokens_from at direct (v ∷ vs) = tokens_in v at direct (tokens_after (at + length (text_in v)) v vs)

abbrev pub gap_to : Spell → List Spell → ℕ
gap_to u [] = 0
gap_to u (v ∷ vs) = gap u v

abbrev pub directly_to : Spell → List Spell → Bool
directly_to u [] = false
directly_to u (v ∷ vs) = follows_directly u v

pub after-from : {V : Type 0} (at : ℕ) (u : Spell) (vs : List Spell) → tokens_after {V = V} at u vs ≡ tokens_from {V = V} (at + gap_to u vs) (directly_to u vs) vs
after-from at u [] = refl
after-from at u (v ∷ vs) = refl

-- ---- what may follow a term

abbrev pub is_closing_code : ℕ → Bool
is_closing_code d = nat_eq d 41 || (nat_eq d 93 || (nat_eq d 125 || (nat_eq d 44 || nat_eq d 124)))

-- a spell that closes
abbrev pub closes_at : Spell → Bool
closes_at (sign c) = is_closing_code c
closes_at _ = false

-- a spell that, directly after a name, makes something else of it
abbrev pub clings : Spell → Bool
clings (sign c) = nat_eq c 40
clings (number n) = true
clings _ = false

abbrev pub first_closes : List Spell → Bool
first_closes [] = true
first_closes (v ∷ vs) = closes_at v

abbrev pub first_clings : List Spell → Bool
first_clings [] = false
first_clings (v ∷ vs) = clings v

-- what follows a term, as an operand or not
abbrev pub Follows : Bool → List Spell → Type 0
Follows true vs = first_clings vs ≡ false
Follows false vs = first_closes vs ≡ true

-- what a term begins with
abbrev pub first_begins : List Spell → Bool
first_begins [] = false
first_begins (v ∷ vs) = if closes_at v then false else true

-- an integer is followed by no quote and no full stop
abbrev pub is_numeric : Spell → Bool
is_numeric (number n) = true
is_numeric (negative_number n) = true
is_numeric _ = false

abbrev pub is_apart : Spell → Bool
is_apart v = if nat_eq (head_of (text_in v)) 39 || nat_eq (head_of (text_in v)) 46 then false else true

abbrev pub Safe : Spell → List Spell → Type 0
Safe u [] = Unit {0}
Safe u (v ∷ vs) = ((is_numeric u ≡ true) → is_apart v ≡ true) × Safe v vs

-- ---- which spells there are

abbrev pub is_word : List ℕ → Bool
is_word s =
    (is_lower (head_of s) && list_all is_alnum s)
    || ((nat_lt 0 (length s) && (list_all is_symbol s && ((if starts 47 42 s then false else true) && (if same_text s (codes ".") then false else true))))
    || (same_text s (codes "!") || same_text s (codes ";")))

abbrev pub is_sign_code : ℕ → Bool
is_sign_code c = nat_eq c 40 || (nat_eq c 91 || (nat_eq c 123 || is_closing_code c))

abbrev pub IsSpell : Spell → Type 0
IsSpell (word r s) = is_word s ≡ true
IsSpell (in_quotes r s) = IsUtf8 s
IsSpell (number n) = n < 2 ^ 63
IsSpell (negative_number n) = n < 2 ^ 63
IsSpell (sign c) = is_sign_code c ≡ true
IsSpell square_pair = Unit {0}
IsSpell curly_pair = Unit {0}

abbrev pub AreSpells : List Spell → Type 0
AreSpells [] = Unit {0}
AreSpells (u ∷ us) = IsSpell u × AreSpells us
