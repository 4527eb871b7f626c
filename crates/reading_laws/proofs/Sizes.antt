-- How many bytes tokens take, and how long their names are.
use Rattle.std.proofs.Common.{◌≡◌, ℕ, zero, suc, ◌+◌, ◌-◌, ◌*◌, ◌≤◌, ◌<◌, ◌^◌, List, [], ◌∷◌, length, drop, take, Bool, true, false, ◌&&◌, ◌||◌, nat_eq, nat_lt, nat_le, if◌then◌else◌, Option, Some, None, refl, ap, ◌∙◌, arith, encode_utf8, length-append, length-drop, length-take}
use Rattle.std.proofs.lemmas.Bool.{ltb-true, eqb-true, leb-true, lt-ltb}
use Rattle.std.proofs.lemmas.Str.{length-encode}
use Rattle.std.specs.Char.{len_utf8}
use Rattle.std.specs.Str.{chars}
use Rattle.std.specs.List.{take_while, prefix_len}
use Rattle.text_model.specs.Tokens.{Lexeme, name, quoted, variable, integer, text_codes, punctuation, stop, Found, found, fault, integer_of, based, decimal, digits_of, value_after, starts, Piece, piece, ends, bad_here, cut_off, line_end, letter_code, is_scalar, numbered, escape, plain, char_len, piece_at, Quoted, whole, bad_escape, unclosed, after_piece, body, at_mark, item_of, quoted_item, literal_of, char_literal, number_at, other_token_at, token_at, is_end, Skipped, skipped, bad_comment, skip, Next, token, no_token, nothing, shifted, next_after, next_token, Placed, placed, bad_at, none_left, put_at, placed_at, is_alnum, is_symbol, is_digit_of, is_digit, is_lower, is_upper, is_punctuation, head_of}
use Rattle.pl_tokens.proofs.Encoded.{both-left, both-right}
use Rattle.pl_tokens.proofs.Fronts.{front_some}
use Rattle.pl_tokens.proofs.Sound.{pick}

-- the length of a token's name, where it has one
abbrev pub name_length : Lexeme (List ℕ) → ℕ
name_length (name s) = length s
name_length (quoted s) = length s
name_length (variable s) = 0
name_length (integer n) = 0
name_length (text_codes s) = 0
name_length (punctuation c) = 0
name_length stop = 0

-- fronts of bytes
nonempty : (bs : List ℕ) (c : ℕ) → c < 256 → nat_eq (head_of bs) c ≡ true → 0 < length bs
nonempty [] c h e = absurd (omega (arith, eqb-true 256 c e))
nonempty (b ∷ bs) c h e = omega arith

inside : (n : ℕ) (bs : List ℕ) (c : ℕ) → c < 256 → nat_eq (head_of (drop n bs)) c ≡ true → n < length bs
inside n bs c h e = omega (arith, nonempty (drop n bs) c h e, length-drop n bs)

two : (a b : ℕ) (bs : List ℕ) → b < 256 → starts a b bs ≡ true → 2 ≤ length bs
two a b bs h e = omega (arith, inside 1 bs b h (both-right (nat_eq (head_of bs) a) _ e))

front_le : (p : ℕ → Bool) (xs : List ℕ) → length (take_while p xs) ≤ length xs
front_le p xs = omega (arith, length-take (prefix_len p xs) xs)

-- characters
few_bytes : (c : ℕ) → len_utf8 c ≤ 4
few_bytes c =
    let P : ℕ → Type 0 = λ n. n ≤ 4 in
    pick P (nat_lt c 0x80) 1 _ (λ _. omega arith) (λ _.
    pick P (nat_lt c 0x800) 2 _ (λ _. omega arith) (λ _.
    pick P (nat_lt c 0x1_0000) 3 4 (λ _. omega arith) (λ _. omega arith)))

short : (c : ℕ) → length (encode_utf8 c) ≤ 4
short c = omega (arith, length-encode c, few_bytes c)

some_byte : (b : ℕ) → 0 < char_len b
some_byte b =
    let P : ℕ → Type 0 = λ n. 0 < n in
    pick P (nat_lt b 128) 1 _ (λ _. omega arith) (λ _.
    pick P (nat_lt b 224) 2 _ (λ _. omega arith) (λ _.
    pick P (nat_lt b 240) 3 4 (λ _. omega arith) (λ _. omega arith)))

-- what is found takes some of the bytes, and its name has at most four bytes for each
abbrev pub FitsFound : List ℕ → Found (Lexeme (List ℕ)) → Type 0
FitsFound bs (found l n) = (0 < n) × (n ≤ length bs) × (name_length l ≤ 4 * n)
FitsFound bs (fault n k) = Unit {0}

pub record IsSized (bs : List ℕ) (f : Found (Lexeme (List ℕ))) : Type 0 where
  pub holds : FitsFound bs f

sized : (bs : List ℕ) (l : Lexeme (List ℕ)) (n : ℕ) → 0 < n → n ≤ length bs → name_length l ≤ 4 * n → IsSized bs (found l n)
sized bs l n h k m = record { holds = (h, k, m) }

wrong : (bs : List ℕ) (n k : ℕ) → IsSized bs (fault n k)
wrong bs n k = record { holds = tt }

-- numerals
integer-sized : (bs : List ℕ) (minus : Bool) (n len : ℕ) → 0 < len → len ≤ length bs → IsSized bs (integer_of minus n len)
integer-sized bs minus n len h k =
    pick (IsSized bs) (nat_lt n (2 ^ 63) || (minus && nat_eq n (2 ^ 63))) (found (integer n) len) (fault 3 0) (λ _. sized bs (integer n) len h k (omega arith)) (λ _. wrong bs 3 0)

based-sized : (minus : Bool) (base : ℕ) (bs : List ℕ) → 2 ≤ length bs → IsSized bs (based minus base bs)
based-sized minus base bs h =
    let digits = digits_of base (drop 2 bs) in
    integer-sized bs minus (value_after base 0 digits) (2 + length digits) (omega arith) (omega (arith, front_le (is_digit_of base) (drop 2 bs), length-drop 2 bs))

decimal_digit : (b : ℕ) → is_digit b ≡ true → is_digit_of 10 b ≡ true
decimal_digit b h =
    ap (λ t. (t || ((nat_le 97 b && nat_le b 102) || (nat_le 65 b && nat_le b 70))) && nat_lt (if t then b - 48 else if nat_le 97 b then b - 87 else b - 55) 10) h
    ∙ lt-ltb (b - 48) 10 (omega (arith, leb-true b 57 (both-right (nat_le 48 b) _ h)))

decimal-sized : (minus : Bool) (bs : List ℕ) → 0 < length bs → is_digit (head_of bs) ≡ true → IsSized bs (decimal minus bs)
decimal-sized minus bs some d =
    let len = length (digits_of 10 bs) in
    pick (IsSized bs) (nat_eq (head_of (drop len bs)) 46 && is_digit (head_of (drop 1 (drop len bs)))) (fault 4 0) (integer_of minus (value_after 10 0 (digits_of 10 bs)) len)
    (λ _. wrong bs 4 0)
    (λ _. integer-sized bs minus (value_after 10 0 (digits_of 10 bs)) len (front_some (is_digit_of 10) bs some (decimal_digit (head_of bs) d)) (front_le (is_digit_of 10) bs))

-- pieces of quoted items
abbrev FitsPiece : List ℕ → Piece → Type 0
FitsPiece bs (piece cs n) = (0 < n) × (n ≤ length bs) × (length cs ≤ 4 * n)
FitsPiece bs (ends n) = (0 < n) × (n ≤ length bs)
FitsPiece bs (bad_here k) = Unit {0}
FitsPiece bs cut_off = Unit {0}
FitsPiece bs line_end = Unit {0}

record IsSizedPiece (bs : List ℕ) (p : Piece) : Type 0 where
  pub holds : FitsPiece bs p

a_piece : (bs cs : List ℕ) (n : ℕ) → 0 < n → n ≤ length bs → length cs ≤ 4 * n → IsSizedPiece bs (piece cs n)
a_piece bs cs n h k m = record { holds = (h, k, m) }

numbered-sized : (base before : ℕ) (rest bs : List ℕ) → 0 < before → before + length rest ≤ length bs → IsSizedPiece bs (numbered base before rest)
numbered-sized base before rest bs some within =
    let digits = digits_of base rest in
    let len = length digits in
    let n = value_after base 0 digits in
    pick (IsSizedPiece bs) (nat_lt 0 len && (nat_eq (head_of (drop len rest)) 92 && is_scalar n)) (piece (encode_utf8 n) (before + len + 1)) (bad_here 0)
    (λ t.
    let closed : nat_eq (head_of (drop len rest)) 92 ≡ true = both-left _ (is_scalar n) (both-right (nat_lt 0 len) _ t) in
    a_piece bs (encode_utf8 n) (before + len + 1) (omega arith) (omega (arith, inside len rest 92 (omega arith) closed)) (omega (arith, short n)))
    (λ _. record { holds = tt })

letter-sized : (bs : List ℕ) (o : Option ℕ) (q : Piece) → 2 ≤ length bs → IsSizedPiece bs q → IsSizedPiece bs (elim o [ Some n ↦ piece (n ∷ []) 2 | None ↦ q ])
letter-sized bs None q h s = s
letter-sized bs (Some n) q h s = a_piece bs (n ∷ []) 2 (omega arith) h (omega arith)

escape-sized : (b : ℕ) (bs : List ℕ) → IsSizedPiece (b ∷ bs) (escape true bs)
escape-sized b [] = record { holds = tt }
escape-sized b (c ∷ bs) =
    let all = b ∷ c ∷ bs in
    let P : Piece → Type 0 = IsSizedPiece all in
    letter-sized all (letter_code c) _ (omega arith) (
    pick P (nat_eq c 10) (piece [] 2) _ (λ _. a_piece all [] 2 (omega arith) (omega arith) (omega arith)) (λ _.
    pick P (nat_eq c 120) (numbered 16 2 bs) (numbered 8 1 (c ∷ bs)) (λ _. numbered-sized 16 2 bs all (omega arith) (omega arith)) (λ _. numbered-sized 8 1 (c ∷ bs) all (omega arith) (omega arith))))

plain-sized : (b : ℕ) (bs : List ℕ) → IsSizedPiece (b ∷ bs) (plain (take (char_len b) (b ∷ bs)))
plain-sized b bs =
    let cs = take (char_len b) (b ∷ bs) in
    a_piece (b ∷ bs) cs (length cs) (omega (arith, length-take (char_len b) (b ∷ bs), some_byte b)) (omega (arith, length-take (char_len b) (b ∷ bs))) (omega arith)

piece_at-sized : (q : ℕ) (bs : List ℕ) → q < 256 → IsSizedPiece bs (piece_at q bs)
piece_at-sized q [] h = record { holds = tt }
piece_at-sized q (b ∷ bs) h =
    let P : Piece → Type 0 = IsSizedPiece (b ∷ bs) in
    pick P (nat_eq b q) _ _
    (λ _. pick P (nat_eq (head_of bs) q) (piece (q ∷ []) 2) (ends 1) (λ t. a_piece (b ∷ bs) (q ∷ []) 2 (omega arith) (omega (arith, nonempty bs q h t)) (omega arith)) (λ _. record { holds = (omega arith, omega arith) }))
    (λ _. pick P (nat_eq b 92) (escape true bs) _ (λ _. escape-sized b bs) (λ _.
    pick P (nat_eq b 10) line_end (plain (take (char_len b) (b ∷ bs))) (λ _. record { holds = tt }) (λ _. plain-sized b bs)))

-- quoted items
abbrev FitsItem : List ℕ → Quoted → Type 0
FitsItem bs (whole cs n) = (0 < n) × (n ≤ length bs) × (length cs ≤ 4 * n)
FitsItem bs (bad_escape k) = Unit {0}
FitsItem bs (unclosed by_end) = Unit {0}

record IsSizedItem (bs : List ℕ) (r : Quoted) : Type 0 where
  pub holds : FitsItem bs r

after-sized : (bs cs : List ℕ) (n : ℕ) (r : Quoted) → n ≤ length bs → length cs ≤ 4 * n → IsSizedItem (drop n bs) r → IsSizedItem bs (after_piece cs n r)
after-sized bs cs n (whole ds k) h m s =
    record { holds = (omega (arith, s.holds.0), omega (arith, s.holds.0, s.holds.1, length-drop n bs), omega (arith, s.holds.2, length-append cs ds)) }
after-sized bs cs n (bad_escape k) h m s = record { holds = tt }
after-sized bs cs n (unclosed by_end) h m s = record { holds = tt }

abbrev after_turn : Piece → ℕ → ℕ → List ℕ → Quoted
after_turn p turns q bs = elim p [
  | piece cs n ↦ after_piece cs n (body turns q (drop n bs))
  | ends n ↦ whole [] n
  | bad_here k ↦ bad_escape k
  | cut_off ↦ unclosed true
  | line_end ↦ unclosed false
]

turn-sized : (turns q : ℕ) (bs : List ℕ) (p : Piece) → IsSizedPiece bs p → ((n : ℕ) → IsSizedItem (drop n bs) (body turns q (drop n bs))) → IsSizedItem bs (after_turn p turns q bs)
turn-sized turns q bs (piece cs n) s more = after-sized bs cs n (body turns q (drop n bs)) s.holds.1 s.holds.2 (more n)
turn-sized turns q bs (ends n) s more = record { holds = (s.holds.0, s.holds.1, omega arith) }
turn-sized turns q bs (bad_here k) s more = record { holds = tt }
turn-sized turns q bs cut_off s more = record { holds = tt }
turn-sized turns q bs line_end s more = record { holds = tt }

body-sized : (turns q : ℕ) (bs : List ℕ) → q < 256 → IsSizedItem bs (body turns q bs)
unfolding body
body-sized zero q bs h = record { holds = tt }
body-sized (suc turns) q bs h = turn-sized turns q bs (piece_at q bs) (piece_at-sized q bs h) (λ n. body-sized turns q (drop n bs) h)

item-sized : (marked : Bool) (bs : List ℕ) (make : List ℕ → Lexeme (List ℕ)) → ((cs : List ℕ) → name_length (make cs) ≤ length cs) → (r : Quoted) → 0 < length bs → IsSizedItem (drop 1 bs) r → IsSized bs (item_of marked bs make r)
item-sized marked bs make made (whole cs n) some h =
    sized bs (make cs) (suc n) (omega arith) (omega (arith, h.holds.1, length-drop 1 bs)) (omega (arith, made cs, h.holds.2))
item-sized marked bs make made (bad_escape k) some h = wrong bs 2 (suc k)
item-sized marked bs make made (unclosed by_end) some h =
    pick (IsSized bs) by_end (at_mark marked (length bs) (fault 2 0)) (fault 2 0)
    (λ _. pick (IsSized bs) marked (fault 1 (length bs)) (fault 2 0) (λ _. wrong bs 1 (length bs)) (λ _. wrong bs 2 0))
    (λ _. wrong bs 2 0)

quoted_item-sized : (marked : Bool) (bs : List ℕ) (make : List ℕ → Lexeme (List ℕ)) → ((cs : List ℕ) → name_length (make cs) ≤ length cs) → head_of bs < 256 → 0 < length bs → IsSized bs (quoted_item marked make bs)
quoted_item-sized marked bs make made low some =
    item-sized marked bs make made (body (length bs) (head_of bs) (drop 1 bs)) some (body-sized (length bs) (head_of bs) (drop 1 bs) low)

literal-sized : (bs : List ℕ) (p : Piece) → IsSizedPiece (drop 2 bs) p → IsSized bs (literal_of p)
literal-sized bs (piece cs n) s = sized bs (integer (head_of (chars cs))) (2 + n) (omega arith) (omega (arith, s.holds.0, s.holds.1, length-drop 2 bs)) (omega arith)
literal-sized bs (ends n) s = wrong bs 2 0
literal-sized bs (bad_here k) s = wrong bs 2 (2 + k)
literal-sized bs cut_off s = wrong bs 2 0
literal-sized bs line_end s = wrong bs 2 0

char_literal-sized : (bs : List ℕ) → IsSized bs (char_literal bs)
char_literal-sized bs =
    pick (IsSized bs) (starts 92 10 (drop 2 bs)) (fault 2 2) (literal_of (piece_at 39 (drop 2 bs)))
    (λ _. wrong bs 2 2)
    (λ _. literal-sized bs (piece_at 39 (drop 2 bs)) (piece_at-sized 39 (drop 2 bs) (omega arith)))

-- tokens
number_at-sized : (minus : Bool) (bs : List ℕ) → 0 < length bs → is_digit (head_of bs) ≡ true → IsSized bs (number_at minus bs)
number_at-sized minus bs some d =
    let P : Found (Lexeme (List ℕ)) → Type 0 = IsSized bs in
    pick P (starts 48 39 bs) _ _ (λ _. char_literal-sized bs) (λ _.
    pick P (starts 48 120 bs && is_digit_of 16 (head_of (drop 2 bs))) _ _ (λ t. based-sized minus 16 bs (two 48 120 bs (omega arith) (both-left _ _ t))) (λ _.
    pick P (starts 48 111 bs && is_digit_of 8 (head_of (drop 2 bs))) _ _ (λ t. based-sized minus 8 bs (two 48 111 bs (omega arith) (both-left _ _ t))) (λ _.
    pick P (starts 48 98 bs && is_digit_of 2 (head_of (drop 2 bs))) _ _ (λ t. based-sized minus 2 bs (two 48 98 bs (omega arith) (both-left _ _ t))) (λ _.
    decimal-sized minus bs some d))))

other_token_at-sized : (marked : Bool) (bs : List ℕ) → 0 < length bs → IsSized bs (other_token_at marked bs)
other_token_at-sized marked bs some =
    let b : ℕ = head_of bs in
    let w : List ℕ = take_while is_symbol bs in
    let P : Found (Lexeme (List ℕ)) → Type 0 = IsSized bs in
    pick P (is_punctuation b) (found (punctuation b) 1) _ (λ _. sized bs (punctuation b) 1 (omega arith) (omega arith) (omega arith)) (λ _.
    pick P (nat_eq b 33 || nat_eq b 59) (found (name (b ∷ [])) 1) _ (λ _. sized bs (name (b ∷ [])) 1 (omega arith) (omega arith) (omega arith)) (λ _.
    pick P (is_end marked bs) (found stop 1) _ (λ _. sized bs stop 1 (omega arith) (omega arith) (omega arith)) (λ _.
    pick P (is_symbol b) (found (name w) (length w)) (fault 2 0) (λ t. sized bs (name w) (length w) (front_some is_symbol bs some t) (front_le is_symbol bs) (omega arith)) (λ _.
    wrong bs 2 0))))

lower-alnum : (b : ℕ) → is_lower b ≡ true → is_alnum b ≡ true
lower-alnum b h = ap (λ t. t || (is_upper b || is_digit b)) h

upper-alnum : (b : ℕ) → is_upper b ≡ true → is_alnum b ≡ true
upper-alnum b h = ap (λ t. is_lower b || (t || is_digit b)) h ∙ either (is_lower b)
  where
    either : (t : Bool) → (t || true) ≡ true
    either true = refl
    either false = refl

pub token_at-sized : (marked minus : Bool) (bs : List ℕ) → 0 < length bs → IsSized bs (token_at marked minus bs)
token_at-sized marked minus bs some =
    let b : ℕ = head_of bs in
    let w : List ℕ = take_while is_alnum bs in
    let P : Found (Lexeme (List ℕ)) → Type 0 = IsSized bs in
    pick P (is_lower b) (found (name w) (length w)) _ (λ t. sized bs (name w) (length w) (front_some is_alnum bs some (lower-alnum b t)) (front_le is_alnum bs) (omega arith)) (λ _.
    pick P (is_upper b) (found (variable w) (length w)) _ (λ t. sized bs (variable w) (length w) (front_some is_alnum bs some (upper-alnum b t)) (front_le is_alnum bs) (omega arith)) (λ _.
    pick P (is_digit b) (number_at minus bs) _ (λ t. number_at-sized minus bs some t) (λ _.
    pick P (nat_eq b 39) (quoted_item marked quoted bs) _ (λ t. quoted_item-sized marked bs quoted (λ cs. omega arith) (omega (arith, eqb-true b 39 t)) some) (λ _.
    pick P (nat_eq b 34) (quoted_item marked text_codes bs) (other_token_at marked bs) (λ t. quoted_item-sized marked bs text_codes (λ cs. omega arith) (omega (arith, eqb-true b 34 t)) some) (λ _.
    other_token_at-sized marked bs some)))))

-- the token after a place
abbrev FitsNext : List ℕ → Next → Type 0
FitsNext bs (token l k len) = (0 < len) × (k + len ≤ length bs) × (name_length l ≤ 4 * length bs)
FitsNext bs (no_token n k) = Unit {0}
FitsNext bs nothing = Unit {0}

record IsSizedNext (bs : List ℕ) (n : Next) : Type 0 where
  pub holds : FitsNext bs n

shifted-sized : (k : ℕ) (bs : List ℕ) (f : Found (Lexeme (List ℕ))) → IsSized (drop k bs) f → IsSizedNext bs (shifted k f)
shifted-sized k bs (found l n) h =
    record { holds = (h.holds.0, omega (arith, h.holds.0, h.holds.1, length-drop k bs), omega (arith, h.holds.1, h.holds.2, length-drop k bs)) }
shifted-sized k bs (fault n at) h = record { holds = tt }

next-sized : (marked minus : Bool) (bs : List ℕ) (s : Skipped) → IsSizedNext bs (next_after marked minus bs s)
next-sized marked minus bs (skipped k) =
    pick (IsSizedNext bs) (nat_lt k (length bs)) (shifted k (token_at marked (minus && nat_eq k 0) (drop k bs))) (if marked then no_token 1 k else nothing)
    (λ t. shifted-sized k bs (token_at marked (minus && nat_eq k 0) (drop k bs)) (token_at-sized marked (minus && nat_eq k 0) (drop k bs) (omega (arith, ltb-true k (length bs) t, length-drop k bs))))
    (λ _. pick (IsSizedNext bs) marked (no_token 1 k) nothing (λ _. record { holds = tt }) (λ _. record { holds = tt }))
next-sized marked minus bs (bad_comment k) =
    pick (IsSizedNext bs) marked (no_token 1 (length bs)) (no_token 2 k) (λ _. record { holds = tt }) (λ _. record { holds = tt })

abbrev pub FitsPlaced : ℕ → List ℕ → Placed → Type 0
FitsPlaced at valid (placed t next) = (at ≤ t.byte) × (t.byte < next) × (next ≤ length valid) × (name_length t.lexeme ≤ 4 * length valid)
FitsPlaced at valid (bad_at n byte) = Unit {0}
FitsPlaced at valid none_left = Unit {0}

put-sized : (valid : List ℕ) (at : ℕ) (direct : Bool) (n : Next) → IsSizedNext (drop at valid) n → FitsPlaced at valid (put_at at direct n)
put-sized valid at direct (token l k len) h =
    (omega arith, omega (arith, h.holds.0), omega (arith, h.holds.0, h.holds.1, length-drop at valid), omega (arith, h.holds.2, length-drop at valid))
put-sized valid at direct (no_token n k) h = tt
put-sized valid at direct nothing h = tt

-- a token begins at the place or later and takes bytes of the text
pub placed_at-sized : (valid : List ℕ) (marked : Bool) (at : ℕ) (direct minus : Bool) → FitsPlaced at valid (placed_at marked at direct minus valid)
placed_at-sized valid marked at direct minus =
    let bs = drop at valid in
    put-sized valid at direct (next_token marked minus bs) (next-sized marked minus bs (skip (length bs) bs))
