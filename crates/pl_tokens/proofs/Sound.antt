-- What the definition of tokens keeps on UTF-8.
use Rattle.std.proofs.Common.{◌≡◌, ℕ, zero, suc, ◌+◌, ◌≤◌, ◌<◌, ◌^◌, List, [], ◌∷◌, length, drop, take, Bool, true, false, cond, ◌&&◌, ◌||◌, nat_eq, nat_lt, nat_le, if◌then◌else◌, Option, Some, None, refl, sym, ap, ◌∙◌, arith, subst, encode_utf8, append-nil, get_or}
use Rattle.std.proofs.Math.Logic.{⊎_elim}
use Rattle.std.proofs.lemmas.Bool.{cases_lt, ltb-true, eqb-true}
use Rattle.std.proofs.lemmas.Grind.{common_steps}
use Rattle.std.proofs.lemmas.Str.{IsUtf8-drop, IsUtf8-nil, IsUtf8-append, IsUtf8-from_ascii, IsCharBoundary-after_ascii, IsCharBoundary-before_ascii}
use Rattle.std.proofs.Math.Utf8.{scalar}
use Rattle.std.specs.Str.{IsUtf8, IsAscii, IsCharBoundary, chars}
use Rattle.std.specs.Option.{option_map}
use Rattle.std.specs.List.{take_while, list_all}
use Rattle.text_model.specs.Tokens.{Lexeme, integer, Found, found, fault, integer_of, based, decimal, digits_of, value_after, starts, Piece, piece, ends, bad_here, cut_off, line_end, letter_code, is_scalar, numbered, escape, plain, char_len, piece_at, Quoted, whole, bad_escape, unclosed, after_piece, body, at_mark, item_of, quoted_item, literal_of, char_literal, number_at, other_token_at, token_at, is_end, name, quoted, variable, text_codes, punctuation, stop, Step, layout, unfinished, no_layout, layout_step, line_len, block_len, block_step, is_layout, Skipped, skipped, bad_comment, over, skip, Next, token, no_token, nothing, shifted, next_after, next_token, Token, Placed, placed, bad_at, none_left, put_at, placed_at, is_alnum, is_symbol, is_one_of, is_digit_of, is_digit, is_lower, is_upper, is_punctuation, head_of}
use Rattle.pl_tokens.specs.Facts.{IsLexeme}
use Rattle.pl_tokens.proofs.Encoded.{PassesAscii, after_one, front_of, both-left, both-right, front_ascii, after_front, first_bounded, FirstCut, first_cut}

-- classes of ASCII
low : (n b : ℕ) → n < 128 → 128 ≤ b → nat_le b n ≡ false
low n b h k = grind (arith, common_steps)

both-no : (x : Bool) → (x && false) ≡ false
both-no true = refl
both-no false = refl

not_between : (m n b : ℕ) → n < 128 → 128 ≤ b → (nat_le m b && nat_le b n) ≡ false
not_between m n b h k = ap (λ t. nat_le m b && t) (low n b h k) ∙ both-no (nat_le m b)

not_equal : (n b : ℕ) → n < 128 → 128 ≤ b → nat_eq b n ≡ false
not_equal n b h k = grind (arith, common_steps)

not_alnum : (b : ℕ) → 128 ≤ b → is_alnum b ≡ false
not_alnum b k =
    let lower : is_lower b ≡ false = not_between 97 122 b (omega arith) k in
    let upper : (nat_le 65 b && nat_le b 90) ≡ false = not_between 65 90 b (omega arith) k in
    let line : nat_eq b 95 ≡ false = not_equal 95 b (omega arith) k in
    let digit : is_digit b ≡ false = not_between 48 57 b (omega arith) k in
    rw lower (rw upper (rw line (rw digit refl)))

not_layout : (b : ℕ) → 128 ≤ b → is_layout b ≡ false
not_layout b k =
    let space : nat_eq b 32 ≡ false = not_equal 32 b (omega arith) k in
    let others : (nat_le 9 b && nat_le b 13) ≡ false = not_between 9 13 b (omega arith) k in
    rw space (rw others refl)

pub alnum_ascii : PassesAscii is_alnum
alnum_ascii b h = ⊎_elim (λ l. l) (λ k. absurd (let n : is_alnum b ≡ false = not_alnum b k in cc)) (cases_lt b 128)

one_of : (cs : List ℕ) → list_all (λ c. nat_lt c 128) cs ≡ true → PassesAscii (is_one_of cs)
one_of [] a b h = absurd (cc)
one_of (c ∷ cs) a b h = go (nat_eq c b) refl h (one_of cs (both-right (nat_lt c 128) _ a) b)
  where
    go : (t : Bool) → nat_eq c b ≡ t → (t || is_one_of cs b) ≡ true → (is_one_of cs b ≡ true → b < 128) → b < 128
    go true e h more = omega (arith, eqb-true c b e, ltb-true c 128 (both-left (nat_lt c 128) _ a))
    go false e h more = more h

pub symbol_ascii : PassesAscii is_symbol
symbol_ascii = one_of (35 ∷ 36 ∷ 38 ∷ 42 ∷ 43 ∷ 45 ∷ 46 ∷ 47 ∷ 58 ∷ 60 ∷ 61 ∷ 62 ∷ 63 ∷ 64 ∷ 94 ∷ 126 ∷ 92 ∷ []) refl

not_digit : (base b : ℕ) → 128 ≤ b → is_digit_of base b ≡ false
not_digit base b k =
    let digit : is_digit b ≡ false = not_between 48 57 b (omega arith) k in
    let lower : (nat_le 97 b && nat_le b 102) ≡ false = not_between 97 102 b (omega arith) k in
    let upper : (nat_le 65 b && nat_le b 70) ≡ false = not_between 65 70 b (omega arith) k in
    rw digit (rw lower (rw upper refl))

pub digit_ascii : (base : ℕ) → PassesAscii (is_digit_of base)
digit_ascii base b h = ⊎_elim (λ l. l) (λ k. absurd (let n : is_digit_of base b ≡ false = not_digit base b k in cc)) (cases_lt b 128)

-- both ways of a test
pub pick : {A : Type 0} (P : A → Type 0) (b : Bool) (x y : A) → (b ≡ true → P x) → (b ≡ false → P y) → P (if b then x else y)
pick P true x y f g = f refl
pick P false x y f g = g refl

-- numerals
abbrev pub FoundKeeps : List ℕ → Found (Lexeme (List ℕ)) → Type 0
FoundKeeps bs (found l n) = IsLexeme l × IsUtf8 (drop n bs)
FoundKeeps bs (fault n k) = Unit {0}

-- what is found is a lexeme, and UTF-8 follows it
pub record IsSound (bs : List ℕ) (f : Found (Lexeme (List ℕ))) : Type 0 where
  pub holds : FoundKeeps bs f

lexeme : (bs : List ℕ) (l : Lexeme (List ℕ)) (n : ℕ) → IsLexeme l → IsUtf8 (drop n bs) → IsSound bs (found l n)
lexeme bs l n h u = record { holds = (h, u) }

wrong : (bs : List ℕ) (n k : ℕ) → IsSound bs (fault n k)
wrong bs n k = record { holds = tt }

within-limit : (minus : Bool) (n : ℕ) → (nat_lt n (2 ^ 63) || (minus && nat_eq n (2 ^ 63))) ≡ true → n ≤ 2 ^ 63
within-limit minus n h = go (nat_lt n (2 ^ 63)) refl h
  where
    go : (t : Bool) → nat_lt n (2 ^ 63) ≡ t → (t || (minus && nat_eq n (2 ^ 63))) ≡ true → n ≤ 2 ^ 63
    go true e h = omega (arith, ltb-true n (2 ^ 63) e)
    go false e h = omega (arith, eqb-true n (2 ^ 63) (both-right minus _ h))

integer-sound : (bs : List ℕ) (minus : Bool) (n len : ℕ) → IsUtf8 (drop len bs) → IsSound bs (integer_of minus n len)
integer-sound bs minus n len u = pick (IsSound bs) _ _ _ (λ e. lexeme bs (integer n) len (within-limit minus n e) u) (λ e. wrong bs 3 0)

drop-drop : (n m : ℕ) (xs : List ℕ) → drop n (drop m xs) ≡ drop (m + n) xs
drop-drop n m xs = grind (arith, common_steps)

after_low : (bs : List ℕ) → head_of bs < 128 → IsUtf8 bs → IsUtf8 (drop 1 bs)
after_low [] h u = u
after_low (b ∷ bs) h u = after_one b bs h u

drop-to : (n m k : ℕ) (xs : List ℕ) → m + n ≡ k → drop n (drop m xs) ≡ drop k xs
drop-to n m k xs e = drop-drop n m xs ∙ ap (λ j. drop j xs) e

-- after two bytes that are ASCII
after_head : (a : ℕ) (bs : List ℕ) → a < 128 → nat_eq (head_of bs) a ≡ true → IsUtf8 bs → IsUtf8 (drop 1 bs)
after_head a [] h e u = u
after_head a (b ∷ bs) h e u = after_one b bs (omega (arith, eqb-true b a e)) u

after_two : (a b : ℕ) (bs : List ℕ) → a < 128 → b < 128 → starts a b bs ≡ true → IsUtf8 bs → IsUtf8 (drop 2 bs)
after_two a b bs h k e u =
    subst IsUtf8 (drop-drop 1 1 bs) (after_head b (drop 1 bs) k (both-right (nat_eq (head_of bs) a) _ e) (after_head a bs h (both-left _ (nat_eq (head_of (drop 1 bs)) b) e) u))

based-sound : (minus : Bool) (base : ℕ) (bs : List ℕ) → IsUtf8 (drop 2 bs) → IsSound bs (based minus base bs)
based-sound minus base bs u =
    integer-sound bs minus _ _ (subst IsUtf8 (drop-drop (length (digits_of base (drop 2 bs))) 2 bs) (after_front (is_digit_of base) (digit_ascii base) (drop 2 bs) u))

decimal-sound : (minus : Bool) (bs : List ℕ) → IsUtf8 bs → IsSound bs (decimal minus bs)
decimal-sound minus bs u =
    let len = length (digits_of 10 bs) in
    pick (IsSound bs) (nat_eq (head_of (drop len bs)) 46 && is_digit (head_of (drop 1 (drop len bs)))) (fault 4 0) (integer_of minus (value_after 10 0 (digits_of 10 bs)) len)
    (λ e. wrong bs 4 0)
    (λ e. integer-sound bs minus (value_after 10 0 (digits_of 10 bs)) len (after_front (is_digit_of 10) (digit_ascii 10) bs u))

-- quoted items
abbrev pub PieceKeeps : List ℕ → Piece → Type 0
PieceKeeps bs (piece cs n) = IsUtf8 cs × IsUtf8 (drop n bs)
PieceKeeps bs (ends n) = IsUtf8 (drop n bs)
PieceKeeps bs (bad_here k) = Unit {0}
PieceKeeps bs cut_off = Unit {0}
PieceKeeps bs line_end = Unit {0}

-- what a piece stands for is UTF-8, and so is what follows it
pub record IsSoundPiece (bs : List ℕ) (p : Piece) : Type 0 where
  pub holds : PieceKeeps bs p

bad : (bs : List ℕ) (k : ℕ) → IsSoundPiece bs (bad_here k)
bad bs k = record { holds = tt }

a_piece : (bs cs : List ℕ) (n : ℕ) → IsUtf8 cs → IsUtf8 (drop n bs) → IsSoundPiece bs (piece cs n)
a_piece bs cs n h u = record { holds = (h, u) }

one_ascii : (c : ℕ) → c < 128 → IsUtf8 (c ∷ [])
one_ascii c h = IsUtf8-from_ascii (c ∷ []) ascii
  where
    ascii : IsAscii (c ∷ [])
    ascii zero = h
    ascii (suc i) = omega arith

-- the letters are ASCII, and so is what they stand for
abbrev LetterKeeps : ℕ → Option ℕ → Type 0
LetterKeeps b None = Unit {0}
LetterKeeps b (Some n) = (b < 128) × (n < 128)

record IsSoundLetter (b : ℕ) (o : Option ℕ) : Type 0 where
  pub holds : LetterKeeps b o

a_letter : (b m n : ℕ) → m < 128 → n < 128 → nat_eq b m ≡ true → IsSoundLetter b (Some n)
a_letter b m n h k e = record { holds = (omega (arith, eqb-true b m e), k) }

letter-sound : (b : ℕ) → IsSoundLetter b (letter_code b)
letter-sound b =
    let P : Option ℕ → Type 0 = IsSoundLetter b in
    pick P _ _ _ (a_letter b 97 7 (omega arith) (omega arith)) (λ _.
    pick P _ _ _ (a_letter b 98 8 (omega arith) (omega arith)) (λ _.
    pick P _ _ _ (a_letter b 102 12 (omega arith) (omega arith)) (λ _.
    pick P _ _ _ (a_letter b 110 10 (omega arith) (omega arith)) (λ _.
    pick P _ _ _ (a_letter b 114 13 (omega arith) (omega arith)) (λ _.
    pick P _ _ _ (a_letter b 116 9 (omega arith) (omega arith)) (λ _.
    pick P _ _ _ (a_letter b 118 11 (omega arith) (omega arith)) (λ _.
    pick P _ _ _ (a_letter b 92 92 (omega arith) (omega arith)) (λ _.
    pick P _ _ _ (a_letter b 39 39 (omega arith) (omega arith)) (λ _.
    pick P _ _ _ (a_letter b 34 34 (omega arith) (omega arith)) (λ _.
    pick P _ _ _ (a_letter b 96 96 (omega arith) (omega arith)) (λ _.
    record { holds = tt })))))))))))

scalar-is : (n : ℕ) → is_scalar n ≡ true → scalar n ≡ true
scalar-is n h = go (nat_lt n 0xd800) (nat_lt 0xdfff n && nat_lt n 0x11_0000) h
  where
    go : (x y : Bool) → (x || y) ≡ true → cond x true y ≡ true
    go true y h = refl
    go false y h = h

encoded : (n : ℕ) → is_scalar n ≡ true → IsUtf8 (encode_utf8 n)
encoded n h = (n ∷ [], (ap (λ t. t && true) (scalar-is n h), append-nil (encode_utf8 n)))

taken : (n : ℕ) (bs : List ℕ) → n ≤ length bs → n ≡ length (take n bs)
taken n bs h = grind (arith, common_steps)

-- digits of an escape, and the backslash that closes it
numbered-sound : (base before : ℕ) (bs : List ℕ) (rest : List ℕ) → drop before bs ≡ rest → IsUtf8 rest → IsSoundPiece bs (numbered base before rest)
numbered-sound base before bs rest e u =
    pick (IsSoundPiece bs) _ _ _ (λ t.
    let len = length (digits_of base rest) in
    let closed : nat_eq (head_of (drop len rest)) 92 ≡ true = both-left _ (is_scalar (value_after base 0 (digits_of base rest))) (both-right (nat_lt 0 len) _ t) in
    let ok : is_scalar (value_after base 0 (digits_of base rest)) ≡ true = both-right (nat_eq (head_of (drop len rest)) 92) _ (both-right (nat_lt 0 len) _ t) in
    let after : IsUtf8 (drop 1 (drop len rest)) = after_head 92 (drop len rest) (omega arith) closed (after_front (is_digit_of base) (digit_ascii base) rest u) in
    a_piece bs (encode_utf8 (value_after base 0 (digits_of base rest))) (before + len + 1) (encoded _ ok) (subst IsUtf8 (ap (λ d. drop 1 (drop len d)) (sym e) ∙ ap (drop 1) (drop-drop len before bs) ∙ drop-drop 1 (before + len) bs) after))
    (λ _. bad bs 0)

letter : (joins : Bool) (rest bs : List ℕ) (o : Option ℕ) (q : Piece) → drop 1 bs ≡ rest → IsUtf8 rest → IsSoundLetter (head_of rest) o → IsSoundPiece bs q → IsSoundPiece bs (elim o [ Some n ↦ piece (n ∷ []) 2 | None ↦ q ])
letter joins rest bs None q e u s h = h
letter joins rest bs (Some n) q e u s h =
    a_piece bs (n ∷ []) 2 (one_ascii n s.holds.1) (subst IsUtf8 (ap (drop 1) (sym e) ∙ drop-drop 1 1 bs) (after_low rest s.holds.0 u))

-- after the backslash
escape-sound : (joins : Bool) (bs rest : List ℕ) → drop 1 bs ≡ rest → IsUtf8 rest → IsSoundPiece bs (escape joins rest)
escape-sound joins bs rest e u =
    let P : Piece → Type 0 = IsSoundPiece bs in
    letter joins rest bs (letter_code (head_of rest)) _ e u (letter-sound (head_of rest)) (
    pick P (joins && nat_eq (head_of rest) 10) _ _
    (λ t. a_piece bs [] 2 IsUtf8-nil (subst IsUtf8 (ap (drop 1) (sym e) ∙ drop-drop 1 1 bs) (after_head 10 rest (omega arith) (both-right joins _ t) u)))
    (λ _. pick P (nat_eq (head_of rest) 120) _ _
    (λ t. numbered-sound 16 2 bs (drop 1 rest) (sym (drop-drop 1 1 bs) ∙ ap (drop 1) e) (after_head 120 rest (omega arith) t u))
    (λ _. numbered-sound 8 1 bs rest e u)))

-- bytes that stand for themselves
plain-sound : (b : ℕ) (bs : List ℕ) → IsUtf8 (b ∷ bs) → IsSoundPiece (b ∷ bs) (plain (take (char_len b) (b ∷ bs)))
plain-sound b bs u =
    let cut : FirstCut b bs = first_cut b bs u in
    let len : char_len b ≡ length (take (char_len b) (b ∷ bs)) = taken (char_len b) (b ∷ bs) cut.fits in
    a_piece (b ∷ bs) (take (char_len b) (b ∷ bs)) (length (take (char_len b) (b ∷ bs))) cut.front (subst (λ n. IsUtf8 (drop n (b ∷ bs))) len cut.rest)

-- the next piece of an item in quotes
piece_at-sound : (q : ℕ) (bs : List ℕ) → q < 128 → IsUtf8 bs → IsSoundPiece bs (piece_at q bs)
piece_at-sound q [] h u = record { holds = tt }
piece_at-sound q (b ∷ bs) h u =
    let P : Piece → Type 0 = IsSoundPiece (b ∷ bs) in
    pick P (nat_eq b q) _ _
    (λ t.
    let after : IsUtf8 bs = after_one b bs (omega (arith, eqb-true b q t)) u in
    pick P (nat_eq (head_of bs) q) _ _
    (λ d. a_piece (b ∷ bs) (q ∷ []) 2 (one_ascii q h) (after_head q bs h d after))
    (λ _. record { holds = after }))
    (λ _. pick P (nat_eq b 92) _ _
    (λ t. escape-sound true (b ∷ bs) bs refl (after_one b bs (omega (arith, eqb-true b 92 t)) u))
    (λ _. pick P (nat_eq b 10) _ _
    (λ _. record { holds = tt })
    (λ _. plain-sound b bs u)))

-- a whole item
abbrev pub QuotedKeeps : List ℕ → Quoted → Type 0
QuotedKeeps bs (whole cs n) = IsUtf8 cs × IsUtf8 (drop n bs)
QuotedKeeps bs (bad_escape k) = Unit {0}
QuotedKeeps bs (unclosed by_end) = Unit {0}

-- what stands in an item is UTF-8, and so is what follows it
pub record IsSoundItem (bs : List ℕ) (r : Quoted) : Type 0 where
  pub holds : QuotedKeeps bs r

after-sound : (bs cs : List ℕ) (n : ℕ) (r : Quoted) → IsUtf8 cs → IsSoundItem (drop n bs) r → IsSoundItem bs (after_piece cs n r)
after-sound bs cs n (whole ds k) u h = record { holds = (IsUtf8-append cs ds u h.holds.0, subst IsUtf8 (drop-drop k n bs) h.holds.1) }
after-sound bs cs n (bad_escape k) u h = record { holds = tt }
after-sound bs cs n (unclosed by_end) u h = record { holds = tt }

abbrev after_turn : Piece → ℕ → ℕ → List ℕ → Quoted
after_turn p turns q bs = elim p [
  | piece cs n ↦ after_piece cs n (body turns q (drop n bs))
  | ends n ↦ whole [] n
  | bad_here k ↦ bad_escape k
  | cut_off ↦ unclosed true
  | line_end ↦ unclosed false
]

turn-sound : (turns q : ℕ) (bs : List ℕ) (p : Piece) → IsSoundPiece bs p → ((n : ℕ) → IsUtf8 (drop n bs) → IsSoundItem (drop n bs) (body turns q (drop n bs))) → IsSoundItem bs (after_turn p turns q bs)
turn-sound turns q bs (piece cs n) s more = after-sound bs cs n (body turns q (drop n bs)) s.holds.0 (more n s.holds.1)
turn-sound turns q bs (ends n) s more = record { holds = (IsUtf8-nil, s.holds) }
turn-sound turns q bs (bad_here k) s more = record { holds = tt }
turn-sound turns q bs cut_off s more = record { holds = tt }
turn-sound turns q bs line_end s more = record { holds = tt }

body-sound : (turns q : ℕ) (bs : List ℕ) → q < 128 → IsUtf8 bs → IsSoundItem bs (body turns q bs)
unfolding body
body-sound zero q bs h u = record { holds = tt }
body-sound (suc turns) q bs h u = turn-sound turns q bs (piece_at q bs) (piece_at-sound q bs h u) (λ n v. body-sound turns q (drop n bs) h v)

item-sound : (marked : Bool) (bs : List ℕ) (make : List ℕ → Lexeme (List ℕ)) → ((cs : List ℕ) → IsUtf8 cs → IsLexeme (make cs)) → (r : Quoted) → IsSoundItem (drop 1 bs) r → IsSound bs (item_of marked bs make r)
item-sound marked bs make made (whole cs n) h = lexeme bs (make cs) (suc n) (made cs h.holds.0) (subst IsUtf8 (drop-to n 1 (suc n) bs (omega arith)) h.holds.1)
item-sound marked bs make made (bad_escape k) h = wrong bs 2 (suc k)
item-sound marked bs make made (unclosed by_end) h =
    pick (IsSound bs) by_end (at_mark marked (length bs) (fault 2 0)) (fault 2 0)
    (λ _. pick (IsSound bs) marked (fault 1 (length bs)) (fault 2 0) (λ _. wrong bs 1 (length bs)) (λ _. wrong bs 2 0))
    (λ _. wrong bs 2 0)

quoted_item-sound : (marked : Bool) (bs : List ℕ) (make : List ℕ → Lexeme (List ℕ)) → ((cs : List ℕ) → IsUtf8 cs → IsLexeme (make cs)) → head_of bs < 128 → IsUtf8 bs → IsSound bs (quoted_item marked make bs)
quoted_item-sound marked bs make made h u =
    item-sound marked bs make made (body (length bs) (head_of bs) (drop 1 bs)) (body-sound (length bs) (head_of bs) (drop 1 bs) h (after_low bs h u))

literal-sound : (bs : List ℕ) (p : Piece) → IsSoundPiece (drop 2 bs) p → IsSound bs (literal_of p)
literal-sound bs (piece cs n) s = lexeme bs (integer (head_of (chars cs))) (2 + n) (first_bounded cs s.holds.0) (subst IsUtf8 (drop-drop n 2 bs) s.holds.1)
literal-sound bs (ends n) s = wrong bs 2 0
literal-sound bs (bad_here k) s = wrong bs 2 (2 + k)
literal-sound bs cut_off s = wrong bs 2 0
literal-sound bs line_end s = wrong bs 2 0

char_literal-sound : (bs : List ℕ) → IsUtf8 (drop 2 bs) → IsSound bs (char_literal bs)
char_literal-sound bs u =
    pick (IsSound bs) (starts 92 10 (drop 2 bs)) (fault 2 2) (literal_of (piece_at 39 (drop 2 bs)))
    (λ _. wrong bs 2 2)
    (λ _. literal-sound bs (piece_at 39 (drop 2 bs)) (piece_at-sound 39 (drop 2 bs) (omega arith) u))

number_at-sound : (minus : Bool) (bs : List ℕ) → IsUtf8 bs → IsSound bs (number_at minus bs)
number_at-sound minus bs u =
    let P : Found (Lexeme (List ℕ)) → Type 0 = IsSound bs in
    pick P (starts 48 39 bs) _ _ (λ t. char_literal-sound bs (after_two 48 39 bs (omega arith) (omega arith) t u)) (λ _.
    pick P (starts 48 120 bs && is_digit_of 16 (head_of (drop 2 bs))) _ _ (λ t. based-sound minus 16 bs (after_two 48 120 bs (omega arith) (omega arith) (both-left _ _ t) u)) (λ _.
    pick P (starts 48 111 bs && is_digit_of 8 (head_of (drop 2 bs))) _ _ (λ t. based-sound minus 8 bs (after_two 48 111 bs (omega arith) (omega arith) (both-left _ _ t) u)) (λ _.
    pick P (starts 48 98 bs && is_digit_of 2 (head_of (drop 2 bs))) _ _ (λ t. based-sound minus 2 bs (after_two 48 98 bs (omega arith) (omega arith) (both-left _ _ t) u)) (λ _.
    decimal-sound minus bs u))))

either-low : (b m n : ℕ) → m < 128 → n < 128 → (nat_eq b m || nat_eq b n) ≡ true → b < 128
either-low b m n h k e = go (nat_eq b m) refl e
  where
    go : (t : Bool) → nat_eq b m ≡ t → (t || nat_eq b n) ≡ true → b < 128
    go true same e = omega (arith, eqb-true b m same)
    go false same e = omega (arith, eqb-true b n e)

punctuation_ascii : PassesAscii is_punctuation
punctuation_ascii = one_of (40 ∷ 41 ∷ 91 ∷ 93 ∷ 123 ∷ 125 ∷ 44 ∷ 124 ∷ []) refl

word-utf8 : (p : ℕ → Bool) → PassesAscii p → (bs : List ℕ) → IsUtf8 (take_while p bs)
word-utf8 p h bs = IsUtf8-from_ascii (take_while p bs) (front_ascii p h bs)

other_token_at-sound : (marked : Bool) (bs : List ℕ) → IsUtf8 bs → IsSound bs (other_token_at marked bs)
other_token_at-sound marked bs u =
    let b : ℕ = head_of bs in
    let w : List ℕ = take_while is_symbol bs in
    let P : Found (Lexeme (List ℕ)) → Type 0 = IsSound bs in
    pick P (is_punctuation b) (found (punctuation b) 1) _ (λ t. lexeme bs (punctuation b) 1 t (after_low bs (punctuation_ascii b t) u)) (λ _.
    pick P (nat_eq b 33 || nat_eq b 59) (found (name (b ∷ [])) 1) _ (λ t. let l : b < 128 = either-low b 33 59 (omega arith) (omega arith) t in lexeme bs (name (b ∷ [])) 1 (one_ascii b l) (after_low bs l u)) (λ _.
    pick P (is_end marked bs) (found stop 1) _ (λ t. lexeme bs stop 1 tt (after_head 46 bs (omega arith) (both-left (nat_eq b 46) _ t) u)) (λ _.
    pick P (is_symbol b) (found (name w) (length w)) (fault 2 0) (λ _. lexeme bs (name w) (length w) (word-utf8 is_symbol symbol_ascii bs) (after_front is_symbol symbol_ascii bs u)) (λ _.
    wrong bs 2 0))))

pub token_at-sound : (marked minus : Bool) (bs : List ℕ) → IsUtf8 bs → IsSound bs (token_at marked minus bs)
token_at-sound marked minus bs u =
    let b : ℕ = head_of bs in
    let w : List ℕ = take_while is_alnum bs in
    let P : Found (Lexeme (List ℕ)) → Type 0 = IsSound bs in
    let word : IsUtf8 w = word-utf8 is_alnum alnum_ascii bs in
    let after : IsUtf8 (drop (length w) bs) = after_front is_alnum alnum_ascii bs u in
    pick P (is_lower b) (found (name w) (length w)) _ (λ _. lexeme bs (name w) (length w) word after) (λ _.
    pick P (is_upper b) (found (variable w) (length w)) _ (λ _. lexeme bs (variable w) (length w) word after) (λ _.
    pick P (is_digit b) (number_at minus bs) _ (λ _. number_at-sound minus bs u) (λ _.
    pick P (nat_eq b 39) (quoted_item marked quoted bs) _ (λ t. quoted_item-sound marked bs quoted (λ cs v. v) (omega (arith, eqb-true b 39 t)) u) (λ _.
    pick P (nat_eq b 34) (quoted_item marked text_codes bs) (other_token_at marked bs) (λ t. quoted_item-sound marked bs text_codes (λ cs v. v) (omega (arith, eqb-true b 34 t)) u) (λ _.
    other_token_at-sound marked bs u)))))

-- layout and comments
abbrev pub StepKeeps : List ℕ → Step → Type 0
StepKeeps bs (layout n) = IsUtf8 (drop (suc n) bs)
StepKeeps bs unfinished = Unit {0}
StepKeeps bs no_layout = Unit {0}

pub record IsSoundStep (bs : List ℕ) (s : Step) : Type 0 where
  pub holds : StepKeeps bs s

line_end_boundary : (bs : List ℕ) → IsCharBoundary bs (line_len bs)
line_end_boundary [] = (omega arith, λ h k. absurd (omega arith))
line_end_boundary (b ∷ bs) = go (nat_eq b 10) refl (line_end_boundary bs)
  where
    go : (t : Bool) → nat_eq b 10 ≡ t → IsCharBoundary bs (line_len bs) → IsCharBoundary (b ∷ bs) (line_len (b ∷ bs))
    go true e h =
        let len : line_len (b ∷ bs) ≡ 0 = ap length (front_of (λ c. if nat_eq c 10 then false else true) b bs false (ap (λ t. if t then false else true) e)) in
        subst (IsCharBoundary (b ∷ bs)) (sym len) (IsCharBoundary-before_ascii (b ∷ bs) 0 (omega arith) (omega (arith, eqb-true b 10 e)))
    go false e h =
        let len : line_len (b ∷ bs) ≡ suc (line_len bs) = ap length (front_of (λ c. if nat_eq c 10 then false else true) b bs true (ap (λ t. if t then false else true) e)) in
        subst (IsCharBoundary (b ∷ bs)) (sym len) (omega (arith, h.0), λ l k. h.1 (omega arith) k)

after_line : (bs : List ℕ) → IsUtf8 bs → IsUtf8 (drop (line_len bs) bs)
after_line bs u = IsUtf8-drop bs (line_len bs) u (line_end_boundary bs)

abbrev pub BlockEnds : List ℕ → Option ℕ → Type 0
BlockEnds bs None = Unit {0}
BlockEnds bs (Some n) = (n + 1 < length bs) × (get_or bs (n + 1) 0 ≡ 47)

pub record IsSoundBlock (bs : List ℕ) (o : Option ℕ) : Type 0 where
  pub holds : BlockEnds bs o

one_on : (b : ℕ) (bs : List ℕ) (n : ℕ) → get_or bs (n + 1) 0 ≡ 47 → get_or (b ∷ bs) (suc n + 1) 0 ≡ 47
one_on b bs n h = let e : suc n + 1 ≡ suc (n + 1) = omega arith in rw e h

block-more : (b : ℕ) (bs : List ℕ) (o : Option ℕ) → IsSoundBlock bs o → IsSoundBlock (b ∷ bs) (option_map suc o)
block-more b bs None h = record { holds = tt }
block-more b bs (Some n) h = record { holds = (omega (arith, h.holds.0), one_on b bs n h.holds.1) }

block-sound : (bs : List ℕ) → IsSoundBlock bs (block_len bs)
block-sound [] = record { holds = tt }
block-sound (b ∷ []) = record { holds = tt }
block-sound (b ∷ c ∷ bs) =
    pick (IsSoundBlock (b ∷ c ∷ bs)) (nat_eq b 42 && nat_eq c 47) (Some 0) (option_map suc (block_len (c ∷ bs)))
    (λ t. record { holds = (omega arith, eqb-true c 47 (both-right (nat_eq b 42) _ t)) })
    (λ _. block-more b (c ∷ bs) (block_len (c ∷ bs)) (block-sound (c ∷ bs)))

block_step-sound : (bs : List ℕ) (o : Option ℕ) → IsUtf8 (drop 2 bs) → IsSoundBlock (drop 2 bs) o → IsSoundStep bs (block_step o)
block_step-sound bs None u h = record { holds = tt }
block_step-sound bs (Some n) u h =
    record { holds = subst IsUtf8 (drop-to (n + 1 + 1) 2 (suc (n + 3)) bs (omega arith)) (IsUtf8-drop (drop 2 bs) (n + 1 + 1) u (IsCharBoundary-after_ascii (drop 2 bs) (n + 1) u h.holds.0 (omega (arith, h.holds.1)))) }

layout_low : (b : ℕ) → is_layout b ≡ true → b < 128
layout_low b h = ⊎_elim (λ l. l) (λ k. absurd (let n : is_layout b ≡ false = not_layout b k in cc)) (cases_lt b 128)

layout_step-sound : (bs : List ℕ) → IsUtf8 bs → IsSoundStep bs (layout_step bs)
layout_step-sound bs u =
    let P : Step → Type 0 = IsSoundStep bs in
    pick P (is_layout (head_of bs)) (layout 0) _ (λ t. record { holds = after_low bs (layout_low (head_of bs) t) u }) (λ _.
    pick P (nat_eq (head_of bs) 37) (layout (line_len (drop 1 bs))) _ (λ t. record { holds = subst IsUtf8 (drop-to (line_len (drop 1 bs)) 1 (suc (line_len (drop 1 bs))) bs (omega arith)) (after_line (drop 1 bs) (after_head 37 bs (omega arith) t u)) }) (λ _.
    pick P (starts 47 42 bs) (block_step (block_len (drop 2 bs))) no_layout (λ t. block_step-sound bs (block_len (drop 2 bs)) (after_two 47 42 bs (omega arith) (omega arith) t u) (block-sound (drop 2 bs))) (λ _.
    record { holds = tt })))

abbrev pub SkipKeeps : List ℕ → Skipped → Type 0
SkipKeeps bs (skipped k) = IsUtf8 (drop k bs)
SkipKeeps bs (bad_comment k) = Unit {0}

pub record IsSoundSkip (bs : List ℕ) (s : Skipped) : Type 0 where
  pub holds : SkipKeeps bs s

over-sound : (n : ℕ) (bs : List ℕ) (s : Skipped) → IsSoundSkip (drop n bs) s → IsSoundSkip bs (over n s)
over-sound n bs (skipped k) h = record { holds = subst IsUtf8 (drop-drop k n bs) h.holds }
over-sound n bs (bad_comment k) h = record { holds = tt }

abbrev after_step : Step → ℕ → List ℕ → Skipped
after_step s turns bs = elim s [
  | layout n ↦ over (suc n) (skip turns (drop (suc n) bs))
  | unfinished ↦ bad_comment 0
  | no_layout ↦ skipped 0
]

step-sound : (turns : ℕ) (bs : List ℕ) (s : Step) → IsUtf8 bs → IsSoundStep bs s → ((n : ℕ) → IsUtf8 (drop (suc n) bs) → IsSoundSkip (drop (suc n) bs) (skip turns (drop (suc n) bs))) → IsSoundSkip bs (after_step s turns bs)
step-sound turns bs (layout n) u h more = over-sound (suc n) bs (skip turns (drop (suc n) bs)) (more n h.holds)
step-sound turns bs unfinished u h more = record { holds = tt }
step-sound turns bs no_layout u h more = record { holds = u }

pub skip-sound : (turns : ℕ) (bs : List ℕ) → IsUtf8 bs → IsSoundSkip bs (skip turns bs)
unfolding skip
skip-sound zero bs u = record { holds = u }
skip-sound (suc turns) bs u = step-sound turns bs (layout_step bs) u (layout_step-sound bs u) (λ n v. skip-sound turns (drop (suc n) bs) v)

-- the token after a place
abbrev pub NextKeeps : List ℕ → Next → Type 0
NextKeeps bs (token l k len) = IsLexeme l × IsUtf8 (drop (k + len) bs)
NextKeeps bs (no_token n k) = Unit {0}
NextKeeps bs nothing = Unit {0}

pub record IsSoundNext (bs : List ℕ) (n : Next) : Type 0 where
  pub holds : NextKeeps bs n

shifted-sound : (k : ℕ) (bs : List ℕ) (f : Found (Lexeme (List ℕ))) → IsSound (drop k bs) f → IsSoundNext bs (shifted k f)
shifted-sound k bs (found l n) h = record { holds = (h.holds.0, subst IsUtf8 (drop-drop n k bs) h.holds.1) }
shifted-sound k bs (fault n at) h = record { holds = tt }

next-sound : (marked minus : Bool) (bs : List ℕ) (s : Skipped) → IsSoundSkip bs s → IsSoundNext bs (next_after marked minus bs s)
next-sound marked minus bs (skipped k) h =
    pick (IsSoundNext bs) (nat_lt k (length bs)) (shifted k (token_at marked (minus && nat_eq k 0) (drop k bs))) (if marked then no_token 1 k else nothing)
    (λ _. shifted-sound k bs (token_at marked (minus && nat_eq k 0) (drop k bs)) (token_at-sound marked (minus && nat_eq k 0) (drop k bs) h.holds))
    (λ _. pick (IsSoundNext bs) marked (no_token 1 k) nothing (λ _. record { holds = tt }) (λ _. record { holds = tt }))
next-sound marked minus bs (bad_comment k) h =
    pick (IsSoundNext bs) marked (no_token 1 (length bs)) (no_token 2 k) (λ _. record { holds = tt }) (λ _. record { holds = tt })

abbrev PlacedKeeps : List ℕ → Placed → Type 0
PlacedKeeps valid (placed t next) = IsLexeme t.lexeme × IsUtf8 (drop next valid)
PlacedKeeps valid (bad_at n byte) = Unit {0}
PlacedKeeps valid none_left = Unit {0}

placed-sound : (valid : List ℕ) (at : ℕ) (direct : Bool) (n : Next) → IsSoundNext (drop at valid) n → PlacedKeeps valid (put_at at direct n)
placed-sound valid at direct (token l k len) h = (h.holds.0, subst IsUtf8 (drop-to (k + len) at (at + k + len) valid (omega arith)) h.holds.1)
placed-sound valid at direct (no_token n k) h = tt
placed-sound valid at direct nothing h = tt

-- a token that is found from a character's first byte on is a lexeme, and UTF-8 follows it
pub placed_at-sound : (valid : List ℕ) (marked : Bool) (at : ℕ) (direct minus : Bool) (t : Token (List ℕ)) (next : ℕ) → placed t next ≡ placed_at marked at direct minus valid → IsUtf8 (drop at valid) → IsLexeme t.lexeme × IsUtf8 (drop next valid)
placed_at-sound valid marked at direct minus t next e u =
    let bs = drop at valid in
    subst (PlacedKeeps valid) (sym e) (placed-sound valid at direct (next_token marked minus bs) (next-sound marked minus bs (skip (length bs) bs) (skip-sound (length bs) bs u)))
