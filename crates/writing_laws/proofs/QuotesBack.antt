-- Names in quotes, read back.
use Rattle.std.proofs.Common.{◌≡◌, ℕ, zero, suc, ◌+◌, ◌≤◌, ◌<◌, ◌/◌, List, [], ◌∷◌, ◌++◌, length, drop, take, Bool, true, false, ◌&&◌, ◌||◌, if◌then◌else◌, cond, refl, sym, ap, ◌∙◌, arith, subst, inl, inr, nat_eq, nat_lt, nat_le, append_assoc, append-nil, length-append}
use Rattle.std.specs.Prelude.{IsUtf8}
use lib.Utf8.{encode, encodes, scalar, scalars, next}
use Rattle.std.specs.List.{list_all, flat_map}
use Rattle.std.proofs.lemmas.Bool.{eqb-true, lt-ltb, le-ltb, lt-leb, ne_eqb, ltb-true, ltb-false}
use Rattle.std.proofs.Math.Seq.{drop-append_seam, take-append_seam}
use Rattle.text_model.specs.Tokens.{quoted, found, token_at, head_of, Piece, piece, ends, bad_here, cut_off, line_end, escape, plain, char_len, piece_at, Quoted, whole, bad_escape, unclosed, after_piece, body, item_of}
use Rattle.text_model.specs.Writing.{escaped}
use Rattle.writing_laws.proofs.Bools.{bool_of, and-false, and-first, and-second, if_true, if_false}
use Rattle.writing_laws.proofs.Spells.{quoted_text}
use Rattle.std.proofs.lemmas.Str.Ascii.{encode_ascii, IsAscii-nil, IsAscii-cons}
use Rattle.std.proofs.lemmas.Str.{IsUtf8-append, IsUtf8-nil, IsUtf8-encode, IsUtf8-from_ascii}
use Rattle.std.specs.Str.{IsAscii}

-- ---- what is checked code by code

abbrev Below : (ℕ → Type 0) → ℕ → Type 0
Below P zero = Unit {0}
Below P (suc n) = P n × Below P n

below_at : (P : ℕ → Type 0) (n k : ℕ) → Below P n → k < n → P k
below_at P zero k h lt = absurd (omega arith)
below_at P (suc n) k h lt = elim (bool_of (nat_eq k n)) [
  | inl e ↦ subst P (sym (eqb-true k n e)) h.0
  | inr e ↦ below_at P n k h.1 (let ne : k ≡ n → ⊥ = Rattle.std.proofs.lemmas.Bool.eqb-false k n e in omega arith)
]

abbrev Escapes : ℕ → Type 0
Escapes c = (rest : List ℕ) → piece_at 39 (escaped c ++ rest) ≡ piece (c ∷ []) (length (escaped c))

all_escape : Below Escapes 128
unfolding encode
all_escape = (λ rest. refl, (λ rest. refl, (λ rest. refl, (λ rest. refl, (λ rest. refl, (λ rest. refl, (λ rest. refl, (λ rest. refl, (λ rest. refl, (λ rest. refl, (λ rest. refl, (λ rest. refl, (λ rest. refl, (λ rest. refl, (λ rest. refl, (λ rest. refl, (λ rest. refl, (λ rest. refl, (λ rest. refl, (λ rest. refl, (λ rest. refl, (λ rest. refl, (λ rest. refl, (λ rest. refl, (λ rest. refl, (λ rest. refl, (λ rest. refl, (λ rest. refl, (λ rest. refl, (λ rest. refl, (λ rest. refl, (λ rest. refl, (λ rest. refl, (λ rest. refl, (λ rest. refl, (λ rest. refl, (λ rest. refl, (λ rest. refl, (λ rest. refl, (λ rest. refl, (λ rest. refl, (λ rest. refl, (λ rest. refl, (λ rest. refl, (λ rest. refl, (λ rest. refl, (λ rest. refl, (λ rest. refl, (λ rest. refl, (λ rest. refl, (λ rest. refl, (λ rest. refl, (λ rest. refl, (λ rest. refl, (λ rest. refl, (λ rest. refl, (λ rest. refl, (λ rest. refl, (λ rest. refl, (λ rest. refl, (λ rest. refl, (λ rest. refl, (λ rest. refl, (λ rest. refl, (λ rest. refl, (λ rest. refl, (λ rest. refl, (λ rest. refl, (λ rest. refl, (λ rest. refl, (λ rest. refl, (λ rest. refl, (λ rest. refl, (λ rest. refl, (λ rest. refl, (λ rest. refl, (λ rest. refl, (λ rest. refl, (λ rest. refl, (λ rest. refl, (λ rest. refl, (λ rest. refl, (λ rest. refl, (λ rest. refl, (λ rest. refl, (λ rest. refl, (λ rest. refl, (λ rest. refl, (λ rest. refl, (λ rest. refl, (λ rest. refl, (λ rest. refl, (λ rest. refl, (λ rest. refl, (λ rest. refl, (λ rest. refl, (λ rest. refl, (λ rest. refl, (λ rest. refl, (λ rest. refl, (λ rest. refl, (λ rest. refl, (λ rest. refl, (λ rest. refl, (λ rest. refl, (λ rest. refl, (λ rest. refl, (λ rest. refl, (λ rest. refl, (λ rest. refl, (λ rest. refl, (λ rest. refl, (λ rest. refl, (λ rest. refl, (λ rest. refl, (λ rest. refl, (λ rest. refl, (λ rest. refl, (λ rest. refl, (λ rest. refl, (λ rest. refl, (λ rest. refl, (λ rest. refl, (λ rest. refl, (λ rest. refl, (λ rest. refl, (λ rest. refl, (λ rest. refl, tt))))))))))))))))))))))))))))))))))))))))))))))))))))))))))))))))))))))))))))))))))))))))))))))))))))))))))))))))))))))))))))))))

abbrev IsShort : ℕ → Type 0
IsShort c = (list_all (λ b. nat_lt b 128) (escaped c) && nat_lt 0 (length (escaped c))) ≡ true

all_short : Below IsShort 128
all_short = (refl, (refl, (refl, (refl, (refl, (refl, (refl, (refl, (refl, (refl, (refl, (refl, (refl, (refl, (refl, (refl, (refl, (refl, (refl, (refl, (refl, (refl, (refl, (refl, (refl, (refl, (refl, (refl, (refl, (refl, (refl, (refl, (refl, (refl, (refl, (refl, (refl, (refl, (refl, (refl, (refl, (refl, (refl, (refl, (refl, (refl, (refl, (refl, (refl, (refl, (refl, (refl, (refl, (refl, (refl, (refl, (refl, (refl, (refl, (refl, (refl, (refl, (refl, (refl, (refl, (refl, (refl, (refl, (refl, (refl, (refl, (refl, (refl, (refl, (refl, (refl, (refl, (refl, (refl, (refl, (refl, (refl, (refl, (refl, (refl, (refl, (refl, (refl, (refl, (refl, (refl, (refl, (refl, (refl, (refl, (refl, (refl, (refl, (refl, (refl, (refl, (refl, (refl, (refl, (refl, (refl, (refl, (refl, (refl, (refl, (refl, (refl, (refl, (refl, (refl, (refl, (refl, (refl, (refl, (refl, (refl, (refl, (refl, (refl, (refl, (refl, (refl, (refl, tt))))))))))))))))))))))))))))))))))))))))))))))))))))))))))))))))))))))))))))))))))))))))))))))))))))))))))))))))))))))))))))))))

ascii_list : (bs : List ℕ) → list_all (λ b. nat_lt b 128) bs ≡ true → IsAscii bs
ascii_list [] h = IsAscii-nil
ascii_list (b ∷ bs) h = IsAscii-cons b bs (ltb-true b 128 (and-first (nat_lt b 128) _ h)) (ascii_list bs (and-second (nat_lt b 128) _ h))

-- ---- bytes past ASCII

abbrev AllHigh : List ℕ → Type 0
AllHigh [] = Unit {0}
AllHigh (b ∷ bs) = (128 ≤ b) × AllHigh bs

escaped_high : (b : ℕ) → 128 ≤ b → escaped b ≡ b ∷ []
escaped_high b h =
    if_false (nat_eq b 92) (92 ∷ 92 ∷ []) _ (ne_eqb b 92 (λ e. omega arith))
    ∙ if_false (nat_eq b 39) (92 ∷ 39 ∷ []) _ (ne_eqb b 39 (λ e. omega arith))
    ∙ if_false (nat_le 7 b && nat_le b 13) (92 ∷ Rattle.text_model.specs.Writing.escape_letter b ∷ []) _ (ap (λ x. nat_le 7 b && x) (lt-leb b 13 (omega arith)) ∙ and-false (nat_le 7 b))
    ∙ if_false (nat_lt b 32 || nat_eq b 127) (92 ∷ 120 ∷ (Rattle.text_model.specs.Writing.hex b ++ 92 ∷ [])) (b ∷ []) (ap (λ x. x || nat_eq b 127) (le-ltb b 32 (omega arith)) ∙ ne_eqb b 127 (λ e. omega arith))

all_high : (bs : List ℕ) → AllHigh bs → flat_map escaped bs ≡ bs
all_high [] h = refl
all_high (b ∷ bs) h = ap (λ l. l ++ flat_map escaped bs) (escaped_high b h.0) ∙ ap (λ l. b ∷ l) (all_high bs h.1)

piece_high : (b : ℕ) (bs : List ℕ) → 128 ≤ b → piece_at 39 (b ∷ bs) ≡ plain (take (char_len b) (b ∷ bs))
piece_high b bs h =
    if_false (nat_eq b 39) (if nat_eq (head_of bs) 39 then piece (39 ∷ []) 2 else ends 1) _ (ne_eqb b 39 (λ e. omega arith))
    ∙ if_false (nat_eq b 92) (escape true bs) _ (ne_eqb b 92 (λ e. omega arith))
    ∙ if_false (nat_eq b 10) line_end (plain (take (char_len b) (b ∷ bs))) (ne_eqb b 10 (λ e. omega arith))

-- A character past ASCII.
record High (c : ℕ) : Type 0 where
  first : ℕ
  others : List ℕ
  is : encode c ≡ first ∷ others
  high : AllHigh (first ∷ others)
  long : char_len first ≡ suc (length others)

len_two : (b : ℕ) → 128 ≤ b → b < 224 → char_len b ≡ 2
len_two b h k = if_false (nat_lt b 128) 1 _ (le-ltb b 128 h) ∙ if_true (nat_lt b 224) 2 _ (lt-ltb b 224 k)

len_three : (b : ℕ) → 224 ≤ b → b < 240 → char_len b ≡ 3
len_three b h k = if_false (nat_lt b 128) 1 _ (le-ltb b 128 (omega arith)) ∙ if_false (nat_lt b 224) 2 _ (le-ltb b 224 h) ∙ if_true (nat_lt b 240) 3 4 (lt-ltb b 240 k)

len_four : (b : ℕ) → 240 ≤ b → char_len b ≡ 4
len_four b h = if_false (nat_lt b 128) 1 _ (le-ltb b 128 (omega arith)) ∙ if_false (nat_lt b 224) 2 _ (le-ltb b 224 (omega arith)) ∙ if_false (nat_lt b 240) 3 4 (le-ltb b 240 h)

cond_true : {A : Type 0} (b : Bool) (x y : A) → b ≡ true → cond b x y ≡ x
cond_true true x y h = refl
cond_true false x y h = absurd (cc)

cond_false : {A : Type 0} (b : Bool) (x y : A) → b ≡ false → cond b x y ≡ y
cond_false true x y h = absurd (cc)
cond_false false x y h = refl

high_char : (c : ℕ) → 128 ≤ c → High c
unfolding encode
high_char c h = elim (bool_of (nat_lt c 2048)) [
  | inl e ↦
      let small : c < 2048 = ltb-true c 2048 e in
      record {
        first = 192 + c / 64;
        others = next c ∷ [];
        is = cond_false (nat_lt c 128) (c ∷ []) _ (le-ltb c 128 h) ∙ cond_true (nat_lt c 2048) ((192 + c / 64) ∷ next c ∷ []) _ e;
        high = (omega arith, (omega arith, tt));
        long = len_two (192 + c / 64) (omega arith) (omega arith);
      }
  | inr e ↦ elim (bool_of (nat_lt c 65536)) [
    | inl f ↦
        let small : c < 65536 = ltb-true c 65536 f in
        record {
          first = 224 + c / 4096;
          others = next (c / 64) ∷ next c ∷ [];
          is = cond_false (nat_lt c 128) (c ∷ []) _ (le-ltb c 128 h) ∙ cond_false (nat_lt c 2048) ((192 + c / 64) ∷ next c ∷ []) _ e ∙ cond_true (nat_lt c 65536) ((224 + c / 4096) ∷ next (c / 64) ∷ next c ∷ []) _ f;
          high = (omega arith, (omega arith, (omega arith, tt)));
          long = len_three (224 + c / 4096) (omega arith) (omega arith);
        }
    | inr f ↦
        record {
          first = 240 + c / 262144;
          others = next (c / 4096) ∷ next (c / 64) ∷ next c ∷ [];
          is = cond_false (nat_lt c 128) (c ∷ []) _ (le-ltb c 128 h) ∙ cond_false (nat_lt c 2048) ((192 + c / 64) ∷ next c ∷ []) _ e ∙ cond_false (nat_lt c 65536) ((224 + c / 4096) ∷ next (c / 64) ∷ next c ∷ []) _ f;
          high = (omega arith, (omega arith, (omega arith, (omega arith, tt))));
          long = len_four (240 + c / 262144) (omega arith);
        }
  ]
]

-- ---- characters in quotes

-- A character in quotes, and what reads it.
record InQuotes (c : ℕ) : Type 0 where
  reads : (rest : List ℕ) → piece_at 39 (flat_map escaped (encode c) ++ rest) ≡ piece (encode c) (length (flat_map escaped (encode c)))
  some : 0 < length (flat_map escaped (encode c))
  utf8 : scalar c ≡ true → IsUtf8 (flat_map escaped (encode c))

in_quotes_low : (c : ℕ) → c < 128 → InQuotes c
in_quotes_low c h =
    let e : flat_map escaped (encode c) ≡ escaped c = ap (flat_map escaped) (encode_ascii c h) ∙ append-nil (escaped c) in
    let k : IsShort c = below_at IsShort 128 c all_short h in
    record {
      reads = λ rest. ap (λ l. piece_at 39 (l ++ rest)) e ∙ below_at Escapes 128 c all_escape h rest ∙ ap (λ x. piece x (length (escaped c))) (sym (encode_ascii c h)) ∙ ap (λ l. piece (encode c) (length l)) (sym e);
      some = subst (λ l. 0 < length l) (sym e) (ltb-true 0 (length (escaped c)) (and-second (list_all (λ b. nat_lt b 128) (escaped c)) _ k));
      utf8 = λ s. subst IsUtf8 (sym e) (IsUtf8-from_ascii (escaped c) (ascii_list (escaped c) (and-first (list_all (λ b. nat_lt b 128) (escaped c)) _ k)));
    }

in_quotes_high : (c : ℕ) → High c → InQuotes c
in_quotes_high c k =
    let e : flat_map escaped (encode c) ≡ encode c = ap (flat_map escaped) k.is ∙ all_high (k.first ∷ k.others) k.high ∙ sym k.is in
    record {
      reads = λ rest.
          ap (λ l. piece_at 39 (l ++ rest)) (e ∙ k.is)
          ∙ piece_high k.first (k.others ++ rest) k.high.0
          ∙ ap (λ n. plain (take n (k.first ∷ k.others ++ rest))) k.long
          ∙ ap plain (take-append_seam (k.first ∷ k.others) rest)
          ∙ ap plain (sym k.is)
          ∙ ap (λ l. piece (encode c) (length l)) (sym e);
      some = subst (λ l. 0 < length l) (sym (e ∙ k.is)) (omega arith);
      utf8 = λ s. subst IsUtf8 (sym e) (IsUtf8-encode c s);
    }

in_quotes_char : (c : ℕ) → InQuotes c
in_quotes_char c = elim (bool_of (nat_lt c 128)) [
  | inl e ↦ in_quotes_low c (ltb-true c 128 e)
  | inr e ↦ in_quotes_high c (high_char c (ltb-false c 128 e))
]

flat_map-append : (f : ℕ → List ℕ) (xs ys : List ℕ) → flat_map f (xs ++ ys) ≡ flat_map f xs ++ flat_map f ys
flat_map-append f [] ys = refl
flat_map-append f (x ∷ xs) ys = ap (λ l. f x ++ l) (flat_map-append f xs ys) ∙ sym (append_assoc (f x) (flat_map f xs) (flat_map f ys))

body_step : (turns : ℕ) (bs cs : List ℕ) (n : ℕ) → piece_at 39 bs ≡ piece cs n → body (suc turns) 39 bs ≡ after_piece cs n (body turns 39 (drop n bs))
unfolding body
body_step turns bs cs n h = ap of_piece h
  where
    of_piece : Piece → Quoted
    of_piece x = elim x [
      | piece cs n ↦ after_piece cs n (body turns 39 (drop n bs))
      | ends n ↦ whole [] n
      | bad_here k ↦ bad_escape k
      | cut_off ↦ unclosed true
      | line_end ↦ unclosed false
    ]

body_end : (turns : ℕ) (rest : List ℕ) → nat_eq (head_of rest) 39 ≡ false → body (suc turns) 39 (39 ∷ rest) ≡ whole [] 1
unfolding body
body_end turns rest h = ap of_piece (if_false (nat_eq (head_of rest) 39) (piece (39 ∷ []) 2) (ends 1) h)
  where
    of_piece : Piece → Quoted
    of_piece x = elim x [
      | piece cs n ↦ after_piece cs n (body turns 39 (drop n (39 ∷ rest)))
      | ends n ↦ whole [] n
      | bad_here k ↦ bad_escape k
      | cut_off ↦ unclosed true
      | line_end ↦ unclosed false
    ]

body_reads : (cs rest : List ℕ) → nat_eq (head_of rest) 39 ≡ false → (turns : ℕ) → length (flat_map escaped (encodes cs)) < turns → body turns 39 (flat_map escaped (encodes cs) ++ 39 ∷ rest) ≡ whole (encodes cs) (suc (length (flat_map escaped (encodes cs))))
body_reads [] rest q zero h = absurd (omega arith)
body_reads [] rest q (suc turns) h = body_end turns rest q
body_reads (c ∷ cs) rest q zero h = absurd (omega arith)
body_reads (c ∷ cs) rest q (suc turns) h =
    let k = in_quotes_char c in
    let e = flat_map escaped (encode c) in
    let f = flat_map escaped (encodes cs) in
    let split : flat_map escaped (encode c ++ encodes cs) ≡ e ++ f = flat_map-append escaped (encode c) (encodes cs) in
    let lens : length (flat_map escaped (encode c ++ encodes cs)) ≡ length e + length f = ap length split ∙ length-append e f in
    let some : 0 < length e = k.some in
    ap (body (suc turns) 39) (ap (λ l. l ++ 39 ∷ rest) split ∙ append_assoc e f (39 ∷ rest))
    ∙ body_step turns (e ++ (f ++ 39 ∷ rest)) (encode c) (length e) (k.reads (f ++ 39 ∷ rest))
    ∙ ap (λ l. after_piece (encode c) (length e) (body turns 39 l)) (drop-append_seam e (f ++ 39 ∷ rest))
    ∙ ap (after_piece (encode c) (length e)) (body_reads cs rest q turns (omega arith))
    ∙ ap (whole (encode c ++ encodes cs)) (let g : length e + suc (length f) ≡ suc (length (flat_map escaped (encode c ++ encodes cs))) = omega arith in g)

pub quoted_token : (minus : Bool) (s rest : List ℕ) → IsUtf8 s → nat_eq (head_of rest) 39 ≡ false → token_at false minus (quoted_text s ++ rest) ≡ found (quoted s) (length (quoted_text s))
quoted_token minus s rest utf8 q =
    let cs = utf8.0 in
    let f = flat_map escaped s in
    let bs = quoted_text s ++ rest in
    let text : (f ++ 39 ∷ []) ++ rest ≡ f ++ 39 ∷ rest = append_assoc f (39 ∷ []) rest in
    let same : encodes cs ≡ s = utf8.1.1 in
    let long : length f < length bs = omega (arith, length-append (quoted_text s) rest, length-append f (39 ∷ [])) in
    let reads : body (length bs) 39 (f ++ 39 ∷ rest) ≡ whole s (suc (length f)) =
    subst (λ x. length (flat_map escaped x) < length bs → body (length bs) 39 (flat_map escaped x ++ 39 ∷ rest) ≡ whole x (suc (length (flat_map escaped x)))) same (body_reads cs rest q (length bs)) long in
    ap (λ l. item_of false bs quoted (body (length bs) 39 l)) text
    ∙ ap (item_of false bs quoted) reads
    ∙ ap (found (quoted s)) (let e : suc (suc (length f)) ≡ length (quoted_text s) = omega (arith, length-append f (39 ∷ [])) in e)

utf8_escaped : (cs : List ℕ) → scalars cs ≡ true → IsUtf8 (flat_map escaped (encodes cs))
utf8_escaped [] h = IsUtf8-nil
utf8_escaped (c ∷ cs) h =
    subst IsUtf8 (sym (flat_map-append escaped (encode c) (encodes cs)))
    (IsUtf8-append (flat_map escaped (encode c)) (flat_map escaped (encodes cs)) ((in_quotes_char c).utf8 (and-first (scalar c) _ h)) (utf8_escaped cs (and-second (scalar c) _ h)))

pub utf8-quoted : (s : List ℕ) → IsUtf8 s → IsUtf8 (quoted_text s)
utf8-quoted s h =
    let one : IsUtf8 (39 ∷ []) = IsUtf8-from_ascii (39 ∷ []) (IsAscii-cons 39 [] (omega arith) IsAscii-nil) in
    IsUtf8-append (39 ∷ []) (flat_map escaped s ++ 39 ∷ []) one (IsUtf8-append (flat_map escaped s) (39 ∷ []) (subst (λ x. IsUtf8 (flat_map escaped x)) h.1.1 (utf8_escaped h.0 h.1.0)) one)

pub utf8-ascii : (bs : List ℕ) → list_all (λ b. nat_lt b 128) bs ≡ true → IsUtf8 bs
utf8-ascii bs h = IsUtf8-from_ascii bs (ascii_list bs h)
