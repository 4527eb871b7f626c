-- The tokens of pieces one after another, with the spaces between them.
use Rattle.std.proofs.Common.{◌≡◌, ℕ, suc, ◌+◌, ◌≤◌, ◌<◌, ◌^◌, List, [], ◌∷◌, ◌++◌, length, drop, Bool, true, false, ◌&&◌, ◌||◌, if◌then◌else◌, refl, sym, ap, ◌∙◌, arith, subst, inl, inr, nat_eq, nat_lt, append_assoc, length-append}
use Rattle.std.specs.Prelude.{codes, IsUtf8}
use Rattle.std.specs.Fmt.{decimal}
use Rattle.std.specs.List.{list_all, flat_map}
use Rattle.std.proofs.lemmas.Bool.{eqb-true, lt-ltb, ltb-true, ltb-false, eq-eqb}
use Rattle.std.proofs.Math.Seq.{drop-append_seam}
use Rattle.std.proofs.lemmas.Str.{IsUtf8-append}
use Rattle.pl_ops.specs.Tables.{same_text}
use Rattle.text_model.specs.Tokens.{Lexeme, name, quoted, integer, punctuation, stop, Token, found, token_at, layout_step, no_layout, is_minus, is_stop, is_lower, is_digit, is_alnum, is_symbol, head_of, starts}
use Rattle.text_model.specs.Writing.{is_parted, spaced_after, is_letters, is_sign_before, last_of, escaped}
use Rattle.text_model.specs.declared.Role.TheVariants.{Ordinary as ordinary}
use Rattle.writing_laws.proofs.Bools.{bool_of, no_both, and-false, or-true, and-first, and-second, and-both, or-neither_first, or-neither_second, or-either, not-true, same_text-true}
use Rattle.writing_laws.proofs.Spells.{Spell, word, in_quotes, number, negative_number, sign, square_pair, curly_pair, text_in, piece_in, pieces_in, at_byte, tokens_in, tokens_after, is_apart, is_numeric, Safe, IsSpell, AreSpells, is_word, is_sign_code, quoted_text}
use Rattle.writing_laws.proofs.Runs.{Runs, runs_direct, runs_spaced, runs_end}
use Rattle.writing_laws.proofs.Lexing.{any_of, last-all, letters_begin, letters_token, symbols_begin, symbols_token, symbol_is, number_token, number_begins, no_layout_at, decimal-last, decimal-some}
use Rattle.writing_laws.proofs.QuotesBack.{quoted_token, utf8-quoted, utf8-ascii}

abbrev gap_text : Bool → List ℕ
gap_text g = if g then 32 ∷ [] else []

abbrev gap_len : Bool → ℕ
gap_len g = if g then 1 else 0

abbrev stands : Bool → Bool → Bool
stands g direct = if g then false else direct

runs_gap : (g : Bool) (bs : List ℕ) (at : ℕ) (direct minus : Bool) (l : Lexeme (List ℕ)) (len : ℕ) (ts : List (Token (List ℕ))) (n : ℕ) → layout_step bs ≡ no_layout → ((m : Bool) → token_at false m bs ≡ found l len) → is_stop l ≡ false → 1 ≤ len → len ≤ length bs → Runs (drop len bs) (at + gap_len g + len) true (is_minus l) ts n → Runs (gap_text g ++ bs) at direct minus (at_byte l (at + gap_len g) (stands g direct) ∷ ts) n
runs_gap true bs at direct minus l len ts n lay tok go some fits k = runs_spaced bs at direct minus l len ts n lay (tok false) go some fits k
runs_gap false bs at direct minus l len ts n lay tok go some fits k =
    let same : at ≡ at + 0 = omega arith in
    subst (λ a. Runs bs at direct minus (at_byte l a direct ∷ ts) n) same
    (runs_direct bs at direct minus l len ts n lay (tok minus) go some fits (subst (λ a. Runs (drop len bs) (a + len) true (is_minus l) ts n) (sym same) k))

lex_one : (g : Bool) (text rest : List ℕ) (at : ℕ) (direct minus : Bool) (l : Lexeme (List ℕ)) (ts : List (Token (List ℕ))) (n : ℕ) → layout_step (text ++ rest) ≡ no_layout → ((m : Bool) → token_at false m (text ++ rest) ≡ found l (length text)) → is_stop l ≡ false → 1 ≤ length text → ((m : Bool) → Runs rest (at + gap_len g + length text) true m ts n) → Runs (gap_text g ++ (text ++ rest)) at direct minus (at_byte l (at + gap_len g) (stands g direct) ∷ ts) n
lex_one g text rest at direct minus l ts n lay tok go some k =
    runs_gap g (text ++ rest) at direct minus l (length text) ts n lay tok go some (omega (arith, length-append text rest))
    (subst (λ x. Runs x (at + gap_len g + length text) true (is_minus l) ts n) (sym (drop-append_seam text rest)) (k (is_minus l)))

-- ---- what may stand directly after a piece

abbrev pub Ends : Spell → List ℕ → Type 0
Ends (word r s) rest = ((is_alnum (last_of 256 s) && is_alnum (head_of rest)) ≡ false) × ((is_symbol (last_of 256 s) && is_symbol (head_of rest)) ≡ false)
Ends (in_quotes r s) rest = nat_eq (head_of rest) 39 ≡ false
Ends (number n) rest = (is_alnum (head_of rest) ≡ false) × (nat_eq (head_of rest) 39 ≡ false) × (nat_eq (head_of rest) 46 ≡ false)
Ends (negative_number n) rest = (is_alnum (head_of rest) ≡ false) × (nat_eq (head_of rest) 39 ≡ false) × (nat_eq (head_of rest) 46 ≡ false)
Ends (sign c) rest = Unit {0}
Ends square_pair rest = Unit {0}
Ends curly_pair rest = Unit {0}

record Lexed (s rest : List ℕ) : Type 0 where
  lay : layout_step (s ++ rest) ≡ no_layout
  tok : (m : Bool) → token_at false m (s ++ rest) ≡ found (name s) (length s)
  some : 1 ≤ length s

other_false : (a b : Bool) → a ≡ true → (a && b) ≡ false → b ≡ false
other_false true b h k = k
other_false false b h k = absurd (cc)

letters_lexed : (s rest : List ℕ) → is_lower (head_of s) ≡ true → list_all is_alnum s ≡ true → Ends (word ordinary s) rest → Lexed s rest
letters_lexed [] rest h all e = absurd (cc)
letters_lexed (c ∷ cs) rest h all e = record {
  lay = no_layout_at (c ∷ cs ++ rest) (letters_begin (c ∷ cs) rest h);
  tok = λ m. letters_token m (c ∷ cs) rest h all (other_false (is_alnum (last_of 256 (c ∷ cs))) _ (last-all is_alnum 256 (c ∷ cs) all (omega arith)) e.0);
  some = omega arith;
}

symbols_lexed : (s rest : List ℕ) → nat_lt 0 (length s) ≡ true → list_all is_symbol s ≡ true → starts 47 42 s ≡ false → same_text s (codes ".") ≡ false → Ends (word ordinary s) rest → Lexed s rest
symbols_lexed s rest some all h other e =
    let long : 0 < length s = ltb-true 0 (length s) some in
    let stops : is_symbol (head_of rest) ≡ false = other_false (is_symbol (last_of 256 s)) _ (last-all is_symbol 256 s all long) e.1 in
    record {
      lay = symbols_begin s rest some all h stops;
      tok = λ m. symbols_token m s rest some all other stops;
      some = omega arith;
    }

word_lexed : (s rest : List ℕ) → is_word s ≡ true → Ends (word ordinary s) rest → Lexed s rest
word_lexed s rest h e =
    let solo = same_text s (codes "!") || same_text s (codes ";") in
    let comment = if starts 47 42 s then false else true in
    let dot = if same_text s (codes ".") then false else true in
    let signs = nat_lt 0 (length s) && (list_all is_symbol s && (comment && dot)) in
    elim (or-either (is_lower (head_of s) && list_all is_alnum s) (signs || solo) h) [
      | inl a ↦ letters_lexed s rest (and-first (is_lower (head_of s)) (list_all is_alnum s) a) (and-second (is_lower (head_of s)) (list_all is_alnum s) a) e
      | inr b ↦ elim (or-either signs solo b) [
        | inl c ↦
            let all : (list_all is_symbol s && (comment && dot)) ≡ true = and-second (nat_lt 0 (length s)) (list_all is_symbol s && (comment && dot)) c in
            let two : (comment && dot) ≡ true = and-second (list_all is_symbol s) (comment && dot) all in
            symbols_lexed s rest (and-first (nat_lt 0 (length s)) (list_all is_symbol s && (comment && dot)) c) (and-first (list_all is_symbol s) (comment && dot) all) (not-true (starts 47 42 s) (and-first comment dot two)) (not-true (same_text s (codes ".")) (and-second comment dot two)) e
        | inr c ↦ elim (or-either (same_text s (codes "!")) (same_text s (codes ";")) c) [
          | inl f ↦ subst (λ x. Lexed x rest) (sym (same_text-true s (codes "!") f)) (record { lay = refl; tok = λ m. refl; some = omega arith })
          | inr f ↦ subst (λ x. Lexed x rest) (sym (same_text-true s (codes ";") f)) (record { lay = refl; tok = λ m. refl; some = omega arith })
        ]
      ]
    ]

abbrev SignLexed : ℕ → Type 0
SignLexed c = (rest : List ℕ) → (layout_step (c ∷ rest) ≡ no_layout) × ((m : Bool) → token_at false m (c ∷ rest) ≡ found (punctuation c) 1)

sign_case : (P : ℕ → Type 0) (c : ℕ) → P 40 → P 91 → P 123 → P 41 → P 93 → P 125 → P 44 → P 124 → is_sign_code c ≡ true → P c
sign_case P c p1 p2 p3 p4 p5 p6 p7 p8 h = elim (or-either (nat_eq c 40) _ h) [
  | inl e ↦ subst P (sym (eqb-true c 40 e)) p1
  | inr h2 ↦ elim (or-either (nat_eq c 91) _ h2) [
    | inl e ↦ subst P (sym (eqb-true c 91 e)) p2
    | inr h3 ↦ elim (or-either (nat_eq c 123) _ h3) [
      | inl e ↦ subst P (sym (eqb-true c 123 e)) p3
      | inr h4 ↦ elim (or-either (nat_eq c 41) _ h4) [
        | inl e ↦ subst P (sym (eqb-true c 41 e)) p4
        | inr h5 ↦ elim (or-either (nat_eq c 93) _ h5) [
          | inl e ↦ subst P (sym (eqb-true c 93 e)) p5
          | inr h6 ↦ elim (or-either (nat_eq c 125) _ h6) [
            | inl e ↦ subst P (sym (eqb-true c 125 e)) p6
            | inr h7 ↦ elim (or-either (nat_eq c 44) _ h7) [
              | inl e ↦ subst P (sym (eqb-true c 44 e)) p7
              | inr e ↦ subst P (sym (eqb-true c 124 e)) p8
            ]
          ]
        ]
      ]
    ]
  ]
]

sign_lexed : (c : ℕ) → is_sign_code c ≡ true → SignLexed c
sign_lexed c h = sign_case SignLexed c (λ rest. (refl, λ m. refl)) (λ rest. (refl, λ m. refl)) (λ rest. (refl, λ m. refl)) (λ rest. (refl, λ m. refl)) (λ rest. (refl, λ m. refl)) (λ rest. (refl, λ m. refl)) (λ rest. (refl, λ m. refl)) (λ rest. (refl, λ m. refl)) h

digit_no_symbol : (c : ℕ) → is_digit c ≡ true → is_symbol c ≡ false
digit_no_symbol c h = elim (bool_of (is_symbol c)) [
  | inr e ↦ e
  | inl e ↦ no_both h ((symbol_is c e).digit)
]

head-front : (s rest : List ℕ) → 0 < length s → head_of (s ++ rest) ≡ head_of s
head-front [] rest h = absurd (omega arith)
head-front (c ∷ cs) rest h = refl

minus_value : (n : ℕ) → n < 2 ^ 63 → (nat_lt (suc n) (2 ^ 63) || (true && nat_eq (suc n) (2 ^ 63))) ≡ true
minus_value n h = elim (bool_of (nat_lt (suc n) (2 ^ 63))) [
  | inl e ↦ ap (λ b. b || nat_eq (suc n) (2 ^ 63)) e
  | inr e ↦ ap (λ b. nat_lt (suc n) (2 ^ 63) || b) (eq-eqb (suc n) (2 ^ 63) (let f : 2 ^ 63 ≤ suc n = ltb-false (suc n) (2 ^ 63) e in omega arith)) ∙ or-true (nat_lt (suc n) (2 ^ 63))
]

decimal-suc_head : (n : ℕ) → n < 2 ^ 63 → is_symbol (head_of (decimal (suc n))) ≡ false
decimal-suc_head n h = digit_no_symbol (head_of (decimal (suc n))) (Rattle.writing_laws.proofs.Lexing.decimal-digit (suc n) (omega arith))

pub lexes : (g : Bool) (u : Spell) (rest : List ℕ) (at : ℕ) (direct minus : Bool) (ts : List (Token (List ℕ))) (n : ℕ) → IsSpell u → Ends u rest → ((m : Bool) → Runs rest (at + gap_len g + length (text_in u)) true m ts n) → Runs (gap_text g ++ (text_in u ++ rest)) at direct minus (tokens_in u (at + gap_len g) (stands g direct) ts) n
lexes g (word r s) rest at direct minus ts n h e k =
    let l = word_lexed s rest h e in
    lex_one g s rest at direct minus (name s) ts n l.lay l.tok refl l.some k
lexes g (in_quotes r s) rest at direct minus ts n h e k =
    lex_one g (quoted_text s) rest at direct minus (quoted s) ts n refl (λ m. quoted_token m s rest h e) refl (omega arith) k
lexes g (number v) rest at direct minus ts n h e k =
    lex_one g (decimal v) rest at direct minus (integer v) ts n (no_layout_at (decimal v ++ rest) (number_begins v rest (omega arith))) (λ m. number_token m v rest (omega arith) (ap (λ b. b || (m && nat_eq v (2 ^ 63))) (lt-ltb v (2 ^ 63) h)) e.0 e.1 e.2) refl (decimal-some v (omega arith)) k
lexes g (negative_number v) rest at direct minus ts n h e k =
    let ds = decimal (suc v) in
    let some : 0 < length ds = decimal-some (suc v) (omega arith) in
    let stops : is_symbol (head_of (ds ++ rest)) ≡ false = ap is_symbol (head-front ds rest some) ∙ decimal-suc_head v h in
    let len : length (ds ++ rest) ≡ length ds + length rest = length-append ds rest in
    runs_gap g (45 ∷ (ds ++ rest)) at direct minus (name (45 ∷ [])) 1 (at_byte (integer (suc v)) (at + gap_len g + 1) true ∷ ts) n
    (symbols_begin (45 ∷ []) (ds ++ rest) refl refl refl stops)
    (λ m. symbols_token m (45 ∷ []) (ds ++ rest) refl refl refl stops)
    refl (omega arith) (omega arith)
    (runs_direct (ds ++ rest) (at + gap_len g + 1) true true (integer (suc v)) (length ds) ts n (no_layout_at (ds ++ rest) (number_begins (suc v) rest (omega arith))) (number_token true (suc v) rest (omega arith) (minus_value v h) e.0 e.1 e.2) refl some (omega arith)
    (subst (λ x. Runs x (at + gap_len g + 1 + length ds) true false ts n) (sym (drop-append_seam ds rest))
    (subst (λ a. Runs rest a true false ts n) (let f : at + gap_len g + suc (length ds) ≡ at + gap_len g + 1 + length ds = omega arith in f) (k false))))
lexes g (sign c) rest at direct minus ts n h e k =
    let l = sign_lexed c h rest in
    lex_one g (c ∷ []) rest at direct minus (punctuation c) ts n l.0 l.1 refl (omega arith) k
lexes g square_pair rest at direct minus ts n h e k =
    runs_gap g (91 ∷ 93 ∷ rest) at direct minus (punctuation 91) 1 (at_byte (punctuation 93) (at + gap_len g + 1) true ∷ ts) n refl (λ m. refl) refl (omega arith) (omega arith)
    (runs_direct (93 ∷ rest) (at + gap_len g + 1) true false (punctuation 93) 1 ts n refl refl refl (omega arith) (omega arith)
    (subst (λ a. Runs rest a true false ts n) (let f : at + gap_len g + 2 ≡ at + gap_len g + 1 + 1 = omega arith in f) (k false)))
lexes g curly_pair rest at direct minus ts n h e k =
    runs_gap g (123 ∷ 125 ∷ rest) at direct minus (punctuation 123) 1 (at_byte (punctuation 125) (at + gap_len g + 1) true ∷ ts) n refl (λ m. refl) refl (omega arith) (omega arith)
    (runs_direct (125 ∷ rest) (at + gap_len g + 1) true false (punctuation 125) 1 ts n refl refl refl (omega arith) (omega arith)
    (subst (λ a. Runs rest a true false ts n) (let f : at + gap_len g + 2 ≡ at + gap_len g + 1 + 1 = omega arith in f) (k false)))

-- ---- what stands after a piece

spell-some : (u : Spell) → IsSpell u → 0 < length (text_in u)
spell-some (word r s) h = some s h
  where
    some : (s : List ℕ) → is_word s ≡ true → 0 < length s
    some [] h = absurd (cc)
    some (c ∷ cs) h = omega arith
spell-some (in_quotes r s) h = omega arith
spell-some (number n) h = decimal-some n (omega arith)
spell-some (negative_number n) h = omega arith
spell-some (sign c) h = omega arith
spell-some square_pair h = omega arith
spell-some curly_pair h = omega arith

ends_at_space : (u : Spell) (rest : List ℕ) → Ends u (32 ∷ rest)
ends_at_space (word r s) rest = (and-false (is_alnum (last_of 256 s)), and-false (is_symbol (last_of 256 s)))
ends_at_space (in_quotes r s) rest = refl
ends_at_space (number n) rest = (refl, refl, refl)
ends_at_space (negative_number n) rest = (refl, refl, refl)
ends_at_space (sign c) rest = tt
ends_at_space square_pair rest = tt
ends_at_space curly_pair rest = tt

-- Two pieces between which no space stands.
record Apart (u v : Spell) : Type 0 where
  letters : (is_alnum (last_of 256 (text_in u)) && is_alnum (head_of (text_in v))) ≡ false
  symbols : (is_symbol (last_of 256 (text_in u)) && is_symbol (head_of (text_in v))) ≡ false
  quotes : (nat_eq (last_of 256 (text_in u)) 39 && nat_eq (head_of (text_in v)) 39) ≡ false

apart_of : (u v : Spell) → is_parted (piece_in u) (piece_in v) ≡ false → Apart u v
apart_of u v h =
    let a = is_alnum (last_of 256 (text_in u)) && is_alnum (head_of (text_in v)) in
    let b = is_symbol (last_of 256 (text_in u)) && is_symbol (head_of (text_in v)) in
    let c = is_letters (piece_in u) || is_letters (piece_in v) in
    let d = is_sign_before (piece_in u) && same_text (text_in v) (codes "(") in
    let e = is_sign_before (piece_in u) && (same_text (text_in u) (codes "-") && is_digit (head_of (text_in v))) in
    let f = nat_eq (last_of 256 (text_in u)) 39 && nat_eq (head_of (text_in v)) 39 in
    record {
      letters = or-neither_first a (b || (c || (d || (e || f)))) h;
      symbols = or-neither_first b (c || (d || (e || f))) (or-neither_second a (b || (c || (d || (e || f)))) h);
      quotes = or-neither_second e f (or-neither_second d (e || f) (or-neither_second c (d || (e || f)) (or-neither_second b (c || (d || (e || f))) (or-neither_second a (b || (c || (d || (e || f)))) h))));
    }

last-append : (c : ℕ) (s : List ℕ) (d : ℕ) → last_of c (s ++ d ∷ []) ≡ d
last-append c [] d = refl
last-append c (b ∷ bs) d = last-append b bs d

apart_is : (v : Spell) → is_apart v ≡ true → (nat_eq (head_of (text_in v)) 39 ≡ false) × (nat_eq (head_of (text_in v)) 46 ≡ false)
apart_is v h =
    let x : (nat_eq (head_of (text_in v)) 39 || nat_eq (head_of (text_in v)) 46) ≡ false = not-true _ h in
    (or-neither_first (nat_eq (head_of (text_in v)) 39) _ x, or-neither_second (nat_eq (head_of (text_in v)) 39) _ x)

ends_at : (u v : Spell) → IsSpell u → Apart u v → ((is_numeric u ≡ true) → is_apart v ≡ true) → Ends u (text_in v)
ends_at (word r s) v h a k = (a.letters, a.symbols)
ends_at (in_quotes r s) v h a k = other_false (nat_eq (last_of 256 (quoted_text s)) 39) _ (ap (λ x. nat_eq x 39) (last-append 39 (flat_map escaped s) 39)) a.quotes
ends_at (number n) v h a k =
    let q = apart_is v (k refl) in
    (other_false (is_alnum (last_of 256 (decimal n))) _ (decimal-last 256 n (omega arith)) a.letters, q.0, q.1)
ends_at (negative_number n) v h a k =
    let q = apart_is v (k refl) in
    (other_false (is_alnum (last_of 45 (decimal (suc n)))) _ (decimal-last 45 (suc n) (omega arith)) a.letters, q.0, q.1)
ends_at (sign c) v h a k = tt
ends_at square_pair v h a k = tt
ends_at curly_pair v h a k = tt

ends_before : (u : Spell) (xs ys : List ℕ) → head_of xs ≡ head_of ys → Ends u xs → Ends u ys
ends_before (word r s) xs ys e h = (subst (λ c. (is_alnum (last_of 256 s) && is_alnum c) ≡ false) e h.0, subst (λ c. (is_symbol (last_of 256 s) && is_symbol c) ≡ false) e h.1)
ends_before (in_quotes r s) xs ys e h = subst (λ c. nat_eq c 39 ≡ false) e h
ends_before (number n) xs ys e h = (subst (λ c. is_alnum c ≡ false) e h.0, subst (λ c. nat_eq c 39 ≡ false) e h.1, subst (λ c. nat_eq c 46 ≡ false) e h.2)
ends_before (negative_number n) xs ys e h = (subst (λ c. is_alnum c ≡ false) e h.0, subst (λ c. nat_eq c 39 ≡ false) e h.1, subst (λ c. nat_eq c 46 ≡ false) e h.2)
ends_before (sign c) xs ys e h = tt
ends_before square_pair xs ys e h = tt
ends_before curly_pair xs ys e h = tt

-- the text after a piece, with the end
abbrev pub after_text : Spell → List Spell → List ℕ
after_text u vs = spaced_after (piece_in u) (pieces_in vs) ++ codes " ."

after-cons : (u v : Spell) (vs : List Spell) → after_text u (v ∷ vs) ≡ gap_text (is_parted (piece_in u) (piece_in v)) ++ (text_in v ++ after_text v vs)
after-cons u v vs =
    let g = gap_text (is_parted (piece_in u) (piece_in v)) in
    append_assoc (g ++ text_in v) (spaced_after (piece_in v) (pieces_in vs)) (codes " .") ∙ append_assoc g (text_in v) (after_text v vs)

ends_gap : (g : Bool) (u v : Spell) (rest : List ℕ) → is_parted (piece_in u) (piece_in v) ≡ g → IsSpell u → IsSpell v → ((is_numeric u ≡ true) → is_apart v ≡ true) → Ends u (gap_text g ++ (text_in v ++ rest))
ends_gap true u v rest e h k safe = ends_at_space u (text_in v ++ rest)
ends_gap false u v rest e h k safe = ends_before u (text_in v) (text_in v ++ rest) (sym (head-front (text_in v) rest (spell-some v k))) (ends_at u v h (apart_of u v e) safe)

pub ends_of : (u : Spell) (vs : List Spell) → IsSpell u → AreSpells vs → Safe u vs → Ends u (after_text u vs)
ends_of u [] h k safe = ends_at_space u (codes ".")
ends_of u (v ∷ vs) h k safe = subst (Ends u) (sym (after-cons u v vs)) (ends_gap (is_parted (piece_in u) (piece_in v)) u v (after_text v vs) refl h k.0 safe.0)

tokens-more : (u : Spell) (at : ℕ) (direct : Bool) (ts us : List (Token (List ℕ))) → tokens_in u at direct ts ++ us ≡ tokens_in u at direct (ts ++ us)
tokens-more (word r s) at direct ts us = refl
tokens-more (in_quotes r s) at direct ts us = refl
tokens-more (number n) at direct ts us = refl
tokens-more (negative_number n) at direct ts us = refl
tokens-more (sign c) at direct ts us = refl
tokens-more square_pair at direct ts us = refl
tokens-more curly_pair at direct ts us = refl

pub tokens_in-more : (u : Spell) (at : ℕ) (direct : Bool) (ts us : List (Token (List ℕ))) → tokens_in u at direct ts ++ us ≡ tokens_in u at direct (ts ++ us)
tokens_in-more = tokens-more

abbrev pub end_tokens : ℕ → List (Token (List ℕ))
end_tokens e = at_byte stop (e + 1) false ∷ []

pub chain : (vs : List Spell) (u : Spell) (at e : ℕ) → AreSpells vs → Safe u vs → at + length (spaced_after (piece_in u) (pieces_in vs)) ≡ e → (m : Bool) → Runs (after_text u vs) at true m (tokens_after at u vs ++ end_tokens e) (e + 2)
chain [] u at e h safe total m =
    let same : at ≡ e = omega arith in
    subst (λ x. Runs (codes " .") at true m (at_byte stop (x + 1) false ∷ []) (x + 2)) same (runs_end at true m)
chain (v ∷ vs) u at e h safe total m =
    let g = is_parted (piece_in u) (piece_in v) in
    let next = at + gap_len g + length (text_in v) in
    let tail = spaced_after (piece_in v) (pieces_in vs) in
    let lens : length ((gap_text g ++ text_in v) ++ tail) ≡ length (gap_text g) + length (text_in v) + length tail = omega (arith, length-append (gap_text g ++ text_in v) tail, length-append (gap_text g) (text_in v)) in
    let gaps : length (gap_text g) ≡ gap_len g = gap-length g in
    subst (λ x. Runs x at true m (tokens_after at u (v ∷ vs) ++ end_tokens e) (e + 2)) (sym (after-cons u v vs))
    (subst (λ x. Runs (gap_text g ++ (text_in v ++ after_text v vs)) at true m x (e + 2)) (sym (tokens-more v (at + gap_len g) (stands g true) (tokens_after next v vs) (end_tokens e)))
    (lexes g v (after_text v vs) at true m (tokens_after next v vs ++ end_tokens e) (e + 2) h.0 (ends_of v vs h.0 h.1 safe.1)
    (λ m2. chain vs v next e h.1 safe.1 (omega arith) m2)))
  where
    gap-length : (g : Bool) → length (gap_text g) ≡ gap_len g
    gap-length true = refl
    gap-length false = refl

-- ---- UTF-8

abbrev low : ℕ → Bool
low b = nat_lt b 128

all_weaker : (p q : ℕ → Bool) (s : List ℕ) → ((c : ℕ) → p c ≡ true → q c ≡ true) → list_all p s ≡ true → list_all q s ≡ true
all_weaker p q [] h k = refl
all_weaker p q (c ∷ cs) h k = and-both (q c) _ (h c (and-first (p c) _ k)) (all_weaker p q cs h (and-second (p c) _ k))

symbol_low : (c : ℕ) → is_symbol c ≡ true → low c ≡ true
symbol_low c h = any_of low (35 ∷ 36 ∷ 38 ∷ 42 ∷ 43 ∷ 45 ∷ 46 ∷ 47 ∷ 58 ∷ 60 ∷ 61 ∷ 62 ∷ 63 ∷ 64 ∷ 94 ∷ 126 ∷ 92 ∷ []) c h refl

alnum_low : (c : ℕ) → is_alnum c ≡ true → low c ≡ true
alnum_low c h = lt-ltb c 128 (Rattle.writing_laws.proofs.Lexing.alnum-below c h)

word_low : (s : List ℕ) → is_word s ≡ true → list_all low s ≡ true
word_low s h =
    let solo = same_text s (codes "!") || same_text s (codes ";") in
    let comment = if starts 47 42 s then false else true in
    let dot = if same_text s (codes ".") then false else true in
    let signs = nat_lt 0 (length s) && (list_all is_symbol s && (comment && dot)) in
    elim (or-either (is_lower (head_of s) && list_all is_alnum s) (signs || solo) h) [
      | inl a ↦ all_weaker is_alnum low s alnum_low (and-second (is_lower (head_of s)) (list_all is_alnum s) a)
      | inr b ↦ elim (or-either signs solo b) [
        | inl c ↦ all_weaker is_symbol low s symbol_low (and-first (list_all is_symbol s) (comment && dot) (and-second (nat_lt 0 (length s)) (list_all is_symbol s && (comment && dot)) c))
        | inr c ↦ elim (or-either (same_text s (codes "!")) (same_text s (codes ";")) c) [
          | inl f ↦ subst (λ x. list_all low x ≡ true) (sym (same_text-true s (codes "!") f)) refl
          | inr f ↦ subst (λ x. list_all low x ≡ true) (sym (same_text-true s (codes ";") f)) refl
        ]
      ]
    ]

utf8_spell : (u : Spell) → IsSpell u → IsUtf8 (text_in u)
utf8_spell (word r s) h = utf8-ascii s (word_low s h)
utf8_spell (in_quotes r s) h = utf8-quoted s h
utf8_spell (number n) h = utf8-ascii (decimal n) (all_weaker is_alnum low (decimal n) alnum_low (Rattle.writing_laws.proofs.Lexing.decimal-alnum n (omega arith)))
utf8_spell (negative_number n) h = utf8-ascii (45 ∷ decimal (suc n)) (all_weaker is_alnum low (decimal (suc n)) alnum_low (Rattle.writing_laws.proofs.Lexing.decimal-alnum (suc n) (omega arith)))
utf8_spell (sign c) h = utf8-ascii (c ∷ []) (sign_case (λ x. (low x && true) ≡ true) c refl refl refl refl refl refl refl refl h)
utf8_spell square_pair h = utf8-ascii (codes "[]") refl
utf8_spell curly_pair h = utf8-ascii (codes "{}") refl

utf8_gap : (g : Bool) → IsUtf8 (gap_text g)
utf8_gap true = utf8-ascii (32 ∷ []) refl
utf8_gap false = utf8-ascii [] refl

pub utf8_after : (u : Spell) (vs : List Spell) → AreSpells vs → IsUtf8 (after_text u vs)
utf8_after u [] h = utf8-ascii (codes " .") refl
utf8_after u (v ∷ vs) h = subst IsUtf8 (sym (after-cons u v vs)) (IsUtf8-append (gap_text (is_parted (piece_in u) (piece_in v))) (text_in v ++ after_text v vs) (utf8_gap (is_parted (piece_in u) (piece_in v))) (IsUtf8-append (text_in v) (after_text v vs) (utf8_spell v h.0) (utf8_after v vs h.1)))

pub utf8_all : (u : Spell) (vs : List Spell) → IsSpell u → AreSpells vs → IsUtf8 (text_in u ++ after_text u vs)
utf8_all u vs h k = IsUtf8-append (text_in u) (after_text u vs) (utf8_spell u h) (utf8_after u vs k)
