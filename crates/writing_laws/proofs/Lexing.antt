-- The tokens of pieces, whatever follows them.
use Rattle.std.proofs.Common.{◌≡◌, ℕ, ◌+◌, ◌-◌, ◌*◌, ◌≤◌, ◌<◌, ◌^◌, List, [], ◌∷◌, ◌++◌, length, drop, Bool, true, false, ◌&&◌, ◌||◌, if◌then◌else◌, cond, refl, sym, ap, ◌∙◌, arith, subst, inl, inr, nat_eq, nat_lt, nat_le}
use Rattle.std.specs.Prelude.{codes}
use Rattle.std.specs.Fmt.{decimal}
use Rattle.std.specs.Char.{digit_value as std_digit_value}
use Rattle.std.specs.Int.{IsInRange}
use Rattle.std.specs.Str.Parse.{AllDigits, IsNumeral, digits_value, digits_value_after}
use Rattle.std.specs.List.{list_all, list_any, take_while}
use Rattle.std.proofs.lemmas.Bool.{eqb-true, leb-true, le-leb, lt-ltb, le-ltb, lt-leb, ne_eqb}
use Rattle.std.proofs.lemmas.List.Sums.{take_while-cons}
use Rattle.std.proofs.Math.Seq.{drop-append_seam}
use Rattle.std.proofs.lemmas.Fmt.{decimal_is_IsNumeral}
use Rattle.std.proofs.lemmas.Str.Parse.{digit_from_value}
use Rattle.text_model.specs.Tokens.{Lexeme, name, quoted, variable, integer, text_codes, punctuation, stop, Found, found, fault, token_at, is_lower, is_upper, is_digit, is_alnum, is_symbol, is_punctuation, is_layout, is_end, ends_sentence, number_at, no_layout, layout, layout_step, line_len, block_step, block_len, head_of, starts, is_digit_of, digit_value, value_after, integer_of, based, char_literal, quoted_item}
use Rattle.text_model.specs.Tokens as tokens
use Rattle.text_model.specs.Writing.{last_of}
use Rattle.pl_ops.specs.Tables.{same_text}
use Rattle.writing_laws.proofs.Bools.{bool_of, no_both, and-false, or-true, and-first, and-second, and-both, or-neither_first, or-neither_second, or-either, if_true, if_false, not-true}

-- ---- lists of characters

take_while_none : (p : ℕ → Bool) (rest : List ℕ) → p (head_of rest) ≡ false → take_while p rest ≡ []
take_while_none p [] h = refl
take_while_none p (r ∷ rs) h = take_while-cons p r rs ∙ ap (λ b. cond b (r ∷ take_while p rs) []) h

pub take_while_front : (p : ℕ → Bool) (s rest : List ℕ) → list_all p s ≡ true → p (head_of rest) ≡ false → take_while p (s ++ rest) ≡ s
take_while_front p [] rest all stops = take_while_none p rest stops
take_while_front p (c ∷ cs) rest all stops =
    take_while-cons p c (cs ++ rest)
    ∙ ap (λ b. cond b (c ∷ take_while p (cs ++ rest)) []) (and-first (p c) _ all)
    ∙ ap (λ l. c ∷ l) (take_while_front p cs rest (and-second (p c) _ all) stops)

-- what holds of each of a few codes holds of any of them
pub any_of : (f : ℕ → Bool) (cs : List ℕ) (c : ℕ) → list_any (λ x. nat_eq x c) cs ≡ true → list_all f cs ≡ true → f c ≡ true
any_of f [] c h k = absurd (cc)
any_of f (x ∷ xs) c h k = elim (bool_of (nat_eq x c)) [
  | inl e ↦ subst (λ y. f y ≡ true) (eqb-true x c e) (and-first (f x) _ k)
  | inr e ↦ any_of f xs c (sym (ap (λ b. b || list_any (λ x. nat_eq x c) xs) e) ∙ h) (and-second (f x) _ k)
]

-- ---- words of letters

-- a small letter is no layout, and begins no comment
abbrev pub begins_token : ℕ → Bool
begins_token c = (if is_layout c then false else true) && ((if nat_eq c 37 then false else true) && (if nat_eq c 47 then false else true))

pub no_layout_at : (bs : List ℕ) → begins_token (head_of bs) ≡ true → layout_step bs ≡ no_layout
no_layout_at bs h =
    let c = head_of bs in
    let a : is_layout c ≡ false = not-true (is_layout c) (and-first _ _ h) in
    let p : nat_eq c 37 ≡ false = not-true (nat_eq c 37) (and-first (if nat_eq c 37 then false else true) (if nat_eq c 47 then false else true) (and-second (if is_layout c then false else true) _ h)) in
    let s : nat_eq c 47 ≡ false = not-true (nat_eq c 47) (and-second (if nat_eq c 37 then false else true) (if nat_eq c 47 then false else true) (and-second (if is_layout c then false else true) _ h)) in
    if_false (is_layout c) (layout 0) _ a
    ∙ if_false (nat_eq c 37) (layout (line_len (drop 1 bs))) _ p
    ∙ if_false (starts 47 42 bs) (block_step (block_len (drop 2 bs))) no_layout (ap (λ b. b && nat_eq (head_of (drop 1 bs)) 42) s)

in_range : (lo hi c : ℕ) → (nat_le lo c && nat_le c hi) ≡ true → (lo ≤ c) × (c ≤ hi)
in_range lo hi c h = (leb-true lo c (and-first _ _ h), leb-true c hi (and-second _ _ h))

not_eq : (c k : ℕ) → (c ≡ k → ⊥) → (if nat_eq c k then false else true) ≡ true
not_eq c k h = if_false (nat_eq c k) false true (ne_eqb c k h)

high_begins : (c : ℕ) → 48 ≤ c → begins_token c ≡ true
high_begins c h =
    let a : is_layout c ≡ false = ap (λ b. b || (nat_le 9 c && nat_le c 13)) (ne_eqb c 32 (λ e. omega arith)) ∙ ap (λ b. nat_le 9 c && b) (lt-leb c 13 (omega arith)) ∙ and-false (nat_le 9 c) in
    and-both (if is_layout c then false else true) _ (if_false (is_layout c) false true a) (and-both (if nat_eq c 37 then false else true) (if nat_eq c 47 then false else true) (not_eq c 37 (λ e. omega arith)) (not_eq c 47 (λ e. omega arith)))

pub letters_begin : (s rest : List ℕ) → is_lower (head_of s) ≡ true → begins_token (head_of (s ++ rest)) ≡ true
letters_begin [] rest h = absurd (cc)
letters_begin (c ∷ cs) rest h = high_begins c (let r = in_range 97 122 c h in omega (arith, r.0))

pub letters_token : (minus : Bool) (s rest : List ℕ) → is_lower (head_of s) ≡ true → list_all is_alnum s ≡ true → is_alnum (head_of rest) ≡ false → token_at false minus (s ++ rest) ≡ found (name s) (length s)
letters_token minus [] rest h all stops = absurd (cc)
letters_token minus (c ∷ cs) rest h all stops =
    if_true (is_lower c) (found (name (take_while is_alnum (c ∷ cs ++ rest))) (length (take_while is_alnum (c ∷ cs ++ rest)))) _ h
    ∙ ap (λ w. found (name w) (length w)) (take_while_front is_alnum (c ∷ cs) rest all stops)

-- ---- words of symbols

abbrev is_plain_symbol : ℕ → Bool
is_plain_symbol c =
    (if is_lower c then false else true) && ((if is_upper c then false else true) && ((if is_digit c then false else true) && ((if nat_eq c 39 then false else true) && ((if nat_eq c 34 then false else true)
    && ((if is_punctuation c then false else true) && ((if nat_eq c 33 || nat_eq c 59 then false else true) && ((if is_layout c then false else true) && (if nat_eq c 37 then false else true))))))))

pub record IsSymbol (c : ℕ) : Type 0 where
  pub lower : is_lower c ≡ false
  pub upper : is_upper c ≡ false
  pub digit : is_digit c ≡ false
  pub quote : nat_eq c 39 ≡ false
  pub double : nat_eq c 34 ≡ false
  pub punct : is_punctuation c ≡ false
  pub solo : (nat_eq c 33 || nat_eq c 59) ≡ false
  pub lay : is_layout c ≡ false
  pub percent : nat_eq c 37 ≡ false

abbrev both : Bool → Bool → Bool
both a b = (if a then false else true) && b

both-first : (a b : Bool) → both a b ≡ true → a ≡ false
both-first true b h = absurd (cc)
both-first false b h = refl

both-second : (a b : Bool) → both a b ≡ true → b ≡ true
both-second true b h = absurd (cc)
both-second false b h = h

pub symbol_is : (c : ℕ) → is_symbol c ≡ true → IsSymbol c
symbol_is c h =
    let s9 = nat_eq c 37 in
    let p1 : is_plain_symbol c ≡ true = any_of is_plain_symbol (35 ∷ 36 ∷ 38 ∷ 42 ∷ 43 ∷ 45 ∷ 46 ∷ 47 ∷ 58 ∷ 60 ∷ 61 ∷ 62 ∷ 63 ∷ 64 ∷ 94 ∷ 126 ∷ 92 ∷ []) c h refl in
    let p2 = both-second (is_lower c) (both (is_upper c) (both (is_digit c) (both (nat_eq c 39) (both (nat_eq c 34) (both (is_punctuation c) (both (nat_eq c 33 || nat_eq c 59) (both (is_layout c) (if s9 then false else true)))))))) p1 in
    let p3 = both-second (is_upper c) (both (is_digit c) (both (nat_eq c 39) (both (nat_eq c 34) (both (is_punctuation c) (both (nat_eq c 33 || nat_eq c 59) (both (is_layout c) (if s9 then false else true))))))) p2 in
    let p4 = both-second (is_digit c) (both (nat_eq c 39) (both (nat_eq c 34) (both (is_punctuation c) (both (nat_eq c 33 || nat_eq c 59) (both (is_layout c) (if s9 then false else true)))))) p3 in
    let p5 = both-second (nat_eq c 39) (both (nat_eq c 34) (both (is_punctuation c) (both (nat_eq c 33 || nat_eq c 59) (both (is_layout c) (if s9 then false else true))))) p4 in
    let p6 = both-second (nat_eq c 34) (both (is_punctuation c) (both (nat_eq c 33 || nat_eq c 59) (both (is_layout c) (if s9 then false else true)))) p5 in
    let p7 = both-second (is_punctuation c) (both (nat_eq c 33 || nat_eq c 59) (both (is_layout c) (if s9 then false else true))) p6 in
    let p8 = both-second (nat_eq c 33 || nat_eq c 59) (both (is_layout c) (if s9 then false else true)) p7 in
    let p9 = both-second (is_layout c) (if s9 then false else true) p8 in
    record {
      lower = both-first (is_lower c) _ p1;
      upper = both-first (is_upper c) _ p2;
      digit = both-first (is_digit c) _ p3;
      quote = both-first (nat_eq c 39) _ p4;
      double = both-first (nat_eq c 34) _ p5;
      punct = both-first (is_punctuation c) _ p6;
      solo = both-first (nat_eq c 33 || nat_eq c 59) _ p7;
      lay = both-first (is_layout c) _ p8;
      percent = not-true s9 p9;
    }

-- a full stop that is not alone among symbols is no end
no_end : (c : ℕ) (cs rest : List ℕ) → list_all is_symbol (c ∷ cs) ≡ true → same_text (c ∷ cs) (codes ".") ≡ false → is_end false ((c ∷ cs) ++ rest) ≡ false
no_end c [] rest all other = ap (λ b. b && ends_sentence false (head_of rest)) (sym (and-true' (nat_eq c 46)) ∙ other)
  where
    and-true' : (b : Bool) → (b && true) ≡ b
    and-true' true = refl
    and-true' false = refl
no_end c (d ∷ ds) rest all other =
    let s : is_symbol d ≡ true = and-first _ _ (and-second (is_symbol c) _ all) in
    let k = symbol_is d s in
    let inside : nat_eq d 256 ≡ false = not-true (nat_eq d 256) (any_of (λ x. if nat_eq x 256 then false else true) (35 ∷ 36 ∷ 38 ∷ 42 ∷ 43 ∷ 45 ∷ 46 ∷ 47 ∷ 58 ∷ 60 ∷ 61 ∷ 62 ∷ 63 ∷ 64 ∷ 94 ∷ 126 ∷ 92 ∷ []) d s refl) in
    let stays : ends_sentence false d ≡ false = if_false (nat_eq d 256) true (is_layout d || nat_eq d 37) inside ∙ ap (λ b. b || nat_eq d 37) k.lay ∙ k.percent in
    ap (λ b. nat_eq c 46 && b) stays ∙ and-false (nat_eq c 46)

pub symbols_token : (minus : Bool) (s rest : List ℕ) → nat_lt 0 (length s) ≡ true → list_all is_symbol s ≡ true → same_text s (codes ".") ≡ false → is_symbol (head_of rest) ≡ false → token_at false minus (s ++ rest) ≡ found (name s) (length s)
symbols_token minus [] rest some all other stops = absurd (cc)
symbols_token minus (c ∷ cs) rest some all other stops =
    let k = symbol_is c (and-first (is_symbol c) _ all) in
    let bs = c ∷ cs ++ rest in
    if_false (is_lower c) (found (name (take_while is_alnum bs)) (length (take_while is_alnum bs))) _ k.lower
    ∙ if_false (is_upper c) (found (variable (take_while is_alnum bs)) (length (take_while is_alnum bs))) _ k.upper
    ∙ if_false (is_digit c) (number_at minus bs) _ k.digit
    ∙ if_false (nat_eq c 39) (quoted_item false quoted bs) _ k.quote
    ∙ if_false (nat_eq c 34) (quoted_item false text_codes bs) _ k.double
    ∙ if_false (is_punctuation c) (found (punctuation c) 1) _ k.punct
    ∙ if_false (nat_eq c 33 || nat_eq c 59) (found (name (c ∷ [])) 1) _ k.solo
    ∙ if_false (is_end false bs) (found stop 1) _ (no_end c cs rest all other)
    ∙ if_true (is_symbol c) (found (name (take_while is_symbol bs)) (length (take_while is_symbol bs))) (fault 2 0) (and-first (is_symbol c) _ all)
    ∙ ap (λ w. found (name w) (length w)) (take_while_front is_symbol (c ∷ cs) rest all stops)

no_comment : (c : ℕ) (cs rest : List ℕ) → starts 47 42 (c ∷ cs) ≡ false → is_symbol (head_of rest) ≡ false → starts 47 42 ((c ∷ cs) ++ rest) ≡ false
no_comment c [] rest h stops = elim (bool_of (nat_eq (head_of rest) 42)) [
  | inl e ↦ no_both (ap is_symbol (eqb-true (head_of rest) 42 e)) stops
  | inr e ↦ ap (λ b. nat_eq c 47 && b) e ∙ and-false (nat_eq c 47)
]
no_comment c (d ∷ ds) rest h stops = h

pub symbols_begin : (s rest : List ℕ) → nat_lt 0 (length s) ≡ true → list_all is_symbol s ≡ true → starts 47 42 s ≡ false → is_symbol (head_of rest) ≡ false → layout_step (s ++ rest) ≡ no_layout
symbols_begin [] rest some all h stops = absurd (cc)
symbols_begin (c ∷ cs) rest some all h stops =
    let k = symbol_is c (and-first (is_symbol c) _ all) in
    let bs = c ∷ cs ++ rest in
    if_false (is_layout c) (layout 0) _ k.lay
    ∙ if_false (nat_eq c 37) (layout (line_len (drop 1 bs))) _ k.percent
    ∙ if_false (starts 47 42 bs) (block_step (block_len (drop 2 bs))) no_layout (no_comment c cs rest h stops)

-- ---- numbers

std-digit : (c : ℕ) → 48 ≤ c → c ≤ 57 → std_digit_value c ≡ c - 48
std-digit c low high =
    ap (λ b. cond b 36 (cond (nat_lt c 58) (c - 48) (cond (nat_lt c 65) 36 (cond (nat_lt c 91) (c - 55) (cond (nat_lt c 97) 36 (cond (nat_lt c 123) (c - 87) 36)))))) (le-ltb c 48 low)
    ∙ ap (λ b. cond b (c - 48) (cond (nat_lt c 65) 36 (cond (nat_lt c 91) (c - 55) (cond (nat_lt c 97) 36 (cond (nat_lt c 123) (c - 87) 36))))) (lt-ltb c 58 (omega arith))

is-digit : (c : ℕ) → 48 ≤ c → c ≤ 57 → is_digit c ≡ true
is-digit c low high = and-both (nat_le 48 c) (nat_le c 57) (le-leb 48 c low) (le-leb c 57 high)

our-digit : (c : ℕ) → 48 ≤ c → c ≤ 57 → digit_value c ≡ c - 48
our-digit c low high = if_true (is_digit c) (c - 48) _ (is-digit c low high)

is-digit_of : (c : ℕ) → 48 ≤ c → c ≤ 57 → is_digit_of 10 c ≡ true
is-digit_of c low high =
    and-both (is_digit c || ((nat_le 97 c && nat_le c 102) || (nat_le 65 c && nat_le c 70))) (nat_lt (digit_value c) 10)
    (ap (λ b. b || ((nat_le 97 c && nat_le c 102) || (nat_le 65 c && nat_le c 70))) (is-digit c low high))
    (ap (λ n. nat_lt n 10) (our-digit c low high) ∙ lt-ltb (c - 48) 10 (omega arith))

pub range_of : (c : ℕ) → std_digit_value c < 10 → (48 ≤ c) × (c ≤ 57)
range_of c h = let r : IsInRange 48 57 c = digit_from_value c h in (r.0, r.1)

all_digits : (ds : List ℕ) → AllDigits 10 ds → list_all (is_digit_of 10) ds ≡ true
all_digits [] h = refl
all_digits (c ∷ cs) h = and-both (is_digit_of 10 c) _ (let r = range_of c h.0 in is-digit_of c r.0 r.1) (all_digits cs h.1)

value_is : (n : ℕ) (ds : List ℕ) → AllDigits 10 ds → value_after 10 n ds ≡ digits_value_after 10 n ds
value_is n [] h = refl
value_is n (c ∷ cs) h =
    let r = range_of c h.0 in
    ap (λ d. value_after 10 (n * 10 + d) cs) (our-digit c r.0 r.1 ∙ sym (std-digit c r.0 r.1)) ∙ value_is (n * 10 + std_digit_value c) cs h.1

-- what may stand after a first digit: no quote, and no letter of a base
abbrev is_harmless : ℕ → Bool
is_harmless d = (if nat_eq d 39 then false else true) && ((if nat_eq d 120 then false else true) && ((if nat_eq d 111 then false else true) && (if nat_eq d 98 then false else true)))

digit_harmless : (d : ℕ) → d ≤ 57 → 48 ≤ d → is_harmless d ≡ true
digit_harmless d h low =
    and-both (if nat_eq d 39 then false else true) _ (not_eq d 39 (λ e. omega arith))
    (and-both (if nat_eq d 120 then false else true) _ (not_eq d 120 (λ e. omega arith))
    (and-both (if nat_eq d 111 then false else true) (if nat_eq d 98 then false else true) (not_eq d 111 (λ e. omega arith)) (not_eq d 98 (λ e. omega arith))))

no_letter : (d k : ℕ) → is_alnum k ≡ true → is_alnum d ≡ false → (if nat_eq d k then false else true) ≡ true
no_letter d k h none = not_eq d k (λ e. no_both h (ap is_alnum (sym e) ∙ none))

other_harmless : (d : ℕ) → is_alnum d ≡ false → nat_eq d 39 ≡ false → is_harmless d ≡ true
other_harmless d h q =
    and-both (if nat_eq d 39 then false else true) _ (if_false (nat_eq d 39) false true q)
    (and-both (if nat_eq d 120 then false else true) _ (no_letter d 120 refl h)
    (and-both (if nat_eq d 111 then false else true) (if nat_eq d 98 then false else true) (no_letter d 111 refl h) (no_letter d 98 refl h)))

no_start : (k d : ℕ) (bs : List ℕ) (b : Bool) → nat_eq (head_of (drop 1 bs)) d ≡ false → (starts k d bs && b) ≡ false
no_start k d bs b h = ap (λ x. (nat_eq (head_of bs) k && x) && b) h ∙ ap (λ x. x && b) (and-false (nat_eq (head_of bs) k))

no_start_alone : (k d : ℕ) (bs : List ℕ) → nat_eq (head_of (drop 1 bs)) d ≡ false → starts k d bs ≡ false
no_start_alone k d bs h = ap (λ x. nat_eq (head_of bs) k && x) h ∙ and-false (nat_eq (head_of bs) k)

second_harmless : (c : ℕ) (cs rest : List ℕ) → AllDigits 10 (c ∷ cs) → is_alnum (head_of rest) ≡ false → nat_eq (head_of rest) 39 ≡ false → is_harmless (head_of (cs ++ rest)) ≡ true
second_harmless c [] rest h a q = other_harmless (head_of rest) a q
second_harmless c (d ∷ ds) rest h a q = let r = range_of d h.1.0 in digit_harmless d r.1 r.0

decimal_token : (minus : Bool) (ds rest : List ℕ) (n : ℕ) → AllDigits 10 ds → digits_value 10 ds ≡ n → is_digit_of 10 (head_of rest) ≡ false → nat_eq (head_of rest) 46 ≡ false → (nat_lt n (2 ^ 63) || (minus && nat_eq n (2 ^ 63))) ≡ true → tokens.decimal {V = List ℕ} minus (ds ++ rest) ≡ found (integer n) (length ds)
decimal_token minus ds rest n all value stops dot small =
    ap of_digits (take_while_front (is_digit_of 10) ds rest (all_digits ds all) stops)
    ∙ ap (λ after. if nat_eq (head_of after) 46 && is_digit (head_of (drop 1 after)) then fault 4 0 else integer_of minus (value_after 10 0 ds) (length ds)) (drop-append_seam ds rest)
    ∙ if_false (nat_eq (head_of rest) 46 && is_digit (head_of (drop 1 rest))) (fault 4 0) (integer_of minus (value_after 10 0 ds) (length ds)) (ap (λ b. b && is_digit (head_of (drop 1 rest))) dot)
    ∙ ap (λ v. integer_of {V = List ℕ} minus v (length ds)) (value_is 0 ds all ∙ value)
    ∙ if_true (nat_lt n (2 ^ 63) || (minus && nat_eq n (2 ^ 63))) (found (integer n) (length ds)) (fault 3 0) small
  where
    of_digits : List ℕ → Found (Lexeme (List ℕ))
    of_digits digits =
        let after = drop (length digits) (ds ++ rest) in
        if nat_eq (head_of after) 46 && is_digit (head_of (drop 1 after)) then fault 4 0
        else integer_of minus (value_after 10 0 digits) (length digits)

no_alnum_digit : (c : ℕ) → is_alnum c ≡ false → is_digit_of 10 c ≡ false
no_alnum_digit c h = elim (bool_of (is_digit_of 10 c)) [
  | inr e ↦ e
  | inl e ↦
      let low : is_lower c ≡ false = or-neither_first (is_lower c) _ h in
      let rest : (is_upper c || is_digit c) ≡ false = or-neither_second (is_lower c) _ h in
      let up : is_upper c ≡ false = or-neither_first (is_upper c) _ rest in
      let dig : is_digit c ≡ false = or-neither_second (is_upper c) _ rest in
      let kinds : (is_digit c || ((nat_le 97 c && nat_le c 102) || (nat_le 65 c && nat_le c 70))) ≡ true = and-first _ (nat_lt (digit_value c) 10) e in
      let two : ((nat_le 97 c && nat_le c 102) || (nat_le 65 c && nat_le c 70)) ≡ true = sym (ap (λ b. b || ((nat_le 97 c && nat_le c 102) || (nat_le 65 c && nat_le c 70))) dig) ∙ kinds in
      elim (or-either (nat_le 97 c && nat_le c 102) (nat_le 65 c && nat_le c 70) two) [
        | inl f ↦ let r = in_range 97 102 c f in no_both (and-both (nat_le 97 c) (nat_le c 122) (le-leb 97 c r.0) (le-leb c 122 (omega (arith, r.1)))) low
        | inr f ↦ let r = in_range 65 70 c f in no_both (ap (λ b. b || nat_eq c 95) (and-both (nat_le 65 c) (nat_le c 90) (le-leb 65 c r.0) (le-leb c 90 (omega (arith, r.1))))) up
      ]
]

digit_no_lower : (c : ℕ) → c ≤ 57 → is_lower c ≡ false
digit_no_lower c h = ap (λ b. b && nat_le c 122) (lt-leb 97 c (omega arith))

digit_no_upper : (c : ℕ) → c ≤ 57 → is_upper c ≡ false
digit_no_upper c h = ap (λ b. (b && nat_le c 90) || nat_eq c 95) (lt-leb 65 c (omega arith)) ∙ ne_eqb c 95 (λ e. omega arith)

digits_token : (minus : Bool) (ds rest : List ℕ) (n : ℕ) → IsNumeral 10 ds → digits_value 10 ds ≡ n → is_alnum (head_of rest) ≡ false → nat_eq (head_of rest) 39 ≡ false → nat_eq (head_of rest) 46 ≡ false → (nat_lt n (2 ^ 63) || (minus && nat_eq n (2 ^ 63))) ≡ true → token_at false minus (ds ++ rest) ≡ found (integer n) (length ds)
digits_token minus [] rest n h value a q dot small = absurd (omega (arith, h.0))
digits_token minus (c ∷ cs) rest n h value a q dot small =
    let r = range_of c h.1.0 in
    let bs = c ∷ cs ++ rest in
    let harm : is_harmless (head_of (cs ++ rest)) ≡ true = second_harmless c cs rest h.1 a q in
    let d = head_of (cs ++ rest) in
    let h39 : nat_eq d 39 ≡ false = not-true (nat_eq d 39) (and-first (if nat_eq d 39 then false else true) _ harm) in
    let harm2 : ((if nat_eq d 120 then false else true) && ((if nat_eq d 111 then false else true) && (if nat_eq d 98 then false else true))) ≡ true = and-second (if nat_eq d 39 then false else true) _ harm in
    let h120 : nat_eq d 120 ≡ false = not-true (nat_eq d 120) (and-first (if nat_eq d 120 then false else true) _ harm2) in
    let harm3 : ((if nat_eq d 111 then false else true) && (if nat_eq d 98 then false else true)) ≡ true = and-second (if nat_eq d 120 then false else true) _ harm2 in
    let h111 : nat_eq d 111 ≡ false = not-true (nat_eq d 111) (and-first (if nat_eq d 111 then false else true) _ harm3) in
    let h98 : nat_eq d 98 ≡ false = not-true (nat_eq d 98) (and-second (if nat_eq d 111 then false else true) _ harm3) in
    if_false (is_lower c) (found (name (take_while is_alnum bs)) (length (take_while is_alnum bs))) _ (digit_no_lower c r.1)
    ∙ if_false (is_upper c) (found (variable (take_while is_alnum bs)) (length (take_while is_alnum bs))) _ (digit_no_upper c r.1)
    ∙ if_true (is_digit c) _ _ (is-digit c r.0 r.1)
    ∙ if_false (starts 48 39 bs) (char_literal bs) _ (no_start_alone 48 39 bs h39)
    ∙ if_false (starts 48 120 bs && is_digit_of 16 (head_of (drop 2 bs))) (based minus 16 bs) _ (no_start 48 120 bs (is_digit_of 16 (head_of (drop 2 bs))) h120)
    ∙ if_false (starts 48 111 bs && is_digit_of 8 (head_of (drop 2 bs))) (based minus 8 bs) _ (no_start 48 111 bs (is_digit_of 8 (head_of (drop 2 bs))) h111)
    ∙ if_false (starts 48 98 bs && is_digit_of 2 (head_of (drop 2 bs))) (based minus 2 bs) _ (no_start 48 98 bs (is_digit_of 2 (head_of (drop 2 bs))) h98)
    ∙ decimal_token minus (c ∷ cs) rest n h.1 value (no_alnum_digit (head_of rest) a) dot small

pub number_token : (minus : Bool) (n : ℕ) (rest : List ℕ) → n ≤ 2 ^ 63 → (nat_lt n (2 ^ 63) || (minus && nat_eq n (2 ^ 63))) ≡ true → is_alnum (head_of rest) ≡ false → nat_eq (head_of rest) 39 ≡ false → nat_eq (head_of rest) 46 ≡ false → token_at false minus (decimal n ++ rest) ≡ found (integer n) (length (decimal n))
number_token minus n rest most small a q dot =
    let k : IsNumeral 10 (decimal n) × (digits_value 10 (decimal n) ≡ n) = decimal_is_IsNumeral n (omega arith) in
    digits_token minus (decimal n) rest n k.0 k.1 a q dot small

digits_begin : (ds rest : List ℕ) → IsNumeral 10 ds → begins_token (head_of (ds ++ rest)) ≡ true
digits_begin [] rest h = absurd (omega (arith, h.0))
digits_begin (c ∷ cs) rest h = let r = range_of c h.1.0 in high_begins c r.0

pub number_begins : (n : ℕ) (rest : List ℕ) → n ≤ 2 ^ 63 → begins_token (head_of (decimal n ++ rest)) ≡ true
number_begins n rest h = digits_begin (decimal n) rest ((decimal_is_IsNumeral n (omega arith)).0)

-- the last of some that all pass passes
pub last-all : (p : ℕ → Bool) (c : ℕ) (ds : List ℕ) → list_all p ds ≡ true → 0 < length ds → p (last_of c ds) ≡ true
last-all p c [] h k = absurd (omega arith)
last-all p c (d ∷ []) h k = and-first (p d) true h
last-all p c (d ∷ e ∷ es) h k = last-all p d (e ∷ es) (and-second (p d) _ h) (omega arith)

digits-alnum : (ds : List ℕ) → AllDigits 10 ds → list_all is_alnum ds ≡ true
digits-alnum [] h = refl
digits-alnum (c ∷ cs) h =
    let r = range_of c h.0 in
    and-both (is_alnum c) _ (ap (λ b. is_lower c || (is_upper c || b)) (is-digit c r.0 r.1) ∙ ap (λ b. is_lower c || b) (or-true (is_upper c)) ∙ or-true (is_lower c)) (digits-alnum cs h.1)

pub decimal-last : (c n : ℕ) → n ≤ 2 ^ 63 → is_alnum (last_of c (decimal n)) ≡ true
decimal-last c n h =
    let k = (decimal_is_IsNumeral n (omega arith)).0 in
    last-all is_alnum c (decimal n) (digits-alnum (decimal n) k.1) k.0

pub decimal-some : (n : ℕ) → n ≤ 2 ^ 63 → 0 < length (decimal n)
decimal-some n h = ((decimal_is_IsNumeral n (omega arith)).0).0

pub decimal-alnum : (n : ℕ) → n ≤ 2 ^ 63 → list_all is_alnum (decimal n) ≡ true
decimal-alnum n h = digits-alnum (decimal n) ((decimal_is_IsNumeral n (omega arith)).0).1

numeral-digit : (ds : List ℕ) → IsNumeral 10 ds → is_digit (head_of ds) ≡ true
numeral-digit [] h = absurd (omega (arith, h.0))
numeral-digit (c ∷ cs) h = let r = range_of c h.1.0 in is-digit c r.0 r.1

pub decimal-digit : (n : ℕ) → n ≤ 2 ^ 63 → is_digit (head_of (decimal n)) ≡ true
decimal-digit n h = numeral-digit (decimal n) ((decimal_is_IsNumeral n (omega arith)).0)

pub alnum-below : (c : ℕ) → is_alnum c ≡ true → c < 128
alnum-below c h = elim (or-either (is_lower c) _ h) [
  | inl a ↦ let r = in_range 97 122 c a in omega (arith, r.1)
  | inr b ↦ elim (or-either (is_upper c) (is_digit c) b) [
    | inr d ↦ let r = in_range 48 57 c d in omega (arith, r.1)
    | inl u ↦ elim (or-either (nat_le 65 c && nat_le c 90) (nat_eq c 95) u) [
      | inl v ↦ let r = in_range 65 90 c v in omega (arith, r.1)
      | inr v ↦ omega (arith, eqb-true c 95 v)
    ]
  ]
]
