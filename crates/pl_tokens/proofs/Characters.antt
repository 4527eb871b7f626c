-- The first character of bytes, and the pieces of quoted items.
use Rattle.std.proofs.Common.{◌≡◌, ℕ, ◌+◌, ◌*◌, ◌-◌, ◌≤◌, ◌<◌, List, [], ◌∷◌, length, drop, get_or, true, refl, sym, ap, ◌∙◌, arith, append-nil}
use Rattle.std.proofs.lemmas.Bool.{lt-ltb, le-ltb, eq-eqb, ne_eqb}
use Rattle.std.proofs.lemmas.Str.{chars-encodes, chars-nil, encode_ascii}
use Rattle.std.specs.Str.{chars, chars_after}
use Rattle.std.specs.Prelude.{encode_utf8}
use lib.Utf8.{scalar, scalars}
use Rattle.text_model.specs.Tokens.{head_of, piece, piece_at, escape}

first_after : (c : ℕ) (bs : List ℕ) → head_of (chars_after 0 c bs) ≡ c
first_after c [] = refl
first_after c (b ∷ bs) = refl

chars_1 : (b : ℕ) (bs : List ℕ) → b < 128 → chars (b ∷ bs) ≡ chars_after 0 b bs
unfolding chars
chars_1 b bs h = rw (lt-ltb b 128 h) refl

chars_2 : (b : ℕ) (bs : List ℕ) → 128 ≤ b → b < 224 → chars (b ∷ bs) ≡ chars_after 1 (b - 192) bs
unfolding chars
chars_2 b bs h k = rw (le-ltb b 128 h) (rw (lt-ltb b 224 k) refl)

chars_3 : (b : ℕ) (bs : List ℕ) → 224 ≤ b → b < 240 → chars (b ∷ bs) ≡ chars_after 2 (b - 224) bs
unfolding chars
chars_3 b bs h k =
    let l : 128 ≤ b = omega arith in
    rw (le-ltb b 128 l) (rw (le-ltb b 224 h) (rw (lt-ltb b 240 k) refl))

chars_4 : (b : ℕ) (bs : List ℕ) → 240 ≤ b → chars (b ∷ bs) ≡ chars_after 3 (b - 240) bs
unfolding chars
chars_4 b bs h =
    let l : 128 ≤ b = omega arith in
    let m : 224 ≤ b = omega arith in
    rw (le-ltb b 128 l) (rw (le-ltb b 224 m) (rw (le-ltb b 240 h) refl))

pub first_none : (cs : List ℕ) → length cs ≡ 0 → 256 ≡ head_of (chars cs)
first_none [] h = sym (ap head_of chars-nil)
first_none (b ∷ bs) h = absurd (omega arith)

pub first_one : (cs : List ℕ) (f : ℕ) → f ≡ head_of cs → f < 128 → f ≡ head_of (chars cs)
first_one [] f e h = absurd (omega arith)
first_one (b ∷ bs) f e h = e ∙ sym (ap head_of (chars_1 b bs (omega arith)) ∙ first_after b bs)

pub first_two_short : (cs : List ℕ) (f : ℕ) → f ≡ head_of cs → 128 ≤ f → f < 224 → length cs < 2 → 256 ≡ head_of (chars cs)
first_two_short [] f e h k l = absurd (omega arith)
first_two_short (b ∷ []) f e h k l = sym (ap head_of (chars_2 b [] (omega arith) (omega arith)))
first_two_short (b ∷ c ∷ cs) f e h k l = absurd (omega arith)

pub first_two : (cs : List ℕ) (f : ℕ) → f ≡ head_of cs → 128 ≤ f → f < 224 → 2 ≤ length cs → (f - 192) * 64 + (get_or cs 1 0 - 128) ≡ head_of (chars cs)
first_two [] f e h k l = absurd (omega arith)
first_two (b ∷ []) f e h k l = absurd (omega arith)
first_two (b ∷ c ∷ cs) f e h k l =
    ap (λ x. (x - 192) * 64 + (c - 128)) e ∙ sym (ap head_of (chars_2 b (c ∷ cs) (omega arith) (omega arith)) ∙ first_after ((b - 192) * 64 + (c - 128)) cs)

pub first_three_short : (cs : List ℕ) (f : ℕ) → f ≡ head_of cs → 224 ≤ f → f < 240 → length cs < 3 → 256 ≡ head_of (chars cs)
first_three_short [] f e h k l = absurd (omega arith)
first_three_short (b ∷ []) f e h k l = sym (ap head_of (chars_3 b [] (omega arith) (omega arith)))
first_three_short (b ∷ c ∷ []) f e h k l = sym (ap head_of (chars_3 b (c ∷ []) (omega arith) (omega arith)))
first_three_short (b ∷ c ∷ d ∷ cs) f e h k l = absurd (omega arith)

pub first_three : (cs : List ℕ) (f : ℕ) → f ≡ head_of cs → 224 ≤ f → f < 240 → 3 ≤ length cs → ((f - 224) * 64 + (get_or cs 1 0 - 128)) * 64 + (get_or cs 2 0 - 128) ≡ head_of (chars cs)
first_three [] f e h k l = absurd (omega arith)
first_three (b ∷ []) f e h k l = absurd (omega arith)
first_three (b ∷ c ∷ []) f e h k l = absurd (omega arith)
first_three (b ∷ c ∷ d ∷ cs) f e h k l =
    ap (λ x. ((x - 224) * 64 + (c - 128)) * 64 + (d - 128)) e ∙ sym (ap head_of (chars_3 b (c ∷ d ∷ cs) (omega arith) (omega arith)) ∙ first_after (((b - 224) * 64 + (c - 128)) * 64 + (d - 128)) cs)

pub first_four_short : (cs : List ℕ) (f : ℕ) → 0 < length cs → f ≡ head_of cs → 240 ≤ f → length cs < 4 → 256 ≡ head_of (chars cs)
first_four_short [] f some e h l = absurd (omega arith)
first_four_short (b ∷ []) f some e h l = sym (ap head_of (chars_4 b [] (omega arith)))
first_four_short (b ∷ c ∷ []) f some e h l = sym (ap head_of (chars_4 b (c ∷ []) (omega arith)))
first_four_short (b ∷ c ∷ d ∷ []) f some e h l = sym (ap head_of (chars_4 b (c ∷ d ∷ []) (omega arith)))
first_four_short (b ∷ c ∷ d ∷ g ∷ cs) f some e h l = absurd (omega arith)

pub first_four : (cs : List ℕ) (f : ℕ) → f ≡ head_of cs → 240 ≤ f → 4 ≤ length cs → (((f - 240) * 64 + (get_or cs 1 0 - 128)) * 64 + (get_or cs 2 0 - 128)) * 64 + (get_or cs 3 0 - 128) ≡ head_of (chars cs)
first_four [] f e h l = absurd (omega arith)
first_four (b ∷ []) f e h l = absurd (omega arith)
first_four (b ∷ c ∷ []) f e h l = absurd (omega arith)
first_four (b ∷ c ∷ d ∷ []) f e h l = absurd (omega arith)
first_four (b ∷ c ∷ d ∷ g ∷ cs) f e h l =
    ap (λ x. (((x - 240) * 64 + (c - 128)) * 64 + (d - 128)) * 64 + (g - 128)) e ∙ sym (ap head_of (chars_4 b (c ∷ d ∷ g ∷ cs) (omega arith)) ∙ first_after ((((b - 240) * 64 + (c - 128)) * 64 + (d - 128)) * 64 + (g - 128)) cs)

scalars-one : (c : ℕ) → scalar c ≡ true → scalars (c ∷ []) ≡ true
scalars-one c h = rw (h, scalars) refl

pub first_of_encoded : (c : ℕ) → scalar c ≡ true → c ≡ head_of (chars (encode_utf8 c))
first_of_encoded c h = sym (ap (λ l. head_of (chars l)) (sym (append-nil (encode_utf8 c))) ∙ ap head_of (chars-encodes (c ∷ []) (scalars-one c h)))

-- pieces
pub piece_at-doubled : (q : ℕ) (rest : List ℕ) → 0 < length rest → head_of rest ≡ q → head_of (drop 1 rest) ≡ q → q < 128 → piece (encode_utf8 q) 2 ≡ piece_at q rest
piece_at-doubled q [] some first second low = absurd (omega arith)
piece_at-doubled q (b ∷ bs) some first second low =
    ap (λ l. piece l 2) (encode_ascii q low) ∙ sym (rw (eq-eqb b q first) (rw (eq-eqb (head_of bs) q second) refl))

pub piece_at-backslash : (q : ℕ) (rest : List ℕ) → 0 < length rest → (head_of rest ≡ q → ⊥) → head_of rest ≡ 92 → escape true (drop 1 rest) ≡ piece_at q rest
piece_at-backslash q [] some not first = absurd (omega arith)
piece_at-backslash q (b ∷ bs) some not first = sym (rw (ne_eqb b q not) (rw (eq-eqb b 92 first) refl))
