-- Where UTF-8 may be cut.
use Rattle.std.proofs.Common.{◌≡◌, ℕ, zero, suc, ◌+◌, ◌/◌, ◌≤◌, ◌<◌, ◌^◌, List, [], ◌∷◌, ◌++◌, length, drop, take, Bool, true, false, cond, ◌&&◌, refl, sym, ap, ◌∙◌, arith, subst, append-nil, length-append}
use Rattle.std.proofs.Math.Logic.{⊎_elim}
use Rattle.std.proofs.lemmas.Bool.{cases_lt, lt-ltb, le-ltb}
use Rattle.std.proofs.lemmas.Grind.{common_steps}
use Rattle.std.proofs.lemmas.Str.{IsUtf8-drop, IsCharBoundary-after_ascii, chars-encodes}
use Rattle.std.proofs.Math.Utf8.{scalar, scalars, scalar_cases, encode, encodes, next}
use Rattle.std.specs.Str.{IsUtf8, IsAscii, chars}
use Rattle.std.specs.List.{take_while}
use Rattle.std.proofs.lemmas.List.Sums.{take_while-cons}
use Rattle.text_model.specs.Tokens.{char_len, head_of}

-- one byte that is ASCII
pub after_one : (b : ℕ) (bs : List ℕ) → b < 128 → IsUtf8 (b ∷ bs) → IsUtf8 bs
after_one b bs h u = IsUtf8-drop (b ∷ bs) 1 u (IsCharBoundary-after_ascii (b ∷ bs) 0 u (omega arith) h)

-- a front that is ASCII
abbrev pub PassesAscii : (ℕ → Bool) → Type 0
PassesAscii p = (b : ℕ) → p b ≡ true → b < 128

pub front_of : (p : ℕ → Bool) (b : ℕ) (bs : List ℕ) (t : Bool) → p b ≡ t → take_while p (b ∷ bs) ≡ (cond t (b ∷ take_while p bs) [])
front_of p b bs t e = take_while-cons p b bs ∙ ap (λ u. cond u (b ∷ take_while p bs) []) e

pub front_ascii : (p : ℕ → Bool) → PassesAscii p → (bs : List ℕ) → IsAscii (take_while p bs)
front_ascii p h [] = λ i. omega arith
front_ascii p h (b ∷ bs) = go (p b) refl (front_ascii p h bs)
  where
    cons_ascii : (cs : List ℕ) → b < 128 → IsAscii cs → IsAscii (b ∷ cs)
    cons_ascii cs l a zero = l
    cons_ascii cs l a (suc i) = a i

    go : (t : Bool) → p b ≡ t → IsAscii (take_while p bs) → IsAscii (take_while p (b ∷ bs))
    go true e a = subst IsAscii (sym (front_of p b bs true e)) (cons_ascii (take_while p bs) (h b e) a)
    go false e a = subst IsAscii (sym (front_of p b bs false e)) (λ i. omega arith)

pub after_front : (p : ℕ → Bool) → PassesAscii p → (bs : List ℕ) → IsUtf8 bs → IsUtf8 (drop (length (take_while p bs)) bs)
after_front p h [] u = u
after_front p h (b ∷ bs) u = go (p b) refl (after_front p h bs)
  where
    go : (t : Bool) → p b ≡ t → (IsUtf8 bs → IsUtf8 (drop (length (take_while p bs)) bs)) → IsUtf8 (drop (length (take_while p (b ∷ bs))) (b ∷ bs))
    go true e more = subst (λ l. IsUtf8 (drop (length l) (b ∷ bs))) (sym (front_of p b bs true e)) (more (after_one b bs (h b e) u))
    go false e more = subst (λ l. IsUtf8 (drop (length l) (b ∷ bs))) (sym (front_of p b bs false e)) u

-- the first character
pub both-left : (x y : Bool) → (x && y) ≡ true → x ≡ true
both-left true y h = refl
both-left false y h = h

pub both-right : (x y : Bool) → (x && y) ≡ true → y ≡ true
both-right true y h = h
both-right false y h = absurd (cc)

both_scalar : (c : ℕ) (cs : List ℕ) → scalars (c ∷ cs) ≡ true → scalars (c ∷ []) ≡ true
both_scalar c cs h = rw (both-left (scalar c) (scalars cs) h) refl

is_some_scalar : (c : ℕ) (cs : List ℕ) → scalars (c ∷ cs) ≡ true → c < 0x11_0000
is_some_scalar c cs h = ⊎_elim (λ l. omega arith) (λ l. omega (arith, l.1)) (scalar_cases c (both-left (scalar c) (scalars cs) h))

pub first_bounded : (cs : List ℕ) → IsUtf8 cs → head_of (chars cs) ≤ 2 ^ 63
first_bounded cs u = go u.0 u.1.0 u.1.1
  where
    head_bounded : (ds : List ℕ) → scalars ds ≡ true → head_of ds ≤ 2 ^ 63
    head_bounded [] h = omega arith
    head_bounded (d ∷ ds) h = omega (arith, is_some_scalar d ds h)

    go : (ds : List ℕ) → scalars ds ≡ true → encodes ds ≡ cs → head_of (chars cs) ≤ 2 ^ 63
    go ds h e = subst (λ l. head_of (chars l) ≤ 2 ^ 63) e (subst (λ l. head_of l ≤ 2 ^ 63) (sym (chars-encodes ds h)) (head_bounded ds h))

-- how many bytes its first byte says
char_len-1 : (b : ℕ) → b < 128 → char_len b ≡ 1
char_len-1 b h = rw (lt-ltb b 128 h) refl

char_len-2 : (b : ℕ) → 128 ≤ b → b < 224 → char_len b ≡ 2
char_len-2 b h k = rw (le-ltb b 128 h) (rw (lt-ltb b 224 k) refl)

char_len-3 : (b : ℕ) → 224 ≤ b → b < 240 → char_len b ≡ 3
char_len-3 b h k =
    let l : 128 ≤ b = omega arith in
    rw (le-ltb b 128 l) (rw (le-ltb b 224 h) (rw (lt-ltb b 240 k) refl))

char_len-4 : (b : ℕ) → 240 ≤ b → char_len b ≡ 4
char_len-4 b h =
    let l : 128 ≤ b = omega arith in
    let m : 224 ≤ b = omega arith in
    rw (le-ltb b 128 l) (rw (le-ltb b 224 m) (rw (le-ltb b 240 h) refl))

-- the first byte of a character, and the number of its bytes
record Lead (c : ℕ) : Type 0 where
  byte : ℕ
  more : List ℕ
  is : encode c ≡ byte ∷ more
  len : char_len byte ≡ length (encode c)

lead_of : (c : ℕ) → c < 0x11_0000 → Lead c
unfolding encode
lead_of c s = ⊎_elim one (λ h. ⊎_elim (two h) (λ k. ⊎_elim (three h k) (four h k) (cases_lt c 65536)) (cases_lt c 2048)) (cases_lt c 128)
  where
    one : c < 128 → Lead c
    one h =
        let is : encode c ≡ c ∷ [] = rw (lt-ltb c 128 h) refl in
        record { byte = c; more = []; is = is; len = char_len-1 c h ∙ sym (ap length is) }

    two : 128 ≤ c → c < 2048 → Lead c
    two h k =
        let is : encode c ≡ (192 + c / 64) ∷ next c ∷ [] = rw (le-ltb c 128 h) (rw (lt-ltb c 2048 k) refl) in
        record { byte = 192 + c / 64; more = next c ∷ []; is = is; len = char_len-2 (192 + c / 64) (omega arith) (omega arith) ∙ sym (ap length is) }

    three : 128 ≤ c → 2048 ≤ c → c < 65536 → Lead c
    three h k l =
        let is : encode c ≡ (224 + c / 4096) ∷ next (c / 64) ∷ next c ∷ [] = rw (le-ltb c 128 h) (rw (le-ltb c 2048 k) (rw (lt-ltb c 65536 l) refl)) in
        record { byte = 224 + c / 4096; more = next (c / 64) ∷ next c ∷ []; is = is; len = char_len-3 (224 + c / 4096) (omega arith) (omega arith) ∙ sym (ap length is) }

    four : 128 ≤ c → 2048 ≤ c → 65536 ≤ c → Lead c
    four h k l =
        let is : encode c ≡ (240 + c / 262144) ∷ next (c / 4096) ∷ next (c / 64) ∷ next c ∷ [] = rw (le-ltb c 128 h) (rw (le-ltb c 2048 k) (rw (le-ltb c 65536 l) refl)) in
        record { byte = 240 + c / 262144; more = next (c / 4096) ∷ next (c / 64) ∷ next c ∷ []; is = is; len = char_len-4 (240 + c / 262144) (omega arith) ∙ sym (ap length is) }

lead : (c b : ℕ) (bs r : List ℕ) → c < 0x11_0000 → encode c ++ r ≡ b ∷ bs → char_len b ≡ length (encode c)
lead c b bs r s e =
    let l : Lead c = lead_of c s in
    let same : l.byte ∷ (l.more ++ r) ≡ b ∷ bs = ap (λ d. d ++ r) (sym l.is) ∙ e in
    let head : b ≡ l.byte = cc in
    ap char_len head ∙ l.len

take-front : (xs ys : List ℕ) → take (length xs) (xs ++ ys) ≡ xs
take-front xs ys = grind (arith, common_steps)

drop-front : (xs ys : List ℕ) → drop (length xs) (xs ++ ys) ≡ ys
drop-front xs ys = grind (arith, common_steps)

-- a text that is not empty, cut after its first character
pub record FirstCut (b : ℕ) (bs : List ℕ) : Type 0 where
  pub front : IsUtf8 (take (char_len b) (b ∷ bs))
  pub rest : IsUtf8 (drop (char_len b) (b ∷ bs))
  pub fits : char_len b ≤ length (b ∷ bs)

pub first_cut : (b : ℕ) (bs : List ℕ) → IsUtf8 (b ∷ bs) → FirstCut b bs
first_cut b bs u = go u.0 u.1.0 u.1.1
  where
    go : (ds : List ℕ) → scalars ds ≡ true → encodes ds ≡ b ∷ bs → FirstCut b bs
    go [] h e = absurd (cc)
    go (d ∷ ds) h e =
        let len : char_len b ≡ length (encode d) = lead d b bs (encodes ds) (is_some_scalar d ds h) e in
        record {
          front = subst (λ l. IsUtf8 (take (char_len b) l)) e (subst (λ n. IsUtf8 (take n (encode d ++ encodes ds))) (sym len) (subst IsUtf8 (sym (take-front (encode d) (encodes ds))) (d ∷ [], (both_scalar d ds h, append-nil (encode d)))));
          rest = subst (λ l. IsUtf8 (drop (char_len b) l)) e (subst (λ n. IsUtf8 (drop n (encode d ++ encodes ds))) (sym len) (subst IsUtf8 (sym (drop-front (encode d) (encodes ds))) (ds, (both-right (scalar d) (scalars ds) h, refl))));
          fits = omega (arith, len, length-append (encode d) (encodes ds), ap length e);
        }
