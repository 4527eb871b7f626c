-- Numbers in range, and remainders.
use Rattle.std.proofs.Common.{◌≡◌, ◌≢◌, ◌∙◌, ℕ, ℤ, pos, negsuc, zero, suc, ◌+◌, ◌*◌, ◌/◌, ◌%◌, ◌^◌, ◌<◌, ◌+ℤ◌, ◌-ℤ◌, ◌*ℤ◌, neg_ℤ, unsigned_abs, refl, ap, sym, Bool, true, false, nat_eq, if◌then◌else◌, Option, Some, None, arith, Ok, Err, rules}
use Rattle.std.specs.Option.{SomeIff}
use Rattle.std.specs.Int.{w64, cast_unsigned as of_z}
use mathlib.Core.Bool.{beq}
use Rattle.std.specs.Int.RustNames.{FitsSigned}
use Rattle.std.proofs.lemmas.Int.{ints}
use Rattle.std.proofs.lemmas.Bool.Decides.{Decides-eqb, Decides-ltb}
use Rattle.std.proofs.lemmas.Nat.{div-mul-add, mod-mul-add, div-add-mod'}
use Rattle.std.proofs.Math.IntN.{suc_ℤ, suc_ℤ-*ℤ}
use Rattle.std.specs.Int.Signed.{lt_z, mag}
use Rattle.value_model.specs.Value.{quotient, floor_quotient, in_range, is_zero, ranged, dividing}
use Rattle.value_model.specs.declared.EvalFault.TheVariants.{ZeroDivisor, Overflow}

pub abs_fits : (o : Option ℤ) (x : ℤ) → FitsSigned w64 x → SomeIff o (FitsSigned w64 (neg_ℤ x)) (pos (unsigned_abs x)) → SomeIff o (FitsSigned w64 (pos (unsigned_abs x))) (pos (unsigned_abs x))
abs_fits None (pos zero) f s = s
abs_fits None (pos (suc n)) f s = absurd (s (record { sfits = omega (arith, f.sfits) }))
abs_fits None (negsuc n) f s = s
abs_fits (Some z) (pos zero) f s = s
abs_fits (Some z) (pos (suc n)) f s = (f, s.1)
abs_fits (Some z) (negsuc n) f s = s

neg-suc : (q : ℕ) → neg_ℤ (pos q) ≡ suc_ℤ (negsuc q)
neg-suc zero = refl
neg-suc (suc q) = refl

less_one : (x y : ℤ) (q : ℕ) → x -ℤ (negsuc q *ℤ y) ≡ (x -ℤ (neg_ℤ (pos q) *ℤ y)) +ℤ y
less_one x y q =
    let f : neg_ℤ (pos q) *ℤ y ≡ negsuc q *ℤ y +ℤ y = ap (λ z. z *ℤ y) (neg-suc q) ∙ suc_ℤ-*ℤ (negsuc q) y in
    omega (arith, ints, f)

div_next : (a m : ℕ) → suc (a % m) < m → (suc a / m ≡ a / m) × (suc a % m ≡ suc (a % m))
div_next a m h =
    let e : suc a ≡ (a / m) * m + suc (a % m) = omega (arith, div-add-mod' a m) in
    (ap (λ n. n / m) e ∙ div-mul-add (a / m) m (suc (a % m)) h, ap (λ n. n % m) e ∙ mod-mul-add (a / m) m (suc (a % m)) h)

div_full : (a m : ℕ) → 0 < m → suc (a % m) ≡ m → (suc a / m ≡ suc (a / m)) × (suc a % m ≡ 0)
div_full a m p h =
    let e : suc a ≡ suc (a / m) * m + 0 = omega (arith, div-add-mod' a m) in
    (ap (λ n. n / m) e ∙ div-mul-add (suc (a / m)) m 0 p, ap (λ n. n % m) e ∙ mod-mul-add (suc (a / m)) m 0 p)

-- the remainder of a division rounded down, from that of one rounded toward zero
pub record Floors (x y : ℤ) : Type 0 where
  pub even : x -ℤ (quotient x y *ℤ y) ≡ pos 0 → x -ℤ (floor_quotient x y *ℤ y) ≡ pos 0
  pub unlike : x -ℤ (quotient x y *ℤ y) ≢ pos 0 → lt_z (x -ℤ (quotient x y *ℤ y)) (pos 0) ≢ lt_z y (pos 0) → x -ℤ (floor_quotient x y *ℤ y) ≡ (x -ℤ (quotient x y *ℤ y)) +ℤ y

mul_nn : (q b : ℕ) → neg_ℤ (pos q) *ℤ negsuc b ≡ pos (q * suc b)
mul_nn zero b = omega (arith, ints)
mul_nn (suc q) b = refl

mul_np : (q b : ℕ) → neg_ℤ (pos q) *ℤ pos (suc b) ≡ neg_ℤ (pos (q * suc b))
mul_np zero b = omega (arith, ints)
mul_np (suc q) b = omega (arith, ints)

rest_pn : (a b : ℕ) → pos a -ℤ (neg_ℤ (pos (a / suc b)) *ℤ negsuc b) ≡ pos (a % suc b)
rest_pn a b = omega (arith, ints, mul_nn (a / suc b) b, div-add-mod' a (suc b))

rest_np : (a b : ℕ) → negsuc a -ℤ (neg_ℤ (pos (suc a / suc b)) *ℤ pos (suc b)) ≡ neg_ℤ (pos (suc a % suc b))
rest_np a b = omega (arith, ints, mul_np (suc a / suc b) b, div-add-mod' (suc a) (suc b))

rest_pp : (a b : ℕ) → pos a -ℤ (pos (a / suc b) *ℤ pos (suc b)) ≡ pos (a % suc b)
rest_pp a b = omega (arith, ints, div-add-mod' a (suc b))

rest_nn : (a b : ℕ) → negsuc a -ℤ (pos (suc a / suc b) *ℤ negsuc b) ≡ neg_ℤ (pos (suc a % suc b))
rest_nn a b = omega (arith, ints, div-add-mod' (suc a) (suc b))

eqb_no : (n : ℕ) {m : ℕ} → nat_eq n m ≡ false → n ≢ m
eqb_no n {m} e h = cc ((Decides-eqb n m).1 h)

low_none : (a : ℕ) → lt_z (pos a) (pos 0) ≡ false
low_none a = grind (arith, ints)

pos_high : (a b : ℕ) → lt_z (pos a) (pos 0) ≡ lt_z (pos b) (pos 0)
pos_high a b = low_none a ∙ sym (low_none b)

go_pn : (a b : ℕ) (t : Bool) → nat_eq (a % suc b) 0 ≡ t → Floors (pos a) (negsuc b)
go_pn a b true e = record {
  even = λ r. ap (λ t. pos a -ℤ ((if t then neg_ℤ (pos (a / suc b)) else negsuc (a / suc b)) *ℤ negsuc b)) e ∙ r;
  unlike = λ n d. absurd (n (rest_pn a b ∙ ap pos ((Decides-eqb (a % suc b) 0).0 e)));
}
go_pn a b false e = record {
  even = λ r. absurd (eqb_no (a % suc b) e (ap mag (sym (rest_pn a b) ∙ r)));
  unlike = λ n d. ap (λ t. pos a -ℤ ((if t then neg_ℤ (pos (a / suc b)) else negsuc (a / suc b)) *ℤ negsuc b)) e ∙ less_one (pos a) (negsuc b) (a / suc b);
}

neg_zero : (n : ℕ) → neg_ℤ (pos n) ≡ pos 0 → n ≡ 0
neg_zero zero e = refl
neg_zero (suc n) e = cc

neg_low : (n : ℕ) → n ≢ 0 → lt_z (neg_ℤ (pos n)) (pos 0) ≡ true
neg_low zero h = absurd (h refl)
neg_low (suc n) h = refl

go_np : (a b : ℕ) (t : Bool) → nat_eq (suc (a % suc b)) (suc b) ≡ t → Floors (negsuc a) (pos (suc b))
go_np a b true e =
    let d = div_full a (suc b) (omega arith) ((Decides-eqb (suc (a % suc b)) (suc b)).0 e) in
    record {
      even = λ r. ap (λ q. negsuc a -ℤ (neg_ℤ (pos q) *ℤ pos (suc b))) (sym d.0) ∙ r;
      unlike = λ n k. absurd (n (rest_np a b ∙ ap (λ m. neg_ℤ (pos m)) d.1));
    }
go_np a b false e =
    let low_mod : a % suc b < suc b = omega arith in
    let low : suc (a % suc b) < suc b = omega (arith, eqb_no (suc (a % suc b)) {m = suc b} e, low_mod) in
    let d = div_next a (suc b) low in
    record {
      even = λ r. let z : suc a % suc b ≡ 0 = neg_zero (suc a % suc b) (sym (rest_np a b) ∙ r) in absurd (omega (arith, z, d.1));
      unlike = λ n k. less_one (negsuc a) (pos (suc b)) (a / suc b) ∙ ap (λ q. (negsuc a -ℤ (neg_ℤ (pos q) *ℤ pos (suc b))) +ℤ pos (suc b)) (sym d.0);
    }

nn_case : (a b : ℕ) → negsuc a -ℤ (pos (suc a / suc b) *ℤ negsuc b) ≢ pos 0 → lt_z (negsuc a -ℤ (pos (suc a / suc b) *ℤ negsuc b)) (pos 0) ≡ true
nn_case a b n = ap (λ z. lt_z z (pos 0)) (rest_nn a b) ∙ neg_low (suc a % suc b) (λ e. n (rest_nn a b ∙ ap (λ m. neg_ℤ (pos m)) e))

pub floors : (x y : ℤ) → y ≢ pos 0 → Floors x y
floors x (pos zero) h = absurd (h refl)
floors (pos a) (pos (suc b)) h = record { even = λ e. e; unlike = λ n d. absurd (d (ap (λ z. lt_z z (pos 0)) (rest_pp a b) ∙ pos_high (a % suc b) (suc b))) }
floors (pos a) (negsuc b) h = go_pn a b (nat_eq (a % suc b) 0) refl
floors (negsuc a) (pos (suc b)) h = go_np a b (nat_eq (suc (a % suc b)) (suc b)) refl
floors (negsuc a) (negsuc b) h = record { even = λ e. e; unlike = λ n d. absurd (d (nn_case a b n)) }

pub in_range-fits : (z : ℤ) → FitsSigned w64 z → in_range z ≡ true
in_range-fits (pos n) f = (Decides-ltb n (2 ^ 63)).1 f.sfits
in_range-fits (negsuc n) f = (Decides-ltb n (2 ^ 63)).1 f.sfits

zero_no : (n : ℕ) → nat_eq (suc n) 0 ≡ false
zero_no n = grind arith

is_zero-not : (y : ℤ) → y ≢ pos 0 → is_zero y ≡ false
is_zero-not (pos zero) h = absurd (h refl)
is_zero-not (pos (suc n)) h = zero_no n
is_zero-not (negsuc n) h = refl

pub dividing_ok : (y z : ℤ) → y ≢ pos 0 → FitsSigned w64 z → Ok z ≡ dividing y z
dividing_ok y z h f = sym (ap (λ b. if b then Err ZeroDivisor else ranged z) (is_zero-not y h) ∙ ap (λ b. if b then Ok z else Err Overflow) (in_range-fits z f))

pub modulo_even : (x y r : ℤ) → y ≢ pos 0 → r ≡ x -ℤ (quotient x y *ℤ y) → r ≡ pos 0 → Ok (pos 0) ≡ dividing y (x -ℤ (floor_quotient x y *ℤ y))
modulo_even x y r h e z = dividing_ok y (pos 0) h (record { sfits = omega arith }) ∙ ap (dividing y) (sym ((floors x y h).even (sym e ∙ z)))

pub sum_fits : (r y : ℤ) → FitsSigned w64 r → FitsSigned w64 y → lt_z r (pos 0) ≢ lt_z y (pos 0) → FitsSigned w64 (r +ℤ y)
sum_fits (pos a) (pos b) f g d = absurd (d (pos_high a b))
sum_fits (pos a) (negsuc b) f g d = Prim.search rules
sum_fits (negsuc a) (pos b) f g d = Prim.search rules
sum_fits (negsuc a) (negsuc b) f g d = absurd (d refl)

pub modulo_unlike : (x y r : ℤ) → y ≢ pos 0 → r ≡ x -ℤ (quotient x y *ℤ y) → r ≢ pos 0 → FitsSigned w64 r → FitsSigned w64 y → lt_z r (pos 0) ≢ lt_z y (pos 0) → Ok (r +ℤ y) ≡ dividing y (x -ℤ (floor_quotient x y *ℤ y))
modulo_unlike x y r h e n f g d =
    dividing_ok y (r +ℤ y) h (sum_fits r y f g d)
    ∙ ap (dividing y) (ap (λ q. q +ℤ y) e ∙ sym ((floors x y h).unlike (λ z. n (e ∙ z)) (λ z. d (ap (λ q. lt_z q (pos 0)) e ∙ z))))

pub nonzero : (y : ℤ) → (of_z w64 y ≡ 0 → ⊥) → y ≢ pos 0
nonzero y h e = h (ap (of_z w64) e)

pub zero_bits : (r : ℤ) → FitsSigned w64 r → of_z w64 r ≡ 0 → r ≡ pos 0
zero_bits (pos n) f e = ap pos e
zero_bits (negsuc n) f e = absurd (omega (arith, f.sfits))

pub bits_nonzero : (r : ℤ) → FitsSigned w64 r → (of_z w64 r ≡ 0 → ⊥) → r ≢ pos 0
bits_nonzero r f h e = h (ap (of_z w64) e)

pub beq_no : (a b : Bool) → beq a b ≡ false → a ≢ b
beq_no true true e h = cc
beq_no true false e h = cc
beq_no false true e h = cc
beq_no false false e h = cc
