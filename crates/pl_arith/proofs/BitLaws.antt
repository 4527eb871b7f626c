-- Operations on the bits of 64-bit integers are those on integers without a limit.
use Rattle.std.proofs.Common.{◌≡◌, ◌∙◌, ℕ, zero, suc, ◌+◌, ◌-◌, ◌/◌, ◌%◌, ◌^◌, ◌<◌, ℤ, pos, negsuc, ap, sym, if◌then◌else◌, Ok, Err, arith}
use Rattle.std.specs.Int.{w64, cast_signed, int_bit_and, int_bit_or, int_bit_not}
use Rattle.std.specs.Int.Bits.{bit_and, bit_or, and_step, or_add_and}
use Rattle.std.specs.Int.RustNames.{FitsSigned}
use Rattle.std.proofs.Math.Facts.{to_z-neg}
use Rattle.std.proofs.lemmas.Int.{to_z_pos}
use Rattle.std.proofs.lemmas.Nat.{and_le_l, and_le_r, and_comm, or_lt}
use Rattle.std.proofs.Math.Nat.{pow-suc}
use Rattle.value_model.specs.declared.EvalFault.TheVariants.{Overflow}
use Rattle.value_model.specs.Bits.{without, bits_and, bits_or, bits_not}
use Rattle.value_model.specs.Value.{ranged}
use Rattle.pl_arith.proofs.Numbers.{in_range-fits}

-- each bit of a is one of b or one of the others
and_other : (k a b : ℕ) → a < 2 ^ k → b < 2 ^ k → bit_and a (2 ^ k - 1 - b) + bit_and a b ≡ a
and_other zero a b p q = omega (arith, and_le_l a (2 ^ 0 - 1 - b), and_le_l a b)
and_other (suc k) a b p q =
    let half : (2 ^ suc k - 1 - b) / 2 ≡ 2 ^ k - 1 - b / 2 = omega (arith, pow-suc 2 k) in
    let lowest : (2 ^ suc k - 1 - b) % 2 ≡ 1 - b % 2 = omega (arith, pow-suc 2 k) in
    let halves = and_other k (a / 2) (b / 2) (omega (arith, pow-suc 2 k)) (omega (arith, pow-suc 2 k)) in
    omega (arith, and_step a (2 ^ suc k - 1 - b), and_step a b, ap (bit_and (a / 2)) half, lowest, halves)

module _ (a b : ℕ) (p : a < 2 ^ 63) (q : b < 2 ^ 63) where
  and_low : bit_and a (2 ^ 64 - suc b) ≡ without a b
  and_low =
      let other : 2 ^ 64 - suc b ≡ 2 ^ 64 - 1 - b = omega arith in
      omega (arith, ap (bit_and a) other, and_other 64 a b (omega arith) (omega arith))

and_lows : (a b : ℕ) → a < 2 ^ 63 → b < 2 ^ 63 → bit_and (2 ^ 64 - suc a) (2 ^ 64 - suc b) ≡ 2 ^ 64 - suc (bit_or a b)
and_lows a b p q =
    let other : 2 ^ 64 - suc b ≡ 2 ^ 64 - 1 - b = omega arith in
    omega (arith, ap (bit_and (2 ^ 64 - suc a)) other, and_other 64 (2 ^ 64 - suc a) b (omega arith) (omega arith), and_comm (2 ^ 64 - suc a) b, and_low b a q p, and_comm a b, or_add_and a b, and_le_l b a)

or_low : (a b : ℕ) → a < 2 ^ 63 → b < 2 ^ 63 → bit_or a (2 ^ 64 - suc b) ≡ 2 ^ 64 - suc (without b a)
or_low a b p q = omega (arith, or_add_and a (2 ^ 64 - suc b), and_low a b p q, and_comm a b, and_le_l a b, and_le_r a b)

or_low' : (a b : ℕ) → a < 2 ^ 63 → b < 2 ^ 63 → bit_or (2 ^ 64 - suc a) b ≡ 2 ^ 64 - suc (without a b)
or_low' a b p q = omega (arith, or_add_and (2 ^ 64 - suc a) b, and_comm (2 ^ 64 - suc a) b, and_low b a q p, and_comm a b, and_le_l a b, and_le_r a b)

or_lows : (a b : ℕ) → a < 2 ^ 63 → b < 2 ^ 63 → bit_or (2 ^ 64 - suc a) (2 ^ 64 - suc b) ≡ 2 ^ 64 - suc (bit_and a b)
or_lows a b p q = omega (arith, or_add_and (2 ^ 64 - suc a) (2 ^ 64 - suc b), and_lows a b p q, or_add_and a b, or_lt 63 a b p q)

and_is : (x y : ℤ) → FitsSigned w64 x → FitsSigned w64 y → int_bit_and w64 x y ≡ bits_and x y
and_is (pos a) (pos b) f g = to_z_pos w64 (bit_and a b) (omega (arith, f.sfits, and_le_l a b))
and_is (pos a) (negsuc b) f g = ap (cast_signed w64) (and_low a b f.sfits g.sfits) ∙ to_z_pos w64 (without a b) (omega (arith, f.sfits))
and_is (negsuc a) (pos b) f g = ap (cast_signed w64) (and_comm (2 ^ 64 - suc a) b ∙ and_low b a g.sfits f.sfits) ∙ to_z_pos w64 (without b a) (omega (arith, g.sfits))
and_is (negsuc a) (negsuc b) f g = ap (cast_signed w64) (and_lows a b f.sfits g.sfits) ∙ to_z-neg w64 (bit_or a b) (or_lt 63 a b f.sfits g.sfits)

or_is : (x y : ℤ) → FitsSigned w64 x → FitsSigned w64 y → int_bit_or w64 x y ≡ bits_or x y
or_is (pos a) (pos b) f g = to_z_pos w64 (bit_or a b) (or_lt 63 a b f.sfits g.sfits)
or_is (pos a) (negsuc b) f g = ap (cast_signed w64) (or_low a b f.sfits g.sfits) ∙ to_z-neg w64 (without b a) (omega (arith, g.sfits))
or_is (negsuc a) (pos b) f g = ap (cast_signed w64) (or_low' a b f.sfits g.sfits) ∙ to_z-neg w64 (without a b) (omega (arith, f.sfits))
or_is (negsuc a) (negsuc b) f g = ap (cast_signed w64) (or_lows a b f.sfits g.sfits) ∙ to_z-neg w64 (bit_and a b) (omega (arith, f.sfits, and_le_l a b))

not_is : (x : ℤ) → FitsSigned w64 x → int_bit_not w64 x ≡ bits_not x
not_is (pos a) f =
    let e : 2 ^ 64 - 1 - a ≡ 2 ^ 64 - suc a = omega arith in
    ap (cast_signed w64) e ∙ to_z-neg w64 a f.sfits
not_is (negsuc a) f =
    let e : 2 ^ 64 - 1 - (2 ^ 64 - suc a) ≡ a = omega (arith, f.sfits) in
    ap (cast_signed w64) e ∙ to_z_pos w64 a f.sfits

and_fits : (x y : ℤ) → FitsSigned w64 x → FitsSigned w64 y → FitsSigned w64 (bits_and x y)
and_fits (pos a) (pos b) f g = record { sfits = omega (arith, f.sfits, and_le_l a b) }
and_fits (pos a) (negsuc b) f g = record { sfits = omega (arith, f.sfits) }
and_fits (negsuc a) (pos b) f g = record { sfits = omega (arith, g.sfits) }
and_fits (negsuc a) (negsuc b) f g = record { sfits = or_lt 63 a b f.sfits g.sfits }

or_fits : (x y : ℤ) → FitsSigned w64 x → FitsSigned w64 y → FitsSigned w64 (bits_or x y)
or_fits (pos a) (pos b) f g = record { sfits = or_lt 63 a b f.sfits g.sfits }
or_fits (pos a) (negsuc b) f g = record { sfits = omega (arith, g.sfits) }
or_fits (negsuc a) (pos b) f g = record { sfits = omega (arith, f.sfits) }
or_fits (negsuc a) (negsuc b) f g = record { sfits = omega (arith, f.sfits, and_le_l a b) }

not_fits : (x : ℤ) → FitsSigned w64 x → FitsSigned w64 (bits_not x)
not_fits (pos a) f = record { sfits = f.sfits }
not_fits (negsuc a) f = record { sfits = f.sfits }

-- an integer of 64 bits is its own value
pub ranged_is : (w z : ℤ) → w ≡ z → FitsSigned w64 z → Ok w ≡ ranged z
ranged_is w z e f = ap Ok e ∙ sym (ap (λ b. if b then Ok z else Err Overflow) (in_range-fits z f))

pub and_ranged : (x y : ℤ) → FitsSigned w64 x → FitsSigned w64 y → Ok (int_bit_and w64 x y) ≡ ranged (bits_and x y)
and_ranged x y f g = ranged_is (int_bit_and w64 x y) (bits_and x y) (and_is x y f g) (and_fits x y f g)

pub or_ranged : (x y : ℤ) → FitsSigned w64 x → FitsSigned w64 y → Ok (int_bit_or w64 x y) ≡ ranged (bits_or x y)
or_ranged x y f g = ranged_is (int_bit_or w64 x y) (bits_or x y) (or_is x y f g) (or_fits x y f g)

pub not_ranged : (x : ℤ) → FitsSigned w64 x → Ok (int_bit_not w64 x) ≡ ranged (bits_not x)
not_ranged x f = ranged_is (int_bit_not w64 x) (bits_not x) (not_is x f) (not_fits x f)
