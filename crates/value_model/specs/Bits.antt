-- Bits of integers without a limit, in two's complement: those of -1 - n are the other ones than those of n.
use Rattle.std.specs.Prelude.{ℕ, ◌-◌, ℤ, pos, negsuc}
use Rattle.std.specs.Int.Bits.{bit_and, bit_or}

-- the bits of a that b lacks
abbrev pub without : ℕ → ℕ → ℕ
without a b = a - bit_and a b

-- the bits that both have
abbrev pub bits_and : ℤ → ℤ → ℤ
bits_and (pos a) (pos b) = pos (bit_and a b)
bits_and (pos a) (negsuc b) = pos (without a b)
bits_and (negsuc a) (pos b) = pos (without b a)
bits_and (negsuc a) (negsuc b) = negsuc (bit_or a b)

-- the bits that one of them has
abbrev pub bits_or : ℤ → ℤ → ℤ
bits_or (pos a) (pos b) = pos (bit_or a b)
bits_or (pos a) (negsuc b) = negsuc (without b a)
bits_or (negsuc a) (pos b) = negsuc (without a b)
bits_or (negsuc a) (negsuc b) = negsuc (bit_and a b)

-- the other bits
abbrev pub bits_not : ℤ → ℤ
bits_not (pos n) = negsuc n
bits_not (negsuc n) = pos n
