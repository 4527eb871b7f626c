-- Numbers of arguments.
use Rattle.std.specs.Prelude.{ℤ, pos, negsuc, zero, suc, nat_lt, if◌then◌else◌}
use Rattle.pl_builtin_terms.specs.declared.functor_row.Count.{Count}
use Rattle.pl_builtin_terms.specs.declared.functor_row.Count.TheVariants as C

abbrev pub count_of : ℤ → Count
count_of (negsuc k) = C.Negative
count_of (pos zero) = C.Zero
count_of (pos (suc k)) = if nat_lt 255 (suc k) then C.TooMany else C.Some (suc k)
