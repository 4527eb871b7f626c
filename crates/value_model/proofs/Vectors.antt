-- Worked values.
use Rattle.std.proofs.Common.{◌≡◌, ℕ, pos, negsuc, List, [], ◌∷◌, Ok, Err, refl, codes}
use Rattle.pl_terms.specs.Trees.{Tree, var, int, atom, comp, nil, cons}
use Rattle.value_model.specs.declared.EvalFault.TheVariants.{Instantiation, NotEvaluable, Overflow, ZeroDivisor, Undefined}
use Rattle.value_model.specs.Value.{value, evaluables}

abbrev table : List (List ℕ)
table = codes "+" ∷ codes "-" ∷ codes "*" ∷ codes "//" ∷ codes "rem" ∷ codes "mod" ∷ codes "<<" ∷ codes ">>" ∷ codes "/\\" ∷ codes "\\/" ∷ codes "\\" ∷ codes "abs" ∷ codes "sign" ∷ codes "foo" ∷ []

abbrev two : ℕ → Tree ℕ → Tree ℕ → Tree ℕ
two f x y = comp f (cons x (cons y nil))

abbrev one : ℕ → Tree ℕ → Tree ℕ
one f x = comp f (cons x nil)

abbrev num : ℕ → Tree ℕ
num n = int (pos n)

-- -1 - n
abbrev low : ℕ → Tree ℕ
low n = int (negsuc n)

pub sum : value table (two 0 (num 3) (low 4)) ≡ Ok (negsuc 1)
unfolding evaluables
sum = refl

pub sum_over : value table (two 0 (num 9223372036854775807) (num 1)) ≡ Err Overflow
unfolding evaluables
sum_over = refl

pub product_low : value table (two 2 (num 4611686018427387904) (low 1)) ≡ Ok (negsuc 9223372036854775807)
unfolding evaluables
product_low = refl

pub quotient_low : value table (two 3 (low 6) (num 2)) ≡ Ok (negsuc 2)
unfolding evaluables
quotient_low = refl

pub quotient_over : value table (two 3 (low 9223372036854775807) (low 0)) ≡ Err Overflow
unfolding evaluables
quotient_over = refl

pub rem_edge : value table (two 4 (low 9223372036854775807) (low 0)) ≡ Ok (pos 0)
unfolding evaluables
rem_edge = refl

pub rem_low : value table (two 4 (low 6) (num 2)) ≡ Ok (negsuc 0)
unfolding evaluables
rem_low = refl

pub mod_low : value table (two 5 (low 6) (num 2)) ≡ Ok (pos 1)
unfolding evaluables
mod_low = refl

pub mod_by_low : value table (two 5 (num 7) (low 1)) ≡ Ok (negsuc 0)
unfolding evaluables
mod_by_low = refl

pub mod_by_zero : value table (two 5 (num 7) (num 0)) ≡ Err ZeroDivisor
unfolding evaluables
mod_by_zero = refl

pub shift_top : value table (two 6 (low 0) (num 63)) ≡ Ok (negsuc 9223372036854775807)
unfolding evaluables
shift_top = refl

pub shift_over : value table (two 6 (num 1) (num 63)) ≡ Err Overflow
unfolding evaluables
shift_over = refl

pub shift_64 : value table (two 6 (num 0) (num 64)) ≡ Err Undefined
unfolding evaluables
shift_64 = refl

pub shift_down : value table (two 7 (low 4) (num 1)) ≡ Ok (negsuc 2)
unfolding evaluables
shift_down = refl

pub both : value table (two 8 (low 3) (num 7)) ≡ Ok (pos 4)
unfolding evaluables
both = refl

pub both_low : value table (two 8 (low 3) (low 5)) ≡ Ok (negsuc 7)
unfolding evaluables
both_low = refl

pub either : value table (two 9 (low 3) (num 1)) ≡ Ok (negsuc 2)
unfolding evaluables
either = refl

pub either_high : value table (two 9 (num 12) (num 10)) ≡ Ok (pos 14)
unfolding evaluables
either_high = refl

pub complement : value table (one 10 (num 5)) ≡ Ok (negsuc 5)
unfolding evaluables
complement = refl

pub abs_over : value table (one 11 (low 9223372036854775807)) ≡ Err Overflow
unfolding evaluables
abs_over = refl

pub sign_low : value table (one 12 (low 8)) ≡ Ok (negsuc 0)
unfolding evaluables
sign_low = refl

pub minus : value table (one 1 (num 3)) ≡ Ok (negsuc 2)
unfolding evaluables
minus = refl

pub minus_two : value table (two 1 (num 3) (num 5)) ≡ Ok (negsuc 1)
unfolding evaluables
minus_two = refl

pub atoms : value table (atom 13) ≡ Err (NotEvaluable (record { 0 = 13 }) 0)
unfolding evaluables
atoms = refl

pub other_arity : value table (two 11 (num 1) (num 1)) ≡ Err (NotEvaluable (record { 0 = 11 }) 2)
unfolding evaluables
other_arity = refl

-- the left argument's error comes before the right one's, and that of the functor before those of its arguments
pub left_first : value table (two 3 (var 0) (one 13 (num 0))) ≡ Err Instantiation
unfolding evaluables
left_first = refl

pub right_next : value table (two 3 (num 1) (one 13 (num 0))) ≡ Err (NotEvaluable (record { 0 = 13 }) 1)
unfolding evaluables
right_next = refl

pub outer_first : value table (one 13 (var 0)) ≡ Err (NotEvaluable (record { 0 = 13 }) 1)
unfolding evaluables
outer_first = refl
