-- The value of an expression, or its first error (ISO/IEC 13211-1, 9.1): over integers without a limit, with the range tested after each operation.
use Rattle.std.specs.Prelude.{ℕ, ℤ, pos, negsuc, suc, ◌/◌, ◌%◌, ◌^◌, ◌+ℤ◌, ◌-ℤ◌, ◌*ℤ◌, neg_ℤ, unsigned_abs, Bool, false, nat_eq, nat_lt, if◌then◌else◌, List, [], ◌∷◌, codes, Option, Some, Result, Ok, Err, slice_index_or}
use Rattle.std.specs.Int.{int_signum}
use Rattle.std.specs.Option.{option_map}
use Rattle.pl_atoms.specs.CaseTable.{Case, case_place}
use Rattle.pl_terms.specs.Trees.{Tree, Trees, var, int, atom, comp, nil, cons, count}
use Rattle.pl_terms.specs.Order.{text_of}
use Rattle.value_model.specs.declared.EvalFault.{EvalFault}
use Rattle.value_model.specs.declared.EvalFault.TheVariants.{Instantiation, NotEvaluable, Overflow, ZeroDivisor, Undefined}
use Rattle.value_model.specs.declared.Unary.{Unary}
use Rattle.value_model.specs.declared.Unary.TheVariants.{Complement, Negate, Abs, Sign}
use Rattle.value_model.specs.declared.Binary.{Binary}
use Rattle.value_model.specs.declared.Binary.TheVariants.{Add, Subtract, Multiply, Quotient, Remainder, Modulo, ShiftLeft, ShiftRight, And, Or}
use Rattle.value_model.specs.declared.Operation.{Operation}
use Rattle.value_model.specs.declared.Operation.TheVariants.{One, Two}
use Rattle.value_model.specs.Bits.{bits_and, bits_or, bits_not}

abbrev pub row : List ℕ → ℕ → ℕ → Case
row name arity value = record { name = name; arity = arity; value = value }

-- the evaluable functors: name, number of arguments, and number of the operation
unfoldable pub evaluables : List Case
evaluables =
    row (codes "*") 2 0
    ∷ row (codes "+") 2 1
    ∷ row (codes "-") 1 2
    ∷ row (codes "-") 2 3
    ∷ row (codes "//") 2 4
    ∷ row (codes "/\\") 2 5
    ∷ row (codes "<<") 2 6
    ∷ row (codes ">>") 2 7
    ∷ row (codes "\\") 1 8
    ∷ row (codes "\\/") 2 9
    ∷ row (codes "abs") 1 10
    ∷ row (codes "mod") 2 11
    ∷ row (codes "rem") 2 12
    ∷ row (codes "sign") 1 13
    ∷ []

-- the operations by their numbers
abbrev pub operations : List Operation
operations = Two Multiply ∷ Two Add ∷ One Negate ∷ Two Subtract ∷ Two Quotient ∷ Two And ∷ Two ShiftLeft ∷ Two ShiftRight ∷ One Complement ∷ Two Or ∷ One Abs ∷ Two Modulo ∷ Two Remainder ∷ One Sign ∷ []

abbrev pub operation_at : ℕ → Operation
operation_at n = slice_index_or operations n (One Sign)

-- the operation with this name and number of arguments
abbrev pub operation_of : List ℕ → ℕ → Option Operation
operation_of name k = option_map (λ place. operation_at (slice_index_or evaluables place (row [] 0 0)).value) (case_place evaluables name k)

-- the number is one of 64 bits
abbrev pub in_range : ℤ → Bool
in_range (pos n) = nat_lt n (2 ^ 63)
in_range (negsuc n) = nat_lt n (2 ^ 63)

abbrev pub ranged : ℤ → Result ℤ EvalFault
ranged z = if in_range z then Ok z else Err Overflow

abbrev pub is_zero : ℤ → Bool
is_zero (pos n) = nat_eq n 0
is_zero (negsuc n) = false

-- rounded toward zero
abbrev pub quotient : ℤ → ℤ → ℤ
quotient (pos a) (pos b) = pos (a / b)
quotient (pos a) (negsuc b) = neg_ℤ (pos (a / suc b))
quotient (negsuc a) (pos b) = neg_ℤ (pos (suc a / b))
quotient (negsuc a) (negsuc b) = pos (suc a / suc b)

-- rounded down
abbrev pub floor_quotient : ℤ → ℤ → ℤ
floor_quotient (pos a) (pos b) = pos (a / b)
floor_quotient (pos a) (negsuc b) = if nat_eq (a % suc b) 0 then neg_ℤ (pos (a / suc b)) else negsuc (a / suc b)
floor_quotient (negsuc a) (pos b) = negsuc (a / b)
floor_quotient (negsuc a) (negsuc b) = pos (suc a / suc b)

-- a shift is by 0 to 63 bits
abbrev pub is_shift : ℤ → Bool
is_shift (pos n) = nat_lt n 64
is_shift (negsuc n) = false

-- z / 2 ^ k, rounded down
abbrev pub halved : ℤ → ℕ → ℤ
halved (pos a) k = pos (a / 2 ^ k)
halved (negsuc a) k = negsuc (a / 2 ^ k)

abbrev pub dividing : ℤ → ℤ → Result ℤ EvalFault
dividing y z = if is_zero y then Err ZeroDivisor else ranged z

abbrev pub shifting : ℤ → ℤ → Result ℤ EvalFault
shifting y z = if is_shift y then ranged z else Err Undefined

abbrev pub apply_one : Unary → ℤ → Result ℤ EvalFault
apply_one Complement x = ranged (bits_not x)
apply_one Negate x = ranged (neg_ℤ x)
apply_one Abs x = ranged (pos (unsigned_abs x))
apply_one Sign x = ranged (int_signum x)

abbrev pub apply_two : Binary → ℤ → ℤ → Result ℤ EvalFault
apply_two Add x y = ranged (x +ℤ y)
apply_two Subtract x y = ranged (x -ℤ y)
apply_two Multiply x y = ranged (x *ℤ y)
apply_two Quotient x y = dividing y (quotient x y)
apply_two Remainder x y = dividing y (x -ℤ (quotient x y *ℤ y))
apply_two Modulo x y = dividing y (x -ℤ (floor_quotient x y *ℤ y))
apply_two ShiftLeft x y = shifting y (x *ℤ pos (2 ^ unsigned_abs y))
apply_two ShiftRight x y = shifting y (halved x (unsigned_abs y))
apply_two And x y = ranged (bits_and x y)
apply_two Or x y = ranged (bits_or x y)

abbrev pub after : Result ℤ EvalFault → (ℤ → Result ℤ EvalFault) → Result ℤ EvalFault
after (Ok z) next = next z
after (Err e) next = Err e

-- the value of an operation over those of its arguments, or this error where there is no such operation
abbrev pub combine : EvalFault → Option Operation → List (Result ℤ EvalFault) → Result ℤ EvalFault
combine e (Some (One op)) (v ∷ vs) = after v (apply_one op)
combine e (Some (Two op)) (v ∷ w ∷ vs) = after v (λ x. after w (λ y. apply_two op x y))
combine e _ _ = Err e

-- the value of a tree, or the first error: that of the functor, then those of the arguments from the left, then that of the operation
abbrev mutual
  pub value : List (List ℕ) → Tree ℕ → Result ℤ EvalFault
  value names (var n) = Err Instantiation
  value names (int z) = Ok z
  value names (atom a) = Err (NotEvaluable (record { 0 = a }) 0)
  value names (comp f ts) = combine (NotEvaluable (record { 0 = f }) (count ts)) (operation_of (text_of names f) (count ts)) (values names ts)

  pub values : List (List ℕ) → Trees ℕ → List (Result ℤ EvalFault)
  values names nil = []
  values names (cons t ts) = value names t ∷ values names ts
