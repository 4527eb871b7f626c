-- The value of an expression over the numbers of a table.
use Rattle.std.specs.Prelude.{◌+ℤ◌, ◌-ℤ◌, ◌*ℤ◌, ◌^◌, neg_ℤ, unsigned_abs, pos}
use Rattle.std.specs.Int.{int_signum}
use Rattle.value_model.specs.Bits.{bits_not, bits_and, bits_or}
use Rattle.std.proofs.Common.{◌≡◌, ℕ, ℤ, List, [], ◌∷◌, map, refl, ap, ◌∙◌, Bool, true, false, Option, Some, None, Result, Ok, Err, if◌then◌else◌}
use Rattle.pl_terms.specs.Trees.{Tree, Trees, var, int, atom, comp, nil, cons, count}
use Rattle.pl_terms.specs.Order.{text_of}
use Rattle.value_model.specs.declared.EvalFault.{EvalFault}
use Rattle.value_model.specs.declared.EvalFault.TheVariants.{NotEvaluable, Overflow, ZeroDivisor, Undefined}
use Rattle.value_model.specs.declared.Unary.{Unary}
use Rattle.value_model.specs.declared.Unary.TheVariants as U
use Rattle.value_model.specs.declared.Binary.{Binary}
use Rattle.value_model.specs.declared.Binary.TheVariants as B
use Rattle.value_model.specs.declared.Operation.{Operation}
use Rattle.value_model.specs.declared.Operation.TheVariants.{One, Two}
use Rattle.value_model.specs.Value.{value as value_of, values as values_of, apply_one, apply_two, operation_of, combine, in_range, ranged, is_zero, is_shift, dividing, shifting, quotient, floor_quotient, halved}
use Rattle.builtin_model.specs.Naming.{by_numbers}
use Rattle.builtin_model.specs.Values.{operated, combined, value, values, eval_fault, as_valued}

operated-ranged : (z : ℤ) → operated (ranged z) ≡ as_valued (ranged z)
operated-ranged z = by (in_range z)
  where
    by : (b : Bool) → operated (if b then Ok z else Err Overflow) ≡ as_valued (if b then Ok z else Err Overflow)
    by true = refl
    by false = refl

operated-dividing : (y z : ℤ) → operated (dividing y z) ≡ as_valued (dividing y z)
operated-dividing y z = by (is_zero y)
  where
    by : (b : Bool) → operated (if b then Err ZeroDivisor else ranged z) ≡ as_valued (if b then Err ZeroDivisor else ranged z)
    by true = refl
    by false = operated-ranged z

operated-shifting : (y z : ℤ) → operated (shifting y z) ≡ as_valued (shifting y z)
operated-shifting y z = by (is_shift y)
  where
    by : (b : Bool) → operated (if b then ranged z else Err Undefined) ≡ as_valued (if b then ranged z else Err Undefined)
    by true = operated-ranged z
    by false = refl

operated-one : (op : Unary) (x : ℤ) → operated (apply_one op x) ≡ as_valued (apply_one op x)
operated-one U.Complement x = operated-ranged (bits_not x)
operated-one U.Negate x = operated-ranged (neg_ℤ x)
operated-one U.Abs x = operated-ranged (pos (unsigned_abs x))
operated-one U.Sign x = operated-ranged (int_signum x)

operated-two : (op : Binary) (x y : ℤ) → operated (apply_two op x y) ≡ as_valued (apply_two op x y)
operated-two B.Add x y = operated-ranged (x +ℤ y)
operated-two B.Subtract x y = operated-ranged (x -ℤ y)
operated-two B.Multiply x y = operated-ranged (x *ℤ y)
operated-two B.Quotient x y = operated-dividing y (quotient x y)
operated-two B.Remainder x y = operated-dividing y (x -ℤ (quotient x y *ℤ y))
operated-two B.Modulo x y = operated-dividing y (x -ℤ (floor_quotient x y *ℤ y))
operated-two B.ShiftLeft x y = operated-shifting y (x *ℤ pos (2 ^ unsigned_abs y))
operated-two B.ShiftRight x y = operated-shifting y (halved x (unsigned_abs y))
operated-two B.And x y = operated-ranged (bits_and x y)
operated-two B.Or x y = operated-ranged (bits_or x y)

combined-combine : (e : EvalFault) (op : Option Operation) (vs : List (Result ℤ EvalFault)) → combined (eval_fault e) op (map as_valued vs) ≡ as_valued (combine e op vs)
combined-combine e None vs = refl
combined-combine e (Some (One op)) [] = refl
combined-combine e (Some (One op)) (Ok x ∷ vs) = operated-one op x
combined-combine e (Some (One op)) (Err f ∷ vs) = refl
combined-combine e (Some (Two op)) [] = refl
combined-combine e (Some (Two op)) (v ∷ []) = refl
combined-combine e (Some (Two op)) (Ok x ∷ Ok y ∷ vs) = operated-two op x y
combined-combine e (Some (Two op)) (Ok x ∷ Err f ∷ vs) = refl
combined-combine e (Some (Two op)) (Err f ∷ w ∷ vs) = refl

module _ (names : List (List ℕ)) where
  mutual
    pub value-numbers : (t : Tree ℕ) → value (by_numbers names) t ≡ as_valued (value_of names t)
    value-numbers (var n) = refl
    value-numbers (int z) = refl
    value-numbers (atom a) = refl
    value-numbers (comp f ts) =
        let e : EvalFault = NotEvaluable (record { 0 = f }) (count ts) in
        let op : Option Operation = operation_of (text_of names f) (count ts) in
        ap (combined (eval_fault e) op) (values-numbers ts) ∙ combined-combine e op (values_of names ts)

    values-numbers : (ts : Trees ℕ) → values (by_numbers names) ts ≡ map as_valued (values_of names ts)
    values-numbers nil = refl
    values-numbers (cons t ts) = ap (λ v. v ∷ values (by_numbers names) ts) (value-numbers t) ∙ ap (λ vs. as_valued (value_of names t) ∷ vs) (values-numbers ts)
