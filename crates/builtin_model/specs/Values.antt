-- The value of an expression, or its first error (ISO/IEC 13211-1, 9.1), whatever its names are.
use Rattle.std.specs.Prelude.{ℕ, ℤ, List, [], ◌∷◌, Option, Some, Result, Ok, Err}
use Rattle.pl_terms.specs.Trees.{Tree, var, int, atom, comp, Trees, nil, cons, count}
use Rattle.value_model.specs.declared.EvalFault.{EvalFault}
use Rattle.value_model.specs.declared.EvalFault.TheVariants.{Instantiation, NotEvaluable}
use Rattle.value_model.specs.declared.Operation.{Operation}
use Rattle.value_model.specs.declared.Operation.TheVariants.{One, Two}
use Rattle.value_model.specs.Value.{apply_one, apply_two, operation_of}
use Rattle.builtin_model.specs.Naming.{Naming}
use Rattle.builtin_model.specs.Faults.{Fault, instantiation, not_evaluable, evaluation}

abbrev pub Valued : Type 0 → Type 0
Valued N = Result ℤ (Fault N)

-- the result of an operation
abbrev pub operated : {N : Type 0} → Result ℤ EvalFault → Valued N
operated (Ok z) = Ok z
operated (Err e) = Err (evaluation e)

abbrev pub then_with : {N : Type 0} → Valued N → (ℤ → Valued N) → Valued N
then_with (Ok z) next = next z
then_with (Err e) next = Err e

-- the value of an operation over those of its arguments, from the left, or this error where there is no such operation
abbrev pub combined : {N : Type 0} → Fault N → Option Operation → List (Valued N) → Valued N
combined e (Some (One op)) (v ∷ vs) = then_with v (λ x. operated (apply_one op x))
combined e (Some (Two op)) (v ∷ w ∷ vs) = then_with v (λ x. then_with w (λ y. operated (apply_two op x y)))
combined e _ _ = Err e

module _ {N : Type 0} (n : Naming N) where
  abbrev mutual
    pub value : Tree N → Valued N
    value (var m) = Err instantiation
    value (int z) = Ok z
    value (atom a) = Err (not_evaluable a 0)
    value (comp f ts) = combined (not_evaluable f (count ts)) (operation_of (n.text f) (count ts)) (values ts)

    pub values : Trees N → List (Valued N)
    values nil = []
    values (cons t ts) = value t ∷ values ts

-- what the value over the numbers of a table is among these
abbrev pub eval_fault : EvalFault → Fault ℕ
eval_fault Instantiation = instantiation
eval_fault (NotEvaluable f k) = not_evaluable f.0 k
eval_fault e = evaluation e

abbrev pub as_valued : Result ℤ EvalFault → Valued ℕ
as_valued (Ok z) = Ok z
as_valued (Err e) = Err (eval_fault e)
