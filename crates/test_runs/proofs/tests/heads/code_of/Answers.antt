use Rattle.std.proofs.Common.{ℕ, List, [], ◌∷◌, ◌++◌, subst, sym}
use Rattle.pl_terms.specs.declared.cell.Cell.{Cell}
use Rattle.pl_terms.specs.declared.cell.Cell.TheVariants.{Var, Int, Name, Comp}
use Rattle.pl_unify.specs.Code.{VarsBelow}
use Rattle.test_runs.proofs.tests.heads.code_of.Goals as goal

VarsBelow-append : (vars : ℕ) (xs ys : List Cell) → VarsBelow vars xs → VarsBelow vars ys → VarsBelow vars (xs ++ ys)
VarsBelow-append vars [] ys a b = b
VarsBelow-append vars (Var n ∷ xs) ys a b = (a.0, VarsBelow-append vars xs ys a.1 b)
VarsBelow-append vars (Int z ∷ xs) ys a b = VarsBelow-append vars xs ys a b
VarsBelow-append vars (Name n ∷ xs) ys a b = VarsBelow-append vars xs ys a b
VarsBelow-append vars (Comp f k ∷ xs) ys a b = VarsBelow-append vars xs ys a b

pub loop-cell-preserved : goal.loop-cell-preserved
loop-cell-preserved c =
    subst (VarsBelow c.args.vars) (sym c.in_ok-push.ensures.ok) (VarsBelow-append c.args.vars c.loop-cell.cells (_ ∷ []) c.loop-cell.invariant (c.is_in.ensures c.if-not-is_in.false).1)
