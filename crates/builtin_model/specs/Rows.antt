-- The rows of the table of built-in predicates that are no control constructs.
use Rattle.std.specs.Prelude.{ℕ, List, [], ◌∷◌, Option, Some, None, option_and_then, slice_index_or}
use Rattle.pl_atoms.specs.CaseTable.{case_place}
use Rattle.text_model.specs.declared.Quote.TheVariants.{Plain, Quoted}
use Rattle.unit_model.specs.Builtins.{builtins}
use Rattle.builtin_model.specs.declared.row.Row.{Row}
use Rattle.builtin_model.specs.declared.row.Row.TheVariants as R
use Rattle.builtin_model.specs.declared.row.TypeTest.TheVariants as T
use Rattle.builtin_model.specs.declared.row.OrderTest.TheVariants as O
use Rattle.builtin_model.specs.declared.row.Relation.TheVariants as V

-- by the numbers of the built-in procedures; the control constructs are none
abbrev pub rows : List (Option Row)
rows =
    None ∷ None ∷ None ∷ None ∷ None ∷ Some (R.Value V.Less) ∷ Some R.Unify ∷ Some R.Univ ∷ Some (R.Value V.Equal) ∷ Some (R.Value V.AtMost)
    ∷ Some (R.Order O.Same) ∷ Some (R.Value V.NotEqual) ∷ Some (R.Value V.Greater) ∷ Some (R.Value V.AtLeast) ∷ None
    ∷ Some (R.Order O.Less) ∷ Some (R.Order O.AtMost) ∷ Some (R.Order O.Greater) ∷ Some (R.Order O.AtLeast) ∷ None
    ∷ Some R.NotUnifiable ∷ Some (R.Order O.NotSame) ∷ Some R.Arg ∷ Some (R.Type T.Atom) ∷ Some (R.Type T.Atomic)
    ∷ None ∷ None ∷ None ∷ None ∷ None ∷ None ∷ None ∷ None
    ∷ Some (R.Type T.Callable) ∷ Some R.CallingContext ∷ None ∷ Some R.Compare ∷ Some (R.Type T.Compound) ∷ Some R.CopyTerm
    ∷ Some R.Fail ∷ Some R.Fail ∷ None ∷ Some (R.Type T.Float) ∷ Some R.Functor ∷ Some R.Ground ∷ Some R.Halt ∷ Some R.HaltWith
    ∷ Some (R.Type T.Integer) ∷ Some R.Is ∷ Some R.NewLine ∷ Some (R.Type T.Nonvar) ∷ Some (R.Type T.Number) ∷ None
    ∷ Some R.PutChar ∷ None ∷ Some R.TermVariables ∷ None ∷ Some R.True ∷ Some R.Unify ∷ Some (R.Type T.Var)
    ∷ Some (R.Write Plain) ∷ Some (R.Write Quoted) ∷ []

-- the row of a built-in procedure's number
abbrev pub row_of : ℕ → Option Row
row_of n = slice_index_or rows n None

-- the row of this name and number of arguments
abbrev pub row_called : List ℕ → ℕ → Option Row
row_called name arity = option_and_then row_of (case_place builtins name arity)
