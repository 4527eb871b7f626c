-- The standard operators by name, as the rows of a table of cases.
use Rattle.std.specs.Prelude.{ℕ, List, [], ◌∷◌, codes, slice_index_or}
use Rattle.pl_atoms.specs.CaseTable.{Case}
use Rattle.pl_ops.specs.Tables.{Declaration}
use Rattle.pl_ops.specs.declared.op.Kind.{Kind}
use Rattle.pl_ops.specs.declared.op.Kind.TheVariants.{Xfx as xfx, Xfy as xfy, Yfx as yfx, Fx as fx, Fy as fy}
use Rattle.pl_ops.specs.declared.op.Op.{Op as Operator}

abbrev pub row : List ℕ → ℕ → ℕ → Case
row name arity value = record { name = name; arity = arity; value = value }

unfoldable pub operator_rows : List Case
operator_rows =
    row (codes "*") 2 11
    ∷ row (codes "**") 2 12
    ∷ row (codes "+") 2 10
    ∷ row (codes ",") 2 5
    ∷ row (codes "-") 1 14
    ∷ row (codes "-") 2 10
    ∷ row (codes "-->") 2 0
    ∷ row (codes "->") 2 4
    ∷ row (codes "/") 2 11
    ∷ row (codes "//") 2 11
    ∷ row (codes "/\\") 2 10
    ∷ row (codes ":") 2 9
    ∷ row (codes ":-") 1 1
    ∷ row (codes ":-") 2 0
    ∷ row (codes ";") 2 3
    ∷ row (codes "<") 2 7
    ∷ row (codes "<<") 2 11
    ∷ row (codes "=") 2 7
    ∷ row (codes "=..") 2 7
    ∷ row (codes "=:=") 2 7
    ∷ row (codes "=<") 2 7
    ∷ row (codes "==") 2 7
    ∷ row (codes "=\\=") 2 7
    ∷ row (codes ">") 2 7
    ∷ row (codes ">=") 2 7
    ∷ row (codes ">>") 2 11
    ∷ row (codes "?-") 1 1
    ∷ row (codes "@") 2 8
    ∷ row (codes "@<") 2 7
    ∷ row (codes "@=<") 2 7
    ∷ row (codes "@>") 2 7
    ∷ row (codes "@>=") 2 7
    ∷ row (codes "\\") 1 14
    ∷ row (codes "\\+") 1 6
    ∷ row (codes "\\/") 2 10
    ∷ row (codes "\\=") 2 7
    ∷ row (codes "\\==") 2 7
    ∷ row (codes "^") 2 13
    ∷ row (codes "discontiguous") 1 2
    ∷ row (codes "dynamic") 1 2
    ∷ row (codes "is") 2 7
    ∷ row (codes "mod") 2 11
    ∷ row (codes "rem") 2 11
    ∷ []

abbrev pub op : ℕ → Kind → Operator
op priority kind = record { priority = priority; kind = kind }

-- their priorities and kinds
abbrev pub ops : List Operator
ops = op 1200 xfx ∷ op 1200 fx ∷ op 1150 fx ∷ op 1100 xfy ∷ op 1050 xfy ∷ op 1000 xfy ∷ op 900 fy ∷ op 700 xfx ∷ op 560 xfx ∷ op 550 xfy ∷ op 500 yfx ∷ op 400 yfx ∷ op 200 xfx ∷ op 200 xfy ∷ op 200 fy ∷ []

abbrev pub op_at : ℕ → Operator
op_at n = slice_index_or ops n (op 0 xfx)

-- the declaration of a row
abbrev pub declared_case : Case → Declaration
declared_case c = record { op = op_at c.value; name = c.name }
