-- The operators that every text begins with.
use Rattle.std.specs.Prelude.{ℕ, List, [], ◌∷◌, codes}
use Rattle.pl_ops.specs.Tables.{Declaration}
use Rattle.pl_ops.specs.declared.op.Kind.{Kind}
use Rattle.pl_ops.specs.declared.op.Kind.TheVariants.{Xfx as xfx, Xfy as xfy, Yfx as yfx, Fx as fx, Fy as fy}

-- operators of one priority and kind, before others
abbrev pub of_kind : ℕ → Kind → List (List ℕ) → List Declaration → List Declaration
of_kind p k [] ds = ds
of_kind p k (s ∷ ss) ds = record { op = record { priority = p; kind = k }; name = s } ∷ of_kind p k ss ds

unfoldable pub standard : List Declaration
standard =
    of_kind 1200 xfx (codes ":-" ∷ codes "-->" ∷ [])
    (of_kind 1200 fx (codes ":-" ∷ codes "?-" ∷ [])
    (of_kind 1150 fx (codes "dynamic" ∷ codes "discontiguous" ∷ [])
    (of_kind 1100 xfy (codes ";" ∷ [])
    (of_kind 1050 xfy (codes "->" ∷ [])
    (of_kind 1000 xfy (codes "," ∷ [])
    (of_kind 900 fy (codes "\\+" ∷ [])
    (of_kind 700 xfx (codes "=" ∷ codes "\\=" ∷ codes "==" ∷ codes "\\==" ∷ codes "@<" ∷ codes "@=<" ∷ codes "@>" ∷ codes "@>=" ∷ codes "=.." ∷ codes "is" ∷ codes "=:=" ∷ codes "=\\=" ∷ codes "<" ∷ codes "=<" ∷ codes ">" ∷ codes ">=" ∷ [])
    (of_kind 560 xfx (codes "@" ∷ [])
    (of_kind 550 xfy (codes ":" ∷ [])
    (of_kind 500 yfx (codes "+" ∷ codes "-" ∷ codes "/\\" ∷ codes "\\/" ∷ [])
    (of_kind 400 yfx (codes "*" ∷ codes "/" ∷ codes "//" ∷ codes "rem" ∷ codes "mod" ∷ codes "<<" ∷ codes ">>" ∷ [])
    (of_kind 200 xfx (codes "**" ∷ [])
    (of_kind 200 xfy (codes "^" ∷ [])
    (of_kind 200 fy (codes "-" ∷ codes "\\" ∷ []) []))))))))))))))
