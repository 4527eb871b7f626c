-- Trees one after another, gone over from the left.
use Rattle.std.specs.Prelude.{◌≡◌, ℕ, List, [], length, refl, nat_eq, Bool, false, ◌&&◌, Option, Some, None}
use Rattle.std.proofs.Common.{sym, ap, ◌∙◌}
use Rattle.std.specs.Coded.{Coded, code_by, coded_list}
use Rattle.pl_ops.specs.Tables.{same_text}
use Rattle.pl_terms.specs.Trees.{var, int, atom, comp, Trees, nil, cons, count, append}
use Rattle.pl_terms.specs.Cells.{all_cells, forest}
use Rattle.pl_terms.specs.Forest.{forest-all_cells, append-nil}
use Rattle.pl_terms.specs.TreeCode.{cell_code}
use Rattle.pl_terms.specs.declared.cell.Cell.{Cell}
use Rattle.pl_terms.specs.declared.cell.Cell.TheVariants.{Var, Int, Name, Comp}

-- the first cell
abbrev pub first_cell : Trees ℕ → Option Cell
first_cell nil = None
first_cell (cons (var n) ts) = Some (Var n)
first_cell (cons (int z) ts) = Some (Int z)
first_cell (cons (atom s) ts) = Some (Name (record { 0 = s }))
first_cell (cons (comp s us) ts) = Some (Comp (record { 0 = s }) (count us))

-- the trees after the first cell: a compound's arguments come before what follows it
abbrev pub entered : Trees ℕ → Trees ℕ
entered nil = nil
entered (cons (var n) ts) = ts
entered (cons (int z) ts) = ts
entered (cons (atom s) ts) = ts
entered (cons (comp s us) ts) = append us ts

-- how many cells there are
abbrev pub size : Trees ℕ → ℕ
size ts = length (all_cells ts)

-- the number of arguments of a cell
abbrev pub arity_of : Cell → ℕ
arity_of (Comp s k) = k
arity_of _ = 0

-- the first tree is compound, with this name and number of arguments
abbrev pub is_functor : (ℕ → List ℕ) → List ℕ → ℕ → Trees ℕ → Bool
is_functor f name arity (cons (comp s us) ts) = nat_eq (count us) arity && same_text (f s) name
is_functor f name arity _ = false

-- trees are stored as their cells
pub trees-nil : {N : Type 0} (ts : Trees N) → append ts nil ≡ ts
trees-nil nil = refl
trees-nil (cons t ts) = ap (cons t) (trees-nil ts)

pub forest-of : (ts : Trees ℕ) → forest (all_cells ts) ≡ ts
forest-of ts = ap forest (sym (append-nil (all_cells ts))) ∙ forest-all_cells ts [] ∙ trees-nil ts

abbrev pub trees_code : Coded (Trees ℕ)
trees_code = code_by (List Cell) (coded_list cell_code) all_cells forest forest-of
