-- Reading cells until a tree is whole, as a loop does.
use Rattle.std.proofs.Common.{◌≡◌, ℕ, zero, suc, ◌-◌, ◌+◌, ◌≤◌, ◌<◌, List, [], ◌∷◌, ◌++◌, length, Option, Some, None, refl, sym, ap, ◌∙◌, append_assoc, arith}
use Rattle.std.proofs.lemmas.List.{append-nil, length-append}
use Rattle.pl_terms.specs.Trees.{Tree}
use Rattle.pl_terms.specs.Cells.{cells, tree_of, IsCell, IsTerm}
use Rattle.pl_terms.specs.Forest.{tree_of-cells}
use Rattle.unit_format.proofs.CellLaws.{cells-tree_of}
use Rattle.pl_terms.specs.declared.cell.Cell.{Cell}
use Rattle.unit_format.specs.declared.fault.UnitFault.{UnitFault}
use Rattle.unit_format.specs.declared.fault.UnitFault.TheVariants.{NotUnit, NoMemory}
use Rattle.unit_format.specs.Reading.{◌>>=◌, cell_at, cells_at, arity_of, tree_at}
use Rattle.unit_format.specs.Views.{Fails}
use Rattle.unit_format.proofs.FieldLaws.{IsBytes}
use Rattle.unit_format.proofs.TermLaws.{cell_takes, cells_takes, is_cell}
use Rattle.unit_format.specs.Spelling.{cell_bytes}
use Rattle.unit_format.proofs.Loop.{with_front}

pub shorter : (bytes : List ℕ) (c : Cell) (after : List ℕ) → IsBytes bytes → cell_at bytes ≡ Some (c, after) → length after < length bytes
shorter bytes c after fits h =
    let t = cell_takes bytes c after fits h in
    omega (arith, ap length t.0.parts, length-append (cell_bytes c) after)

pub after_fits : (bytes : List ℕ) (c : Cell) (after : List ℕ) → IsBytes bytes → cell_at bytes ≡ Some (c, after) → IsBytes after
after_fits bytes c after fits h = (cell_takes bytes c after fits h).0.rest_fits

pub cell_is : (bytes : List ℕ) (c : Cell) (after : List ℕ) → IsBytes bytes → cell_at bytes ≡ Some (c, after) → IsCell c
cell_is bytes c after fits h = is_cell c (cell_takes bytes c after fits h).1

abbrev next : ℕ → ℕ → Option (Cell × List ℕ) → Option (List Cell × List ℕ)
next turns wanted r = r >>= λ c. cells_at turns (arity_of c.0 + wanted) c.1 >>= λ cs. Some (c.0 ∷ cs.0, cs.1)

-- the turns don't matter where they are enough
steady : (a b wanted : ℕ) (bytes : List ℕ) → IsBytes bytes → length bytes ≤ a → length bytes ≤ b → cells_at a wanted bytes ≡ cells_at b wanted bytes
unfolding cells_at cell_at
steady a b zero bytes fits p q = refl
steady zero zero (suc wanted) bytes fits p q = refl
steady zero (suc b) (suc wanted) [] fits p q = refl
steady zero (suc b) (suc wanted) (x ∷ bytes) fits p q = absurd (omega arith)
steady (suc a) zero (suc wanted) [] fits p q = refl
steady (suc a) zero (suc wanted) (x ∷ bytes) fits p q = absurd (omega arith)
steady (suc a) (suc b) (suc wanted) bytes fits p q = go (cell_at bytes) refl (λ c after i l m. steady a b (arity_of c + wanted) after i l m)
  where
    go : (r : Option (Cell × List ℕ)) → cell_at bytes ≡ r → ((c : Cell) (after : List ℕ) → IsBytes after → length after ≤ a → length after ≤ b → cells_at a (arity_of c + wanted) after ≡ cells_at b (arity_of c + wanted) after) → next a wanted r ≡ next b wanted r
    go None e ih = refl
    go (Some x) e ih =
        let l = shorter bytes x.0 x.1 fits e in
        ap (λ r. r >>= λ cs. Some (x.0 ∷ cs.0, cs.1)) (ih x.0 x.1 (after_fits bytes x.0 x.1 fits e) (omega arith) (omega arith))

regroup : (front : List Cell) (c : Cell) (read : Option (List Cell × List ℕ)) → with_front front (read >>= λ x. Some (c ∷ x.0, x.1)) ≡ with_front (front ++ c ∷ []) read
regroup front c (Some x) = ap (λ (ns : List Cell). Some (ns, x.1)) (simp append_assoc)
regroup front c None = refl

abbrev pub Total : Type 0
Total = Option (List Cell × List ℕ)

abbrev pub Stands : List Cell → ℕ → List ℕ → List ℕ → Type 0
Stands front wanted rest bytes = with_front front (cells_at (length rest) wanted rest) ≡ cells_at (length bytes) 1 bytes

opened : (turns wanted : ℕ) (bytes : List ℕ) (c : Cell) (after : List ℕ) → cell_at bytes ≡ Some (c, after) → cells_at (suc turns) (suc wanted) bytes ≡ (cells_at turns (arity_of c + wanted) after >>= λ cs. Some (c ∷ cs.0, cs.1))
unfolding cells_at
opened turns wanted bytes c after h = ap (next turns wanted) h

pub goes_on : (front : List Cell) (wanted new : ℕ) (rest after bytes : List ℕ) (c : Cell) → 0 < wanted → IsBytes rest → cell_at rest ≡ Some (c, after) → new ≡ wanted - 1 + arity_of c
    → Stands front wanted rest bytes → Stands (front ++ c ∷ []) new after bytes
goes_on front wanted new rest after bytes c pos fits h is so_far =
    let l = shorter rest c after fits h in
    let w : wanted ≡ suc (wanted - 1) = omega arith in
    let n : length rest ≡ suc (length rest - 1) = omega arith in
    let k : arity_of c + (wanted - 1) ≡ new = omega arith in
    let one : cells_at (length rest) wanted rest ≡ cells_at (suc (length rest - 1)) (suc (wanted - 1)) rest = ap (λ a. cells_at a wanted rest) n ∙ ap (λ b. cells_at (suc (length rest - 1)) b rest) w in
    let two : cells_at (length rest) wanted rest ≡ (cells_at (length after) new after >>= λ cs. Some (c ∷ cs.0, cs.1)) =
    one ∙ opened (length rest - 1) (wanted - 1) rest c after h
    ∙ ap (λ r. r >>= λ cs. Some (c ∷ cs.0, cs.1)) (steady (length rest - 1) (length after) (arity_of c + (wanted - 1)) after (after_fits rest c after fits h) (omega arith) (omega arith) ∙ ap (λ a. cells_at (length after) a after) k) in
    sym (ap (with_front front) two ∙ regroup front c (cells_at (length after) new after)) ∙ so_far

fails_one : (turns wanted : ℕ) (bytes : List ℕ) → 0 < wanted → cell_at bytes ≡ None → cells_at turns wanted bytes ≡ None
unfolding cells_at
fails_one turns zero bytes pos h = absurd (omega arith)
fails_one zero (suc wanted) bytes pos h = refl
fails_one (suc turns) (suc wanted) bytes pos h = ap (next turns wanted) h

from_total : (bytes : List ℕ) (x : Total) → cells_at (length bytes) 1 bytes ≡ x → tree_at bytes ≡ (x >>= λ cs. Some (tree_of cs.0, cs.1))
unfolding tree_at
from_total bytes x e = ap (λ r. r >>= λ cs. Some (tree_of cs.0, cs.1)) e

pub ends : (e : UnitFault) (front : List Cell) (wanted : ℕ) (rest bytes : List ℕ) → 0 < wanted → Fails e (cell_at rest) → Stands front wanted rest bytes → Fails e (tree_at bytes)
ends NoMemory front wanted rest bytes pos h so_far = tt
ends NotUnit front wanted rest bytes pos h so_far = from_total bytes None (sym so_far ∙ ap (with_front front) (fails_one (length rest) wanted rest pos h))

-- more trees than bytes
too_many : (turns wanted : ℕ) (bytes : List ℕ) → IsBytes bytes → length bytes < wanted → cells_at turns wanted bytes ≡ None
unfolding cells_at
too_many turns zero bytes fits lt = absurd (omega arith)
too_many zero (suc wanted) bytes fits lt = refl
too_many (suc turns) (suc wanted) bytes fits lt = go (cell_at bytes) refl (λ c after i l. too_many turns (arity_of c + wanted) after i l)
  where
    go : (r : Option (Cell × List ℕ)) → cell_at bytes ≡ r → ((c : Cell) (after : List ℕ) → IsBytes after → length after < arity_of c + wanted → cells_at turns (arity_of c + wanted) after ≡ None) → next turns wanted r ≡ None
    go None e ih = refl
    go (Some x) e ih =
        let l = shorter bytes x.0 x.1 fits e in
        ap (λ r. r >>= λ cs. Some (x.0 ∷ cs.0, cs.1)) (ih x.0 x.1 (after_fits bytes x.0 x.1 fits e) (omega arith))

pub lacks_bytes : (front : List Cell) (wanted : ℕ) (rest bytes : List ℕ) → IsBytes rest → length rest < wanted → Stands front wanted rest bytes → tree_at bytes ≡ None
lacks_bytes front wanted rest bytes fits lt so_far = from_total bytes None (sym so_far ∙ ap (with_front front) (too_many (length rest) wanted rest fits lt))

none_wanted : (turns : ℕ) (bytes : List ℕ) → cells_at turns 0 bytes ≡ Some ([], bytes)
unfolding cells_at
none_wanted turns bytes = refl

total_is : (front : List Cell) (wanted : ℕ) (rest bytes : List ℕ) → wanted ≡ 0 → Stands front wanted rest bytes → cells_at (length bytes) 1 bytes ≡ Some (front, rest)
total_is front wanted rest bytes z so_far =
    sym so_far ∙ ap (λ w. with_front front (cells_at (length rest) w rest)) z ∙ ap (with_front front) (none_wanted (length rest) rest) ∙ ap (λ (l : List Cell). Some (l, rest)) (append-nil front)

pub whole_is : (front : List Cell) (wanted : ℕ) (rest bytes : List ℕ) (t : Tree ℕ) → wanted ≡ 0 → cells t ≡ front → Stands front wanted rest bytes → tree_at bytes ≡ Some (t, rest)
whole_is front wanted rest bytes t z e so_far =
    from_total bytes (Some (front, rest)) (total_is front wanted rest bytes z so_far) ∙ ap (λ u. Some (u, rest)) (ap tree_of (sym e) ∙ tree_of-cells t)

pub never_lacks : (front : List Cell) (wanted : ℕ) (rest bytes : List ℕ) → IsBytes bytes → wanted ≡ 0 → ((t : Tree ℕ) → cells t ≡ front → ⊥) → Stands front wanted rest bytes → ⊥
never_lacks front wanted rest bytes fits z none so_far =
    let u = cells_takes (length bytes) 1 bytes (front, rest) fits (total_is front wanted rest bytes z so_far) in
    let whole : IsTerm front = record { whole = u.2.forest_is; one = u.2.counted_is } in
    none (tree_of front) (cells-tree_of front whole)

with_front-nil : (r : Total) → with_front [] r ≡ r
with_front-nil None = refl
with_front-nil (Some x) = refl

pub starts : (front : List Cell) (bytes : List ℕ) → front ≡ [] → Stands front 1 bytes bytes
starts front bytes e = ap (λ f. with_front f (cells_at (length bytes) 1 bytes)) e ∙ with_front-nil (cells_at (length bytes) 1 bytes)
