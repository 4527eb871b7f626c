-- Going over cells from the right.
use Rattle.std.proofs.Common.{◌≡◌, ℕ, zero, suc, ◌+◌, ◌-◌, ◌≤◌, ◌<◌, List, [], ◌∷◌, length, drop, get_or, refl, sym, ap, ◌∙◌, arith, subst}
use Rattle.std.proofs.Math.Seq.{drop-cons}
use Rattle.pl_terms.specs.Trees.{Trees, nil, cons, count, back}
use Rattle.pl_terms.specs.Cells.{forest, IsForest}
use Rattle.pl_atoms.specs.declared.names.NameId.{NameId}
use Rattle.pl_terms.specs.declared.cell.Cell.{Cell}
use Rattle.pl_terms.specs.declared.cell.Cell.TheVariants.{Var, Int, Name, Comp}

pub count-back : {N : Type 0} (k : ℕ) (ts : Trees N) → count (back k ts) ≡ count ts - k
count-back zero ts = omega arith
count-back (suc k) nil = omega arith
count-back (suc k) (cons t ts) = omega (arith, count-back k ts)

pub count-forest_le : (cs : List Cell) → count (forest cs) ≤ length cs
count-forest_le [] = omega arith
count-forest_le (Var n ∷ cs) = omega (arith, count-forest_le cs)
count-forest_le (Int z ∷ cs) = omega (arith, count-forest_le cs)
count-forest_le (Name s ∷ cs) = omega (arith, count-forest_le cs)
count-forest_le (Comp s k ∷ cs) = omega (arith, count-forest_le cs, count-back k (forest cs))

pub IsForest-rest : (c : Cell) (cs : List Cell) → IsForest (c ∷ cs) → IsForest cs
IsForest-rest (Var n) cs h = h
IsForest-rest (Int z) cs h = h
IsForest-rest (Name s) cs h = h
IsForest-rest (Comp s k) cs h = h.2

pub IsForest-drop : (i : ℕ) (cs : List Cell) → IsForest cs → IsForest (drop i cs)
IsForest-drop zero cs h = h
IsForest-drop (suc i) [] h = h
IsForest-drop (suc i) (c ∷ cs) h = IsForest-drop i cs (IsForest-rest c cs h)

-- one cell more in front, and how many trees there are then
pub record Step (cs : List Cell) (n : ℕ) : Type 0 where
  pub whole : IsForest cs
  pub counted : count (forest cs) ≡ n

step_comp : (s : NameId) (k trees : ℕ) (cs : List Cell) → Step cs trees → 0 < k → k ≤ trees → Step (Comp s k ∷ cs) (trees - k + 1)
step_comp s k trees cs h pos fits = record {
  whole = (pos, subst (λ n. k ≤ n) (sym h.counted) fits, h.whole);
  counted = omega (arith, count-back k (forest cs), h.counted);
}

step_other : (c : Cell) (trees : ℕ) (cs : List Cell) → ((s : NameId) (k : ℕ) → c ≡ Comp s k → ⊥) → Step cs trees → Step (c ∷ cs) (trees + 1)
step_other (Var n) trees cs not h = record { whole = h.whole; counted = omega (arith, h.counted) }
step_other (Int z) trees cs not h = record { whole = h.whole; counted = omega (arith, h.counted) }
step_other (Name s) trees cs not h = record { whole = h.whole; counted = omega (arith, h.counted) }
step_other (Comp s k) trees cs not h = absurd (not s k refl)

at_front : (cs : List Cell) (i at : ℕ) (c : Cell) → suc i ≡ at → i < length cs → get_or cs i (Var 0) ≡ c → drop i cs ≡ c ∷ drop at cs
at_front cs i at c next within is = drop-cons cs i (Var 0) within ∙ ap (λ d. d ∷ drop (suc i) cs) is ∙ ap (λ j. c ∷ drop j cs) next

pub comp_in_front : (cs : List Cell) (i at trees : ℕ) (s : NameId) (k : ℕ) → suc i ≡ at → i < length cs → get_or cs i (Var 0) ≡ Comp s k → 0 < k → k ≤ trees → Step (drop at cs) trees → Step (drop i cs) (trees - k + 1)
comp_in_front cs i at trees s k next within is pos fits h =
    rw (at_front cs i at (Comp s k) next within is) (step_comp s k trees (drop at cs) h pos fits)

pub other_in_front : (cs : List Cell) (i at trees : ℕ) → suc i ≡ at → i < length cs → ((s : NameId) (k : ℕ) → get_or cs i (Var 0) ≡ Comp s k → ⊥) → Step (drop at cs) trees → Step (drop i cs) (trees + 1)
other_in_front cs i at trees next within not h =
    rw (at_front cs i at (get_or cs i (Var 0)) next within refl) (step_other (get_or cs i (Var 0)) trees (drop at cs) not h)

pub lacks : (cs : List Cell) (i at trees : ℕ) (s : NameId) (k : ℕ) → suc i ≡ at → i < length cs → get_or cs i (Var 0) ≡ Comp s k → trees < k → Step (drop at cs) trees → IsForest cs → ⊥
lacks cs i at trees s k next within is short h all =
    let whole : IsForest (Comp s k ∷ drop at cs) = subst IsForest (at_front cs i at (Comp s k) next within is) (IsForest-drop i cs all) in
    omega (arith, whole.1, h.counted)
