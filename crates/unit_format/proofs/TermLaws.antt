-- Terms, cell by cell.
use Rattle.std.proofs.Common.{◌≡◌, ℕ, zero, suc, ◌+◌, ◌^◌, ◌<◌, ◌≤◌, false, eqb, List, [], ◌∷◌, ◌++◌, length, Option, Some, None, refl, sym, ap, subst, ◌∙◌, append_assoc, arith, inl, inr, eqb-true, if◌then◌else◌, ℤ, pos, negsuc, to_z-of_z, of_z, to_z}
use Rattle.std.specs.Prelude.{FitsSigned}
use Rattle.std.specs.Int.{w32, w64, to_be_bytes, cast_signed, cast_unsigned}
use Rattle.std.specs.List.{flat_map, AllByRecursion}
use Rattle.std.proofs.lemmas.Bool.{cases_lt, lt-ltb, le-ltb}
use Rattle.std.proofs.lemmas.Int.{of_z-to_z}
use Rattle.std.proofs.lemmas.List.{append-nil, length-append}
use Rattle.std.proofs.lemmas.List.Concat.{flat_map-append}
use Rattle.pl_terms.specs.Trees.{Tree, var, int, atom, comp, Trees, nil, cons, count, back}
use Rattle.pl_terms.specs.Cells.{cells, all_cells, forest, IsForest, IsTerm, IsCell, tree_of}
use Rattle.pl_terms.specs.Forest.{tree_of-cells, forest-cells}
use Rattle.std.proofs.lemmas.List.Elements.{All-from_recursion}
use Rattle.unit_format.proofs.CellLaws.{cells-tree_of, IsTerm-cells, count-back}
use Rattle.pl_atoms.specs.declared.names.NameId.{NameId}
use Rattle.pl_terms.specs.declared.cell.Cell.{Cell}
use Rattle.pl_terms.specs.declared.cell.Cell.TheVariants.{Var, Int, Name, Comp}
use Rattle.unit_model.specs.Encoding.{tree_bytes, trees_bytes}
use Rattle.unit_model.specs.Validity.{FitsTree, FitTrees}
use Rattle.unit_format.specs.Reading.{◌>>=◌, number_at, byte_at, cell_of, cell_at, arity_of, cells_at, tree_at}
use Rattle.unit_format.proofs.FieldLaws.{IsBytes, IsField, Takes, Takes-then, bind_some, some_is, chosen, field32, field64, byte_field, one, IsPlace}
-- ---- one cell

use Rattle.unit_format.specs.Spelling.{cell_tag, cell_rest, cell_bytes, FitsCell}

fits_back : (n : ℕ) → n < 2 ^ 64 → FitsSigned w64 (to_z w64 n)
fits_back n h =
    elim (cases_lt n (2 ^ 63)) [
      | inl lt ↦ rw (lt-ltb n (2 ^ 63) lt) (record { sfits = lt })
      | inr le ↦ rw (le-ltb n (2 ^ 63) le) (record { sfits = omega arith })
    ]

fits_there : (z : ℤ) → FitsSigned w64 z → of_z w64 z < 2 ^ 64
fits_there (pos n) h = let l : n < 2 ^ 63 = h.sfits in omega arith
fits_there (negsuc n) h = omega arith

abbrev FromTag : ℕ → List ℕ → Cell → List ℕ → Type 0
FromTag tag bytes c rest = (cell_tag c ≡ tag) × Takes bytes (cell_rest c) rest × FitsCell c

abbrev made : Cell → List ℕ → Option (Cell × List ℕ)
made c l = Some (c, l)

named : ℕ → NameId
named n = record { 0 = n }

cell_of-takes : (tag : ℕ) (bytes : List ℕ) (c : Cell) (rest : List ℕ) → IsBytes bytes → cell_of tag bytes ≡ Some (c, rest) → FromTag tag bytes c rest
cell_of-takes tag bytes c rest fits e =
    let as_var : Option (Cell × List ℕ) = number_at w32 bytes >>= λ n. Some (Var n.0, n.1) in
    let as_int : Option (Cell × List ℕ) = number_at w64 bytes >>= λ n. Some (Int (cast_signed w64 n.0), n.1) in
    let as_name : Option (Cell × List ℕ) = number_at w32 bytes >>= λ n. Some (Name (record { 0 = n.0 }), n.1) in
    let as_comp : Option (Cell × List ℕ) = number_at w32 bytes >>= λ n. byte_at n.1 >>= λ a. if eqb a.0 0 then None else Some (Comp (record { 0 = n.0 }) a.0, a.1) in
    let others : Option (Cell × List ℕ) = if eqb tag 3 then as_comp else None in
    let others2 : Option (Cell × List ℕ) = if eqb tag 2 then as_name else others in
    let others1 : Option (Cell × List ℕ) = if eqb tag 1 then as_int else others2 in
    elim (chosen (eqb tag 0) as_var others1 (Some (c, rest)) e) [
      | inl h ↦
          let b = bind_some (number_at w32 bytes) (λ n. Some (Var n.0, n.1)) (c, rest) h.1 in
          let t = field32.takes bytes b.0.0 b.0.1 fits b.1 in
          subst (λ (x : Cell × List ℕ). FromTag tag bytes x.0 x.1) (some_is (Var b.0.0, b.0.1) (c, rest) b.2) (sym (eqb-true tag 0 h.0), t.0, t.1)
      | inr h0 ↦ elim (chosen (eqb tag 1) as_int others2 (Some (c, rest)) h0.1) [
        | inl h ↦
            let b = bind_some (number_at w64 bytes) (λ n. Some (Int (cast_signed w64 n.0), n.1)) (c, rest) h.1 in
            let t = field64.takes bytes b.0.0 b.0.1 fits b.1 in
            let again : to_be_bytes w64 (cast_unsigned w64 (cast_signed w64 b.0.0)) ≡ to_be_bytes w64 b.0.0 = ap (to_be_bytes w64) (of_z-to_z w64 b.0.0 t.1) in
            subst (λ (x : Cell × List ℕ). FromTag tag bytes x.0 x.1) (some_is (Int (cast_signed w64 b.0.0), b.0.1) (c, rest) b.2) (sym (eqb-true tag 1 h.0), subst (λ l. Takes bytes l b.0.1) (sym again) t.0, fits_back b.0.0 t.1)
        | inr h1 ↦ elim (chosen (eqb tag 2) as_name others (Some (c, rest)) h1.1) [
          | inl h ↦
              let b = bind_some (number_at w32 bytes) (λ n. Some (Name (record { 0 = n.0 }), n.1)) (c, rest) h.1 in
              let t = field32.takes bytes b.0.0 b.0.1 fits b.1 in
              subst (λ (x : Cell × List ℕ). FromTag tag bytes x.0 x.1) (some_is (Name (record { 0 = b.0.0 }), b.0.1) (c, rest) b.2) (sym (eqb-true tag 2 h.0), t.0, t.1)
          | inr h2 ↦ elim (chosen (eqb tag 3) as_comp None (Some (c, rest)) h2.1) [
            | inl h ↦
                let b = bind_some (number_at w32 bytes) (λ n. byte_at n.1 >>= λ a. if eqb a.0 0 then None else Some (Comp (record { 0 = n.0 }) a.0, a.1)) (c, rest) h.1 in
                let a = bind_some (byte_at b.0.1) (λ a. if eqb a.0 0 then None else Some (Comp (record { 0 = b.0.0 }) a.0, a.1)) (c, rest) b.2 in
                let t = field32.takes bytes b.0.0 b.0.1 fits b.1 in
                let u = byte_field.takes b.0.1 a.0.0 a.0.1 t.0.rest_fits a.1 in
                elim (chosen (eqb a.0.0 0) None (Some (Comp (record { 0 = b.0.0 }) a.0.0, a.0.1)) (Some (c, rest)) a.2) [
                  | inl z ↦ absurd cc
                  | inr s ↦
                      let both = Takes-then bytes (to_be_bytes w32 b.0.0) b.0.1 (one a.0.0) a.0.1 t.0 u.0 in
                      let above : 0 < a.0.0 = grind (arith, s.0) in
                      subst (λ (x : Cell × List ℕ). FromTag tag bytes x.0 x.1) (some_is (Comp (record { 0 = b.0.0 }) a.0.0, a.0.1) (c, rest) s.1) (sym (eqb-true tag 3 h.0), both, (t.1, (above, u.1)))
                ]
            | inr h3 ↦ absurd cc
          ]
        ]
      ]
    ]

pub cell_takes : (bytes : List ℕ) (c : Cell) (rest : List ℕ) → IsBytes bytes → cell_at bytes ≡ Some (c, rest) → Takes bytes (cell_bytes c) rest × FitsCell c
unfolding cell_at
cell_takes bytes c rest fits e =
    let b = bind_some (byte_at bytes) (λ b. cell_of b.0 b.1) (c, rest) e in
    let t = byte_field.takes bytes b.0.0 b.0.1 fits b.1 in
    let u = cell_of-takes b.0.0 b.0.1 c rest t.0.rest_fits b.2 in
    let both : Takes bytes (b.0.0 ∷ cell_rest c) rest = Takes-then bytes (one b.0.0) b.0.1 (cell_rest c) rest t.0 u.1 in
    (rw u.0 both, u.2)

cell_again : (c : Cell) (rest : List ℕ) → FitsCell c → cell_at (cell_bytes c ++ rest) ≡ Some (c, rest)
unfolding cell_at
cell_again (Var n) rest h = ap (λ r. r >>= λ x. Some (Var x.0, x.1)) (field32.again n rest h)
cell_again (Int z) rest h =
    ap (λ r. r >>= λ x. Some (Int (cast_signed w64 x.0), x.1)) (field64.again (cast_unsigned w64 z) rest (fits_there z h)) ∙ ap (λ y. Some (Int y, rest)) (to_z-of_z h)
cell_again (Name s) rest h = ap (λ r. r >>= λ x. Some (Name (record { 0 = x.0 }), x.1)) (field32.again s.0 rest h)
cell_again (Comp s k) rest h =
    let test : eqb k 0 ≡ false = grind (arith, h.1.0) in
    ap (λ l. number_at w32 l >>= λ n. byte_at n.1 >>= λ a. if eqb a.0 0 then None else Some (Comp (record { 0 = n.0 }) a.0, a.1)) (append_assoc (to_be_bytes w32 s.0) (k ∷ []) rest)
    ∙ ap (λ r. r >>= λ n. byte_at n.1 >>= λ a. if eqb a.0 0 then None else Some (Comp (record { 0 = n.0 }) a.0, a.1)) (field32.again s.0 (k ∷ rest) h.0)
    ∙ ap (λ b. if b then None else Some (Comp s k, rest)) test

pub cell_field : IsField cell_at cell_bytes FitsCell
cell_field = record { takes = cell_takes; again = cell_again }

-- ---- the cells of trees

mutual
  pub tree_bytes-cells : (t : Tree ℕ) → tree_bytes t ≡ flat_map cell_bytes (cells t)
  tree_bytes-cells (var n) = sym (append-nil (cell_bytes (Var n)))
  tree_bytes-cells (int z) = sym (append-nil (cell_bytes (Int z)))
  tree_bytes-cells (atom s) = sym (append-nil (cell_bytes (Name (record { 0 = s }))))
  tree_bytes-cells (comp s ts) =
      ap (λ (l : List ℕ). 3 ∷ (to_be_bytes w32 s ++ (count ts ∷ l))) (trees_bytes-cells ts)
      ∙ ap (λ (l : List ℕ). 3 ∷ l) (sym (append_assoc (to_be_bytes w32 s) (count ts ∷ []) (flat_map cell_bytes (all_cells ts))))

  pub trees_bytes-cells : (ts : Trees ℕ) → trees_bytes ts ≡ flat_map cell_bytes (all_cells ts)
  trees_bytes-cells nil = refl
  trees_bytes-cells (cons t ts) =
      ap (λ l. l ++ trees_bytes ts) (tree_bytes-cells t) ∙ ap (λ l. flat_map cell_bytes (cells t) ++ l) (trees_bytes-cells ts) ∙ sym (flat_map-append cell_bytes (cells t) (all_cells ts))

AllBy-append : {X : Type 0} (P : X → Type 0) (xs ys : List X) → AllByRecursion P xs → AllByRecursion P ys → AllByRecursion P (xs ++ ys)
AllBy-append P [] ys a b = b
AllBy-append P (x ∷ xs) ys a b = (a.0, AllBy-append P xs ys a.1 b)

AllBy-parts : {X : Type 0} (P : X → Type 0) (xs ys : List X) → AllByRecursion P (xs ++ ys) → AllByRecursion P xs × AllByRecursion P ys
AllBy-parts P [] ys h = (tt, h)
AllBy-parts P (x ∷ xs) ys h = let r = AllBy-parts P xs ys h.1 in ((h.0, r.0), r.1)

mutual
  pub fit_cells : (t : Tree ℕ) → FitsTree IsPlace t → AllByRecursion FitsCell (cells t)
  fit_cells (var n) h = (h, tt)
  fit_cells (int z) h = (h, tt)
  fit_cells (atom s) h = (h, tt)
  fit_cells (comp s ts) h = ((h.0, (h.1, h.2)), fit_all_cells ts h.3)

  fit_all_cells : (ts : Trees ℕ) → FitTrees IsPlace ts → AllByRecursion FitsCell (all_cells ts)
  fit_all_cells nil h = tt
  fit_all_cells (cons t ts) h = AllBy-append FitsCell (cells t) (all_cells ts) (fit_cells t h.0) (fit_all_cells ts h.1)

mutual
  fit_tree : (t : Tree ℕ) → AllByRecursion FitsCell (cells t) → FitsTree IsPlace t
  fit_tree (var n) h = h.0
  fit_tree (int z) h = h.0
  fit_tree (atom s) h = h.0
  fit_tree (comp s ts) h = (h.0.0, h.0.1.0, h.0.1.1, fit_trees ts h.1)

  fit_trees : (ts : Trees ℕ) → AllByRecursion FitsCell (all_cells ts) → FitTrees IsPlace ts
  fit_trees nil h = tt
  fit_trees (cons t ts) h = let p = AllBy-parts FitsCell (cells t) (all_cells ts) h in (fit_tree t p.0, fit_trees ts p.1)

-- ---- reading cells until trees are whole

pub record IsWhole (wanted : ℕ) (cs : List Cell) : Type 0 where
  pub forest_is : IsForest cs
  pub counted_is : count (forest cs) ≡ wanted

in_front : (c : Cell) (cs : List Cell) (wanted : ℕ) → FitsCell c → IsWhole (arity_of c + wanted) cs → IsWhole (suc wanted) (c ∷ cs)
in_front (Var n) cs wanted f w = record { forest_is = w.forest_is; counted_is = let e : count (forest cs) ≡ wanted = w.counted_is ∙ (omega arith) in ap suc e }
in_front (Int z) cs wanted f w = record { forest_is = w.forest_is; counted_is = let e : count (forest cs) ≡ wanted = w.counted_is ∙ (omega arith) in ap suc e }
in_front (Name s) cs wanted f w = record { forest_is = w.forest_is; counted_is = let e : count (forest cs) ≡ wanted = w.counted_is ∙ (omega arith) in ap suc e }
in_front (Comp s k) cs wanted f w =
    let e = w.counted_is in
    let le : k ≤ count (forest cs) = omega arith in
    let left : count (back k (forest cs)) ≡ wanted = count-back k (forest cs) ∙ (omega arith) in
    record { forest_is = (f.1.0, le, w.forest_is); counted_is = ap suc left }

pub cells_takes : (turns wanted : ℕ) (bytes : List ℕ) (x : List Cell × List ℕ) → IsBytes bytes → cells_at turns wanted bytes ≡ Some x → Takes bytes (flat_map cell_bytes x.0) x.1 × AllByRecursion FitsCell x.0 × IsWhole wanted x.0
unfolding cells_at
cells_takes turns zero bytes x fits e =
    subst (λ (y : List Cell × List ℕ). Takes bytes (flat_map cell_bytes y.0) y.1 × AllByRecursion FitsCell y.0 × IsWhole 0 y.0) (some_is ([], bytes) x e) (record { parts = refl; rest_fits = fits }, tt, record { forest_is = tt; counted_is = refl })
cells_takes zero (suc wanted) bytes x fits e = absurd cc
cells_takes (suc turns) (suc wanted) bytes x fits e =
    let a = bind_some (cell_at bytes) (λ c. cells_at turns (arity_of c.0 + wanted) c.1 >>= λ cs. Some (c.0 ∷ cs.0, cs.1)) x e in
    let b = bind_some (cells_at turns (arity_of a.0.0 + wanted) a.0.1) (λ cs. Some (a.0.0 ∷ cs.0, cs.1)) x a.2 in
    let first = cell_takes bytes a.0.0 a.0.1 fits a.1 in
    let second = cells_takes turns (arity_of a.0.0 + wanted) a.0.1 b.0 first.0.rest_fits b.1 in
    let both = Takes-then bytes (cell_bytes a.0.0) a.0.1 (flat_map cell_bytes b.0.0) b.0.1 first.0 second.0 in
    let made : List Cell × List ℕ = (a.0.0 ∷ b.0.0, b.0.1) in
    subst (λ (y : List Cell × List ℕ). Takes bytes (flat_map cell_bytes y.0) y.1 × AllByRecursion FitsCell y.0 × IsWhole (suc wanted) y.0) (some_is made x b.2) (both, (first.1, second.1), in_front a.0.0 b.0.0 wanted first.1 second.2)

-- what is wanted behind a cell
behind : (c : Cell) (cs : List Cell) → FitsCell c → IsForest (c ∷ cs) → IsForest cs × ((n : ℕ) × (count (forest (c ∷ cs)) ≡ suc n) × (arity_of c + n ≡ count (forest cs)))
behind (Var n) cs f h = (h, (count (forest cs), refl, omega arith))
behind (Int z) cs f h = (h, (count (forest cs), refl, omega arith))
behind (Name s) cs f h = (h, (count (forest cs), refl, omega arith))
behind (Comp s k) cs f h = (h.2, (count (back k (forest cs)), refl, omega (arith, count-back k (forest cs), h.1)))

cells_again : (turns : ℕ) (cs : List Cell) (rest : List ℕ) → length cs ≤ turns → AllByRecursion FitsCell cs → IsForest cs → cells_at turns (count (forest cs)) (flat_map cell_bytes cs ++ rest) ≡ Some (cs, rest)
unfolding cells_at
cells_again turns [] rest le fits h = refl
cells_again zero (c ∷ cs) rest le fits h = absurd (omega arith)
cells_again (suc turns) (c ∷ cs) rest le fits h =
    let b = behind c cs fits.0 h in
    let n = b.1.0 in
    ap (λ k. cells_at (suc turns) k ((cell_bytes c ++ flat_map cell_bytes cs) ++ rest)) b.1.1
    ∙ ap (cells_at (suc turns) (suc n)) (append_assoc (cell_bytes c) (flat_map cell_bytes cs) rest)
    ∙ ap (λ r. r >>= λ d. cells_at turns (arity_of d.0 + n) d.1 >>= λ ds. Some (d.0 ∷ ds.0, ds.1)) (cell_again c (flat_map cell_bytes cs ++ rest) fits.0)
    ∙ ap (λ k. cells_at turns k (flat_map cell_bytes cs ++ rest) >>= λ ds. Some (c ∷ ds.0, ds.1)) b.1.2
    ∙ ap (λ r. r >>= λ ds. Some (c ∷ ds.0, ds.1)) (cells_again turns cs rest (omega arith) fits.1 b.0)

at_most : (cs : List Cell) (rest : List ℕ) → length cs ≤ length (flat_map cell_bytes cs ++ rest)
at_most [] rest = omega arith
at_most (c ∷ cs) rest =
    let e : length ((cell_bytes c ++ flat_map cell_bytes cs) ++ rest) ≡ suc (length ((cell_rest c ++ flat_map cell_bytes cs) ++ rest)) = refl in
    let f = length-append (cell_rest c ++ flat_map cell_bytes cs) rest in
    let g = length-append (cell_rest c) (flat_map cell_bytes cs) in
    let i = length-append (flat_map cell_bytes cs) rest in
    omega (arith, at_most cs rest, e, f, g, i)

pub is_cell : (c : Cell) → FitsCell c → IsCell c
is_cell (Var n) h = tt
is_cell (Int z) h = tt
is_cell (Name s) h = tt
is_cell (Comp s k) h = h.1.0

are_cells : (cs : List Cell) → AllByRecursion FitsCell cs → AllByRecursion IsCell cs
are_cells [] h = tt
are_cells (c ∷ cs) h = (is_cell c h.0, are_cells cs h.1)

tree_takes : (bytes : List ℕ) (t : Tree ℕ) (rest : List ℕ) → IsBytes bytes → tree_at bytes ≡ Some (t, rest) → Takes bytes (tree_bytes t) rest × FitsTree IsPlace t
unfolding tree_at
tree_takes bytes t rest fits e =
    let a = bind_some (cells_at (length bytes) 1 bytes) (λ cs. Some (tree_of cs.0, cs.1)) (t, rest) e in
    let u = cells_takes (length bytes) 1 bytes a.0 fits a.1 in
    let whole : IsTerm a.0.0 = record { whole = u.2.forest_is; one = u.2.counted_is } in
    let same : cells (tree_of a.0.0) ≡ a.0.0 = cells-tree_of a.0.0 whole in
    let text : Takes bytes (tree_bytes (tree_of a.0.0)) a.0.1 = rw (tree_bytes-cells (tree_of a.0.0), same) u.0 in
    let fit : FitsTree IsPlace (tree_of a.0.0) = fit_tree (tree_of a.0.0) (rw same u.1) in
    subst (λ (x : Tree ℕ × List ℕ). Takes bytes (tree_bytes x.0) x.1 × FitsTree IsPlace x.0) (some_is (tree_of a.0.0, a.0.1) (t, rest) a.2) (text, fit)

tree_again : (t : Tree ℕ) (rest : List ℕ) → FitsTree IsPlace t → tree_at (tree_bytes t ++ rest) ≡ Some (t, rest)
unfolding tree_at
tree_again t rest h =
    let f : forest (cells t) ≡ cons t nil = ap forest (sym (append-nil (cells t))) ∙ forest-cells t [] in
    let n : count (forest (cells t)) ≡ 1 = ap count f in
    let whole : IsForest (cells t) = (IsTerm-cells t (All-from_recursion IsCell (cells t) (are_cells (cells t) (fit_cells t h)))).whole in
    ap (λ l. cells_at (length l) 1 l >>= λ cs. Some (tree_of cs.0, cs.1)) (ap (λ l. l ++ rest) (tree_bytes-cells t))
    ∙ ap (λ k. cells_at (length (flat_map cell_bytes (cells t) ++ rest)) k (flat_map cell_bytes (cells t) ++ rest) >>= λ cs. Some (tree_of cs.0, cs.1)) (sym n)
    ∙ ap (λ r. r >>= λ cs. Some (tree_of cs.0, cs.1)) (cells_again (length (flat_map cell_bytes (cells t) ++ rest)) (cells t) rest (at_most (cells t) rest) (fit_cells t h) whole)
    ∙ ap (λ x. Some (x, rest)) (tree_of-cells t)

pub tree_field : IsField tree_at tree_bytes (FitsTree IsPlace)
tree_field = record { takes = tree_takes; again = tree_again }
