-- What facts in memory use is what their views use.
use Rattle.std.proofs.Common.{◌≡◌, ℕ, List, [], ◌∷◌, ◌++◌, map, refl, sym, ap, ◌∙◌}
use Rattle.std.specs.List.{flat_map}
use Rattle.std.proofs.lemmas.List.Concat.{flat_map-append}
use Rattle.pl_terms.specs.Trees.{Tree, var, int, atom, comp, Trees, nil, cons}
use Rattle.pl_terms.specs.Cells.{cells, all_cells}
use Rattle.pl_terms.specs.declared.cell.Cell.{Cell}
use Rattle.pl_terms.specs.Occurrence.{occurrences, all_occurrences}
use Rattle.unit_model.specs.Facts.{tree_names, trees_names, need_names, what_names, section_names, names_of}
use Rattle.unit_model.specs.Views.{op_view, need_view, what_view, entry_view, section_view, facts_view}
use Rattle.unit_model.specs.declared.facts.OpDecl.{OpDecl}
use Rattle.unit_model.specs.declared.facts.What.{What}
use Rattle.unit_model.specs.declared.facts.What.TheVariants.{Export, ReexportAll, Reexport, Meta, Operator, ImportAll, Import, Clause}
use Rattle.unit_model.specs.declared.facts.Facts.{Facts}
use Rattle.unit_format.specs.Uses.{cell_names, cell_variables, op_uses, need_uses, what_uses, entry_uses, section_uses, facts_uses}

mutual
  pub tree_names-cells : (t : Tree ℕ) → tree_names t ≡ flat_map cell_names (cells t)
  tree_names-cells (var n) = refl
  tree_names-cells (int z) = refl
  tree_names-cells (atom s) = refl
  tree_names-cells (comp s ts) = ap (λ (l : List ℕ). s ∷ l) (trees_names-cells ts)

  trees_names-cells : (ts : Trees ℕ) → trees_names ts ≡ flat_map cell_names (all_cells ts)
  trees_names-cells nil = refl
  trees_names-cells (cons t ts) =
      ap (λ l. l ++ trees_names ts) (tree_names-cells t) ∙ ap (λ l. flat_map cell_names (cells t) ++ l) (trees_names-cells ts) ∙ sym (flat_map-append cell_names (cells t) (all_cells ts))

mutual
  pub occurrences-cells : (t : Tree ℕ) → occurrences t ≡ flat_map cell_variables (cells t)
  occurrences-cells (var n) = refl
  occurrences-cells (int z) = refl
  occurrences-cells (atom s) = refl
  occurrences-cells (comp s ts) = all_occurrences-cells ts

  all_occurrences-cells : (ts : Trees ℕ) → all_occurrences ts ≡ flat_map cell_variables (all_cells ts)
  all_occurrences-cells nil = refl
  all_occurrences-cells (cons t ts) =
      ap (λ l. l ++ all_occurrences ts) (occurrences-cells t) ∙ ap (λ l. flat_map cell_variables (cells t) ++ l) (all_occurrences-cells ts) ∙ sym (flat_map-append cell_variables (cells t) (all_cells ts))

-- part by part
parts_view : {A B : Type 0} (f : B → List ℕ) (g : A → List ℕ) (view : A → B) → ((a : A) → f (view a) ≡ g a) → (xs : List A) → flat_map f (map view xs) ≡ flat_map g xs
parts_view f g view same [] = refl
parts_view f g view same (x ∷ xs) = ap (λ l. l ++ flat_map f (map view xs)) (same x) ∙ ap (λ l. g x ++ l) (parts_view f g view same xs)

ops_uses : (os : List OpDecl) → map (λ o. o.name) (map op_view os) ≡ flat_map op_uses os
ops_uses [] = refl
ops_uses (o ∷ os) = ap (λ (l : List ℕ). o.name.0 ∷ l) (ops_uses os)

what_names-view : (w : What) → what_names (what_view w) ≡ what_uses w
what_names-view (Export i) = refl
what_names-view (ReexportAll m) = refl
what_names-view (Reexport m i) = refl
what_names-view (Meta s ms) = refl
what_names-view (Operator o) = refl
what_names-view (ImportAll m) = refl
what_names-view (Import m i) = refl
what_names-view (Clause n h b) = refl

pub names_of-view : (f : Facts) → names_of (facts_view f) ≡ facts_uses f
names_of-view f =
    let a = parts_view need_names need_uses need_view (λ n. ap (λ (l : List ℕ). n.module.0 ∷ l) (ops_uses n.ops)) f.needs in
    let b = parts_view section_names section_uses section_view (λ s. ap (λ (l : List ℕ). s.module.0 ∷ l) (parts_view (λ e. what_names e.what) entry_uses entry_view (λ e. what_names-view e.what) s.entries)) f.sections in
    ap (λ l. l ++ flat_map section_names (map section_view f.sections)) a ∙ ap (λ l. flat_map need_uses f.needs ++ l) b

pub variables_of : (t : Tree ℕ) (cs : List Cell) → cs ≡ cells t → flat_map cell_variables cs ≡ occurrences t
variables_of t cs e = ap (flat_map cell_variables) e ∙ sym (occurrences-cells t)

pub names_in : (t : Tree ℕ) (cs : List Cell) → cs ≡ cells t → flat_map cell_names cs ≡ tree_names t
names_in t cs e = ap (flat_map cell_names) e ∙ sym (tree_names-cells t)
