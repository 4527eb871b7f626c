-- Entries and rows say nothing of texts that aren't among their names.
use Rattle.std.proofs.Common.{◌≡◌, ℕ, ◌<◌, List, [], ◌∷◌, length, map, slice_index, false, ◌&&◌, cond, nat_eq, refl, sym, ap, ◌∙◌, arith, Some, None, find}
use Rattle.std.specs.List.{AllByRecursion, cons_option}
use Rattle.std.specs.Option.{option_map, option_or}
use Rattle.pl_atoms.specs.Names.{same_text, Remaps}
use Rattle.pl_atoms.proofs.Numbers.{length-Remaps}
use Rattle.pl_terms.specs.Trees.{Tree, var, int, atom, comp, count, renamed, all_renamed}
use Rattle.unit_model.specs.Facts.{Indicator, What, exports, reexports_all, reexports, has_modes, declares, imports_all, imports, clause, tree_names, what_names, what_by}
use Rattle.unit_model.specs.Directives.{Text}
use Rattle.unit_model.specs.Encoding.{text_at}
use Rattle.unit_format.proofs.Renaming.{AllBy-parts}
use Rattle.search_model.specs.declared.rows.VisibleRow.{VisibleRow}
use Rattle.link_model.specs.Rows.{Row}
use Rattle.mod_visible.specs.Placing.{AllBelow}
use Rattle.mod_visible.specs.Finding.{IsNamedRow, row_text}
use Rattle.program_model.specs.Saying.{Said, said_by, head_indicator, is_its, clause_in, clauses_said, modes_in, modes_said}
use Rattle.program_model.specs.Linking.{is_row, definer_in}
use Rattle.mod_faults.proofs.Tables.{text_there, number_there}
use Rattle.mod_linker.specs.Holding.{SaidBelow}
use Rattle.mod_linker.specs.Linking.{are_among}
use Rattle.mod_linker.proofs.Among.{and_false, not-both}

module _ (names : List Text) (d : Text) (i : Indicator Text) (none : are_among names d i ≡ false) where
  abbrev T : ℕ → Text
  T = text_at names

  -- ---- entries

  head-other : (m : ℕ) → m < length names → (h : Tree ℕ) → AllBelow (length names) (tree_names h) → (same_text d (T m) && is_its same_text i (head_indicator (renamed T h))) ≡ false
  head-other m hm (var n) b = and_false (same_text d (T m))
  head-other m hm (int z) b = and_false (same_text d (T m))
  head-other m hm (atom s) b = not-both names d i.name m s (nat_eq i.arity 0) none hm b.0
  head-other m hm (comp s ts) b = not-both names d i.name m s (nat_eq i.arity (count (all_renamed T ts))) none hm b.0

  clause-other : (m : ℕ) → m < length names → (w : What ℕ) → AllBelow (length names) (what_names w) → clause_in same_text d i (T m) (what_by T w) ≡ None
  clause-other m hm (exports j) b = refl
  clause-other m hm (reexports_all n) b = refl
  clause-other m hm (reexports n j) b = refl
  clause-other m hm (has_modes s ms) b = refl
  clause-other m hm (declares o) b = refl
  clause-other m hm (imports_all n) b = refl
  clause-other m hm (imports n j) b = refl
  clause-other m hm (clause n h t) b =
      let parts = AllBy-parts (λ (k : ℕ). k < length names) (tree_names h) (tree_names t) b in
      ap (λ x. cond x (Some (record { width = n; head = renamed T h; body = renamed T t })) None) (head-other m hm h parts.0)

  pub clauses-other : (xs : List (Said ℕ)) → AllByRecursion (SaidBelow (length names)) xs → clauses_said same_text (map (said_by T) xs) d i ≡ []
  clauses-other [] b = refl
  clauses-other (x ∷ xs) b =
      ap (λ o. cons_option o (clauses_said same_text (map (said_by T) xs) d i)) (clause-other x.of b.0.0 x.what b.0.1)
      ∙ clauses-other xs b.1

  mode-other : (m : ℕ) → m < length names → (w : What ℕ) → AllBelow (length names) (what_names w) → modes_in same_text d i (T m) (what_by T w) ≡ None
  mode-other m hm (exports j) b = refl
  mode-other m hm (reexports_all n) b = refl
  mode-other m hm (reexports n j) b = refl
  mode-other m hm (has_modes s ms) b = ap (λ x. cond x (Some ms) None) (not-both names d i.name m s (nat_eq i.arity (length ms)) none hm b.0)
  mode-other m hm (declares o) b = refl
  mode-other m hm (imports_all n) b = refl
  mode-other m hm (imports n j) b = refl
  mode-other m hm (clause n h t) b = refl

  pub modes-other : (xs : List (Said ℕ)) → AllByRecursion (SaidBelow (length names)) xs → modes_said same_text (map (said_by T) xs) d i ≡ None
  modes-other [] b = refl
  modes-other (x ∷ xs) b =
      ap (λ o. option_or o (modes_in same_text d i (T x.of) (what_by T x.what))) (modes-other xs b.1)
      ∙ mode-other x.of b.0.0 x.what b.0.1

  -- ---- rows

  module _ (from : List Text) (numbers : List ℕ) (e : Remaps from names numbers) where
    wide : (n : ℕ) → n < length from → n < length numbers
    wide n lt = omega (arith, lt, length-Remaps from names numbers e)

    row-other : (r : VisibleRow) → IsNamedRow (length from) r → is_row d i (row_text from r) ≡ false
    row-other r h =
        let module-is = text_there from names numbers e r.module.0 (wide r.module.0 h.0) in
        let name-is = text_there from names numbers e r.ind.name.0 (wide r.ind.name.0 h.1) in
        ap (λ (t : Text). same_text d t && (same_text i.name (text_at from r.ind.name.0) && nat_eq i.arity r.ind.arity)) (sym module-is)
        ∙ ap (λ (t : Text). same_text d (T (slice_index numbers r.module.0)) && (same_text i.name t && nat_eq i.arity r.ind.arity)) (sym name-is)
        ∙ not-both names d i.name (slice_index numbers r.module.0) (slice_index numbers r.ind.name.0) (nat_eq i.arity r.ind.arity) none
        (number_there from names numbers e r.module.0 (wide r.module.0 h.0)) (number_there from names numbers e r.ind.name.0 (wide r.ind.name.0 h.1))

    pub rows-other : (rows : List VisibleRow) → AllByRecursion (IsNamedRow (length from)) rows → definer_in (map (row_text from) rows) d i ≡ None
    rows-other [] h = refl
    rows-other (r ∷ rows) h =
        ap (λ b. option_map (λ (x : Row). x.definer) (cond b (Some (row_text from r)) (find (is_row d i) (map (row_text from) rows)))) (row-other r h.0)
        ∙ rows-other rows h.1
