-- Rows by the numbers of names and by their texts.
use Rattle.std.proofs.Common.{◌≡◌, ℕ, ◌<◌, List, [], ◌∷◌, length, map, slice_index, Bool, true, false, ◌&&◌, cond, eqb, refl, sym, ap, ◌∙◌, arith, Some, find}
use Rattle.std.specs.List.{AllByRecursion}
use Rattle.std.specs.Option.{option_map}
use Rattle.pl_atoms.specs.Names.{same_text, AreDistinct, Remaps}
use Rattle.pl_atoms.proofs.Numbers.{length-Remaps}
use Rattle.unit_model.specs.Facts.{Indicator, indicator_by}
use Rattle.unit_model.specs.Directives.{Text}
use Rattle.unit_model.specs.Encoding.{text_at}
use Rattle.search_model.specs.declared.rows.VisibleRow.{VisibleRow}
use Rattle.link_model.specs.Rows.{Row}
use Rattle.mod_visible.specs.Finding.{IsNamedRow, row_text}
use Rattle.program_model.specs.Linking.{is_row, definer_in}
use Rattle.mod_faults.proofs.Lookups.{same_number}
use Rattle.mod_faults.proofs.Tables.{text_there, number_there}
use Rattle.mod_linker.specs.Rowing.{Shown, is_shown, definer_shown}
use Rattle.mod_linker.specs.Showing.{shown_by}

module _ (from names : List Text) (numbers : List ℕ) (e : Remaps from names numbers) where
  abbrev T : ℕ → Text
  T = text_at names

  abbrev f : ℕ → ℕ
  f = slice_index numbers

  wide : (n : ℕ) → n < length from → n < length numbers
  wide n lt = omega (arith, lt, length-Remaps from names numbers e)

  pub there : (n : ℕ) → n < length from → T (f n) ≡ text_at from n
  there n lt = text_there from names numbers e n (wide n lt)

  pub here : (n : ℕ) → n < length from → f n < length names
  here n lt = number_there from names numbers e n (wide n lt)

  module _ (distinct : AreDistinct names) (m : ℕ) (i : Indicator ℕ) (hm : m < length names) (hi : i.name < length names) where
    same-at : (k n : ℕ) → k < length names → n < length from → same_text (T k) (text_at from n) ≡ eqb k (f n)
    same-at k n hk lt = ap (same_text (T k)) (sym (there n lt)) ∙ same_number names distinct k (f n) hk (here n lt)

    row-test : (r : VisibleRow) → IsNamedRow (length from) r → is_row (T m) (indicator_by T i) (row_text from r) ≡ is_shown m i (shown_by numbers r)
    row-test r h =
        ap (λ b. b && (same_text (T i.name) (text_at from r.ind.name.0) && eqb i.arity r.ind.arity)) (same-at m r.module.0 hm h.0)
        ∙ ap (λ b. eqb m (f r.module.0) && (b && eqb i.arity r.ind.arity)) (same-at i.name r.ind.name.0 hi h.1)

    -- the definer of what is visible is the one shown
    pub definer-same : (rows : List VisibleRow) → AllByRecursion (IsNamedRow (length from)) rows → definer_in (map (row_text from) rows) (T m) (indicator_by T i) ≡ option_map T (definer_shown (map (shown_by numbers) rows) m i)
    definer-same [] h = refl
    definer-same (r ∷ rows) h =
        ap (λ b. option_map (λ (x : Row). x.definer) (cond b (Some (row_text from r)) (find (is_row (T m) (indicator_by T i)) (map (row_text from) rows)))) (row-test r h.0)
        ∙ go (is_shown m i (shown_by numbers r)) (definer-same rows h.1)
      where
        go : (b : Bool) → definer_in (map (row_text from) rows) (T m) (indicator_by T i) ≡ option_map T (definer_shown (map (shown_by numbers) rows) m i)
            → option_map (λ (x : Row). x.definer) (cond b (Some (row_text from r)) (find (is_row (T m) (indicator_by T i)) (map (row_text from) rows)))
            ≡ option_map T (option_map (λ (x : Shown). x.definer) (cond b (Some (shown_by numbers r)) (find (is_shown m i) (map (shown_by numbers) rows))))
        go true ih = ap Some (sym (there r.definer.0 h.0.2))
        go false ih = ih
