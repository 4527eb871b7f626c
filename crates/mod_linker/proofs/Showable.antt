-- Rows of units without link faults can be shown by a program that holds their entries.
use Rattle.std.proofs.Common.{◌≡◌, ℕ, ◌<◌, List, [], ◌∷◌, length, map, slice_index, true, ◌||◌, refl, sym, ap, subst, ◌∙◌, Option, Some, None}
use Rattle.std.specs.Prelude.{is_some}
use Rattle.std.specs.List.{AllByRecursion}
use Rattle.pl_atoms.specs.Names.{same_text, AreDistinct, Remaps}
use Rattle.pl_atoms.proofs.Numbers.{length-Remaps}
use Rattle.unit_model.specs.Facts.{Indicator, Facts, indicator_by}
use Rattle.unit_model.specs.Directives.{Text}
use Rattle.unit_model.specs.Encoding.{text_at}
use Rattle.naming_laws.specs.Translation.{clause_by}
use Rattle.search_model.specs.declared.rows.VisibleRow.{VisibleRow}
use Rattle.link_model.specs.Places.{places_of}
use Rattle.link_model.specs.Giving.{defines}
use Rattle.link_model.specs.Rows.{Row}
use Rattle.link_model.specs.Seeing.{exists}
use Rattle.mod_visible.specs.Finding.{IsNamedRow, row_text, indicator, AreRows}
use Rattle.program_model.specs.Saying.{Said, said, clauses_said}
use Rattle.pl_store.specs.Linked.{Linked, is_system, is_module}
use Rattle.pl_store.specs.Runs.{number_of, clauses_from}
use Rattle.mod_linker.specs.Holding.{AreSaids, HoldsEntries}
use Rattle.mod_linker.specs.Showing.{shown_by, IsShowable}
use Rattle.mod_linker.proofs.Saying.{clauses_same}
use Rattle.mod_linker.proofs.Shown.{there, here}
use Rattle.mod_linker.proofs.Defined.{undefined}
use Rattle.mod_linker.proofs.Sound.{IsSound, rows_sound}

module _ (us : List (Facts Text)) (names : List Text) (xs : List (Said ℕ)) (l : Linked) (distinct : AreDistinct names) (saids : AreSaids us names xs) (holds : HoldsEntries us names xs l) where
  abbrev T : ℕ → Text
  T = text_at names

  module _ (d : ℕ) (i : Indicator ℕ) (hd : d < length names) (hi : i.name < length names) where
    pub clauses-are : clauses_said same_text (said us) (T d) (indicator_by T i) ≡ map (clause_by T) (clauses_from l (number_of l d i))
    clauses-are =
        ap (λ (ys : List (Said Text)). clauses_said same_text ys (T d) (indicator_by T i)) (sym saids.texts)
        ∙ clauses_same names distinct d i hd hi xs saids.below
        ∙ ap (map (clause_by T)) (sym (holds.enters.clauses d i))

    pub none-said : number_of l d i ≡ None → clauses_said same_text (said us) (T d) (indicator_by T i) ≡ []
    none-said e = clauses-are ∙ ap (λ o. map (clause_by T) (clauses_from l o)) e

    pub defined-there : defines (places_of 0 us) (T d) (indicator_by T i) ≡ true → is_some (number_of l d i) ≡ true
    defined-there defined = go (number_of l d i) refl
      where
        go : (o : Option ℕ) → number_of l d i ≡ o → is_some o ≡ true
        go (Some p) e = refl
        go None e = absurd (let gone = undefined us (T d) (indicator_by T i) (none-said e) in cc)

  module _ (from : List Text) (numbers : List ℕ) (e : Remaps from names numbers) where
    row-showable : (r : VisibleRow) → IsNamedRow (length from) r → IsSound us (row_text from r) → IsShowable numbers l r
    row-showable r h s =
        let m = slice_index numbers r.module.0 in
        record {
          named = subst (λ n. IsNamedRow n r) (sym (length-Remaps from names numbers e)) h;
          lookup = ap (λ (ns : List Text). is_system ns m || is_module l m) holds.table
              ∙ sym (holds.modules m (here from names numbers e r.module.0 h.0)) ∙ ap (exists us) (there from names numbers e r.module.0 h.0) ∙ s.0;
          definer = defined-there (shown_by numbers r).definer (shown_by numbers r).ind (here from names numbers e r.definer.0 h.2) (here from names numbers e r.ind.name.0 h.1)
              (ap (λ (t : Text). defines (places_of 0 us) t (indicator_by T (shown_by numbers r).ind)) (there from names numbers e r.definer.0 h.2)
              ∙ ap (λ (t : Text). defines (places_of 0 us) (text_at from r.definer.0) (indicator t r.ind.arity)) (there from names numbers e r.ind.name.0 h.1) ∙ s.1);
        }

    all-showable : (rows : List VisibleRow) → AllByRecursion (IsNamedRow (length from)) rows → AllByRecursion (IsSound us) (map (row_text from) rows) → AllByRecursion (IsShowable numbers l) rows
    all-showable [] h s = tt
    all-showable (r ∷ rows) h s = (row-showable r h.0 s.0, all-showable rows h.1 s.1)

    pub rows-showable : (rows : List VisibleRow) → AreRows from us rows → AllByRecursion (IsShowable numbers l) rows
    rows-showable rows h = all-showable rows h.named (subst (λ (rs : List Row). AllByRecursion (IsSound us) rs) (sym h.texts) (rows_sound us))
