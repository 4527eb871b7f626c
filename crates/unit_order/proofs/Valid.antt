-- Numbered facts are a unit.
use Rattle.std.proofs.Common.{◌≡◌, ℕ, ◌<◌, ◌^◌, List, [], ◌∷◌, map, length, true, ◌&&◌, sym, ap, subst, ◌∙◌, arith}
use Rattle.std.specs.List.{AllByRecursion, list_all}
use Rattle.std.proofs.lemmas.Bool.{and_parts, ltb-true}
use Rattle.std.proofs.lemmas.List.{length-map}
use Rattle.pl_terms.specs.Occurrence.{first_after, from_to}
use Rattle.pl_atoms.specs.Names.{with_texts, AreDistinct}
use Rattle.unit_model.specs.Facts.{Facts as FactsOf, names_of, operator_by, need_by, entry_by, section_by, facts_by}
use Rattle.unit_model.specs.Encoding.{text_at, facts_in, table_of, distinct_after, IsInOrder}
use Rattle.unit_model.specs.Validity.{IsName, IsValid, FitsNeed, FitsSection, FitsFacts}
use Rattle.unit_model.specs.Views.{op_view, need_view, entry_view, section_view, facts_view}
use Rattle.unit_model.specs.declared.facts.Need.{Need}
use Rattle.unit_model.specs.declared.facts.Section.{Section}
use Rattle.unit_model.specs.declared.facts.Facts.{Facts}
use Rattle.unit_format.specs.Units.{IsUnitOf}
use Rattle.unit_format.specs.Uses.{facts_uses}
use Rattle.unit_format.proofs.Renaming.{names_of-by}
use Rattle.unit_format.proofs.Places.{table_is}
use Rattle.unit_format.proofs.UseLaws.{names_of-view}
use Rattle.unit_model.specs.Entries.{FactsBelow, IsSound, IsSoundNeed, IsSoundSection}
use Rattle.unit_order.specs.Numbering.{all_noted, number_in}
use Rattle.unit_order.specs.Counts.{is_few, few_ops, few_entries, are_few}
use Rattle.unit_order.proofs.Order.{AreFresh, places_in_order, fresh, all_of_uses, uses_noted, IsNoted}
use Rattle.unit_order.proofs.Texts.{table_texts, table_distinct, text_again}
use Rattle.unit_order.proofs.Renaming.{Over, facts_over}

abbrev Texts : Type 0
Texts = List (List ℕ)

is-few : (n : ℕ) → is_few n ≡ true → n < 2 ^ 32
is-few n h = ltb-true n (2 ^ 32) h

module _ (names : Texts) where
  fit_needs : (ns : List Need) → list_all few_ops ns ≡ true → AllByRecursion IsSoundNeed (map (need_by (text_at names)) (map need_view ns)) → AllByRecursion (FitsNeed IsName) (map (need_by (text_at names)) (map need_view ns))
  fit_needs [] h s = tt
  fit_needs (n ∷ ns) h s =
      let p = and_parts (few_ops n) (list_all few_ops ns) h in (
        record { byte = s.0.byte; of = s.0.of; length = omega (arith, is-few (length n.ops) p.0, length-map (map op_view n.ops) (operator_by (text_at names)), length-map n.ops op_view); operators = s.0.operators },
        fit_needs ns p.1 s.1,
      )

  fit_sections : (ss : List Section) → list_all few_entries ss ≡ true → AllByRecursion IsSoundSection (map (section_by (text_at names)) (map section_view ss)) → AllByRecursion (FitsSection IsName) (map (section_by (text_at names)) (map section_view ss))
  fit_sections [] h t = tt
  fit_sections (s ∷ ss) h t =
      let p = and_parts (few_entries s) (list_all few_entries ss) h in (
        record { byte = t.0.byte; of = t.0.of; length = omega (arith, is-few (length s.entries) p.0, length-map (map entry_view s.entries) (entry_by (text_at names)), length-map s.entries entry_view); entries = t.0.entries },
        fit_sections ss p.1 t.1,
      )

record Counted (names : ℕ) (f : Facts) : Type 0 where
  pub names_count : names < 2 ^ 32
  pub needs_count : length f.needs < 2 ^ 32
  pub sections_count : length f.sections < 2 ^ 32
  pub ops : list_all few_ops f.needs ≡ true
  pub entries : list_all few_entries f.sections ≡ true

counted : (names : ℕ) (f : Facts) → are_few names f ≡ true → Counted names f
counted names f h =
    let a = and_parts (is_few names && is_few (length f.needs) && is_few (length f.sections) && list_all few_ops f.needs) (list_all few_entries f.sections) h in
    let b = and_parts (is_few names && is_few (length f.needs) && is_few (length f.sections)) (list_all few_ops f.needs) a.0 in
    let c = and_parts (is_few names && is_few (length f.needs)) (is_few (length f.sections)) b.0 in
    let d = and_parts (is_few names) (is_few (length f.needs)) c.0 in
    record { names_count = is-few names d.0; needs_count = is-few (length f.needs) d.1; sections_count = is-few (length f.sections) c.1; ops = b.1; entries = a.1 }

-- numbers that were noted once, of names, with those of the facts among them
pub record IsNumbering (names : Texts) (f : FactsOf ℕ) (used : List ℕ) : Type 0 where
  pub fresh : AreFresh [] used
  pub below : AllByRecursion (λ k. k < length names) used
  pub noted : AllByRecursion (IsNoted used) (names_of f)

module _ (names : Texts) (f : FactsOf ℕ) (used : List ℕ) (distinct : AreDistinct names) (numbering : IsNumbering names f used) where
  again : (ns : List ℕ) → AllByRecursion (IsNoted used) ns → AllByRecursion (Over (number_in used) (text_at (map (text_at names) used)) (text_at names)) ns
  again [] h = tt
  again (n ∷ ns) h = (text_again names used n h.0, again ns h.1)

  module _ (table : Texts) (made : table ≡ with_texts [] (map (text_at names) used)) where
    pub table_whole : table ≡ map (text_at names) used
    table_whole = made ∙ table_texts names distinct used numbering.below numbering.fresh

    pub table_length : length table ≡ length used
    table_length = ap length table_whole ∙ length-map used (text_at names)

    -- they stand for the same facts
    pub same_facts : (g : FactsOf ℕ) → g ≡ facts_by (number_in used) f → facts_in table g ≡ facts_in names f
    same_facts g numbered =
        ap (facts_in table) numbered
        ∙ ap (λ t. facts_by (text_at t) (facts_by (number_in used) f)) table_whole
        ∙ facts_over (number_in used) (text_at (map (text_at names) used)) (text_at names) f (again (names_of f) numbering.noted)

-- the numbers that facts note
module _ (names : Texts) (f : Facts) (used : List ℕ) (below : FactsBelow (length names) (facts_view f)) (was : used ≡ all_noted [] (facts_uses f)) where
  uses_are : all_noted [] (names_of (facts_view f)) ≡ used
  uses_are = ap (all_noted []) (names_of-view f) ∙ sym was

  pub used_below : AllByRecursion (λ k. k < length names) used
  used_below = subst (AllByRecursion (λ k. k < length names)) uses_are (all_of_uses (λ k. k < length names) [] (names_of (facts_view f)) tt below)

  numbering : IsNumbering names (facts_view f) used
  numbering = record {
    fresh = subst (AreFresh []) uses_are (fresh [] (names_of (facts_view f)) tt);
    below = used_below;
    noted = uses_noted used [] (names_of (facts_view f)) uses_are;
  }

  module _ (distinct : AreDistinct names) (table : Texts) (made : table ≡ with_texts [] (map (text_at names) used)) (g : Facts) (numbered : facts_view g ≡ facts_by (number_in used) (facts_view f)) where
    pub stands : facts_in table (facts_view g) ≡ facts_in names (facts_view f)
    stands = same_facts names (facts_view f) used distinct numbering table made (facts_view g) numbered

    in_order : IsInOrder table (facts_view g)
    in_order =
        let whole = table_whole names (facts_view f) used distinct numbering table made in
        let long = table_length names (facts_view f) used distinct numbering table made in
        record {
          used = ap (λ x. first_after [] (names_of x)) numbered ∙ ap (first_after []) (names_of-by (number_in used) (facts_view f)) ∙ places_in_order used (names_of (facts_view f)) uses_are ∙ ap (from_to 0) (sym long);
          distinct = subst (λ t. distinct_after [] t ≡ t) (sym whole) (table_distinct names distinct used used_below numbering.fresh);
        }

    fits : Counted (length table) f → IsSound (facts_in names (facts_view f)) → FitsFacts IsName (facts_in names (facts_view f))
    fits c sound = record {
      needs_length = omega (arith, c.needs_count, length-map (map need_view f.needs) (need_by (text_at names)), length-map f.needs need_view);
      needs = fit_needs names f.needs c.ops sound.needs;
      sections_length = omega (arith, c.sections_count, length-map (map section_view f.sections) (section_by (text_at names)), length-map f.sections section_view);
      sections = fit_sections names f.sections c.entries sound.sections;
    }

    pub is_unit : IsSound (facts_in names (facts_view f)) → are_few (length table) f ≡ true → IsUnitOf table g
    is_unit sound few =
        let c = counted (length table) f few in
        let texts : table_of (facts_in names (facts_view f)) ≡ table = ap table_of (sym stands) ∙ table_is table (facts_view g) in_order in
        let valid : IsValid (facts_in names (facts_view f)) = record { fits = fits c sound; names = omega (arith, c.names_count, ap length texts); rules = sound.rules } in
        record { order = in_order; valid = subst IsValid (sym stands) valid }
