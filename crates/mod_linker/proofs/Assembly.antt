-- A program that holds the entries of units and shows their rows is their link.
use Rattle.std.proofs.Common.{◌≡◌, ℕ, ◌<◌, List, [], ◌++◌, length, map, ◌||◌, nat_eq, refl, sym, ap, subst, ◌∙◌, Option, Some, None}
use Rattle.std.specs.List.{list_any, flat_map}
use Rattle.std.specs.Option.{option_map}
use Rattle.pl_atoms.specs.Names.{same_text, AreDistinct, Remaps}
use Rattle.unit_model.specs.Facts.{Indicator, Facts, indicator_by}
use Rattle.unit_model.specs.Directives.{Text}
use Rattle.unit_model.specs.Encoding.{text_at}
use Rattle.search_model.specs.declared.rows.VisibleRow.{VisibleRow}
use Rattle.link_model.specs.Places.{Placed, places_of, steps}
use Rattle.link_model.specs.Seeing.{causes}
use Rattle.link_model.specs.Faults.{unmet, repeated, missing, clashes, split_at, link_faults, first_link}
use Rattle.link_model.specs.Rows.{Row as RowOf, rows_of}
use Rattle.naming_laws.specs.SameRun.{SaysSame, IsNamedBelow}
use Rattle.mod_visible.specs.Finding.{AreRows}
use Rattle.program_model.specs.Saying.{Said, said, clauses_said, modes_said}
use Rattle.program_model.specs.Linking.{definer_in, program_of_facts}
use Rattle.pl_store.specs.Linked.{Linked, Procedure, StoredClause, Row, is_system, is_module, procedure_at, visible_in}
use Rattle.pl_store.specs.Facts.{IsLinked}
use Rattle.pl_store.specs.Runs.{number_of, clauses_from, modes_from, program_of}
use Rattle.mod_linker.specs.declared.key.Key.{Key}
use Rattle.mod_linker.specs.Entering.{Enters}
use Rattle.mod_linker.specs.Holding.{AreSaids, HoldsEntries, HasEntries}
use Rattle.mod_linker.specs.Linking.{SaysNothingElse, IsLinkOf}
use Rattle.mod_linker.specs.Rowing.{Shown, Shows, ShowsMore}
use Rattle.mod_linker.specs.Showing.{shown_by}
use Rattle.mod_linker.proofs.Bounds.{named-below}
use Rattle.mod_linker.proofs.Growing.{its, found-is}
use Rattle.mod_linker.proofs.Saying.{modes_same}
use Rattle.mod_linker.proofs.Showable.{clauses-are, none-said}
use Rattle.mod_linker.proofs.Shown.{definer-same}
use Rattle.mod_linker.proofs.Defined.{append-none, no_fault, no_modes}
use Rattle.mod_linker.proofs.Unsaid.{clauses-other, modes-other, rows-other}

-- ---- no faults

pub faultless : (us : List (Facts Text)) → first_link us ≡ None → (unmet us ≡ []) × (flat_map (missing (places_of 0 us)) (places_of 0 us) ≡ [])
faultless us e =
    let ps = places_of 0 us in
    let last = flat_map (λ (x : List (Placed Text) × Placed Text). split_at x.0 x.1) (steps [] ps) in
    let all = no_fault (link_faults us) e in
    let fourth = append-none (unmet us ++ repeated us ++ flat_map (missing ps) ps ++ clashes (causes ps)) last all in
    let third = append-none (unmet us ++ repeated us ++ flat_map (missing ps) ps) (clashes (causes ps)) fourth.0 in
    let second = append-none (unmet us ++ repeated us) (flat_map (missing ps) ps) third.0 in
    ((append-none (unmet us) (repeated us) second.0).0, second.1)

-- ---- rows leave the entries as they are

enters-kept : (l m : Linked) (all done : List (Said ℕ)) → m.procedures ≡ l.procedures → m.clauses ≡ l.clauses → Enters all done l → Enters all done m
enters-kept l m all done ps cs h = record {
  clauses = λ d i.
      subst (λ (x : List Procedure). clauses_from (record m { procedures = x }) (number_of (record m { procedures = x }) d i) ≡ clauses_said nat_eq done d i) (sym ps)
      (subst (λ (y : List StoredClause). clauses_from (record m { procedures = l.procedures; clauses = y }) (number_of (record m { procedures = l.procedures; clauses = y }) d i) ≡ clauses_said nat_eq done d i) (sym cs) (h.clauses d i));
  modes = λ p lt.
      subst (λ (x : List Procedure). (procedure_at (record m { procedures = x }) p).modes ≡ modes_said nat_eq all (procedure_at (record m { procedures = x }) p).home (procedure_at (record m { procedures = x }) p).indicator) (sym ps)
      (h.modes p (subst (λ (x : List Procedure). p < length x) ps lt));
}

holds-kept : (us : List (Facts Text)) (names : List Text) (xs : List (Said ℕ)) (rs : List Shown) (l m : Linked) → ShowsMore rs l m → HoldsEntries us names xs l → HoldsEntries us names xs m
holds-kept us names xs rs l m s h = record {
  table = s.names ∙ h.table;
  modules = λ k lt. h.modules k lt ∙ ap (λ (ms : List ℕ). is_system names k || list_any (nat_eq k) ms) (sym s.modules);
  others = h.others;
  module_count = ap length s.modules ∙ h.module_count;
  procedure_count = ap length s.procedures ∙ h.procedure_count;
  enters = enters-kept l m xs xs s.procedures s.clauses h.enters;
}

shows-start : (l : Linked) → l.rows ≡ [] → Shows [] l
shows-start l e = λ m i. ap (λ (rs : List Row). option_map (λ p. (procedure_at l p).home) (visible_in rs m i)) e

-- ---- what the program says

module _ (us : List (Facts Text)) (names : List Text) (xs : List (Said ℕ)) (m : Linked) (distinct : AreDistinct names) (saids : AreSaids us names xs) (holds : HoldsEntries us names xs m) (none : flat_map (missing (places_of 0 us)) (places_of 0 us) ≡ []) where
  abbrev T : ℕ → Text
  T = text_at names

  modes-are : (d : ℕ) (i : Indicator ℕ) → d < length names → i.name < length names → modes_said same_text (said us) (T d) (indicator_by T i) ≡ modes_from m (number_of m d i)
  modes-are d i hd hi = go (number_of m d i) refl
    where
      go : (o : Option ℕ) → number_of m d i ≡ o → modes_said same_text (said us) (T d) (indicator_by T i) ≡ modes_from m o
      go None e = no_modes us (T d) (indicator_by T i) none (none-said us names xs m distinct saids holds d i hd hi e)
      go (Some p) e =
          let there = found-is m d i p e in
          let same = its d i (procedure_at m p) there.1 in
          ap (λ (ys : List (Said Text)). modes_said same_text ys (T d) (indicator_by T i)) (sym saids.texts)
          ∙ modes_same names distinct d i hd hi xs saids.below
          ∙ ap (λ k. modes_said nat_eq xs k i) same.0 ∙ ap (modes_said nat_eq xs (procedure_at m p).home) same.1
          ∙ sym (holds.enters.modes p there.0)

  exists-are : (k : ℕ) → k < length names → (program_of_facts us).exists (T k) ≡ (program_of m).exists k
  exists-are k lt = holds.modules k lt ∙ ap (λ (ns : List Text). is_system ns k || is_module m k) (sym holds.table)

  module _ (linked : IsLinked m) (from : List Text) (numbers : List ℕ) (e : Remaps from names numbers) (rows : List VisibleRow) (are : AreRows from us rows) (shows : Shows (map (shown_by numbers) rows) m) where
    visible-are : (k : ℕ) (i : Indicator ℕ) → k < length names → i.name < length names → definer_in (rows_of us) (T k) (indicator_by T i) ≡ option_map T ((program_of m).visible k i)
    visible-are k i hk hi =
        ap (λ (rs : List RowOf). definer_in rs (T k) (indicator_by T i)) (sym are.texts)
        ∙ definer-same from names numbers e distinct k i hk hi rows are.named
        ∙ ap (option_map T) (sym (shows k i))

    same : SaysSame names (program_of m) (program_of_facts us)
    same = record {
      within = subst (λ (ns : List Text). IsNamedBelow (length ns) (program_of m)) holds.table (named-below m linked);
      exists = exists-are;
      visible = visible-are;
      modes = modes-are;
      clauses = λ d i hd hi. clauses-are us names xs m distinct saids holds d i hd hi;
    }

    nothing-else : SaysNothingElse names (program_of_facts us)
    nothing-else = record {
      exists = holds.others;
      visible = λ k i apart. ap (λ (rs : List RowOf). definer_in rs k i) (sym are.texts) ∙ rows-other names k i apart from numbers e rows are.named;
      modes = λ d i apart. ap (λ (ys : List (Said Text)). modes_said same_text ys d i) (sym saids.texts) ∙ modes-other names d i apart xs saids.below;
      clauses = λ d i apart. ap (λ (ys : List (Said Text)). clauses_said same_text ys d i) (sym saids.texts) ∙ clauses-other names d i apart xs saids.below;
    }

    is-link : IsLinkOf us m
    is-link = record {
      says_same = subst (λ (ns : List Text). SaysSame ns (program_of m) (program_of_facts us)) (sym holds.table) same;
      apart = subst (λ (ns : List Text). SaysNothingElse ns (program_of_facts us)) (sym holds.table) nothing-else;
      modules = holds.module_count;
      procedures = holds.procedure_count;
    }

-- from what the parts of the code ensure
pub linked-is : (us : List (Facts Text)) (names from : List Text) (numbers : List ℕ) (rows : List VisibleRow) (l m : Linked) (known : List (Key × ℕ)) → first_link us ≡ None → AreDistinct names → HasEntries us names l known → Remaps from names numbers → AreRows from us rows
    → ShowsMore (map (shown_by numbers) rows) l m → IsLinked m → IsLinkOf us m
linked-is us names from numbers rows l m known none distinct h e are s linked =
    is-link us names h.entries m distinct h.saids (holds-kept us names h.entries (map (shown_by numbers) rows) l m s h.holds) (faultless us none).1 linked from numbers e rows are
    (s.shows [] (shows-start l h.rows))
