-- Rows that a program shows, one after another.
use Rattle.std.proofs.Common.{◌≡◌, ℕ, ◌+◌, ◌<◌, List, [], ◌∷◌, length, map, take, get_or, true, false, sym, ap, subst, ◌∙◌, Option, Some, None}
use Rattle.std.specs.Prelude.{is_some}
use Rattle.std.specs.List.{AllByRecursion}
use Rattle.std.specs.Map.{lookup}
use Rattle.std.specs.Option.{option_map}
use Rattle.std.proofs.lemmas.List.{map-append}
use Rattle.unit_model.specs.Facts.{Indicator}
use Rattle.search_model.specs.declared.rows.VisibleRow.{VisibleRow}
use Rattle.pl_store.specs.Linked.{Linked, Procedure, Row, procedure_at, visible_in, with_names}
use Rattle.pl_store.specs.Rules.{IsExisting}
use Rattle.pl_store.specs.Runs.{number_of}
use Rattle.pl_store.specs.declared.key.ProcId.{ProcId}
use Rattle.mod_faults.proofs.Units.{more_taken, AllBy-at}
use Rattle.mod_linker.specs.declared.key.Key.{Key}
use Rattle.mod_linker.specs.Keys.{ind_of, same_key, AreKnown}
use Rattle.mod_linker.specs.Rowing.{Shown, ShowsMore}
use Rattle.mod_linker.specs.Showing.{shown_by, IsShowable}
use Rattle.mod_linker.proofs.Growing.{its, found-is}
use Rattle.mod_linker.proofs.Rows.{shows-more}

-- ---- what is known of a procedure by its key

pub number-known : (l : Linked) (known : List (Key × ℕ)) (k j : Key) (o : Option ℕ) → AreKnown l known → j ≡ k → o ≡ lookup (same_key j) known → number_of l k.home (ind_of k) ≡ o
number-known l known k j o h same is = sym (h k) ∙ ap (λ (x : Key). lookup (same_key x) known) (sym same) ∙ sym is

pub known-known : (l m : Linked) (known : List (Key × ℕ)) → m.procedures ≡ l.procedures → AreKnown l known → AreKnown m known
known-known l m known same h = λ k. subst (λ (ps : List Procedure). lookup (same_key k) known ≡ number_of (record l { procedures = ps }) k.home (ind_of k)) (sym same) (h k)

pub found-indicator : (l : Linked) (d : ℕ) (i : Indicator ℕ) (p : ℕ) → number_of l d i ≡ Some p → (p < length l.procedures) × ((procedure_at l p).indicator ≡ i) × (d ≡ (procedure_at l p).home)
found-indicator l d i p e =
    let there = found-is l d i p e in
    let same = its d i (procedure_at l p) there.1 in
    (there.0, sym same.1, same.0)

-- ---- what is visible

pub rows-of : (t l : Linked) (m : ℕ) (i : Indicator ℕ) (o : Option ProcId) → option_map (λ p. p.0) o ≡ visible_in t.rows m i → with_names t l.names ≡ l → option_map (λ p. p.0) o ≡ visible_in l.rows m i
rows-of t l m i o is same = is ∙ ap (λ (w : Linked). visible_in w.rows m i) same

pub is-seen : (rows : List Row) (m : ℕ) (i : Indicator ℕ) (o : Option ProcId) → option_map (λ p. p.0) o ≡ visible_in rows m i → is_some o ≡ true → is_some (visible_in rows m i) ≡ true
is-seen rows m i None is e = absurd cc
is-seen rows m i (Some p) is e = ap is_some (sym is)

pub is-unseen : (rows : List Row) (m : ℕ) (i : Indicator ℕ) (o : Option ProcId) → option_map (λ p. p.0) o ≡ visible_in rows m i → is_some o ≡ false → visible_in rows m i ≡ None
is-unseen rows m i None is e = sym is
is-unseen rows m i (Some p) is e = absurd cc

-- ---- rows in turn

pub still-showable : (numbers : List ℕ) (xs : List Shown) (l m : Linked) (r : VisibleRow) → ShowsMore xs l m → IsShowable numbers l r → IsShowable numbers m r
still-showable numbers xs l m r s h = record {
  named = h.named;
  lookup = subst (λ (ns : List (List ℕ)). IsExisting (record m { names = ns }) (shown_by numbers r).of) (sym s.names)
      (subst (λ (ms : List ℕ). IsExisting (record m { names = l.names; modules = ms }) (shown_by numbers r).of) (sym s.modules) h.lookup);
  definer = subst (λ (ps : List Procedure). is_some (number_of (record m { procedures = ps }) (shown_by numbers r).definer (shown_by numbers r).ind) ≡ true) (sym s.procedures) h.definer;
}

pub row-showable : (numbers : List ℕ) (rows : List VisibleRow) (k : ℕ) (r : VisibleRow) (xs : List Shown) (l m : Linked) → k < length rows → r ≡ get_or rows k r → ShowsMore xs l m → AllByRecursion (IsShowable numbers l) rows → IsShowable numbers m r
row-showable numbers rows k r xs l m lt is s h = still-showable numbers xs l m r s (AllBy-at (IsShowable numbers l) rows k r lt is h)

pub rows-more : (numbers : List ℕ) (rows : List VisibleRow) (k : ℕ) (r : VisibleRow) (l m n : Linked) → k < length rows → r ≡ get_or rows k r → ShowsMore (map (shown_by numbers) (take k rows)) l m → ShowsMore (shown_by numbers r ∷ []) m n
    → ShowsMore (map (shown_by numbers) (take (k + 1) rows)) l n
rows-more numbers rows k r l m n lt is p q =
    subst (λ xs. ShowsMore xs l n) (sym (ap (map (shown_by numbers)) (more_taken rows k r lt is) ∙ map-append (shown_by numbers) (take k rows) (r ∷ [])))
    (shows-more (map (shown_by numbers) (take k rows)) (shown_by numbers r ∷ []) l m n p q)
