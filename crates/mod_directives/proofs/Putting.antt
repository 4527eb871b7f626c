-- Entries that grow at their end.
use Rattle.std.proofs.Common.{◌≡◌, ℕ, ◌<◌, List, [], ◌∷◌, ◌++◌, map, refl, sym, ap, ◌∙◌, subst}
use Rattle.std.specs.List.{AllByRecursion}
use Rattle.std.proofs.lemmas.List.{map-append}
use Rattle.std.proofs.lemmas.List.Concat.{flat_map-append}
use Rattle.pl_terms.specs.Order.{text_of}
use Rattle.unit_model.specs.Facts.{What, Entry, what_by, what_names, entry_by}
use Rattle.unit_model.specs.Views.{what_view, entry_view, entries_view}
use Rattle.unit_model.specs.Preparing.{entries_at}
use Rattle.unit_model.specs.declared.facts.Entry.{Entry as CodeEntry}
use Rattle.unit_model.specs.declared.facts.What.{What as CodeWhat}
use Rattle.unit_model.specs.Entries.{EntriesBelow, entries_names, entries_in}

pub append-empty : {A : Type 0} (xs : List A) → xs ++ [] ≡ xs
append-empty [] = refl
append-empty (x ∷ xs) = ap (λ ys. x ∷ ys) (append-empty xs)

-- what an entry says, with texts for its names
abbrev pub said_by : List (List ℕ) → CodeWhat → What (List ℕ)
said_by names w = what_by (text_of names) (what_view w)

pub entries_at-append : (byte : ℕ) (ws vs : List (What (List ℕ))) → entries_at byte (ws ++ vs) ≡ entries_at byte ws ++ entries_at byte vs
entries_at-append byte [] vs = refl
entries_at-append byte (w ∷ ws) vs = ap (λ l. record { byte = byte; what = w } ∷ l) (entries_at-append byte ws vs)

module _ (names : List (List ℕ)) where
  pub entries_in-push : (es fs : List CodeEntry) (byte : ℕ) (w : CodeWhat) → fs ≡ es ++ record { byte = byte; what = w } ∷ [] → entries_in names fs ≡ entries_in names es ++ entries_at byte (said_by names w ∷ [])
  entries_in-push es fs byte w e =
      ap (entries_in names) e
      ∙ ap (map (entry_by (text_of names))) (map-append entry_view es (record { byte = byte; what = w } ∷ []))
      ∙ map-append (entry_by (text_of names)) (entries_view es) (entry_view (record { byte = byte; what = w }) ∷ [])

module _ (n : ℕ) where
  pub all-append : (xs ys : List ℕ) → AllByRecursion (λ k. k < n) xs → AllByRecursion (λ k. k < n) ys → AllByRecursion (λ k. k < n) (xs ++ ys)
  all-append [] ys h k = k
  all-append (x ∷ xs) ys h k = (h.0, all-append xs ys h.1 k)

  pub EntriesBelow-push : (es fs : List CodeEntry) (byte : ℕ) (w : CodeWhat) → fs ≡ es ++ record { byte = byte; what = w } ∷ [] → AllByRecursion (λ k. k < n) (what_names (what_view w)) → EntriesBelow n (entries_view es) → EntriesBelow n (entries_view fs)
  EntriesBelow-push es fs byte w e below h =
      subst (AllByRecursion (λ k. k < n))
      (sym (ap (λ l. entries_names (entries_view l)) e
      ∙ ap entries_names (map-append entry_view es (record { byte = byte; what = w } ∷ []))
      ∙ flat_map-append (λ (e : Entry ℕ). what_names e.what) (entries_view es) (entry_view (record { byte = byte; what = w }) ∷ [])))
      (all-append (entries_names (entries_view es)) (what_names (what_view w) ++ []) h (subst (AllByRecursion (λ k. k < n)) (sym (append-empty (what_names (what_view w)))) below))
