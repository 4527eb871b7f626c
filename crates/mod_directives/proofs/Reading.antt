-- What reading a list comes to.
use Rattle.std.proofs.Common.{◌≡◌, ℕ, ◌<◌, List, [], ◌++◌, length, codes, Bool, true, false, not, Option, Some, None, Result, Ok, Err, if◌then◌else◌, refl, sym, ap, ◌∙◌, arith, subst, option_and_then}
use Rattle.std.specs.Option.{option_map}
use Rattle.std.specs.List.{flat_map}
use Rattle.std.proofs.lemmas.Bool.{false≢true}
use Rattle.pl_terms.specs.Trees.{Tree, Trees, nil, cons, count, back, all_renamed}
use Rattle.pl_terms.specs.Cells.{first}
use Rattle.pl_terms.specs.Order.{text_of, texts_of}
use Rattle.unit_model.specs.Facts.{Entry}
use Rattle.unit_model.specs.Directives.{Text, both, text_in, indicator_in, mode_term_in, indicators_in}
use Rattle.unit_model.specs.Preparing.{entries_at}
use Rattle.unit_model.specs.Views.{entries_view}
use Rattle.unit_model.specs.declared.facts.Entry.{Entry as CodeEntry}
use Rattle.unit_model.specs.Entries.{EntriesBelow, entries_in}
use Rattle.term_walk.specs.Walks.{first_cell, entered, is_functor}
use Rattle.mod_directives.specs.declared.fault.DirFault.{DirFault}
use Rattle.mod_directives.specs.declared.fault.DirFault.TheVariants.{Fault}
use Rattle.pl_atoms.specs.declared.names.NameId.{NameId}
use Rattle.mod_directives.specs.declared.listing.Whole.{Whole}
use Rattle.mod_directives.specs.declared.listing.Whole.TheVariants.{Reexported, Imported}
use Rattle.mod_directives.specs.declared.listing.Role.{Role}
use Rattle.unit_model.specs.declared.facts.Ind.{Ind}
use Rattle.pl_terms.specs.NameBounds.{AllNamesBelow}
use Rattle.term_walk.specs.Items.{indicator_text}
use Rattle.mod_directives.specs.declared.listing.Item.{Item}
use Rattle.mod_directives.specs.declared.listing.Item.TheVariants.{Indicator, Modes}
use Rattle.mod_directives.specs.Several.{all_joined, listed_by, several_by}
use Rattle.mod_directives.specs.Lists.{role_said, modes_said, item_entries, list_entries, is_end, part, part_said, part_entries}
use Rattle.mod_directives.specs.Reads.{IsPushed, IsKept, Pushes, Lists}
use Rattle.mod_directives.proofs.Putting.{append-empty, entries_at-append}
use Rattle.mod_directives.proofs.Steps.{both-empty, both-step, several-map, several-under, several-one, several-joined, several-listed, left-one, item_joined, comma_left, none_left, cell_listed, end_listed}

pub list_entries-by : (f : ℕ → List ℕ) (item : Item) (byte : ℕ) (t : Tree Text) → list_entries f item byte t ≡ several_by (item_entries f item byte) t
list_entries-by f (Indicator r) byte t =
    ap (option_map (entries_at byte)) (several-map (role_said f r) indicator_in t)
    ∙ several-under (entries_at byte) refl (entries_at-append byte) (λ u. option_map (role_said f r) (indicator_in u)) t
list_entries-by f Modes byte t =
    ap (option_map (entries_at byte)) (several-map (modes_said f) mode_term_in t)
    ∙ several-under (entries_at byte) refl (entries_at-append byte) (λ u. option_map (modes_said f) (mode_term_in u)) t

pub Lists-same : (names : List (List ℕ)) (o p : Option (List (Entry Text))) (r : Result (List CodeEntry) DirFault) → o ≡ p → Lists names p r → Lists names o r
Lists-same names o p r e h = subst (λ q. Lists names q r) (sym e) h

module _ (names : List (List ℕ)) (item : Item) (byte : ℕ) where
  abbrev pub one : Tree Text → Option (List (Entry Text))
  one = item_entries (text_of names) item byte

  abbrev pub of : Trees ℕ → Option (List (Entry Text))
  of ts = list_entries (text_of names) item byte (texts_of names (first ts))

  abbrev pub rest : Trees ℕ → Option (List (Entry Text))
  rest ts = all_joined one (all_renamed (text_of names) ts)

  -- one item
  pub list-pushed : (ts us : Trees ℕ) (es fs : List CodeEntry) → es ≡ [] → IsPushed names one ts us es fs → of ts ≡ Some (entries_in names fs)
  list-pushed ts us es fs empty p =
      list_entries-by (text_of names) item byte (texts_of names (first ts))
      ∙ several-one one (text_of names) ts (entries_in names fs)
      (sym (both-empty (one (texts_of names (first ts)))) ∙ ap (λ l. both (Some (entries_in names l)) (one (texts_of names (first ts)))) (sym empty) ∙ p.entries)

  pub list-joined : (ts us : Trees ℕ) (es fs : List CodeEntry) (b : Bool) → count ts ≡ 1 → IsKept names one ts us es fs → b ≡ is_functor (text_of names) (codes ",") 2 us → b ≡ true → of ts ≡ rest us
  list-joined ts us es fs b single k is taken =
      list_entries-by (text_of names) item byte (texts_of names (first ts))
      ∙ several-joined one (text_of names) ts (ap (is_functor (text_of names) (codes ",") 2) (sym k.trees) ∙ sym is ∙ taken) k.none
      ∙ sym (left-one one (text_of names) ts single)
      ∙ ap rest (sym k.trees)

  pub list-proper : (ts us : Trees ℕ) (es fs : List CodeEntry) (b : Bool) → count ts ≡ 1 → IsKept names one ts us es fs → b ≡ is_functor (text_of names) (codes ",") 2 us → b ≡ false → of ts ≡ listed_by one (texts_of names (first us))
  list-proper ts us es fs b single k is left =
      list_entries-by (text_of names) item byte (texts_of names (first ts))
      ∙ several-listed one (text_of names) ts (omega arith) (ap (is_functor (text_of names) (codes ",") 2) (sym k.trees) ∙ sym is ∙ left) k.none
      ∙ ap (λ vs. listed_by one (texts_of names (first vs))) (sym k.trees)

  -- items joined by commas
  pub joined-pushed : (ts us : Trees ℕ) (es fs : List CodeEntry) → 0 < count ts → IsPushed names one ts us es fs → both (Some (entries_in names fs)) (rest us) ≡ both (Some (entries_in names es)) (rest ts)
  joined-pushed ts us es fs some p = item_joined one (text_of names) ts us (entries_in names es) (entries_in names fs) some p.entries p.trees

  pub joined-comma : (ts us vs : Trees ℕ) (es fs : List CodeEntry) (b : Bool) → IsKept names one ts us es fs → b ≡ is_functor (text_of names) (codes ",") 2 us → b ≡ true → vs ≡ entered us
      → both (Some (entries_in names fs)) (rest vs) ≡ both (Some (entries_in names es)) (rest ts)
  joined-comma ts us vs es fs b k is taken next =
      ap (λ l. both (Some (entries_in names l)) (rest vs)) k.entries
      ∙ ap (λ ws. both (Some (entries_in names es)) (rest ws)) (next ∙ ap entered k.trees)
      ∙ ap (both (Some (entries_in names es))) (sym (comma_left one (text_of names) ts (ap (is_functor (text_of names) (codes ",") 2) (sym k.trees) ∙ sym is ∙ taken) k.none))

  pub joined-none : (ts us : Trees ℕ) (es fs : List CodeEntry) (b : Bool) → 0 < count ts → IsKept names one ts us es fs → b ≡ is_functor (text_of names) (codes ",") 2 us → b ≡ false → rest ts ≡ None
  joined-none ts us es fs b some k is left = none_left one (text_of names) ts some (ap (is_functor (text_of names) (codes ",") 2) (sym k.trees) ∙ sym is ∙ left) k.none

  pub joined-end : (ts us : Trees ℕ) (es fs : List CodeEntry) → es ≡ [] → (0 < count us → ⊥) → both (Some (entries_in names fs)) (rest us) ≡ both (Some (entries_in names es)) (rest ts) → rest ts ≡ Some (entries_in names fs)
  joined-end ts (cons u us) es fs empty none e = absurd (none (omega arith))
  joined-end ts nil es fs empty none e =
      sym (both-empty (rest ts)) ∙ ap (λ l. both (Some (entries_in names l)) (rest ts)) (sym empty) ∙ sym e ∙ ap Some (append-empty (entries_in names fs))

  pub joined-fault : (ts us : Trees ℕ) (es fs : List CodeEntry) → es ≡ [] → rest us ≡ None → both (Some (entries_in names fs)) (rest us) ≡ both (Some (entries_in names es)) (rest ts) → rest ts ≡ None
  joined-fault ts us es fs empty none e =
      sym (both-empty (rest ts)) ∙ ap (λ l. both (Some (entries_in names l)) (rest ts)) (sym empty) ∙ sym e ∙ ap (both (Some (entries_in names fs))) none

  -- proper lists
  abbrev pub proper : Trees ℕ → Option (List (Entry Text))
  proper ts = listed_by one (texts_of names (first ts))

  pub proper-more : (ts us vs : Trees ℕ) (es fs : List CodeEntry) (b : Bool) (o : Option (List (Entry Text))) → b ≡ is_functor (text_of names) (codes ".") 2 ts → b ≡ true → us ≡ entered ts → IsPushed names one us vs es fs
      → both (Some (entries_in names es)) (proper ts) ≡ o → both (Some (entries_in names fs)) (proper vs) ≡ o
  proper-more ts us vs es fs b o is taken next p e =
      ap (λ ws. both (Some (entries_in names fs)) (proper ws)) p.trees
      ∙ sym (both-step (entries_in names es) (entries_in names fs) (one (texts_of names (first us))) (proper (back 1 us)) p.entries)
      ∙ ap (λ ws. both (Some (entries_in names es)) (both (one (texts_of names (first ws))) (proper (back 1 ws)))) next
      ∙ ap (both (Some (entries_in names es))) (sym (cell_listed one (text_of names) ts (sym is ∙ taken)))
      ∙ e

  none_both : (xs : List (Entry Text)) (o : Option (List (Entry Text))) → both (Some xs) None ≡ both (Some []) o → o ≡ None
  none_both xs None e = refl
  none_both xs (Some ys) e = absurd (cc)

  pub proper-fault : (start ts us vs : Trees ℕ) (es fs gs : List CodeEntry) (b : Bool) → gs ≡ [] → b ≡ is_functor (text_of names) (codes ".") 2 ts → b ≡ true → us ≡ entered ts → IsKept names one us vs es fs
      → both (Some (entries_in names es)) (proper ts) ≡ both (Some (entries_in names gs)) (proper start) → proper start ≡ None
  proper-fault start ts us vs es fs gs b empty is taken next k e =
      none_both (entries_in names es) (proper start)
      (sym (ap (both (Some (entries_in names es)))
      (cell_listed one (text_of names) ts (sym is ∙ taken) ∙ ap (λ ws. both (one (texts_of names (first ws))) (proper (back 1 ws))) (sym next) ∙ ap (λ o. both o (proper (back 1 us))) k.none))
      ∙ e ∙ ap (λ l. both (Some (entries_in names l)) (proper start)) empty)

  pub proper-end : (start ts : Trees ℕ) (es gs : List CodeEntry) (b e : Bool) → gs ≡ [] → b ≡ is_functor (text_of names) (codes ".") 2 ts → b ≡ false → e ≡ is_end (text_of names) (first_cell ts)
      → both (Some (entries_in names es)) (proper ts) ≡ both (Some (entries_in names gs)) (proper start) → proper start ≡ (if e then Some (entries_in names es) else None)
  proper-end start ts es gs b true empty is left ends h =
      sym (both-empty (proper start)) ∙ ap (λ l. both (Some (entries_in names l)) (proper start)) (sym empty) ∙ sym h
      ∙ ap (both (Some (entries_in names es))) (end_listed one (text_of names) ts (sym is ∙ left) ∙ ap (λ (d : Bool). if d then Some [] else None) (sym ends))
      ∙ ap Some (append-empty (entries_in names es))
  proper-end start ts es gs b false empty is left ends h =
      none_both (entries_in names es) (proper start)
      (sym (ap (both (Some (entries_in names es))) (end_listed one (text_of names) ts (sym is ∙ left) ∙ ap (λ (d : Bool). if d then Some [] else None) (sym ends)))
      ∙ h ∙ ap (λ l. both (Some (entries_in names l)) (proper start)) empty)

-- whether an item was put
module _ (names : List (List ℕ)) (one : Tree Text → Option (List (Entry Text))) (ts us : Trees ℕ) (es fs : List CodeEntry) where
  pub pushed : (b : Bool) → b ≡ true → Pushes names one ts us es fs b → IsPushed names one ts us es fs
  pushed true e p = p
  pushed false e p = absurd (cc)

  pub kept : (b : Bool) → b ≡ false → Pushes names one ts us es fs b → IsKept names one ts us es fs
  kept true e p = absurd (cc)
  kept false e p = p

pub push-indicator : (names : List (List ℕ)) (item : Item) (byte : ℕ) (role : Role) (ind : Ind) (ts us : Trees ℕ) (es fs : List CodeEntry) → item ≡ Indicator role
    → Some (indicator_text (text_of names) ind) ≡ indicator_in (texts_of names (first ts))
    → entries_in names fs ≡ entries_in names es ++ entries_at byte (role_said (text_of names) role (indicator_text (text_of names) ind))
    → EntriesBelow (length names) (entries_view fs) → us ≡ back 1 ts → IsPushed names (item_entries (text_of names) item byte) ts us es fs
push-indicator names item byte role ind ts us es fs is found put below next = record {
  entries =
      ap (λ i. both (Some (entries_in names es)) (item_entries (text_of names) i byte (texts_of names (first ts)))) is
      ∙ ap (λ o. both (Some (entries_in names es)) (option_map (entries_at byte) (option_map (role_said (text_of names) role) o))) (sym found)
      ∙ ap Some (sym put);
  bound = below;
  trees = next;
}

-- the names that are left after an item
pub names-left : (n : ℕ) (ts us : Trees ℕ) → us ≡ back 1 ts → AllNamesBelow n ts → AllNamesBelow n us
names-left n nil us e h = subst (AllNamesBelow n) (sym e) tt
names-left n (cons t ts) us e h = subst (AllNamesBelow n) (sym e) h.1

-- whole results
module _ (names : List (List ℕ)) (o : Option (List (Entry Text))) where
  pub lists-ok : (es : List CodeEntry) → o ≡ Some (entries_in names es) → EntriesBelow (length names) (entries_view es) → Lists names o (Ok es)
  lists-ok es e below = record { ok = e; bound = below; fault = λ n d. absurd (cc) }

  pub lists-none : o ≡ None → Lists names o (Err (Fault 9))
  lists-none e = record { ok = tt; bound = tt; fault = λ n d. (cc, e) }

-- procedures of a module
pub part-is : (names : List (List ℕ)) (w : Whole) (byte : ℕ) (ts us : Trees ℕ) (m : NameId) (role : Role) (r : Result (List CodeEntry) DirFault) → role ≡ part w m
    → Some (text_of names m.0) ≡ text_in (texts_of names (first ts)) → us ≡ back 1 ts
    → Lists names (list_entries (text_of names) (Indicator role) byte (texts_of names (first us))) r
    → Lists names (part_entries w byte (texts_of names (first ts)) (texts_of names (first (back 1 ts)))) r
part-is names w byte ts us m role r is found next h =
    Lists-same names _ _ r
    (ap (λ s. option_map (entries_at byte) (option_and_then (λ n. option_map (flat_map (part_said w n)) (indicators_in (texts_of names (first (back 1 ts))))) s)) (sym found)
    ∙ by w
    ∙ ap (λ p. list_entries (text_of names) (Indicator p) byte (texts_of names (first (back 1 ts)))) (sym is)
    ∙ ap (λ vs. list_entries (text_of names) (Indicator role) byte (texts_of names (first vs))) (sym next)) h
  where
    by : (v : Whole) → option_map (entries_at byte) (option_map (flat_map (part_said v (text_of names m.0))) (indicators_in (texts_of names (first (back 1 ts))))) ≡ list_entries (text_of names) (Indicator (part v m)) byte (texts_of names (first (back 1 ts)))
    by Reexported = refl
    by Imported = refl

-- a test that fails says that what it tests is not so
pub not_so : {P : Type 0} (b : Bool) → b ≡ false → (P → b ≡ true) → P → ⊥
not_so b left h p = let taken : b ≡ true = h p in false≢true (sym left ∙ taken)

-- a test that is negated
pub turned : (b : Bool) → not b ≡ true → b ≡ false
turned true e = absurd (cc)
turned false e = refl

pub turned_back : (b : Bool) → not b ≡ false → b ≡ true
turned_back true e = refl
turned_back false e = absurd (cc)
