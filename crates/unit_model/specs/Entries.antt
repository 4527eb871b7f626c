-- What facts in memory keep before they are a unit.
use Rattle.std.specs.Prelude.{◌≡◌, ℕ, ◌<◌, ◌^◌, List, length, map, true}
use Rattle.pl_terms.specs.Trees.{Tree}
use Rattle.pl_terms.specs.Occurrence.{IsNumbered, variables}
use Rattle.std.specs.List.{AllByRecursion, flat_map}
use Rattle.unit_model.specs.Facts.{Need, Entry, Section, Facts, names_of, what_names, entry_by}
use Rattle.unit_model.specs.Directives.{Text}
use Rattle.unit_model.specs.Encoding.{text_at}
use Rattle.unit_model.specs.Views.{entries_view}
use Rattle.unit_model.specs.Validity.{IsName, FitsTree, FitsOperator, FitsEntry, keeps_rules}
use Rattle.unit_model.specs.declared.facts.Entry.{Entry as CodeEntry}

-- the names of facts are below a number
abbrev pub FactsBelow : ℕ → Facts ℕ → Type 0
FactsBelow n f = AllByRecursion (λ k. k < n) (names_of f)

-- the names of entries
abbrev pub entries_names : List (Entry ℕ) → List ℕ
entries_names = flat_map (λ e. what_names e.what)

abbrev pub EntriesBelow : ℕ → List (Entry ℕ) → Type 0
EntriesBelow n es = AllByRecursion (λ k. k < n) (entries_names es)

-- entries in memory, with texts for their names
abbrev pub entries_in : List (List ℕ) → List CodeEntry → List (Entry Text)
entries_in names es = map (entry_by (text_at names)) (entries_view es)

pub record IsSoundNeed (n : Need Text) : Type 0 where
  pub byte : n.byte < 2 ^ 32
  pub of : IsName n.of
  pub operators : AllByRecursion (FitsOperator IsName) n.operators

pub record IsSoundSection (s : Section Text) : Type 0 where
  pub byte : s.byte < 2 ^ 32
  pub of : IsName s.of
  pub entries : AllByRecursion (FitsEntry IsName) s.entries

-- facts that are valid but for their counts
pub record IsSound (f : Facts Text) : Type 0 where
  pub needs : AllByRecursion IsSoundNeed f.needs
  pub sections : AllByRecursion IsSoundSection f.sections
  pub rules : keeps_rules f ≡ true

-- a term of a text: its names and numbers fit into a unit, and its variables are 0, 1, 2 and so on
pub record IsSoundTerm (t : Tree Text) : Type 0 where
  pub fits : FitsTree IsName t
  pub numbered : IsNumbered t
  pub few : length (variables t) < 2 ^ 32
