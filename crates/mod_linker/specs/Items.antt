-- Entries in memory, and what they say.
use Rattle.std.specs.Prelude.{◌≡◌, ℕ, ◌<◌, ◌^◌, List, length, map, slice_index, true}
use Rattle.std.specs.List.{AllByRecursion, flat_map}
use Rattle.unit_model.specs.Facts.{What as WhatOf, clause, what_names, section_by, what_by}
use Rattle.unit_model.specs.Directives.{Text}
use Rattle.unit_model.specs.Encoding.{text_at}
use Rattle.unit_model.specs.Validity.{is_clause, FitsEntry}
use Rattle.unit_model.specs.Views.{entry_view, section_view, what_view}
use Rattle.unit_model.specs.declared.facts.Entry.{Entry}
use Rattle.unit_model.specs.declared.facts.Section.{Section}
use Rattle.unit_format.specs.Spelling.{IsPlace}
use Rattle.unit_format.specs.Uses.{what_uses, entry_uses}
use Rattle.mod_visible.specs.Placing.{AllBelow, ModesFit}
use Rattle.program_model.specs.Saying.{Said, said_of, said_in}
use Rattle.mod_linker.specs.declared.items.Item.{Item}

abbrev pub item_view : Item → Said ℕ
item_view x = said_of x.home.0 (what_by (slice_index x.remap.now) (what_view x.what.now))

abbrev pub items_view : List Item → List (Said ℕ)
items_view = map item_view

-- ---- what sections in memory say, whose names are numbers of their unit

abbrev pub saids_of : List ℕ → List Section → List (Said ℕ)
saids_of numbers ss = flat_map said_in (map (section_by (slice_index numbers)) (map section_view ss))

-- an entry of a unit with these names
pub record IsEntryOf (from : List Text) (e : Entry) : Type 0 where
  pub uses : AllBelow (length from) (entry_uses e)
  pub fits : FitsEntry IsPlace (entry_view e)
  pub rules : is_clause (what_by (text_at from) (what_view e.what)) ≡ true

pub record IsSectionOf (from : List Text) (s : Section) : Type 0 where
  pub of : s.module.0 < length from
  pub entries : AllByRecursion (IsEntryOf from) s.entries

-- ---- entries over the table of all names

abbrev pub IsNarrow : WhatOf ℕ → Type 0
IsNarrow (clause n h b) = n < 2 ^ 32
IsNarrow _ = Unit {0}

pub record IsItem (names : List Text) (x : Item) : Type 0 where
  pub uses : AllBelow (length x.remap.now) (what_uses x.what.now)
  pub modes : ModesFit x.what.now
  pub home : x.home.0 < length names
  pub below : AllBelow (length names) (what_names (item_view x).what)
  pub rules : is_clause (what_by (text_at names) (item_view x).what) ≡ true
  pub narrow : IsNarrow (item_view x).what

abbrev pub AreItems : List Text → List Item → Type 0
AreItems names = AllByRecursion (IsItem names)
