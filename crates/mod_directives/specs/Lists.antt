-- What the items of a directive's list say.
use Rattle.std.specs.Prelude.{ℕ, ◌<◌, List, [], ◌∷◌, codes, Bool, false, Option, Some, option_map, option_and_then}
use Rattle.std.specs.List.{flat_map}
use Rattle.pl_atoms.specs.declared.names.NameId.{NameId}
use Rattle.pl_ops.specs.Tables.{same_text}
use Rattle.pl_terms.specs.Trees.{Tree}
use Rattle.pl_terms.specs.declared.cell.Cell.{Cell}
use Rattle.pl_terms.specs.declared.cell.Cell.TheVariants.{Name}
use Rattle.unit_model.specs.Facts.{Indicator as IndicatorOf, What, exports, reexports_all, reexports, has_modes, imports_all, imports, Entry}
use Rattle.unit_model.specs.Directives.{Text, text_in, indicator_in, mode_term_in, indicators_in, mode_terms_in}
use Rattle.unit_model.specs.Preparing.{entries_at}
use Rattle.mod_directives.specs.declared.listing.Role.{Role}
use Rattle.mod_directives.specs.declared.listing.Role.TheVariants.{Exported, Reexported, Imported, Discontiguous}
use Rattle.mod_directives.specs.declared.listing.Item.{Item}
use Rattle.mod_directives.specs.declared.listing.Item.TheVariants.{Indicator, Modes}
use Rattle.mod_directives.specs.declared.listing.Whole.{Whole}
use Rattle.mod_directives.specs.declared.listing.Whole.TheVariants.{Reexported as all_reexported, Imported as all_imported}

module _ (f : ℕ → List ℕ) where
  abbrev pub role_said : Role → IndicatorOf Text → List (What Text)
  role_said Exported i = exports i ∷ []
  role_said (Reexported m) i = reexports (f m.0) i ∷ []
  role_said (Imported m) i = imports (f m.0) i ∷ []
  role_said Discontiguous i = []

  abbrev pub modes_said : Text × List Bool → List (What Text)
  modes_said m = has_modes m.0 m.1 ∷ []

  abbrev pub item_said : Item → Tree Text → Option (List (What Text))
  item_said (Indicator r) t = option_map (role_said r) (indicator_in t)
  item_said Modes t = option_map modes_said (mode_term_in t)

  -- the entries of one item; none where it is none
  abbrev pub item_entries : Item → ℕ → Tree Text → Option (List (Entry Text))
  item_entries item byte t = option_map (entries_at byte) (item_said item t)

  abbrev pub list_said : Item → Tree Text → Option (List (What Text))
  list_said (Indicator r) t = option_map (flat_map (role_said r)) (indicators_in t)
  list_said Modes t = option_map (flat_map modes_said) (mode_terms_in t)

  -- those of one or several
  abbrev pub list_entries : Item → ℕ → Tree Text → Option (List (Entry Text))
  list_entries item byte t = option_map (entries_at byte) (list_said item t)

-- what is said of all that a module gives
abbrev pub whole_said : Whole → Text → List (What Text)
whole_said all_reexported m = reexports_all m ∷ []
whole_said all_imported m = imports_all m ∷ []

abbrev pub whole_entries : Whole → ℕ → Tree Text → Option (List (Entry Text))
whole_entries w byte t = option_map (entries_at byte) (option_map (whole_said w) (text_in t))

-- what is said of one of these procedures of a module
abbrev pub part_said : Whole → Text → IndicatorOf Text → List (What Text)
part_said all_reexported m i = reexports m i ∷ []
part_said all_imported m i = imports m i ∷ []

abbrev pub part_entries : Whole → ℕ → Tree Text → Tree Text → Option (List (Entry Text))
part_entries w byte m is = option_map (entries_at byte) (option_and_then (λ s. option_map (flat_map (part_said w s)) (indicators_in is)) (text_in m))

abbrev pub part : Whole → NameId → Role
part all_reexported m = Reexported m
part all_imported m = Imported m

-- the names of roles are below a number
abbrev pub RoleBelow : ℕ → Role → Type 0
RoleBelow n Exported = Unit {0}
RoleBelow n (Reexported m) = m.0 < n
RoleBelow n (Imported m) = m.0 < n
RoleBelow n Discontiguous = Unit {0}

abbrev pub ItemBelow : ℕ → Item → Type 0
ItemBelow n (Indicator r) = RoleBelow n r
ItemBelow n Modes = Unit {0}

-- a list's end is the atom []
abbrev pub is_end : (ℕ → List ℕ) → Option Cell → Bool
is_end f (Some (Name s)) = same_text (f s.0) (codes "[]")
is_end f _ = false
