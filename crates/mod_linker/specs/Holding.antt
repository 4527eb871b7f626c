-- Programs that hold what the entries of units say.
use Rattle.std.specs.Prelude.{◌≡◌, ℕ, ◌<◌, List, [], length, map, codes, false, ◌||◌}
use Rattle.std.specs.List.{AllByRecursion}
use Rattle.pl_atoms.specs.Names.{same_text}
use Rattle.unit_model.specs.Facts.{Facts, what_names}
use Rattle.unit_model.specs.Directives.{Text}
use Rattle.unit_model.specs.Encoding.{text_at}
use Rattle.link_model.specs.Seeing.{exists}
use Rattle.program_model.specs.Saying.{Said, said_by, said}
use Rattle.mod_visible.specs.Placing.{AllBelow}
use Rattle.pl_store.specs.Linked.{Linked, is_system, is_module}
use Rattle.mod_linker.specs.declared.key.Key.{Key}
use Rattle.mod_linker.specs.Keys.{AreKnown}
use Rattle.mod_linker.specs.Entering.{Enters}
use Rattle.mod_linker.specs.Counting.{linked_modules, linked_procedures}
use Rattle.mod_linker.specs.Linking.{is_among}

-- the names of an entry are below a number
abbrev pub SaidBelow : ℕ → Said ℕ → Type 0
SaidBelow n x = (x.of < n) × AllBelow n (what_names x.what)

-- what the units say, by the numbers of their names
pub record AreSaids (us : List (Facts Text)) (names : List Text) (xs : List (Said ℕ)) : Type 0 where
  pub texts : map (said_by (text_at names)) xs ≡ said us
  pub below : AllByRecursion (SaidBelow (length names)) xs

-- over this table, the program has the modules of the units, and the clauses and modes that they say
pub record HoldsEntries (us : List (Facts Text)) (names : List Text) (xs : List (Said ℕ)) (l : Linked) : Type 0 where
  pub table : l.names ≡ names
  pub modules : (m : ℕ) → m < length names → exists us (text_at names m) ≡ (is_system names m || is_module l m)
  pub others : (m : Text) → is_among names m ≡ false → exists us m ≡ same_text m (codes "system")
  pub module_count : length l.modules ≡ length (linked_modules us)
  pub procedure_count : length l.procedures ≡ length (linked_procedures us)
  pub enters : Enters xs xs l

-- it does, and its procedures are known, and nothing is visible yet
pub record HasEntries (us : List (Facts Text)) (names : List Text) (l : Linked) (numbers : List (Key × ℕ)) : Type 0 where
  pub entries : List (Said ℕ)
  pub saids : AreSaids us names entries
  pub holds : HoldsEntries us names entries l
  pub rows : l.rows ≡ []
  pub known : AreKnown l numbers
