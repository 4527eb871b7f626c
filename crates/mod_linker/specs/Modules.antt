-- Programs that get modules.
use Rattle.std.specs.Prelude.{◌≡◌, ℕ, ◌<◌, List, [], ◌∷◌, length, map, fold, codes, not, ◌&&◌, ◌||◌, if◌then◌else◌}
use Rattle.std.specs.List.{AllByRecursion, list_any}
use Rattle.pl_atoms.specs.Names.{same_text, AreDistinct}
use Rattle.unit_model.specs.Facts.{Facts}
use Rattle.unit_model.specs.Directives.{Text}
use Rattle.unit_model.specs.Encoding.{text_at}
use Rattle.unit_model.specs.declared.facts.Section.{Section}
use Rattle.unit_model.specs.declared.facts.SectionKind.{SectionKind}
use Rattle.unit_model.specs.declared.facts.SectionKind.TheVariants.{Interface, Body}
use Rattle.unit_model.specs.Known.{interfaces_of}
use Rattle.pl_store.specs.Linked.{Linked, is_system, is_module}
use Rattle.mod_linker.specs.Counting.{with_one}

-- the modules whose interfaces are in a unit
abbrev pub module_texts : Facts Text → List Text
module_texts f = map (λ i. i.of) (interfaces_of f)

-- the module of a section that is an interface
abbrev pub if_interface : SectionKind → Text → List Text
if_interface Interface t = t ∷ []
if_interface Body t = []

abbrev pub section_texts : (ℕ → Text) → Section → List Text
section_texts f s = if_interface s.kind (f s.module.0)

-- the modules of a program are in its table, under these names
pub record AreModules (l : Linked) (ts : List Text) : Type 0 where
  pub below : AllByRecursion (λ m. m < length l.names) l.modules
  pub texts : map (text_at l.names) l.modules ≡ ts

-- with this module, unless it is there; system is none
abbrev pub with_module_text : List Text → Text → List Text
with_module_text ms t = if same_text t (codes "system") then ms else with_one same_text ms t

-- the program has got modules of these names, but for system; all else is the same
pub record AddsModules (texts : List Text) (l m : Linked) : Type 0 where
  pub names : m.names ≡ l.names
  pub procedures : m.procedures ≡ l.procedures
  pub clauses : m.clauses ≡ l.clauses
  pub rows : m.rows ≡ l.rows
  pub modules : AreDistinct l.names → (n : ℕ) → n < length l.names
      → is_module m n ≡ (is_module l n || (not (is_system l.names n) && list_any (same_text (text_at l.names n)) texts))
  pub named : AreDistinct l.names → (before : List Text) → AreModules l before → AreModules m (fold with_module_text before texts)
