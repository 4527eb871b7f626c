-- What the parts of the commands `link` and `show` give.
use Rattle.std.specs.Prelude.{ℕ, ◌<◌, List, length, map, take, get_or, []}
use Rattle.unit_model.specs.Facts.{Facts}
use Rattle.unit_model.specs.Directives.{Text}
use Rattle.unit_model.specs.Validity.{IsUnit}
use Rattle.unit_format.specs.Views.{unit_facts}
use Rattle.plmod.specs.declared.link.Asked.{Asked}
use Rattle.plmod.specs.declared.link.Asked.TheVariants.{Rows, Counts}
use Rattle.plmod.specs.declared.link.Decoded.{Decoded}
use Rattle.plmod.specs.declared.link.Decoded.TheVariants.{NoUnit, All}
use Rattle.plmod.specs.Words.{Order, Link, Show}
use Rattle.plmod.specs.Prepares.{AreUnits}
use Rattle.plmod.specs.Links.{show_lines, link_lines}

abbrev pub asked_of : Asked → List (List ℕ) → Order
asked_of Rows names = Show names
asked_of Counts names = Link names

-- what units without a link fault give
abbrev pub lines_of : Asked → List (Facts Text) → List ℕ
lines_of Rows = show_lines
lines_of Counts = link_lines

-- the units that these files are, or the place of the first that is none
abbrev pub AreDecoded : List (List ℕ) → Decoded → Type 0
AreDecoded contents (NoUnit place) = (place < length contents) × ((fs : List (Facts Text)) × AreUnits (take place contents) fs) × ((f : Facts Text) → IsUnit f (get_or contents place []) → ⊥)
AreDecoded contents (All units) = AreUnits contents (map unit_facts units.items)
