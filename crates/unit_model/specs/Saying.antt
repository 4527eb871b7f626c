-- What the code that reads one term of a text promises.
use Rattle.std.specs.Prelude.{◌≡◌, ℕ, List, Bool, Ok}
use Rattle.pl_terms.specs.Trees.{Tree}
use Rattle.pl_ops.specs.Tables.{Declaration, operator}
use Rattle.unit_model.specs.Facts.{Entry}
use Rattle.unit_model.specs.Directives.{Text, opens, closes}
use Rattle.unit_model.specs.Preparing.{Said, said, entries_at, Sort, a_directive}

-- a directive that opens or ends a section
abbrev pub IsSectionDirective : Sort → Type 0
IsSectionDirective (a_directive (Ok (opens k m))) = Unit {0}
IsSectionDirective (a_directive (Ok (closes k m))) = Unit {0}
IsSectionDirective _ = ⊥

-- the term says these entries, and the operators are then those of this table
pub record Says (in_one : Bool) (t : Tree Text) (byte : ℕ) (old new : List Declaration) (entries : List (Entry Text)) : Type 0 where
  pub what : Said
  pub said_is : said in_one t old ≡ Ok what
  pub entries_are : entries ≡ entries_at byte what.entries
  pub table : operator new ≡ operator what.table
