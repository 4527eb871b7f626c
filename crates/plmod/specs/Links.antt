-- What the commands `link` and `show` write and answer.
use Rattle.std.specs.Prelude.{ℕ, List, [], ◌++◌, length, codes, decimal, get_or, Option, Some, None}
use Rattle.std.specs.List.{flat_map}
use Rattle.text_model.specs.Writing.{name_text}
use Rattle.text_model.specs.declared.Quote.TheVariants.{Quoted as quotes}
use Rattle.unit_model.specs.Facts.{Facts}
use Rattle.unit_model.specs.Directives.{Text}
use Rattle.link_model.specs.Faults.{Fault, first_link}
use Rattle.link_model.specs.Rows.{Row, rows_of}
use Rattle.mod_linker.specs.Counting.{linked_modules, linked_procedures}
use Rattle.prep_report.specs.Lines.{fault_text, not_unit_text, linked_text}
use Rattle.plmod.specs.declared.status.Status.TheVariants.{Done, NotUnit, LinkFault}
use Rattle.plmod.specs.Outcome.{Outcome, told}
use Rattle.plmod.specs.Prepares.{AreUnits, FirstNoUnit}

abbrev pub procedure_line : Row → List ℕ
procedure_line r = name_text quotes r.of ++ codes ":" ++ name_text quotes r.ind.name ++ codes "/" ++ decimal r.ind.arity

abbrev pub row_line : Row → List ℕ
row_line r = procedure_line r ++ codes " from " ++ name_text quotes r.definer ++ codes "\n"

-- the procedures that are visible in the modules of units, each with its definer on a line
abbrev pub show_lines : List (Facts Text) → List ℕ
show_lines us = flat_map row_line (rows_of us)

-- how many modules and procedures the linked program has
abbrev pub link_lines : List (Facts Text) → List ℕ
link_lines us = linked_text (length (linked_modules us)) (length (linked_procedures us))

-- a link fault: L, its number, the name of its unit, and its byte in that
abbrev pub link_faulty : List (List ℕ) → Fault → Outcome
link_faulty names f = told (fault_text 76 f.number (get_or names f.unit []) f.byte) LinkFault

-- the first link fault, or these lines
abbrev pub linked_outcome : List ℕ → List (List ℕ) → Option Fault → Outcome
linked_outcome lines names None = told lines Done
linked_outcome lines names (Some f) = link_faulty names f

-- what comes of files under these names, which are to be units without a link fault, where such units give these lines
pub data UnitsGive (lines : List (Facts Text) → List ℕ) (names contents : List (List ℕ)) : Outcome → Type 0 where
  no_unit : (first : List ℕ) → FirstNoUnit names contents first → UnitsGive lines names contents (told (not_unit_text first) NotUnit)
  units : (us : List (Facts Text)) → AreUnits contents us → UnitsGive lines names contents (linked_outcome (lines us) names (first_link us))
