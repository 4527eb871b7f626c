-- What reading a directive answers.
use Rattle.std.specs.Prelude.{◌≡◌, ℕ, List, length, Bool, true, false, Option, Some, None, Result, Ok, Err, IfOk}
use Rattle.pl_terms.specs.Trees.{Tree, Trees, back}
use Rattle.pl_terms.specs.Cells.{first}
use Rattle.pl_terms.specs.Order.{texts_of}
use Rattle.pl_ops.specs.Tables.{Declaration, operator}
use Rattle.unit_model.specs.Facts.{Entry}
use Rattle.unit_model.specs.Directives.{Text, both}
use Rattle.unit_model.specs.Preparing.{Said, Saying, entries_at}
use Rattle.unit_model.specs.Views.{entries_view}
use Rattle.unit_model.specs.declared.facts.Entry.{Entry as CodeEntry}
use Rattle.unit_model.specs.Entries.{EntriesBelow, entries_in}
use Rattle.mod_directives.specs.declared.fault.DirFault.{DirFault}
use Rattle.mod_directives.specs.declared.fault.DirFault.TheVariants.{Fault}

module _ (names : List (List ℕ)) (one : Tree Text → Option (List (Entry Text))) where
  -- the first tree is an item: its entries are put last, and it is passed
  pub record IsPushed (ts us : Trees ℕ) (old new : List CodeEntry) : Type 0 where
    pub entries : both (Some (entries_in names old)) (one (texts_of names (first ts))) ≡ Some (entries_in names new)
    pub bound : EntriesBelow (length names) (entries_view new)
    pub trees : us ≡ back 1 ts

  -- the first tree is no item, and all stays
  pub record IsKept (ts us : Trees ℕ) (old new : List CodeEntry) : Type 0 where
    pub none : one (texts_of names (first ts)) ≡ None
    pub entries : new ≡ old
    pub trees : us ≡ ts

  abbrev pub Pushes : Trees ℕ → Trees ℕ → List CodeEntry → List CodeEntry → Bool → Type 0
  Pushes ts us old new true = IsPushed ts us old new
  Pushes ts us old new false = IsKept ts us old new

-- the result has these entries; P9 exactly where there are none
pub record Lists (names : List (List ℕ)) (entries : Option (List (Entry Text))) (r : Result (List CodeEntry) DirFault) : Type 0 where
  pub ok : IfOk r (λ es. entries ≡ Some (entries_in names es))
  pub bound : IfOk r (λ es. EntriesBelow (length names) (entries_view es))
  pub fault : (n : ℕ) → r ≡ Err (Fault n) → (n ≡ 9) × (entries ≡ None)

-- a saying has these entries, and the operators of this table
pub record IsSaid (names : List (List ℕ)) (byte : ℕ) (saying : Saying) (table : List Declaration) (es : List CodeEntry) : Type 0 where
  pub what : Said
  pub is : saying ≡ Ok what
  pub entries_are : entries_in names es ≡ entries_at byte what.entries
  pub operators : operator table ≡ operator what.table

-- the result is a saying, or its fault
pub record Tells (names : List (List ℕ)) (byte : ℕ) (saying : Saying) (table : List Declaration) (r : Result (List CodeEntry) DirFault) : Type 0 where
  pub ok : IfOk r (IsSaid names byte saying table)
  pub bound : IfOk r (λ es. EntriesBelow (length names) (entries_view es))
  pub fault : (n : ℕ) → r ≡ Err (Fault n) → saying ≡ Err n

-- P10 in place of entries that aren't allowed
abbrev pub placed : Bool → Result (List CodeEntry) DirFault → Result (List CodeEntry) DirFault
placed true r = r
placed false (Ok es) = Err (Fault 10)
placed false (Err e) = Err e
