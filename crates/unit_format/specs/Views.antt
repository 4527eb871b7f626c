-- What the results of the code stand for.
use Rattle.std.specs.Prelude.{◌≡◌, ℕ, List, Option, Some, None, Result, Ok, Err}
use Rattle.unit_model.specs.Facts.{Facts as FactsOf}
use Rattle.unit_model.specs.Encoding.{facts_in}
use Rattle.unit_model.specs.Views.{facts_view}
use Rattle.unit_model.specs.declared.facts.Facts.{Facts}
use Rattle.unit_format.specs.Reading.{Raw}
use Rattle.unit_format.specs.declared.unit.Unit.{Unit as ReadUnit}
use Rattle.unit_format.specs.declared.fault.UnitFault.{UnitFault}
use Rattle.unit_format.specs.declared.fault.UnitFault.TheVariants.{NotUnit, NoMemory}

-- names and facts by number
abbrev pub raw_view : List (List ℕ) × Facts → Raw
raw_view x = record { names = x.0; facts = facts_view x.1 }

-- the facts of a unit
abbrev pub unit_facts : ReadUnit → FactsOf (List ℕ)
unit_facts u = facts_in u.names (facts_view u.facts)

-- what a function returned, seen by view, is what reading gives, unless memory ran out
abbrev pub Fails : {Y : Type 0} → UnitFault → Option Y → Type 0
Fails NotUnit read = read ≡ None
Fails NoMemory read = Unit {0}

abbrev pub Gives : {X Y : Type 0} → (X → Y) → Result X UnitFault → Option Y → Type 0
Gives view (Ok x) read = read ≡ Some (view x)
Gives view (Err e) read = Fails e read
