-- Units that link.
use Rattle.std.specs.Prelude.{◌≡◌, List, [], length, codes, Bool, false, ◌&&◌, Option, None, Some}
use Rattle.std.specs.List.{list_any}
use Rattle.pl_atoms.specs.Names.{same_text, AreDistinct, IsFront}
use Rattle.unit_model.specs.Facts.{Indicator, Facts}
use Rattle.unit_model.specs.Directives.{Text}
use Rattle.goal_model.specs.Program.{Program}
use Rattle.link_model.specs.Faults.{Fault, fault}
use Rattle.naming_laws.specs.SameRun.{SaysSame}
use Rattle.pl_store.specs.Linked.{Linked, with_names}
use Rattle.pl_store.specs.Facts.{IsLinked}
use Rattle.pl_store.specs.Runs.{program_of}
use Rattle.program_model.specs.Linking.{program_of_facts}
use Rattle.mod_linker.specs.Counting.{linked_modules, linked_procedures}
use Rattle.mod_linker.specs.declared.fault.LinkFault.{LinkFault}
use Rattle.mod_linker.specs.declared.fault.LinkFault.TheVariants.{Fault as LinkFaultOf, NoMemory}

-- a text is one of these
abbrev pub is_among : List Text → Text → Bool
is_among names t = list_any (same_text t) names

-- a module and the name of a procedure both are
abbrev pub are_among : List Text → Text → Indicator Text → Bool
are_among names m i = is_among names m && is_among names i.name

-- a program over texts says nothing of other texts than these, but that system exists
pub record SaysNothingElse (names : List Text) (q : Program Text) : Type 0 where
  pub exists : (m : Text) → is_among names m ≡ false → q.exists m ≡ same_text m (codes "system")
  pub visible : (m : Text) (i : Indicator Text) → are_among names m i ≡ false → q.visible m i ≡ None
  pub modes : (d : Text) (i : Indicator Text) → are_among names d i ≡ false → q.modes d i ≡ None
  pub clauses : (d : Text) (i : Indicator Text) → are_among names d i ≡ false → q.clauses d i ≡ []

-- The program says what the units say, and the units say nothing of other names than the program's.
-- Its modules and its procedures are as many as those of the units.
pub record IsLinkOf (us : List (Facts Text)) (l : Linked) : Type 0 where
  pub says_same : SaysSame l.names (program_of l) (program_of_facts us)
  pub apart : SaysNothingElse l.names (program_of_facts us)
  pub modules : length l.modules ≡ length (linked_modules us)
  pub procedures : length l.procedures ≡ length (linked_procedures us)

-- a program says the same under a table that has more names
abbrev pub SaysSameFurther : Type 0
SaysSameFurther = (l : Linked) (names : List Text) (q : Program Text) → IsLinked l → IsFront l.names names → AreDistinct names
    → SaysSame l.names (program_of l) q → SaysNothingElse l.names q → SaysSame names (program_of (with_names l names)) q

-- the fault is the first one, unless memory ran out
abbrev pub IsFirst : Option Fault → LinkFault → Type 0
IsFirst first (LinkFaultOf n u b) = first ≡ Some (fault u b n)
IsFirst first NoMemory = Unit {0}
