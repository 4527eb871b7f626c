-- All texts together: the first preparation fault, or else the first link fault, or else the program's facts.
use Rattle.std.specs.Prelude.{◌≡◌, ℕ, List, [], ◌∷◌, ◌++◌, length, Option, Some, None}
use Rattle.std.specs.List.{AllByRecursion, flat_map}
use Rattle.unit_model.specs.Facts.{Facts}
use Rattle.unit_model.specs.Directives.{Text}
use Rattle.unit_model.specs.Preparing.{Interface, operators_known}
use Rattle.unit_model.specs.Prepared.{Prepared, FirstFault}
use Rattle.unit_model.specs.Known.{interfaces_of}
use Rattle.link_model.specs.Faults.{Fault, first_link}

-- the interfaces of units, the first given first
abbrev pub known : List (Facts Text) → List Interface
known = flat_map interfaces_of

pub data Whole : Type 0 where
  -- the fault's number, that of its text, and its byte
  prep_fault : ℕ → ℕ → ℕ → Whole
  link_fault : Fault → Whole
  program : List (Facts Text) → Whole

abbrev pub linked : List (Facts Text) → Option Fault → Whole
linked us None = program us
linked us (Some f) = link_fault f

-- what the texts are together with units that were prepared before them
pub data WholeFrom : List (Facts Text) → List Text → Whole → Type 0 where
  all_prepared : (us : List (Facts Text)) → WholeFrom us [] (linked us (first_link us))
  faulty : (us : List (Facts Text)) (t : Text) (ts : List Text) (n byte : ℕ) → FirstFault (known us) t n byte
      → WholeFrom us (t ∷ ts) (prep_fault n (length us) byte)
  one_more : (us : List (Facts Text)) (t : Text) (ts : List Text) (f : Facts Text) (w : Whole) → Prepared (known us) t f
      → WholeFrom (us ++ f ∷ []) ts w → WholeFrom us (t ∷ ts) w

abbrev pub WholeIs : List Text → Whole → Type 0
WholeIs = WholeFrom []

-- ---- what a unit may be prepared against

-- none of these modules is known before it
abbrev pub AllNew : List Interface → List Interface → Type 0
AllNew before [] = Unit {0}
AllNew before (i ∷ is) = (operators_known before i.of ≡ None) × AllNew (before ++ i ∷ []) is

-- each need is known with its operators, and no interface is known
pub record Agrees (before : List Interface) (f : Facts Text) : Type 0 where
  pub needs : AllByRecursion (λ n. operators_known before n.of ≡ Some n.operators) f.needs
  pub interfaces : AllNew before (interfaces_of f)

abbrev pub AllAgree : List (Facts Text) → List (Facts Text) → Type 0
AllAgree before [] = Unit {0}
AllAgree before (f ∷ fs) = Agrees (known before) f × AllAgree (before ++ f ∷ []) fs
