-- What each state of preparing keeps: its facts so far keep to the rules of units, and so will the section that is open.
use Rattle.std.specs.Prelude.{◌≡◌, ◌<◌, ◌^◌, List, ◌++◌, map, true, false, not, ◌||◌, None, is_some, MatchOption}
use Rattle.std.specs.List.{AllByRecursion}
use Rattle.pl_ops.specs.Standard.{standard}
use Rattle.unit_model.specs.Facts.{Need, Entry, SectionKind, body, Section}
use Rattle.unit_model.specs.Directives.{Text}
use Rattle.unit_model.specs.Preparing.{Interface, Opened, State, operators_known, operators_of, declaration, is_reserved}
use Rattle.unit_model.specs.Validity.{IsName, FitsOperator, FitsEntry, is_interface, is_for_interface, same_bool, is_accepted, is_clause, own_modules, holds, are_needs, names_known}
use Rattle.unit_model.specs.Entries.{IsSoundNeed}

-- the modules that have an interface in the text, or are taken from elsewhere
abbrev pub modules : State → List Text
modules s = s.own ++ map (λ n. n.of) s.needs

-- an interface that is known; a good one but for the count of its operators
pub record IsSoundInterface (i : Interface) : Type 0 where
  pub name : IsName i.of
  pub unreserved : is_reserved i.of ≡ false
  pub fit : AllByRecursion (FitsOperator IsName) i.operators
  pub accepted : is_accepted i.operators ≡ true

-- a need of a module that is known
pub record IsSoundTaking (known : List Interface) (n : Need Text) : Type 0 where
  pub need : IsSoundNeed n
  pub accepted : is_accepted n.operators ≡ true
  pub is_known : is_some (operators_known known n.of) ≡ true

-- an entry of a section of this kind, where the modules are those that it may name
pub record IsSoundEntry (ms : List Text) (k : SectionKind) (e : Entry Text) : Type 0 where
  pub fits : FitsEntry IsName e
  pub place : same_bool (is_interface k) (is_for_interface e.what) ≡ true
  pub clause : is_clause e.what ≡ true
  pub named : names_known ms e.what ≡ true

-- a section of a module
pub record IsSoundPart (ms : List Text) (s : Section Text) : Type 0 where
  pub byte : s.byte < 2 ^ 32
  pub of : IsName s.of
  pub unreserved : is_reserved s.of ≡ false
  pub entries : AllByRecursion (IsSoundEntry ms s.kind) s.entries
  pub accepted : (not (is_interface s.kind) || is_accepted (operators_of s.entries)) ≡ true
  pub named : (is_interface s.kind || holds ms s.of) ≡ true

-- An open section. The table of an interface has what its entries declare, and no interface of its module is known.
pub record IsSoundOpened (known : List Interface) (ms : List Text) (o : Opened) : Type 0 where
  pub part : IsSoundPart ms o.section
  pub table : is_interface o.section.kind ≡ true → o.table ≡ standard ++ map declaration (operators_of o.section.entries)
  pub fresh : is_interface o.section.kind ≡ true → operators_known known o.section.of ≡ None

pub record IsSoundState (s : State) : Type 0 where
  pub known : AllByRecursion IsSoundInterface s.known
  pub needs : AllByRecursion (IsSoundTaking s.known) s.needs
  pub apart : are_needs s.own (map (λ n. n.of) s.needs) ≡ true
  pub own : own_modules s.sections ≡ s.own
  pub user : AllByRecursion (IsSoundEntry (modules s) body) s.user
  pub sections : AllByRecursion (IsSoundPart (modules s)) s.sections
  pub inside : MatchOption s.inside (Unit {0}) (IsSoundOpened s.known (modules s))
