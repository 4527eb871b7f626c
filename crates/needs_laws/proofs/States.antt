-- States of preparing that differ in what was known before the text.
use Rattle.std.proofs.Common.{◌≡◌, List, ◌++◌, true, Option, None, Ok, Err, MatchOption}
use Rattle.std.specs.List.{filter_map}
use Rattle.unit_model.specs.Preparing.{Interface, Opened, State, Next, operators_known, is_interface}
use Rattle.unit_model.specs.Known.{interface_of}
use Rattle.link_model.specs.Texts.{AllNew}
use Rattle.needs_laws.proofs.Known.{names, AreKnown}

-- the interfaces of the text so far
abbrev pub own_of : State → List Interface
own_of s = filter_map interface_of s.sections

-- what is known is what was known before and the interfaces of the text
pub record Follows (before : List Interface) (s : State) : Type 0 where
  pub known : s.known ≡ before ++ own_of s
  pub own : s.own ≡ names (own_of s)

-- an interface that is open has a module that is not known
abbrev pub IsFresh : List Interface → Option Opened → Type 0
IsFresh is o = MatchOption o (Unit {0}) (λ u. is_interface u.section.kind ≡ true → operators_known is u.section.of ≡ None)

-- the facts so far agree with interfaces that were known
pub record Fits (is : List Interface) (s : State) : Type 0 where
  pub needs : AreKnown is s.needs
  pub new : AllNew is (own_of s)
  pub fresh : IsFresh (is ++ own_of s) s.inside

-- the state where these interfaces were known before the text
abbrev pub moved : List Interface → State → State
moved is s = record s { known = is ++ own_of s }

-- A state that a step leaves. The step gives the same wherever what it leaves agrees with what was known: there it is `next`.
pub record Leaves (before : List Interface) (s after : State) (next : List Interface → Next) : Type 0 where
  pub follows : Follows before after
  pub fits : Fits before after
  pub again : (is : List Interface) → Fits is after → Fits is s × (next is ≡ Ok (moved is after))

abbrev pub Takes : List Interface → State → Next → (List Interface → Next) → Type 0
Takes before s (Err n) next = Unit {0}
Takes before s (Ok after) next = Leaves before s after next

-- a step from a state reads of what was known before what its text needs
abbrev pub ReadsNeeds : List Interface → State → (State → Next) → Type 0
ReadsNeeds before s next = Follows before s → Fits before s → Takes before s (next s) (λ is. next (moved is s))
