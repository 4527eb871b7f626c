-- States whose tables of operators look up alike.
use Rattle.std.specs.Prelude.{◌≡◌, ℕ, List, [], ◌∷◌, ◌++◌, map, Bool, false, ◌||◌, Option, Some, None, is_some, Result, Ok, Err, if◌then◌else◌}
use Rattle.pl_ops.specs.Tables.{Operators, operator}
use Rattle.pl_ops.specs.Standard.{standard}
use Rattle.unit_model.specs.Facts.{OperatorOf, Need, What, Entry, SectionKind, interface, body, Section}
use Rattle.unit_model.specs.Directives.{Text, Directive, opens, closes}
use Rattle.unit_model.specs.Preparing.{Interface, Opened, State, Next, operators_known, holds, with_entries_in, entries_at, declaration, is_interface, is_reserved, operators_of, closes_this, Source, no_module, passing, taking}
use Rattle.prep_texts.specs.Looking.{extended, accepts_all, SayingSeen}

-- a state, with what its tables look up in place of their declarations
pub record Seen : Type 0 where
  pub known : List Interface
  pub own : List Text
  pub needs : List (Need Text)
  pub user : List (Entry Text)
  pub outside : Operators
  pub sections : List (Section Text)
  pub inside : Option (Section Text × Operators)

abbrev pub inside_seen : Option Opened → Option (Section Text × Operators)
inside_seen None = None
inside_seen (Some o) = Some (o.section, operator o.table)

abbrev pub seen : State → Seen
seen s = record { known = s.known; own = s.own; needs = s.needs; user = s.user; outside = operator s.outside; sections = s.sections; inside = inside_seen s.inside }

-- two states alike
abbrev pub Alike : State → State → Type 0
Alike s u = seen s ≡ seen u

abbrev pub NextSeen : Type 0
NextSeen = Result Seen ℕ

abbrev pub next_seen : Next → NextSeen
next_seen (Err n) = Err n
next_seen (Ok s) = Ok (seen s)

-- ---- what is seen after each part of a step

-- with these look-ups in the open section, or outside
abbrev pub looking : Operators → Seen → Seen
looking look v = elim v.inside [
  | None ↦ record v { outside = look }
  | Some p ↦ record v { inside = Some (p.0, look) }
]

-- with these entries in the open section, or in user
abbrev pub holding : List (Entry Text) → Seen → Seen
holding es v = elim v.inside [
  | None ↦ record v { user = v.user ++ es }
  | Some p ↦ record v { inside = Some (with_entries_in es p.0, p.1) }
]

-- whether the module has an interface in the text, or a need
abbrev pub is_needed : Text → Seen → Bool
is_needed m v = holds v.own m || holds (map (λ n. n.of) v.needs) m

abbrev pub needing : Text → List (OperatorOf Text) → ℕ → Seen → Seen
needing m os byte v =
    if is_needed m v then v
    else record v { needs = v.needs ++ record { byte = byte; of = m; operators = os } ∷ [] }

abbrev pub told_seen : List (Entry Text) → Operators → Seen → Seen
told_seen es look v = holding es (looking look v)

abbrev pub taken_seen : ℕ → List (What Text) → Bool → Operators → Seen → NextSeen
taken_seen byte ws b look v = if b then Ok (told_seen (entries_at byte ws) look v) else Err 12

abbrev pub passed_seen : ℕ → Text → List (What Text) → Operators → Option (List (OperatorOf Text)) → Seen → NextSeen
passed_seen byte m ws look None v = Err 11
passed_seen byte m ws look (Some os) v = Ok (told_seen (entries_at byte ws) look (needing m os byte v))

abbrev pub imported_seen : ℕ → Text → List (What Text) → Operators → Option (List (OperatorOf Text)) → Seen → NextSeen
imported_seen byte m ws look None v = Err 11
imported_seen byte m ws look (Some os) v = taken_seen byte ws (accepts_all os look) (extended look (map declaration os)) (needing m os byte v)

abbrev pub with_said_seen : SayingSeen → Source → ℕ → Seen → NextSeen
with_said_seen (Err n) source byte v = Err n
with_said_seen (Ok l) no_module byte v = Ok (told_seen (entries_at byte l.0) l.1 v)
with_said_seen (Ok l) (passing m) byte v = passed_seen byte m l.0 l.1 (operators_known v.known m) v
with_said_seen (Ok l) (taking m) byte v = imported_seen byte m l.0 l.1 (operators_known v.known m) v

-- ---- where the next term stands

abbrev pub table_seen : Seen → Operators
table_seen v = elim v.inside [ None ↦ v.outside | Some p ↦ p.1 ]

abbrev pub interface_seen : Seen → Bool
interface_seen v = elim v.inside [ None ↦ false | Some p ↦ is_interface p.0.kind ]

-- ---- what a directive takes from a module

abbrev pub imported : Text → ℕ → Option (List (OperatorOf Text)) → Seen → NextSeen
imported m byte None v = Err 11
imported m byte (Some os) v = if accepts_all os (table_seen v) then Ok (looking (extended (table_seen v) (map declaration os)) (needing m os byte v)) else Err 12

abbrev pub passed : Text → ℕ → Option (List (OperatorOf Text)) → Seen → NextSeen
passed m byte None v = Err 11
passed m byte (Some os) v = Ok (needing m os byte v)

abbrev pub sourced_seen : Source → ℕ → Seen → NextSeen
sourced_seen no_module byte v = Ok v
sourced_seen (passing m) byte v = passed m byte (operators_known v.known m) v
sourced_seen (taking m) byte v = imported m byte (operators_known v.known m) v

-- ---- sections

abbrev pub opened_section : SectionKind → Text → ℕ → Operators → Seen → Seen
opened_section k m byte look v = record v { inside = Some (record { kind = k; byte = byte; of = m; entries = [] }, look) }

abbrev pub open_interface_seen : Text → ℕ → Seen → NextSeen
open_interface_seen m byte v = if is_some (operators_known v.known m) || is_reserved m then Err 15 else Ok (opened_section interface m byte (operator standard) v)

abbrev pub open_body_seen : Text → ℕ → Option (List (OperatorOf Text)) → Seen → NextSeen
open_body_seen m byte None v = Err 11
open_body_seen m byte (Some os) v = Ok (opened_section body m byte (operator (standard ++ map declaration os)) (needing m os byte v))

abbrev pub open_named_seen : SectionKind → Option Text → ℕ → Seen → NextSeen
open_named_seen k None byte v = Err 9
open_named_seen interface (Some m) byte v = open_interface_seen m byte v
open_named_seen body (Some m) byte v = open_body_seen m byte (operators_known v.known m) v

abbrev pub opened_seen : SectionKind → Option Text → ℕ → Seen → NextSeen
opened_seen k m byte v = elim v.inside [ Some p ↦ Err 7 | None ↦ open_named_seen k m byte v ]

abbrev pub known_after_seen : Section Text → Seen → Seen
known_after_seen t v = elim t.kind [
  | body ↦ v
  | interface ↦ record v { known = v.known ++ record { of = t.of; operators = operators_of t.entries } ∷ []; own = v.own ++ t.of ∷ [] }
]

abbrev pub close_seen : Section Text → Seen → Seen
close_seen t v = known_after_seen t (record v { sections = v.sections ++ t ∷ []; inside = None })

abbrev pub closed_here : Bool → Section Text → Seen → NextSeen
closed_here b t v = if b then Ok (close_seen t v) else Err 7

abbrev pub closed_seen : SectionKind → Option Text → Seen → NextSeen
closed_seen k m v = elim v.inside [ None ↦ Err 7 | Some p ↦ closed_here (closes_this k m p.0) p.0 v ]

-- a directive that opens or ends a section
abbrev pub section_seen : Directive → ℕ → Seen → NextSeen
section_seen (opens k m) byte v = opened_seen k m byte v
section_seen (closes k m) byte v = closed_seen k m v
section_seen d byte v = Err 8
