-- The state of preparing for which a draft in memory stands.
use Rattle.std.specs.Prelude.{◌≡◌, ℕ, ◌<◌, List, ◌++◌, length, map, Bool, true, false, ◌&&◌, Option, Some, None}
use Rattle.std.specs.List.{AllByRecursion, flat_map}
use Rattle.pl_atoms.specs.declared.names.NameId.{NameId}
use Rattle.pl_ops.specs.Tables.{Declaration, Operators, operator, same_text}
use Rattle.unit_model.specs.Facts.{OperatorOf, Need, Section, need_names, section_names, need_by, section_by}
use Rattle.unit_model.specs.Directives.{Text}
use Rattle.unit_model.specs.Encoding.{text_at}
use Rattle.unit_model.specs.Views.{need_view, section_view, kind_view, entries_view}
use Rattle.unit_model.specs.Preparing.{Interface, Opened, State, operators_known, declaration, is_interface, same_kind}
use Rattle.unit_model.specs.declared.facts.Need.{Need as CodeNeed}
use Rattle.unit_model.specs.declared.facts.Entry.{Entry as CodeEntry}
use Rattle.unit_model.specs.declared.facts.Section.{Section as CodeSection}
use Rattle.unit_model.specs.declared.facts.SectionKind.{SectionKind as CodeKind}
use Rattle.unit_model.specs.Entries.{entries_in, EntriesBelow}
use Rattle.prep_texts.specs.Looking.{extended, accepts_all}
use Rattle.prep_texts.specs.Seen.{seen, needing}
use Rattle.prep_texts.specs.Interfaces.{interfaces_view, IsIndexed, IsBelow}
use Rattle.prep_texts.specs.declared.draft.OpenSection.{OpenSection}
use Rattle.prep_texts.specs.declared.draft.Draft.{Draft}

abbrev pub needs_in : List Text → List CodeNeed → List (Need Text)
needs_in names ns = map (need_by (text_at names)) (map need_view ns)

abbrev pub sections_in : List Text → List CodeSection → List (Section Text)
sections_in names ss = map (section_by (text_at names)) (map section_view ss)

-- the entries of user, and the table outside sections
abbrev pub user_of : Option OpenSection → List CodeEntry → List CodeEntry
user_of None es = es
user_of (Some o) es = o.user

abbrev pub outside_of : Option OpenSection → List Declaration → List Declaration
outside_of None t = t
outside_of (Some o) t = o.outside

abbrev pub inside_of : List Text → Option OpenSection → List CodeEntry → List Declaration → Option Opened
inside_of names None es t = None
inside_of names (Some o) es t =
    Some (record { section = record { kind = kind_view o.kind; byte = o.byte; of = text_at names o.module.0; entries = entries_in names es }; table = t })

abbrev pub state_of : List Interface → Draft → State
state_of known d = record {
  known = known ++ interfaces_view d.own;
  own = map (λ i. i.module) d.own.all.items;
  needs = needs_in d.names d.needs;
  user = entries_in d.names (user_of d.section d.entries);
  outside = outside_of d.section d.table;
  sections = sections_in d.names d.sections.items;
  inside = inside_of d.names d.section d.entries d.table;
}

-- the names of an open section are below a number
abbrev pub OuterBelow : ℕ → Option OpenSection → Type 0
OuterBelow n None = Unit {0}
OuterBelow n (Some o) = (o.module.0 < n) × EntriesBelow n (entries_view o.user)

-- a draft's tables fit one another
pub record IsWell (d : Draft) : Type 0 where
  pub indexed : IsIndexed d.own
  pub needed : d.needed ≡ map (λ n. n.of) (needs_in d.names d.needs)
  pub needs : AllByRecursion (IsBelow (length d.names)) (flat_map need_names (map need_view d.needs))
  pub sections : AllByRecursion (IsBelow (length d.names)) (flat_map section_names (map section_view d.sections.items))
  pub entries : EntriesBelow (length d.names) (entries_view d.entries)
  pub outer : OuterBelow (length d.names) d.section

-- whether an interface is open
abbrev pub opens_interface : Option OpenSection → Bool
opens_interface None = false
opens_interface (Some o) = is_interface (kind_view o.kind)

-- whether a directive ends this section
abbrev pub closes_section : List Text → CodeKind → Option NameId → OpenSection → Bool
closes_section names k None o = false
closes_section names k (Some m) o = same_kind (kind_view k) (kind_view o.kind) && same_text (text_at names m.0) (text_at names o.module.0)

-- the operators of a module's interface, where it is known
abbrev pub modules_known : List Interface → Draft → Text → Option (List (OperatorOf Text))
modules_known known d = operators_known (known ++ interfaces_view d.own)

-- the need of a module whose interface is known is noted
pub record TakesNeed (known : List Interface) (m : Text) (byte : ℕ) (old new : Draft) : Type 0 where
  pub operators : List (OperatorOf Text)
  pub is_known : modules_known known old m ≡ Some operators
  pub noted : seen (state_of known new) ≡ needing m operators byte (seen (state_of known old))

-- the operators of a module's interface are accepted, and the table has them
pub record TakesOperators (known : List Interface) (m : Text) (old : Draft) (table : List Declaration) : Type 0 where
  pub operators : List (OperatorOf Text)
  pub is_known : modules_known known old m ≡ Some operators
  pub accepted : accepts_all operators (operator old.table) ≡ true
  pub taken : operator table ≡ extended (operator old.table) (map declaration operators)

-- the number of the fault: no interface is known, or an operator is refused
abbrev pub Refuses : Option (List (OperatorOf Text)) → Operators → ℕ → Type 0
Refuses None look n = n ≡ 11
Refuses (Some os) look n = (n ≡ 12) × (accepts_all os look ≡ false)
