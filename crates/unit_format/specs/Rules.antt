-- The rules on facts in memory, whose names are numbers of a table of names.
use Rattle.std.specs.Prelude.{ℕ, List, [], ◌∷◌, ◌++◌, nat_eq, nat_lt, Bool, not, true, false, ◌&&◌, ◌||◌, Option, Some, None, if◌then◌else◌, map, is_some, slice_index_or}
use Rattle.std.specs.Option.{unwrap_or}
use Rattle.std.specs.Map.{lookup}
use Rattle.std.specs.List.{list_any, list_all, filter_map}
use Rattle.pl_ops.specs.Tables.{Class, prefix_class, infix_class, postfix_class, class_of, operator}
use Rattle.pl_ops.specs.Standard.{standard}
use Rattle.unit_model.specs.Facts.{what_by}
use Rattle.unit_model.specs.Encoding.{text_at}
use Rattle.unit_model.specs.Validity.{is_user, is_system, is_interface, is_for_interface, same_bool, is_barred, is_clause}
use Rattle.unit_model.specs.Views.{what_view, kind_view}
use Rattle.unit_model.specs.declared.facts.OpDecl.{OpDecl}
use Rattle.unit_model.specs.declared.facts.Need.{Need}
use Rattle.unit_model.specs.declared.facts.What.{What}
use Rattle.unit_model.specs.declared.facts.What.TheVariants.{Export, ReexportAll, Reexport, Meta, Operator, ImportAll, Import, Clause}
use Rattle.unit_model.specs.declared.facts.Entry.{Entry}
use Rattle.unit_model.specs.declared.facts.Section.{Section}
use Rattle.unit_model.specs.declared.facts.Facts.{Facts}

abbrev pub Texts : Type 0
Texts = List (List ℕ)

abbrev pub opens_interface : Section → Bool
opens_interface s = is_interface (kind_view s.kind)

-- ---- sections and entries

abbrev pub is_reserved : Texts → Section → Bool
is_reserved names s = is_user (text_at names s.module.0) || is_system (text_at names s.module.0)

abbrev pub is_first : Texts → Section → Bool
is_first names s = not (opens_interface s) && (nat_eq s.byte 0 && is_user (text_at names s.module.0))

abbrev pub begins_by : Texts → List Section → Bool
begins_by names [] = false
begins_by names (s ∷ ss) = is_first names s && list_all (λ t. not (is_reserved names t)) ss

abbrev pub has_entries_of_kind : Section → Bool
has_entries_of_kind s = list_all (λ e. same_bool (opens_interface s) (is_for_interface (what_view e.what))) s.entries

abbrev pub has_clauses : Texts → Section → Bool
has_clauses names s = list_all (λ e. is_clause (what_by (text_at names) (what_view e.what))) s.entries

-- ---- operators: which names are infix and which are postfix operators now

abbrev pub Marks : Type 0
Marks = ℕ → Bool

abbrev pub put : Marks → ℕ → Bool → Marks
put f n b m = if nat_eq n m then b else f m

abbrev pub infix_after : Marks → OpDecl → Class → Marks
infix_after infixes o prefix_class = infixes
infix_after infixes o infix_class = put infixes o.name.0 (nat_lt 0 o.priority)
infix_after infixes o postfix_class = infixes

abbrev pub postfix_after : Marks → OpDecl → Class → Marks
postfix_after postfixes o prefix_class = postfixes
postfix_after postfixes o infix_class = postfixes
postfix_after postfixes o postfix_class = put postfixes o.name.0 (nat_lt 0 o.priority)

abbrev pub clashes_by : Marks → Marks → Class → ℕ → Bool
clashes_by infixes postfixes prefix_class n = false
clashes_by infixes postfixes infix_class n = postfixes n
clashes_by infixes postfixes postfix_class n = infixes n

abbrev pub refused_by : Texts → Marks → Marks → OpDecl → Bool
refused_by names infixes postfixes o =
    nat_lt 1200 o.priority || (is_barred (text_at names o.name.0) || (nat_lt 0 o.priority && clashes_by infixes postfixes (class_of o.kind) o.name.0))

abbrev pub accepts_by : Texts → Marks → Marks → List OpDecl → Bool
accepts_by names infixes postfixes [] = true
accepts_by names infixes postfixes (o ∷ os) =
    not (refused_by names infixes postfixes o) && accepts_by names (infix_after infixes o (class_of o.kind)) (postfix_after postfixes o (class_of o.kind)) os

-- marks from a list, and marks that were put over others
abbrev pub bits : List Bool → Marks
bits bs n = slice_index_or bs n false

abbrev pub marks_in : Marks → List (ℕ × Bool) → Marks
marks_in others marks n = unwrap_or (lookup (nat_eq n) marks) (others n)

abbrev pub no_marks : Marks
no_marks n = false

abbrev pub standard_infixes : Texts → List Bool
standard_infixes names = map (λ s. is_some (operator standard infix_class s)) names

-- none is postfix at first
abbrev pub accepted_by : Texts → Marks → List OpDecl → Bool
accepted_by names standard os = accepts_by names standard no_marks os

abbrev pub op_in : Entry → Option OpDecl
op_in e = elim e.what [
  | Export i ↦ None
  | ReexportAll m ↦ None
  | Reexport m i ↦ None
  | Meta s ms ↦ None
  | Operator o ↦ Some o
  | ImportAll m ↦ None
  | Import m i ↦ None
  | Clause n h b ↦ None
]

abbrev pub interface_accepted : Texts → Marks → Section → Bool
interface_accepted names standard s = not (opens_interface s) || accepted_by names standard (filter_map op_in s.entries)

abbrev pub need_accepted : Texts → Marks → Need → Bool
need_accepted names standard n = accepted_by names standard n.ops

-- ---- modules

abbrev pub holds_id : List ℕ → ℕ → Bool
holds_id ids n = list_any (nat_eq n) ids

abbrev pub own_id : Section → Option ℕ
own_id s = if opens_interface s then Some s.module.0 else None

-- a section opens an interface of this module
abbrev pub own_holds : Section → ℕ → Bool
own_holds s n = opens_interface s && nat_eq n s.module.0

abbrev pub need_ids : List Need → List ℕ
need_ids [] = []
need_ids (n ∷ ns) = n.module.0 ∷ need_ids ns

abbrev pub needs_by : Texts → List ℕ → List ℕ → Bool
needs_by names before [] = true
needs_by names before (m ∷ ms) = not (is_user (text_at names m) || (is_system (text_at names m) || holds_id before m)) && needs_by names (m ∷ before) ms

abbrev pub known_by : Marks → What → Bool
known_by known (Export i) = true
known_by known (ReexportAll m) = known m.0
known_by known (Reexport m i) = known m.0
known_by known (Meta s ms) = true
known_by known (Operator o) = true
known_by known (ImportAll m) = known m.0
known_by known (Import m i) = known m.0
known_by known (Clause n h b) = true

abbrev pub entries_known_by : Marks → Section → Bool
entries_known_by known s = list_all (λ e. known_by known e.what) s.entries

abbrev pub section_known_by : Marks → Section → Bool
section_known_by known s = (opens_interface s || known s.module.0) && entries_known_by known s

abbrev pub all_known_by : Marks → List Section → Bool
all_known_by known [] = true
all_known_by known (s ∷ ss) = entries_known_by known s && list_all (section_known_by known) ss

abbrev pub modules_by : Texts → Facts → Bool
modules_by names f =
    needs_by names (filter_map own_id f.sections) (need_ids f.needs) && all_known_by (holds_id (filter_map own_id f.sections ++ need_ids f.needs)) f.sections

abbrev pub operators_by : Texts → Marks → Facts → Bool
operators_by names standard f = list_all (interface_accepted names standard) f.sections && list_all (need_accepted names standard) f.needs

abbrev pub rules_by : Texts → Marks → Facts → Bool
rules_by names standard f =
    (begins_by names f.sections && list_all has_entries_of_kind f.sections)
    && (list_all (has_clauses names) f.sections && (operators_by names standard f && modules_by names f))
