-- Preparing a text: what each of its terms adds to what is known and to the facts so far.
use Rattle.std.specs.Prelude.{ℕ, ℤ, drop, List, [], ◌∷◌, ◌++◌, length, codes, map, nat_le, Bool, true, false, not, ◌&&◌, ◌||◌, Option, Some, None, Result, Ok, Err, if◌then◌else◌, is_some}
use Rattle.std.specs.List.{list_any}
use Rattle.pl_terms.specs.Trees.{Tree, comp, nil, cons}
use Rattle.pl_terms.specs.Occurrence.{variables}
use Rattle.pl_ops.specs.Tables.{Declaration, Operators, operator, same_text}
use Rattle.pl_ops.specs.Standard.{standard}
use Rattle.pl_ops.specs.Refusals.{refusal, refusal_of_kind, declared}
use Rattle.pl_ops.specs.declared.refusal.OpRefusal.{OpRefusal}
use Rattle.pl_ops.specs.declared.refusal.OpRefusal.TheVariants.{NotPriority}
use Rattle.unit_model.specs.Facts.{Indicator, OperatorOf, Need, What, exports, reexports_all, reexports, has_modes, declares, imports_all, imports, clause, Entry, SectionKind, interface, body, Section, Facts}
use Rattle.unit_model.specs.Directives.{Text, Directive, opens, closes, exporting, reexporting, metapredicates, operators, importing, discontiguous, Form, directive_of, parts_of, converted, head_indicator, is_grammar_rule}
use Rattle.unit_model.specs.Builtins.{is_builtin}

-- a module whose interface is known, and the operators of its interface
pub record Interface : Type 0 where
  pub of : Text
  pub operators : List (OperatorOf Text)

-- an open section, and the table of operators in it
pub record Opened : Type 0 where
  pub section : Section Text
  pub table : List Declaration

-- what stands after the terms so far
pub record State : Type 0 where
  -- the interfaces that are known, the first given first
  pub known : List Interface
  -- the modules that have an interface in this text
  pub own : List Text
  pub needs : List (Need Text)
  -- the entries outside sections, and the table there
  pub user : List (Entry Text)
  pub outside : List Declaration
  -- the sections that have ended
  pub sections : List (Section Text)
  pub inside : Option Opened

abbrev pub start : List Interface → State
start known = record { known = known; own = []; needs = []; user = []; outside = standard; sections = []; inside = None }

-- the table under which the next term is read
abbrev pub table_in : State → List Declaration
table_in s = elim s.inside [ None ↦ s.outside | Some o ↦ o.table ]

-- the section of user, and then the others
abbrev pub facts_of : State → Facts Text
facts_of s = record { needs = s.needs; sections = record { kind = body; byte = 0; of = codes "user"; entries = s.user } ∷ s.sections }

abbrev pub Next : Type 0
Next = Result State ℕ

-- ---- what is known

-- the operators of a module's interface, where it is known
abbrev pub operators_known : List Interface → Text → Option (List (OperatorOf Text))
operators_known [] m = None
operators_known (i ∷ is) m = if same_text i.of m then Some i.operators else operators_known is m

abbrev pub holds : List Text → Text → Bool
holds ms m = list_any (same_text m) ms

-- a module that this text takes from elsewhere, with its operators, at its first directive
abbrev pub with_need : Text → List (OperatorOf Text) → ℕ → State → State
with_need m os byte s =
    if holds s.own m || holds (map (λ n. n.of) s.needs) m then s
    else record s { needs = s.needs ++ record { byte = byte; of = m; operators = os } ∷ [] }

-- ---- entries and operators

abbrev pub in_section : (Section Text → Section Text) → Opened → Opened
in_section f o = record { section = f o.section; table = o.table }

abbrev pub with_entries_in : List (Entry Text) → Section Text → Section Text
with_entries_in es t = record { kind = t.kind; byte = t.byte; of = t.of; entries = t.entries ++ es }

-- entries of the open section, or of user
abbrev pub with_entries : List (Entry Text) → State → State
with_entries es s = elim s.inside [
  | None ↦ record s { user = s.user ++ es }
  | Some o ↦ record s { inside = Some (in_section (with_entries_in es) o) }
]

abbrev pub entries_at : ℕ → List (What Text) → List (Entry Text)
entries_at byte = map (λ w. record { byte = byte; what = w })

abbrev pub with_table : List Declaration → State → State
with_table t s = elim s.inside [
  | None ↦ record s { outside = t }
  | Some o ↦ record s { inside = Some (record { section = o.section; table = t }) }
]

-- a table with what is declared, and what follows; none where it is refused
abbrev pub unless_refused : Option OpRefusal → List Declaration → (List Declaration → Option (List Declaration)) → Option (List Declaration)
unless_refused None t next = next t
unless_refused (Some cause) t next = None

-- a table with operators of these names; none where one of them is refused
abbrev pub with_names : ℤ → Text → List Text → List Declaration → Option (List Declaration)
with_names p k [] t = Some t
with_names p k (n ∷ ns) t = unless_refused (refusal (operator t) p k n) (t ++ declared p k n) (with_names p k ns)

-- what the names of an operator directive add to a table
abbrev pub added : List Declaration → List Declaration → List Declaration
added old new = drop (length old) new

abbrev pub operator_of : Declaration → OperatorOf Text
operator_of d = record { op = d.op; name = d.name }

abbrev pub declaration : OperatorOf Text → Declaration
declaration o = record { op = o.op; name = o.name }

abbrev pub refusal_of_operator : Operators → OperatorOf Text → Option OpRefusal
refusal_of_operator look o =
    if nat_le o.op.priority 1200 then refusal_of_kind look o.op.priority (Some o.op.kind) o.name else Some NotPriority

-- a table with the operators of an interface, in their order; none where one of them is refused
abbrev pub with_operators : List (OperatorOf Text) → List Declaration → Option (List Declaration)
with_operators [] t = Some t
with_operators (o ∷ os) t = unless_refused (refusal_of_operator (operator t) o) (t ++ declaration o ∷ []) (with_operators os)

-- ---- places

abbrev pub is_interface : SectionKind → Bool
is_interface interface = true
is_interface body = false

-- whether an interface is open
abbrev pub in_interface : State → Bool
in_interface s = elim s.inside [ None ↦ false | Some o ↦ is_interface o.section.kind ]

-- ---- sections

abbrev pub open_section : SectionKind → Text → ℕ → List Declaration → State → State
open_section k m byte t s =
    record s { inside = Some (record { section = record { kind = k; byte = byte; of = m; entries = [] }; table = t }) }

abbrev pub is_reserved : Text → Bool
is_reserved m = same_text m (codes "user") || same_text m (codes "system")

-- an interface of a module that has none yet
abbrev pub open_interface : Text → ℕ → State → Next
open_interface m byte s =
    if is_some (operators_known s.known m) || is_reserved m then Err 15
    else Ok (open_section interface m byte standard s)

-- a body starts with the operators of its module's interface
abbrev pub open_body : Text → ℕ → State → Next
open_body m byte s = elim (operators_known s.known m) [
  | None ↦ Err 11
  | Some os ↦ Ok (open_section body m byte (standard ++ map declaration os) (with_need m os byte s))
]

abbrev pub open_named : SectionKind → Option Text → ℕ → State → Next
open_named k None byte s = Err 9
open_named interface (Some m) byte s = open_interface m byte s
open_named body (Some m) byte s = open_body m byte s

abbrev pub opened : SectionKind → Option Text → ℕ → State → Next
opened k m byte s = elim s.inside [ Some o ↦ Err 7 | None ↦ open_named k m byte s ]

abbrev pub same_kind : SectionKind → SectionKind → Bool
same_kind interface interface = true
same_kind body body = true
same_kind _ _ = false

abbrev pub operator_in : What Text → List (OperatorOf Text)
operator_in (declares o) = o ∷ []
operator_in _ = []

abbrev pub operators_of : List (Entry Text) → List (OperatorOf Text)
operators_of [] = []
operators_of (e ∷ es) = operator_in e.what ++ operators_of es

-- an interface is known from its end on
abbrev pub known_after : Section Text → State → State
known_after t s = elim t.kind [
  | body ↦ s
  | interface ↦ record s { known = s.known ++ record { of = t.of; operators = operators_of t.entries } ∷ []; own = s.own ++ t.of ∷ [] }
]

abbrev pub close_section : Section Text → State → State
close_section t s = known_after t (record s { sections = s.sections ++ t ∷ []; inside = None })

abbrev pub closes_this : SectionKind → Option Text → Section Text → Bool
closes_this k None t = false
closes_this k (Some m) t = same_kind k t.kind && same_text m t.of

abbrev pub closed : SectionKind → Option Text → State → Next
closed k m s = elim s.inside [
  | None ↦ Err 7
  | Some o ↦ if closes_this k m o.section then Ok (close_section o.section s) else Err 7
]

-- ---- what a term says by itself

-- its entries, and the table of operators after it
pub record Said : Type 0 where
  pub entries : List (What Text)
  pub table : List Declaration

-- or the number of its fault
abbrev pub Saying : Type 0
Saying = Result Said ℕ

abbrev pub says : List (What Text) → List Declaration → Saying
says ws t = Ok (record { entries = ws; table = t })

abbrev pub only_where : Bool → Saying → Saying
only_where b saying = if b then saying else Err 10

abbrev pub reexport_entries : Text → Option (List (Indicator Text)) → List (What Text)
reexport_entries m None = reexports_all m ∷ []
reexport_entries m (Some is) = map (reexports m) is

abbrev pub import_entries : Text → Option (List (Indicator Text)) → List (What Text)
import_entries m None = imports_all m ∷ []
import_entries m (Some is) = map (imports m) is

-- the operators that an interface declares are among its entries
abbrev pub operator_entries : Bool → List (OperatorOf Text) → List (What Text)
operator_entries true os = map declares os
operator_entries false os = []

abbrev pub operators_said : Bool → ℤ → Text → List Text → List Declaration → Saying
operators_said in_one p k ns t = elim (with_names p k ns t) [
  | None ↦ Err 12
  | Some u ↦ says (operator_entries in_one (map operator_of (added t u))) u
]

-- a directive in an interface, or outside interfaces; 10 where it may not stand there
abbrev pub directive_said : Bool → Directive → List Declaration → Saying
directive_said in_one (opens k m) t = says [] t
directive_said in_one (closes k m) t = says [] t
directive_said in_one (exporting is) t = only_where in_one (says (map exports is) t)
directive_said in_one (reexporting m is) t = only_where in_one (says (reexport_entries m is) t)
directive_said in_one (metapredicates ms) t = only_where in_one (says (map (λ m. has_modes m.0 m.1) ms) t)
directive_said in_one (operators p k ns) t = operators_said in_one p k ns t
directive_said in_one (importing m is) t = only_where (not in_one) (says (import_entries m is) t)
directive_said in_one discontiguous t = only_where (not in_one) (says [] t)

abbrev pub form_said : Bool → Form → List Declaration → Saying
form_said in_one (Err n) t = Err n
form_said in_one (Ok d) t = directive_said in_one d t

-- a clause with its number of variables; 13 where its head or body can't be one, 14 where it is for a built-in procedure
abbrev pub clause_in : Tree Text → Result (What Text) ℕ
clause_in t =
    let parts = parts_of t in
    elim (head_indicator parts.head) [
      | None ↦ Err 13
      | Some i ↦ elim (converted parts.body) [
        | None ↦ Err 13
        | Some b ↦ if is_grammar_rule t || is_builtin i.name i.arity then Err 14 else Ok (clause (length (variables t)) parts.head b)
      ]
    ]

abbrev pub with_clause : Result (What Text) ℕ → List Declaration → Saying
with_clause (Err n) t = Err n
with_clause (Ok w) t = says (w ∷ []) t

abbrev pub clause_said : Bool → Tree Text → List Declaration → Saying
clause_said in_one u t = if in_one then Err 16 else with_clause (clause_in u) t

-- a term that is a directive, one that is a query, or a clause
pub data Sort : Type 0 where
  a_directive : Form → Sort
  a_query : Sort
  a_clause : Sort

abbrev pub unary_sort : Text → Tree Text → Sort
unary_sort f d = if same_text f (codes ":-") then a_directive (directive_of d) else if same_text f (codes "?-") then a_query else a_clause

abbrev pub sort_of : Tree Text → Sort
sort_of (comp f (cons d nil)) = unary_sort f d
sort_of t = a_clause

abbrev pub sort_said : Bool → Sort → Tree Text → List Declaration → Saying
sort_said in_one (a_directive d) u t = form_said in_one d t
sort_said in_one a_query u t = Err 8
sort_said in_one a_clause u t = clause_said in_one u t

-- a term in an interface, or outside interfaces, under a table
abbrev pub said : Bool → Tree Text → List Declaration → Saying
said in_one u t = sort_said in_one (sort_of u) u t

-- ---- what it says where other modules are known

-- the module that a directive takes from: passed on, or with its operators
pub data Source : Type 0 where
  no_module : Source
  passing : Text → Source
  taking : Text → Source

abbrev pub source_of_directive : Directive → Source
source_of_directive (reexporting m is) = passing m
source_of_directive (importing m is) = taking m
source_of_directive _ = no_module

abbrev pub source_of_form : Form → Source
source_of_form (Err n) = no_module
source_of_form (Ok d) = source_of_directive d

abbrev pub source_of : Sort → Source
source_of (a_directive d) = source_of_form d
source_of _ = no_module

abbrev pub told : ℕ → List (What Text) → List Declaration → State → State
told byte ws t s = with_entries (entries_at byte ws) (with_table t s)

-- an import brings the operators of the interface
abbrev pub taken : ℕ → List (What Text) → Option (List Declaration) → State → Next
taken byte ws None s = Err 12
taken byte ws (Some t) s = Ok (told byte ws t s)

abbrev pub sourced : Source → Said → ℕ → State → Next
sourced no_module said byte s = Ok (told byte said.entries said.table s)
sourced (passing m) said byte s = elim (operators_known s.known m) [
  | None ↦ Err 11
  | Some os ↦ Ok (told byte said.entries said.table (with_need m os byte s))
]
sourced (taking m) said byte s = elim (operators_known s.known m) [
  | None ↦ Err 11
  | Some os ↦ taken byte said.entries (with_operators os said.table) (with_need m os byte s)
]

abbrev pub with_said : Saying → Source → ℕ → State → Next
with_said (Err n) source byte s = Err n
with_said (Ok l) source byte s = sourced source l byte s

-- ---- terms

abbrev pub directive_step : Directive → Sort → Tree Text → ℕ → State → Next
directive_step (opens k m) sort t byte s = opened k m byte s
directive_step (closes k m) sort t byte s = closed k m s
directive_step d sort t byte s = with_said (sort_said (in_interface s) sort t (table_in s)) (source_of sort) byte s

abbrev pub sort_step : Sort → Tree Text → ℕ → State → Next
sort_step (a_directive (Ok d)) t byte s = directive_step d (a_directive (Ok d)) t byte s
sort_step sort t byte s = with_said (sort_said (in_interface s) sort t (table_in s)) (source_of sort) byte s

-- what a term of a text adds, or the least number of its faults
abbrev pub step : Tree Text → ℕ → State → Next
step t byte s = sort_step (sort_of t) t byte s
