-- Needs and interfaces by what they are compared by, and needs that no earlier unit meets.
use Rattle.std.specs.Prelude.{◌≡◌, ℕ, ◌<◌, List, [], ◌∷◌, length, map, not, nat_eq, Bool, ◌&&◌, if◌then◌else◌, Vec}
use Rattle.std.specs.Global.{Global}
use Rattle.std.specs.Cmp.Lexicographic.{pointwise}
use Rattle.std.specs.List.{AllByRecursion, flat_map, filter_map, list_any}
use Rattle.pl_ops.specs.Tables.{same_text}
use Rattle.indexmap.specs.IndexSet.{insert_key}
use Rattle.unit_model.specs.Facts.{OperatorOf, Need as NeedOf, Facts, operator_by}
use Rattle.unit_model.specs.Directives.{Text}
use Rattle.unit_model.specs.Encoding.{text_at, kind_byte}
use Rattle.unit_model.specs.Preparing.{Interface, is_interface}
use Rattle.unit_model.specs.Views.{ops_view, kind_view}
use Rattle.unit_model.specs.declared.facts.OpDecl.{OpDecl}
use Rattle.unit_model.specs.declared.facts.Need.{Need}
use Rattle.unit_model.specs.declared.facts.Section.{Section}
use Rattle.unit_format.specs.Rules.{op_in}
use Rattle.unit_model.specs.Known.{interfaces_of}
use Rattle.link_model.specs.Faults.{Fault as FaultOf, fault, only_if, same_operators, meets}
use Rattle.mod_faults.specs.declared.fault.Fault.{Fault}
use Rattle.mod_faults.specs.declared.needs.Mark.{Mark}

-- ---- a module and operators as one list

abbrev pub module_mark : ℕ → Mark
module_mark m = record { priority = 0; kind = 0; name = m }

abbrev pub mark : OperatorOf ℕ → Mark
mark o = record { priority = o.op.priority; kind = kind_byte o.op.kind; name = o.name }

abbrev pub stamp : ℕ → List (OperatorOf ℕ) → List Mark
stamp m os = module_mark m ∷ map mark os

abbrev pub same_mark : Mark → Mark → Bool
same_mark a b = nat_eq a.priority b.priority && (nat_eq a.kind b.kind && nat_eq a.name b.name)

abbrev pub same_stamp : List Mark → List Mark → Bool
same_stamp = pointwise same_mark

-- of operators in memory, whose names have other numbers
abbrev pub marks_by : (ℕ → ℕ) → List OpDecl → List Mark
marks_by f os = map mark (map (operator_by f) (ops_view os))

abbrev pub stamp_by : (ℕ → ℕ) → ℕ → List OpDecl → List Mark
stamp_by f m os = module_mark (f m) ∷ marks_by f os

-- the stamps that a set holds
abbrev pub stamps_in : List (Vec Mark Global) → List (List Mark)
stamps_in keys = map (λ k. k.items) keys

-- what is made of a need, and of a section, in memory
abbrev pub unmet_by : ℕ → (ℕ → ℕ) → List (List Mark) → Need → List Fault
unmet_by u f stamps n = if list_any (same_stamp (stamp_by f n.module.0 n.ops)) stamps then [] else record { number = 2; unit = u; byte = n.byte } ∷ []

abbrev pub learned : (ℕ → ℕ) → List (List Mark) → Section → List (List Mark)
learned f stamps s = if is_interface (kind_view s.kind) then insert_key same_stamp stamps (stamp_by f s.module.0 (filter_map op_in s.entries)) else stamps

-- ---- which interfaces are known

abbrev pub fits : Text → List (OperatorOf Text) → Interface → Bool
fits m os i = same_text i.of m && same_operators i.operators os

abbrev pub AreOperatorsBelow : ℕ → List (OperatorOf ℕ) → Type 0
AreOperatorsBelow n = AllByRecursion (λ o. o.name < n)

-- the stamps are those of these interfaces
abbrev pub AreStamps : List Text → List (List Mark) → List Interface → Type 0
AreStamps names stamps is = (m : ℕ) (os : List (OperatorOf ℕ)) → m < length names → AreOperatorsBelow (length names) os
    → list_any (same_stamp (stamp m os)) stamps ≡ list_any (fits (text_at names m) (map (operator_by (text_at names)) os)) is

-- ---- needs that are not met

abbrev pub unmet_in : ℕ → List (Facts Text) → List (NeedOf Text) → List FaultOf
unmet_in u before ns = flat_map (λ n. only_if (not (list_any (meets n) before)) (fault u n.byte 2)) ns

-- the number of the next unit, and the stamps of the interfaces so far
pub record Known : Type 0 where
  pub unit : ℕ
  pub stamps : List (List Mark)

pub record Knows (names : List Text) (k : Known) (before : List (Facts Text)) : Type 0 where
  pub unit : k.unit ≡ length before
  pub stamps : AreStamps names k.stamps (flat_map interfaces_of before)

abbrev pub unmets : List (Facts Text) → Facts Text → List FaultOf
unmets before f = unmet_in (length before) before f.needs
