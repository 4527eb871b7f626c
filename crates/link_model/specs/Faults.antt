-- Link faults, and the first of them.
use Rattle.std.specs.Prelude.{ℕ, suc, List, [], ◌∷◌, ◌++◌, length, map, filter, nat_eq, nat_lt, Bool, not, true, false, ◌&&◌, ◌||◌, Option, Some, None, if◌then◌else◌}
use Rattle.std.specs.List.{flat_map, list_any}
use Rattle.std.specs.Ordering.{nat_cmp, ordering_then, is_lt}
use Rattle.std.specs.declared.cmp.Ordering.{Ordering}
use Rattle.pl_ops.specs.Tables.{same_text}
use Rattle.unit_model.specs.Facts.{OperatorOf, Need, Section, Facts}
use Rattle.unit_model.specs.Directives.{Text}
use Rattle.unit_model.specs.Encoding.{kind_byte}
use Rattle.unit_model.specs.Preparing.{is_interface}
use Rattle.unit_model.specs.Known.{interfaces_of}
use Rattle.link_model.specs.Places.{same_ind, is_built_in, defining, exporting, reexporting, moding, importing, Placed, places_of, steps}
use Rattle.link_model.specs.Giving.{is_defining, defines, gives_some}
use Rattle.link_model.specs.Seeing.{Sort, seeing, giving, Cause, causes}

pub record Fault : Type 0 where
  pub unit : ℕ
  pub byte : ℕ
  pub number : ℕ

abbrev pub fault : ℕ → ℕ → ℕ → Fault
fault u b n = record { unit = u; byte = b; number = n }

abbrev pub only_if : {A : Type 0} → Bool → A → List A
only_if b x = if b then x ∷ [] else []

-- ---- needs and interfaces

abbrev pub same_operator : OperatorOf Text → OperatorOf Text → Bool
same_operator o p = nat_eq o.op.priority p.op.priority && (nat_eq (kind_byte o.op.kind) (kind_byte p.op.kind) && same_text o.name p.name)

abbrev pub same_operators : List (OperatorOf Text) → List (OperatorOf Text) → Bool
same_operators [] [] = true
same_operators [] (p ∷ ps) = false
same_operators (o ∷ os) [] = false
same_operators (o ∷ os) (p ∷ ps) = same_operator o p && same_operators os ps

-- a unit has an interface of the needed module with exactly these operators
abbrev pub meets : Need Text → Facts Text → Bool
meets n f = list_any (λ i. same_text i.of n.of && same_operators i.operators n.operators) (interfaces_of f)

-- 2: a need that no earlier unit meets
abbrev pub unmet : List (Facts Text) → List Fault
unmet us = flat_map (λ x. flat_map (λ n. only_if (not (list_any (meets n) x.0)) (fault (length x.0) n.byte 2)) x.1.needs) (steps [] us)

-- an interface with its place
pub record PlacedInterface : Type 0 where
  pub unit : ℕ
  pub byte : ℕ
  pub of : Text

abbrev pub interfaces_in : ℕ → List (Section Text) → List PlacedInterface
interfaces_in u ss = map (λ s. record { unit = u; byte = s.byte; of = s.of }) (filter (λ s. is_interface s.kind) ss)

abbrev pub interfaces_from : ℕ → List (Facts Text) → List PlacedInterface
interfaces_from u [] = []
interfaces_from u (f ∷ fs) = interfaces_in u f.sections ++ interfaces_from (suc u) fs

-- 3: an interface of a module that has one earlier
abbrev pub repeated : List (Facts Text) → List Fault
repeated us = flat_map (λ x. only_if (list_any (λ i. same_text i.of x.1.of) x.0) (fault x.1.unit x.1.byte 3)) (steps [] (interfaces_from 0 us))

-- ---- what isn't there

-- 4, 5 and 6: exported or with modes but not defined, and imported or re-exported but not given
abbrev pub missing : List (Placed Text) → Placed Text → List Fault
missing ps p = elim p.role [
  | exporting i ↦ only_if (not (defines ps p.of i)) (fault p.unit p.byte 4)
  | moding i ↦ only_if (not (defines ps p.of i)) (fault p.unit p.byte 5)
  | reexporting n i ↦ only_if (not (gives_some ps n i)) (fault p.unit p.byte 6)
  | importing n i ↦ only_if (not (gives_some ps n i)) (fault p.unit p.byte 6)
  | _ ↦ []
]

-- ---- clashes

-- at a place or before it
abbrev pub is_by : Cause → Cause → Bool
is_by c e = nat_lt c.unit e.unit || (nat_eq c.unit e.unit && not (nat_lt e.byte c.byte))

abbrev pub is_seeing : Sort → Bool
is_seeing seeing = true
is_seeing giving = false

abbrev pub same_sort : Sort → Sort → Bool
same_sort seeing s = is_seeing s
same_sort giving s = not (is_seeing s)

-- a cause of the same sort, module and indicator, at that place or before it, with another definer
abbrev pub is_against : Cause → Cause → Bool
is_against e c = same_sort c.sort e.sort && (same_text c.of e.of && (same_ind c.ind e.ind && (is_by c e && not (same_text c.definer e.definer))))

-- the built-in procedures are visible before all causes, and another definer is against them
abbrev pub is_clash : List Cause → Cause → Bool
is_clash cs e = (is_seeing e.sort && is_built_in e.ind) || list_any (is_against e) cs

-- 7: a cause with another definer than that of an earlier cause, or of the same place
abbrev pub clashes : List Cause → List Fault
clashes cs = flat_map (λ e. only_if (is_clash cs e) (fault e.unit e.byte 7)) cs

-- ---- procedures in two bodies

abbrev pub is_in_section : Placed Text → Placed Text → Bool
is_in_section p q = nat_eq p.unit q.unit && nat_eq p.section q.section

-- 8: the first clause of a procedure in a body, where an earlier body has one
abbrev pub split_at : List (Placed Text) → Placed Text → List Fault
split_at before p = elim p.role [
  | defining i ↦ only_if (defines before p.of i && not (list_any (λ q. is_in_section p q && is_defining p.of i q) before)) (fault p.unit p.byte 8)
  | _ ↦ []
]

-- ---- all of them, and the first

abbrev pub link_faults : List (Facts Text) → List Fault
link_faults us =
    let ps = places_of 0 us in
    unmet us ++ repeated us ++ flat_map (missing ps) ps ++ clashes (causes ps) ++ flat_map (λ x. split_at x.0 x.1) (steps [] ps)

-- by unit, then byte, then number
abbrev pub fault_cmp : Fault → Fault → Ordering
fault_cmp a b = ordering_then (nat_cmp a.unit b.unit) (ordering_then (nat_cmp a.byte b.byte) (nat_cmp a.number b.number))

abbrev pub earlier : Fault → Option Fault → Fault
earlier a None = a
earlier a (Some b) = if is_lt (fault_cmp b a) then b else a

abbrev pub least : List Fault → Option Fault
least [] = None
least (f ∷ fs) = Some (earlier f (least fs))

abbrev pub first_link : List (Facts Text) → Option Fault
first_link us = least (link_faults us)
