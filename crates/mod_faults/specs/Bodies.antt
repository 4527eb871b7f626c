-- Procedures that entries define, and those of which two bodies have clauses.
use Rattle.std.specs.Prelude.{◌≡◌, ℕ, ◌<◌, List, [], ◌∷◌, length, nat_eq, Bool, not, ◌&&◌, if◌then◌else◌}
use Rattle.std.specs.List.{list_any}
use Rattle.indexmap.specs.IndexSet.{insert_key}
use Rattle.pl_atoms.specs.declared.names.NameId.{NameId}
use Rattle.unit_model.specs.Directives.{Text}
use Rattle.unit_model.specs.Encoding.{text_at}
use Rattle.unit_model.specs.declared.facts.Ind.{Ind}
use Rattle.link_model.specs.Places.{Placed as PlacedOf}
use Rattle.link_model.specs.Giving.{is_defining, defines}
use Rattle.link_model.specs.Faults.{Fault as FaultOf, split_at}
use Rattle.mod_visible.specs.declared.placed.Role.{Role}
use Rattle.mod_visible.specs.declared.placed.Role.TheVariants.{Defining}
use Rattle.mod_visible.specs.declared.placed.Placed.{Placed}
use Rattle.mod_visible.specs.Causing.{ind_text}
use Rattle.mod_faults.specs.declared.fault.Fault.{Fault}
use Rattle.mod_faults.specs.declared.bodies.Procedure.{Procedure}
use Rattle.mod_faults.specs.declared.split.Spot.{Spot}
use Rattle.mod_faults.specs.Passing.{made_of}

abbrev pub procedure : NameId → Ind → Procedure
procedure m i = record { home = m.0; name = i.name.0; arity = i.arity }

abbrev pub same_procedure : Procedure → Procedure → Bool
same_procedure p q = nat_eq p.home q.home && (nat_eq p.name q.name && nat_eq p.arity q.arity)

abbrev pub after_role : Role → List Procedure → Placed → List Procedure
after_role (Defining i) keys p = insert_key same_procedure keys (procedure p.module i)
after_role _ keys p = keys

abbrev pub procedures_after : List Procedure → Placed → List Procedure
procedures_after keys p = after_role p.role keys p

-- the procedures are those of which these entries have clauses
abbrev pub AreDefined : List Text → List (PlacedOf Text) → List Procedure → Type 0
AreDefined names ps keys = (m n a : ℕ) → m < length names → n < length names
    → list_any (same_procedure (record { home = m; name = n; arity = a })) keys ≡ defines ps (text_at names m) (ind_text names n a)

-- ---- clauses in two bodies

abbrev pub spot : Placed → Ind → Spot
spot p i = record { unit = p.unit; section = p.section; procedure = procedure p.module i }

abbrev pub same_spot : Spot → Spot → Bool
same_spot s t = nat_eq s.unit t.unit && (nat_eq s.section t.section && same_procedure s.procedure t.procedure)

abbrev pub spots_by : Role → List Spot → Placed → List Spot
spots_by (Defining i) keys p = insert_key same_spot keys (spot p i)
spots_by _ keys p = keys

abbrev pub spots_after : List Spot → Placed → List Spot
spots_after keys p = spots_by p.role keys p

-- the spots are those at which these entries have clauses
abbrev pub AreSpots : List Text → List (PlacedOf Text) → List Spot → Type 0
AreSpots names ps keys = (u k m n a : ℕ) → m < length names → n < length names
    → list_any (same_spot (record { unit = u; section = k; procedure = record { home = m; name = n; arity = a } })) keys
    ≡ list_any (λ q. (nat_eq u q.unit && nat_eq k q.section) && is_defining (text_at names m) (ind_text names n a) q) ps

abbrev pub split_by : Role → List Procedure → List Spot → Placed → List Fault
split_by (Defining i) keys spots p =
    if list_any (same_procedure (procedure p.module i)) keys && not (list_any (same_spot (spot p i)) spots) then record { number = 8; unit = p.unit; byte = p.byte } ∷ [] else []
split_by _ keys spots p = []

pub record Taken : Type 0 where
  pub procedures : List Procedure
  pub spots : List Spot

pub record AreTaken (names : List Text) (t : Taken) (ps : List (PlacedOf Text)) : Type 0 where
  pub procedures : AreDefined names ps t.procedures
  pub spots : AreSpots names ps t.spots

-- the faults of procedures in two bodies
abbrev pub splits : List (PlacedOf Text) → List FaultOf
splits = made_of split_at []
