-- Causes at the first places, by what they are for.
use Rattle.std.specs.Prelude.{◌≡◌, List, nat_eq, nat_lt, not, Bool, true, false, ◌&&◌, ◌||◌, Option, Some, None, Contains, if◌then◌else◌}
use Rattle.std.specs.Map.{lookup}
use Rattle.mod_visible.specs.declared.cause.Sort.{Sort}
use Rattle.mod_visible.specs.declared.cause.Sort.TheVariants.{Seeing, Giving}
use Rattle.mod_visible.specs.declared.cause.Cause.{Cause}
use Rattle.mod_visible.specs.declared.keys.Procedure.{Procedure}
use Rattle.mod_visible.specs.declared.keys.Key.{Key}
use Rattle.mod_visible.specs.declared.keys.Key.TheVariants.{Seen, Given}
use Rattle.mod_visible.specs.Keys.{procedure, same_procedure}

abbrev pub key_for : Sort → Procedure → Key
key_for Seeing p = Seen p
key_for Giving p = Given p

abbrev pub key_of : Cause → Key
key_of c = key_for c.sort (procedure c.module c.ind)

abbrev pub same_key : Key → Key → Bool
same_key (Seen p) (Seen q) = same_procedure p q
same_key (Given p) (Given q) = same_procedure p q
same_key _ _ = false

-- at an earlier place; and at that place or an earlier one
abbrev pub is_before : Cause → Cause → Bool
is_before c e = nat_lt c.unit e.unit || (nat_eq c.unit e.unit && nat_lt c.byte e.byte)

abbrev pub is_upto : Cause → Cause → Bool
is_upto c e = nat_lt c.unit e.unit || (nat_eq c.unit e.unit && not (nat_lt e.byte c.byte))

abbrev pub lower : Option Cause → Cause → Cause
lower None c = c
lower (Some e) c = if is_before c e then c else e

-- another definer than that of the cause in a table, or none there
abbrev pub differs : Option Cause → Cause → Bool
differs None c = true
differs (Some e) c = not (nat_eq e.definer.0 c.definer.0)

abbrev pub is_wanted : List (Key × Cause) → Cause → Bool
is_wanted table c = differs (lookup (same_key (key_of c)) table) c

-- one of the causes with P, with none before it
pub record IsLeastOf (P : Cause → Type 0) (cs : List Cause) (e : Cause) : Type 0 where
  pub there : Contains cs e
  pub has : P e
  pub least : (c : Cause) → Contains cs c → P c → is_upto e c ≡ true

abbrev pub IsLeast : (Cause → Type 0) → List Cause → Option Cause → Type 0
IsLeast P cs None = (c : Cause) → Contains cs c → P c → ⊥
IsLeast P cs (Some e) = IsLeastOf P cs e

-- the causes at the first places for each key, among those that another table wants
abbrev pub IsWanted : List (Key × Cause) → Key → Cause → Type 0
IsWanted table k c = (key_of c ≡ k) × (is_wanted table c ≡ true)

abbrev pub AreLeasts : List (Key × Cause) → List Cause → List (Key × Cause) → Type 0
AreLeasts table cs leasts = (k : Key) → IsLeast (IsWanted table k) cs (lookup (same_key k) leasts)
