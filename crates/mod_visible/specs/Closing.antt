-- What modules give, over numbers: all that goes from what they give of their own along re-exports.
use Rattle.std.specs.Prelude.{◌≡◌, List, ◌++◌, Contains, ◌⊎◌}
use Rattle.indexmap.specs.IndexSet.{insert_key}
use Rattle.mod_visible.specs.declared.cause.Sort.{Sort}
use Rattle.mod_visible.specs.declared.cause.Sort.TheVariants.{Seeing, Giving}
use Rattle.mod_visible.specs.declared.cause.Cause.{Cause}
use Rattle.mod_visible.specs.declared.keys.Given.{Given}
use Rattle.mod_visible.specs.declared.keys.Source.{Source}
use Rattle.mod_visible.specs.declared.keys.Source.TheVariants.{All, One}
use Rattle.mod_visible.specs.declared.takers.Taker.{Taker}
use Rattle.mod_visible.specs.Keys.{same_given}

-- the cause where a taker takes what a module gives, and what the taker's module gives then
abbrev pub cause_by : Taker → Given → Cause
cause_by t g = record {
  sort = t.sort;
  «module» = t.module;
  ind = record { name = record { 0 = g.procedure.name }; arity = g.procedure.arity };
  unit = t.unit;
  byte = t.byte;
  definer = record { 0 = g.definer };
}

abbrev pub passed : Taker → Given → Given
passed t g = record { procedure = record { «module» = t.module.0; name = g.procedure.name; arity = g.procedure.arity }; definer = g.definer }

abbrev pub found_by : Sort → Taker → Given → List Given → List Given
found_by Giving t g found = insert_key same_given found (passed t g)
found_by Seeing t g found = found

abbrev pub found_after : Taker → Given → List Given → List Given
found_after t g = found_by t.sort t g

-- a taker's source is this one, or one that brings what is given
abbrev pub IsFrom : Source → Taker → Type 0
IsFrom s t = t.source ≡ s

abbrev pub Brings : Given → Taker → Type 0
Brings g t = (t.source ≡ All g.procedure.module) ⊎ (t.source ≡ One g.procedure)

-- what the takers of which P holds make of one that is given
pub record Spreads (P : Taker → Type 0) (takers : List Taker) (g : Given) (found : List Given) (causes : List Cause) (found' : List Given) (causes' : List Cause) : Type 0 where
  pub found_kept : (more : List Given) × (found' ≡ found ++ more)
  pub causes_kept : (more : List Cause) × (causes' ≡ causes ++ more)
  pub causes_in : (t : Taker) → Contains takers t → P t → Contains causes' (cause_by t g)
  pub found_in : (t : Taker) → Contains takers t → P t → t.sort ≡ Giving → Contains found' (passed t g)
  pub causes_only : (c : Cause) → Contains causes' c → Contains causes c ⊎ ((t : Taker) × (Contains takers t) × (P t) × (c ≡ cause_by t g))
  pub found_only : (x : Given) → Contains found' x → Contains found x ⊎ ((t : Taker) × (Contains takers t) × (P t) × (t.sort ≡ Giving) × (x ≡ passed t g))

-- what goes from seeds along takers that give
pub data Reached (seeds : List Given) (takers : List Taker) : Given → Type 0 where
  seed : (g : Given) → Contains seeds g → Reached seeds takers g
  step : (t : Taker) (g : Given) → Contains takers t → Brings g t → t.sort ≡ Giving → Reached seeds takers g → Reached seeds takers (passed t g)

-- all that is reached, and the causes of all takers
pub record Closes (takers : List Taker) (seeds : List Given) (causes : List Cause) (found : List Given) (causes' : List Cause) : Type 0 where
  pub reached : (g : Given) → Reached seeds takers g → Contains found g
  pub found_only : (g : Given) → Contains found g → Reached seeds takers g
  pub causes_kept : (more : List Cause) × (causes' ≡ causes ++ more)
  pub causes_in : (t : Taker) (g : Given) → Contains takers t → Brings g t → Contains found g → Contains causes' (cause_by t g)
  pub causes_only : (c : Cause) → Contains causes' c → Contains causes c ⊎ ((t : Taker) × (g : Given) × (Contains takers t) × (Brings g t) × (Contains found g) × (c ≡ cause_by t g))
