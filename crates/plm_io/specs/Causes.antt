-- When a fault may be answered, by a count of faults that never falls.
use Rattle.std.specs.Prelude.{ℕ, ◌+◌, ◌-◌, ◌^◌, ◌≤◌, min, List, take, Result, IsErrOf, Option}
use Rattle.std.specs.Io.KnownBytes.{Appends}
use Rattle.plm_io.specs.declared.traits.IoFault.{IoFault}
use Rattle.plm_io.specs.declared.traits.IoFault.TheVariants.{Failed}

-- the count is greater, or stands at its last value
abbrev pub Rose : ℕ → ℕ → Type 0
Rose before now = min (before + 1) (2 ^ 64 - 1) ≤ now

-- The count has not fallen, and Failed is answered only where it rose.
pub record HasCause {T : Type 0} (before now : ℕ) (result : Result T IoFault) : Type 0 where
  pub later : before ≤ now
  pub failed : IsErrOf result Failed → Rose before now

-- known bytes grow by some front of these bytes
abbrev pub AppendsFront : Option (List ℕ) → Option (List ℕ) → List ℕ → Type 0
AppendsFront old new bytes = (n : ℕ) × Appends old new (take n bytes)
