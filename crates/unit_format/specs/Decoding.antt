-- The unit that bytes spell.
use Rattle.std.specs.Prelude.{◌≡◌, ℕ, ◌<◌, List, [], length, Option, Some, None, nat_lt, Bool, ◌&&◌, if◌then◌else◌, slice_index}
use Rattle.pl_ops.specs.Tables.{same_text}
use Rattle.pl_terms.specs.Occurrence.{first_after, from_to}
use Rattle.unit_model.specs.Facts.{Facts, names_of}
use Rattle.unit_model.specs.Encoding.{facts_in, IsInOrder}
use Rattle.unit_model.specs.Validity.{Text, IsUnit, keeps_rules}
use Rattle.unit_format.specs.Reading.{◌>>=◌, Raw, raw_of}

-- each name is used, and the names stand in the order of first use
abbrev pub is_in_order : Raw → Bool
is_in_order r = same_text (first_after [] (names_of r.facts)) (from_to 0 (length r.names))

abbrev pub facts_of : Raw → Facts Text
facts_of r = facts_in r.names r.facts

abbrev pub if_valid : Raw → Option Raw
if_valid r = if is_in_order r && keeps_rules (facts_of r) then Some r else None

unfoldable pub decoded : List ℕ → Option Raw
decoded bytes = if nat_lt 67108864 (length bytes) then None else (raw_of bytes >>= if_valid)

abbrev pub AreBytes : List ℕ → Type 0
AreBytes bytes = (i : ℕ) → slice_index bytes i < 256

-- what is decoded is a unit, and each unit is decoded to its facts
pub record DecodingIsExact : Type 0 where
  pub found : (bytes : List ℕ) (r : Raw) → AreBytes bytes → decoded bytes ≡ Some r → IsUnit (facts_of r) bytes × IsInOrder r.names r.facts
  pub only : (bytes : List ℕ) (f : Facts Text) → IsUnit f bytes → (r : Raw) × (decoded bytes ≡ Some r) × (facts_of r ≡ f)
