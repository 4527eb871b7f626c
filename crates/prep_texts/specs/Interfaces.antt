-- How interfaces in memory stand for interfaces.
use Rattle.std.specs.Prelude.{◌≡◌, ℕ, ◌<◌, suc, Bool, List, [], ◌∷◌, length, map, take, Option, Some, None, option_map, if◌then◌else◌}
use Rattle.std.specs.Map.{lookup}
use Rattle.std.proofs.Common.{Vec, Global}
use Rattle.pl_ops.specs.Tables.{same_text}
use Rattle.unit_model.specs.Facts.{OperatorOf}
use Rattle.unit_model.specs.Directives.{Text}
use Rattle.unit_model.specs.Preparing.{Interface}
use Rattle.prep_texts.specs.declared.interfaces.KnownOperator.{KnownOperator}
use Rattle.prep_texts.specs.declared.interfaces.KnownInterface.{KnownInterface}
use Rattle.prep_texts.specs.declared.interfaces.Interfaces.{Interfaces}

abbrev pub operator_view : KnownOperator → OperatorOf Text
operator_view o = record { op = o.op; name = o.name }

abbrev pub operators_view : List KnownOperator → List (OperatorOf Text)
operators_view = map operator_view

abbrev pub interface_view : KnownInterface → Interface
interface_view i = record { of = i.module; operators = operators_view i.operators }

abbrev pub interfaces_view : Interfaces → List Interface
interfaces_view i = map interface_view i.all.items

abbrev pub is_key : Text → Vec ℕ Global → Bool
is_key m key = same_text m key.items

abbrev pub is_of : Text → KnownInterface → Bool
is_of m i = same_text m i.module

-- the place of a module's first interface
abbrev pub first_place : Text → List KnownInterface → Option ℕ
first_place m [] = None
first_place m (i ∷ is) = if is_of m i then Some 0 else option_map suc (first_place m is)

-- for each module the place of its first interface is known
abbrev pub IsIndexed : Interfaces → Type 0
IsIndexed i = (m : Text) → lookup (is_key m) i.firsts.entries ≡ first_place m i.all.items

-- what was known stands in front
pub record IsGrown (old new : Interfaces) : Type 0 where
  pub all : take (length old.all.items) new.all.items ≡ old.all.items
  pub firsts : take (length old.firsts.entries) new.firsts.entries ≡ old.firsts.entries

abbrev pub IsBelow : ℕ → ℕ → Type 0
IsBelow n k = k < n
