-- A table with one entry for each name, as a list of declarations.
use Rattle.std.specs.Prelude.{◌≡◌, ℕ, ◌<◌, ◌≤◌, List, [], ◌∷◌, ◌++◌, Option, Some, None, IfSome}
use Rattle.std.specs.List.{IsDistinct}
use Rattle.std.specs.Map.{keys_of}
use Rattle.std.proofs.Common.{Vec, Global}
use Rattle.pl_ops.specs.Tables.{Class, prefix_class, infix_class, postfix_class, class_of, same_text, Declaration}
use Rattle.pl_ops.specs.declared.op.Op.{Op as Operator}
use Rattle.pl_ops.specs.declared.slots.Slots.{Slots}

-- the operator of a class among those of one name
abbrev pub slot : Class → Slots → Option Operator
slot prefix_class s = s.as_prefix
slot infix_class s = s.as_infix
slot postfix_class s = s.as_postfix

-- an operator of this class, which is there
pub record IsOf (c : Class) (o : Operator) : Type 0 where
  pub class : class_of o.kind ≡ c
  pub above : 0 < o.priority
  pub at_most : o.priority ≤ 1200

-- each operator stands under its class
abbrev pub AreSlots : Slots → Type 0
AreSlots s = (c : Class) → IfSome (slot c s) (IsOf c)

abbrev pub Entry : Type 0
Entry = Vec ℕ Global × Slots

abbrev pub declared_as : List ℕ → Option Operator → List Declaration
declared_as name None = []
declared_as name (Some o) = record { op = o; name = name } ∷ []

-- the declarations of one name
abbrev pub declarations_of : List ℕ → Slots → List Declaration
declarations_of name s = declared_as name s.as_prefix ++ (declared_as name s.as_infix ++ declared_as name s.as_postfix)

abbrev pub declarations : List Entry → List Declaration
declarations [] = []
declarations (e ∷ es) = declarations_of e.0.items e.1 ++ declarations es

abbrev pub AllSlots : List Entry → Type 0
AllSlots [] = Unit {0}
AllSlots (e ∷ es) = AreSlots e.1 × AllSlots es

-- one entry for each name
pub record AreEntries (es : List Entry) : Type 0 where
  pub distinct : IsDistinct (λ (k l : Vec ℕ Global). same_text k.items l.items) (keys_of es)
  pub slots : AllSlots es
