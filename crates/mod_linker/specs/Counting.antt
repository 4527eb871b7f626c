-- The modules and the procedures of a linked program.
use Rattle.std.specs.Prelude.{List, [], ◌∷◌, ◌++◌, map, fold, Bool, ◌&&◌, Option, Some, None, if◌then◌else◌}
use Rattle.std.specs.List.{flat_map, filter_map, list_any}
use Rattle.pl_ops.specs.Tables.{same_text}
use Rattle.unit_model.specs.Facts.{Indicator, Facts}
use Rattle.unit_model.specs.Directives.{Text}
use Rattle.unit_model.specs.Known.{interfaces_of}
use Rattle.link_model.specs.Places.{same_ind, user, defining, Role, Placed, places_of}

module _ {A : Type 0} (same : A → A → Bool) where
  abbrev pub with_one : List A → A → List A
  with_one xs x = if list_any (same x) xs then xs else xs ++ x ∷ []

  -- each element once, in the order of their first places
  abbrev pub each_once : List A → List A
  each_once = fold with_one []

-- the modules that have an interface
abbrev pub interface_texts : List (Facts Text) → List Text
interface_texts us = map (λ i. i.of) (flat_map interfaces_of us)

-- user, and the modules that have an interface
abbrev pub linked_modules : List (Facts Text) → List Text
linked_modules us = each_once same_text (user ∷ interface_texts us)

-- a procedure with the module that defines it. N is the type of names.
abbrev pub Defined : Type 0 → Type 0
Defined N = N × Indicator N

abbrev pub same_defined : Defined Text → Defined Text → Bool
same_defined x y = same_text x.0 y.0 && same_ind x.1 y.1

module _ {N : Type 0} where
  abbrev pub defined_in : N → Role N → Option (Defined N)
  defined_in m (defining i) = Some (m, i)
  defined_in m _ = None

  -- the procedure of a clause
  abbrev pub defined_at : Placed N → Option (Defined N)
  defined_at p = defined_in p.of p.role

-- the procedures that have a clause
abbrev pub linked_procedures : List (Facts Text) → List (Defined Text)
linked_procedures us = each_once same_defined (filter_map defined_at (places_of 0 us))
