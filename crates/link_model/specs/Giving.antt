-- What modules define, and what they give.
use Rattle.std.specs.Prelude.{◌≡◌, List, [], ◌∷◌, filter, Bool, true, false, ◌&&◌, ◌||◌, Option, Some, None, if◌then◌else◌}
use Rattle.std.specs.List.{filter_map, list_any}
use Rattle.pl_ops.specs.Tables.{same_text}
use Rattle.unit_model.specs.Directives.{Text}
use Rattle.link_model.specs.Places.{Ind, same_ind, defining, exporting, reexporting_all, reexporting, Placed}

abbrev pub is_defining : Text → Ind → Placed Text → Bool
is_defining m i p = elim p.role [ defining j ↦ same_text p.of m && same_ind i j | _ ↦ false ]

abbrev pub is_exporting : Text → Ind → Placed Text → Bool
is_exporting m i p = elim p.role [ exporting j ↦ same_text p.of m && same_ind i j | _ ↦ false ]

-- a body of m has a clause for i
abbrev pub defines : List (Placed Text) → Text → Ind → Bool
defines ps m i = list_any (is_defining m i) ps

-- m exports i and defines it
abbrev pub gives_own : List (Placed Text) → Text → Ind → Bool
gives_own ps m i = list_any (is_exporting m i) ps && defines ps m i

-- a re-export that passes i: its module, and the one that it takes from
abbrev pub edge_of : Ind → Placed Text → Option (Text × Text)
edge_of i p = elim p.role [
  | reexporting_all n ↦ Some (p.of, n)
  | reexporting n j ↦ if same_ind i j then Some (p.of, n) else None
  | _ ↦ None
]

abbrev pub edges : List (Placed Text) → Ind → List (Text × Text)
edges ps i = filter_map (edge_of i) ps

abbrev pub is_edge : Text → Text → Text × Text → Bool
is_edge m n e = same_text e.0 m && same_text e.1 n

-- m re-exports i, or all, of n
abbrev pub passes : List (Placed Text) → Text → Text → Ind → Bool
passes ps m n i = list_any (is_edge m n) (edges ps i)

-- m gives i of d: the least relation with these two rules
pub data Gives (ps : List (Placed Text)) : Text → Ind → Text → Type 0 where
  own : (m : Text) (i : Ind) → gives_own ps m i ≡ true → Gives ps m i m
  passed : (m n : Text) (i : Ind) (d : Text) → passes ps m n i ≡ true → Gives ps n i d → Gives ps m i d

-- Along edges from m to d. A way either leaves the first edge out, or goes to it and, behind its last use, on from it.
abbrev pub reaches : List (Text × Text) → Text → Text → Bool
reaches [] m d = same_text m d
reaches (e ∷ es) m d = reaches es m d || (reaches es m e.0 && reaches es e.1 d)

-- the test of Gives
abbrev pub gives : List (Placed Text) → Text → Ind → Text → Bool
gives ps m i d = gives_own ps d i && reaches (edges ps i) m d

-- what a module gives, each indicator with a definer
abbrev pub own_of : List (Placed Text) → Placed Text → Option (Ind × Text)
own_of ps p = elim p.role [ exporting i ↦ if defines ps p.of i then Some (i, p.of) else None | _ ↦ None ]

abbrev pub owned : List (Placed Text) → List (Ind × Text)
owned ps = filter_map (own_of ps) ps

abbrev pub given : List (Placed Text) → Text → List (Ind × Text)
given ps n = filter (λ x. gives ps n x.0 x.1) (owned ps)

abbrev pub given_for : List (Placed Text) → Text → Ind → List (Ind × Text)
given_for ps n i = filter (λ x. same_ind i x.0) (given ps n)

abbrev pub gives_some : List (Placed Text) → Text → Ind → Bool
gives_some ps n i = list_any (λ x. same_ind i x.0) (given ps n)
