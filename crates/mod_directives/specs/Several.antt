-- Several things in a term, where each is worth a list.
use Rattle.std.specs.Prelude.{List, [], ◌∷◌, codes, Option, Some, None, if◌then◌else◌, option_and_then}
use Rattle.pl_terms.specs.Trees.{Tree, comp, Trees, nil, cons}
use Rattle.pl_ops.specs.Tables.{same_text}
use Rattle.unit_model.specs.Directives.{Text, first_of, both, items_in}

module _ {B : Type 0} (one : Tree Text → Option (List B)) where
  -- one, or several joined by commas
  abbrev pub joined_by : Tree Text → Option (List B)
  joined_by (comp s (cons l (cons r nil))) =
      first_of (one (comp s (cons l (cons r nil)))) (if same_text s (codes ",") then both (joined_by l) (joined_by r) else None)
  joined_by t = one t

  abbrev pub all_joined : Trees Text → Option (List B)
  all_joined nil = Some []
  all_joined (cons t ts) = both (joined_by t) (all_joined ts)

  abbrev pub all_by : List (Tree Text) → Option (List B)
  all_by [] = Some []
  all_by (t ∷ ts) = both (one t) (all_by ts)

  -- a proper list
  abbrev pub listed_by : Tree Text → Option (List B)
  listed_by t = option_and_then all_by (items_in t)

  -- one is looked for first
  abbrev pub several_by : Tree Text → Option (List B)
  several_by t = first_of (one t) (first_of (listed_by t) (joined_by t))
