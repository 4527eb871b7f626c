-- Lists of a store.
use Rattle.std.specs.Prelude.{◌≡◌, ℕ, List, [], ◌∷◌, map, codes, Bool, nat_eq, ◌&&◌, if◌then◌else◌}
use Rattle.pl_atoms.specs.Names.{same_text}
use Rattle.pl_terms.specs.Trees.{Tree, atom, comp, nil, cons}
use Rattle.pl_unify.specs.declared.word.Ref.{Ref}
use Rattle.pl_unify.specs.State.{State, tree_at}
use Rattle.builtin_model.specs.Lists.{Listing, proper, partial, improper, before}
use Rattle.pl_builtin_terms.specs.declared.items.ListKind.{ListKind}
use Rattle.pl_builtin_terms.specs.declared.items.ListKind.TheVariants as K

-- the list of these items, by the numbers of its names
abbrev pub list_from : ℕ → ℕ → List (Tree ℕ) → Tree ℕ
list_from end dot [] = atom end
list_from end dot (t ∷ ts) = comp dot (cons t (cons (list_from end dot ts) nil))

abbrev pub kind_of_end : List ℕ → ListKind
kind_of_end s = if same_text s (codes "[]") then K.Proper else K.Improper

-- a compound that is an item in front of the rest of a list
abbrev pub is_cell : List ℕ → ℕ → Bool
is_cell s k = nat_eq k 2 && same_text s (codes ".")

-- these places have the items of a list with an end
abbrev pub IsListed : State → Listing ℕ → List Ref → ListKind → Type 0
IsListed s l items K.Proper = proper (map (tree_at s) items) ≡ l
IsListed s l items K.Partial = partial ≡ l
IsListed s l items K.Improper = improper ≡ l

-- items in front of the rest of a list
abbrev pub all_before : List (Tree ℕ) → Listing ℕ → Listing ℕ
all_before [] l = l
all_before (t ∷ ts) l = before t (all_before ts l)
