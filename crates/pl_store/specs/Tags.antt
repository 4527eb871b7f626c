-- What an index knows of each clause: its procedure, and what stands as the first argument of its head.
use Rattle.std.specs.Prelude.{◌≡◌, ℕ, ◌+◌, ◌<◌, List, [], ◌∷◌, ◌++◌, map, length, slice_index_or, slice_get, slice_set, nat_eq, Bool, true, false, ◌&&◌, ◌||◌, Option, None, Some, Vec, if◌then◌else◌}
use Rattle.std.specs.Global.{Global}
use Rattle.std.specs.List.{list_any}
use Rattle.std.specs.Ordering.{int_eq}
use Rattle.pl_terms.specs.Trees.{Tree, var, int, atom, comp, cons, count}
use Rattle.pl_store.specs.Places.{places, next_place}
use Rattle.pl_store.specs.declared.index.Class.{Class}
use Rattle.pl_store.specs.declared.index.Class.TheVariants.{Open, Int, Name, Comp}
use Rattle.pl_store.specs.declared.index.Tag.{Tag}
use Rattle.pl_store.specs.declared.index.Entry.{Entry}
use Rattle.pl_store.specs.declared.index.Ends.{Ends}

abbrev pub same_class : Class → Class → Bool
same_class Open Open = true
same_class (Int y) (Int z) = int_eq y z
same_class (Name r) (Name s) = nat_eq r s
same_class (Comp f k) (Comp g n) = nat_eq f g && nat_eq k n
same_class c d = false

abbrev pub same_tag : Tag → Tag → Bool
same_tag s t = nat_eq s.owner t.owner && same_class s.class t.class

abbrev pub is_owned : ℕ → Tag → Bool
is_owned p t = nat_eq p t.owner

-- a clause of the procedure whose first argument is of the class or open
abbrev pub is_candidate : ℕ → Class → Tag → Bool
is_candidate p c t = nat_eq p t.owner && (same_class c t.class || same_class Open t.class)

abbrev pub argument_class : Tree ℕ → Class
argument_class (var v) = Open
argument_class (int z) = Int z
argument_class (atom s) = Name s
argument_class (comp f ts) = Comp f (count ts)

-- the class of a head's first argument; that of a head without arguments is open
abbrev pub head_class : Tree ℕ → Class
head_class (comp f (cons t ts)) = argument_class t
head_class t = Open

pub record Indexed : Type 0 where
  -- how many procedures there are
  pub owners : ℕ
  -- the clauses
  pub tags : List Tag

abbrev pub tags_of : List Entry → List Tag
tags_of = map (λ e. e.tag)

abbrev pub no_tag : Tag
no_tag = record { owner = 0; class = Open }

abbrev pub no_entry : Entry
no_entry = record { tag = no_tag; next = None; group = 0 }

abbrev pub no_ends : Ends
no_ends = record { first = None; last = None; count = 0 }

-- the places of the groups
abbrev pub lists : List (Vec ℕ Global) → List (List ℕ)
lists = map (λ v. v.items)

-- the place of a first clause, or else this one
abbrev pub or_else : Option ℕ → ℕ → Option ℕ
or_else None n = Some n
or_else (Some i) n = Some i

-- the tags, with this one last unless it is there, and the groups, with an empty one for a new tag
abbrev pub with_tag : List Tag → Tag → List Tag
with_tag tags t = if list_any (same_tag t) tags then tags else tags ++ t ∷ []

abbrev pub with_list : List Tag → Tag → List (List ℕ) → List (List ℕ)
with_list tags t ps = if list_any (same_tag t) tags then ps else ps ++ [] ∷ []

-- the entry at a place leads to another
abbrev pub linked : List Entry → Option ℕ → ℕ → List Entry
linked entries None n = entries
linked entries (Some l) n = slice_set entries l (record (slice_index_or entries l no_entry) { next = Some n })

-- a procedure's last clause
abbrev pub IsLast : List Tag → ℕ → Option ℕ → Type 0
IsLast tags p None = places (is_owned p) tags ≡ []
IsLast tags p (Some l) = (l < length tags) × (is_owned p (slice_index_or tags l no_tag) ≡ true) × (next_place (is_owned p) (l + 1) tags ≡ None)

-- Each clause leads to the next one of its procedure, and each procedure to its first and last; and the places of each tag that
-- there is stand together.
pub record IsIndex (entries : List Entry) (ends : List Ends) (tags : List Tag) (groups : List (List ℕ)) : Type 0 where
  pub next : (i : ℕ) → i < length entries → (slice_index_or entries i no_entry).next ≡ next_place (is_owned (slice_index_or entries i no_entry).tag.owner) (i + 1) (tags_of entries)
  pub owned : (i : ℕ) → i < length entries → (slice_index_or entries i no_entry).tag.owner < length ends
  pub first : (p : ℕ) → p < length ends → (slice_index_or ends p no_ends).first ≡ next_place (is_owned p) 0 (tags_of entries)
  pub last : (p : ℕ) → p < length ends → IsLast (tags_of entries) p (slice_index_or ends p no_ends).last
  pub count : length groups ≡ length tags
  pub grouped : (g : ℕ) → g < length tags → slice_index_or groups g [] ≡ places (same_tag (slice_index_or tags g no_tag)) (tags_of entries)
  pub others : (t : Tag) → list_any (same_tag t) tags ≡ false → places (same_tag t) (tags_of entries) ≡ []
  pub group : (i : ℕ) → i < length entries → slice_get tags (slice_index_or entries i no_entry).group ≡ Some (slice_index_or entries i no_entry).tag
