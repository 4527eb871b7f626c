-- Lists as terms (ISO/IEC 13211-1, 6.3.5).
use Rattle.std.specs.Prelude.{ℕ, zero, suc, List, [], ◌∷◌, codes, if◌then◌else◌}
use Rattle.pl_atoms.specs.Names.{same_text}
use Rattle.pl_terms.specs.Trees.{Tree, var, atom, comp, Trees, nil, cons}
use Rattle.builtin_model.specs.Naming.{Naming}

-- a list of trees as arguments, and back
abbrev pub arguments : {N : Type 0} → List (Tree N) → Trees N
arguments [] = nil
arguments (t ∷ ts) = cons t (arguments ts)

abbrev pub listed : {N : Type 0} → Trees N → List (Tree N)
listed nil = []
listed (cons t ts) = t ∷ listed ts

-- so many variables, from a number on
abbrev pub variables_from : {N : Type 0} → ℕ → ℕ → List (Tree N)
variables_from n zero = []
variables_from n (suc k) = var n ∷ variables_from (suc n) k

-- a list with its items, a partial list, or no list
pub data Listing (N : Type 0) : Type 0 where
  proper : List (Tree N) → Listing N
  partial : Listing N
  improper : Listing N

abbrev pub before : {N : Type 0} → Tree N → Listing N → Listing N
before t (proper ts) = proper (t ∷ ts)
before t partial = partial
before t improper = improper

module _ {N : Type 0} (n : Naming N) where
  -- what kind of list a term is; a variable is a partial list
  abbrev pub listing : Tree N → Listing N
  listing (var m) = partial
  listing (atom a) = if same_text (n.text a) (codes "[]") then proper [] else improper
  listing (comp f (cons h (cons t nil))) = if same_text (n.text f) (codes ".") then before h (listing t) else improper
  listing _ = improper

  -- the list of these items
  abbrev pub list_tree : List (Tree N) → Tree N
  list_tree [] = atom (n.name (codes "[]"))
  list_tree (t ∷ ts) = comp (n.name (codes ".")) (cons t (cons (list_tree ts) nil))
