-- What the built-in predicates that are no control constructs do.
use Rattle.std.specs.Prelude.{ℕ, ℤ, pos, negsuc, zero, suc, ◌+◌, ◌/◌, List, [], ◌∷◌, length, map, codes, count_by, nat_eq, nat_lt, int_lt, int_le, Bool, true, false, not, ◌||◌, if◌then◌else◌, Ok, Err}
use Rattle.std.specs.Ordering.{int_eq, is_lt, is_le, is_gt, is_ge, is_eq, is_ne}
use Rattle.std.specs.declared.cmp.Ordering.{Ordering}
use Rattle.std.specs.declared.cmp.Ordering.TheVariants.{Less, Equal, Greater}
use Rattle.pl_atoms.specs.Names.{same_text}
use Rattle.pl_terms.specs.Trees.{Tree, var, int, atom, comp, count}
use Rattle.pl_terms.specs.Order.{tree_cmp, text_cmp}
use Rattle.pl_terms.specs.Occurrence.{variables, canon, numbered_by}
use Rattle.builtin_model.specs.declared.error.Expected.TheVariants as E
use Rattle.builtin_model.specs.declared.error.Domain.TheVariants as D
use Rattle.builtin_model.specs.declared.row.Row.{Row}
use Rattle.builtin_model.specs.declared.row.Row.TheVariants as R
use Rattle.builtin_model.specs.declared.row.TypeTest.{TypeTest}
use Rattle.builtin_model.specs.declared.row.TypeTest.TheVariants as T
use Rattle.builtin_model.specs.declared.row.OrderTest.{OrderTest}
use Rattle.builtin_model.specs.declared.row.OrderTest.TheVariants as O
use Rattle.builtin_model.specs.declared.row.Relation.{Relation}
use Rattle.builtin_model.specs.declared.row.Relation.TheVariants as V
use Rattle.builtin_model.specs.Naming.{Naming}
use Rattle.builtin_model.specs.Faults.{Fault, instantiation, type_fault, domain_fault, max_arity}
use Rattle.builtin_model.specs.Lists.{Listing, proper, partial, improper, listing, list_tree, arguments, listed, variables_from}
use Rattle.builtin_model.specs.Values.{Valued, value}

pub data Deed (N : Type 0) : Type 0 where
  -- unifies equations, in which so many variables are new, numbered from the next one on
  equal : List (Tree N × Tree N) → ℕ → Deed N
  -- succeeds where two trees have no unifier
  differ : Tree N → Tree N → Deed N
  no : Deed N
  raise : Fault N → Deed N
  -- ends the run
  halt : ℤ → Deed N

abbrev pub yes : {N : Type 0} → Deed N
yes = equal [] 0

abbrev pub whether : {N : Type 0} → Bool → Deed N
whether b = if b then yes else no

abbrev pub unify : {N : Type 0} → Tree N → Tree N → Deed N
unify t u = equal ((t, u) ∷ []) 0

-- ---- tests

abbrev pub passes : {N : Type 0} → TypeTest → Tree N → Bool
passes T.Var (var n) = true
passes T.Nonvar (int z) = true
passes T.Nonvar (atom a) = true
passes T.Nonvar (comp f ts) = true
passes T.Atom (atom a) = true
passes T.Integer (int z) = true
passes T.Number (int z) = true
passes T.Atomic (int z) = true
passes T.Atomic (atom a) = true
passes T.Compound (comp f ts) = true
passes T.Callable (atom a) = true
passes T.Callable (comp f ts) = true
passes _ _ = false

abbrev pub is_ground : {N : Type 0} → Tree N → Bool
is_ground t = nat_eq (length (variables t)) 0

abbrev pub order_holds : OrderTest → Ordering → Bool
order_holds O.Same o = is_eq o
order_holds O.NotSame o = is_ne o
order_holds O.Less o = is_lt o
order_holds O.AtMost o = is_le o
order_holds O.Greater o = is_gt o
order_holds O.AtLeast o = is_ge o

abbrev pub holds : Relation → ℤ → ℤ → Bool
holds V.Equal x y = int_eq x y
holds V.NotEqual x y = not (int_eq x y)
holds V.Less x y = int_lt x y
holds V.AtMost x y = int_le x y
holds V.Greater x y = int_lt y x
holds V.AtLeast x y = int_le y x

-- ---- terms taken apart and made

-- a term from a name and a number of arguments, which are new variables
abbrev pub with_arity : {N : Type 0} → Tree N → Tree N → ℕ → ℕ → Deed N
with_arity t name zero next = unify t name
with_arity t (atom f) (suc k) next = equal ((t, comp f (arguments (variables_from next (suc k)))) ∷ []) (suc k)
with_arity t name (suc k) next = raise (type_fault E.Atom name)

abbrev pub made_by_name : {N : Type 0} → Tree N → Tree N → Tree N → ℕ → Deed N
made_by_name t (var m) k next = raise instantiation
made_by_name t name (var m) next = raise instantiation
made_by_name t (comp f ts) k next = raise (type_fault E.Atomic (comp f ts))
made_by_name t name (int (pos k)) next = if nat_lt 255 k then raise max_arity else with_arity t name k next
made_by_name t name (int (negsuc k)) next = raise (domain_fault D.NotLessThanZero (int (negsuc k)))
made_by_name t name k next = raise (type_fault E.Integer k)

abbrev pub functor_deed : {N : Type 0} → Tree N → Tree N → Tree N → ℕ → Deed N
functor_deed (var n) name k next = made_by_name (var n) name k next
functor_deed (comp f ts) name k next = equal ((name, atom f) ∷ (k, int (pos (count ts))) ∷ []) 0
functor_deed t name k next = equal ((name, t) ∷ (k, int (pos 0)) ∷ []) 0

-- an argument, counted from 1
abbrev pub nth : {N : Type 0} → List (Tree N) → ℕ → Tree N → Deed N
nth [] k a = no
nth (t ∷ ts) zero a = no
nth (t ∷ ts) (suc zero) a = unify a t
nth (t ∷ ts) (suc (suc k)) a = nth ts (suc k) a

abbrev pub arg_deed : {N : Type 0} → Tree N → Tree N → Tree N → Deed N
arg_deed (var m) t a = raise instantiation
arg_deed k (var m) a = raise instantiation
arg_deed (int (pos k)) (comp f ts) a = nth (listed ts) k a
arg_deed (int (negsuc k)) (comp f ts) a = raise (domain_fault D.NotLessThanZero (int (negsuc k)))
arg_deed (int z) t a = raise (type_fault E.Compound t)
arg_deed k t a = raise (type_fault E.Integer k)

-- a term from a name and arguments
abbrev pub made_by_items : {N : Type 0} → Tree N → Tree N → List (Tree N) → Deed N
made_by_items t (var m) ts = raise instantiation
made_by_items t (comp f us) ts = raise (type_fault E.Atomic (comp f us))
made_by_items t h [] = unify t h
made_by_items t (int z) (u ∷ us) = raise (type_fault E.Atom (int z))
made_by_items t (atom f) (u ∷ us) = if nat_lt 255 (length (u ∷ us)) then raise max_arity else unify t (comp f (arguments (u ∷ us)))

abbrev pub made_by_list : {N : Type 0} → Tree N → Tree N → Listing N → Deed N
made_by_list t l partial = raise instantiation
made_by_list t l improper = raise (type_fault E.List l)
made_by_list t l (proper []) = raise (domain_fault D.NonEmptyList l)
made_by_list t l (proper (h ∷ ts)) = made_by_items t h ts

-- a copy, whose variables are new
abbrev pub copy_deed : {N : Type 0} → Tree N → Tree N → ℕ → Deed N
copy_deed t u next = equal ((u, numbered_by (λ m. m + next) (canon t)) ∷ []) (length (variables t))

-- ---- values

abbrev pub assigned : {N : Type 0} → Tree N → Valued N → Deed N
assigned t (Ok z) = unify t (int z)
assigned t (Err e) = raise e

-- the left side's error comes first
abbrev pub related : {N : Type 0} → Relation → Valued N → Valued N → Deed N
related r (Ok x) (Ok y) = whether (holds r x y)
related r (Ok x) (Err e) = raise e
related r (Err e) v = raise e

abbrev pub halt_deed : {N : Type 0} → Tree N → Deed N
halt_deed (var m) = raise instantiation
halt_deed (int z) = halt z
halt_deed t = raise (type_fault E.Integer t)

-- ---- rows that look at names

abbrev pub order_text : Ordering → List ℕ
order_text Less = codes "<"
order_text Equal = codes "="
order_text Greater = codes ">"

abbrev pub is_order : List ℕ → Bool
is_order s = same_text s (codes "<") || (same_text s (codes "=") || same_text s (codes ">"))

-- a text of one character: one byte of it does not continue a character
abbrev pub is_character : List ℕ → Bool
is_character s = nat_eq (count_by (λ b. not (nat_eq (b / 64) 2)) s) 1

module _ {N : Type 0} (n : Naming N) where
  -- the standard order
  abbrev pub order : Tree N → Tree N → Ordering
  order = tree_cmp (λ a b. text_cmp (n.text a) (n.text b))

  abbrev pub ordered : Tree N → Ordering → Deed N
  ordered t o = unify t (atom (n.name (order_text o)))

  abbrev pub compare_deed : Tree N → Ordering → Deed N
  compare_deed (var m) o = ordered (var m) o
  compare_deed (atom a) o = if is_order (n.text a) then ordered (atom a) o else raise (domain_fault D.Order (atom a))
  compare_deed t o = raise (type_fault E.Atom t)

  abbrev pub univ_deed : Tree N → Tree N → Deed N
  univ_deed (var m) l = made_by_list (var m) l (listing n l)
  univ_deed (comp f ts) l = unify l (list_tree n (atom f ∷ listed ts))
  univ_deed t l = unify l (list_tree n (t ∷ []))

  abbrev pub put_deed : Tree N → Deed N
  put_deed (var m) = raise instantiation
  put_deed (atom a) = if is_character (n.text a) then yes else raise (type_fault E.Character (atom a))
  put_deed t = raise (type_fault E.Character t)

  -- What a row does with its arguments, where the caller is a module, and `next` is the number of the next new variable. With another number of arguments it fails.
  abbrev pub deed : Row → List (Tree N) → N → ℕ → Deed N
  deed R.Unify (t ∷ u ∷ []) caller next = unify t u
  deed R.NotUnifiable (t ∷ u ∷ []) caller next = differ t u
  deed (R.Type test) (t ∷ []) caller next = whether (passes test t)
  deed R.Ground (t ∷ []) caller next = whether (is_ground t)
  deed (R.Order test) (t ∷ u ∷ []) caller next = whether (order_holds test (order t u))
  deed R.Compare (o ∷ t ∷ u ∷ []) caller next = compare_deed o (order t u)
  deed R.Functor (t ∷ name ∷ k ∷ []) caller next = functor_deed t name k next
  deed R.Arg (k ∷ t ∷ a ∷ []) caller next = arg_deed k t a
  deed R.Univ (t ∷ l ∷ []) caller next = univ_deed t l
  deed R.CopyTerm (t ∷ u ∷ []) caller next = copy_deed t u next
  deed R.TermVariables (t ∷ l ∷ []) caller next = unify l (list_tree n (map var (variables t)))
  deed R.Is (t ∷ e ∷ []) caller next = assigned t (value n e)
  deed (R.Value r) (t ∷ u ∷ []) caller next = related r (value n t) (value n u)
  deed R.NewLine [] caller next = yes
  deed R.PutChar (t ∷ []) caller next = put_deed t
  deed (R.Write q) (t ∷ []) caller next = yes
  deed R.CallingContext (t ∷ []) caller next = unify t (atom caller)
  deed R.True [] caller next = yes
  deed R.Fail [] caller next = no
  deed R.Halt [] caller next = halt (pos 0)
  deed R.HaltWith (t ∷ []) caller next = halt_deed t
  deed _ _ caller next = no
