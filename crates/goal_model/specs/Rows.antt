-- A goal by what it is: a control construct, another built-in predicate, or a goal of the user's.
use Rattle.std.specs.Prelude.{ℕ, List, codes, nat_lt, ◌&&◌, Option, Some, None, if◌then◌else◌}
use Rattle.pl_terms.specs.Trees.{Tree, var, int, atom, comp, Trees, nil, cons, count}
use Rattle.builtin_model.specs.Naming.{Naming}
use Rattle.builtin_model.specs.Lists.{listed}
use Rattle.builtin_model.specs.Rows.{row_called}
use Rattle.builtin_model.specs.declared.row.Row.{Row as Builtin}
use Rattle.goal_model.specs.Bodies.{is_named}

pub data Row (N : Type 0) : Type 0 where
  -- !
  commit : Row N
  -- C -> T ; E
  if_then_else : Tree N → Tree N → Tree N → Row N
  -- C -> T
  if_then : Tree N → Tree N → Row N
  -- P ; Q
  either : Tree N → Tree N → Row N
  -- \+ G
  negation : Tree N → Row N
  once : Tree N → Row N
  -- call(G, ..)
  calling : Tree N → Trees N → Row N
  -- M:G
  in_module : Tree N → Tree N → Row N
  -- G @ N
  from_context : Tree N → Tree N → Row N
  repeat : Row N
  throwing : Tree N → Row N
  -- catch(G, X, R)
  catching : Tree N → Tree N → Tree N → Row N
  -- findall(X, G, Z)
  collecting : Tree N → Tree N → Tree N → Row N
  -- a built-in predicate that is no control construct, with its arguments
  plain : Builtin → List (Tree N) → Row N
  -- a procedure of the program, with its name and arguments
  user : N → Trees N → Row N

module _ {N : Type 0} (n : Naming N) where
  abbrev pub builtin_or_user : Option Builtin → N → Trees N → Row N
  builtin_or_user (Some r) f ts = plain r (listed ts)
  builtin_or_user None f ts = user f ts

  abbrev pub other_row : N → Trees N → Row N
  other_row f ts = builtin_or_user (row_called (n.text f) (count ts)) f ts

  -- call with up to seven arguments more
  abbrev pub call_row : N → Trees N → Row N
  call_row f nil = other_row f nil
  call_row f (cons t us) = if is_named n f (codes "call") && nat_lt (count us) 8 then calling t us else other_row f (cons t us)

  abbrev pub atom_row : N → Row N
  atom_row s =
      if is_named n s (codes "!") then commit
      else if is_named n s (codes "repeat") then repeat
      else other_row s nil

  abbrev pub unary_row : N → Tree N → Row N
  unary_row f t =
      if is_named n f (codes "\\+") then negation t
      else if is_named n f (codes "once") then once t
      else if is_named n f (codes "throw") then throwing t
      else call_row f (cons t nil)

  -- a disjunction, or an if-then-else
  abbrev pub either_row : Tree N → Tree N → Row N
  either_row (comp f (cons c (cons t nil))) u =
      if is_named n f (codes "->") then if_then_else c t u else either (comp f (cons c (cons t nil))) u
  either_row t u = either t u

  abbrev pub binary_row : N → Tree N → Tree N → Row N
  binary_row f t u =
      if is_named n f (codes ";") then either_row t u
      else if is_named n f (codes "->") then if_then t u
      else if is_named n f (codes ":") then in_module t u
      else if is_named n f (codes "@") then from_context t u
      else call_row f (cons t (cons u nil))

  abbrev pub ternary_row : N → Tree N → Tree N → Tree N → Row N
  ternary_row f t u v =
      if is_named n f (codes "catch") then catching t u v
      else if is_named n f (codes "findall") then collecting t u v
      else call_row f (cons t (cons u (cons v nil)))

  -- A goal of a body is no variable and no integer, since these are converted, and no conjunction, since its parts are the goals.
  unfoldable pub row_of : Tree N → Row N
  row_of (var v) = calling (var v) nil
  row_of (int z) = calling (int z) nil
  row_of (atom s) = atom_row s
  row_of (comp f (cons t nil)) = unary_row f t
  row_of (comp f (cons t (cons u nil))) = binary_row f t u
  row_of (comp f (cons t (cons u (cons v nil)))) = ternary_row f t u v
  row_of (comp f ts) = call_row f ts

  -- the name and the number of arguments of the construct that a goal is
  abbrev pub name_of : Tree N → N
  name_of (var v) = n.name (codes "call")
  name_of (int z) = n.name (codes "call")
  name_of (atom s) = s
  name_of (comp f ts) = f

  abbrev pub arity_of : Tree N → ℕ
  arity_of (var v) = 1
  arity_of (int z) = 1
  arity_of (atom s) = 0
  arity_of (comp f ts) = count ts
