-- Tables of operators, as lists of declarations.
use Rattle.std.specs.Prelude.{ℕ, List, [], ◌∷◌, nat_eq, Bool, true, false, ◌&&◌, Option, Some, None, if◌then◌else◌}
use Rattle.std.specs.Cmp.Lexicographic.{pointwise}
use Rattle.pl_ops.specs.declared.op.Kind.{Kind}
use Rattle.pl_ops.specs.declared.op.Kind.TheVariants.{Xfx as xfx, Xfy as xfy, Yfx as yfx, Fx as fx, Fy as fy, Xf as xf, Yf as yf}
use Rattle.pl_ops.specs.declared.op.Op.{Op as Operator}

pub data Class : Type 0 where
  prefix_class : Class
  infix_class : Class
  postfix_class : Class

abbrev pub class_of : Kind → Class
class_of xfx = infix_class
class_of xfy = infix_class
class_of yfx = infix_class
class_of fx = prefix_class
class_of fy = prefix_class
class_of xf = postfix_class
class_of yf = postfix_class

abbrev pub same_class : Class → Class → Bool
same_class prefix_class prefix_class = true
same_class infix_class infix_class = true
same_class postfix_class postfix_class = true
same_class _ _ = false

abbrev pub same_text : List ℕ → List ℕ → Bool
same_text = pointwise nat_eq

-- an operator under its name; priority 0 takes an earlier one of its class away
pub record Declaration : Type 0 where
  pub op : Operator
  pub name : List ℕ

-- the operator of a class and a name, where there is one
abbrev pub Operators : Type 0
Operators = Class → List ℕ → Option Operator

abbrev pub is_for : Class → List ℕ → Declaration → Bool
is_for c name d = same_class (class_of d.op.kind) c && same_text d.name name

-- the second, where there is one
abbrev pub later_or : Option Operator → Option Operator → Option Operator
later_or o None = o
later_or o (Some later) = Some later

-- the last declaration of the class and name
abbrev pub last_declared : Class → List ℕ → List Declaration → Option Operator
last_declared c name [] = None
last_declared c name (d ∷ ds) = later_or (if is_for c name d then Some d.op else None) (last_declared c name ds)

-- priority 0 is none
abbrev pub unless_zero : Option Operator → Option Operator
unless_zero None = None
unless_zero (Some o) = if nat_eq o.priority 0 then None else Some o

abbrev pub operator : List Declaration → Operators
operator table c name = unless_zero (last_declared c name table)
