-- What refuses a declaration: the first of six causes, in this order.
use Rattle.std.specs.Prelude.{ℕ, ℤ, pos, negsuc, List, [], ◌∷◌, codes, Bool, false, ◌&&◌, ◌||◌, nat_le, nat_lt, Option, Some, None, is_some, Result, Ok, Err, if◌then◌else◌}
use Rattle.pl_ops.specs.Tables.{Class, prefix_class, infix_class, postfix_class, class_of, same_text, Declaration, Operators}
use Rattle.pl_ops.specs.declared.op.Kind.{Kind}
use Rattle.pl_ops.specs.declared.op.Kind.TheVariants.{Xfx as xfx, Xfy as xfy, Yfx as yfx, Fx as fx, Fy as fy, Xf as xf, Yf as yf}
use Rattle.pl_ops.specs.declared.refusal.OpRefusal.{OpRefusal}
use Rattle.pl_ops.specs.declared.refusal.OpRefusal.TheVariants.{NotPriority, NotKind, Comma, Bar, Brackets, InfixPostfix, NoMemory}

-- 0 to 1200
abbrev pub is_priority : ℤ → Bool
is_priority (pos n) = nat_le n 1200
is_priority (negsuc n) = false

abbrev pub natural : ℤ → ℕ
natural (pos n) = n
natural (negsuc n) = 0

-- the kind that a word names
abbrev pub kind_of : List ℕ → Option Kind
kind_of word =
    if same_text word (codes "xfx") then Some xfx
    else (if same_text word (codes "xfy") then Some xfy
    else (if same_text word (codes "yfx") then Some yfx
    else (if same_text word (codes "fx") then Some fx
    else (if same_text word (codes "fy") then Some fy
    else (if same_text word (codes "xf") then Some xf
    else (if same_text word (codes "yf") then Some yf
    else None))))))

-- a name is no infix and postfix operator at once
abbrev pub clashes : Operators → Class → List ℕ → Bool
clashes look prefix_class name = false
clashes look infix_class name = is_some (look postfix_class name)
clashes look postfix_class name = is_some (look infix_class name)

abbrev pub refusal_of_name : List ℕ → Option OpRefusal
refusal_of_name name =
    if same_text name (codes ",") then Some Comma
    else (if same_text name (codes "|") then Some Bar
    else (if same_text name (codes "[]") || same_text name (codes "{}") then Some Brackets
    else None))

-- the first, where there is one
abbrev pub or_else : Option OpRefusal → Option OpRefusal → Option OpRefusal
or_else None other = other
or_else (Some cause) other = Some cause

abbrev pub refusal_of_kind : Operators → ℕ → Option Kind → List ℕ → Option OpRefusal
refusal_of_kind look priority None name = Some NotKind
refusal_of_kind look priority (Some kind) name =
    or_else (refusal_of_name name) (if nat_lt 0 priority && clashes look (class_of kind) name then Some InfixPostfix else None)

abbrev pub refusal : Operators → ℤ → List ℕ → List ℕ → Option OpRefusal
refusal look priority kind name = if is_priority priority then refusal_of_kind look (natural priority) (kind_of kind) name else Some NotPriority

-- the declaration, where the kind is one
abbrev pub declared_by : ℕ → Option Kind → List ℕ → List Declaration
declared_by priority None name = []
declared_by priority (Some kind) name = record { op = record { priority = priority; kind = kind }; name = name } ∷ []

abbrev pub declared : ℤ → List ℕ → List ℕ → List Declaration
declared priority kind name = declared_by (natural priority) (kind_of kind) name

-- what an answer refuses besides memory
abbrev pub cause_of : {A : Type 0} → Result A OpRefusal → Option OpRefusal
cause_of (Ok done) = None
cause_of (Err NoMemory) = None
cause_of (Err NotPriority) = Some NotPriority
cause_of (Err NotKind) = Some NotKind
cause_of (Err Comma) = Some Comma
cause_of (Err Bar) = Some Bar
cause_of (Err Brackets) = Some Brackets
cause_of (Err InfixPostfix) = Some InfixPostfix
