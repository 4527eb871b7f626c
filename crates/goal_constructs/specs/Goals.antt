-- What a goal of a store is.
use Rattle.std.specs.Prelude.{◌≡◌, ℕ, Bool, false, ◌&&◌, nat_lt, codes, Option, Some}
use Rattle.pl_atoms.specs.CaseTable.{case_place}
use Rattle.unit_model.specs.Builtins.{builtins}
use Rattle.goal_model.specs.Bodies.{is_named}
use Rattle.pl_terms.specs.Trees.{Tree, var, int, atom, comp, Trees, nil, cons}
use Rattle.pl_unify.specs.declared.word.Ref.{Ref}
use Rattle.pl_unify.specs.State.{State, tree_at, IsRef}
use Rattle.builtin_model.specs.Naming.{Naming}
use Rattle.builtin_model.specs.Lists.{listed}
use Rattle.builtin_model.specs.Rows.{row_of as builtin_row}
use Rattle.builtin_model.specs.declared.row.Row.{Row as Builtin}
use Rattle.goal_model.specs.Rows.{commit, if_then_else, if_then, either, negation, once, calling, in_module, from_context, repeat, throwing, catching, collecting, plain, user, row_of, name_of}
use Rattle.goal_constructs.specs.declared.row.GoalRow.{GoalRow}
use Rattle.goal_constructs.specs.declared.row.GoalRow.TheVariants as G

abbrev pub arguments_of : Tree ℕ → Trees ℕ
arguments_of (var v) = nil
arguments_of (int z) = nil
arguments_of (atom s) = nil
arguments_of (comp f ts) = ts

-- the term that a goal of call/N calls, and the arguments that it adds; a variable or an integer is its own goal
abbrev pub called_term : Tree ℕ → Tree ℕ
called_term (comp f (cons t ts)) = t
called_term t = t

abbrev pub more_arguments : Tree ℕ → Trees ℕ
more_arguments (comp f (cons t ts)) = ts
more_arguments t = nil

-- a row with the places of its parts is that of the goal at a place
abbrev pub IsRow : Naming ℕ → State → Ref → GoalRow → Type 0
IsRow n s at G.Commit = row_of n (tree_at s at) ≡ commit
IsRow n s at (G.IfThenElse c t e) = IsRef s c × IsRef s t × IsRef s e × (row_of n (tree_at s at) ≡ if_then_else (tree_at s c) (tree_at s t) (tree_at s e))
IsRow n s at (G.IfThen c t) = IsRef s c × IsRef s t × (row_of n (tree_at s at) ≡ if_then (tree_at s c) (tree_at s t))
IsRow n s at (G.Either l r) = IsRef s l × IsRef s r × (row_of n (tree_at s at) ≡ either (tree_at s l) (tree_at s r))
IsRow n s at (G.Negation g) = IsRef s g × (row_of n (tree_at s at) ≡ negation (tree_at s g))
IsRow n s at (G.Once g) = IsRef s g × (row_of n (tree_at s at) ≡ once (tree_at s g))
IsRow n s at G.Calling = row_of n (tree_at s at) ≡ calling (called_term (tree_at s at)) (more_arguments (tree_at s at))
IsRow n s at (G.InModule m g) = IsRef s m × IsRef s g × (row_of n (tree_at s at) ≡ in_module (tree_at s m) (tree_at s g))
IsRow n s at (G.FromContext g m) = IsRef s g × IsRef s m × (row_of n (tree_at s at) ≡ from_context (tree_at s g) (tree_at s m))
IsRow n s at G.Repeat = row_of n (tree_at s at) ≡ repeat
IsRow n s at (G.Throwing b) = IsRef s b × (row_of n (tree_at s at) ≡ throwing (tree_at s b))
IsRow n s at (G.Catching g c r) = IsRef s g × IsRef s c × IsRef s r × (row_of n (tree_at s at) ≡ catching (tree_at s g) (tree_at s c) (tree_at s r))
IsRow n s at (G.Collecting x g z) = IsRef s x × IsRef s g × IsRef s z × (row_of n (tree_at s at) ≡ collecting (tree_at s x) (tree_at s g) (tree_at s z))
IsRow n s at (G.Plain r) = (b : Builtin) × (builtin_row r ≡ Some b) × (row_of n (tree_at s at) ≡ plain b (listed (arguments_of (tree_at s at))))
IsRow n s at G.User = row_of n (tree_at s at) ≡ user (name_of n (tree_at s at)) (arguments_of (tree_at s at))

-- the places of the parts are those of the store
abbrev pub HasPlaces : State → GoalRow → Type 0
HasPlaces s (G.IfThenElse c t e) = IsRef s c × IsRef s t × IsRef s e
HasPlaces s (G.IfThen c t) = IsRef s c × IsRef s t
HasPlaces s (G.Either l r) = IsRef s l × IsRef s r
HasPlaces s (G.Negation g) = IsRef s g
HasPlaces s (G.Once g) = IsRef s g
HasPlaces s (G.InModule m g) = IsRef s m × IsRef s g
HasPlaces s (G.FromContext g m) = IsRef s g × IsRef s m
HasPlaces s (G.Throwing b) = IsRef s b
HasPlaces s (G.Catching g c r) = IsRef s g × IsRef s c × IsRef s r
HasPlaces s (G.Collecting x g z) = IsRef s x × IsRef s g × IsRef s z
HasPlaces s r = Unit {0}

-- ---- what the look-up of a goal's name says

-- the place in the table of built-in procedures of the one with the name f and k arguments
abbrev pub IsPlaceOf : Naming ℕ → ℕ → ℕ → Option ℕ → Type 0
IsPlaceOf n f k place = place ≡ case_place builtins (n.text f) k

-- call with one to eight arguments
abbrev pub is_call : Bool → ℕ → Bool
is_call named k = named && (nat_lt 0 k && nat_lt k 9)

abbrev pub IsNoCall : Naming ℕ → ℕ → ℕ → Type 0
IsNoCall n f k = is_call (is_named n f (codes "call")) k ≡ false
