-- Worked rows: each with a success and, where it has errors, with errors.
use Rattle.std.proofs.Common.{◌≡◌, ℕ, pos, negsuc, List, [], ◌∷◌, codes, refl, Some, None}
use Rattle.pl_terms.specs.Trees.{Tree, var, int, atom, comp, nil, cons}
use Rattle.pl_ops.specs.Standard.{standard}
use Rattle.text_model.specs.declared.Quote.TheVariants.{Plain, Quoted}
use Rattle.value_model.specs.declared.EvalFault.TheVariants as F
use Rattle.value_model.specs.Value.{evaluables}
use Rattle.unit_model.specs.Builtins.{builtins}
use Rattle.builtin_model.specs.declared.error.Expected.TheVariants as E
use Rattle.builtin_model.specs.declared.error.Domain.TheVariants as D
use Rattle.builtin_model.specs.declared.row.Row.{Row}
use Rattle.builtin_model.specs.declared.row.Row.TheVariants as R
use Rattle.builtin_model.specs.declared.row.TypeTest.TheVariants as T
use Rattle.builtin_model.specs.declared.row.OrderTest.TheVariants as O
use Rattle.builtin_model.specs.declared.row.Relation.TheVariants as V
use Rattle.builtin_model.specs.Naming.{by_texts, by_numbers}
use Rattle.builtin_model.specs.Rows.{row_called}
use Rattle.builtin_model.specs.Faults.{instantiation, type_fault, domain_fault, max_arity, not_evaluable, evaluation, fault_tree}
use Rattle.builtin_model.specs.Lists.{arguments, list_tree, variables_from}
use Rattle.builtin_model.specs.Deeds.{Deed, equal, differ, no, raise, halt, yes, unify, deed}
use Rattle.builtin_model.specs.Output.{output}

abbrev Term : Type 0
Term = Tree (List ℕ)

abbrev num : ℕ → Term
num n = int (pos n)

-- -1 - n
abbrev low : ℕ → Term
low n = int (negsuc n)

abbrev a : Term
a = atom (codes "a")

abbrev b : Term
b = atom (codes "b")

abbrev X : Term
X = var 3

abbrev Y : Term
Y = var 1

abbrev of_one : List ℕ → Term → Term
of_one f t = comp f (cons t nil)

abbrev of_two : List ℕ → Term → Term → Term
of_two f t u = comp f (cons t (cons u nil))

abbrev list : List Term → Term
list = list_tree by_texts

-- in a body of the module m, where 7 variables were made
abbrev does : Row → List Term → Deed (List ℕ)
does row ts = deed by_texts row ts (codes "m") 7

-- ---- names of rows

names_equal : row_called (codes "=") 2 ≡ Some R.Unify
unfolding builtins
names_equal = refl

names_less : row_called (codes "<") 2 ≡ Some (R.Value V.Less)
unfolding builtins
names_less = refl

names_not_same : row_called (codes "\\==") 2 ≡ Some (R.Order O.NotSame)
unfolding builtins
names_not_same = refl

names_callable : row_called (codes "callable") 1 ≡ Some (R.Type T.Callable)
unfolding builtins
names_callable = refl

names_functor : row_called (codes "functor") 3 ≡ Some R.Functor
unfolding builtins
names_functor = refl

names_halt : row_called (codes "halt") 1 ≡ Some R.HaltWith
unfolding builtins
names_halt = refl

names_term_variables : row_called (codes "term_variables") 2 ≡ Some R.TermVariables
unfolding builtins
names_term_variables = refl

names_writeq : row_called (codes "writeq") 1 ≡ Some (R.Write Quoted)
unfolding builtins
names_writeq = refl

-- a control construct has none, and nor has a procedure of a user
names_call : row_called (codes "call") 1 ≡ None
unfolding builtins
names_call = refl

names_other : row_called (codes "foo") 1 ≡ None
unfolding builtins
names_other = refl

-- ---- unification, tests, the standard order

unifies : does R.Unify (X ∷ a ∷ []) ≡ equal ((X, a) ∷ []) 0
unifies = refl

differs : does R.NotUnifiable (X ∷ a ∷ []) ≡ differ X a
differs = refl

integer_is_number : does (R.Type T.Number) (num 1 ∷ []) ≡ yes
integer_is_number = refl

integer_is_no_float : does (R.Type T.Float) (num 1 ∷ []) ≡ no
integer_is_no_float = refl

compound_is_callable : does (R.Type T.Callable) (of_one (codes "f") X ∷ []) ≡ yes
compound_is_callable = refl

compound_is_not_atomic : does (R.Type T.Atomic) (of_one (codes "f") X ∷ []) ≡ no
compound_is_not_atomic = refl

variable_inside : does R.Ground (of_one (codes "f") X ∷ []) ≡ no
variable_inside = refl

no_variable_inside : does R.Ground (of_one (codes "f") a ∷ []) ≡ yes
no_variable_inside = refl

-- a term with more arguments is greater, whatever the names
arity_before_name : does (R.Order O.Less) (of_one (codes "g") a ∷ of_two (codes "f") a a ∷ []) ≡ yes
arity_before_name = refl

variables_by_number : does (R.Order O.Less) (X ∷ Y ∷ []) ≡ no
variables_by_number = refl

compared : does R.Compare (X ∷ of_one (codes "f") a ∷ num 1 ∷ []) ≡ unify X (atom (codes ">"))
compared = refl

compared_with_integer : does R.Compare (num 1 ∷ a ∷ b ∷ []) ≡ raise (type_fault E.Atom (num 1))
compared_with_integer = refl

compared_with_other_atom : does R.Compare (a ∷ a ∷ b ∷ []) ≡ raise (domain_fault D.Order a)
compared_with_other_atom = refl

-- ---- functor

functor_of_compound : does R.Functor (of_two (codes "f") a X ∷ X ∷ Y ∷ []) ≡ equal ((X, atom (codes "f")) ∷ (Y, num 2) ∷ []) 0
functor_of_compound = refl

functor_of_integer : does R.Functor (num 5 ∷ X ∷ Y ∷ []) ≡ equal ((X, num 5) ∷ (Y, num 0) ∷ []) 0
functor_of_integer = refl

functor_made : does R.Functor (X ∷ atom (codes "f") ∷ num 2 ∷ []) ≡ equal ((X, of_two (codes "f") (var 7) (var 8)) ∷ []) 2
functor_made = refl

functor_of_no_arguments : does R.Functor (X ∷ num 5 ∷ num 0 ∷ []) ≡ unify X (num 5)
functor_of_no_arguments = refl

functor_unknown : does R.Functor (X ∷ of_one (codes "f") a ∷ Y ∷ []) ≡ raise instantiation
functor_unknown = refl

functor_compound_name : does R.Functor (X ∷ of_one (codes "f") a ∷ b ∷ []) ≡ raise (type_fault E.Atomic (of_one (codes "f") a))
functor_compound_name = refl

functor_atom_arity : does R.Functor (X ∷ a ∷ b ∷ []) ≡ raise (type_fault E.Integer b)
functor_atom_arity = refl

functor_below_zero : does R.Functor (X ∷ atom (codes "f") ∷ low 0 ∷ []) ≡ raise (domain_fault D.NotLessThanZero (low 0))
functor_below_zero = refl

functor_256 : does R.Functor (X ∷ num 1 ∷ num 256 ∷ []) ≡ raise max_arity
functor_256 = refl

functor_integer_name : does R.Functor (X ∷ num 1 ∷ num 255 ∷ []) ≡ raise (type_fault E.Atom (num 1))
functor_integer_name = refl

-- ---- arg

arg_second : does R.Arg (num 2 ∷ of_two (codes "f") a b ∷ X ∷ []) ≡ unify X b
arg_second = refl

arg_zero : does R.Arg (num 0 ∷ of_one (codes "f") a ∷ X ∷ []) ≡ no
arg_zero = refl

arg_above : does R.Arg (num 2 ∷ of_one (codes "f") a ∷ X ∷ []) ≡ no
arg_above = refl

arg_unknown : does R.Arg (a ∷ X ∷ Y ∷ []) ≡ raise instantiation
arg_unknown = refl

arg_atom : does R.Arg (atom (codes "x") ∷ a ∷ Y ∷ []) ≡ raise (type_fault E.Integer (atom (codes "x")))
arg_atom = refl

arg_of_atom : does R.Arg (low 0 ∷ a ∷ Y ∷ []) ≡ raise (type_fault E.Compound a)
arg_of_atom = refl

arg_below_zero : does R.Arg (low 0 ∷ of_one (codes "f") a ∷ Y ∷ []) ≡ raise (domain_fault D.NotLessThanZero (low 0))
arg_below_zero = refl

-- ---- =..

univ_apart : does R.Univ (of_two (codes "f") a X ∷ Y ∷ []) ≡ unify Y (list (atom (codes "f") ∷ a ∷ X ∷ []))
univ_apart = refl

univ_of_integer : does R.Univ (num 5 ∷ Y ∷ []) ≡ unify Y (list (num 5 ∷ []))
univ_of_integer = refl

univ_made : does R.Univ (X ∷ list (atom (codes "f") ∷ a ∷ Y ∷ []) ∷ []) ≡ unify X (of_two (codes "f") a Y)
univ_made = refl

univ_of_one : does R.Univ (X ∷ list (num 5 ∷ []) ∷ []) ≡ unify X (num 5)
univ_of_one = refl

-- the end of the list comes before its head
univ_partial : does R.Univ (X ∷ of_two (codes ".") (of_one (codes "f") a) Y ∷ []) ≡ raise instantiation
univ_partial = refl

univ_improper : does R.Univ (X ∷ of_two (codes ".") Y a ∷ []) ≡ raise (type_fault E.List (of_two (codes ".") Y a))
univ_improper = refl

univ_empty : does R.Univ (X ∷ list [] ∷ []) ≡ raise (domain_fault D.NonEmptyList (list []))
univ_empty = refl

univ_unknown_name : does R.Univ (X ∷ list (Y ∷ a ∷ []) ∷ []) ≡ raise instantiation
univ_unknown_name = refl

univ_compound_name : does R.Univ (X ∷ list (of_one (codes "f") a ∷ []) ∷ []) ≡ raise (type_fault E.Atomic (of_one (codes "f") a))
univ_compound_name = refl

univ_integer_name : does R.Univ (X ∷ list (num 5 ∷ a ∷ []) ∷ []) ≡ raise (type_fault E.Atom (num 5))
univ_integer_name = refl

-- 256 items have a place, and 257 have none
univ_256 : does R.Univ (X ∷ list (a ∷ variables_from 0 255) ∷ []) ≡ unify X (comp (codes "a") (arguments (variables_from 0 255)))
univ_256 = refl

univ_257 : does R.Univ (X ∷ list (a ∷ variables_from 0 256) ∷ []) ≡ raise max_arity
univ_257 = refl

-- ---- copies and variables

copied : does R.CopyTerm (comp (codes "f") (cons X (cons Y (cons X nil))) ∷ Y ∷ []) ≡ equal ((Y, comp (codes "f") (cons (var 7) (cons (var 8) (cons (var 7) nil)))) ∷ []) 2
copied = refl

variables_listed : does R.TermVariables (comp (codes "f") (cons X (cons Y (cons X nil))) ∷ var 5 ∷ []) ≡ unify (var 5) (list (X ∷ Y ∷ []))
variables_listed = refl

-- ---- values

is_sum : does R.Is (X ∷ of_two (codes "+") (num 1) (num 2) ∷ []) ≡ unify X (num 3)
unfolding evaluables
is_sum = refl

is_atom : does R.Is (X ∷ of_two (codes "+") (atom (codes "foo")) (num 1) ∷ []) ≡ raise (not_evaluable (codes "foo") 0)
unfolding evaluables
is_atom = refl

is_over : does R.Is (X ∷ of_two (codes "+") (num 9223372036854775807) (num 1) ∷ []) ≡ raise (evaluation F.Overflow)
unfolding evaluables
is_over = refl

less : does (R.Value V.Less) (num 1 ∷ of_two (codes "+") (num 1) (num 1) ∷ []) ≡ yes
unfolding evaluables
less = refl

not_less : does (R.Value V.Less) (num 2 ∷ of_two (codes "+") (num 1) (num 1) ∷ []) ≡ no
unfolding evaluables
not_less = refl

left_first : does (R.Value V.Equal) (X ∷ a ∷ []) ≡ raise instantiation
left_first = refl

right_next : does (R.Value V.Equal) (num 1 ∷ a ∷ []) ≡ raise (not_evaluable (codes "a") 0)
right_next = refl

-- ---- output, ends, and the caller

character_put : does R.PutChar (a ∷ []) ≡ yes
character_put = refl

character_written : output by_texts R.PutChar (a ∷ []) ≡ codes "a"
character_written = refl

-- é has two bytes
long_character : output by_texts R.PutChar (atom (0xc3 ∷ 0xa9 ∷ []) ∷ []) ≡ 0xc3 ∷ 0xa9 ∷ []
long_character = refl

character_unknown : does R.PutChar (X ∷ []) ≡ raise instantiation
character_unknown = refl

two_characters : does R.PutChar (atom (codes "ab") ∷ []) ≡ raise (type_fault E.Character (atom (codes "ab")))
two_characters = refl

line_written : output by_texts R.NewLine [] ≡ 10 ∷ []
line_written = refl

term_written : output by_texts (R.Write Plain) (of_two (codes "-") a (of_one (codes "-") b) ∷ []) ≡ codes "a- -b"
unfolding standard
term_written = refl

term_quoted : output by_texts (R.Write Quoted) (list (atom (codes "A b") ∷ b ∷ []) ∷ []) ≡ codes "['A b',b]"
unfolding standard
term_quoted = refl

context : does R.CallingContext (X ∷ []) ≡ unify X (atom (codes "m"))
context = refl

succeeds : does R.True [] ≡ yes
succeeds = refl

fails : does R.Fail [] ≡ no
fails = refl

halts : does R.Halt [] ≡ halt (pos 0)
halts = refl

halts_with : does R.HaltWith (low 0 ∷ []) ≡ halt (negsuc 0)
halts_with = refl

halts_with_unknown : does R.HaltWith (X ∷ []) ≡ raise instantiation
halts_with_unknown = refl

halts_with_atom : does R.HaltWith (a ∷ []) ≡ raise (type_fault E.Integer a)
halts_with_atom = refl

-- ---- terms of errors

no_evaluable : fault_tree by_texts (not_evaluable (codes "foo") 0) (codes "is") 2
    ≡ of_two (codes "error") (of_two (codes "type_error") (atom (codes "evaluable")) (of_two (codes "/") (atom (codes "foo")) (num 0))) (of_two (codes "/") (atom (codes "is")) (num 2))
no_evaluable = refl

below_zero : fault_tree by_texts (domain_fault D.NotLessThanZero (low 0)) (codes "functor") 3
    ≡ of_two (codes "error") (of_two (codes "domain_error") (atom (codes "not_less_than_zero")) (low 0)) (of_two (codes "/") (atom (codes "functor")) (num 3))
below_zero = refl

-- ---- over the numbers of a table

abbrev table : List (List ℕ)
table = codes "f" ∷ codes "a" ∷ codes "." ∷ codes "[]" ∷ []

numbers_apart : deed (by_numbers table) R.Univ (comp 0 (cons (atom 1) nil) ∷ var 0 ∷ []) 1 7 ≡ unify (var 0) (comp 2 (cons (atom 0) (cons (comp 2 (cons (atom 1) (cons (atom 3) nil))) nil)))
numbers_apart = refl
