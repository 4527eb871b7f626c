-- The writer as a machine over cells: a stack of what is still to be written, the last first.
use Rattle.std.specs.Prelude.{ℕ, ◌+◌, ◌-◌, ◌*◌, List, [], ◌∷◌, ◌++◌, map, codes, nat_eq, nat_lt, Bool, true, false, ◌&&◌, if◌then◌else◌, Option, Some, None}
use Rattle.pl_atoms.specs.declared.names.NameId.{NameId}
use Rattle.pl_terms.specs.Trees.{Trees, front, back, all_renamed}
use Rattle.pl_terms.specs.Order.{text_of, texts_of}
use Rattle.pl_terms.specs.Cells.{first}
use Rattle.pl_terms.specs.declared.cell.Cell.{Cell}
use Rattle.pl_terms.specs.declared.cell.Cell.TheVariants.{Var, Int, Name as name_cell, Comp}
use Rattle.pl_ops.specs.Tables.{Operators, prefix_class, infix_class, postfix_class, same_text}
use Rattle.pl_ops.specs.declared.op.Op.{Op as Operator}
use Rattle.text_model.specs.Writing.{Piece, shown, all_shown, parted, as_argument, weight_of, first_some, is_any_operator, left_max, right_max}
use Rattle.text_model.specs.declared.Quote.{Quote}
use Rattle.text_model.specs.declared.Role.{Role}
use Rattle.text_model.specs.declared.Role.TheVariants.{SignBefore as sign_before, SignBetween as sign_between, SignAfter as sign_after}
use Rattle.pl_writer.specs.Edges.{piece_of}
use Rattle.pl_writer.specs.declared.todo.Todo.{Todo}
use Rattle.pl_writer.specs.declared.todo.Todo.TheVariants.{Term, Tail, Arguments, Put}
use Rattle.pl_writer.specs.declared.edge.Part.TheVariants.{Mark, Name, Sign, Variable, Integer}

-- a punctuation character, a name that is no operator here, and an operator
abbrev pub mark : ℕ → Todo
mark c = Put (Mark c)

abbrev pub named : NameId → Todo
named s = Put (Name s)

abbrev pub signs : NameId → Role → Todo
signs s r = Put (Sign s r)

-- ---- the weight of the tree whose cells begin somewhere

abbrev pub single_weight : Operators → List ℕ → ℕ
single_weight look s = if same_text s (codes "{}") then 0 else weight_of (first_some (look prefix_class s) (look postfix_class s))

abbrev pub comp_weight : Operators → List ℕ → ℕ → ℕ
comp_weight look s arity =
    if nat_eq arity 1 then single_weight look s
    else if nat_eq arity 2 then (if same_text s (codes ".") then 0 else weight_of (look infix_class s))
    else 0

abbrev pub cell_weight : Operators → List (List ℕ) → List Cell → ℕ
cell_weight look names [] = 0
cell_weight look names (Var n ∷ cs) = 0
cell_weight look names (Int z ∷ cs) = 0
cell_weight look names (name_cell s ∷ cs) = 0
cell_weight look names (Comp s k ∷ cs) = comp_weight look (text_of names s.0) k

-- ---- what a term becomes, the last first

abbrev pub wrapped_todo : Bool → List Todo → List Todo
wrapped_todo true ts = mark 41 ∷ (ts ++ mark 40 ∷ [])
wrapped_todo false ts = ts

abbrev pub functional_todo : NameId → ℕ → List Todo
functional_todo s k = mark 41 ∷ Arguments k ∷ mark 40 ∷ named s ∷ []

abbrev pub prefix_todo : NameId → ℕ → Operator → List Todo
prefix_todo s max o = wrapped_todo (nat_lt max o.priority) (Term (right_max o) true ∷ signs s sign_before ∷ [])

abbrev pub postfix_todo : NameId → ℕ → ℕ → Operator → List Todo
postfix_todo s w max o = wrapped_todo (nat_lt max o.priority) (signs s sign_after ∷ Term (left_max o w) true ∷ [])

abbrev pub infix_todo : NameId → ℕ → ℕ → Operator → List Todo
infix_todo s w max o = wrapped_todo (nat_lt max o.priority) (Term (right_max o) true ∷ signs s sign_between ∷ Term (left_max o w) true ∷ [])

abbrev pub last_todo : Option Operator → NameId → ℕ → ℕ → List Todo
last_todo (Some o) s w max = postfix_todo s w max o
last_todo None s w max = functional_todo s 1

abbrev pub one_todo : Option Operator → Option Operator → NameId → ℕ → ℕ → List Todo
one_todo (Some o) p s w max = prefix_todo s max o
one_todo None p s w max = last_todo p s w max

abbrev pub two_todo : Option Operator → NameId → ℕ → ℕ → List Todo
two_todo (Some o) s w max = infix_todo s w max o
two_todo None s w max = functional_todo s 2

module _ (look : Operators) where
  abbrev pub single_todo : List ℕ → NameId → ℕ → ℕ → List Todo
  single_todo text s w max =
      if same_text text (codes "{}") then mark 125 ∷ Term 1200 false ∷ mark 123 ∷ []
      else one_todo (look prefix_class text) (look postfix_class text) s w max

  abbrev pub pair_todo : List ℕ → NameId → ℕ → ℕ → List Todo
  pair_todo text s w max =
      if same_text text (codes ".") then Tail ∷ Term 999 false ∷ mark 91 ∷ []
      else two_todo (look infix_class text) s w max

  abbrev pub compound_todo : List ℕ → NameId → ℕ → ℕ → ℕ → List Todo
  compound_todo text s k w max = if nat_eq k 1 then single_todo text s w max else if nat_eq k 2 then pair_todo text s w max else functional_todo s k

  abbrev pub atom_todo : List ℕ → NameId → Bool → List Todo
  atom_todo text s operand = if same_text text (codes "[]") then named s ∷ [] else wrapped_todo (operand && is_any_operator look text) (named s ∷ [])

-- a tail is at its end, or an item more, or neither
module _ (names : List (List ℕ)) where
  abbrev pub is_end_tail : List Cell → Bool
  is_end_tail [] = false
  is_end_tail (Var n ∷ cs) = false
  is_end_tail (Int z ∷ cs) = false
  is_end_tail (name_cell s ∷ cs) = same_text (text_of names s.0) (codes "[]")
  is_end_tail (Comp s k ∷ cs) = false

  abbrev pub is_item_tail : List Cell → Bool
  is_item_tail [] = false
  is_item_tail (Var n ∷ cs) = false
  is_item_tail (Int z ∷ cs) = false
  is_item_tail (name_cell s ∷ cs) = false
  is_item_tail (Comp s k ∷ cs) = nat_eq k 2 && same_text (text_of names s.0) (codes ".")

  abbrev pub tail_todo : List Cell → List Todo
  tail_todo cs =
      if is_end_tail cs then mark 93 ∷ []
      else if is_item_tail cs then Tail ∷ Term 999 false ∷ mark 44 ∷ []
      else mark 93 ∷ Term 999 false ∷ mark 124 ∷ []

module _ (look : Operators) (names : List (List ℕ)) where
  abbrev pub term_todo : ℕ → Bool → List Cell → List Todo
  term_todo max operand [] = []
  term_todo max operand (Var n ∷ cs) = Put (Variable n) ∷ []
  term_todo max operand (Int z ∷ cs) = Put (Integer z) ∷ []
  term_todo max operand (name_cell s ∷ cs) = atom_todo look (text_of names s.0) s operand
  term_todo max operand (Comp s k ∷ cs) = compound_todo look (text_of names s.0) s k (cell_weight look names cs) max

  -- ---- the pieces of what is still to be written

  abbrev pub Rest : Type 0
  Rest = Trees ℕ → List Piece

  module _ (q : Quote) where
    abbrev pub doing : Todo → Rest → Rest
    doing (Term max operand) k ts = (shown look q (texts_of names (first ts))).term max operand ++ k (back 1 ts)
    doing Tail k ts = (shown look q (texts_of names (first ts))).tail ++ k (back 1 ts)
    doing (Arguments n) k ts = parted (map as_argument (all_shown look q (all_renamed (text_of names) (front n ts)))) ++ k (back n ts)
    doing (Put p) k ts = piece_of names q p ∷ k ts

    -- what is to be done, the last first, and then the rest
    abbrev pub done_before : List Todo → Rest → Rest
    done_before [] k = k
    done_before (x ∷ xs) k = done_before xs (doing x k)

-- ---- how much is still to be done

-- the trees that it takes
abbrev pub needs : Todo → ℕ
needs (Term max operand) = 1
needs Tail = 1
needs (Arguments n) = n
needs (Put p) = 0

abbrev pub all_needs : List Todo → ℕ
all_needs [] = 0
all_needs (x ∷ xs) = needs x + all_needs xs

abbrev pub cost : Todo → ℕ
cost (Term max operand) = 1
cost Tail = 4
cost (Arguments n) = 3 * n + 1
cost (Put p) = 1

abbrev pub all_costs : List Todo → ℕ
all_costs [] = 0
all_costs (x ∷ xs) = cost x + all_costs xs

abbrev pub arguments_todo : ℕ → List Todo
arguments_todo n = if nat_eq n 0 then [] else if nat_eq n 1 then Term 999 false ∷ [] else Arguments (n - 1) ∷ mark 44 ∷ Term 999 false ∷ []
