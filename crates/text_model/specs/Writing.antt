-- Written terms: the pieces of a tree, and the spaces between them.
use Rattle.std.specs.Prelude.{ℕ, ℤ, pos, negsuc, suc, ◌+◌, ◌-◌, List, [], ◌∷◌, ◌++◌, length, map, codes, nat_eq, nat_lt, nat_le, Bool, true, false, ◌&&◌, ◌||◌, if◌then◌else◌, Option, Some, None, is_some}
use Rattle.std.specs.Fmt.{decimal}
use Rattle.std.specs.List.{list_all, flat_map}
use Rattle.pl_terms.specs.Trees.{Tree, var, int, atom, comp, Trees, nil, cons}
use Rattle.pl_ops.specs.Tables.{Operators, prefix_class, infix_class, postfix_class, same_text}
use Rattle.pl_ops.specs.declared.op.Op.{Op as Operator}
use Rattle.text_model.specs.Tokens.{is_lower, is_alnum, is_digit, is_symbol, head_of, starts}
use Rattle.text_model.specs.Grammar.{left_y, right_y, right_weight, left_weight, argument_priority, max_priority}
-- How names are written.
use Rattle.text_model.specs.declared.Quote.{Quote}
use Rattle.text_model.specs.declared.Quote.TheVariants.{Plain as plain, Quoted as quotes}
-- How a piece stands in its term.
use Rattle.text_model.specs.declared.Role.{Role}
use Rattle.text_model.specs.declared.Role.TheVariants.{Ordinary as ordinary, SignBefore as sign_before, SignBetween as sign_between, SignAfter as sign_after}

pub record Piece : Type 0 where
  pub text : List ℕ
  pub role : Role

abbrev pub plain_piece : List ℕ → Piece
plain_piece s = record { text = s; role = ordinary }

-- ---- names

-- symbol characters that begin no comment and are no full stop
abbrev pub are_signs : List ℕ → Bool
are_signs s = nat_lt 0 (length s) && (list_all is_symbol s && ((if starts 47 42 s then false else true) && (if same_text s (codes ".") then false else true)))

abbrev pub is_solo : List ℕ → Bool
is_solo s = same_text s (codes "[]") || (same_text s (codes "{}") || (same_text s (codes "!") || same_text s (codes ";")))

abbrev pub is_bare : List ℕ → Bool
is_bare s = (is_lower (head_of s) && list_all is_alnum s) || (are_signs s || is_solo s)

abbrev pub hex_digit : ℕ → ℕ
hex_digit n = if nat_lt n 10 then 48 + n else 87 + n

-- a code below 128, without leading zeros
abbrev pub hex : ℕ → List ℕ
hex n = if nat_lt n 16 then hex_digit n ∷ [] else hex_digit (Rattle.std.specs.Prelude.◌/◌ n 16) ∷ hex_digit (Rattle.std.specs.Prelude.◌%◌ n 16) ∷ []

abbrev pub escape_letter : ℕ → ℕ
escape_letter b =
    if nat_eq b 7 then 97 else if nat_eq b 8 then 98 else if nat_eq b 9 then 116 else if nat_eq b 10 then 110
    else if nat_eq b 11 then 118 else if nat_eq b 12 then 102 else 114

-- a byte in single quotes
abbrev pub escaped : ℕ → List ℕ
escaped b =
    if nat_eq b 92 then 92 ∷ 92 ∷ []
    else if nat_eq b 39 then 92 ∷ 39 ∷ []
    else if nat_le 7 b && nat_le b 13 then 92 ∷ escape_letter b ∷ []
    else if nat_lt b 32 || nat_eq b 127 then 92 ∷ 120 ∷ (hex b ++ 92 ∷ [])
    else b ∷ []

abbrev pub name_text : Quote → List ℕ → List ℕ
name_text plain s = s
name_text quotes s = if is_bare s then s else 39 ∷ (flat_map escaped s ++ 39 ∷ [])

abbrev pub int_text : ℤ → List ℕ
int_text (pos n) = decimal n
int_text (negsuc n) = 45 ∷ decimal (suc n)

-- ---- the pieces of a term

abbrev pub is_operand_place : Bool → Bool → Bool
is_operand_place named operand_here = named && operand_here

abbrev pub wrapped : Bool → List Piece → List Piece
wrapped true ps = plain_piece (codes "(") ∷ (ps ++ plain_piece (codes ")") ∷ [])
wrapped false ps = ps

abbrev pub signed : Quote → Role → List ℕ → Piece
signed q r s = if same_text s (codes ",") then plain_piece s else record { text = name_text q s; role = r }

abbrev pub prefix_in : Operators → List ℕ → Option Operator
prefix_in look s = if same_text s (codes "{}") then None else look prefix_class s

abbrev pub postfix_in : Operators → List ℕ → Option Operator
postfix_in look s = if same_text s (codes "{}") then None else look postfix_class s

abbrev pub infix_in : Operators → List ℕ → Option Operator
infix_in look s = if same_text s (codes ".") then None else look infix_class s

abbrev pub is_any_operator : Operators → List ℕ → Bool
is_any_operator look s = is_some (look prefix_class s) || (is_some (look infix_class s) || is_some (look postfix_class s))

-- Twice the priority of the operator with which a tree is written, and one more where its last operand may have the same
abbrev pub weight_of : Option Operator → ℕ
weight_of None = 0
weight_of (Some o) = right_weight o

abbrev pub first_some : Option Operator → Option Operator → Option Operator
first_some None p = p
first_some (Some o) p = Some o

abbrev pub tree_weight : Operators → Tree (List ℕ) → ℕ
tree_weight look (var n) = 0
tree_weight look (int z) = 0
tree_weight look (atom s) = 0
tree_weight look (comp s nil) = 0
tree_weight look (comp s (cons a nil)) = weight_of (first_some (prefix_in look s) (postfix_in look s))
tree_weight look (comp s (cons a (cons b nil))) = weight_of (infix_in look s)
tree_weight look (comp s (cons a (cons b (cons c ts)))) = 0

abbrev pub right_max : Operator → ℕ
right_max o = if nat_eq (right_y o.kind) 1 then o.priority else o.priority - 1

abbrev pub left_max : Operator → ℕ → ℕ
left_max o weight = if nat_lt weight (left_weight o) && nat_eq (left_y o.kind) 1 then o.priority else o.priority - 1

-- A tree's pieces: as a term of priority at most a number, as an operand or not; and as what follows an item of a list.
pub record Shown : Type 0 where
  pub term : ℕ → Bool → List Piece
  pub tail : List Piece

abbrev pub parted : List (List Piece) → List Piece
parted [] = []
parted (ps ∷ []) = ps
parted (ps ∷ rs ∷ rss) = ps ++ plain_piece (codes ",") ∷ parted (rs ∷ rss)

abbrev pub as_argument : Shown → List Piece
as_argument a = a.term argument_priority false

abbrev pub tail_of : (ℕ → Bool → List Piece) → List Piece
tail_of term = plain_piece (codes "|") ∷ (term argument_priority false ++ plain_piece (codes "]") ∷ [])

abbrev pub shown_by : (ℕ → Bool → List Piece) → Shown
shown_by term = record { term = term; tail = tail_of term }

module _ (look : Operators) (q : Quote) where
  abbrev pub functional : List ℕ → List Shown → List Piece
  functional s args = plain_piece (name_text q s) ∷ plain_piece (codes "(") ∷ (parted (map as_argument args) ++ plain_piece (codes ")") ∷ [])

  -- an operator and its one operand, where weight is the operand's
  abbrev pub with_prefix : List ℕ → Operator → Shown → ℕ → List Piece
  with_prefix s o a max = wrapped (nat_lt max o.priority) (signed q sign_before s ∷ a.term (right_max o) true)

  abbrev pub with_postfix : List ℕ → Operator → ℕ → Shown → ℕ → List Piece
  with_postfix s o weight a max = wrapped (nat_lt max o.priority) (a.term (left_max o weight) true ++ signed q sign_after s ∷ [])

  abbrev pub with_infix : List ℕ → Operator → ℕ → Shown → Shown → ℕ → List Piece
  with_infix s o weight a b max = wrapped (nat_lt max o.priority) (a.term (left_max o weight) true ++ signed q sign_between s ∷ b.term (right_max o) true)

  abbrev pub one_argument : Option Operator → Option Operator → List ℕ → ℕ → Shown → ℕ → List Piece
  one_argument (Some o) p s weight a max = with_prefix s o a max
  one_argument None (Some o) s weight a max = with_postfix s o weight a max
  one_argument None None s weight a max = functional s (a ∷ [])

  abbrev pub two_arguments : Option Operator → List ℕ → ℕ → Shown → Shown → ℕ → List Piece
  two_arguments (Some o) s weight a b max = with_infix s o weight a b max
  two_arguments None s weight a b max = functional s (a ∷ b ∷ [])

  abbrev pub braces : Shown → List Piece
  braces a = plain_piece (codes "{") ∷ (a.term max_priority false ++ plain_piece (codes "}") ∷ [])

  abbrev pub pair : Bool → List ℕ → ℕ → Shown → Shown → Shown
  pair true s weight a b = record {
    term = λ max operand_here. plain_piece (codes "[") ∷ (as_argument a ++ b.tail);
    tail = plain_piece (codes ",") ∷ (as_argument a ++ b.tail);
  }
  pair false s weight a b = shown_by (λ max operand_here. two_arguments (infix_in look s) s weight a b max)

  abbrev pub single : Bool → List ℕ → ℕ → Shown → Shown
  single true s weight a = shown_by (λ max operand_here. braces a)
  single false s weight a = shown_by (λ max operand_here. one_argument (prefix_in look s) (postfix_in look s) s weight a max)

  abbrev pub compound : List ℕ → ℕ → List Shown → Shown
  compound s weight [] = shown_by (λ max operand_here. functional s [])
  compound s weight (a ∷ []) = single (same_text s (codes "{}")) s weight a
  compound s weight (a ∷ b ∷ []) = pair (same_text s (codes ".")) s weight a b
  compound s weight (a ∷ b ∷ c ∷ cs) = shown_by (λ max operand_here. functional s (a ∷ b ∷ c ∷ cs))

  abbrev pub name_shown : Bool → List ℕ → Shown
  name_shown true s = record { term = λ max operand_here. plain_piece (name_text q s) ∷ []; tail = plain_piece (codes "]") ∷ [] }
  name_shown false s = shown_by (λ max operand_here. wrapped (is_any_operator look s && operand_here) (plain_piece (name_text q s) ∷ []))

  abbrev pub first_weight : Trees (List ℕ) → ℕ
  first_weight nil = 0
  first_weight (cons t ts) = tree_weight look t

  abbrev mutual
    pub shown : Tree (List ℕ) → Shown
    shown (var n) = shown_by (λ max operand_here. plain_piece (codes "_G" ++ decimal n) ∷ [])
    shown (int z) = shown_by (λ max operand_here. plain_piece (int_text z) ∷ [])
    shown (atom s) = name_shown (same_text s (codes "[]")) s
    shown (comp s ts) = compound s (first_weight ts) (all_shown ts)

    pub all_shown : Trees (List ℕ) → List Shown
    all_shown nil = []
    all_shown (cons t ts) = shown t ∷ all_shown ts

-- ---- spaces

abbrev pub last_of : ℕ → List ℕ → ℕ
last_of c [] = c
last_of c (b ∷ bs) = last_of b bs

abbrev pub is_sign : Role → Bool
is_sign ordinary = false
is_sign _ = true

abbrev pub is_letter : ℕ → Bool
is_letter b = is_lower b || (nat_le 65 b && nat_le b 90)

abbrev pub are_letters : List ℕ → Bool
are_letters s = list_all is_letter s && nat_lt 0 (length s)

-- an operator of letters, written as the operator of its term
abbrev pub is_letters : Piece → Bool
is_letters p = is_sign p.role && are_letters p.text

abbrev pub is_before : Role → Bool
is_before sign_before = true
is_before _ = false

abbrev pub is_sign_before : Piece → Bool
is_sign_before p = is_before p.role

abbrev pub is_parted : Piece → Piece → Bool
is_parted p r =
    let last = last_of 256 p.text in
    let first = head_of r.text in
    (is_alnum last && is_alnum first)
    || ((is_symbol last && is_symbol first)
    || ((is_letters p || is_letters r)
    || ((is_sign_before p && same_text r.text (codes "("))
    || ((is_sign_before p && (same_text p.text (codes "-") && is_digit first))
    || (nat_eq last 39 && nat_eq first 39)))))

abbrev pub spaced_after : Piece → List Piece → List ℕ
spaced_after p [] = []
spaced_after p (r ∷ rs) = (if is_parted p r then 32 ∷ [] else []) ++ r.text ++ spaced_after r rs

abbrev pub spaced : List Piece → List ℕ
spaced [] = []
spaced (p ∷ ps) = p.text ++ spaced_after p ps

abbrev pub written : Operators → Quote → ℕ → Tree (List ℕ) → List ℕ
written look q max t = spaced ((shown look q t).term max false)
