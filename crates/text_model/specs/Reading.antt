-- From tokens to items: which token is an operand, an operator and of which class. Then terms over tokens.
use Rattle.std.specs.Prelude.{◌≡◌, ℕ, ℤ, pos, negsuc, zero, suc, ◌^◌, List, [], ◌∷◌, ◌++◌, codes, nat_eq, nat_lt, Bool, true, false, ◌&&◌, ◌||◌, if◌then◌else◌, Option, Some, None, is_some}
use Rattle.std.specs.Str.{chars}
use Rattle.pl_terms.specs.Trees.{Tree, var, int, atom, Trees, nil, cons}
use Rattle.pl_ops.specs.Tables.{Operators, prefix_class, infix_class, postfix_class, same_text}
use Rattle.pl_ops.specs.declared.op.Op.{Op as Operator}
use Rattle.text_model.specs.Tokens.{Lexeme, name, quoted, variable, integer, text_codes, punctuation, stop, Token}
use Rattle.text_model.specs.Grammar.{Bracket, round, curly, square, Item, operand, before, between, after, comma, bar, calls, opens, closes, Reads, max_priority, empty_list, list_to}

-- ---- variables in order of first occurrence

-- The number of a name that was met.
abbrev pub number_of : List ℕ → List (List ℕ × ℕ) → Option ℕ
number_of s [] = None
number_of s (p ∷ ps) = if same_text p.0 s then Some p.1 else number_of s ps

abbrev pub is_anonymous : List ℕ → Bool
is_anonymous s = same_text s (codes "_")

pub record Numbered : Type 0 where
  pub tokens : List (Token ℕ)
  pub names : List (List ℕ × ℕ)
  pub next : ℕ

abbrev pub with_token : Token ℕ → Numbered → Numbered
with_token t r = record { tokens = t ∷ r.tokens; names = r.names; next = r.next }

abbrev pub relabelled : Token (List ℕ) → Lexeme ℕ → Token ℕ
relabelled t l = record { lexeme = l; byte = t.byte; direct = t.direct }

-- the tokens with numbers for variables: names are those that were met, and next is the first number that is free
abbrev pub numbered : List (List ℕ × ℕ) → ℕ → List (Token (List ℕ)) → Numbered
numbered names next [] = record { tokens = []; names = names; next = next }
numbered names next (t ∷ ts) = elim t.lexeme [
  | variable s ↦ elim (if is_anonymous s then None else number_of s names) [
    | Some n ↦ with_token (relabelled t (variable n)) (numbered names next ts)
    | None ↦ with_token (relabelled t (variable next)) (numbered (if is_anonymous s then names else names ++ (s, next) ∷ []) (suc next) ts)
  ]
  | name s ↦ with_token (relabelled t (name s)) (numbered names next ts)
  | quoted s ↦ with_token (relabelled t (quoted s)) (numbered names next ts)
  | integer n ↦ with_token (relabelled t (integer n)) (numbered names next ts)
  | text_codes s ↦ with_token (relabelled t (text_codes s)) (numbered names next ts)
  | punctuation c ↦ with_token (relabelled t (punctuation c)) (numbered names next ts)
  | stop ↦ with_token (relabelled t stop) (numbered names next ts)
]

-- ---- items

pub data Place : Type 0 where
  at_operand : Place
  at_operator : Place

-- An item, how many tokens more it takes, and the place after it.
pub record Move : Type 0 where
  pub item : Item
  pub more : ℕ
  pub place : Place

abbrev pub is_punct : ℕ → Token ℕ → Bool
is_punct c t = elim t.lexeme [ punctuation d ↦ nat_eq d c | l ↦ false ]

-- a closing bracket, a comma, a bar or the end
abbrev pub is_closer : Token ℕ → Bool
is_closer t = elim t.lexeme [
  | punctuation d ↦ nat_eq d 41 || (nat_eq d 93 || (nat_eq d 125 || (nat_eq d 44 || nat_eq d 124)))
  | stop ↦ true
  | l ↦ false
]

-- a bracket that makes the name before it a function's
abbrev pub is_call : Token ℕ → Bool
is_call t = t.direct && is_punct 40 t

-- no operator is named by a comma in quotes, nor by an atom of brackets
abbrev pub is_special : List ℕ → Bool
is_special s = same_text s (codes ",") || (same_text s (codes "[]") || (same_text s (codes "{}") || same_text s (codes "|")))

module _ (look : Operators) where
  abbrev pub prefix_of : List ℕ → Option Operator
  prefix_of s = if is_special s then None else look prefix_class s

  abbrev pub infix_of : List ℕ → Option Operator
  infix_of s = if is_special s then None else look infix_class s

  abbrev pub postfix_of : List ℕ → Option Operator
  postfix_of s = if is_special s then None else look postfix_class s

  abbrev pub is_operator : List ℕ → Bool
  is_operator s = is_some (prefix_of s) || (is_some (infix_of s) || is_some (postfix_of s))

  abbrev pub leaf_move : Tree (List ℕ) → Option Move
  leaf_move t = Some (record { item = operand t; more = 0; place = at_operator })

  -- a name in an operand place
  abbrev pub name_move : List ℕ → Token ℕ → Option Move
  name_move s next =
      if is_call next then Some (record { item = calls s; more = 1; place = at_operand })
      else if (if is_operator s then is_closer next else true) then leaf_move (atom s)
      else elim (prefix_of s) [ None ↦ None | Some o ↦ Some (record { item = before o s; more = 0; place = at_operand }) ]

  -- a pair of brackets with nothing between, or an opening one
  abbrev pub bracket_move : Bracket → ℕ → List ℕ → Token ℕ → Token ℕ → Option Move
  bracket_move b close s next after_next =
      if is_punct close next
      then (if is_call after_next then Some (record { item = calls s; more = 2; place = at_operand })
      else Some (record { item = operand (atom s); more = 1; place = at_operator }))
      else Some (record { item = opens b; more = 0; place = at_operand })

  abbrev pub negative : ℕ → ℤ
  negative zero = pos 0
  negative (suc n) = negsuc n

  -- a minus sign directly before an integer
  abbrev pub minus_move : List ℕ → Token ℕ → Option Move
  minus_move s next = elim next.lexeme [
    | integer n ↦ if same_text s (codes "-") && next.direct then Some (record { item = operand (int (negative n)); more = 1; place = at_operator }) else None
    | l ↦ None
  ]

  abbrev pub first_of : Option Move → Option Move → Option Move
  first_of None m = m
  first_of (Some k) m = Some k

  abbrev pub code_list : List ℕ → Trees (List ℕ)
  code_list [] = nil
  code_list (c ∷ cs) = cons (int (pos c)) (code_list cs)

  abbrev pub operand_move : Lexeme ℕ → Token ℕ → Token ℕ → Option Move
  operand_move (name s) next after_next = first_of (minus_move s next) (name_move s next)
  operand_move (quoted s) next after_next = name_move s next
  operand_move (variable n) next after_next = leaf_move (var n)
  operand_move (integer n) next after_next = if nat_lt n (2 ^ 63) then leaf_move (int (pos n)) else None
  operand_move (text_codes s) next after_next = leaf_move (list_to (code_list (chars s)) empty_list)
  operand_move (punctuation c) next after_next =
      if nat_eq c 40 then Some (record { item = opens round; more = 0; place = at_operand })
      else if nat_eq c 91 then bracket_move square 93 (codes "[]") next after_next
      else if nat_eq c 123 then bracket_move curly 125 (codes "{}") next after_next
      else None
  operand_move stop next after_next = None

  abbrev pub operator_named : List ℕ → Option Move
  operator_named s = elim (infix_of s) [
    | Some o ↦ Some (record { item = between o s; more = 0; place = at_operand })
    | None ↦ elim (postfix_of s) [ Some o ↦ Some (record { item = after o s; more = 0; place = at_operator }) | None ↦ None ]
  ]

  abbrev pub operator_move : Lexeme ℕ → Option Move
  operator_move (name s) = operator_named s
  operator_move (quoted s) = operator_named s
  operator_move (variable n) = None
  operator_move (integer n) = None
  operator_move (text_codes s) = None
  operator_move (punctuation c) =
      if nat_eq c 44 then Some (record { item = comma; more = 0; place = at_operand })
      else if nat_eq c 124 then Some (record { item = bar; more = 0; place = at_operand })
      else if nat_eq c 41 then Some (record { item = closes round; more = 0; place = at_operator })
      else if nat_eq c 93 then Some (record { item = closes square; more = 0; place = at_operator })
      else if nat_eq c 125 then Some (record { item = closes curly; more = 0; place = at_operator })
      else None
  operator_move stop = None

  abbrev pub move : Place → Token ℕ → Token ℕ → Token ℕ → Option Move
  move at_operand t next after_next = operand_move t.lexeme next after_next
  move at_operator t next after_next = operator_move t.lexeme

  abbrev pub peek : List (Token ℕ) → Token ℕ → Token ℕ
  peek [] following = following
  peek (t ∷ ts) following = t

  abbrev pub peek_second : List (Token ℕ) → Token ℕ → Token ℕ
  peek_second [] following = following
  peek_second (t ∷ ts) following = peek ts following

  abbrev pub with_item : Item → Option (List Item) → Option (List Item)
  with_item i None = None
  with_item i (Some is) = Some (i ∷ is)

  -- the items of the tokens, after so many that the item before took
  abbrev pub items_of : Token ℕ → ℕ → Place → List (Token ℕ) → Option (List Item)
  items_of following n at_operand [] = None
  items_of following n at_operator [] = Some []
  items_of following (suc n) place (t ∷ ts) = items_of following n place ts
  items_of following zero place (t ∷ ts) = elim (move place t (peek ts following) (peek_second ts following)) [
    | None ↦ None
    | Some m ↦ with_item m.item (items_of following m.more m.place ts)
  ]

-- The tokens, whose variables have numbers, read as the tree.
pub record ReadsTokens (look : Operators) (tokens : List (Token ℕ)) (following : Token ℕ) (max : ℕ) (t : Tree (List ℕ)) : Type 0 where
  pub items : List Item
  pub classified : items_of look following 0 at_operand tokens ≡ Some items
  pub reads : Reads items max t

abbrev pub OneTreeOfTokens : Type 0
OneTreeOfTokens = (look : Operators) (tokens : List (Token ℕ)) (following : Token ℕ) (t u : Tree (List ℕ)) → ReadsTokens look tokens following max_priority t → ReadsTokens look tokens following max_priority u → t ≡ u
