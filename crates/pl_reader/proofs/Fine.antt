-- What holds of each name of the tokens holds of each name of the term.
use Rattle.std.proofs.Common.{◌≡◌, ℕ, zero, suc, ◌≤◌, List, [], ◌∷◌, ◌++◌, Bool, true, false, Option, Some, None, refl, sym, ap, subst, arith, ◌&&◌, if◌then◌else◌}
use Rattle.std.specs.Prelude.{codes, nat_eq, nat_lt, ◌^◌}
use Rattle.std.specs.Str.{chars}
use Rattle.pl_terms.specs.Trees.{Tree, var, int, atom, comp, Trees, nil, cons, count}
use Rattle.pl_ops.specs.Tables.{Operators, same_text}
use Rattle.pl_ops.specs.declared.op.Op.{Op as Operator}
use Rattle.text_model.specs.Tokens.{Lexeme, name, quoted, variable, integer, text_codes, punctuation, stop, Token as ModelToken}
use Rattle.text_model.specs.Grammar.{Bracket, round, curly, square, Item, operand, before, between, after, comma, bar, calls, opens, closes, Parse, leaf, grouped, braced, called, listed, listed_to, prefixed, joined, conjoined, postfixed, Arguments, one, more, yield, all_yield, meaning, all_meaning, list_to, empty_list, arity, IsGood, AreGood}
use Rattle.text_model.specs.Reading.{Move, Place, at_operand, at_operator, is_call, is_closer, is_operator, is_punct, prefix_of, infix_of, postfix_of, first_of, name_move, minus_move, bracket_move, operand_move, operator_move, move, code_list, items_of, with_item, peek, peek_second, Numbered}
use Rattle.pl_reader.specs.Numbering.{Met, lexeme_at, met_after, numbered_from}
use Rattle.pl_reader.specs.Reads.{IsKnown, IsNamed, AreKnown}
use Rattle.pl_reader.proofs.TokenSteps.{numbered-step}

-- each name has the property, and arities are from 1 to 255
abbrev mutual
  pub Fine : (List ℕ → Type 0) → Tree (List ℕ) → Type 0
  Fine P (var n) = Unit {0}
  Fine P (int z) = Unit {0}
  Fine P (atom s) = P s
  Fine P (comp s ts) = P s × (1 ≤ count ts) × (count ts ≤ 255) × AllFine P ts

  pub AllFine : (List ℕ → Type 0) → Trees (List ℕ) → Type 0
  AllFine P nil = Unit {0}
  AllFine P (cons t ts) = Fine P t × AllFine P ts

abbrev pub FineItem : (List ℕ → Type 0) → Item → Type 0
FineItem P (operand t) = Fine P t
FineItem P (before o s) = P s
FineItem P (between o s) = P s
FineItem P (after o s) = P s
FineItem P comma = Unit {0}
FineItem P bar = Unit {0}
FineItem P (calls s) = P s
FineItem P (opens b) = Unit {0}
FineItem P (closes b) = Unit {0}

abbrev pub FineItems : (List ℕ → Type 0) → List Item → Type 0
FineItems P [] = Unit {0}
FineItems P (i ∷ is) = FineItem P i × FineItems P is

abbrev pub FineLexeme : (List ℕ → Type 0) → Lexeme ℕ → Type 0
FineLexeme P (name s) = P s
FineLexeme P (quoted s) = P s
FineLexeme P (variable n) = Unit {0}
FineLexeme P (integer n) = Unit {0}
FineLexeme P (text_codes s) = Unit {0}
FineLexeme P (punctuation c) = Unit {0}
FineLexeme P stop = Unit {0}

abbrev pub FineTokens : (List ℕ → Type 0) → List (ModelToken ℕ) → Type 0
FineTokens P [] = Unit {0}
FineTokens P (t ∷ ts) = FineLexeme P t.lexeme × FineTokens P ts

-- of the names that the grammar itself gives
pub record FineGrammar (P : List ℕ → Type 0) : Type 0 where
  pub comma_fine : P (codes ",")
  pub nil_fine : P (codes "[]")
  pub curly_fine : P (codes "{}")
  pub dot_fine : P (codes ".")

count-meaning : (es : Arguments) → count (all_meaning es) ≡ arity es
count-meaning (one e) = refl
count-meaning (more e es) = ap suc (count-meaning es)

some_arguments : (es : Arguments) → 1 ≤ arity es
some_arguments (one e) = omega arith
some_arguments (more e es) = omega arith

module _ (P : List ℕ → Type 0) (own : FineGrammar P) where
  split : (xs ys : List Item) → FineItems P (xs ++ ys) → FineItems P xs × FineItems P ys
  split [] ys h = (tt, h)
  split (x ∷ xs) ys h = let r = split xs ys h.1 in ((h.0, r.0), r.1)

  fine_list : (ts : Trees (List ℕ)) (t : Tree (List ℕ)) → AllFine P ts → Fine P t → Fine P (list_to ts t)
  fine_list nil t h k = k
  fine_list (cons u us) t h k = (own.dot_fine, omega arith, omega arith, (h.0, (fine_list us t h.1 k, tt)))

  mutual
    pub fine_meaning : (e : Parse) → IsGood e → FineItems P (yield e) → Fine P (meaning e)
    fine_meaning (leaf t) g h = h.0
    fine_meaning (grouped e) g h = fine_meaning e g.1 (split (yield e) (closes round ∷ []) h.1).0
    fine_meaning (braced e) g h = (own.curly_fine, omega arith, omega arith, (fine_meaning e g.1 (split (yield e) (closes curly ∷ []) h.1).0, tt))
    fine_meaning (called s es) g h = (h.0, omega (arith, count-meaning es, some_arguments es), omega (arith, count-meaning es, g.0), all_fine_meaning es g.1 (split (all_yield es) (closes round ∷ []) h.1).0)
    fine_meaning (listed es) g h = fine_list (all_meaning es) empty_list (all_fine_meaning es g (split (all_yield es) (closes square ∷ []) h.1).0) own.nil_fine
    fine_meaning (listed_to es e) g h =
        let r = split (all_yield es) (bar ∷ (yield e ++ closes square ∷ [])) h.1 in
        fine_list (all_meaning es) (meaning e) (all_fine_meaning es g.0 r.0) (fine_meaning e g.2 (split (yield e) (closes square ∷ []) r.1.1).0)
    fine_meaning (prefixed o s e) g h = (h.0, omega arith, omega arith, (fine_meaning e g.1 h.1, tt))
    fine_meaning (joined l o s r) g h =
        let p = split (yield l) (between o s ∷ yield r) h in
        (p.1.0, omega arith, omega arith, (fine_meaning l g.2 p.0, (fine_meaning r g.3 p.1.1, tt)))
    fine_meaning (conjoined l r) g h =
        let p = split (yield l) (comma ∷ yield r) h in
        (own.comma_fine, omega arith, omega arith, (fine_meaning l g.2 p.0, (fine_meaning r g.3 p.1.1, tt)))
    fine_meaning (postfixed l o s) g h =
        let p = split (yield l) (after o s ∷ []) h in
        (p.1.0, omega arith, omega arith, (fine_meaning l g.1 p.0, tt))

    pub all_fine_meaning : (es : Arguments) → AreGood es → FineItems P (all_yield es) → AllFine P (all_meaning es)
    all_fine_meaning (one e) g h = (fine_meaning e g.1 h, tt)
    all_fine_meaning (more e es) g h =
        let p = split (yield e) (comma ∷ all_yield es) h in
        (fine_meaning e g.1 p.0, all_fine_meaning es g.2 p.1.1)

  -- moves
  abbrev FineMove : Option Move → Type 0
  FineMove None = Unit {0}
  FineMove (Some m) = FineItem P m.item

  fine_if : (b : Bool) (x y : Option Move) → FineMove x → FineMove y → FineMove (if b then x else y)
  fine_if true x y h k = h
  fine_if false x y h k = k

  module _ (look : Operators) where
    fine_codes : (cs : List ℕ) → AllFine P (code_list look cs)
    fine_codes [] = tt
    fine_codes (c ∷ cs) = (tt, fine_codes cs)

    fine_minus : (s : List ℕ) (l : Lexeme ℕ) (byte : ℕ) (direct : Bool) → FineMove (minus_move look s (record { lexeme = l; byte = byte; direct = direct }))
    fine_minus s (integer n) byte direct = fine_if (same_text s (codes "-") && direct) _ None tt tt
    fine_minus s (name r) byte direct = tt
    fine_minus s (quoted r) byte direct = tt
    fine_minus s (variable n) byte direct = tt
    fine_minus s (text_codes r) byte direct = tt
    fine_minus s (punctuation c) byte direct = tt
    fine_minus s stop byte direct = tt

    fine_before : (s : List ℕ) (o : Option Operator) → P s → FineMove (elim o as (λ _. Option Move) [ None ↦ None | Some p ↦ Some (record { item = before p s; more = 0; place = at_operand }) ])
    fine_before s None h = tt
    fine_before s (Some p) h = h

    fine_name : (s : List ℕ) (t : ModelToken ℕ) → P s → FineMove (name_move look s t)
    fine_name s t h = fine_if (is_call t) _ _ h (fine_if (if is_operator look s then is_closer t else true) _ _ h (fine_before s (prefix_of look s) h))

    fine_bracket : (b : Bracket) (c : ℕ) (s : List ℕ) (t u : ModelToken ℕ) → P s → FineMove (bracket_move look b c s t u)
    fine_bracket b c s t u h = fine_if (is_punct c t) _ _ (fine_if (is_call u) _ _ h h) tt

    fine_operand : (l : Lexeme ℕ) (t u : ModelToken ℕ) → FineLexeme P l → FineMove (operand_move look l t u)
    fine_operand (name s) t u h = first (minus_move look s t) (name_move look s t) (fine_minus s t.lexeme t.byte t.direct) (fine_name s t h)
      where
        first : (x y : Option Move) → FineMove x → FineMove y → FineMove (first_of look x y)
        first None y h k = k
        first (Some m) y h k = h
    fine_operand (quoted s) t u h = fine_name s t h
    fine_operand (variable n) t u h = tt
    fine_operand (integer n) t u h = fine_if (nat_lt n (2 ^ 63)) _ None tt tt
    fine_operand (text_codes s) t u h = fine_list (code_list look (chars s)) empty_list (fine_codes (chars s)) own.nil_fine
    fine_operand (punctuation c) t u h = fine_if (nat_eq c 40) _ _ tt (fine_if (nat_eq c 91) _ _ (fine_bracket square 93 (codes "[]") t u own.nil_fine) (fine_if (nat_eq c 123) _ None (fine_bracket curly 125 (codes "{}") t u own.curly_fine) tt))
    fine_operand stop t u h = tt

    fine_after : (s : List ℕ) (o p : Option Operator) → P s → FineMove (elim o as (λ _. Option Move) [
      | Some q ↦ Some (record { item = between q s; more = 0; place = at_operand })
      | None ↦ elim p as (λ _. Option Move) [ Some q ↦ Some (record { item = after q s; more = 0; place = at_operator }) | None ↦ None ]
    ])
    fine_after s (Some q) p h = h
    fine_after s None (Some q) h = h
    fine_after s None None h = tt

    fine_operator : (l : Lexeme ℕ) → FineLexeme P l → FineMove (operator_move look l)
    fine_operator (name s) h = fine_after s (infix_of look s) (postfix_of look s) h
    fine_operator (quoted s) h = fine_after s (infix_of look s) (postfix_of look s) h
    fine_operator (variable n) h = tt
    fine_operator (integer n) h = tt
    fine_operator (text_codes s) h = tt
    fine_operator (punctuation c) h = fine_if (nat_eq c 44) _ _ tt (fine_if (nat_eq c 124) _ _ tt (fine_if (nat_eq c 41) _ _ tt (fine_if (nat_eq c 93) _ _ tt (fine_if (nat_eq c 125) _ None tt tt))))
    fine_operator stop h = tt

    fine_move : (p : Place) (t u v : ModelToken ℕ) → FineLexeme P t.lexeme → FineMove (move look p t u v)
    fine_move at_operand t u v h = fine_operand t.lexeme u v h
    fine_move at_operator t u v h = fine_operator t.lexeme h

    abbrev pub FineSome : Option (List Item) → Type 0
    FineSome None = Unit {0}
    FineSome (Some is) = FineItems P is

    fine_with : (i : Item) (x : Option (List Item)) → FineItem P i → FineSome x → FineSome (with_item look i x)
    fine_with i None h k = tt
    fine_with i (Some is) h k = (h, k)

    module _ (following : ModelToken ℕ) where
      fine_step : (ts : List (ModelToken ℕ)) (m : Option Move) → FineMove m → ((n : ℕ) (p : Place) → FineSome (items_of look following n p ts)) → FineSome (elim m as (λ _. Option (List Item)) [ None ↦ None | Some k ↦ with_item look k.item (items_of look following k.more k.place ts) ])
      fine_step ts None h rest = tt
      fine_step ts (Some m) h rest = fine_with m.item (items_of look following m.more m.place ts) h (rest m.more m.place)

      pub fine_items : (ts : List (ModelToken ℕ)) → FineTokens P ts → (n : ℕ) (p : Place) → FineSome (items_of look following n p ts)
      fine_items [] h zero at_operand = tt
      fine_items [] h zero at_operator = tt
      fine_items [] h (suc n) at_operand = tt
      fine_items [] h (suc n) at_operator = tt
      fine_items (t ∷ ts) h zero at_operand = fine_step ts (move look at_operand t (peek look ts following) (peek_second look ts following)) (fine_move at_operand t (peek look ts following) (peek_second look ts following) h.0) (fine_items ts h.1)
      fine_items (t ∷ ts) h zero at_operator = fine_step ts (move look at_operator t (peek look ts following) (peek_second look ts following)) (fine_move at_operator t (peek look ts following) (peek_second look ts following) h.0) (fine_items ts h.1)
      fine_items (t ∷ ts) h (suc n) at_operand = fine_items ts h.1 n at_operand
      fine_items (t ∷ ts) h (suc n) at_operator = fine_items ts h.1 n at_operator

-- of the tokens
fine_known : (names : List (List ℕ)) (m : Met) (l : Lexeme (List ℕ)) → IsKnown names l → FineLexeme (IsNamed names) (lexeme_at m l)
fine_known names m (name s) h = h
fine_known names m (quoted s) h = h
fine_known names m (variable s) h = tt
fine_known names m (integer n) h = tt
fine_known names m (text_codes s) h = tt
fine_known names m (punctuation c) h = tt
fine_known names m stop h = tt

pub fine_tokens : (names : List (List ℕ)) (m : Met) (ts : List (ModelToken (List ℕ))) → AreKnown names ts → FineTokens (IsNamed names) (numbered_from m ts).tokens
fine_tokens names m [] h = tt
fine_tokens names m (t ∷ ts) h =
    let Q : Numbered → Type 0 = λ r. FineTokens (IsNamed names) r.tokens in
    subst Q (sym (numbered-step m t ts)) (fine_known names m t.lexeme h.0, fine_tokens names (met_after m t.lexeme) ts h.1)
