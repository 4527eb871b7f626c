-- The variables of the tokens stand in the items in their order, and the integers of the items have 64 bits.
use Rattle.std.proofs.Common.{◌≡◌, ℕ, zero, suc, pos, ◌≤◌, ◌<◌, ◌^◌, List, [], ◌∷◌, ◌++◌, Bool, true, false, ◌&&◌, nat_eq, nat_lt, Option, Some, None, refl, sym, ap, ◌∙◌, subst, arith, if◌then◌else◌, append-nil, codes, ⊎_elim, FitsSigned, w64}
use Rattle.std.specs.List.{AllByRecursion}
use Rattle.std.specs.Str.{IsUtf8, chars}
use Rattle.std.proofs.lemmas.Bool.{ltb-true}
use Rattle.std.proofs.lemmas.Str.{chars-encodes}
use Rattle.std.proofs.Math.Utf8.{scalar, scalars, scalar_cases}
use Rattle.pl_terms.specs.Trees.{int, atom}
use Rattle.pl_ops.specs.Tables.{Operators, same_text}
use Rattle.pl_ops.specs.declared.op.Op.{Op as Operator}
use Rattle.text_model.specs.Tokens.{Lexeme, name, quoted, variable, integer, text_codes, punctuation, stop, Token}
use Rattle.text_model.specs.Grammar.{Bracket, round, curly, square, Item, operand, before, between, after, comma, bar, calls, opens, closes, list_to, empty_list}
use Rattle.text_model.specs.Reading.{Move, Place, at_operand, at_operator, is_call, is_closer, is_operator, is_punct, prefix_of, infix_of, postfix_of, first_of, leaf_move, name_move, minus_move, negative, bracket_move, operand_move, operator_move, move, code_list, items_of, with_item, peek, peek_second}
use Rattle.pl_tokens.proofs.Encoded.{both-left, both-right}
use Rattle.pl_tokens.proofs.Sound.{pick}
use Rattle.reading_laws.proofs.Numbers.{numbers, all_numbers, numbers-list_to, item_numbers, items_numbers, variables_in, variables_in-append, IntegersFit, integers-append}

abbrev pub lexeme_variables : Lexeme ℕ → List ℕ
lexeme_variables (name s) = []
lexeme_variables (quoted s) = []
lexeme_variables (variable n) = n ∷ []
lexeme_variables (integer n) = []
lexeme_variables (text_codes s) = []
lexeme_variables (punctuation c) = []
lexeme_variables stop = []

abbrev pub tokens_variables : List (Token ℕ) → List ℕ
tokens_variables [] = []
tokens_variables (t ∷ ts) = lexeme_variables t.lexeme ++ tokens_variables ts

-- an integer of a token is at most 2 ^ 63, and a text is UTF-8
abbrev pub FitsLexeme : Lexeme ℕ → Type 0
FitsLexeme (name s) = Unit {0}
FitsLexeme (quoted s) = Unit {0}
FitsLexeme (variable n) = Unit {0}
FitsLexeme (integer n) = n ≤ 2 ^ 63
FitsLexeme (text_codes s) = IsUtf8 s
FitsLexeme (punctuation c) = Unit {0}
FitsLexeme stop = Unit {0}

abbrev pub TokensFit : List (Token ℕ) → Type 0
TokensFit = AllByRecursion (λ t. FitsLexeme t.lexeme)

-- the first tokens are no variables
abbrev pub Skips : ℕ → List (Token ℕ) → Type 0
Skips zero ts = Unit {0}
Skips (suc n) [] = Unit {0}
Skips (suc n) (t ∷ ts) = (lexeme_variables t.lexeme ≡ []) × Skips n ts

-- the item has these variables, and the tokens that it takes besides have none
abbrev KeepsMove : List ℕ → List (Token ℕ) → Option Move → Type 0
KeepsMove vs ts None = Unit {0}
KeepsMove vs ts (Some m) = (variables_in (item_numbers m.item) ≡ vs) × IntegersFit (item_numbers m.item) × Skips m.more ts

-- codes of a text
bounded : (cs : List ℕ) → scalars cs ≡ true → AllByRecursion (λ c. c < 2 ^ 63) cs
bounded [] h = tt
bounded (c ∷ cs) h =
    let first : c < 2 ^ 63 = ⊎_elim (λ l. omega arith) (λ l. omega (arith, l.1)) (scalar_cases c (both-left (scalar c) (scalars cs) h)) in
    (first, bounded cs (both-right (scalar c) (scalars cs) h))

chars_bounded : (s : List ℕ) → IsUtf8 s → AllByRecursion (λ c. c < 2 ^ 63) (chars s)
chars_bounded s u =
    let same : u.0 ≡ chars s = sym (ap chars (sym u.1.1) ∙ chars-encodes u.0 u.1.0) in
    subst (AllByRecursion (λ c. c < 2 ^ 63)) same (bounded u.0 u.1.0)

is-plain : (c : ℕ) (l : Lexeme ℕ) (byte : ℕ) (direct : Bool) → is_punct c (record { lexeme = l; byte = byte; direct = direct }) ≡ true → lexeme_variables l ≡ []
is-plain c (name s) byte direct e = refl
is-plain c (quoted s) byte direct e = refl
is-plain c (variable n) byte direct e = absurd (cc)
is-plain c (integer n) byte direct e = refl
is-plain c (text_codes s) byte direct e = refl
is-plain c (punctuation d) byte direct e = refl
is-plain c stop byte direct e = refl

module _ (look : Operators) where
  negative-fits : (n : ℕ) → n ≤ 2 ^ 63 → FitsSigned w64 (negative look n)
  negative-fits zero h = record { sfits = omega arith }
  negative-fits (suc n) h = record { sfits = omega arith }

  codes-fit : (cs : List ℕ) → AllByRecursion (λ c. c < 2 ^ 63) cs → IntegersFit (all_numbers (code_list look cs))
  codes-fit [] h = tt
  codes-fit (c ∷ cs) h = (record { sfits = h.0 }, codes-fit cs h.1)

  codes-plain : (cs : List ℕ) → variables_in (all_numbers (code_list look cs)) ≡ []
  codes-plain [] = refl
  codes-plain (c ∷ cs) = codes-plain cs

  list-numbers : (cs : List ℕ) → numbers (list_to (code_list look cs) empty_list) ≡ all_numbers (code_list look cs)
  list-numbers cs = numbers-list_to (code_list look cs) empty_list ∙ append-nil (all_numbers (code_list look cs))

  -- operators
  keep_after : (s : List ℕ) (ts : List (Token ℕ)) (o p : Option Operator) → KeepsMove [] ts (elim o as (λ _. Option Move) [
    | Some q ↦ Some (record { item = between q s; more = 0; place = at_operand })
    | None ↦ elim p as (λ _. Option Move) [ Some q ↦ Some (record { item = after q s; more = 0; place = at_operator }) | None ↦ None ]
  ])
  keep_after s ts (Some q) p = (refl, tt, tt)
  keep_after s ts None (Some q) = (refl, tt, tt)
  keep_after s ts None None = tt

  keep_sign : (ts : List (Token ℕ)) (b : Bool) (i : Item) (p : Place) (m : Option Move) → item_numbers i ≡ [] → KeepsMove [] ts m → KeepsMove [] ts (if b then Some (record { item = i; more = 0; place = p }) else m)
  keep_sign ts true i p m e k = (ap variables_in e, subst IntegersFit (sym e) tt, tt)
  keep_sign ts false i p m e k = k

  keep_operator : (l : Lexeme ℕ) (ts : List (Token ℕ)) → KeepsMove (lexeme_variables l) ts (operator_move look l)
  keep_operator (name s) ts = keep_after s ts (infix_of look s) (postfix_of look s)
  keep_operator (quoted s) ts = keep_after s ts (infix_of look s) (postfix_of look s)
  keep_operator (variable n) ts = tt
  keep_operator (integer n) ts = tt
  keep_operator (text_codes s) ts = tt
  keep_operator (punctuation c) ts =
      keep_sign ts (nat_eq c 44) comma at_operand _ refl (keep_sign ts (nat_eq c 124) bar at_operand _ refl (keep_sign ts (nat_eq c 41) (closes round) at_operator _ refl (
      keep_sign ts (nat_eq c 93) (closes square) at_operator _ refl (keep_sign ts (nat_eq c 125) (closes curly) at_operator None refl tt))))
  keep_operator stop ts = tt

  module _ (following : Token ℕ) where
    -- a token more that is no variable
    one_more : (ts : List (Token ℕ)) → lexeme_variables (peek look ts following).lexeme ≡ [] → Skips 1 ts
    one_more [] e = tt
    one_more (t ∷ ts) e = (e, tt)

    one_sign : (c : ℕ) (ts : List (Token ℕ)) → is_punct c (peek look ts following) ≡ true → Skips 1 ts
    one_sign c ts e = let t = peek look ts following in one_more ts (is-plain c t.lexeme t.byte t.direct e)

    two_signs : (c d : ℕ) (ts : List (Token ℕ)) → is_punct c (peek look ts following) ≡ true → is_punct d (peek_second look ts following) ≡ true → Skips 2 ts
    two_signs c d [] e f = tt
    two_signs c d (t ∷ ts) e f = (is-plain c t.lexeme t.byte t.direct e, one_sign d ts f)

    keep_before : (s : List ℕ) (ts : List (Token ℕ)) (o : Option Operator) → KeepsMove [] ts (elim o as (λ _. Option Move) [ None ↦ None | Some p ↦ Some (record { item = before p s; more = 0; place = at_operand }) ])
    keep_before s ts None = tt
    keep_before s ts (Some p) = (refl, tt, tt)

    keep_name : (s : List ℕ) (ts : List (Token ℕ)) → KeepsMove [] ts (name_move look s (peek look ts following))
    keep_name s ts =
        let t = peek look ts following in
        pick (KeepsMove [] ts) (is_call t) _ _ (λ e. (refl, tt, one_sign 40 ts (both-right t.direct _ e))) (λ _.
        pick (KeepsMove [] ts) (if is_operator look s then is_closer t else true) (leaf_move look (atom s)) _ (λ _. (refl, tt, tt)) (λ _. keep_before s ts (prefix_of look s)))

    keep_minus : (s : List ℕ) (ts : List (Token ℕ)) (l : Lexeme ℕ) (byte : ℕ) (direct : Bool) → FitsLexeme l → (lexeme_variables l ≡ [] → Skips 1 ts)
        → KeepsMove [] ts (minus_move look s (record { lexeme = l; byte = byte; direct = direct }))
    keep_minus s ts (integer n) byte direct h skip =
        pick (KeepsMove [] ts) (same_text s (codes "-") && direct) _ None (λ _. (refl, (negative-fits n h, tt), skip refl)) (λ _. tt)
    keep_minus s ts (name r) byte direct h skip = tt
    keep_minus s ts (quoted r) byte direct h skip = tt
    keep_minus s ts (variable n) byte direct h skip = tt
    keep_minus s ts (text_codes r) byte direct h skip = tt
    keep_minus s ts (punctuation c) byte direct h skip = tt
    keep_minus s ts stop byte direct h skip = tt

    keep_bracket : (b : Bracket) (c : ℕ) (s : List ℕ) (ts : List (Token ℕ)) → KeepsMove [] ts (bracket_move look b c s (peek look ts following) (peek_second look ts following))
    keep_bracket b c s ts =
        let t = peek look ts following in
        let u = peek_second look ts following in
        pick (KeepsMove [] ts) (is_punct c t) _ (Some (record { item = opens b; more = 0; place = at_operand }))
        (λ e. pick (KeepsMove [] ts) (is_call u) (Some (record { item = calls s; more = 2; place = at_operand })) (Some (record { item = operand (atom s); more = 1; place = at_operator }))
        (λ f. (refl, tt, two_signs c 40 ts e (both-right u.direct _ f)))
        (λ _. (refl, tt, one_sign c ts e)))
        (λ _. (refl, tt, tt))

    first : (ts : List (Token ℕ)) (x y : Option Move) → KeepsMove [] ts x → KeepsMove [] ts y → KeepsMove [] ts (first_of look x y)
    first ts None y h k = k
    first ts (Some m) y h k = h

    keep_operand : (l : Lexeme ℕ) (ts : List (Token ℕ)) → FitsLexeme l → FitsLexeme (peek look ts following).lexeme
        → KeepsMove (lexeme_variables l) ts (operand_move look l (peek look ts following) (peek_second look ts following))
    keep_operand (name s) ts h k =
        let t = peek look ts following in
        first ts (minus_move look s t) (name_move look s t) (keep_minus s ts t.lexeme t.byte t.direct k (one_more ts)) (keep_name s ts)
    keep_operand (quoted s) ts h k = keep_name s ts
    keep_operand (variable n) ts h k = (refl, (tt, tt), tt)
    keep_operand (integer n) ts h k = pick (KeepsMove [] ts) (nat_lt n (2 ^ 63)) (leaf_move look (int (pos n))) None (λ t. (refl, (record { sfits = ltb-true n (2 ^ 63) t }, tt), tt)) (λ _. tt)
    keep_operand (text_codes s) ts h k =
        (ap variables_in (list-numbers (chars s)) ∙ codes-plain (chars s), subst IntegersFit (sym (list-numbers (chars s))) (codes-fit (chars s) (chars_bounded s h)), tt)
    keep_operand (punctuation c) ts h k =
        let P : Option Move → Type 0 = KeepsMove [] ts in
        pick P (nat_eq c 40) (Some (record { item = opens round; more = 0; place = at_operand })) _ (λ _. (refl, tt, tt)) (λ _.
        pick P (nat_eq c 91) _ _ (λ _. keep_bracket square 93 (codes "[]") ts) (λ _.
        pick P (nat_eq c 123) _ None (λ _. keep_bracket curly 125 (codes "{}") ts) (λ _. tt)))
    keep_operand stop ts h k = tt

    -- the items of the tokens
    abbrev pub KeepsItems : List ℕ → Option (List Item) → Type 0
    KeepsItems vs None = Unit {0}
    KeepsItems vs (Some is) = (variables_in (items_numbers is) ≡ vs) × IntegersFit (items_numbers is)

    keep_with : (vs ws : List ℕ) (i : Item) (x : Option (List Item)) → variables_in (item_numbers i) ≡ vs → IntegersFit (item_numbers i) → KeepsItems ws x → KeepsItems (vs ++ ws) (with_item look i x)
    keep_with vs ws i None e h k = tt
    keep_with vs ws i (Some is) e h k = (
      variables_in-append (item_numbers i) (items_numbers is) ∙ ap (λ l. l ++ variables_in (items_numbers is)) e ∙ ap (λ l. vs ++ l) k.0,
      integers-append (item_numbers i) (items_numbers is) h k.1,
    )

    keep_step : (vs : List ℕ) (ts : List (Token ℕ)) (m : Option Move) → KeepsMove vs ts m → ((n : ℕ) (p : Place) → Skips n ts → KeepsItems (tokens_variables ts) (items_of look following n p ts))
        → KeepsItems (vs ++ tokens_variables ts) (elim m as (λ _. Option (List Item)) [ None ↦ None | Some k ↦ with_item look k.item (items_of look following k.more k.place ts) ])
    keep_step vs ts None h rest = tt
    keep_step vs ts (Some m) h rest = keep_with vs (tokens_variables ts) m.item (items_of look following m.more m.place ts) h.0 h.1 (rest m.more m.place h.2)

    module _ (end : FitsLexeme following.lexeme) where
      next_fits : (ts : List (Token ℕ)) → TokensFit ts → FitsLexeme (peek look ts following).lexeme
      next_fits [] h = end
      next_fits (t ∷ ts) h = h.0

      pub keep_items : (ts : List (Token ℕ)) → TokensFit ts → (n : ℕ) (p : Place) → Skips n ts → KeepsItems (tokens_variables ts) (items_of look following n p ts)
      keep_items [] h zero at_operand k = tt
      keep_items [] h zero at_operator k = (refl, tt)
      keep_items [] h (suc n) at_operand k = tt
      keep_items [] h (suc n) at_operator k = (refl, tt)
      keep_items (t ∷ ts) h zero at_operand k =
          keep_step (lexeme_variables t.lexeme) ts (move look at_operand t (peek look ts following) (peek_second look ts following)) (keep_operand t.lexeme ts h.0 (next_fits ts h.1)) (keep_items ts h.1)
      keep_items (t ∷ ts) h zero at_operator k =
          keep_step (lexeme_variables t.lexeme) ts (move look at_operator t (peek look ts following) (peek_second look ts following)) (keep_operator t.lexeme ts) (keep_items ts h.1)
      keep_items (t ∷ ts) h (suc n) at_operand k =
          subst (λ vs. KeepsItems (vs ++ tokens_variables ts) (items_of look following n at_operand ts)) (sym k.0) (keep_items ts h.1 n at_operand k.1)
      keep_items (t ∷ ts) h (suc n) at_operator k =
          subst (λ vs. KeepsItems (vs ++ tokens_variables ts) (items_of look following n at_operator ts)) (sym k.0) (keep_items ts h.1 n at_operator k.1)
