-- Names in written terms, read back.
use Rattle.std.proofs.Common.{◌≡◌, ℕ, ◌+◌, List, [], ◌∷◌, length, Bool, true, false, ◌&&◌, ◌||◌, if◌then◌else◌, Option, Some, None, refl, sym, ap, ◌∙◌, subst, inl, inr, nat_eq, nat_lt}
use Rattle.std.specs.Prelude.{codes, IsUtf8}
use Rattle.std.specs.List.{list_all}
use Rattle.pl_terms.specs.Trees.{atom}
use Rattle.pl_ops.specs.Tables.{same_text}
use Rattle.text_model.specs.Tokens.{name, quoted, punctuation, stop, Token, is_lower, is_alnum, is_symbol, head_of, starts}
use Rattle.text_model.specs.Grammar.{Item, operand, calls}
use Rattle.text_model.specs.Reading.{is_closer, is_call, Place, at_operand, at_operator, Move}
use Rattle.text_model.specs.Reading as reading
use Rattle.text_model.specs.Writing.{Piece, plain_piece, name_text, is_parted, is_bare, last_of}
use Rattle.text_model.specs.declared.Quote.TheVariants.{Quoted as quotes}
use Rattle.text_model.specs.declared.Role.TheVariants.{Ordinary as ordinary}
use Rattle.writing_laws.proofs.Look.{look}
use Rattle.writing_laws.proofs.Bools.{bool_of, and-false, if_true, if_false, same_text-true}
use Rattle.writing_laws.proofs.Spells.{Spell, word, in_quotes, number, negative_number, sign, square_pair, curly_pair, text_in, piece_in, at_byte, gap, follows_directly, tokens_after, tokens_from, gap_to, directly_to, after-from, closes_at, clings, first_closes, first_clings, is_numeric, IsSpell, is_word}

abbrev pub end_at : ℕ → Token ℕ
end_at b = at_byte stop b false

abbrev pub items : ℕ → Place → List (Token ℕ) → Option (List Item)
items b place ts = reading.items_of look (end_at b) 0 place ts

-- what the tokens at a place give, wherever they stand
abbrev pub Gives : ℕ → Place → List Spell → List Item → Type 0
Gives b place vs is = (at : ℕ) (direct : Bool) → items b place (tokens_from at direct vs) ≡ Some is

pub gives-after : (b : ℕ) (place : Place) (vs : List Spell) (is : List Item) → Gives b place vs is → (at : ℕ) (u : Spell) → items b place (tokens_after at u vs) ≡ Some is
gives-after b place vs is h at u = ap (items b place) (after-from {V = ℕ} at u vs) ∙ h (at + gap_to u vs) (directly_to u vs)

abbrev with_move : Token ℕ → List (Token ℕ) → ℕ → Option Move → Option (List Item)
with_move end ts b o = elim o [
  | None ↦ None
  | Some m ↦ reading.with_item look m.item (reading.items_of look end m.more m.place ts)
]

-- one step
pub stepped : (b : ℕ) (place : Place) (t : Token ℕ) (ts : List (Token ℕ)) (m : Move) (is : List Item) → reading.move look place t (reading.peek look ts (end_at b)) (reading.peek_second look ts (end_at b)) ≡ Some m → reading.items_of look (end_at b) m.more m.place ts ≡ Some is → items b place (t ∷ ts) ≡ Some (m.item ∷ is)
stepped b place t ts m is h k = ap (with_move (end_at b) ts b) h ∙ ap (reading.with_item look m.item) k

-- ---- what the next token is

abbrev next_token : ℕ → ℕ → Spell → List Spell → Token ℕ
next_token b at u vs = reading.peek look (tokens_after {V = ℕ} at u vs) (end_at b)

pub next_closer : (b at : ℕ) (u : Spell) (vs : List Spell) → is_closer (next_token b at u vs) ≡ first_closes vs
next_closer b at u [] = refl
next_closer b at u (word r s ∷ vs) = refl
next_closer b at u (in_quotes r s ∷ vs) = refl
next_closer b at u (number n ∷ vs) = refl
next_closer b at u (negative_number n ∷ vs) = refl
next_closer b at u (sign c ∷ vs) = refl
next_closer b at u (square_pair ∷ vs) = refl
next_closer b at u (curly_pair ∷ vs) = refl

pub next_no_call : (b at : ℕ) (u : Spell) (vs : List Spell) → first_clings vs ≡ false → is_call (next_token b at u vs) ≡ false
next_no_call b at u [] h = refl
next_no_call b at u (word r s ∷ vs) h = and-false (follows_directly u (word r s))
next_no_call b at u (in_quotes r s ∷ vs) h = and-false (follows_directly u (in_quotes r s))
next_no_call b at u (number n ∷ vs) h = and-false (follows_directly u (number n))
next_no_call b at u (negative_number n ∷ vs) h = and-false (follows_directly u (negative_number n))
next_no_call b at u (sign c ∷ vs) h = ap (λ x. follows_directly u (sign c) && x) h ∙ and-false (follows_directly u (sign c))
next_no_call b at u (square_pair ∷ vs) h = and-false (follows_directly u square_pair)
next_no_call b at u (curly_pair ∷ vs) h = and-false (follows_directly u curly_pair)

pub next_no_integer : (b at : ℕ) (u : Spell) (vs : List Spell) (s : List ℕ) → first_clings vs ≡ false → reading.minus_move look s (next_token b at u vs) ≡ None
next_no_integer b at u [] s h = refl
next_no_integer b at u (word r t ∷ vs) s h = refl
next_no_integer b at u (in_quotes r t ∷ vs) s h = refl
next_no_integer b at u (number n ∷ vs) s h = absurd (cc)
next_no_integer b at u (negative_number n ∷ vs) s h = refl
next_no_integer b at u (sign c ∷ vs) s h = refl
next_no_integer b at u (square_pair ∷ vs) s h = refl
next_no_integer b at u (curly_pair ∷ vs) s h = refl

-- ---- a name as an atom

abbrev leaf_item : List ℕ → Move
leaf_item s = record { item = operand (atom s); more = 0; place = at_operator }

either_test : (o c : Bool) → (o ≡ true → c ≡ true) → (if o then c else true) ≡ true
either_test true c h = h refl
either_test false c h = refl

name_leaf : (s : List ℕ) (next : Token ℕ) → is_call next ≡ false → (reading.is_operator look s ≡ true → is_closer next ≡ true) → reading.name_move look s next ≡ Some (leaf_item s)
name_leaf s next h k =
    if_false (is_call next) (Some (record { item = calls s; more = 1; place = at_operand })) _ h
    ∙ if_true (if reading.is_operator look s then is_closer next else true) (Some (leaf_item s)) _ (either_test (reading.is_operator look s) (is_closer next) k)

-- an opening bracket directly after a name, which is ordinary
not_parted : (a b c d e f : Bool) → e ≡ false → f ≡ false → ((a && false) || ((b && false) || ((e || false) || ((f && true) || ((f && (c && false)) || (d && false)))))) ≡ false
not_parted true true true true e f h k = rw (h, k) refl
not_parted true true true false e f h k = rw (h, k) refl
not_parted true true false true e f h k = rw (h, k) refl
not_parted true true false false e f h k = rw (h, k) refl
not_parted true false true true e f h k = rw (h, k) refl
not_parted true false true false e f h k = rw (h, k) refl
not_parted true false false true e f h k = rw (h, k) refl
not_parted true false false false e f h k = rw (h, k) refl
not_parted false true true true e f h k = rw (h, k) refl
not_parted false true true false e f h k = rw (h, k) refl
not_parted false true false true e f h k = rw (h, k) refl
not_parted false true false false e f h k = rw (h, k) refl
not_parted false false true true e f h k = rw (h, k) refl
not_parted false false true false e f h k = rw (h, k) refl
not_parted false false false true e f h k = rw (h, k) refl
not_parted false false false false e f h k = rw (h, k) refl

call_direct : (t : List ℕ) → is_parted (plain_piece t) (plain_piece (codes "(")) ≡ false
call_direct t = not_parted (is_alnum (last_of 256 t)) (is_symbol (last_of 256 t)) (same_text t (codes "-")) (nat_eq (last_of 256 t) 39) false false refl refl

-- A name in a term, as an atom or before its arguments.
pub record Named (s : List ℕ) (p : Piece) : Type 0 where
  pub spell : Spell
  pub same : piece_in spell ≡ p
  pub are : IsSpell spell
  pub opens : closes_at spell ≡ false
  pub is_name : clings spell ≡ false
  pub leaf : (b : ℕ) (vs : List Spell) (is : List Item) → first_clings vs ≡ false → (reading.is_operator look s ≡ true → first_closes vs ≡ true) → Gives b at_operator vs is → Gives b at_operand (spell ∷ vs) (operand (atom s) ∷ is)
  pub call : (b : ℕ) (us : List Spell) (is : List Item) → Gives b at_operand us is → Gives b at_operand (spell ∷ sign 40 ∷ us) (calls s ∷ is)
  pub plain : is_numeric spell ≡ false

called_move : (s : List ℕ) (direct : Bool) (at : ℕ) → direct ≡ true → reading.name_move look s (at_byte (punctuation 40) at direct) ≡ Some (record { item = calls s; more = 1; place = at_operand })
called_move s true at h = refl
called_move s false at h = absurd (cc)

direct_after : (t : List ℕ) → (if is_parted (plain_piece t) (plain_piece (codes "(")) then false else true) ≡ true
direct_after t = if_false (is_parted (plain_piece t) (plain_piece (codes "("))) false true (call_direct t)

pub word_named : (s : List ℕ) → is_word s ≡ true → Named s (plain_piece s)
word_named s h = record {
  spell = word ordinary s;
  same = refl;
  are = h;
  opens = refl;
  is_name = refl;
  plain = refl;
  leaf = λ b vs is no_call closes k at direct.
      let u = word ordinary s in
      let move = ap (λ o. reading.first_of look o (reading.name_move look s (next_token b (at + length s) u vs))) (next_no_integer b (at + length s) u vs s no_call) ∙ name_leaf s (next_token b (at + length s) u vs) (next_no_call b (at + length s) u vs no_call) (λ o. next_closer b (at + length s) u vs ∙ closes o) in
      stepped b at_operand (at_byte (name s) at direct) (tokens_after (at + length s) u vs) (leaf_item s) is move (gives-after b at_operator vs is k (at + length s) u);
  call = λ b us is k at direct.
      let u = word ordinary s in
      stepped b at_operand (at_byte (name s) at direct) (tokens_after (at + length s) u (sign 40 ∷ us)) (record { item = calls s; more = 1; place = at_operand }) is (called_move s (follows_directly u (sign 40)) (at + length s + gap u (sign 40)) (direct_after s)) (gives-after b at_operand us is k (at + length s + gap u (sign 40) + 1) (sign 40));
}

pub quoted_named : (s : List ℕ) → IsUtf8 s → Named s (plain_piece (text_in (in_quotes ordinary s)))
quoted_named s h = record {
  spell = in_quotes ordinary s;
  same = refl;
  are = h;
  opens = refl;
  is_name = refl;
  plain = refl;
  leaf = λ b vs is no_call closes k at direct.
      let u = in_quotes ordinary s in
      let n = length (text_in (in_quotes ordinary s)) in
      stepped b at_operand (at_byte (quoted s) at direct) (tokens_after (at + n) u vs) (leaf_item s) is (name_leaf s (next_token b (at + n) u vs) (next_no_call b (at + n) u vs no_call) (λ o. next_closer b (at + n) u vs ∙ closes o)) (gives-after b at_operator vs is k (at + n) u);
  call = λ b us is k at direct.
      let u = in_quotes ordinary s in
      let n = length (text_in (in_quotes ordinary s)) in
      stepped b at_operand (at_byte (quoted s) at direct) (tokens_after (at + n) u (sign 40 ∷ us)) (record { item = calls s; more = 1; place = at_operand }) is (called_move s (follows_directly u (sign 40)) (at + n + gap u (sign 40)) (direct_after (text_in u))) (gives-after b at_operand us is k (at + n + gap u (sign 40) + 1) (sign 40));
}

pub square_named : Named (codes "[]") (plain_piece (codes "[]"))
square_named = record {
  spell = square_pair;
  same = refl;
  are = tt;
  opens = refl;
  is_name = refl;
  plain = refl;
  leaf = λ b vs is no_call closes k at direct.
      stepped b at_operand (at_byte (punctuation 91) at direct) (at_byte (punctuation 93) (at + 1) true ∷ tokens_after (at + 2) square_pair vs) (record { item = operand (atom (codes "[]")); more = 1; place = at_operator }) is
      (if_false (is_call (next_token b (at + 2) square_pair vs)) (Some (record { item = calls (codes "[]"); more = 2; place = at_operand })) (Some (record { item = operand (atom (codes "[]")); more = 1; place = at_operator })) (next_no_call b (at + 2) square_pair vs no_call)) (gives-after b at_operator vs is k (at + 2) square_pair);
  call = λ b us is k at direct.
      stepped b at_operand (at_byte (punctuation 91) at direct) (at_byte (punctuation 93) (at + 1) true ∷ tokens_after (at + 2) square_pair (sign 40 ∷ us)) (record { item = calls (codes "[]"); more = 2; place = at_operand }) is refl (gives-after b at_operand us is k (at + 2 + gap square_pair (sign 40) + 1) (sign 40));
}

pub curly_named : Named (codes "{}") (plain_piece (codes "{}"))
curly_named = record {
  spell = curly_pair;
  same = refl;
  are = tt;
  opens = refl;
  is_name = refl;
  plain = refl;
  leaf = λ b vs is no_call closes k at direct.
      stepped b at_operand (at_byte (punctuation 123) at direct) (at_byte (punctuation 125) (at + 1) true ∷ tokens_after (at + 2) curly_pair vs) (record { item = operand (atom (codes "{}")); more = 1; place = at_operator }) is
      (if_false (is_call (next_token b (at + 2) curly_pair vs)) (Some (record { item = calls (codes "{}"); more = 2; place = at_operand })) (Some (record { item = operand (atom (codes "{}")); more = 1; place = at_operator })) (next_no_call b (at + 2) curly_pair vs no_call)) (gives-after b at_operator vs is k (at + 2) curly_pair);
  call = λ b us is k at direct.
      stepped b at_operand (at_byte (punctuation 123) at direct) (at_byte (punctuation 125) (at + 1) true ∷ tokens_after (at + 2) curly_pair (sign 40 ∷ us)) (record { item = calls (codes "{}"); more = 2; place = at_operand }) is refl (gives-after b at_operand us is k (at + 2 + gap curly_pair (sign 40) + 1) (sign 40));
}

bare-word : (a b x : Bool) (p q : Bool) → p ≡ false → q ≡ false → (a || (b || (p || (q || x)))) ≡ (a || (b || x))
bare-word a b x true q h k = absurd (cc)
bare-word a b x false true h k = absurd (cc)
bare-word a b x false false h k = refl

pub bare_is_word : (s : List ℕ) → same_text s (codes "[]") ≡ false → same_text s (codes "{}") ≡ false → is_bare s ≡ is_word s
bare_is_word s h k =
    ap (λ p. (is_lower (head_of s) && list_all is_alnum s) || ((nat_lt 0 (length s) && (list_all is_symbol s && ((if starts 47 42 s then false else true) && (if same_text s (codes ".") then false else true)))) || (p || (same_text s (codes "{}") || (same_text s (codes "!") || same_text s (codes ";")))))) h
    ∙ ap (λ q. (is_lower (head_of s) && list_all is_alnum s) || ((nat_lt 0 (length s) && (list_all is_symbol s && ((if starts 47 42 s then false else true) && (if same_text s (codes ".") then false else true)))) || (q || (same_text s (codes "!") || same_text s (codes ";"))))) k

-- every name
pub named : (s : List ℕ) → IsUtf8 s → Named s (plain_piece (name_text quotes s))
named s h = elim (bool_of (same_text s (codes "[]"))) [
  | inl e ↦ subst (λ x. Named x (plain_piece (name_text quotes x))) (sym (same_text-true s (codes "[]") e)) square_named
  | inr no_square ↦ elim (bool_of (same_text s (codes "{}"))) [
    | inl e ↦ subst (λ x. Named x (plain_piece (name_text quotes x))) (sym (same_text-true s (codes "{}") e)) curly_named
    | inr no_curly ↦ elim (bool_of (is_bare s)) [
      | inl bare ↦ subst (λ x. Named s (plain_piece x)) (sym (if_true (is_bare s) s (text_in (in_quotes ordinary s)) bare)) (word_named s (sym (bare_is_word s no_square no_curly) ∙ bare))
      | inr not_bare ↦ subst (λ x. Named s (plain_piece x)) (sym (if_false (is_bare s) s (text_in (in_quotes ordinary s)) not_bare)) (quoted_named s h)
    ]
  ]
]
