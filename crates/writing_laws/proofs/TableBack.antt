-- The standard table: its operators, and their tokens.
use Rattle.std.proofs.Common.{◌≡◌, ℕ, ◌+◌, ◌≤◌, ◌<◌, ◌^◌, List, [], ◌∷◌, length, Bool, true, false, ◌&&◌, ◌||◌, if◌then◌else◌, Option, Some, None, refl, sym, ap, ◌∙◌, arith, subst, ◌⊎◌, inl, inr, nat_eq, nat_le}
use Rattle.std.specs.Prelude.{codes}
use Rattle.std.specs.Option.{is_some}
use Rattle.std.specs.Fmt.{decimal}
use Rattle.std.specs.Int.{IsInRange}
use Rattle.std.specs.Str.Parse.{IsNumeral}
use Rattle.std.specs.List.{list_all}
use Rattle.std.proofs.lemmas.Bool.{eqb-true, leb-true, le-leb}
use Rattle.std.proofs.lemmas.Fmt.{decimal_is_IsNumeral}
use Rattle.std.proofs.lemmas.Str.Parse.{digit_from_value}
use Rattle.pl_terms.specs.Trees.{int, atom}
use Rattle.pl_ops.specs.Tables.{Class, class_of, same_class, Declaration, prefix_class, infix_class, postfix_class, same_text, last_declared, later_or, unless_zero, is_for}
use Rattle.pl_ops.specs.declared.op.Kind.{Kind}
use Rattle.pl_ops.specs.declared.op.Kind.TheVariants.{Xfx as xfx, Xfy as xfy, Yfx as yfx, Fx as fx, Fy as fy, Xf as xf, Yf as yf}
use Rattle.pl_ops.specs.declared.op.Op.{Op as Operator}
use Rattle.text_model.specs.Tokens.{name, Token, is_alnum, is_digit, is_symbol, head_of}
use Rattle.text_model.specs.Grammar.{Item, operand, before, between, after, calls, comma_op}
use Rattle.text_model.specs.Reading.{is_closer, is_call, at_operand, at_operator, Move, is_special}
use Rattle.text_model.specs.Reading as reading
use Rattle.text_model.specs.Writing.{plain_piece, name_text, is_parted, is_bare, is_letters, last_of, signed, is_any_operator}
use Rattle.text_model.specs.declared.Quote.TheVariants.{Quoted as quotes}
use Rattle.text_model.specs.declared.Role.{Role}
use Rattle.text_model.specs.declared.Role.TheVariants.{Ordinary as ordinary, SignBefore as sign_before, SignBetween as sign_between}
use Rattle.pl_ops.specs.Standard.{standard}
use Rattle.writing_laws.proofs.Look.{look}
use Rattle.writing_laws.proofs.Bools.{bool_of, no_both, and-false, and-first, and-second, and-both, or-neither_first, or-neither_second, if_true, if_false, not-true, same_text-true}
use Rattle.writing_laws.proofs.Spells.{Spell, word, in_quotes, number, negative_number, sign, square_pair, curly_pair, text_in, piece_in, at_byte, follows_directly, tokens_after, closes_at, first_begins, is_apart, IsSpell, is_word}
use Rattle.writing_laws.proofs.NamesBack.{end_at, Gives, gives-after, stepped, bare_is_word, next_closer}

abbrev is_comma_op : Operator → Bool
is_comma_op o = nat_eq o.priority 1000 && elim o.kind [ xfy ↦ true | k ↦ false ]

abbrev fine : List ℕ → Operator → Bool
fine s o =
    nat_le 1 o.priority && (nat_le o.priority 1200 && ((if same_class (class_of o.kind) postfix_class then false else true)
    && (if same_text s (codes ",") then is_comma_op o else (is_word s && ((if is_special s then false else true) && is_apart (word ordinary s))))))

all_fine : list_all (λ (d : Declaration). fine d.name d.op) standard ≡ true
unfolding standard
all_fine = refl

pub record Found (c : Class) (s : List ℕ) (o : Operator) : Type 0 where
  pub passes : fine s o ≡ true
  pub classed : same_class (class_of o.kind) c ≡ true

found_here : (c : Class) (s : List ℕ) (d : Declaration) (o : Operator) (b : Bool) → is_for c s d ≡ b → fine d.name d.op ≡ true → (if b then Some d.op else None) ≡ Some o → Found c s o
found_here c s d o false is f h = absurd (cc)
found_here c s d o true is f h =
    let e : d.op ≡ o = cc in
    let n : d.name ≡ s = same_text-true d.name s (and-second _ _ is) in
    record {
      passes = subst (λ x. fine s x ≡ true) e (subst (λ x. fine x d.op ≡ true) n f);
      classed = subst (λ (x : Operator). same_class (class_of x.kind) c ≡ true) e (and-first _ _ is);
    }

found_later : (c : Class) (s : List ℕ) (d : Declaration) (ds : List Declaration) (o : Operator) (l : Option Operator) → (list_all (λ (d : Declaration). fine d.name d.op) ds ≡ true → last_declared c s ds ≡ Some o → Found c s o) → last_declared c s ds ≡ l → list_all (λ (d : Declaration). fine d.name d.op) (d ∷ ds) ≡ true → later_or (if is_for c s d then Some d.op else None) l ≡ Some o → Found c s o
found_later c s d ds o None ih e h k = found_here c s d o (is_for c s d) refl (and-first _ _ h) k
found_later c s d ds o (Some p) ih e h k = ih (and-second _ _ h) (e ∙ k)

found : (c : Class) (s : List ℕ) (ds : List Declaration) (o : Operator) → list_all (λ (d : Declaration). fine d.name d.op) ds ≡ true → last_declared c s ds ≡ Some o → Found c s o
found c s [] o h k = absurd (cc)
found c s (d ∷ ds) o h k = found_later c s d ds o (last_declared c s ds) (λ h k. found c s ds o h k) refl h k

not_zero : (l : Option Operator) (o : Operator) → unless_zero l ≡ Some o → l ≡ Some o
not_zero None o h = absurd (cc)
not_zero (Some p) o h = elim (bool_of (nat_eq p.priority 0)) [
  | inl e ↦ absurd (let f : None ≡ Some o = sym (if_true (nat_eq p.priority 0) None (Some p) e) ∙ h in cc)
  | inr e ↦ sym (if_false (nat_eq p.priority 0) None (Some p) e) ∙ h
]

-- What the operators of the standard table are like.
pub record IsSignName (s : List ℕ) : Type 0 where
  pub no_comma : same_text s (codes ",") ≡ false
  pub is_one : is_word s ≡ true
  pub no_special : is_special s ≡ false
  pub apart : is_apart (word ordinary s) ≡ true

pub record IsComma (s : List ℕ) (o : Operator) : Type 0 where
  pub named : s ≡ codes ","
  pub is_op : o ≡ comma_op

pub record Fine (c : Class) (s : List ℕ) (o : Operator) : Type 0 where
  pub positive : 1 ≤ o.priority
  pub small : o.priority ≤ 1200
  pub classed : same_class (class_of o.kind) c ≡ true
  pub no_postfix : same_class (class_of o.kind) postfix_class ≡ false
  pub form : IsComma s o ⊎ IsSignName s

xfy-is : (k : Kind) → (elim k as (λ (x : Kind). Bool) [ xfy ↦ true | other ↦ false ]) ≡ true → k ≡ xfy
xfy-is xfy h = refl
xfy-is xfx h = absurd (cc)
xfy-is yfx h = absurd (cc)
xfy-is fx h = absurd (cc)
xfy-is fy h = absurd (cc)
xfy-is xf h = absurd (cc)
xfy-is yf h = absurd (cc)

comma-is : (o : Operator) → is_comma_op o ≡ true → o ≡ comma_op
comma-is o h =
    let p : o.priority ≡ 1000 = eqb-true o.priority 1000 (and-first _ _ h) in
    let k : o.kind ≡ xfy = xfy-is o.kind (and-second _ _ h) in
    let first : o ≡ record { priority = 1000; kind = o.kind } = ap (λ x. record { priority = x; kind = o.kind }) p in
    let second : record { priority = 1000; kind = o.kind } ≡ comma_op = ap (λ x. record { priority = 1000; kind = x }) k in
    first ∙ second

sign_form : (s : List ℕ) (o : Operator) (b : Bool) → same_text s (codes ",") ≡ b → (if b then is_comma_op o else (is_word s && ((if is_special s then false else true) && is_apart (word ordinary s)))) ≡ true → IsComma s o ⊎ IsSignName s
sign_form s o true e h = inl (record { named = same_text-true s (codes ",") e; is_op = comma-is o h })
sign_form s o false e h = inr (record {
  no_comma = e;
  is_one = and-first _ _ h;
  no_special = not-true (is_special s) (and-first _ _ (and-second _ _ h));
  apart = and-second _ _ (and-second _ _ h);
})

pub operator-fine : (c : Class) (s : List ℕ) (o : Operator) → look c s ≡ Some o → Fine c s o
operator-fine c s o h =
    let f = found c s standard o all_fine (not_zero (last_declared c s standard) o h) in
    let form = if same_text s (codes ",") then is_comma_op o else (is_word s && ((if is_special s then false else true) && is_apart (word ordinary s))) in
    let post = same_class (class_of o.kind) postfix_class in
    let a = f.passes in
    let b : (nat_le o.priority 1200 && ((if post then false else true) && form)) ≡ true = and-second (nat_le 1 o.priority) _ a in
    let d : ((if post then false else true) && form) ≡ true = and-second (nat_le o.priority 1200) _ b in
    record {
      positive = leb-true 1 o.priority (and-first (nat_le 1 o.priority) _ a);
      small = leb-true o.priority 1200 (and-first (nat_le o.priority 1200) _ b);
      classed = f.classed;
      no_postfix = not-true post (and-first (if post then false else true) form d);
      form = sign_form s o (same_text s (codes ",")) refl (and-second (if post then false else true) form d);
    }

pub no_postfix_operator : (s : List ℕ) (o : Option Operator) → look postfix_class s ≡ o → o ≡ None
no_postfix_operator s None h = refl
no_postfix_operator s (Some o) h = let f = operator-fine postfix_class s o h in no_both f.classed f.no_postfix

-- a name that is no operator in writing is none in reading
none_of : (b : Bool) (o : Option Operator) → is_some o ≡ false → is_some (if b then None else o) ≡ false
none_of true o h = refl
none_of false o h = h

pub no_operator : (s : List ℕ) → is_any_operator look s ≡ false → reading.is_operator look s ≡ false
no_operator s h =
    let p = none_of (is_special s) (look prefix_class s) (or-neither_first _ _ h) in
    let i = none_of (is_special s) (look infix_class s) (or-neither_first _ _ (or-neither_second (is_some (look prefix_class s)) _ h)) in
    let q = none_of (is_special s) (look postfix_class s) (or-neither_second _ _ (or-neither_second (is_some (look prefix_class s)) _ h)) in
    ap (λ x. x || (is_some (reading.infix_of look s) || is_some (reading.postfix_of look s))) p
    ∙ ap (λ x. x || is_some (reading.postfix_of look s)) i
    ∙ q

-- ---- the piece of an operator

pub sign_piece : (s : List ℕ) (r : Role) → IsSignName s → piece_in (word r s) ≡ signed quotes r s
sign_piece s r h =
    sym (if_false (same_text s (codes ",")) (plain_piece s) (record { text = name_text quotes s; role = r }) h.no_comma
    ∙ ap (λ x. record { text = x; role = r }) (if_true (is_bare s) s (text_in (in_quotes ordinary s)) (bare s h)))
  where
    bare : (s : List ℕ) → IsSignName s → is_bare s ≡ true
    bare s h = bare_is_word s (or-neither_first _ _ (or-neither_second (same_text s (codes ",")) _ h.no_special)) (or-neither_first _ _ (or-neither_second (same_text s (codes "[]")) _ (or-neither_second (same_text s (codes ",")) _ h.no_special))) ∙ h.is_one

pub infix_move : (s : List ℕ) (o : Operator) → look infix_class s ≡ Some o → IsSignName s → reading.operator_named look s ≡ Some (record { item = between o s; more = 0; place = at_operand })
infix_move s o e h = ap of_infix (if_false (is_special s) None (look infix_class s) h.no_special ∙ e)
  where
    of_infix : Option Operator → Option Move
    of_infix x = elim x [
      | Some o ↦ Some (record { item = between o s; more = 0; place = at_operand })
      | None ↦ elim (reading.postfix_of look s) [ Some o ↦ Some (record { item = after o s; more = 0; place = at_operator }) | None ↦ None ]
    ]

pub gives-between : (b : ℕ) (s : List ℕ) (o : Operator) (vs : List Spell) (is : List Item) → look infix_class s ≡ Some o → IsSignName s → Gives b at_operand vs is → Gives b at_operator (word sign_between s ∷ vs) (between o s ∷ is)
gives-between b s o vs is e h k at direct =
    stepped b at_operator (at_byte (name s) at direct) (tokens_after (at + length s) (word sign_between s) vs) (record { item = between o s; more = 0; place = at_operand }) is (infix_move s o e h) (gives-after b at_operand vs is k (at + length s) (word sign_between s))

-- ---- a prefix operator before its operand

digit_head : (ds : List ℕ) → IsNumeral 10 ds → is_digit (head_of ds) ≡ true
digit_head [] h = absurd (omega (arith, h.0))
digit_head (c ∷ cs) h =
    let r : IsInRange 48 57 c = digit_from_value c h.1.0 in
    and-both (nat_le 48 c) (nat_le c 57) (le-leb 48 c r.0) (le-leb c 57 r.1)

pub decimal-head : (n : ℕ) → n < 2 ^ 63 → is_digit (head_of (decimal n)) ≡ true
decimal-head n h = digit_head (decimal n) ((decimal_is_IsNumeral n (omega arith)).0)

or_third : (a b c d : Bool) → (a || (b || (c || (true || d)))) ≡ true
or_third true b c d = refl
or_third false true c d = refl
or_third false false true d = refl
or_third false false false d = refl

or_fifth : (a b c d e f : Bool) → e ≡ true → (a || (b || (c || (d || (e || f))))) ≡ true
or_fifth true b c d e f h = refl
or_fifth false true c d e f h = refl
or_fifth false false true d e f h = refl
or_fifth false false false true e f h = refl
or_fifth false false false false true f h = refl
or_fifth false false false false false f h = absurd (cc)

pub parted-bracket : (s : List ℕ) → is_parted (piece_in (word sign_before s)) (piece_in (sign 40)) ≡ true
parted-bracket s = or_third (is_alnum (last_of 256 s) && false) (is_symbol (last_of 256 s) && false) (is_letters (piece_in (word sign_before s)) || false) ((same_text s (codes "-") && false) || (nat_eq (last_of 256 s) 39 && false))

pub parted-digit : (n : ℕ) → n < 2 ^ 63 → is_parted (piece_in (word sign_before (codes "-"))) (piece_in (number n)) ≡ true
parted-digit n h =
    let f = head_of (decimal n) in
    or_fifth (is_alnum 45 && is_alnum f) (is_symbol 45 && is_symbol f) (is_letters (piece_in (word sign_before (codes "-"))) || is_letters (piece_in (number n))) (same_text (decimal n) (codes "(")) (is_digit f) (nat_eq 45 39 && nat_eq f 39) (decimal-head n h)

abbrev pub FirstIs : List Spell → Type 0
FirstIs [] = Unit {0}
FirstIs (v ∷ vs) = IsSpell v

not_call : (s : List ℕ) (c : ℕ) (b : Bool) → nat_eq c 40 ≡ b → (follows_directly (word sign_before s) (sign c) && b) ≡ false
not_call s c false h = and-false (follows_directly (word sign_before s) (sign c))
not_call s c true h =
    let e : c ≡ 40 = eqb-true c 40 h in
    ap (λ x. x && true) (ap (λ k. follows_directly (word sign_before s) (sign k)) e ∙ if_true _ false true (parted-bracket s))

operand_no_call : (b at : ℕ) (s : List ℕ) (us : List Spell) → first_begins us ≡ true → is_call (reading.peek look (tokens_after {V = ℕ} at (word sign_before s) us) (end_at b)) ≡ false
operand_no_call b at s [] h = absurd (cc)
operand_no_call b at s (word r t ∷ us) h = and-false (follows_directly (word sign_before s) (word r t))
operand_no_call b at s (in_quotes r t ∷ us) h = and-false (follows_directly (word sign_before s) (in_quotes r t))
operand_no_call b at s (number n ∷ us) h = and-false (follows_directly (word sign_before s) (number n))
operand_no_call b at s (negative_number n ∷ us) h = and-false (follows_directly (word sign_before s) (negative_number n))
operand_no_call b at s (square_pair ∷ us) h = and-false (follows_directly (word sign_before s) square_pair)
operand_no_call b at s (curly_pair ∷ us) h = and-false (follows_directly (word sign_before s) curly_pair)
operand_no_call b at s (sign c ∷ us) h = not_call s c (nat_eq c 40) refl

no_sign_of : (s : List ℕ) (n : ℕ) (m : Move) (b : Bool) → n < 2 ^ 63 → same_text s (codes "-") ≡ b → (if b && follows_directly (word sign_before s) (number n) then Some m else None) ≡ None
no_sign_of s n m false h e = refl
no_sign_of s n m true h e =
    let same : s ≡ codes "-" = same_text-true s (codes "-") e in
    if_false (follows_directly (word sign_before s) (number n)) (Some m) None (ap (λ t. follows_directly (word sign_before t) (number n)) same ∙ if_true _ false true (parted-digit n h))

operand_no_integer : (b at : ℕ) (s : List ℕ) (us : List Spell) → first_begins us ≡ true → FirstIs us → reading.minus_move look s (reading.peek look (tokens_after {V = ℕ} at (word sign_before s) us) (end_at b)) ≡ None
operand_no_integer b at s [] h f = refl
operand_no_integer b at s (word r t ∷ us) h f = refl
operand_no_integer b at s (in_quotes r t ∷ us) h f = refl
operand_no_integer b at s (number n ∷ us) h f = no_sign_of s n (record { item = operand (int (reading.negative look n)); more = 1; place = at_operator }) (same_text s (codes "-")) f refl
operand_no_integer b at s (negative_number n ∷ us) h f = refl
operand_no_integer b at s (square_pair ∷ us) h f = refl
operand_no_integer b at s (curly_pair ∷ us) h f = refl
operand_no_integer b at s (sign c ∷ us) h f = refl

begins_no_closer : (b at : ℕ) (u : Spell) (us : List Spell) → first_begins us ≡ true → is_closer (reading.peek look (tokens_after {V = ℕ} at u us) (end_at b)) ≡ false
begins_no_closer b at u [] h = absurd (cc)
begins_no_closer b at u (v ∷ us) h = next_closer b at u (v ∷ us) ∙ not-true (closes_at v) h

abbrev before_item : Operator → List ℕ → Move
before_item o s = record { item = before o s; more = 0; place = at_operand }

before_move : (s : List ℕ) (o : Operator) (next : Token ℕ) → look prefix_class s ≡ Some o → IsSignName s → is_call next ≡ false → is_closer next ≡ false → reading.name_move look s next ≡ Some (before_item o s)
before_move s o next e h no_call no_closer =
    let p : reading.prefix_of look s ≡ Some o = if_false (is_special s) None (look prefix_class s) h.no_special ∙ e in
    let any : reading.is_operator look s ≡ true = ap (λ x. is_some x || (is_some (reading.infix_of look s) || is_some (reading.postfix_of look s))) p in
    if_false (is_call next) (Some (record { item = calls s; more = 1; place = at_operand })) _ no_call
    ∙ if_false (if reading.is_operator look s then is_closer next else true) (Some (record { item = operand (atom s); more = 0; place = at_operator })) _ (if_true (reading.is_operator look s) (is_closer next) true any ∙ no_closer)
    ∙ ap of_prefix p
  where
    of_prefix : Option Operator → Option Move
    of_prefix x = elim x [ None ↦ None | Some o ↦ Some (record { item = before o s; more = 0; place = at_operand }) ]

pub gives-before : (b : ℕ) (s : List ℕ) (o : Operator) (us : List Spell) (is : List Item) → look prefix_class s ≡ Some o → IsSignName s → first_begins us ≡ true → FirstIs us → Gives b at_operand us is → Gives b at_operand (word sign_before s ∷ us) (before o s ∷ is)
gives-before b s o us is e h begins first k at direct =
    let u = word sign_before s in
    let n = at + length s in
    let next = reading.peek look (tokens_after {V = ℕ} n u us) (end_at b) in
    stepped b at_operand (at_byte (name s) at direct) (tokens_after n u us) (before_item o s) is
    (ap (λ x. reading.first_of look x (reading.name_move look s next)) (operand_no_integer b n s us begins first) ∙ before_move s o next e h (operand_no_call b n s us begins) (begins_no_closer b n u us begins))
    (gives-after b at_operand us is k n u)
