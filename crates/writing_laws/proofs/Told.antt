-- What is written of a tree, as pieces, with the parse tree whose items the tokens of the pieces give.
use Rattle.std.proofs.Common.{◌≡◌, ℕ, suc, ◌+◌, ◌-◌, ◌*◌, ◌≤◌, ◌<◌, ◌^◌, List, [], ◌∷◌, ◌++◌, length, Bool, true, false, ◌&&◌, if◌then◌else◌, Some, None, refl, sym, ap, ◌∙◌, arith, subst, inl, inr, nat_eq, nat_lt, append_assoc}
use Rattle.std.specs.Prelude.{codes, ℤ, pos, negsuc, IsUtf8}
use Rattle.std.specs.Fmt.{decimal}
use Rattle.std.proofs.lemmas.Bool.{lt-ltb, ltb-true, ltb-false}
use Rattle.pl_terms.specs.Trees.{Tree, int, atom, comp, Trees, nil, cons, count}
use Rattle.pl_ops.specs.Tables.{prefix_class, infix_class}
use Rattle.pl_ops.specs.declared.op.Kind.{Kind}
use Rattle.pl_ops.specs.declared.op.Kind.TheVariants.{Xfx as xfx, Xfy as xfy, Yfx as yfx, Fx as fx, Fy as fy, Xf as xf, Yf as yf}
use Rattle.pl_ops.specs.declared.op.Op.{Op as Operator}
use Rattle.text_model.specs.Tokens.{name, integer, punctuation}
use Rattle.text_model.specs.Grammar.{round, curly, square, Item, operand, between, comma, calls, opens, closes, Parse, leaf, grouped, braced, called, listed, listed_to, prefixed, joined, conjoined, postfixed, Arguments, one, more, yield, all_yield, meaning, all_meaning, left_y, right_y, comma_op, left_weight, priority, weight, FitsRight, FitsLeft, arity, IsGood, AreGood, max_priority, argument_priority, max_arity}
use Rattle.text_model.specs.Reading.{is_punct, is_call, Place, at_operand, at_operator}
use Rattle.text_model.specs.Reading as reading
use Rattle.text_model.specs.Writing.{Piece, plain_piece, name_text, int_text, signed, wrapped, prefix_in, postfix_in, infix_in, weight_of, first_some, tree_weight, left_max, right_max}
use Rattle.text_model.specs.declared.Quote.TheVariants.{Quoted as quotes}
use Rattle.text_model.specs.declared.Role.TheVariants.{SignBefore as sign_before, SignBetween as sign_between}
use Rattle.text_model.specs.ReadBack.{IsInt}
use Rattle.writing_laws.proofs.Look.{look}
use Rattle.writing_laws.proofs.Bools.{bool_of, no_both, and-first, if_true, if_false, not-true}
use Rattle.writing_laws.proofs.Spells.{Spell, word, in_quotes, number, negative_number, sign, square_pair, curly_pair, text_in, piece_in, pieces_in, at_byte, tokens_after, closes_at, clings, first_closes, first_begins, Follows, is_numeric, Safe, AreSpells, is_closing_code}
use Rattle.writing_laws.proofs.NamesBack.{end_at, Gives, gives-after, stepped, named}
use Rattle.writing_laws.proofs.TableBack.{IsSignName, operator-fine, sign_piece, gives-between, gives-before, FirstIs}

-- ---- lists of spells

pub pieces-append : (us vs : List Spell) → pieces_in (us ++ vs) ≡ pieces_in us ++ pieces_in vs
pieces-append [] vs = refl
pieces-append (u ∷ us) vs = ap (λ ps. piece_in u ∷ ps) (pieces-append us vs)

pub spells-append : (us vs : List Spell) → AreSpells us → AreSpells vs → AreSpells (us ++ vs)
spells-append [] vs h k = k
spells-append (u ∷ us) vs h k = (h.0, spells-append us vs h.1 k)

pub begins-append : (us vs : List Spell) → first_begins us ≡ true → first_begins (us ++ vs) ≡ true
begins-append [] vs h = absurd (cc)
begins-append (u ∷ us) vs h = h

first-append : (us vs : List Spell) → first_begins us ≡ true → AreSpells us → FirstIs (us ++ vs)
first-append [] vs h k = absurd (cc)
first-append (u ∷ us) vs h k = k.0

abbrev pub Classes : Bool → List Spell → List Item → Type 0
Classes here us is = (b : ℕ) (vs : List Spell) (rest : List Item) → Follows here vs → Gives b at_operator vs rest → Gives b at_operand (us ++ vs) (is ++ rest)

abbrev pub Safely : List Spell → Type 0
Safely us = (p : Spell) (vs : List Spell) → is_numeric p ≡ false → ((q : Spell) → Safe q vs) → Safe p (us ++ vs)

closer-clings : (v : Spell) → closes_at v ≡ true → clings v ≡ false
closer-clings (word r s) h = refl
closer-clings (in_quotes r s) h = refl
closer-clings (number n) h = absurd (cc)
closer-clings (negative_number n) h = refl
closer-clings square_pair h = refl
closer-clings curly_pair h = refl
closer-clings (sign c) h = elim (bool_of (nat_eq c 40)) [
  | inr e ↦ e
  | inl e ↦ no_both h (ap is_closing_code (Rattle.std.proofs.lemmas.Bool.eqb-true c 40 e))
]

pub follows-operand : (here : Bool) (vs : List Spell) → Follows here vs → Follows true vs
follows-operand true vs h = h
follows-operand false [] h = refl
follows-operand false (v ∷ vs) h = closer-clings v h

-- A tree written at a priority, as an operand or not.
pub record Told (t : Tree (List ℕ)) (max : ℕ) (here : Bool) (ps : List Piece) : Type 0 where
  pub spells : List Spell
  pub same : pieces_in spells ≡ ps
  pub are : AreSpells spells
  pub parse : Parse
  pub good : IsGood parse
  pub fits : priority parse ≤ max
  pub light : weight parse ≤ tree_weight look t
  pub means : meaning parse ≡ t
  pub begins : first_begins spells ≡ true
  pub classes : Classes here spells (yield parse)
  pub safe : Safely spells

-- ---- signs

pub gives-closing : (b c : ℕ) (i : Item) (pl : Place) (vs : List Spell) (is : List Item) → reading.operator_move look (punctuation c) ≡ Some (record { item = i; more = 0; place = pl }) → Gives b pl vs is → Gives b at_operator (sign c ∷ vs) (i ∷ is)
gives-closing b c i pl vs is e k at direct =
    stepped b at_operator (at_byte (punctuation c) at direct) (tokens_after (at + 1) (sign c) vs) (record { item = i; more = 0; place = pl }) is e (gives-after b pl vs is k (at + 1) (sign c))

gives-round : (b : ℕ) (vs : List Spell) (is : List Item) → Gives b at_operand vs is → Gives b at_operand (sign 40 ∷ vs) (opens round ∷ is)
gives-round b vs is k at direct =
    stepped b at_operand (at_byte (punctuation 40) at direct) (tokens_after (at + 1) (sign 40) vs) (record { item = opens round; more = 0; place = at_operand }) is refl (gives-after b at_operand vs is k (at + 1) (sign 40))

no_closing : (b at : ℕ) (u : Spell) (vs : List Spell) (d : ℕ) → is_closing_code d ≡ true → first_begins vs ≡ true → is_punct d (reading.peek look (tokens_after {V = ℕ} at u vs) (end_at b)) ≡ false
no_closing b at u [] d e h = absurd (cc)
no_closing b at u (word r s ∷ vs) d e h = refl
no_closing b at u (in_quotes r s ∷ vs) d e h = refl
no_closing b at u (number n ∷ vs) d e h = refl
no_closing b at u (negative_number n ∷ vs) d e h = refl
no_closing b at u (square_pair ∷ vs) d e h = other d e
  where
    other : (d : ℕ) → is_closing_code d ≡ true → nat_eq 91 d ≡ false
    other d e = elim (bool_of (nat_eq 91 d)) [
      | inr f ↦ f
      | inl f ↦ no_both e (ap is_closing_code (sym (Rattle.std.proofs.lemmas.Bool.eqb-true 91 d f)))
    ]
no_closing b at u (curly_pair ∷ vs) d e h = other d e
  where
    other : (d : ℕ) → is_closing_code d ≡ true → nat_eq 123 d ≡ false
    other d e = elim (bool_of (nat_eq 123 d)) [
      | inr f ↦ f
      | inl f ↦ no_both e (ap is_closing_code (sym (Rattle.std.proofs.lemmas.Bool.eqb-true 123 d f)))
    ]
no_closing b at u (sign c ∷ vs) d e h = elim (bool_of (nat_eq c d)) [
  | inr f ↦ f
  | inl f ↦ no_both e (ap is_closing_code (sym (Rattle.std.proofs.lemmas.Bool.eqb-true c d f)) ∙ not-true (is_closing_code c) h)
]

pub gives-square : (b : ℕ) (vs : List Spell) (is : List Item) → first_begins vs ≡ true → Gives b at_operand vs is → Gives b at_operand (sign 91 ∷ vs) (opens square ∷ is)
gives-square b vs is h k at direct =
    let ts = tokens_after {V = ℕ} (at + 1) (sign 91) vs in
    stepped b at_operand (at_byte (punctuation 91) at direct) ts (record { item = opens square; more = 0; place = at_operand }) is
    (if_false (is_punct 93 (reading.peek look ts (end_at b))) (if is_call (reading.peek_second look ts (end_at b)) then Some (record { item = calls (codes "[]"); more = 2; place = at_operand }) else Some (record { item = operand (atom (codes "[]")); more = 1; place = at_operator })) (Some (record { item = opens square; more = 0; place = at_operand })) (no_closing b (at + 1) (sign 91) vs 93 refl h))
    (gives-after b at_operand vs is k (at + 1) (sign 91))

gives-curly : (b : ℕ) (vs : List Spell) (is : List Item) → first_begins vs ≡ true → Gives b at_operand vs is → Gives b at_operand (sign 123 ∷ vs) (opens curly ∷ is)
gives-curly b vs is h k at direct =
    let ts = tokens_after {V = ℕ} (at + 1) (sign 123) vs in
    stepped b at_operand (at_byte (punctuation 123) at direct) ts (record { item = opens curly; more = 0; place = at_operand }) is
    (if_false (is_punct 125 (reading.peek look ts (end_at b))) (if is_call (reading.peek_second look ts (end_at b)) then Some (record { item = calls (codes "{}"); more = 2; place = at_operand }) else Some (record { item = operand (atom (codes "{}")); more = 1; place = at_operator })) (Some (record { item = opens curly; more = 0; place = at_operand })) (no_closing b (at + 1) (sign 123) vs 125 refl h))
    (gives-after b at_operand vs is k (at + 1) (sign 123))

-- ---- leaves

pub atom_told : (s : List ℕ) (max : ℕ) (here : Bool) → IsUtf8 s → (here ≡ true → reading.is_operator look s ≡ false) → Told (atom s) max here (plain_piece (name_text quotes s) ∷ [])
atom_told s max here utf8 no_op =
    let n = named s utf8 in
    record {
      spells = n.spell ∷ [];
      same = ap (λ p. p ∷ []) n.same;
      are = (n.are, tt);
      parse = leaf (atom s);
      good = tt;
      fits = omega arith;
      light = omega arith;
      means = refl;
      begins = ap (λ x. if x then false else true) n.opens;
      classes = λ b vs rest f k. n.leaf b vs rest (follows-operand here vs f) (closes_on here no_op vs f) k;
      safe = λ p vs plain h. ((λ e. no_both e plain), h n.spell);
    }
  where
    closes_on : (here : Bool) → (here ≡ true → reading.is_operator look s ≡ false) → (vs : List Spell) → Follows here vs → reading.is_operator look s ≡ true → first_closes vs ≡ true
    closes_on true none vs f e = no_both e (none refl)
    closes_on false none vs f e = f

pub int_told : (z : ℤ) (max : ℕ) (here : Bool) → IsInt z → Told (int z) max here (plain_piece (int_text z) ∷ [])
int_told (pos n) max here h = record {
  spells = number n ∷ [];
  same = refl;
  are = (h, tt);
  parse = leaf (int (pos n));
  good = tt;
  fits = omega arith;
  light = omega arith;
  means = refl;
  begins = refl;
  classes = λ b vs rest f k at direct.
      stepped b at_operand (at_byte (integer n) at direct) (tokens_after (at + length (decimal n)) (number n) vs) (record { item = operand (int (pos n)); more = 0; place = at_operator }) rest
      (if_true (nat_lt n (2 ^ 63)) (Some (record { item = operand (int (pos n)); more = 0; place = at_operator })) None (lt-ltb n (2 ^ 63) h))
      (gives-after b at_operator vs rest k (at + length (decimal n)) (number n));
  safe = λ p vs plain h. ((λ e. no_both e plain), h (number n));
}
int_told (negsuc n) max here h = record {
  spells = negative_number n ∷ [];
  same = refl;
  are = (h, tt);
  parse = leaf (int (negsuc n));
  good = tt;
  fits = omega arith;
  light = omega arith;
  means = refl;
  begins = refl;
  classes = λ b vs rest f k at direct.
      let m = at + length (text_in (negative_number n)) in
      stepped b at_operand (at_byte (name (codes "-")) at direct) (at_byte (integer (suc n)) (at + 1) true ∷ tokens_after m (negative_number n) vs) (record { item = operand (int (negsuc n)); more = 1; place = at_operator }) rest refl
      (gives-after b at_operator vs rest k m (negative_number n));
  safe = λ p vs plain h. ((λ e. no_both e plain), h (negative_number n));
}

-- ---- brackets

pub grouped_told : (t : Tree (List ℕ)) (low max : ℕ) (inside here : Bool) (ps : List Piece) → low ≤ 1200 → Told t low inside ps → Told t max here (plain_piece (codes "(") ∷ (ps ++ plain_piece (codes ")") ∷ []))
grouped_told t low max inside here ps small d = record {
  spells = sign 40 ∷ (d.spells ++ sign 41 ∷ []);
  same = ap (λ l. plain_piece (codes "(") ∷ l) (pieces-append d.spells (sign 41 ∷ []) ∙ ap (λ l. l ++ plain_piece (codes ")") ∷ []) d.same);
  are = (refl, spells-append d.spells (sign 41 ∷ []) d.are (refl, tt));
  parse = grouped d.parse;
  good = (omega (arith, d.fits), d.good);
  fits = omega arith;
  light = omega arith;
  means = d.means;
  begins = refl;
  classes = λ b vs rest f k.
      subst (λ l. Gives b at_operand (sign 40 ∷ l) (opens round ∷ ((yield d.parse ++ closes round ∷ []) ++ rest))) (sym (append_assoc d.spells (sign 41 ∷ []) vs))
      (subst (λ l. Gives b at_operand (sign 40 ∷ (d.spells ++ sign 41 ∷ vs)) (opens round ∷ l)) (sym (append_assoc (yield d.parse) (closes round ∷ []) rest))
      (gives-round b (d.spells ++ sign 41 ∷ vs) (yield d.parse ++ closes round ∷ rest) (d.classes b (sign 41 ∷ vs) (closes round ∷ rest) (either_way inside vs) (gives-closing b 41 (closes round) at_operator vs rest refl k))));
  safe = λ p vs plain h. ((λ e. refl), subst (Safe (sign 40)) (sym (append_assoc d.spells (sign 41 ∷ []) vs)) (d.safe (sign 40) (sign 41 ∷ vs) refl (λ q. ((λ e. refl), h (sign 41)))));
}
  where
    either_way : (i : Bool) (vs : List Spell) → Follows i (sign 41 ∷ vs)
    either_way true vs = refl
    either_way false vs = refl

pub wrapped_told : (t : Tree (List ℕ)) (p max : ℕ) (here : Bool) (ps : List Piece) → p ≤ 1200 → Told t p true ps → Told t max here (wrapped (nat_lt max p) ps)
wrapped_told t p max here ps small d = elim (bool_of (nat_lt max p)) [
  | inl e ↦ subst (λ x. Told t max here (wrapped x ps)) (sym e) (grouped_told t p max true here ps small d)
  | inr e ↦ subst (λ x. Told t max here (wrapped x ps)) (sym e) (record {
    spells = d.spells;
    same = d.same;
    are = d.are;
    parse = d.parse;
    good = d.good;
    fits = let low : p ≤ max = ltb-false max p e in omega (arith, d.fits);
    light = d.light;
    means = d.means;
    begins = d.begins;
    classes = λ b vs rest f k. d.classes b vs rest (follows-operand here vs f) k;
    safe = d.safe;
  })
]

-- ---- operands within their bounds

y-le : (k : Kind) → left_y k ≤ 1
y-le xfx = omega arith
y-le xfy = omega arith
y-le yfx = omega arith
y-le fx = omega arith
y-le fy = omega arith
y-le xf = omega arith
y-le yf = omega arith

right_y-le : (k : Kind) → right_y k ≤ 1
right_y-le xfx = omega arith
right_y-le xfy = omega arith
right_y-le yfx = omega arith
right_y-le fx = omega arith
right_y-le fy = omega arith
right_y-le xf = omega arith
right_y-le yf = omega arith

weight-le : (e : Parse) → weight e ≤ 2 * priority e + 1
weight-le (leaf t) = omega arith
weight-le (grouped e) = omega arith
weight-le (braced e) = omega arith
weight-le (called s es) = omega arith
weight-le (listed es) = omega arith
weight-le (listed_to es e) = omega arith
weight-le (prefixed o s e) = omega (arith, right_y-le o.kind)
weight-le (joined l o s r) = omega (arith, right_y-le o.kind)
weight-le (conjoined l r) = omega arith
weight-le (postfixed l o s) = omega (arith, right_y-le o.kind)

fits_right : (o : Operator) (e : Parse) → 1 ≤ o.priority → priority e ≤ right_max o → FitsRight o e
fits_right o e some h = record {
  bound = elim (bool_of (nat_eq (right_y o.kind) 1)) [
    | inl y ↦
        let one : right_y o.kind ≡ 1 = Rattle.std.proofs.lemmas.Bool.eqb-true (right_y o.kind) 1 y in
        let is : right_max o ≡ o.priority = if_true (nat_eq (right_y o.kind) 1) o.priority (o.priority - 1) y in
        omega (arith, h, is, one)
    | inr y ↦
        let is : right_max o ≡ o.priority - 1 = if_false (nat_eq (right_y o.kind) 1) o.priority (o.priority - 1) y in
        omega (arith, h, is)
  ];
}

fits_left : (o : Operator) (w : ℕ) (e : Parse) → 1 ≤ o.priority → weight e ≤ w → priority e ≤ left_max o w → FitsLeft o e
fits_left o w e some light h = record {
  bound = elim (bool_of (nat_lt w (left_weight o) && nat_eq (left_y o.kind) 1)) [
    | inl y ↦
        let lt : w < left_weight o = ltb-true w (left_weight o) (and-first _ _ y) in
        omega (arith, lt, light)
    | inr y ↦
        let is : left_max o w ≡ o.priority - 1 = if_false (nat_lt w (left_weight o) && nat_eq (left_y o.kind) 1) o.priority (o.priority - 1) y in
        omega (arith, h, is, weight-le e)
  ];
}

-- ---- operators

abbrev pub pair_of : List ℕ → Tree (List ℕ) → Tree (List ℕ) → Tree (List ℕ)
pair_of s a b = comp s (cons a (cons b nil))

abbrev pub single_of : List ℕ → Tree (List ℕ) → Tree (List ℕ)
single_of s a = comp s (cons a nil)

pair_means : (s : List ℕ) (a b c d : Tree (List ℕ)) → a ≡ c → b ≡ d → pair_of s a b ≡ pair_of s c d
pair_means s a b c d h k = ap (λ x. pair_of s x b) h ∙ ap (pair_of s c) k

-- an infix operator, written with its piece, gives its item
pub joined_spells : (u : Spell) (us vs ws : List Spell) → (us ++ u ∷ vs) ++ ws ≡ us ++ u ∷ (vs ++ ws)
joined_spells u us vs ws = append_assoc us (u ∷ vs) ws

pub joined_told : (s : List ℕ) (o : Operator) (a b : Tree (List ℕ)) (w : ℕ) (ps qs : List Piece) → look infix_class s ≡ Some o → infix_in look s ≡ Some o → IsSignName s → w ≡ tree_weight look a → Told a (left_max o w) true ps → Told b (right_max o) true qs → Told (pair_of s a b) o.priority true (ps ++ signed quotes sign_between s ∷ qs)
joined_told s o a b w ps qs e e2 h ew l r =
    let f = operator-fine infix_class s o e in
    let u = word sign_between s in
    record {
      spells = l.spells ++ u ∷ r.spells;
      same = pieces-append l.spells (u ∷ r.spells) ∙ ap (λ x. x ++ piece_in u ∷ pieces_in r.spells) l.same ∙ ap (λ x. ps ++ piece_in u ∷ x) r.same ∙ ap (λ x. ps ++ x ∷ qs) (sign_piece s sign_between h);
      are = spells-append l.spells (u ∷ r.spells) l.are (h.is_one, r.are);
      parse = joined l.parse o s r.parse;
      good = (fits_left o w l.parse f.positive (omega (arith, l.light, ew)) l.fits, fits_right o r.parse f.positive r.fits, l.good, r.good);
      fits = omega arith;
      light = omega (arith, ap weight_of e2);
      means = pair_means s (meaning l.parse) (meaning r.parse) a b l.means r.means;
      begins = begins-append l.spells (u ∷ r.spells) l.begins;
      classes = λ n vs rest fo k.
          subst (λ x. Gives n at_operand x ((yield l.parse ++ between o s ∷ yield r.parse) ++ rest)) (sym (joined_spells u l.spells r.spells vs))
          (subst (λ x. Gives n at_operand (l.spells ++ u ∷ (r.spells ++ vs)) x) (sym (append_assoc (yield l.parse) (between o s ∷ yield r.parse) rest))
          (l.classes n (u ∷ (r.spells ++ vs)) (between o s ∷ (yield r.parse ++ rest)) refl (gives-between n s o (r.spells ++ vs) (yield r.parse ++ rest) e h (r.classes n vs rest fo k))));
      safe = λ p vs plain k. subst (Safe p) (sym (joined_spells u l.spells r.spells vs)) (l.safe p (u ∷ (r.spells ++ vs)) plain (λ q. ((λ x. h.apart), r.safe u vs refl k)));
    }

pub conjoined_told : (a b : Tree (List ℕ)) (w : ℕ) (ps qs : List Piece) → infix_in look (codes ",") ≡ Some comma_op → w ≡ tree_weight look a → Told a (left_max comma_op w) true ps → Told b (right_max comma_op) true qs → Told (pair_of (codes ",") a b) 1000 true (ps ++ plain_piece (codes ",") ∷ qs)
conjoined_told a b w ps qs e2 ew l r =
    let u = sign 44 in
    record {
      spells = l.spells ++ u ∷ r.spells;
      same = pieces-append l.spells (u ∷ r.spells) ∙ ap (λ x. x ++ piece_in u ∷ pieces_in r.spells) l.same ∙ ap (λ x. ps ++ piece_in u ∷ x) r.same;
      are = spells-append l.spells (u ∷ r.spells) l.are (refl, r.are);
      parse = conjoined l.parse r.parse;
      good = (fits_left comma_op w l.parse (omega arith) (omega (arith, l.light, ew)) l.fits, fits_right comma_op r.parse (omega arith) r.fits, l.good, r.good);
      fits = omega arith;
      light = omega (arith, ap weight_of e2);
      means = pair_means (codes ",") (meaning l.parse) (meaning r.parse) a b l.means r.means;
      begins = begins-append l.spells (u ∷ r.spells) l.begins;
      classes = λ n vs rest fo k.
          subst (λ x. Gives n at_operand x ((yield l.parse ++ comma ∷ yield r.parse) ++ rest)) (sym (joined_spells u l.spells r.spells vs))
          (subst (λ x. Gives n at_operand (l.spells ++ u ∷ (r.spells ++ vs)) x) (sym (append_assoc (yield l.parse) (comma ∷ yield r.parse) rest))
          (l.classes n (u ∷ (r.spells ++ vs)) (comma ∷ (yield r.parse ++ rest)) refl (gives-closing n 44 comma at_operand (r.spells ++ vs) (yield r.parse ++ rest) refl (r.classes n vs rest fo k))));
      safe = λ p vs plain k. subst (Safe p) (sym (joined_spells u l.spells r.spells vs)) (l.safe p (u ∷ (r.spells ++ vs)) plain (λ q. ((λ x. refl), r.safe u vs refl k)));
    }

pub prefixed_told : (s : List ℕ) (o : Operator) (a : Tree (List ℕ)) (ps : List Piece) → look prefix_class s ≡ Some o → prefix_in look s ≡ Some o → IsSignName s → Told a (right_max o) true ps → Told (single_of s a) o.priority true (signed quotes sign_before s ∷ ps)
prefixed_told s o a ps e e2 h r =
    let f = operator-fine prefix_class s o e in
    let u = word sign_before s in
    record {
      spells = u ∷ r.spells;
      same = ap (λ x. piece_in u ∷ x) r.same ∙ ap (λ x. x ∷ ps) (sign_piece s sign_before h);
      are = (h.is_one, r.are);
      parse = prefixed o s r.parse;
      good = (fits_right o r.parse f.positive r.fits, r.good);
      fits = omega arith;
      light = omega (arith, ap (λ x. weight_of (first_some x (postfix_in look s))) e2);
      means = ap (single_of s) r.means;
      begins = refl;
      classes = λ n vs rest fo k. gives-before n s o (r.spells ++ vs) (yield r.parse ++ rest) e h (begins-append r.spells vs r.begins) (first-append r.spells vs r.begins r.are) (r.classes n vs rest fo k);
      safe = λ p vs plain k. ((λ x. no_both x plain), r.safe u vs refl k);
    }

-- ---- arguments

pub record ToldArgs (ts : Trees (List ℕ)) (ps : List Piece) : Type 0 where
  pub spells : List Spell
  pub same : pieces_in spells ≡ ps
  pub are : AreSpells spells
  pub args : Arguments
  pub good : AreGood args
  pub counted : arity args ≡ count ts
  pub means : all_meaning args ≡ ts
  pub begins : first_begins spells ≡ true
  pub classes : Classes false spells (all_yield args)
  pub safe : Safely spells

pub one_arg : (t : Tree (List ℕ)) (ps : List Piece) → Told t argument_priority false ps → ToldArgs (cons t nil) ps
one_arg t ps d = record {
  spells = d.spells;
  same = d.same;
  are = d.are;
  args = one d.parse;
  good = (d.fits, d.good);
  counted = refl;
  means = ap (λ x. cons x nil) d.means;
  begins = d.begins;
  classes = d.classes;
  safe = d.safe;
}

pub more_args : (t : Tree (List ℕ)) (ts : Trees (List ℕ)) (ps qs : List Piece) → Told t argument_priority false ps → ToldArgs ts qs → ToldArgs (cons t ts) (ps ++ plain_piece (codes ",") ∷ qs)
more_args t ts ps qs d r =
    let u = sign 44 in
    record {
      spells = d.spells ++ u ∷ r.spells;
      same = pieces-append d.spells (u ∷ r.spells) ∙ ap (λ x. x ++ piece_in u ∷ pieces_in r.spells) d.same ∙ ap (λ x. ps ++ piece_in u ∷ x) r.same;
      are = spells-append d.spells (u ∷ r.spells) d.are (refl, r.are);
      args = more d.parse r.args;
      good = (d.fits, d.good, r.good);
      counted = ap suc r.counted;
      means = ap (λ x. cons x (all_meaning r.args)) d.means ∙ ap (cons t) r.means;
      begins = begins-append d.spells (u ∷ r.spells) d.begins;
      classes = λ n vs rest fo k.
          subst (λ x. Gives n at_operand x ((yield d.parse ++ comma ∷ all_yield r.args) ++ rest)) (sym (joined_spells u d.spells r.spells vs))
          (subst (λ x. Gives n at_operand (d.spells ++ u ∷ (r.spells ++ vs)) x) (sym (append_assoc (yield d.parse) (comma ∷ all_yield r.args) rest))
          (d.classes n (u ∷ (r.spells ++ vs)) (comma ∷ (all_yield r.args ++ rest)) refl (gives-closing n 44 comma at_operand (r.spells ++ vs) (all_yield r.args ++ rest) refl (r.classes n vs rest fo k))));
      safe = λ p vs plain k. subst (Safe p) (sym (joined_spells u d.spells r.spells vs)) (d.safe p (u ∷ (r.spells ++ vs)) plain (λ q. ((λ x. refl), r.safe u vs refl k)));
    }

pub called_told : (s : List ℕ) (ts : Trees (List ℕ)) (max : ℕ) (here : Bool) (ps : List Piece) → IsUtf8 s → count ts ≤ max_arity → ToldArgs ts ps → Told (comp s ts) max here (plain_piece (name_text quotes s) ∷ plain_piece (codes "(") ∷ (ps ++ plain_piece (codes ")") ∷ []))
called_told s ts max here ps utf8 few d =
    let n = named s utf8 in
    record {
      spells = n.spell ∷ sign 40 ∷ (d.spells ++ sign 41 ∷ []);
      same = ap (λ p. p ∷ plain_piece (codes "(") ∷ pieces_in (d.spells ++ sign 41 ∷ [])) n.same ∙ ap (λ l. plain_piece (name_text quotes s) ∷ plain_piece (codes "(") ∷ l) (pieces-append d.spells (sign 41 ∷ []) ∙ ap (λ l. l ++ plain_piece (codes ")") ∷ []) d.same);
      are = (n.are, (refl, spells-append d.spells (sign 41 ∷ []) d.are (refl, tt)));
      parse = called s d.args;
      good = (omega (arith, d.counted), d.good);
      fits = omega arith;
      light = omega arith;
      means = ap (comp s) d.means;
      begins = ap (λ x. if x then false else true) n.opens;
      classes = λ b vs rest f k.
          subst (λ l. Gives b at_operand (n.spell ∷ sign 40 ∷ l) (calls s ∷ ((all_yield d.args ++ closes round ∷ []) ++ rest))) (sym (append_assoc d.spells (sign 41 ∷ []) vs))
          (subst (λ l. Gives b at_operand (n.spell ∷ sign 40 ∷ (d.spells ++ sign 41 ∷ vs)) (calls s ∷ l)) (sym (append_assoc (all_yield d.args) (closes round ∷ []) rest))
          (n.call b (d.spells ++ sign 41 ∷ vs) (all_yield d.args ++ closes round ∷ rest) (d.classes b (sign 41 ∷ vs) (closes round ∷ rest) refl (gives-closing b 41 (closes round) at_operator vs rest refl k))));
      safe = λ p vs plain h. ((λ e. no_both e plain), ((λ e. refl), subst (Safe (sign 40)) (sym (append_assoc d.spells (sign 41 ∷ []) vs)) (d.safe (sign 40) (sign 41 ∷ vs) refl (λ q. ((λ e. refl), h (sign 41))))));
    }

pub braced_told : (a : Tree (List ℕ)) (max : ℕ) (here : Bool) (ps : List Piece) → Told a max_priority false ps → Told (single_of (codes "{}") a) max here (plain_piece (codes "{") ∷ (ps ++ plain_piece (codes "}") ∷ []))
braced_told a max here ps d = record {
  spells = sign 123 ∷ (d.spells ++ sign 125 ∷ []);
  same = ap (λ l. plain_piece (codes "{") ∷ l) (pieces-append d.spells (sign 125 ∷ []) ∙ ap (λ l. l ++ plain_piece (codes "}") ∷ []) d.same);
  are = (refl, spells-append d.spells (sign 125 ∷ []) d.are (refl, tt));
  parse = braced d.parse;
  good = (d.fits, d.good);
  fits = omega arith;
  light = omega arith;
  means = ap (single_of (codes "{}")) d.means;
  begins = refl;
  classes = λ b vs rest f k.
      subst (λ l. Gives b at_operand (sign 123 ∷ l) (opens curly ∷ ((yield d.parse ++ closes curly ∷ []) ++ rest))) (sym (append_assoc d.spells (sign 125 ∷ []) vs))
      (subst (λ l. Gives b at_operand (sign 123 ∷ (d.spells ++ sign 125 ∷ vs)) (opens curly ∷ l)) (sym (append_assoc (yield d.parse) (closes curly ∷ []) rest))
      (gives-curly b (d.spells ++ sign 125 ∷ vs) (yield d.parse ++ closes curly ∷ rest) (begins-append d.spells (sign 125 ∷ vs) d.begins) (d.classes b (sign 125 ∷ vs) (closes curly ∷ rest) refl (gives-closing b 125 (closes curly) at_operator vs rest refl k))));
  safe = λ p vs plain h. ((λ e. refl), subst (Safe (sign 123)) (sym (append_assoc d.spells (sign 125 ∷ []) vs)) (d.safe (sign 123) (sign 125 ∷ vs) refl (λ q. ((λ e. refl), h (sign 125)))));
}
