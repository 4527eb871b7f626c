-- What is written of every tree without variables.
use Rattle.std.proofs.Common.{◌≡◌, ℕ, ◌≤◌, List, [], ◌∷◌, ◌++◌, map, Bool, true, false, ◌&&◌, Option, Some, None, refl, sym, ap, ◌∙◌, arith, subst, ◌⊎◌, inl, inr, append_assoc}
use Rattle.std.specs.Prelude.{codes, IsUtf8}
use Rattle.pl_terms.specs.Trees.{Tree, var, int, atom, comp, Trees, nil, cons, count}
use Rattle.pl_ops.specs.Tables.{operator, prefix_class, infix_class, postfix_class, same_text}
use Rattle.pl_ops.specs.declared.op.Op.{Op as Operator}
use Rattle.text_model.specs.Grammar.{square, Item, comma, bar, opens, closes, Parse, listed, listed_to, Arguments, one, more, yield, all_yield, list_to, empty_list, meaning, all_meaning, comma_op, priority, weight, IsGood, AreGood, max_priority, argument_priority, max_arity}
use Rattle.text_model.specs.Reading.{at_operand, at_operator}
use Rattle.text_model.specs.Writing.{Piece, plain_piece, name_text, int_text, signed, wrapped, is_any_operator, prefix_in, postfix_in, infix_in, tree_weight, left_max, right_max, Shown, parted, as_argument, shown_by}
use Rattle.text_model.specs.declared.Quote.TheVariants.{Quoted as quotes}
use Rattle.text_model.specs.declared.Role.TheVariants.{SignBefore as sign_before, SignBetween as sign_between}
use Rattle.text_model.specs.Writing as writing
use Rattle.text_model.specs.ReadBack.{IsGround, AreGround}
use Rattle.writing_laws.proofs.Look.{look}
use Rattle.writing_laws.proofs.Bools.{no_both, if_false, same_text-true}
use Rattle.writing_laws.proofs.Spells.{Spell, sign, pieces_in, first_closes, Safe, AreSpells}
use Rattle.writing_laws.proofs.NamesBack.{Gives}
use Rattle.writing_laws.proofs.TableBack.{IsSignName, IsComma, operator-fine, no_postfix_operator, no_operator}
use Rattle.writing_laws.proofs.Told.{Told, ToldArgs, pieces-append, spells-append, begins-append, gives-closing, gives-square, atom_told, int_told, grouped_told, wrapped_told, pair_of, single_of, joined_told, conjoined_told, prefixed_told, one_arg, more_args, called_told, braced_told}

-- ---- lists

abbrev list_parse : Arguments → Option Parse → Parse
list_parse es None = listed es
list_parse es (Some p) = listed_to es p

abbrev last_meaning : Option Parse → Tree (List ℕ)
last_meaning None = empty_list
last_meaning (Some p) = meaning p

abbrev last_yield : Option Parse → List Item
last_yield None = closes square ∷ []
last_yield (Some p) = bar ∷ (yield p ++ closes square ∷ [])

abbrev IsLast : Option Parse → Type 0
IsLast None = Unit {0}
IsLast (Some p) = (priority p ≤ argument_priority) × IsGood p

yield-list : (es : Arguments) (l : Option Parse) → yield (list_parse es l) ≡ opens square ∷ (all_yield es ++ last_yield l)
yield-list es None = refl
yield-list es (Some p) = refl

meaning-list : (es : Arguments) (l : Option Parse) → meaning (list_parse es l) ≡ list_to (all_meaning es) (last_meaning l)
meaning-list es None = refl
meaning-list es (Some p) = refl

good-list : (es : Arguments) (l : Option Parse) → AreGood es → IsLast l → IsGood (list_parse es l)
good-list es None h k = h
good-list es (Some p) h k = (h, k.0, k.1)

priority-list : (es : Arguments) (l : Option Parse) → priority (list_parse es l) ≡ 0
priority-list es None = refl
priority-list es (Some p) = refl

weight-list : (es : Arguments) (l : Option Parse) → weight (list_parse es l) ≡ 0
weight-list es None = refl
weight-list es (Some p) = refl

-- What follows an item of a list, with the closing bracket.
pub record ToldTail (t : Tree (List ℕ)) (ps : List Piece) : Type 0 where
  pub spells : List Spell
  pub same : pieces_in spells ≡ ps
  pub are : AreSpells spells
  pub args : Parse → Arguments
  pub last : Option Parse
  pub items : List Item
  pub good_args : (e : Parse) → priority e ≤ argument_priority → IsGood e → AreGood (args e)
  pub good_last : IsLast last
  pub means : (e : Parse) → list_to (all_meaning (args e)) (last_meaning last) ≡ pair_of (codes ".") (meaning e) t
  pub yields : (e : Parse) → all_yield (args e) ++ last_yield last ≡ yield e ++ items
  pub closes_first : (vs : List Spell) → first_closes (spells ++ vs) ≡ true
  pub classes : (b : ℕ) (vs : List Spell) (rest : List Item) → Gives b at_operator vs rest → Gives b at_operator (spells ++ vs) (items ++ rest)
  pub safe : (q : Spell) (vs : List Spell) → ((q : Spell) → Safe q vs) → Safe q (spells ++ vs)

end_tail : ToldTail empty_list (plain_piece (codes "]") ∷ [])
end_tail = record {
  spells = sign 93 ∷ [];
  same = refl;
  are = (refl, tt);
  args = λ e. one e;
  last = None;
  items = closes square ∷ [];
  good_args = λ e h g. (h, g);
  good_last = tt;
  means = λ e. refl;
  yields = λ e. refl;
  closes_first = λ vs. refl;
  classes = λ b vs rest k. gives-closing b 93 (closes square) at_operator vs rest refl k;
  safe = λ q vs h. ((λ e. refl), h (sign 93));
}

bar_tail : (t : Tree (List ℕ)) (ps : List Piece) → Told t argument_priority false ps → ToldTail t (plain_piece (codes "|") ∷ (ps ++ plain_piece (codes "]") ∷ []))
bar_tail t ps d = record {
  spells = sign 124 ∷ (d.spells ++ sign 93 ∷ []);
  same = ap (λ l. plain_piece (codes "|") ∷ l) (pieces-append d.spells (sign 93 ∷ []) ∙ ap (λ l. l ++ plain_piece (codes "]") ∷ []) d.same);
  are = (refl, spells-append d.spells (sign 93 ∷ []) d.are (refl, tt));
  args = λ e. one e;
  last = Some d.parse;
  items = bar ∷ (yield d.parse ++ closes square ∷ []);
  good_args = λ e h g. (h, g);
  good_last = (d.fits, d.good);
  means = λ e. ap (pair_of (codes ".") (meaning e)) d.means;
  yields = λ e. refl;
  closes_first = λ vs. refl;
  classes = λ b vs rest k.
      subst (λ l. Gives b at_operator (sign 124 ∷ l) (bar ∷ ((yield d.parse ++ closes square ∷ []) ++ rest))) (sym (append_assoc d.spells (sign 93 ∷ []) vs))
      (subst (λ l. Gives b at_operator (sign 124 ∷ (d.spells ++ sign 93 ∷ vs)) (bar ∷ l)) (sym (append_assoc (yield d.parse) (closes square ∷ []) rest))
      (gives-closing b 124 bar at_operand (d.spells ++ sign 93 ∷ vs) (yield d.parse ++ closes square ∷ rest) refl (d.classes b (sign 93 ∷ vs) (closes square ∷ rest) refl (gives-closing b 93 (closes square) at_operator vs rest refl k))));
  safe = λ q vs h. ((λ e. refl), subst (Safe (sign 124)) (sym (append_assoc d.spells (sign 93 ∷ []) vs)) (d.safe (sign 124) (sign 93 ∷ vs) refl (λ q. ((λ e. refl), h (sign 93)))));
}

item_tail : (a t : Tree (List ℕ)) (ps qs : List Piece) → Told a argument_priority false ps → ToldTail t qs → ToldTail (pair_of (codes ".") a t) (plain_piece (codes ",") ∷ (ps ++ qs))
item_tail a t ps qs d r = record {
  spells = sign 44 ∷ (d.spells ++ r.spells);
  same = ap (λ l. plain_piece (codes ",") ∷ l) (pieces-append d.spells r.spells ∙ ap (λ l. l ++ pieces_in r.spells) d.same ∙ ap (λ l. ps ++ l) r.same);
  are = (refl, spells-append d.spells r.spells d.are r.are);
  args = λ e. more e (r.args d.parse);
  last = r.last;
  items = comma ∷ (yield d.parse ++ r.items);
  good_args = λ e h g. (h, g, r.good_args d.parse d.fits d.good);
  good_last = r.good_last;
  means = λ e. ap (pair_of (codes ".") (meaning e)) (r.means d.parse ∙ ap (λ x. pair_of (codes ".") x t) d.means);
  yields = λ e. append_assoc (yield e) (comma ∷ all_yield (r.args d.parse)) (last_yield r.last) ∙ ap (λ l. yield e ++ comma ∷ l) (r.yields d.parse);
  closes_first = λ vs. refl;
  classes = λ b vs rest k.
      subst (λ l. Gives b at_operator (sign 44 ∷ l) (comma ∷ ((yield d.parse ++ r.items) ++ rest))) (sym (append_assoc d.spells r.spells vs))
      (subst (λ l. Gives b at_operator (sign 44 ∷ (d.spells ++ (r.spells ++ vs))) (comma ∷ l)) (sym (append_assoc (yield d.parse) r.items rest))
      (gives-closing b 44 comma at_operand (d.spells ++ (r.spells ++ vs)) (yield d.parse ++ (r.items ++ rest)) refl (d.classes b (r.spells ++ vs) (r.items ++ rest) (r.closes_first vs) (r.classes b vs rest k))));
  safe = λ q vs h. ((λ e. refl), subst (Safe (sign 44)) (sym (append_assoc d.spells r.spells vs)) (d.safe (sign 44) (r.spells ++ vs) refl (λ q. r.safe q vs h)));
}

list_told : (a t : Tree (List ℕ)) (max : ℕ) (here : Bool) (ps qs : List Piece) → Told a argument_priority false ps → ToldTail t qs → Told (pair_of (codes ".") a t) max here (plain_piece (codes "[") ∷ (ps ++ qs))
list_told a t max here ps qs d r =
    let es = r.args d.parse in
    record {
      spells = sign 91 ∷ (d.spells ++ r.spells);
      same = ap (λ l. plain_piece (codes "[") ∷ l) (pieces-append d.spells r.spells ∙ ap (λ l. l ++ pieces_in r.spells) d.same ∙ ap (λ l. ps ++ l) r.same);
      are = (refl, spells-append d.spells r.spells d.are r.are);
      parse = list_parse es r.last;
      good = good-list es r.last (r.good_args d.parse d.fits d.good) r.good_last;
      fits = omega (arith, priority-list es r.last);
      light = omega (arith, weight-list es r.last);
      means = meaning-list es r.last ∙ r.means d.parse ∙ ap (λ x. pair_of (codes ".") x t) d.means;
      begins = refl;
      classes = λ b vs rest f k.
          subst (λ l. Gives b at_operand ((sign 91 ∷ (d.spells ++ r.spells)) ++ vs) (l ++ rest)) (sym (yield-list es r.last ∙ ap (λ l. opens square ∷ l) (r.yields d.parse)))
          (subst (λ l. Gives b at_operand (sign 91 ∷ l) (opens square ∷ ((yield d.parse ++ r.items) ++ rest))) (sym (append_assoc d.spells r.spells vs))
          (subst (λ l. Gives b at_operand (sign 91 ∷ (d.spells ++ (r.spells ++ vs))) (opens square ∷ l)) (sym (append_assoc (yield d.parse) r.items rest))
          (gives-square b (d.spells ++ (r.spells ++ vs)) (yield d.parse ++ (r.items ++ rest)) (begins-append d.spells (r.spells ++ vs) d.begins) (d.classes b (r.spells ++ vs) (r.items ++ rest) (r.closes_first vs) (r.classes b vs rest k)))));
      safe = λ p vs plain h. ((λ e. refl), subst (Safe (sign 91)) (sym (append_assoc d.spells r.spells vs)) (d.safe (sign 91) (r.spells ++ vs) refl (λ q. r.safe q vs h)));
    }

-- ---- every tree

pub record Tells (t : Tree (List ℕ)) (sh : Shown) : Type 0 where
  pub term : (max : ℕ) (here : Bool) → Told t max here (sh.term max here)
  pub tail : ToldTail t sh.tail

by_term : (t : Tree (List ℕ)) (f : ℕ → Bool → List Piece) → ((max : ℕ) (here : Bool) → Told t max here (f max here)) → Tells t (shown_by f)
by_term t f h = record { term = h; tail = bar_tail t (f argument_priority false) (h argument_priority false) }

abbrev pub AllTells : Trees (List ℕ) → List Shown → Type 0
AllTells nil [] = Unit {0}
AllTells nil (sh ∷ shs) = ⊥
AllTells (cons t ts) [] = ⊥
AllTells (cons t ts) (sh ∷ shs) = Tells t sh × AllTells ts shs

args_told : (t : Tree (List ℕ)) (ts : Trees (List ℕ)) (sh : Shown) (shs : List Shown) → Tells t sh → AllTells ts shs → ToldArgs (cons t ts) (parted (map as_argument (sh ∷ shs)))
args_told t nil sh [] h k = one_arg t (as_argument sh) (h.term argument_priority false)
args_told t nil sh (r ∷ rs) h k = absurd k
args_told t (cons u us) sh [] h k = absurd k
args_told t (cons u us) sh (r ∷ rs) h k = more_args t (cons u us) (as_argument sh) (parted (map as_argument (r ∷ rs))) (h.term argument_priority false) (args_told u us r rs k.0 k.1)

atom_wrapped : (s : List ℕ) (max : ℕ) (here : Bool) (b : Bool) → IsUtf8 s → (is_any_operator look s && here) ≡ b → Told (atom s) max here (wrapped b (plain_piece (name_text quotes s) ∷ []))
atom_wrapped s max here true utf8 e = grouped_told (atom s) 0 max false here (plain_piece (name_text quotes s) ∷ []) (omega arith) (atom_told s 0 false utf8 (λ f. absurd (cc)))
atom_wrapped s max here false utf8 e = atom_told s max here utf8 (λ f. no_operator s (sym (with_here (is_any_operator look s) here f) ∙ e))
  where
    with_here : (a h : Bool) → h ≡ true → (a && h) ≡ a
    with_here true h k = k
    with_here false h k = refl

atom_tells : (s : List ℕ) (b : Bool) → same_text s (codes "[]") ≡ b → IsUtf8 s → Tells (atom s) (writing.name_shown look quotes b s)
atom_tells s true e utf8 =
    let is : s ≡ codes "[]" = same_text-true s (codes "[]") e in
    subst (λ x. Tells (atom x) (writing.name_shown look quotes true x)) (sym is) (record {
      term = λ max here. atom_told (codes "[]") max here (subst IsUtf8 is utf8) (λ h. refl);
      tail = end_tail;
    })
atom_tells s false e utf8 = by_term (atom s) (λ max here. wrapped (is_any_operator look s && here) (plain_piece (name_text quotes s) ∷ [])) (λ max here. atom_wrapped s max here (is_any_operator look s && here) utf8 refl)

pair_form : (s : List ℕ) (o : Operator) (a b : Tree (List ℕ)) (ps qs : List Piece) → look infix_class s ≡ Some o → infix_in look s ≡ Some o → IsComma s o ⊎ IsSignName s → Told a (left_max o (tree_weight look a)) true ps → Told b (right_max o) true qs → Told (pair_of s a b) o.priority true (ps ++ signed quotes sign_between s ∷ qs)
pair_form s o a b ps qs e e2 (inr h) l r = joined_told s o a b (tree_weight look a) ps qs e e2 h refl l r
pair_form s o a b ps qs e e2 (inl h) l r =
    subst (λ x. Told (pair_of x a b) o.priority true (ps ++ signed quotes sign_between x ∷ qs)) (sym h.named)
    (subst (λ (x : Operator). Told (pair_of (codes ",") a b) x.priority true (ps ++ plain_piece (codes ",") ∷ qs)) (sym h.is_op)
    (conjoined_told a b (tree_weight look a) ps qs (subst (λ x. infix_in look x ≡ Some comma_op) h.named (e2 ∙ ap Some h.is_op)) refl
    (subst (λ x. Told a (left_max x (tree_weight look a)) true ps) h.is_op l)
    (subst (λ x. Told b (right_max x) true qs) h.is_op r)))

pair_term : (s : List ℕ) (a b : Tree (List ℕ)) (sa sb : Shown) (o : Option Operator) → IsUtf8 s → look infix_class s ≡ o → infix_in look s ≡ o → Tells a sa → Tells b sb → (max : ℕ) (here : Bool) → Told (pair_of s a b) max here (writing.two_arguments look quotes o s (tree_weight look a) sa sb max)
pair_term s a b sa sb None utf8 e e2 ha hb max here = called_told s (cons a (cons b nil)) max here (parted (map as_argument (sa ∷ sb ∷ []))) utf8 (omega arith) (args_told a (cons b nil) sa (sb ∷ []) ha (hb, tt))
pair_term s a b sa sb (Some o) utf8 e e2 ha hb max here =
    let f = operator-fine infix_class s o e in
    wrapped_told (pair_of s a b) o.priority max here (sa.term (left_max o (tree_weight look a)) true ++ signed quotes sign_between s ∷ sb.term (right_max o) true) f.small
    (pair_form s o a b (sa.term (left_max o (tree_weight look a)) true) (sb.term (right_max o) true) e e2 f.form (ha.term (left_max o (tree_weight look a)) true) (hb.term (right_max o) true))

pair_tells : (s : List ℕ) (a b : Tree (List ℕ)) (sa sb : Shown) (dot : Bool) → same_text s (codes ".") ≡ dot → IsUtf8 s → Tells a sa → Tells b sb → Tells (pair_of s a b) (writing.pair look quotes dot s (tree_weight look a) sa sb)
pair_tells s a b sa sb true e utf8 ha hb =
    subst (λ x. Tells (pair_of x a b) (writing.pair look quotes true x (tree_weight look a) sa sb)) (sym (same_text-true s (codes ".") e)) (record {
      term = λ max here. list_told a b max here (as_argument sa) sb.tail (ha.term argument_priority false) hb.tail;
      tail = item_tail a b (as_argument sa) sb.tail (ha.term argument_priority false) hb.tail;
    })
pair_tells s a b sa sb false e utf8 ha hb =
    let is : infix_in look s ≡ look infix_class s = if_false (same_text s (codes ".")) None (look infix_class s) e in
    by_term (pair_of s a b) (λ max here. writing.two_arguments look quotes (infix_in look s) s (tree_weight look a) sa sb max)
    (λ max here. pair_term s a b sa sb (infix_in look s) utf8 (sym is) refl ha hb max here)

single_term : (s : List ℕ) (a : Tree (List ℕ)) (sa : Shown) (o p : Option Operator) → IsUtf8 s → look prefix_class s ≡ o → prefix_in look s ≡ o → look postfix_class s ≡ p → Tells a sa → (max : ℕ) (here : Bool) → Told (single_of s a) max here (writing.one_argument look quotes o p s (tree_weight look a) sa max)
single_term s a sa None None utf8 e e2 f ha max here = called_told s (cons a nil) max here (as_argument sa) utf8 (omega arith) (one_arg a (as_argument sa) (ha.term argument_priority false))
single_term s a sa None (Some p) utf8 e e2 f ha max here = absurd (let x : Some p ≡ None = no_postfix_operator s (Some p) f in cc)
single_term s a sa (Some o) p utf8 e e2 f ha max here =
    let g = operator-fine prefix_class s o e in
    wrapped_told (single_of s a) o.priority max here (signed quotes sign_before s ∷ sa.term (right_max o) true) g.small (by_form g.form)
  where
    by_form : IsComma s o ⊎ IsSignName s → Told (single_of s a) o.priority true (signed quotes sign_before s ∷ sa.term (right_max o) true)
    by_form (inl h) = absurd (let c = (operator-fine prefix_class s o e).classed in no_both c (ap (λ (x : Operator). Rattle.pl_ops.specs.Tables.same_class (Rattle.pl_ops.specs.Tables.class_of x.kind) prefix_class) h.is_op))
    by_form (inr h) = prefixed_told s o a (sa.term (right_max o) true) e e2 h (ha.term (right_max o) true)

single_tells : (s : List ℕ) (a : Tree (List ℕ)) (sa : Shown) (curly : Bool) → same_text s (codes "{}") ≡ curly → IsUtf8 s → Tells a sa → Tells (single_of s a) (writing.single look quotes curly s (tree_weight look a) sa)
single_tells s a sa true e utf8 ha =
    subst (λ x. Tells (single_of x a) (writing.single look quotes true x (tree_weight look a) sa)) (sym (same_text-true s (codes "{}") e))
    (by_term (single_of (codes "{}") a) (λ max here. writing.braces look quotes sa) (λ max here. braced_told a max here (sa.term max_priority false) (ha.term max_priority false)))
single_tells s a sa false e utf8 ha =
    let is : prefix_in look s ≡ look prefix_class s = if_false (same_text s (codes "{}")) None (look prefix_class s) e in
    let is2 : postfix_in look s ≡ look postfix_class s = if_false (same_text s (codes "{}")) None (look postfix_class s) e in
    by_term (single_of s a) (λ max here. writing.one_argument look quotes (prefix_in look s) (postfix_in look s) s (tree_weight look a) sa max)
    (λ max here. single_term s a sa (prefix_in look s) (postfix_in look s) utf8 (sym is) refl (sym is2) ha max here)

comp_tells : (s : List ℕ) (ts : Trees (List ℕ)) (shs : List Shown) → IsUtf8 s → 1 ≤ count ts → count ts ≤ max_arity → AllTells ts shs → Tells (comp s ts) (writing.compound look quotes s (writing.first_weight look quotes ts) shs)
comp_tells s nil shs utf8 some few h = absurd (omega arith)
comp_tells s (cons a nil) [] utf8 some few h = absurd h
comp_tells s (cons a nil) (sa ∷ []) utf8 some few h = single_tells s a sa (same_text s (codes "{}")) refl utf8 h.0
comp_tells s (cons a nil) (sa ∷ sb ∷ shs) utf8 some few h = absurd h.1
comp_tells s (cons a (cons b ts)) [] utf8 some few h = absurd h
comp_tells s (cons a (cons b ts)) (sa ∷ []) utf8 some few h = absurd h.1
comp_tells s (cons a (cons b nil)) (sa ∷ sb ∷ []) utf8 some few h = pair_tells s a b sa sb (same_text s (codes ".")) refl utf8 h.0 h.1.0
comp_tells s (cons a (cons b nil)) (sa ∷ sb ∷ sc ∷ shs) utf8 some few h = absurd h.1.1
comp_tells s (cons a (cons b (cons c ts))) (sa ∷ sb ∷ []) utf8 some few h = absurd h.1.1
comp_tells s (cons a (cons b (cons c ts))) (sa ∷ sb ∷ sc ∷ shs) utf8 some few h =
    by_term (comp s (cons a (cons b (cons c ts)))) (λ max here. writing.functional look quotes s (sa ∷ sb ∷ sc ∷ shs))
    (λ max here. called_told s (cons a (cons b (cons c ts))) max here (parted (map as_argument (sa ∷ sb ∷ sc ∷ shs))) utf8 few (args_told a (cons b (cons c ts)) sa (sb ∷ sc ∷ shs) h.0 h.1))

mutual
  pub tells : (t : Tree (List ℕ)) → IsGround t → Tells t (writing.shown look quotes t)
  tells (var n) h = absurd h
  tells (int z) h = by_term (int z) (λ max here. plain_piece (int_text z) ∷ []) (λ max here. int_told z max here h)
  tells (atom s) h = atom_tells s (same_text s (codes "[]")) refl h
  tells (comp s ts) h = comp_tells s ts (writing.all_shown look quotes ts) h.0 h.1 h.2 (all_tells ts h.3)

  pub all_tells : (ts : Trees (List ℕ)) → AreGround ts → AllTells ts (writing.all_shown look quotes ts)
  all_tells nil h = tt
  all_tells (cons t ts) h = (tells t h.0, all_tells ts h.1)
