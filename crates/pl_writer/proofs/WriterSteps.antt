-- The writer's stack, step by step.
use Rattle.std.proofs.Common.{◌≡◌, ℕ, zero, suc, ◌-◌, ◌≤◌, ◌<◌, List, [], ◌∷◌, ◌++◌, map, Bool, true, false, ◌&&◌, if◌then◌else◌, Option, Some, None, refl, sym, ap, ◌∙◌, arith, nat_eq, nat_lt, append_assoc}
use Rattle.std.specs.Prelude.{codes}
use Rattle.std.proofs.lemmas.Bool.{ne_eqb}
use Rattle.pl_terms.specs.Trees.{Tree, var, int, atom, comp, Trees, nil, cons, count, front, back, all_renamed}
use Rattle.pl_ops.specs.Tables.{Operators, prefix_class, infix_class, postfix_class, same_text}
use Rattle.pl_ops.specs.declared.op.Op.{Op as Operator}
use Rattle.pl_terms.specs.Order.{text_of, texts_of}
use Rattle.pl_terms.specs.Cells.{first, forest, IsForest}
use Rattle.text_model.specs.Writing.{Piece, plain_piece, name_text, signed, wrapped, Shown, parted, as_argument, tail_of, weight_of, first_some, prefix_in, postfix_in, infix_in, tree_weight, is_any_operator, left_max, right_max}
use Rattle.text_model.specs.declared.Quote.{Quote}
use Rattle.text_model.specs.declared.Role.TheVariants.{SignBefore as sign_before, SignBetween as sign_between, SignAfter as sign_after}
use Rattle.text_model.specs.Writing as writing
use Rattle.pl_writer.specs.Todos.{single_weight, comp_weight, cell_weight, wrapped_todo, functional_todo, one_todo, two_todo, single_todo, pair_todo, compound_todo, term_todo, is_end_tail, is_item_tail, tail_todo, Rest, doing, done_before, arguments_todo, mark, named, signs}
use Rattle.pl_atoms.specs.declared.names.NameId.{NameId}
use Rattle.pl_terms.specs.declared.cell.Cell.{Cell}
use Rattle.pl_terms.specs.declared.cell.Cell.TheVariants.{Var, Int, Name as name_cell, Comp}
use Rattle.pl_writer.specs.declared.todo.Todo.{Todo}
use Rattle.pl_writer.specs.declared.todo.Todo.TheVariants.{Term, Tail, Arguments}
use Rattle.pl_writer.proofs.Bools.{and-comm, if_true, if_false}

not_one : (k : ℕ) → nat_eq (suc (suc k)) 1 ≡ false
not_one k = ne_eqb (suc (suc k)) 1 (λ e. omega arith)

not_two : (k : ℕ) → nat_eq (suc (suc (suc k))) 2 ≡ false
not_two k = ne_eqb (suc (suc (suc k))) 2 (λ e. omega arith)

module _ (look : Operators) (names : List (List ℕ)) (q : Quote) where
  done : List Todo → Rest look names → Rest look names
  done = done_before look names q

  abbrev said : Tree ℕ → Shown
  said t = writing.shown look q (texts_of names t)

  pub done-append : (xs ys : List Todo) (k : Rest look names) → done_before look names q (xs ++ ys) k ≡ done_before look names q ys (done_before look names q xs k)
  done-append [] ys k = refl
  done-append (x ∷ xs) ys k = done-append xs ys (doing look names q x k)

  wrapped-done : (b : Bool) (ts : List Todo) (ps : List Piece) (f g : Trees ℕ) → ((k : Rest look names) → done_before look names q ts k f ≡ ps ++ k g) → (k : Rest look names) → done_before look names q (wrapped_todo b ts) k f ≡ wrapped b ps ++ k g
  wrapped-done false ts ps f g h k = h k
  wrapped-done true ts ps f g h k =
      ap (λ r. r f) (done-append ts (mark 40 ∷ []) (doing look names q (mark 41) k))
      ∙ ap (λ l. plain_piece (codes "(") ∷ l) (h (doing look names q (mark 41) k) ∙ sym (append_assoc ps (plain_piece (codes ")") ∷ []) (k g)))

  functional-done : (s : NameId) (n : ℕ) (f : Trees ℕ) (k : Rest look names) → done_before look names q (functional_todo s n) k f ≡ writing.functional look q (text_of names s.0) (writing.all_shown look q (all_renamed (text_of names) (front n f))) ++ k (back n f)
  functional-done s n f k =
      ap (λ l. plain_piece (name_text q (text_of names s.0)) ∷ plain_piece (codes "(") ∷ l) (sym (append_assoc (parted (map as_argument (writing.all_shown look q (all_renamed (text_of names) (front n f))))) (plain_piece (codes ")") ∷ []) (k (back n f))))

  one-done : (o p : Option Operator) (s : NameId) (w max : ℕ) (a : Tree ℕ) (f : Trees ℕ) (k : Rest look names) → done_before look names q (one_todo o p s w max) k (cons a f) ≡ writing.one_argument look q o p (text_of names s.0) w (said a) max ++ k f
  one-done (Some o) p s w max a f k = wrapped-done (nat_lt max o.priority) (Term (right_max o) true ∷ signs s sign_before ∷ []) (signed q sign_before (text_of names s.0) ∷ (said a).term (right_max o) true) (cons a f) f (λ k2. refl) k
  one-done None (Some o) s w max a f k = wrapped-done (nat_lt max o.priority) (signs s sign_after ∷ Term (left_max o w) true ∷ []) ((said a).term (left_max o w) true ++ signed q sign_after (text_of names s.0) ∷ []) (cons a f) f (λ k2. sym (append_assoc ((said a).term (left_max o w) true) (signed q sign_after (text_of names s.0) ∷ []) (k2 f))) k
  one-done None None s w max a f k = functional-done s 1 (cons a f) k

  two-done : (o : Option Operator) (s : NameId) (w max : ℕ) (a b : Tree ℕ) (f : Trees ℕ) (k : Rest look names) → done_before look names q (two_todo o s w max) k (cons a (cons b f)) ≡ writing.two_arguments look q o (text_of names s.0) w (said a) (said b) max ++ k f
  two-done (Some o) s w max a b f k =
      wrapped-done (nat_lt max o.priority) (Term (right_max o) true ∷ signs s sign_between ∷ Term (left_max o w) true ∷ []) ((said a).term (left_max o w) true ++ signed q sign_between (text_of names s.0) ∷ (said b).term (right_max o) true) (cons a (cons b f)) f
      (λ k2. sym (append_assoc ((said a).term (left_max o w) true) (signed q sign_between (text_of names s.0) ∷ (said b).term (right_max o) true) (k2 f))) k
  two-done None s w max a b f k = functional-done s 2 (cons a (cons b f)) k

  single-done : (c : Bool) (s : NameId) (w max : ℕ) (operand : Bool) (a : Tree ℕ) (f : Trees ℕ) (k : Rest look names) → same_text (text_of names s.0) (codes "{}") ≡ c →
      done_before look names q (if c then mark 125 ∷ Term 1200 false ∷ mark 123 ∷ [] else one_todo (look prefix_class (text_of names s.0)) (look postfix_class (text_of names s.0)) s w max) k (cons a f) ≡ (writing.single look q c (text_of names s.0) w (said a)).term max operand ++ k f
  single-done true s w max operand a f k e = ap (λ l. plain_piece (codes "{") ∷ l) (sym (append_assoc ((said a).term 1200 false) (plain_piece (codes "}") ∷ []) (k f)))
  single-done false s w max operand a f k e =
      let text = text_of names s.0 in
      one-done (look prefix_class text) (look postfix_class text) s w max a f k
      ∙ ap (λ o. writing.one_argument look q o (look postfix_class text) text w (said a) max ++ k f) (sym (if_false (same_text text (codes "{}")) None (look prefix_class text) e))
      ∙ ap (λ o. writing.one_argument look q (prefix_in look text) o text w (said a) max ++ k f) (sym (if_false (same_text text (codes "{}")) None (look postfix_class text) e))

  pair-done : (c : Bool) (s : NameId) (w max : ℕ) (operand : Bool) (a b : Tree ℕ) (f : Trees ℕ) (k : Rest look names) → same_text (text_of names s.0) (codes ".") ≡ c →
      done_before look names q (if c then Tail ∷ Term 999 false ∷ mark 91 ∷ [] else two_todo (look infix_class (text_of names s.0)) s w max) k (cons a (cons b f)) ≡ (writing.pair look q c (text_of names s.0) w (said a) (said b)).term max operand ++ k f
  pair-done true s w max operand a b f k e = ap (λ l. plain_piece (codes "[") ∷ l) (sym (append_assoc ((said a).term 999 false) (said b).tail (k f)))
  pair-done false s w max operand a b f k e =
      let text = text_of names s.0 in
      two-done (look infix_class text) s w max a b f k
      ∙ ap (λ o. writing.two_arguments look q o text w (said a) (said b) max ++ k f) (sym (if_false (same_text text (codes ".")) None (look infix_class text) e))

  compound-done : (s : NameId) (n w max : ℕ) (operand : Bool) (f : Trees ℕ) (k : Rest look names) → 0 < n → n ≤ count f → w ≡ tree_weight look (texts_of names (first f)) → done_before look names q (compound_todo look (text_of names s.0) s n w max) k f ≡ (said (comp s.0 (front n f))).term max operand ++ k (back n f)
  compound-done s zero w max operand f k some fits e = absurd (omega arith)
  compound-done s (suc zero) w max operand nil k some fits e = absurd (omega arith)
  compound-done s (suc zero) w max operand (cons a f) k some fits e =
      single-done (same_text (text_of names s.0) (codes "{}")) s w max operand a f k refl
      ∙ ap (λ x. (writing.single look q (same_text (text_of names s.0) (codes "{}")) (text_of names s.0) x (said a)).term max operand ++ k f) e
  compound-done s (suc (suc zero)) w max operand nil k some fits e = absurd (omega arith)
  compound-done s (suc (suc zero)) w max operand (cons a nil) k some fits e = absurd (omega arith)
  compound-done s (suc (suc zero)) w max operand (cons a (cons b f)) k some fits e =
      pair-done (same_text (text_of names s.0) (codes ".")) s w max operand a b f k refl
      ∙ ap (λ x. (writing.pair look q (same_text (text_of names s.0) (codes ".")) (text_of names s.0) x (said a) (said b)).term max operand ++ k f) e
  compound-done s (suc (suc (suc n))) w max operand nil k some fits e = absurd (omega arith)
  compound-done s (suc (suc (suc n))) w max operand (cons a nil) k some fits e = absurd (omega arith)
  compound-done s (suc (suc (suc n))) w max operand (cons a (cons b nil)) k some fits e = absurd (omega arith)
  compound-done s (suc (suc (suc n))) w max operand (cons a (cons b (cons c f))) k some fits e =
      let text = text_of names s.0 in
      let t3 = cons a (cons b (cons c f)) in
      ap (λ ts. done_before look names q ts k t3)
      (if_false (nat_eq (suc (suc (suc n))) 1) (single_todo look text s w max) _ (not_one (suc n)) ∙ if_false (nat_eq (suc (suc (suc n))) 2) (pair_todo look text s w max) (functional_todo s (suc (suc (suc n)))) (not_two n))
      ∙ functional-done s (suc (suc (suc n))) t3 k

  -- the weight of what comes first
  single-weight : (c : Bool) (text : List ℕ) → same_text text (codes "{}") ≡ c → (if c then 0 else weight_of (first_some (look prefix_class text) (look postfix_class text))) ≡ weight_of (first_some (prefix_in look text) (postfix_in look text))
  single-weight true text e =
      ap (λ o. weight_of (first_some o None)) (sym (if_true (same_text text (codes "{}")) None (look prefix_class text) e))
      ∙ ap (λ o. weight_of (first_some (prefix_in look text) o)) (sym (if_true (same_text text (codes "{}")) None (look postfix_class text) e))
  single-weight false text e =
      ap (λ o. weight_of (first_some o (look postfix_class text))) (sym (if_false (same_text text (codes "{}")) None (look prefix_class text) e))
      ∙ ap (λ o. weight_of (first_some (prefix_in look text) o)) (sym (if_false (same_text text (codes "{}")) None (look postfix_class text) e))

  pair-weight : (c : Bool) (text : List ℕ) → same_text text (codes ".") ≡ c → (if c then 0 else weight_of (look infix_class text)) ≡ weight_of (infix_in look text)
  pair-weight true text e = ap weight_of (sym (if_true (same_text text (codes ".")) None (look infix_class text) e))
  pair-weight false text e = ap weight_of (sym (if_false (same_text text (codes ".")) None (look infix_class text) e))

  comp-weight : (s n : ℕ) (f : Trees ℕ) → 0 < n → n ≤ count f → comp_weight look (text_of names s) n ≡ tree_weight look (texts_of names (comp s (front n f)))
  comp-weight s zero f some fits = absurd (omega arith)
  comp-weight s (suc zero) nil some fits = absurd (omega arith)
  comp-weight s (suc zero) (cons a f) some fits = single-weight (same_text (text_of names s) (codes "{}")) (text_of names s) refl
  comp-weight s (suc (suc zero)) nil some fits = absurd (omega arith)
  comp-weight s (suc (suc zero)) (cons a nil) some fits = absurd (omega arith)
  comp-weight s (suc (suc zero)) (cons a (cons b f)) some fits = pair-weight (same_text (text_of names s) (codes ".")) (text_of names s) refl
  comp-weight s (suc (suc (suc n))) nil some fits = absurd (omega arith)
  comp-weight s (suc (suc (suc n))) (cons a nil) some fits = absurd (omega arith)
  comp-weight s (suc (suc (suc n))) (cons a (cons b nil)) some fits = absurd (omega arith)
  comp-weight s (suc (suc (suc n))) (cons a (cons b (cons c f))) some fits =
      if_false (nat_eq (suc (suc (suc n))) 1) (single_weight look (text_of names s)) _ (not_one (suc n)) ∙ if_false (nat_eq (suc (suc (suc n))) 2) (if same_text (text_of names s) (codes ".") then 0 else weight_of (look infix_class (text_of names s))) 0 (not_two n)

  weight-is : (cs : List Cell) → IsForest cs → cell_weight look names cs ≡ tree_weight look (texts_of names (first (forest cs)))
  weight-is [] h = refl
  weight-is (Var n ∷ cs) h = refl
  weight-is (Int z ∷ cs) h = refl
  weight-is (name_cell s ∷ cs) h = refl
  weight-is (Comp s n ∷ cs) h = comp-weight s.0 n (forest cs) h.0 h.1

  atom-done : (c : Bool) (s : NameId) (max : ℕ) (operand : Bool) (f : Trees ℕ) (k : Rest look names) → same_text (text_of names s.0) (codes "[]") ≡ c → done_before look names q (if c then named s ∷ [] else wrapped_todo (operand && is_any_operator look (text_of names s.0)) (named s ∷ [])) k f ≡ (writing.name_shown look q c (text_of names s.0)).term max operand ++ k f
  atom-done true s max operand f k e = refl
  atom-done false s max operand f k e = wrapped-done (operand && is_any_operator look (text_of names s.0)) (named s ∷ []) (plain_piece (name_text q (text_of names s.0)) ∷ []) f f (λ k2. refl) k ∙ ap (λ b. wrapped b (plain_piece (name_text q (text_of names s.0)) ∷ []) ++ k f) (and-comm operand (is_any_operator look (text_of names s.0)))

  -- a term becomes what stands for it
  pub term-done : (max : ℕ) (operand : Bool) (c : Cell) (cs : List Cell) (k : Rest look names) → IsForest (c ∷ cs) → done_before look names q (term_todo look names max operand (c ∷ cs)) k (forest cs) ≡ doing look names q (Term max operand) k (forest (c ∷ cs))
  term-done max operand (Var n) cs k h = refl
  term-done max operand (Int z) cs k h = refl
  term-done max operand (name_cell s) cs k h = atom-done (same_text (text_of names s.0) (codes "[]")) s max operand (forest cs) k refl
  term-done max operand (Comp s n) cs k h = compound-done s n (cell_weight look names cs) max operand (forest cs) k h.0 h.1 (weight-is cs h.2)

  -- ---- tails

  bar-done : (t : Tree ℕ) (f : Trees ℕ) (k : Rest look names) → (said t).tail ≡ tail_of (said t).term → done_before look names q (mark 93 ∷ Term 999 false ∷ mark 124 ∷ []) k (cons t f) ≡ doing look names q Tail k (cons t f)
  bar-done t f k h =
      ap (λ l. plain_piece (codes "|") ∷ l) (sym (append_assoc ((said t).term 999 false) (plain_piece (codes "]") ∷ []) (k f)))
      ∙ ap (λ l. l ++ k f) (sym h)

  single-tail : (c : Bool) (text : List ℕ) (w : ℕ) (a : Shown) → (writing.single look q c text w a).tail ≡ tail_of (writing.single look q c text w a).term
  single-tail true text w a = refl
  single-tail false text w a = refl

  comp-tail : (s n : ℕ) (f : Trees ℕ) → 0 < n → n ≤ count f → (nat_eq n 2 && same_text (text_of names s) (codes ".")) ≡ false → (said (comp s (front n f))).tail ≡ tail_of (said (comp s (front n f))).term
  comp-tail s zero f some fits e = absurd (omega arith)
  comp-tail s (suc zero) nil some fits e = absurd (omega arith)
  comp-tail s (suc zero) (cons a f) some fits e = single-tail (same_text (text_of names s) (codes "{}")) (text_of names s) (tree_weight look (texts_of names a)) (said a)
  comp-tail s (suc (suc zero)) nil some fits e = absurd (omega arith)
  comp-tail s (suc (suc zero)) (cons a nil) some fits e = absurd (omega arith)
  comp-tail s (suc (suc zero)) (cons a (cons b f)) some fits e =
      let text = text_of names s in
      let p = λ (c : Bool). writing.pair look q c text (tree_weight look (texts_of names a)) (said a) (said b) in
      ap (λ c. (p c).tail) e ∙ ap (λ c. tail_of (p c).term) (sym e)
  comp-tail s (suc (suc (suc n))) nil some fits e = absurd (omega arith)
  comp-tail s (suc (suc (suc n))) (cons a nil) some fits e = absurd (omega arith)
  comp-tail s (suc (suc (suc n))) (cons a (cons b nil)) some fits e = absurd (omega arith)
  comp-tail s (suc (suc (suc n))) (cons a (cons b (cons c f))) some fits e = refl

  item-done : (s n : ℕ) (f : Trees ℕ) (k : Rest look names) → n ≤ count f → (nat_eq n 2 && same_text (text_of names s) (codes ".")) ≡ true → done_before look names q (Tail ∷ Term 999 false ∷ mark 44 ∷ []) k f ≡ (said (comp s (front n f))).tail ++ k (back n f)
  item-done s zero f k fits e = absurd (cc)
  item-done s (suc zero) f k fits e = absurd (cc)
  item-done s (suc (suc zero)) nil k fits e = absurd (omega arith)
  item-done s (suc (suc zero)) (cons a nil) k fits e = absurd (omega arith)
  item-done s (suc (suc zero)) (cons a (cons b f)) k fits e =
      let p = λ (c : Bool). writing.pair look q c (text_of names s) (tree_weight look (texts_of names a)) (said a) (said b) in
      ap (λ l. plain_piece (codes ",") ∷ l) (sym (append_assoc ((said a).term 999 false) (said b).tail (k f)))
      ∙ ap (λ c. (p c).tail ++ k f) (sym e)
  item-done s (suc (suc (suc n))) f k fits e = absurd (let x : false ≡ true = ap (λ b. b && same_text (text_of names s) (codes ".")) (sym (not_two n)) ∙ e in cc)

  name-tail : (c : Bool) (text : List ℕ) → c ≡ false → (writing.name_shown look q c text).tail ≡ tail_of (writing.name_shown look q c text).term
  name-tail true text e = absurd (cc)
  name-tail false text e = refl

  pub tail-kept : (c : Cell) (cs : List Cell) (k : Rest look names) → IsForest (c ∷ cs) → is_end_tail names (c ∷ cs) ≡ false → is_item_tail names (c ∷ cs) ≡ false → done_before look names q (tail_todo names (c ∷ cs)) k (forest (c ∷ cs)) ≡ doing look names q Tail k (forest (c ∷ cs))
  tail-kept (Var n) cs k h e g = bar-done (var n) (forest cs) k refl
  tail-kept (Int z) cs k h e g = bar-done (int z) (forest cs) k refl
  tail-kept (name_cell s) cs k h e g =
      ap (λ ts. done_before look names q ts k (forest (name_cell s ∷ cs))) (if_false (is_end_tail names (name_cell s ∷ cs)) (mark 93 ∷ []) (mark 93 ∷ Term 999 false ∷ mark 124 ∷ []) e)
      ∙ bar-done (atom s.0) (forest cs) k (name-tail (same_text (text_of names s.0) (codes "[]")) (text_of names s.0) e)
  tail-kept (Comp s n) cs k h e g =
      ap (λ ts. done_before look names q ts k (forest (Comp s n ∷ cs))) (if_false (is_item_tail names (Comp s n ∷ cs)) (Tail ∷ Term 999 false ∷ mark 44 ∷ []) (mark 93 ∷ Term 999 false ∷ mark 124 ∷ []) g)
      ∙ bar-done (comp s.0 (front n (forest cs))) (back n (forest cs)) k (comp-tail s.0 n (forest cs) h.0 h.1 g)

  pub tail-ended : (c : Cell) (cs : List Cell) (k : Rest look names) → is_end_tail names (c ∷ cs) ≡ true → done_before look names q (tail_todo names (c ∷ cs)) k (forest cs) ≡ doing look names q Tail k (forest (c ∷ cs))
  tail-ended (Var n) cs k e = absurd (cc)
  tail-ended (Int z) cs k e = absurd (cc)
  tail-ended (name_cell s) cs k e =
      ap (λ ts. done_before look names q ts k (forest cs)) (if_true (is_end_tail names (name_cell s ∷ cs)) (mark 93 ∷ []) (mark 93 ∷ Term 999 false ∷ mark 124 ∷ []) e)
      ∙ ap (λ b. (writing.name_shown look q b (text_of names s.0)).tail ++ k (forest cs)) (sym e)
  tail-ended (Comp s n) cs k e = absurd (cc)

  pub tail-more : (c : Cell) (cs : List Cell) (k : Rest look names) → IsForest (c ∷ cs) → is_item_tail names (c ∷ cs) ≡ true → done_before look names q (tail_todo names (c ∷ cs)) k (forest cs) ≡ doing look names q Tail k (forest (c ∷ cs))
  tail-more (Var n) cs k h e = absurd (cc)
  tail-more (Int z) cs k h e = absurd (cc)
  tail-more (name_cell s) cs k h e = absurd (cc)
  tail-more (Comp s n) cs k h e =
      ap (λ ts. done_before look names q ts k (forest cs)) (if_true (is_item_tail names (Comp s n ∷ cs)) (Tail ∷ Term 999 false ∷ mark 44 ∷ []) (mark 93 ∷ Term 999 false ∷ mark 124 ∷ []) e)
      ∙ item-done s.0 n (forest cs) k h.1 e

  -- ---- arguments

  pub arguments-done : (n : ℕ) (f : Trees ℕ) (k : Rest look names) → n ≤ count f → done_before look names q (arguments_todo n) k f ≡ doing look names q (Arguments n) k f
  arguments-done zero f k fits = refl
  arguments-done (suc zero) nil k fits = absurd (omega arith)
  arguments-done (suc zero) (cons a f) k fits = refl
  arguments-done (suc (suc n)) nil k fits = absurd (omega arith)
  arguments-done (suc (suc n)) (cons a nil) k fits = absurd (omega arith)
  arguments-done (suc (suc n)) (cons a (cons b f)) k fits =
      let f2 = cons a (cons b f) in
      let e : suc (suc n) - 1 ≡ suc n = omega arith in
      ap (λ ts. done_before look names q ts k f2)
      (if_false (nat_eq (suc (suc n)) 0) [] _ (ne_eqb (suc (suc n)) 0 (λ z. omega arith)) ∙ if_false (nat_eq (suc (suc n)) 1) (Term 999 false ∷ []) _ (not_one n) ∙ ap (λ m. Arguments m ∷ mark 44 ∷ Term 999 false ∷ []) e)
      ∙ sym (append_assoc ((said a).term 999 false) (plain_piece (codes ",") ∷ parted (map as_argument (writing.all_shown look q (all_renamed (text_of names) (front (suc n) (cons b f)))))) (k (back n f)))
