-- What the writer's loop keeps.
use Rattle.std.proofs.Common.{◌≡◌, ℕ, zero, suc, ◌+◌, ◌-◌, ◌*◌, ◌≤◌, ◌<◌, List, [], ◌∷◌, ◌++◌, length, drop, take, get_or, Bool, true, false, ◌&&◌, ◌||◌, if◌then◌else◌, Option, Some, None, refl, sym, ap, ◌∙◌, arith, subst, nat_eq, nat_lt, append_assoc, append-nil, inl, inr}
use Rattle.std.specs.Prelude.{codes}
use Rattle.std.proofs.lemmas.Bool.{ne_eqb}
use Rattle.std.proofs.Math.Seq.{drop-cons}
use Rattle.pl_terms.specs.Trees.{Trees, nil, cons, count}
use Rattle.pl_ops.specs.Tables.{Operators, prefix_class, infix_class, postfix_class, same_text}
use Rattle.pl_ops.specs.declared.op.Op.{Op as Operator}
use Rattle.pl_terms.specs.Order.{text_of, texts_of}
use Rattle.pl_terms.specs.Cells.{first, forest, IsForest}
use Rattle.text_model.specs.Writing.{Piece, wrapped, is_any_operator, left_max, right_max}
use Rattle.text_model.specs.declared.Quote.{Quote}
use Rattle.text_model.specs.declared.Role.TheVariants.{SignBefore as sign_before, SignBetween as sign_between, SignAfter as sign_after}
use Rattle.text_model.specs.Writing as writing
use Rattle.pl_writer.specs.Todos.{cell_weight, wrapped_todo, functional_todo, one_todo, two_todo, single_todo, pair_todo, compound_todo, atom_todo, term_todo, is_end_tail, is_item_tail, tail_todo, Rest, doing, done_before, needs, all_needs, cost, all_costs, arguments_todo, mark, named, signs}
use Rattle.pl_writer.specs.Edges.{piece_of, gapped, edge_of, spaced_by, no_edge}
use Rattle.pl_atoms.specs.declared.names.NameId.{NameId}
use Rattle.pl_terms.specs.declared.cell.Cell.{Cell}
use Rattle.pl_terms.specs.declared.cell.Cell.TheVariants.{Var, Int, Name as name_cell, Comp}
use Rattle.pl_writer.specs.declared.todo.Todo.{Todo}
use Rattle.pl_writer.specs.declared.todo.Todo.TheVariants.{Term, Tail, Arguments, Put}
use Rattle.pl_writer.specs.declared.edge.Part.{Part}
use Rattle.pl_writer.specs.declared.edge.Edge.{Edge}
use Rattle.pl_writer.proofs.Bools.{bool_of, if_true, if_false}
use Rattle.pl_writer.proofs.Steps.{count-back, count-forest_le, IsForest-drop}
use Rattle.pl_writer.proofs.WriterSteps.{done-append, term-done, tail-kept, tail-ended, tail-more, arguments-done}

not_one : (k : ℕ) → nat_eq (suc (suc k)) 1 ≡ false
not_one k = ne_eqb (suc (suc k)) 1 (λ e. omega arith)

not_two : (k : ℕ) → nat_eq (suc (suc (suc k))) 2 ≡ false
not_two k = ne_eqb (suc (suc (suc k))) 2 (λ e. omega arith)

pub needs-append : (xs ys : List Todo) → all_needs (xs ++ ys) ≡ all_needs xs + all_needs ys
needs-append [] ys = omega arith
needs-append (x ∷ xs) ys = omega (arith, needs-append xs ys)

pub costs-append : (xs ys : List Todo) → all_costs (xs ++ ys) ≡ all_costs xs + all_costs ys
costs-append [] ys = omega arith
costs-append (x ∷ xs) ys = omega (arith, costs-append xs ys)

-- What a list of todos takes, and costs.
pub record Weighs (ts : List Todo) (n : ℕ) : Type 0 where
  pub takes : all_needs ts ≡ n
  pub costs : all_costs ts ≤ 3 * n + 7

wrapped-weighs : (b : Bool) (ts : List Todo) (n : ℕ) → all_needs ts ≡ n → all_costs ts ≤ 3 * n + 5 → Weighs (wrapped_todo b ts) n
wrapped-weighs false ts n h k = record { takes = h; costs = omega arith }
wrapped-weighs true ts n h k = record { takes = omega (arith, needs-append ts (mark 40 ∷ []), h); costs = omega (arith, costs-append ts (mark 40 ∷ []), k) }

functional-weighs : (s : NameId) (n : ℕ) → Weighs (functional_todo s n) n
functional-weighs s n = record { takes = omega arith; costs = omega arith }

one-weighs : (o p : Option Operator) (s : NameId) (w max : ℕ) → Weighs (one_todo o p s w max) 1
one-weighs (Some o) p s w max = wrapped-weighs (nat_lt max o.priority) (Term (right_max o) true ∷ signs s sign_before ∷ []) 1 (omega arith) (omega arith)
one-weighs None (Some o) s w max = wrapped-weighs (nat_lt max o.priority) (signs s sign_after ∷ Term (left_max o w) true ∷ []) 1 (omega arith) (omega arith)
one-weighs None None s w max = functional-weighs s 1

two-weighs : (o : Option Operator) (s : NameId) (w max : ℕ) → Weighs (two_todo o s w max) 2
two-weighs (Some o) s w max = wrapped-weighs (nat_lt max o.priority) (Term (right_max o) true ∷ signs s sign_between ∷ Term (left_max o w) true ∷ []) 2 (omega arith) (omega arith)
two-weighs None s w max = functional-weighs s 2

if-weighs : (b : Bool) (xs ys : List Todo) (n : ℕ) → Weighs xs n → Weighs ys n → Weighs (if b then xs else ys) n
if-weighs true xs ys n h k = h
if-weighs false xs ys n h k = k

compound-weighs : (look : Operators) (text : List ℕ) (s : NameId) (n w max : ℕ) → 0 < n → Weighs (compound_todo look text s n w max) n
compound-weighs look text s zero w max h = absurd (omega arith)
compound-weighs look text s (suc zero) w max h = if-weighs (same_text text (codes "{}")) (mark 125 ∷ Term 1200 false ∷ mark 123 ∷ []) (one_todo (look prefix_class text) (look postfix_class text) s w max) 1 (record { takes = omega arith; costs = omega arith }) (one-weighs (look prefix_class text) (look postfix_class text) s w max)
compound-weighs look text s (suc (suc zero)) w max h = if-weighs (same_text text (codes ".")) (Tail ∷ Term 999 false ∷ mark 91 ∷ []) (two_todo (look infix_class text) s w max) 2 (record { takes = omega arith; costs = omega arith }) (two-weighs (look infix_class text) s w max)
compound-weighs look text s (suc (suc (suc n))) w max h =
    let m = suc (suc (suc n)) in
    subst (λ ts. Weighs ts m) (sym (if_false (nat_eq m 1) (single_todo look text s w max) _ (not_one (suc n)) ∙ if_false (nat_eq m 2) (pair_todo look text s w max) (functional_todo s m) (not_two n))) (functional-weighs s m)

-- Todos that take the place of a tree, whose first cell is used up.
pub record Replaces (ts : List Todo) (f g : Trees ℕ) : Type 0 where
  pub takes : all_needs ts + count f ≡ 1 + count g
  pub costs : all_costs ts ≤ 3 * all_needs ts + 7

replaces : (ts : List Todo) (n : ℕ) (f g : Trees ℕ) → Weighs ts n → n + count f ≡ 1 + count g → Replaces ts f g
replaces ts n f g h e = record { takes = omega (arith, h.takes); costs = omega (arith, h.takes, h.costs) }

pub term-replaces : (look : Operators) (names : List (List ℕ)) (max : ℕ) (operand : Bool) (c : Cell) (cs : List Cell) → IsForest (c ∷ cs) → Replaces (term_todo look names max operand (c ∷ cs)) (forest (c ∷ cs)) (forest cs)
term-replaces look names max operand (Var n) cs h = record { takes = omega arith; costs = omega arith }
term-replaces look names max operand (Int z) cs h = record { takes = omega arith; costs = omega arith }
term-replaces look names max operand (name_cell s) cs h =
    let text = text_of names s.0 in
    replaces (atom_todo look text s operand) 0 (forest (name_cell s ∷ cs)) (forest cs)
    (if-weighs (same_text text (codes "[]")) (named s ∷ []) (wrapped_todo (operand && is_any_operator look text) (named s ∷ [])) 0 (record { takes = omega arith; costs = omega arith }) (wrapped-weighs (operand && is_any_operator look text) (named s ∷ []) 0 (omega arith) (omega arith))) (omega arith)
term-replaces look names max operand (Comp s n) cs h =
    replaces (compound_todo look (text_of names s.0) s n (cell_weight look names cs) max) n (forest (Comp s n ∷ cs)) (forest cs) (compound-weighs look (text_of names s.0) s n (cell_weight look names cs) max h.0) (omega (arith, count-back n (forest cs), h.1))

end-replaces : (names : List (List ℕ)) (c : Cell) (cs : List Cell) → is_end_tail names (c ∷ cs) ≡ true → Replaces (tail_todo names (c ∷ cs)) (forest (c ∷ cs)) (forest cs)
end-replaces names (Var n) cs e = absurd (cc)
end-replaces names (Int z) cs e = absurd (cc)
end-replaces names (name_cell s) cs e = subst (λ ts. Replaces ts (forest (name_cell s ∷ cs)) (forest cs)) (sym (if_true (is_end_tail names (name_cell s ∷ cs)) (mark 93 ∷ []) (mark 93 ∷ Term 999 false ∷ mark 124 ∷ []) e)) (record { takes = omega arith; costs = omega arith })
end-replaces names (Comp s n) cs e = absurd (cc)

is_two : (n : ℕ) (b : Bool) → (nat_eq n 2 && b) ≡ true → n ≡ 2
is_two n b h = Rattle.std.proofs.lemmas.Bool.eqb-true n 2 (Rattle.pl_writer.proofs.Bools.and-first (nat_eq n 2) b h)

more-replaces : (names : List (List ℕ)) (c : Cell) (cs : List Cell) → IsForest (c ∷ cs) → is_item_tail names (c ∷ cs) ≡ true → Replaces (tail_todo names (c ∷ cs)) (forest (c ∷ cs)) (forest cs)
more-replaces names (Var n) cs h e = absurd (cc)
more-replaces names (Int z) cs h e = absurd (cc)
more-replaces names (name_cell s) cs h e = absurd (cc)
more-replaces names (Comp s n) cs h e =
    let two : n ≡ 2 = is_two n (same_text (text_of names s.0) (codes ".")) e in
    subst (λ ts. Replaces ts (forest (Comp s n ∷ cs)) (forest cs)) (sym (if_true (is_item_tail names (Comp s n ∷ cs)) (Tail ∷ Term 999 false ∷ mark 44 ∷ []) (mark 93 ∷ Term 999 false ∷ mark 124 ∷ []) e))
    (record { takes = omega (arith, count-back n (forest cs), h.1); costs = omega arith })

pub record Kept (ts : List Todo) : Type 0 where
  pub takes : all_needs ts ≡ 1
  pub costs : all_costs ts ≡ 3

kept-weighs : (names : List (List ℕ)) (c : Cell) (cs : List Cell) → is_end_tail names (c ∷ cs) ≡ false → is_item_tail names (c ∷ cs) ≡ false → Kept (tail_todo names (c ∷ cs))
kept-weighs names c cs e g =
    subst Kept (sym (if_false (is_end_tail names (c ∷ cs)) (mark 93 ∷ []) _ e ∙ if_false (is_item_tail names (c ∷ cs)) (Tail ∷ Term 999 false ∷ mark 44 ∷ []) (mark 93 ∷ Term 999 false ∷ mark 124 ∷ []) g)) (record { takes = omega arith; costs = omega arith })

pub record Fewer (ts : List Todo) (n : ℕ) : Type 0 where
  pub takes : all_needs ts ≡ n
  pub costs : all_costs ts < 3 * n + 1

pub arguments-fewer : (n : ℕ) → Fewer (arguments_todo n) n
arguments-fewer zero = record { takes = omega arith; costs = omega arith }
arguments-fewer (suc zero) = record { takes = omega arith; costs = omega arith }
arguments-fewer (suc (suc n)) =
    subst (λ ts. Fewer ts (suc (suc n)))
    (sym (if_false (nat_eq (suc (suc n)) 0) [] _ (ne_eqb (suc (suc n)) 0 (λ z. omega arith)) ∙ if_false (nat_eq (suc (suc n)) 1) (Term 999 false ∷ []) _ (not_one n)))
    (record { takes = omega arith; costs = omega arith })

-- ---- the loop

module _ (look : Operators) (names : List (List ℕ)) (q : Quote) where
  abbrev pub nothing_more : Rest look names
  nothing_more ts = []

  abbrev pub ahead : List Cell → ℕ → List Todo → List Piece
  ahead cells at stack = done_before look names q stack nothing_more (forest (drop at cells))

  -- What was written and what is still to be done make up the whole.
  pub record Writes (all : List ℕ) (cells : List Cell) (at : ℕ) (out : List ℕ) (edge : Edge) (stack : List Todo) : Type 0 where
    pub within : at ≤ length cells
    pub whole : IsForest cells
    pub counted : all_needs stack ≡ count (forest (drop at cells))
    pub same : all ≡ out ++ spaced_by edge (ahead cells at stack)

  pub record Stepped (all : List ℕ) (cells : List Cell) (at at2 : ℕ) (out : List ℕ) (edge : Edge) (stack stack2 : List Todo) : Type 0 where
    pub writes : Writes all cells at2 out edge stack2
    pub less : 10 * (length cells - at2) + all_costs stack2 - 3 * all_needs stack2 < 10 * (length cells - at) + all_costs stack - 3 * all_needs stack

  -- a cell comes
  pub record Comes (cells : List Cell) (at : ℕ) : Type 0 where
    pub cell : Cell
    pub here : drop at cells ≡ cell ∷ drop (at + 1) cells
    pub lies : at < length cells
    pub whole : IsForest (cell ∷ drop (at + 1) cells)

  no_cell : (cells : List Cell) (at : ℕ) → length cells ≤ at → drop at cells ≡ []
  no_cell [] zero h = refl
  no_cell [] (suc at) h = refl
  no_cell (c ∷ cs) zero h = absurd (omega arith)
  no_cell (c ∷ cs) (suc at) h = no_cell cs at (omega arith)

  comes : (cells : List Cell) (at : ℕ) → IsForest cells → 0 < count (forest (drop at cells)) → Comes cells at
  comes cells at h some = elim (bool_of (nat_lt at (length cells))) [
    | inl e ↦
        let lt : at < length cells = Rattle.std.proofs.lemmas.Bool.ltb-true at (length cells) e in
        let d : drop at cells ≡ get_or cells at (Var 0) ∷ drop (at + 1) cells = drop-cons cells at (Var 0) lt ∙ ap (λ i. get_or cells at (Var 0) ∷ drop i cells) (let n : suc at ≡ at + 1 = omega arith in n) in
        record { cell = get_or cells at (Var 0); here = d; lies = lt; whole = subst IsForest d (IsForest-drop at cells h) }
    | inr e ↦ absurd (let ge : length cells ≤ at = Rattle.std.proofs.lemmas.Bool.ltb-false at (length cells) e in omega (arith, ap (λ l. count (forest l)) (no_cell cells at ge)))
  ]

  pub cell_comes : (all : List ℕ) (cells : List Cell) (at : ℕ) (out : List ℕ) (edge : Edge) (stack rest : List Todo) (t : Todo) → Writes all cells at out edge stack → stack ≡ rest ++ t ∷ [] → needs t ≡ 1 → Comes cells at
  cell_comes all cells at out edge stack rest t w e one =
      comes cells at w.whole (omega (arith, w.counted, ap all_needs e, needs-append rest (t ∷ []), one))

  used : (all : List ℕ) (cells : List Cell) (at : ℕ) (out : List ℕ) (edge : Edge) (stack rest stack2 ts : List Todo) (t : Todo) → Writes all cells at out edge stack → stack ≡ rest ++ t ∷ [] → stack2 ≡ rest ++ ts → needs t ≡ 1 → 1 ≤ cost t → (c : Comes cells at) → Replaces ts (forest (c.cell ∷ drop (at + 1) cells)) (forest (drop (at + 1) cells)) → ((k : Rest look names) → done_before look names q ts k (forest (drop (at + 1) cells)) ≡ doing look names q t k (forest (c.cell ∷ drop (at + 1) cells))) → Stepped all cells at (at + 1) out edge stack stack2
  used all cells at out edge stack rest stack2 ts t w e e2 one dear c r d =
      let n1 : all_needs stack ≡ all_needs rest + 1 = omega (arith, ap all_needs e, needs-append rest (t ∷ []), one) in
      let n2 : all_needs stack2 ≡ all_needs rest + all_needs ts = ap all_needs e2 ∙ needs-append rest ts in
      let c1 : all_costs stack ≡ all_costs rest + cost t = omega (arith, ap all_costs e, costs-append rest (t ∷ [])) in
      let c2 : all_costs stack2 ≡ all_costs rest + all_costs ts = ap all_costs e2 ∙ costs-append rest ts in
      let h : count (forest (drop at cells)) ≡ count (forest (c.cell ∷ drop (at + 1) cells)) = ap (λ l. count (forest l)) c.here in
      let lens : length (drop at cells) ≡ length cells - at = Rattle.std.proofs.Common.length-drop at cells in
      let most : count (forest (drop at cells)) ≤ length (drop at cells) = count-forest_le (drop at cells) in
      let lies : at < length cells = c.lies in
      let takes : all_needs ts + count (forest (c.cell ∷ drop (at + 1) cells)) ≡ 1 + count (forest (drop (at + 1) cells)) = r.takes in
      let costs : all_costs ts ≤ 3 * all_needs ts + 7 = r.costs in
      let counted : all_needs stack ≡ count (forest (drop at cells)) = w.counted in
      let lens2 : length (drop (at + 1) cells) ≡ length cells - (at + 1) = Rattle.std.proofs.Common.length-drop (at + 1) cells in
      let most2 : count (forest (drop (at + 1) cells)) ≤ length (drop (at + 1) cells) = count-forest_le (drop (at + 1) cells) in
      record {
        writes = record {
          within = omega arith;
          whole = w.whole;
          counted = omega arith;
          same =
              w.same
              ∙ ap (λ l. out ++ spaced_by edge (done_before look names q l nothing_more (forest (drop at cells)))) e
              ∙ ap (λ r. out ++ spaced_by edge (r (forest (drop at cells)))) (done-append look names q rest (t ∷ []) nothing_more)
              ∙ ap (λ l. out ++ spaced_by edge (doing look names q t (done_before look names q rest nothing_more) (forest l))) c.here
              ∙ ap (λ l. out ++ spaced_by edge l) (sym (d (done_before look names q rest nothing_more)))
              ∙ ap (λ r. out ++ spaced_by edge (r (forest (drop (at + 1) cells)))) (sym (done-append look names q rest ts nothing_more))
              ∙ ap (λ l. out ++ spaced_by edge (done_before look names q l nothing_more (forest (drop (at + 1) cells)))) (sym e2);
        };
        less = omega arith;
      }

  pub term_step : (all : List ℕ) (cells : List Cell) (at : ℕ) (out : List ℕ) (edge : Edge) (stack rest stack2 : List Todo) (max : ℕ) (operand : Bool) → Writes all cells at out edge stack → stack ≡ rest ++ Term max operand ∷ [] → stack2 ≡ rest ++ term_todo look names max operand (drop at cells) → Stepped all cells at (at + 1) out edge stack stack2
  term_step all cells at out edge stack rest stack2 max operand w e e2 =
      let c = cell_comes all cells at out edge stack rest (Term max operand) w e refl in
      used all cells at out edge stack rest stack2 (term_todo look names max operand (c.cell ∷ drop (at + 1) cells)) (Term max operand) w e (e2 ∙ ap (λ l. rest ++ term_todo look names max operand l) c.here) refl (omega arith) c
      (term-replaces look names max operand c.cell (drop (at + 1) cells) c.whole) (λ k. term-done look names q max operand c.cell (drop (at + 1) cells) k c.whole)

  pub tail_step_taken : (all : List ℕ) (cells : List Cell) (at : ℕ) (out : List ℕ) (edge : Edge) (stack rest stack2 : List Todo) → Writes all cells at out edge stack → stack ≡ rest ++ Tail ∷ [] → stack2 ≡ rest ++ tail_todo names (drop at cells) → (is_end_tail names (drop at cells) || is_item_tail names (drop at cells)) ≡ true → Stepped all cells at (at + 1) out edge stack stack2
  tail_step_taken all cells at out edge stack rest stack2 w e e2 taken =
      let c = cell_comes all cells at out edge stack rest Tail w e refl in
      let cs = drop (at + 1) cells in
      let t : (is_end_tail names (c.cell ∷ cs) || is_item_tail names (c.cell ∷ cs)) ≡ true = ap (λ l. is_end_tail names l || is_item_tail names l) (sym c.here) ∙ taken in
      let go = used all cells at out edge stack rest stack2 (tail_todo names (c.cell ∷ cs)) Tail w e (e2 ∙ ap (λ l. rest ++ tail_todo names l) c.here) refl (omega arith) c in
      elim (Rattle.pl_writer.proofs.Bools.or-either (is_end_tail names (c.cell ∷ cs)) (is_item_tail names (c.cell ∷ cs)) t) [
        | inl a ↦ go (end-replaces names c.cell cs a) (λ k. tail-ended look names q c.cell cs k a)
        | inr b ↦ go (more-replaces names c.cell cs c.whole b) (λ k. tail-more look names q c.cell cs k c.whole b)
      ]

  -- nothing is used up
  stays : (all : List ℕ) (cells : List Cell) (at : ℕ) (out : List ℕ) (edge : Edge) (stack rest stack2 ts : List Todo) (t : Todo) → Writes all cells at out edge stack → stack ≡ rest ++ t ∷ [] → stack2 ≡ rest ++ ts → all_needs ts ≡ needs t → all_costs ts < cost t → ((k : Rest look names) → done_before look names q ts k (forest (drop at cells)) ≡ doing look names q t k (forest (drop at cells))) → Stepped all cells at at out edge stack stack2
  stays all cells at out edge stack rest stack2 ts t w e e2 same_needs cheaper d =
      let n1 : all_needs stack ≡ all_needs rest + needs t = omega (arith, ap all_needs e, needs-append rest (t ∷ [])) in
      let n2 : all_needs stack2 ≡ all_needs rest + all_needs ts = ap all_needs e2 ∙ needs-append rest ts in
      let c1 : all_costs stack ≡ all_costs rest + cost t = omega (arith, ap all_costs e, costs-append rest (t ∷ [])) in
      let c2 : all_costs stack2 ≡ all_costs rest + all_costs ts = ap all_costs e2 ∙ costs-append rest ts in
      let lens : length (drop at cells) ≡ length cells - at = Rattle.std.proofs.Common.length-drop at cells in
      let most : count (forest (drop at cells)) ≤ length (drop at cells) = count-forest_le (drop at cells) in
      let counted : all_needs stack ≡ count (forest (drop at cells)) = w.counted in
      record {
        writes = record {
          within = w.within;
          whole = w.whole;
          counted = omega arith;
          same =
              w.same
              ∙ ap (λ l. out ++ spaced_by edge (done_before look names q l nothing_more (forest (drop at cells)))) e
              ∙ ap (λ r. out ++ spaced_by edge (r (forest (drop at cells)))) (done-append look names q rest (t ∷ []) nothing_more)
              ∙ ap (λ l. out ++ spaced_by edge l) (sym (d (done_before look names q rest nothing_more)))
              ∙ ap (λ r. out ++ spaced_by edge (r (forest (drop at cells)))) (sym (done-append look names q rest ts nothing_more))
              ∙ ap (λ l. out ++ spaced_by edge (done_before look names q l nothing_more (forest (drop at cells)))) (sym e2);
        };
        less = omega arith;
      }

  pub tail_step_kept : (all : List ℕ) (cells : List Cell) (at : ℕ) (out : List ℕ) (edge : Edge) (stack rest stack2 : List Todo) → Writes all cells at out edge stack → stack ≡ rest ++ Tail ∷ [] → stack2 ≡ rest ++ tail_todo names (drop at cells) → (is_end_tail names (drop at cells) || is_item_tail names (drop at cells)) ≡ false → Stepped all cells at at out edge stack stack2
  tail_step_kept all cells at out edge stack rest stack2 w e e2 taken =
      let c = cell_comes all cells at out edge stack rest Tail w e refl in
      let cs = drop (at + 1) cells in
      let t : (is_end_tail names (c.cell ∷ cs) || is_item_tail names (c.cell ∷ cs)) ≡ false = ap (λ l. is_end_tail names l || is_item_tail names l) (sym c.here) ∙ taken in
      let a = Rattle.pl_writer.proofs.Bools.or-neither_first (is_end_tail names (c.cell ∷ cs)) (is_item_tail names (c.cell ∷ cs)) t in
      let b = Rattle.pl_writer.proofs.Bools.or-neither_second (is_end_tail names (c.cell ∷ cs)) (is_item_tail names (c.cell ∷ cs)) t in
      let k = kept-weighs names c.cell cs a b in
      stays all cells at out edge stack rest stack2 (tail_todo names (c.cell ∷ cs)) Tail w e (e2 ∙ ap (λ l. rest ++ tail_todo names l) c.here) k.takes (omega (arith, k.costs))
      (λ r. ap (λ l. done_before look names q (tail_todo names (c.cell ∷ cs)) r (forest l)) c.here ∙ tail-kept look names q c.cell cs r c.whole a b ∙ ap (λ l. doing look names q Tail r (forest l)) (sym c.here))

  pub arguments_step : (all : List ℕ) (cells : List Cell) (at : ℕ) (out : List ℕ) (edge : Edge) (stack rest stack2 : List Todo) (n : ℕ) → Writes all cells at out edge stack → stack ≡ rest ++ Arguments n ∷ [] → stack2 ≡ rest ++ arguments_todo n → Stepped all cells at at out edge stack stack2
  arguments_step all cells at out edge stack rest stack2 n w e e2 =
      let f = arguments-fewer n in
      let fits : n ≤ count (forest (drop at cells)) = omega (arith, w.counted, ap all_needs e, needs-append rest (Arguments n ∷ [])) in
      stays all cells at out edge stack rest stack2 (arguments_todo n) (Arguments n) w e e2 f.takes f.costs (λ k. arguments-done look names q n (forest (drop at cells)) k fits)

  -- a piece is written
  pub record Emitted (all : List ℕ) (cells : List Cell) (at : ℕ) (out2 : List ℕ) (edge2 : Edge) (stack rest : List Todo) : Type 0 where
    pub writes : Writes all cells at out2 edge2 rest
    pub less : 10 * (length cells - at) + all_costs rest - 3 * all_needs rest < 10 * (length cells - at) + all_costs stack - 3 * all_needs stack

  pub piece_step : (all : List ℕ) (cells : List Cell) (at : ℕ) (out out2 : List ℕ) (edge edge2 : Edge) (stack rest : List Todo) (t : Part) → Writes all cells at out edge stack → stack ≡ rest ++ Put t ∷ [] → edge2 ≡ edge_of (piece_of names q t) → out2 ≡ out ++ gapped edge (piece_of names q t) → Emitted all cells at out2 edge2 stack rest
  piece_step all cells at out out2 edge edge2 stack rest t w e ed ot =
      let f = forest (drop at cells) in
      let k = done_before look names q rest nothing_more in
      let p = piece_of names q t in
      let n1 : all_needs stack ≡ all_needs rest = omega (arith, ap all_needs e, needs-append rest (Put t ∷ [])) in
      let c1 : all_costs stack ≡ all_costs rest + 1 = omega (arith, ap all_costs e, costs-append rest (Put t ∷ [])) in
      let lens : length (drop at cells) ≡ length cells - at = Rattle.std.proofs.Common.length-drop at cells in
      let most : count f ≤ length (drop at cells) = count-forest_le (drop at cells) in
      let counted : all_needs stack ≡ count f = w.counted in
      record {
        writes = record {
          within = w.within;
          whole = w.whole;
          counted = omega arith;
          same =
              w.same
              ∙ ap (λ l. out ++ spaced_by edge (done_before look names q l nothing_more f)) e
              ∙ ap (λ r. out ++ spaced_by edge (r f)) (done-append look names q rest (Put t ∷ []) nothing_more)
              ∙ sym (append_assoc out (gapped edge p) (spaced_by (edge_of p) (k f)))
              ∙ ap (λ l. l ++ spaced_by (edge_of p) (k f)) (sym ot)
              ∙ ap (λ x. out2 ++ spaced_by x (k f)) (sym ed);
        };
        less = omega arith;
      }

-- ---- the start and the end

spaced_after-by : (p : Piece) (ps : List Piece) → writing.spaced_after p ps ≡ spaced_by (edge_of p) ps
spaced_after-by p [] = refl
spaced_after-by p (r ∷ rs) = ap (λ l. ((if writing.is_parted p r then 32 ∷ [] else []) ++ r.text) ++ l) (spaced_after-by r rs)

pub spaced-by : (ps : List Piece) → writing.spaced ps ≡ spaced_by no_edge ps
spaced-by [] = refl
spaced-by (p ∷ ps) = ap (λ l. p.text ++ l) (spaced_after-by p ps)

only : (f : Trees ℕ) → count f ≡ 1 → f ≡ cons (first f) nil
only nil h = absurd (omega arith)
only (cons a nil) h = refl
only (cons a (cons b f)) h = absurd (omega arith)

abbrev pub whole_of : Operators → List (List ℕ) → Quote → ℕ → List Cell → List Piece
whole_of look names q max cells = (writing.shown look q (texts_of names (Rattle.pl_terms.specs.Cells.tree_of cells))).term max false

pub start_writes : (look : Operators) (names : List (List ℕ)) (q : Quote) (max : ℕ) (cells : List Cell) (out : List ℕ) (stack : List Todo) → Rattle.pl_terms.specs.Cells.IsTerm cells → stack ≡ Term max false ∷ [] → Writes look names q (out ++ spaced_by no_edge (whole_of look names q max cells)) cells 0 out no_edge stack
start_writes look names q max cells out stack h s =
    let f : forest cells ≡ cons (first (forest cells)) nil = only (forest cells) h.one in
    record {
      within = omega arith;
      whole = h.whole;
      counted = ap all_needs s ∙ sym h.one;
      same =
          ap (λ l. out ++ spaced_by no_edge l) (sym (append-nil (whole_of look names q max cells)) ∙ ap (λ g. doing look names q (Term max false) (nothing_more look names q) g) (sym f) ∙ ap (λ l. done_before look names q l (nothing_more look names q) (forest cells)) (sym s));
    }

pub end_writes : (look : Operators) (names : List (List ℕ)) (q : Quote) (max : ℕ) (cells : List Cell) (at : ℕ) (old out : List ℕ) (edge : Edge) (stack : List Todo) → Writes look names q (old ++ spaced_by no_edge (whole_of look names q max cells)) cells at out edge stack → stack ≡ [] → out ≡ old ++ writing.written look q max (texts_of names (Rattle.pl_terms.specs.Cells.tree_of cells))
end_writes look names q max cells at old out edge stack w e =
    sym (append-nil out)
    ∙ ap (λ l. out ++ spaced_by edge (done_before look names q l (nothing_more look names q) (forest (drop at cells)))) (sym e)
    ∙ sym w.same
    ∙ ap (λ l. old ++ l) (sym (spaced-by (whole_of look names q max cells)))
