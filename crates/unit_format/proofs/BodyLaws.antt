-- Converted bodies, cell by cell.
use Rattle.std.proofs.Common.{◌≡◌, ℕ, zero, suc, ◌+◌, ◌-◌, ◌<◌, ◌≤◌, List, [], ◌∷◌, ◌++◌, length, drop, get_or, Bool, true, false, not, ◌&&◌, ◌||◌, Some, None, refl, sym, ap, subst, ◌∙◌, arith, if◌then◌else◌}
use Rattle.std.proofs.lemmas.List.{length-drop}
use Rattle.pl_terms.specs.Trees.{Tree, var, int, atom, comp, Trees, nil, cons, count, front, back, renamed, all_renamed}
use Rattle.pl_terms.specs.Cells.{cells, forest, IsForest, IsTerm}
use Rattle.pl_terms.specs.Forest.{forest-cells, append-nil}
use Rattle.pl_terms.specs.declared.cell.Cell.{Cell}
use Rattle.pl_terms.specs.declared.cell.Cell.TheVariants.{Var, Int, Name, Comp}
use Rattle.unit_model.specs.Encoding.{text_at}
use Rattle.pl_terms.specs.Occurrence.{occurrences, all_occurrences, first_after, from_to}
use Rattle.unit_model.specs.Facts.{what_by, clause}
use Rattle.unit_model.specs.Validity.{is_head, is_control, is_converted, are_converted, are_same, is_clause}
use Rattle.unit_format.specs.Reading.{arity_of}
use Rattle.unit_format.specs.Bodies.{begins_head, past_cell}
use Rattle.unit_format.proofs.CellLaws.{count-back}
use Rattle.unit_format.proofs.CountLoop.{at_front, at_end}

abbrev Text : Type 0
Text = List ℕ

head_cells : (t : Tree ℕ) → begins_head (cells t) ≡ is_head t
head_cells (var n) = refl
head_cells (int z) = refl
head_cells (atom s) = refl
head_cells (comp s ts) = refl

pub is_head-cells : (t : Tree ℕ) (cs : List Cell) → cs ≡ cells t → begins_head cs ≡ is_head t
is_head-cells t cs e = ap begins_head e ∙ head_cells t

back-back : {N : Type 0} (j k : ℕ) (ts : Trees N) → back k (back j ts) ≡ back (k + j) ts
back-back zero k ts = let e : k ≡ k + 0 = omega arith in ap (λ n. back n ts) e
back-back (suc j) k nil = none k ∙ sym (none (k + suc j))
  where
    none : {N : Type 0} (k : ℕ) → ◌≡◌ {A = Trees N} (back k nil) nil
    none zero = refl
    none (suc k) = refl
back-back (suc j) k (cons t ts) = let e : suc (k + j) ≡ k + suc j = omega arith in back-back j k ts ∙ ap (λ n. back n (cons t ts)) e

count-forest_le : (cs : List Cell) → count (forest cs) ≤ length cs
count-forest_le [] = omega arith
count-forest_le (Var n ∷ cs) = omega (arith, count-forest_le cs)
count-forest_le (Int z ∷ cs) = omega (arith, count-forest_le cs)
count-forest_le (Name s ∷ cs) = omega (arith, count-forest_le cs)
count-forest_le (Comp s k ∷ cs) = omega (arith, count-forest_le cs, count-back k (forest cs))

module _ (names : List Text) where
  abbrev Test : Trees ℕ → Bool
  Test ts = are_converted (all_renamed (text_at names) ts)

  -- all but the first trees are tested
  abbrev pub Rest : ℕ → List Cell → Bool
  Rest passed cs = Test (back passed (forest cs))

  test-split : (k : ℕ) (ts : Trees ℕ) → (Test (front k ts) && Test (back k ts)) ≡ Test ts
  test-split zero ts = refl
  test-split (suc k) nil = refl
  test-split (suc k) (cons t ts) = regroup (is_converted (renamed (text_at names) t)) (Test (front k ts)) (Test (back k ts)) ∙ ap (λ b. is_converted (renamed (text_at names) t) && b) (test-split k ts)
    where
      regroup : (a b c : Bool) → ((a && b) && c) ≡ (a && (b && c))
      regroup true b c = refl
      regroup false b c = refl

  count-renamed : (ts : Trees ℕ) → count (all_renamed (text_at names) ts) ≡ count ts
  count-renamed nil = refl
  count-renamed (cons t ts) = ap suc (count-renamed ts)

  count-front : {N : Type 0} (k : ℕ) (ts : Trees N) → k ≤ count ts → count (front k ts) ≡ k
  count-front zero ts h = refl
  count-front (suc k) nil h = absurd (omega arith)
  count-front (suc k) (cons t ts) h = ap suc (count-front k ts (omega arith))

  -- what a cell leaves to be tested
  steps : (passed after : ℕ) (c : Cell) (cs : List Cell) → IsForest (c ∷ cs) → past_cell names passed c ≡ Some after → Rest after cs ≡ Rest passed (c ∷ cs)
  steps (suc k) after (Var n) cs h e = let a : k + 0 ≡ after = cc in let b : k ≡ after = omega arith in ap (λ j. Rest j cs) (sym b)
  steps (suc k) after (Int z) cs h e = let a : k + 0 ≡ after = cc in let b : k ≡ after = omega arith in ap (λ j. Rest j cs) (sym b)
  steps (suc k) after (Name s) cs h e = let a : k + 0 ≡ after = cc in let b : k ≡ after = omega arith in ap (λ j. Rest j cs) (sym b)
  steps (suc k) after (Comp s j) cs h e = let a : k + j ≡ after = cc in ap (λ i. Rest i cs) (sym a) ∙ ap Test (sym (back-back j k (forest cs)))
  steps zero after (Var n) cs h e = absurd cc
  steps zero after (Int z) cs h e = absurd cc
  steps zero after (Name s) cs h e = let a : 0 ≡ after = cc in ap (λ i. Rest i cs) (sym a)
  steps zero after (Comp s j) cs h e =
      let a : (if is_control (text_at names s.0) j then 0 else j) ≡ after = cc in
      ap (λ i. Rest i cs) (sym a) ∙ go (is_control (text_at names s.0) j) ∙ ap (λ n. (not (is_control (text_at names s.0) n) || Test (front j (forest cs))) && Test (back j (forest cs))) (sym (count-renamed (front j (forest cs)) ∙ count-front j (forest cs) h.1))
    where
      go : (b : Bool) → Rest (if b then 0 else j) cs ≡ ((not b || Test (front j (forest cs))) && Test (back j (forest cs)))
      go true = sym (test-split j (forest cs))
      go false = refl

  refuses : (passed : ℕ) (c : Cell) (cs : List Cell) → past_cell names passed c ≡ None → Rest passed (c ∷ cs) ≡ false
  refuses (suc k) c cs e = absurd cc
  refuses zero (Var n) cs e = refl
  refuses zero (Int z) cs e = refl
  refuses zero (Name s) cs e = absurd cc
  refuses zero (Comp s j) cs e = absurd cc

  IsForest-rest : (c : Cell) (cs : List Cell) → IsForest (c ∷ cs) → IsForest cs
  IsForest-rest (Var n) cs h = h
  IsForest-rest (Int z) cs h = h
  IsForest-rest (Name s) cs h = h
  IsForest-rest (Comp s k) cs h = h.2

  -- no more trees are passed over than there are
  stays : (passed after : ℕ) (c : Cell) (cs : List Cell) → IsForest (c ∷ cs) → past_cell names passed c ≡ Some after → passed ≤ count (forest (c ∷ cs)) → after ≤ count (forest cs)
  stays (suc k) after (Var n) cs h e le = let a : k + 0 ≡ after = cc in omega arith
  stays (suc k) after (Int z) cs h e le = let a : k + 0 ≡ after = cc in omega arith
  stays (suc k) after (Name s) cs h e le = let a : k + 0 ≡ after = cc in omega arith
  stays (suc k) after (Comp s j) cs h e le = let a : k + j ≡ after = cc in omega (arith, count-back j (forest cs), h.1)
  stays zero after (Var n) cs h e le = absurd cc
  stays zero after (Int z) cs h e le = absurd cc
  stays zero after (Name s) cs h e le = let a : 0 ≡ after = cc in omega arith
  stays zero after (Comp s j) cs h e le =
      let a : (if is_control (text_at names s.0) j then 0 else j) ≡ after = cc in
      go (is_control (text_at names s.0) j) a
    where
      go : (b : Bool) → (if b then 0 else j) ≡ after → after ≤ count (forest cs)
      go true a = omega arith
      go false a = omega (arith, h.1)

  -- ---- as a loop does

  pub record Stands (passed at : ℕ) (cs : List Cell) (total : Bool) : Type 0 where
    pub rest : Rest passed (drop at cs) ≡ total
    pub whole : IsForest (drop at cs)
    pub some : passed ≤ count (forest (drop at cs))

  pub goes_on : (cs : List Cell) (at passed after : ℕ) (c : Cell) (total : Bool) → at < length cs → get_or cs at c ≡ c → Some after ≡ past_cell names passed c → Stands passed at cs total → Stands after (at + 1) cs total
  goes_on cs at passed after c total lt is e s =
      let f = at_front cs at c lt is in
      let whole : IsForest (c ∷ drop (at + 1) cs) = subst IsForest f s.whole in
      record {
        rest = steps passed after c (drop (at + 1) cs) whole (sym e) ∙ ap (Rest passed) (sym f) ∙ s.rest;
        whole = IsForest-rest c (drop (at + 1) cs) whole;
        some = stays passed after c (drop (at + 1) cs) whole (sym e) (subst (λ l. passed ≤ count (forest l)) f s.some);
      }

  pub stops : (cs : List Cell) (at passed : ℕ) (c : Cell) (total : Bool) → at < length cs → get_or cs at c ≡ c → None ≡ past_cell names passed c → Stands passed at cs total → false ≡ total
  stops cs at passed c total lt is e s = sym (refuses passed c (drop (at + 1) cs) (sym e)) ∙ ap (Rest passed) (sym (at_front cs at c lt is)) ∙ s.rest

  none_left : (k : ℕ) → ◌≡◌ {A = Trees ℕ} (back k nil) nil
  none_left zero = refl
  none_left (suc k) = refl

  pub is_done : (cs : List Cell) (at passed : ℕ) (total : Bool) → length cs ≤ at → Stands passed at cs total → true ≡ total
  is_done cs at passed total le s = sym (ap (Rest passed) (at_end cs at le) ∙ ap Test (none_left passed)) ∙ s.rest

  pub begins : (t : Tree ℕ) (cs : List Cell) → cs ≡ cells t → IsTerm cs → Stands 0 0 cs (is_converted (renamed (text_at names) t))
  begins t cs e h =
      let one : forest cs ≡ cons t nil = ap forest (e ∙ sym (append-nil (cells t))) ∙ forest-cells t [] in
      record {
        rest = ap Test one ∙ last (is_converted (renamed (text_at names) t));
        whole = h.whole;
        some = omega arith;
      }
    where
      last : (b : Bool) → (b && true) ≡ b
      last true = refl
      last false = refl

  small : (passed : ℕ) (c : Cell) (cs : List Cell) → IsForest (c ∷ cs) → passed ≤ count (forest (c ∷ cs)) → passed - 1 + arity_of c ≤ count (forest cs)
  small passed (Var n) cs h le = omega arith
  small passed (Int z) cs h le = omega arith
  small passed (Name s) cs h le = omega arith
  small passed (Comp s j) cs h le = omega (arith, count-back j (forest cs), h.1)

  pub fits : (cs : List Cell) (at passed : ℕ) (c : Cell) (total : Bool) → at < length cs → get_or cs at c ≡ c → Stands passed at cs total → passed - 1 + arity_of c ≤ length cs
  fits cs at passed c total lt is s =
      let f = at_front cs at c lt is in
      omega (arith, small passed c (drop (at + 1) cs) (subst IsForest f s.whole) (subst (λ l. passed ≤ count (forest l)) f s.some), count-forest_le (drop (at + 1) cs), length-drop (at + 1) cs)

mutual
  occurrences-renamed : {N M : Type 0} (g : N → M) (t : Tree N) → occurrences (renamed g t) ≡ occurrences t
  occurrences-renamed g (var n) = refl
  occurrences-renamed g (int z) = refl
  occurrences-renamed g (atom s) = refl
  occurrences-renamed g (comp s ts) = all_occurrences-renamed g ts

  all_occurrences-renamed : {N M : Type 0} (g : N → M) (ts : Trees N) → all_occurrences (all_renamed g ts) ≡ all_occurrences ts
  all_occurrences-renamed g nil = refl
  all_occurrences-renamed g (cons t ts) = ap (λ l. l ++ all_occurrences (all_renamed g ts)) (occurrences-renamed g t) ∙ ap (λ l. occurrences t ++ l) (all_occurrences-renamed g ts)

is_head-renamed : {N M : Type 0} (g : N → M) (t : Tree N) → is_head (renamed g t) ≡ is_head t
is_head-renamed g (var n) = refl
is_head-renamed g (int z) = refl
is_head-renamed g (atom s) = refl
is_head-renamed g (comp s ts) = refl

abbrev Numbered : ℕ → List ℕ → Bool
Numbered n vs = are_same (first_after [] vs) (from_to 0 n)

-- the test of a clause, from the tests of its parts
pub clause_is : (g : ℕ → Text) (n : ℕ) (h b : Tree ℕ) (x y z : Bool) → x ≡ is_head h → y ≡ is_converted (renamed g b) → z ≡ are_same (first_after [] (occurrences h ++ occurrences b)) (from_to 0 n)
    → (x && (y && z)) ≡ is_clause (what_by g (clause n h b))
clause_is g n h b x y z p q r =
    let same : occurrences (renamed g h) ++ occurrences (renamed g b) ≡ occurrences h ++ occurrences b =
    ap (λ l. l ++ occurrences (renamed g b)) (occurrences-renamed g h) ∙ ap (λ l. occurrences h ++ l) (occurrences-renamed g b) in
    ap (λ c. c && (y && z)) (p ∙ sym (is_head-renamed g h)) ∙ ap (λ c. is_head (renamed g h) && (c && z)) q ∙ ap (λ c. is_head (renamed g h) && (is_converted (renamed g b) && c)) (r ∙ ap (Numbered n) (sym same))

pub get_or-again : {X : Type 0} (xs : List X) (i : ℕ) (d : X) → get_or xs i (get_or xs i d) ≡ get_or xs i d
get_or-again [] i d = refl
get_or-again (x ∷ xs) zero d = refl
get_or-again (x ∷ xs) (suc i) d = get_or-again xs i d
