-- Unification looks at names only to compare them.
use Rattle.std.proofs.Common.{◌≡◌, ℕ, zero, suc, ◌+◌, max, Bool, true, false, ◌&&◌, ◌||◌, List, [], ◌∷◌, map, Option, Some, None, refl, sym, ap, ◌∙◌, nat_eq, nat_lt, if◌then◌else◌}
use Rattle.std.specs.Prelude.{option_map}
use Rattle.std.specs.Ordering.{int_eq}
use Rattle.std.proofs.lemmas.Bool.{false≢true, eq-eqb, eqb-true}
use Rattle.pl_terms.specs.Trees.{Tree, var, int, atom, comp, Trees, nil, cons, count, renamed, all_renamed}
use Rattle.unifier_model.specs.Substitution.{replace, replace_all, occurs, occurs_any, size, sizes}
use Rattle.unifier_model.specs.Unifier.{replaced, pairs, binding}
use Rattle.unifier_model.specs.Mgu.{Move, stop, turn, bind, at_variable, move, after_move, pass, weight, solve, occurs_in, live, top, top_all, top_in, unifier, mgu}
use Rattle.goal_model.specs.NameLaws.{SameNames, equation_by, replacement_by, MguRenames}

abbrev Equations : Type 0 → Type 0
Equations N = List (Tree N × Tree N)

abbrev Found : Type 0 → Type 0
Found N = Option (List (ℕ × Tree N))

module _ {N M : Type 0} (f : N → M) where
  abbrev equations_by : Equations N → Equations M
  equations_by = map (equation_by f)

  abbrev found_by : Found N → Found M
  found_by = option_map (map (replacement_by f))

  count-all_renamed : (ts : Trees N) → count (all_renamed f ts) ≡ count ts
  count-all_renamed nil = refl
  count-all_renamed (cons t ts) = ap suc (count-all_renamed ts)

  mutual
    size-renamed : (t : Tree N) → size (renamed f t) ≡ size t
    size-renamed (var n) = refl
    size-renamed (int z) = refl
    size-renamed (atom a) = refl
    size-renamed (comp g ts) = ap suc (sizes-renamed ts)

    sizes-renamed : (ts : Trees N) → sizes (all_renamed f ts) ≡ sizes ts
    sizes-renamed nil = refl
    sizes-renamed (cons t ts) = ap (λ k. k + sizes (all_renamed f ts)) (size-renamed t) ∙ ap (λ k. size t + k) (sizes-renamed ts)

  mutual
    occurs-renamed : (j : ℕ) (t : Tree N) → occurs j (renamed f t) ≡ occurs j t
    occurs-renamed j (var n) = refl
    occurs-renamed j (int z) = refl
    occurs-renamed j (atom a) = refl
    occurs-renamed j (comp g ts) = occurs_any-renamed j ts

    occurs_any-renamed : (j : ℕ) (ts : Trees N) → occurs_any j (all_renamed f ts) ≡ occurs_any j ts
    occurs_any-renamed j nil = refl
    occurs_any-renamed j (cons t ts) = ap (λ b. b || occurs_any j (all_renamed f ts)) (occurs-renamed j t) ∙ ap (λ b. occurs j t || b) (occurs_any-renamed j ts)

  mutual
    top-renamed : (t : Tree N) → top (renamed f t) ≡ top t
    top-renamed (var n) = refl
    top-renamed (int z) = refl
    top-renamed (atom a) = refl
    top-renamed (comp g ts) = top_all-renamed ts

    top_all-renamed : (ts : Trees N) → top_all (all_renamed f ts) ≡ top_all ts
    top_all-renamed nil = refl
    top_all-renamed (cons t ts) = ap (λ k. max k (top_all (all_renamed f ts))) (top-renamed t) ∙ ap (λ k. max (top t) k) (top_all-renamed ts)

  by_test : (b : Bool) (t u : Tree N) → (if b then renamed f t else renamed f u) ≡ renamed f (if b then t else u)
  by_test true t u = refl
  by_test false t u = refl

  mutual
    pub replace-renamed : (n : ℕ) (r t : Tree N) → replace n (renamed f r) (renamed f t) ≡ renamed f (replace n r t)
    replace-renamed n r (var m) = by_test (nat_eq n m) r (var m)
    replace-renamed n r (int z) = refl
    replace-renamed n r (atom a) = refl
    replace-renamed n r (comp g ts) = ap (comp (f g)) (replace_all-renamed n r ts)

    replace_all-renamed : (n : ℕ) (r : Tree N) (ts : Trees N) → replace_all n (renamed f r) (all_renamed f ts) ≡ all_renamed f (replace_all n r ts)
    replace_all-renamed n r nil = refl
    replace_all-renamed n r (cons t ts) =
        ap (λ u. cons u (replace_all n (renamed f r) (all_renamed f ts))) (replace-renamed n r t)
        ∙ ap (cons (renamed f (replace n r t))) (replace_all-renamed n r ts)

  replaced-renamed : (n : ℕ) (r : Tree N) (es : Equations N) → replaced n (renamed f r) (equations_by es) ≡ equations_by (replaced n r es)
  replaced-renamed n r [] = refl
  replaced-renamed n r (e ∷ es) =
      ap (λ t. (t, replace n (renamed f r) (renamed f e.1)) ∷ replaced n (renamed f r) (equations_by es)) (replace-renamed n r e.0)
      ∙ ap (λ u. (renamed f (replace n r e.0), u) ∷ replaced n (renamed f r) (equations_by es)) (replace-renamed n r e.1)
      ∙ ap (λ l. (renamed f (replace n r e.0), renamed f (replace n r e.1)) ∷ l) (replaced-renamed n r es)

  pairs-renamed : (ts us : Trees N) (es : Equations N) → pairs (all_renamed f ts) (all_renamed f us) (equations_by es) ≡ equations_by (pairs ts us es)
  pairs-renamed nil us es = refl
  pairs-renamed (cons t ts) nil es = refl
  pairs-renamed (cons t ts) (cons u us) es = ap (λ l. (renamed f t, renamed f u) ∷ l) (pairs-renamed ts us es)

  weight-renamed : (es : Equations N) → weight (equations_by es) ≡ weight es
  weight-renamed [] = refl
  weight-renamed (e ∷ es) =
      ap (λ k. (k + size (renamed f e.1)) + weight (equations_by es)) (size-renamed e.0)
      ∙ ap (λ k. (size e.0 + k) + weight (equations_by es)) (size-renamed e.1)
      ∙ ap (λ k. (size e.0 + size e.1) + k) (weight-renamed es)

  occurs_in-renamed : (j : ℕ) (es : Equations N) → occurs_in j (equations_by es) ≡ occurs_in j es
  occurs_in-renamed j [] = refl
  occurs_in-renamed j (e ∷ es) =
      ap (λ b. (b || occurs j (renamed f e.1)) || occurs_in j (equations_by es)) (occurs-renamed j e.0)
      ∙ ap (λ b. (occurs j e.0 || b) || occurs_in j (equations_by es)) (occurs-renamed j e.1)
      ∙ ap (λ b. (occurs j e.0 || occurs j e.1) || b) (occurs_in-renamed j es)

  live-renamed : (k : ℕ) (es : Equations N) → live k (equations_by es) ≡ live k es
  live-renamed zero es = refl
  live-renamed (suc k) es =
      ap (λ b. (if b then 1 else 0) + live k (equations_by es)) (occurs_in-renamed k es)
      ∙ ap (λ n. (if occurs_in k es then 1 else 0) + n) (live-renamed k es)

  top_in-renamed : (es : Equations N) → top_in (equations_by es) ≡ top_in es
  top_in-renamed [] = refl
  top_in-renamed (e ∷ es) =
      ap (λ k. max (max k (top (renamed f e.1))) (top_in (equations_by es))) (top-renamed e.0)
      ∙ ap (λ k. max (max (top e.0) k) (top_in (equations_by es))) (top-renamed e.1)
      ∙ ap (λ k. max (max (top e.0) (top e.1)) k) (top_in-renamed es)

  abbrev move_by : Move N → Move M
  move_by (stop a) = stop (found_by a)
  move_by (turn es) = turn (equations_by es)
  move_by (bind n t es) = bind n (renamed f t) (equations_by es)

  if-move : (b : Bool) (x y : Move N) → (if b then move_by x else move_by y) ≡ move_by (if b then x else y)
  if-move true x y = refl
  if-move false x y = refl

  at_variable-renamed : (n : ℕ) (t : Tree N) (es : Equations N) → at_variable n (renamed f t) (equations_by es) ≡ move_by (at_variable n t es)
  at_variable-renamed n t es =
      ap (λ b. if b then stop None else bind n (renamed f t) (equations_by es)) (occurs-renamed n t) ∙ if-move (occurs n t) (stop None) (bind n t es)

  module _ (same : N → N → Bool) (same' : M → M → Bool) (one : SameNames f same same') where
    move-renamed : (es : Equations N) → move same' (equations_by es) ≡ move_by (move same es)
    move-renamed [] = refl
    move-renamed ((var n, var m) ∷ es) =
        ap (λ x. if nat_lt m n then bind n (var m) (equations_by es) else x) (if-move (nat_lt n m) (bind m (var n) es) (turn es))
        ∙ if-move (nat_lt m n) (bind n (var m) es) (if nat_lt n m then bind m (var n) es else turn es)
    move-renamed ((var n, int z) ∷ es) = at_variable-renamed n (int z) es
    move-renamed ((var n, atom a) ∷ es) = at_variable-renamed n (atom a) es
    move-renamed ((var n, comp g ts) ∷ es) = at_variable-renamed n (comp g ts) es
    move-renamed ((int z, var n) ∷ es) = at_variable-renamed n (int z) es
    move-renamed ((int x, int y) ∷ es) = if-move (int_eq x y) (turn es) (stop None)
    move-renamed ((int x, atom a) ∷ es) = refl
    move-renamed ((int x, comp g ts) ∷ es) = refl
    move-renamed ((atom a, var n) ∷ es) = at_variable-renamed n (atom a) es
    move-renamed ((atom a, int y) ∷ es) = refl
    move-renamed ((atom a, atom b) ∷ es) =
        ap (λ b. if b then turn (equations_by es) else stop None) (one a b) ∙ if-move (same a b) (turn es) (stop None)
    move-renamed ((atom a, comp g ts) ∷ es) = refl
    move-renamed ((comp g ts, var n) ∷ es) = at_variable-renamed n (comp g ts) es
    move-renamed ((comp g ts, int y) ∷ es) = refl
    move-renamed ((comp g ts, atom b) ∷ es) = refl
    move-renamed ((comp g ts, comp h us) ∷ es) =
        let inner : Bool → Equations M → Move M = λ b l. if b then turn l else stop None in
        ap (λ l. inner (same' (f g) (f h) && nat_eq (count (all_renamed f ts)) (count (all_renamed f us))) l) (pairs-renamed ts us es)
        ∙ ap (λ b. inner (b && nat_eq (count (all_renamed f ts)) (count (all_renamed f us))) (equations_by (pairs ts us es))) (one g h)
        ∙ ap (λ k. inner (same g h && nat_eq k (count (all_renamed f us))) (equations_by (pairs ts us es))) (count-all_renamed ts)
        ∙ ap (λ k. inner (same g h && nat_eq (count ts) k) (equations_by (pairs ts us es))) (count-all_renamed us)
        ∙ if-move (same g h && nat_eq (count ts) (count us)) (turn (pairs ts us es)) (stop None)

    abbrev Commutes : (Equations N → Found N) → (Equations M → Found M) → Type 0
    Commutes go ho = (es : Equations N) → ho (equations_by es) ≡ found_by (go es)

    binding-renamed : (n : ℕ) (t : Tree N) (a : Found N) → binding n (renamed f t) (found_by a) ≡ found_by (binding n t a)
    binding-renamed n t None = refl
    binding-renamed n t (Some bs) = refl

    after_move-renamed : (on next : Equations N → Found N) (on' next' : Equations M → Found M) (v : Move N) → Commutes on on' → Commutes next next' → after_move on' next' (move_by v) ≡ found_by (after_move on next v)
    after_move-renamed on next on' next' (stop a) h k = refl
    after_move-renamed on next on' next' (turn es) h k = h es
    after_move-renamed on next on' next' (bind n t es) h k =
        ap (λ l. binding n (renamed f t) (next' l)) (replaced-renamed n t es)
        ∙ ap (binding n (renamed f t)) (k (replaced n t es))
        ∙ binding-renamed n t (next (replaced n t es))

    pass-renamed : (w : ℕ) (next : Equations N → Found N) (next' : Equations M → Found M) → Commutes next next' → Commutes (pass same w next) (pass same' w next')
    pass-renamed zero next next' k es = refl
    pass-renamed (suc w) next next' k es =
        ap (after_move (pass same' w next') next') (move-renamed es)
        ∙ after_move-renamed (pass same w next) next (pass same' w next') next' (move same es) (pass-renamed w next next' k) k

    solve-renamed : (v : ℕ) → Commutes (solve same v) (solve same' v)
    solve-renamed zero es =
        ap (λ k. pass same' (suc k) (λ _. None) (equations_by es)) (weight-renamed es) ∙ pass-renamed (suc (weight es)) (λ _. None) (λ _. None) (λ _. refl) es
    solve-renamed (suc v) es =
        ap (λ k. pass same' (suc k) (solve same' v) (equations_by es)) (weight-renamed es)
        ∙ pass-renamed (suc (weight es)) (solve same v) (solve same' v) (solve-renamed v) es

    pub unifier-renamed : (es : Equations N) → unifier same' (equations_by es) ≡ found_by (unifier same es)
    unifier-renamed es =
        let k : ℕ = top_in es in
        ap (λ k. solve same' (live k (equations_by es)) (equations_by es)) (top_in-renamed es)
        ∙ ap (λ v. solve same' v (equations_by es)) (live-renamed k es)
        ∙ solve-renamed (live k es) es

-- names that are numbers
pub mgu-renamed : MguRenames
unfolding mgu
mgu-renamed f apart es = unifier-renamed f nat_eq nat_eq (λ a b. one a b (nat_eq (f a) (f b)) (nat_eq a b) refl refl) es
  where
    one : (a b : ℕ) (x y : Bool) → nat_eq (f a) (f b) ≡ x → nat_eq a b ≡ y → x ≡ y
    one a b true true p q = refl
    one a b false false p q = refl
    one a b true false p q = absurd (false≢true (sym q ∙ eq-eqb a b (apart a b (eqb-true (f a) (f b) p))))
    one a b false true p q = absurd (false≢true (sym p ∙ eq-eqb (f a) (f b) (ap f (eqb-true a b q))))
