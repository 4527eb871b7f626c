-- A goal and a head, by the equations of their arguments.
use Rattle.std.proofs.Common.{◌≡◌, ◌∙◌, ℕ, suc, ◌+◌, ◌<◌, ◌≤◌, List, [], ◌∷◌, ◌++◌, refl, ap, sym, subst, arith, add-zero, max, Bool, true, false, Option, Some, None}
use Rattle.std.specs.Prelude.{MatchBool}
use Rattle.pl_atoms.specs.declared.names.NameId.{NameId}
use Rattle.pl_terms.specs.Trees.{Tree, Trees, var, int, atom, comp, nil, cons, count}
use Rattle.unifier_model.specs.Substitution.{apply, apply_all, raise, raise_all}
use Rattle.unifier_model.specs.Unifier.{Solved, pairs}
use Rattle.unifier_model.specs.Unifier.Solved.{same, parts}
use Rattle.unifier_model.specs.Mgu.{mgu}
use Rattle.unifier_model.proofs.Only.{mgu-Solved}
use Rattle.unifier_model.proofs.Replaced.{apply-append, apply-int, apply-atom, apply-comp, apply_all-none, apply_all-tree}
use Rattle.pl_unify.specs.declared.code.CodeWord.{CodeWord}
use Rattle.pl_unify.specs.State.{State, IsStore, Grows, bound, base}
use Rattle.pl_unify.specs.Shape.{root, arity, nth_tree, argument}
use Rattle.pl_unify.specs.Code.{code_tree, code_tree_in}
use Rattle.pl_unify.specs.Match.{SolvedBy}
use Rattle.pl_unify.specs.Arguments.{arguments_of, argument_equations}
use Rattle.pl_unify.proofs.StoreLaws.{Extends-trans}
use Rattle.pl_unify.proofs.Linked.{apply-free}
use Rattle.pl_unify.proofs.Low.{free-new}
use Rattle.clause_code.specs.Heads.{IsNamed, Took}

-- the bindings of a store leave a tree of new variables as it is
module _ (s : State) (st : IsStore s) (b : ℕ) (up : s.next ≤ b) where
  mutual
    pub new-stays : (t : Tree ℕ) → apply (bound s) (raise b t) ≡ raise b t
    new-stays (var n) = apply-free (base s) [] s.links (n + b) refl (free-new s (n + b) st (omega arith))
    new-stays (int z) = apply-int (bound s) z
    new-stays (atom a) = apply-atom (bound s) a
    new-stays (comp f ts) = apply-comp (bound s) f (raise_all b ts) ∙ ap (comp f) (all-new-stay ts)

    pub all-new-stay : (ts : Trees ℕ) → apply_all (bound s) (raise_all b ts) ≡ raise_all b ts
    all-new-stay nil = apply_all-none (bound s)
    all-new-stay (cons t ts) =
        apply_all-tree (bound s) (raise b t) (raise_all b ts)
        ∙ (ap (λ x. cons x (apply_all (bound s) (raise_all b ts))) (new-stays t) ∙ ap (cons (raise b t)) (all-new-stay ts))

  -- the equations of a goal's arguments are those of two compounds' arguments
  pub argument-pairs : (ws : List CodeWord) (at : ℕ) (ts us : Trees ℕ) → count ts ≡ count us → ((i : ℕ) → i < count us → code_tree ws (at + i) ≡ nth_tree us i)
      → argument_equations s b ws at ts ≡ pairs ts (raise_all b us) []
  argument-pairs ws at nil us c e = refl
  argument-pairs ws at (cons t ts) nil c e = absurd (omega arith)
  argument-pairs ws at (cons t ts) (cons u us) c e =
      let here : code_tree ws at ≡ u = subst (λ n. code_tree ws n ≡ u) (add-zero at) (e 0 (omega arith)) in
      let one : code_tree_in s b ws at ≡ raise b u = ap (λ x. apply (bound s) (raise b x)) here ∙ new-stays u in
      let rest : argument_equations s b ws (at + 1) ts ≡ pairs ts (raise_all b us) [] =
      argument-pairs ws (at + 1) ts us (omega arith) (λ i l.
      let n : at + suc i ≡ (at + 1) + i = omega arith in
      subst (λ m. code_tree ws m ≡ nth_tree us i) n (e (suc i) (omega arith))) in
      ap (λ x. (t, x) ∷ argument_equations s b ws (at + 1) ts) one ∙ ap (λ r. (t, raise b u) ∷ r) rest

count-raise : (b : ℕ) (ts : Trees ℕ) → count (raise_all b ts) ≡ count ts
count-raise b nil = refl
count-raise b (cons t ts) = ap suc (count-raise b ts)

-- the unifier of the arguments is that of the goal and the head
pub head-solved : (s : State) (b : ℕ) (ws : List CodeWord) (at : ℕ) (goal head : Tree ℕ) → IsStore s → s.next ≤ b → root goal ≡ root head → IsNamed (root goal)
    → ((i : ℕ) → i < arity head → code_tree ws (at + i) ≡ argument head i) → (r : Option (List (ℕ × Tree ℕ)))
    → Solved (argument_equations s b ws at (arguments_of goal)) r → Solved ((goal, raise b head) ∷ []) r
head-solved s b ws at (var n) head st up e named trees r h = absurd named
head-solved s b ws at (int z) head st up e named trees r h = absurd named
head-solved s b ws at (atom a) (var n) st up e named trees r h = cc
head-solved s b ws at (atom a) (int z) st up e named trees r h = cc
head-solved s b ws at (atom a) (atom c) st up e named trees r h =
    let n : ◌≡◌ {A = NameId} (record { 0 = a }) (record { 0 = c }) = cc in
    let i : a ≡ c = ap (λ (x : NameId). x.0) n in
    subst (λ x. Solved ((atom a, atom x) ∷ []) r) i (same h)
head-solved s b ws at (atom a) (comp f us) st up e named trees r h = cc
head-solved s b ws at (comp f ts) (var n) st up e named trees r h = cc
head-solved s b ws at (comp f ts) (int z) st up e named trees r h = cc
head-solved s b ws at (comp f ts) (atom c) st up e named trees r h = cc
head-solved s b ws at (comp f ts) (comp g us) st up e named trees r h =
    let n : ◌≡◌ {A = NameId} (record { 0 = f }) (record { 0 = g }) = cc in
    let i : f ≡ g = ap (λ (x : NameId). x.0) n in
    let c : count ts ≡ count us = cc in
    subst (λ x. Solved ((comp f ts, comp x (raise_all b us)) ∷ []) r) i
    (parts (c ∙ sym (count-raise b us)) (subst (λ es. Solved es r) (argument-pairs s st b up ws at ts us c trees) h))

-- the answer for the arguments is one for the goal and the head
pub heads-unify : (s mid : State) (es : List (Tree ℕ × Tree ℕ)) (ok : Bool) → ok ≡ true → MatchBool ok (SolvedBy s mid es) (Solved es None) → SolvedBy s mid es
heads-unify s mid es ok e d = subst (λ y. MatchBool y (SolvedBy s mid es) (Solved es None)) e d

pub heads-differ : (s mid : State) (goal head : Tree ℕ) (es : List (Tree ℕ × Tree ℕ)) (ok : Bool) → ok ≡ false → MatchBool ok (SolvedBy s mid es) (Solved es None)
    → ((r : Option (List (ℕ × Tree ℕ))) → Solved es r → Solved ((goal, raise s.next head) ∷ []) r) → mgu ((goal, raise s.next head) ∷ []) ≡ None
heads-differ s mid goal head es ok e d lift =
    mgu-Solved ((goal, raise s.next head) ∷ []) None (lift None (subst (λ y. MatchBool y (SolvedBy s mid es) (Solved es None)) e d))

-- what a state is once the head's variables are all made
pub took : (s mid new : State) (goal head : Tree ℕ) (width : ℕ) (es : List (Tree ℕ × Tree ℕ)) → IsStore s → SolvedBy s mid es
    → ((r : Option (List (ℕ × Tree ℕ))) → Solved es r → Solved ((goal, raise s.next head) ∷ []) r)
    → mid.next ≤ max s.next (width + s.next) → Grows mid new → new.next ≡ max (s.next + width) mid.next → IsStore new → Took s new goal head width
took s mid new goal head width es was d lift low g n st =
    let made : bound new ≡ bound s ++ d.unifier = g.bound ∙ d.bound in
    record {
      extends = Extends-trans s mid new d.extends g.extends;
      store = st;
      next = omega (arith, low, n);
      unifier = d.unifier;
      solved = mgu-Solved ((goal, raise s.next head) ∷ []) (Some d.unifier) (lift (Some d.unifier) d.solved);
      bound = made;
      places = λ r h. g.places r (omega (arith, h, d.extends.more_cells)) ∙ d.places r h;
      variables = λ k. g.variables k ∙ d.variables k;
      clause_terms = λ t. ap (λ bs. apply bs (raise s.next t)) made
          ∙ (apply-append (bound s) d.unifier (raise s.next t) ∙ ap (apply d.unifier) (new-stays s was s.next (omega arith) t));
    }
