-- Steps of an evaluation.
use Rattle.std.proofs.Common.{◌≡◌, ◌∙◌, ℕ, ℤ, ◌<◌, List, [], ◌∷◌, ◌++◌, reverse, refl, ap, sym, subst, Some, None, Result, Ok, Err, arith}
use Rattle.std.proofs.lemmas.List.{reverse-append}
use Rattle.pl_atoms.specs.declared.names.NameId.{NameId}
use Rattle.pl_terms.specs.Trees.{Tree, Trees, var, int, atom, comp, nil, cons, count}
use Rattle.unifier_model.specs.Substitution.{size}
use Rattle.pl_unify.specs.declared.word.Ref.{Ref}
use Rattle.pl_unify.specs.declared.word.View.TheVariants as V
use Rattle.pl_unify.specs.Shape.{root, argument, arity}
use Rattle.pl_unify.specs.State.{State, tree_at, IsRef}
use Rattle.pl_terms.specs.Order.{text_of}
use Rattle.value_model.specs.declared.EvalFault.{EvalFault}
use Rattle.value_model.specs.declared.EvalFault.TheVariants.{NotEvaluable}
use Rattle.value_model.specs.declared.Operation.TheVariants.{One, Two}
use Rattle.value_model.specs.declared.Unary.{Unary}
use Rattle.value_model.specs.declared.Binary.{Binary}
use Rattle.value_model.specs.Value.{value, values, apply_one, apply_two, operation_of, after, combine}
use Rattle.pl_arith.specs.declared.expression.Task.{Task}
use Rattle.pl_arith.specs.declared.expression.Task.TheVariants as T
use Rattle.pl_arith.specs.Tasks.{pushed, done_two, onwards, run, Stepped, weights}
use Rattle.pl_arith.proofs.Evaluables.{operation_of-arity}

pub two_popped : (old mid rest : List ℤ) (x y : ℤ) → old ≡ mid ++ y ∷ [] → mid ≡ rest ++ x ∷ [] → reverse old ≡ y ∷ x ∷ reverse rest
two_popped old mid rest x y e f = ap reverse e ∙ (reverse-append mid (y ∷ []) ∙ ap (λ r. y ∷ r) (ap reverse f ∙ reverse-append rest (x ∷ [])))

-- an expression whose functor is none that can be evaluated
pub no_operation : (names : List (List ℕ)) (t : Tree ℕ) (f : NameId) (k : ℕ) → V.Comp f k ≡ root t → None ≡ operation_of (text_of names f.0) k → value names t ≡ Err (NotEvaluable f k)
no_operation names (var n) f k e h = cc
no_operation names (int n) f k e h = cc
no_operation names (atom n) f k e h = cc
no_operation names (comp g ts) f k e h =
    let ef : f ≡ record { 0 = g } = cc in
    let ek : k ≡ count ts = cc in
    let eo : operation_of (text_of names g) (count ts) ≡ None = sym (λ i. operation_of (text_of names ((ef i).0)) (ek i)) ∙ sym h in
    ap (λ o. combine (NotEvaluable (record { 0 = g }) (count ts)) o (values names ts)) eo
    ∙ combine_none (NotEvaluable (record { 0 = g }) (count ts)) (values names ts)
    ∙ sym (λ i. Err (NotEvaluable (ef i) (ek i)))
  where
    combine_none : (e : EvalFault) (vs : List (Result ℤ EvalFault)) → combine e None vs ≡ Err e
    combine_none e [] = refl
    combine_none e (v ∷ []) = refl
    combine_none e (v ∷ w ∷ vs) = refl

-- an expression of one argument
pub record OneArgument (names : List (List ℕ)) (t : Tree ℕ) (f : ℕ) (op : Unary) : Type 0 where
  pub inner : Tree ℕ
  pub is : t ≡ comp f (cons inner nil)
  pub worth : value names t ≡ after (value names inner) (apply_one op)

one_argument' : (names : List (List ℕ)) (f g : ℕ) (ts : Trees ℕ) (op : Unary) (k : ℕ) → f ≡ g → k ≡ count ts → k ≡ 1 → operation_of (text_of names f) k ≡ Some (One op) → OneArgument names (comp g ts) f op
one_argument' names f g nil op k e c one h = absurd (omega arith)
one_argument' names f g (cons u nil) op k e c one h =
    record {
      inner = u;
      is = ap (λ n. comp n (cons u nil)) (sym e);
      worth = ap (λ o. combine (NotEvaluable (record { 0 = g }) 1) o (value names u ∷ [])) (ap (λ n. operation_of (text_of names n) 1) (sym e) ∙ (ap (operation_of (text_of names f)) (sym one) ∙ h));
    }
one_argument' names f g (cons u (cons v us)) op k e c one h = absurd (omega arith)

pub one_argument : (names : List (List ℕ)) (t : Tree ℕ) (f : NameId) (k : ℕ) (op : Unary) → V.Comp f k ≡ root t → Some (One op) ≡ operation_of (text_of names f.0) k → OneArgument names t f.0 op
one_argument names (var n) f k op e h = cc
one_argument names (int n) f k op e h = cc
one_argument names (atom n) f k op e h = cc
one_argument names (comp g ts) f k op e h =
    let ef : f ≡ record { 0 = g } = cc in
    let ek : k ≡ count ts = cc in
    one_argument' names f.0 g ts op k (ap (λ (n : NameId). n.0) ef) ek (sym (operation_of-arity (text_of names f.0) k (One op) (sym h))) (sym h)

-- an expression of two arguments
pub record TwoArguments (names : List (List ℕ)) (t : Tree ℕ) (f : ℕ) (op : Binary) : Type 0 where
  pub left : Tree ℕ
  pub right : Tree ℕ
  pub is : t ≡ comp f (cons left (cons right nil))
  pub worth : value names t ≡ after (value names left) (λ x. after (value names right) (λ y. apply_two op x y))

two_arguments' : (names : List (List ℕ)) (f g : ℕ) (ts : Trees ℕ) (op : Binary) (k : ℕ) → f ≡ g → k ≡ count ts → k ≡ 2 → operation_of (text_of names f) k ≡ Some (Two op) → TwoArguments names (comp g ts) f op
two_arguments' names f g nil op k e c two h = absurd (omega arith)
two_arguments' names f g (cons u nil) op k e c two h = absurd (omega arith)
two_arguments' names f g (cons u (cons v nil)) op k e c two h =
    record {
      left = u;
      right = v;
      is = ap (λ n. comp n (cons u (cons v nil))) (sym e);
      worth = ap (λ o. combine (NotEvaluable (record { 0 = g }) 2) o (value names u ∷ value names v ∷ [])) (ap (λ n. operation_of (text_of names n) 2) (sym e) ∙ (ap (operation_of (text_of names f)) (sym two) ∙ h));
    }
two_arguments' names f g (cons u (cons v (cons w us))) op k e c two h = absurd (omega arith)

pub two_arguments : (names : List (List ℕ)) (t : Tree ℕ) (f : NameId) (k : ℕ) (op : Binary) → V.Comp f k ≡ root t → Some (Two op) ≡ operation_of (text_of names f.0) k → TwoArguments names t f.0 op
two_arguments names (var n) f k op e h = cc
two_arguments names (int n) f k op e h = cc
two_arguments names (atom n) f k op e h = cc
two_arguments names (comp g ts) f k op e h =
    let ef : f ≡ record { 0 = g } = cc in
    let ek : k ≡ count ts = cc in
    two_arguments' names f.0 g ts op k (ap (λ (n : NameId). n.0) ef) ek (sym (operation_of-arity (text_of names f.0) k (Two op) (sym h))) (sym h)

run_one : (s : State) (names : List (List ℕ)) (v : Result ℤ EvalFault) (op : Unary) (ts : List Task) (zs : List ℤ)
    → onwards (pushed v zs) (run s names (T.One op ∷ ts)) ≡ onwards (pushed (after v (apply_one op)) zs) (run s names ts)
run_one s names (Ok z) op ts zs = refl
run_one s names (Err e) op ts zs = refl

run_two : (s : State) (names : List (List ℕ)) (v w : Result ℤ EvalFault) (op : Binary) (ts : List Task) (zs : List ℤ)
    → onwards (pushed v zs) (λ xs. onwards (pushed w xs) (run s names (T.Two op ∷ ts))) ≡ onwards (pushed (after v (λ x. after w (λ y. apply_two op x y))) zs) (run s names ts)
run_two s names (Ok z) (Ok y) op ts zs = refl
run_two s names (Ok z) (Err e) op ts zs = refl
run_two s names (Err e) w op ts zs = refl

argument-is : (t u : Tree ℕ) (f : ℕ) (us : Trees ℕ) → t ≡ comp f (cons u us) → argument t 0 ≡ u
argument-is t u f us e = ap (λ x. argument x 0) e

pub one_low : (names : List (List ℕ)) (t : Tree ℕ) (f : ℕ) (op : Unary) → OneArgument names t f op → 0 < arity t
one_low names t f op o = subst (λ k. 0 < k) (sym (ap arity o.is)) (omega arith)

pub two_low : (names : List (List ℕ)) (t : Tree ℕ) (f : ℕ) (op : Binary) → TwoArguments names t f op → 1 < arity t
two_low names t f op o = subst (λ k. 1 < k) (sym (ap arity o.is)) (omega arith)

pub stepped_one : (s : State) (names : List (List ℕ)) (at arg : Ref) (f : ℕ) (op : Unary) (old new : List Task) (zs : List ℤ)
    → OneArgument names (tree_at s at) f op → IsRef s arg → tree_at s arg ≡ argument (tree_at s at) 0 → new ≡ T.Tree arg ∷ T.One op ∷ old → Stepped s names (T.Tree at ∷ old) zs new zs
stepped_one s names at arg f op old new zs o ref e pushes =
    let a : tree_at s arg ≡ o.inner = e ∙ ap (λ t. argument t 0) o.is in
    record {
      same = ap (λ ts. run s names ts zs) pushes ∙ (ap (λ t. onwards (pushed (value names t) zs) (run s names (T.One op ∷ old))) a
          ∙ (run_one s names (value names o.inner) op old zs ∙ ap (λ v. onwards (pushed v zs) (run s names old)) (sym o.worth)));
      one_left = λ h. rw pushes h;
      ok = λ h. rw pushes (ref, (tt, h.1));
      smaller = omega (arith, ap (weights s) pushes, ap size a, ap size o.is);
    }

pub stepped_two : (s : State) (names : List (List ℕ)) (at l r : Ref) (f : ℕ) (op : Binary) (old new : List Task) (zs : List ℤ)
    → TwoArguments names (tree_at s at) f op → IsRef s l → tree_at s l ≡ argument (tree_at s at) 0 → IsRef s r → tree_at s r ≡ argument (tree_at s at) 1
    → new ≡ T.Tree l ∷ T.Tree r ∷ T.Two op ∷ old → Stepped s names (T.Tree at ∷ old) zs new zs
stepped_two s names at l r f op old new zs o refl_l el refl_r er pushes =
    let a : tree_at s l ≡ o.left = el ∙ ap (λ t. argument t 0) o.is in
    let b : tree_at s r ≡ o.right = er ∙ ap (λ t. argument t 1) o.is in
    record {
      same = ap (λ ts. run s names ts zs) pushes ∙ (ap (λ t. onwards (pushed (value names t) zs) (run s names (T.Tree r ∷ T.Two op ∷ old))) a
          ∙ (ap (λ t. onwards (pushed (value names o.left) zs) (λ xs. onwards (pushed (value names t) xs) (run s names (T.Two op ∷ old)))) b
          ∙ (run_two s names (value names o.left) (value names o.right) op old zs ∙ ap (λ v. onwards (pushed v zs) (run s names old)) (sym o.worth))));
      one_left = λ h. rw pushes h;
      ok = λ h. rw pushes (refl_l, (refl_r, (tt, h.1)));
      smaller = omega (arith, ap (weights s) pushes, ap size a, ap size b, ap size o.is);
    }

pub two_pushed : (old mid new : List Task) (a b : Task) → mid ≡ old ++ a ∷ [] → new ≡ mid ++ b ∷ [] → reverse new ≡ b ∷ a ∷ reverse old
two_pushed old mid new a b e f = ap reverse f ∙ (reverse-append mid (b ∷ []) ∙ ap (λ r. b ∷ r) (ap reverse e ∙ reverse-append old (a ∷ [])))

pub three_pushed : (old mid more new : List Task) (a b c : Task) → mid ≡ old ++ a ∷ [] → more ≡ mid ++ b ∷ [] → new ≡ more ++ c ∷ [] → reverse new ≡ c ∷ b ∷ a ∷ reverse old
three_pushed old mid more new a b c e f g = ap reverse g ∙ (reverse-append more (c ∷ []) ∙ ap (λ r. c ∷ r) (two_pushed old mid more a b e f))

pub low_less : (n : ℕ) → 1 < n → 0 < n
low_less n h = omega arith

-- the next task comes off
pub reverse-pop : {A : Type 0} (old rest : List A) (x : A) → old ≡ rest ++ x ∷ [] → reverse old ≡ x ∷ reverse rest
reverse-pop old rest x e = ap reverse e ∙ reverse-append rest (x ∷ [])

pub done_pair : (old mid rest new : List ℤ) (x y z : ℤ) (op : Binary) → old ≡ mid ++ y ∷ [] → mid ≡ rest ++ x ∷ [] → Ok z ≡ apply_two op x y → new ≡ rest ++ z ∷ [] → done_two op (reverse old) ≡ Ok (reverse new)
done_pair old mid rest new x y z op e f g h =
    ap (done_two op) (two_popped old mid rest x y e f) ∙ (ap (λ r. pushed r (reverse rest)) (sym g) ∙ ap Ok (sym (ap reverse h ∙ reverse-append rest (z ∷ []))))

pub done_fault : (old mid rest : List ℤ) (x y : ℤ) (op : Binary) (e : EvalFault) → old ≡ mid ++ y ∷ [] → mid ≡ rest ++ x ∷ [] → Err e ≡ apply_two op x y → done_two op (reverse old) ≡ Err e
done_fault old mid rest x y op e a b g = ap (done_two op) (two_popped old mid rest x y a b) ∙ ap (λ r. pushed r (reverse rest)) (sym g)
