-- Terms whose roots are seen, in a store and in code.
use Rattle.std.proofs.Common.{◌≡◌, ◌∙◌, ℕ, ℤ, ◌+◌, ◌<◌, List, [], ◌∷◌, ap, sym, subst, Option, Some, None, Result, Ok, Err, arith}
use Rattle.std.specs.Option.{IfSome}
use Rattle.std.specs.Result.{result_ok}
use Rattle.pl_atoms.specs.declared.names.NameId.{NameId}
use Rattle.pl_terms.specs.Trees.{Tree, Trees, var, int, atom, comp, nil, cons, count}
use Rattle.pl_terms.specs.Order.{text_of}
use Rattle.unifier_model.specs.Substitution.{apply, raise}
use Rattle.unifier_model.proofs.Replaced.{apply-int, apply-comp, apply_all-none, apply_all-tree}
use Rattle.pl_unify.specs.declared.word.View.TheVariants as V
use Rattle.pl_unify.specs.declared.code.CodeWord.{CodeWord}
use Rattle.pl_unify.specs.Shape.{root, arity, argument, nth_tree}
use Rattle.pl_unify.specs.State.{State, bound, tree_of_var}
use Rattle.pl_unify.specs.Code.{code_tree, code_tree_in}
use Rattle.value_model.specs.declared.EvalFault.{EvalFault}
use Rattle.value_model.specs.declared.EvalFault.TheVariants.{NotEvaluable}
use Rattle.value_model.specs.Value.{value, combine, operation_of}

pub int_root : (t : Tree ℕ) (z : ℤ) → V.Int z ≡ root t → t ≡ int z
int_root (var n) z h = cc
int_root (int n) z h = cc
int_root (atom n) z h = cc
int_root (comp g ts) z h = cc

pub var_root : (t : Tree ℕ) (n : ℕ) → V.Var n ≡ root t → t ≡ var n
var_root (var m) n h = cc
var_root (int m) n h = cc
var_root (atom m) n h = cc
var_root (comp g ts) n h = cc

only_one : (f g : ℕ) (ts : Trees ℕ) → f ≡ g → 1 ≡ count ts → comp g ts ≡ comp f (cons (nth_tree ts 0) nil)
only_one f g nil e h = absurd (omega arith)
only_one f g (cons u nil) e h = ap (λ n. comp n (cons u nil)) (sym e)
only_one f g (cons u (cons v us)) e h = absurd (omega arith)

pub one_root : (t : Tree ℕ) (f : NameId) → V.Comp f 1 ≡ root t → t ≡ comp f.0 (cons (argument t 0) nil)
one_root (var n) f h = cc
one_root (int n) f h = cc
one_root (atom n) f h = cc
one_root (comp g ts) f h =
    let ef : f ≡ record { 0 = g } = cc in
    let ek : 1 ≡ count ts = cc in
    only_one f.0 g ts (ap (λ (n : NameId). n.0) ef) ek

only_two : (f g : ℕ) (ts : Trees ℕ) → f ≡ g → 2 ≡ count ts → comp g ts ≡ comp f (cons (nth_tree ts 0) (cons (nth_tree ts 1) nil))
only_two f g nil e h = absurd (omega arith)
only_two f g (cons u nil) e h = absurd (omega arith)
only_two f g (cons u (cons v nil)) e h = ap (λ n. comp n (cons u (cons v nil))) (sym e)
only_two f g (cons u (cons v (cons w us))) e h = absurd (omega arith)

pub two_root : (t : Tree ℕ) (f : NameId) → V.Comp f 2 ≡ root t → t ≡ comp f.0 (cons (argument t 0) (cons (argument t 1) nil))
two_root (var n) f h = cc
two_root (int n) f h = cc
two_root (atom n) f h = cc
two_root (comp g ts) f h =
    let ef : f ≡ record { 0 = g } = cc in
    let ek : 2 ≡ count ts = cc in
    only_two f.0 g ts (ap (λ (n : NameId). n.0) ef) ek

pub one_low : (t : Tree ℕ) (f : NameId) → V.Comp f 1 ≡ root t → 0 < arity t
one_low t f h = subst (λ k. 0 < k) (sym (ap arity (one_root t f h))) (omega arith)

pub two_low : (t : Tree ℕ) (f : NameId) → V.Comp f 2 ≡ root t → 1 < arity t
two_low t f h = subst (λ k. 1 < k) (sym (ap arity (two_root t f h))) (omega arith)

-- an argument has the value of the integer that it is worth
one_valued : (names : List (List ℕ)) (f : ℕ) (t : Tree ℕ) (x : ℤ) → value names t ≡ Ok x → value names (comp f (cons t nil)) ≡ value names (comp f (cons (int x) nil))
one_valued names f t x h = ap (λ v. combine (NotEvaluable (record { 0 = f }) 1) (operation_of (text_of names f) 1) (v ∷ [])) h

two_valued : (names : List (List ℕ)) (f : ℕ) (t u : Tree ℕ) (x y : ℤ) → value names t ≡ Ok x → value names u ≡ Ok y
    → value names (comp f (cons t (cons u nil))) ≡ value names (comp f (cons (int x) (cons (int y) nil)))
two_valued names f t u x y h i =
    ap (λ v. combine (NotEvaluable (record { 0 = f }) 2) (operation_of (text_of names f) 2) (v ∷ value names u ∷ [])) h
    ∙ ap (λ v. combine (NotEvaluable (record { 0 = f }) 2) (operation_of (text_of names f) 2) (Ok x ∷ v ∷ [])) i

-- a term of one argument or two, which are integers
pub one_integer : (names : List (List ℕ)) (t u : Tree ℕ) (f : NameId) (x : ℤ) → V.Comp f 1 ≡ root t → u ≡ argument t 0 → u ≡ int x
    → value names (comp f.0 (cons (int x) nil)) ≡ value names t
one_integer names t u f x h e i =
    sym (ap (value names) (one_root t f h ∙ ap (λ a. comp f.0 (cons a nil)) (sym e ∙ i)))

pub two_integers : (names : List (List ℕ)) (t u w : Tree ℕ) (f : NameId) (x y : ℤ) → V.Comp f 2 ≡ root t → u ≡ argument t 0 → u ≡ int x → w ≡ argument t 1 → w ≡ int y
    → value names (comp f.0 (cons (int x) (cons (int y) nil))) ≡ value names t
two_integers names t u w f x y h e i d j =
    sym (ap (value names) (two_root t f h ∙ ap (λ a. comp f.0 (cons a (cons (argument t 1) nil))) (sym e ∙ i)
    ∙ ap (λ a. comp f.0 (cons (int x) (cons a nil))) (sym d ∙ j)))

-- where an answer is the value that something gives, without its error, it is the value of what is worth the same
pub ok_worth : (o : Option ℤ) (r v w : Result ℤ EvalFault) → o ≡ result_ok r → r ≡ w → v ≡ w → IfSome o (λ z. v ≡ Ok z)
ok_worth None r v w h e d = tt
ok_worth (Some z) (Ok y) v w h e d = cc
ok_worth (Some z) (Err y) v w h e d = cc

module _ (s : State) (base : ℕ) (ws : List CodeWord) where
  abbrev in_state : Tree ℕ → Tree ℕ
  in_state t = apply (bound s) (raise base t)

  -- the tree of a place of code in a state, by what is seen there
  pub int_seen : (p : ℕ) (z : ℤ) → V.Int z ≡ root (code_tree ws p) → code_tree_in s base ws p ≡ int z
  int_seen p z h = ap in_state (int_root (code_tree ws p) z h) ∙ apply-int (bound s) z

  pub var_seen : (p n : ℕ) → V.Var n ≡ root (code_tree ws p) → code_tree_in s base ws p ≡ tree_of_var s (n + base)
  var_seen p n h = ap in_state (var_root (code_tree ws p) n h)

  pub one_seen : (p q : ℕ) (f : NameId) → V.Comp f 1 ≡ root (code_tree ws p) → code_tree ws q ≡ argument (code_tree ws p) 0
      → code_tree_in s base ws p ≡ comp f.0 (cons (code_tree_in s base ws q) nil)
  one_seen p q f h e =
      ap in_state (one_root (code_tree ws p) f h ∙ ap (λ a. comp f.0 (cons a nil)) (sym e))
      ∙ apply-comp (bound s) f.0 (cons (raise base (code_tree ws q)) nil)
      ∙ ap (comp f.0) (apply_all-tree (bound s) (raise base (code_tree ws q)) nil ∙ ap (cons (code_tree_in s base ws q)) (apply_all-none (bound s)))

  pub two_seen : (p q r : ℕ) (f : NameId) → V.Comp f 2 ≡ root (code_tree ws p) → code_tree ws q ≡ argument (code_tree ws p) 0 → code_tree ws r ≡ argument (code_tree ws p) 1
      → code_tree_in s base ws p ≡ comp f.0 (cons (code_tree_in s base ws q) (cons (code_tree_in s base ws r) nil))
  two_seen p q r f h e d =
      ap in_state (two_root (code_tree ws p) f h ∙ ap (λ a. comp f.0 (cons a (cons (argument (code_tree ws p) 1) nil))) (sym e)
      ∙ ap (λ a. comp f.0 (cons (code_tree ws q) (cons a nil))) (sym d))
      ∙ apply-comp (bound s) f.0 (cons (raise base (code_tree ws q)) (cons (raise base (code_tree ws r)) nil))
      ∙ ap (comp f.0) (apply_all-tree (bound s) (raise base (code_tree ws q)) (cons (raise base (code_tree ws r)) nil)
      ∙ ap (cons (code_tree_in s base ws q)) (apply_all-tree (bound s) (raise base (code_tree ws r)) nil ∙ ap (cons (code_tree_in s base ws r)) (apply_all-none (bound s))))

  -- the places from q on have the arguments of the tree of p
  abbrev pub Arguments : ℕ → ℕ → Type 0
  Arguments p q = (i : ℕ) → i < arity (code_tree ws p) → code_tree ws (q + i) ≡ argument (code_tree ws p) i

  first_argument : (p q : ℕ) → Arguments p q → 0 < arity (code_tree ws p) → code_tree ws q ≡ argument (code_tree ws p) 0
  first_argument p q a low = subst (λ k. code_tree ws k ≡ argument (code_tree ws p) 0) (omega arith) (a 0 low)

  -- the value of a place of code, by those of its arguments
  pub one_worth : (names : List (List ℕ)) (p q : ℕ) (f : NameId) (x : ℤ) → V.Comp f 1 ≡ root (code_tree ws p) → Arguments p q
      → value names (code_tree_in s base ws q) ≡ Ok x → value names (code_tree_in s base ws p) ≡ value names (comp f.0 (cons (int x) nil))
  one_worth names p q f x h a v =
      ap (value names) (one_seen p q f h (first_argument p q a (one_low (code_tree ws p) f h)))
      ∙ one_valued names f.0 (code_tree_in s base ws q) x v

  pub two_worth : (names : List (List ℕ)) (p q : ℕ) (f : NameId) (x y : ℤ) → V.Comp f 2 ≡ root (code_tree ws p) → Arguments p q
      → value names (code_tree_in s base ws q) ≡ Ok x → value names (code_tree_in s base ws (q + 1)) ≡ Ok y
      → value names (code_tree_in s base ws p) ≡ value names (comp f.0 (cons (int x) (cons (int y) nil)))
  two_worth names p q f x y h a v w =
      let low : 1 < arity (code_tree ws p) = two_low (code_tree ws p) f h in
      ap (value names) (two_seen p q (q + 1) f h (first_argument p q a (omega arith)) (a 1 low))
      ∙ two_valued names f.0 (code_tree_in s base ws q) (code_tree_in s base ws (q + 1)) x y v w
