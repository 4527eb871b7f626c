-- The machine reads back each good term from its items.
use Rattle.std.proofs.Common.{◌≡◌, ℕ, ◌+◌, ◌*◌, ◌≤◌, ◌<◌, List, [], ◌∷◌, ◌++◌, Option, Some, None, refl, sym, ap, ◌∙◌, arith, ◌⊎◌, inl, inr, nat_le, append_assoc, append-nil}
use Rattle.std.proofs.lemmas.Bool.{le-leb, lt-ltb, lt-leb}
use Rattle.pl_ops.specs.declared.op.Kind.{Kind}
use Rattle.pl_ops.specs.declared.op.Kind.TheVariants.{Xfx as xfx, Xfy as xfy, Yfx as yfx, Fx as fx, Fy as fy, Xf as xf, Yf as yf}
use Rattle.pl_ops.specs.declared.op.Op.{Op as Operator}
use Rattle.text_model.specs.Grammar.{round, curly, square, Item, between, after, comma, bar, closes, Parse, leaf, grouped, braced, called, listed, listed_to, prefixed, joined, conjoined, postfixed, Arguments, one, more, comma_op, yield, all_yield, meaning, left_y, right_y, priority, right_weight, left_weight, weight, FitsRight, FitsLeft, IsGood, AreGood, max_priority, argument_priority, max_arity, arity, OneTree}
use Rattle.pl_reader.specs.Machine.{Frame, waits_prefix, waits_joined, waits_conjoined, op_of, applied, Head, of_call, of_list, in_round, in_curly, in_arguments, in_tail, Context, State, with_front, when, within, built, call_of, close, close_all, closed_left, waits_right, next_argument, next_tail, after_comma, run, parsed}

-- the operators on the right edge, the last first, and the last operand
abbrev spine : Parse → List Frame
spine (leaf t) = []
spine (grouped e) = []
spine (braced e) = []
spine (called s es) = []
spine (listed es) = []
spine (listed_to es e) = []
spine (prefixed o s e) = spine e ++ waits_prefix o s ∷ []
spine (joined l o s r) = spine r ++ waits_joined l o s ∷ []
spine (conjoined l r) = spine r ++ waits_conjoined l ∷ []
spine (postfixed l o s) = []

abbrev edge : Parse → Parse
edge (leaf t) = leaf t
edge (grouped e) = grouped e
edge (braced e) = braced e
edge (called s es) = called s es
edge (listed es) = listed es
edge (listed_to es e) = listed_to es e
edge (prefixed o s e) = edge e
edge (joined l o s r) = edge r
edge (conjoined l r) = edge r
edge (postfixed l o s) = postfixed l o s

right_y-le : (k : Kind) → right_y k ≤ 1
right_y-le xfx = omega arith
right_y-le xfy = omega arith
right_y-le yfx = omega arith
right_y-le fx = omega arith
right_y-le fy = omega arith
right_y-le xf = omega arith
right_y-le yf = omega arith

left_y-le : (k : Kind) → left_y k ≤ 1
left_y-le xfx = omega arith
left_y-le xfy = omega arith
left_y-le yfx = omega arith
left_y-le fx = omega arith
left_y-le fy = omega arith
left_y-le xf = omega arith
left_y-le yf = omega arith

weight-le : (e : Parse) → weight e ≤ 2 * priority e + 1
weight-le (leaf t) = omega arith
weight-le (grouped e) = omega arith
weight-le (braced e) = omega arith
weight-le (called s es) = omega arith
weight-le (listed es) = omega arith
weight-le (listed_to es e) = omega arith
weight-le (prefixed o s e) = omega (arith, right_y-le o.kind)
weight-le (joined l o s r) = omega (arith, right_y-le o.kind)
weight-le (conjoined l r) = omega arith
weight-le (postfixed l o s) = omega (arith, right_y-le o.kind)

priority-le : (e : Parse) → 2 * priority e ≤ weight e
priority-le (leaf t) = omega arith
priority-le (grouped e) = omega arith
priority-le (braced e) = omega arith
priority-le (called s es) = omega arith
priority-le (listed es) = omega arith
priority-le (listed_to es e) = omega arith
priority-le (prefixed o s e) = omega arith
priority-le (joined l o s r) = omega arith
priority-le (conjoined l r) = omega arith
priority-le (postfixed l o s) = omega arith

-- one frame closes
close-one : (p : ℕ) (f : Frame) (fs : List Frame) (e : Parse) → FitsRight (op_of f) e → right_weight (op_of f) ≤ 2 * p → close p (f ∷ fs) e ≡ close p fs (applied f e)
close-one p f fs e fits light =
    rw (le-leb (right_weight (op_of f)) (2 * p) light, close) (rw (lt-ltb (2 * priority e) (right_weight (op_of f)) fits.bound) refl)

close_all-one : (f : Frame) (fs : List Frame) (e : Parse) → FitsRight (op_of f) e → close_all (f ∷ fs) e ≡ close_all fs (applied f e)
close_all-one f fs e fits = rw (lt-ltb (2 * priority e) (right_weight (op_of f)) fits.bound, close_all) refl

-- the right edge of a term closes into the term
module _ (p : ℕ) where
  closes_under : (e : Parse) (f : Frame) (fs : List Frame) → ((gs : List Frame) → close p (spine e ++ gs) (edge e) ≡ close p gs e) → FitsRight (op_of f) e → right_weight (op_of f) ≤ 2 * p → close p ((spine e ++ f ∷ []) ++ fs) (edge e) ≡ close p fs (applied f e)
  closes_under e f fs under fits light =
      ap (λ l. close p l (edge e)) (append_assoc (spine e) (f ∷ []) fs) ∙ under (f ∷ fs) ∙ close-one p f fs e fits light

  close-spine : (e : Parse) (fs : List Frame) → IsGood e → weight e ≤ 2 * p → close p (spine e ++ fs) (edge e) ≡ close p fs e
  close-spine (leaf t) fs good light = refl
  close-spine (grouped e) fs good light = refl
  close-spine (braced e) fs good light = refl
  close-spine (called s es) fs good light = refl
  close-spine (listed es) fs good light = refl
  close-spine (listed_to es e) fs good light = refl
  close-spine (prefixed o s e) fs good light =
      closes_under e (waits_prefix o s) fs (λ gs. close-spine e gs good.1 (omega (arith, weight-le e, good.0.bound))) good.0 light
  close-spine (joined l o s r) fs good light =
      closes_under r (waits_joined l o s) fs (λ gs. close-spine r gs good.3 (omega (arith, weight-le r, good.1.bound))) good.1 light
  close-spine (conjoined l r) fs good light =
      closes_under r (waits_conjoined l) fs (λ gs. close-spine r gs good.3 (omega (arith, weight-le r, good.1.bound))) good.1 light
  close-spine (postfixed l o s) fs good light = refl

all_closes_under : (e : Parse) (f : Frame) (fs : List Frame) → ((gs : List Frame) → close_all (spine e ++ gs) (edge e) ≡ close_all gs e) → FitsRight (op_of f) e → close_all ((spine e ++ f ∷ []) ++ fs) (edge e) ≡ close_all fs (applied f e)
all_closes_under e f fs under fits =
    ap (λ l. close_all l (edge e)) (append_assoc (spine e) (f ∷ []) fs) ∙ under (f ∷ fs) ∙ close_all-one f fs e fits

close_all-spine : (e : Parse) (fs : List Frame) → IsGood e → close_all (spine e ++ fs) (edge e) ≡ close_all fs e
close_all-spine (leaf t) fs good = refl
close_all-spine (grouped e) fs good = refl
close_all-spine (braced e) fs good = refl
close_all-spine (called s es) fs good = refl
close_all-spine (listed es) fs good = refl
close_all-spine (listed_to es e) fs good = refl
close_all-spine (prefixed o s e) fs good = all_closes_under e (waits_prefix o s) fs (λ gs. close_all-spine e gs good.1) good.0
close_all-spine (joined l o s r) fs good = all_closes_under r (waits_joined l o s) fs (λ gs. close_all-spine r gs good.3) good.1
close_all-spine (conjoined l r) fs good = all_closes_under r (waits_conjoined l) fs (λ gs. close_all-spine r gs good.3) good.1
close_all-spine (postfixed l o s) fs good = refl

-- An operator of that priority closes none of the frames.
abbrev Guards : List Frame → ℕ → Type 0
Guards [] p = Unit {0}
Guards (f ∷ fs) p = 2 * p < right_weight (op_of f)

Guards-below : (fs : List Frame) (p q : ℕ) → Guards fs q → p ≤ q → Guards fs p
Guards-below [] p q h le = tt
Guards-below (f ∷ fs) p q h le = omega arith

close-guarded : (fs : List Frame) (p : ℕ) (e : Parse) → Guards fs p → close p fs e ≡ Some (fs, e)
close-guarded [] p e h = refl
close-guarded (f ∷ fs) p e h = rw (lt-leb (right_weight (op_of f)) (2 * p) h, close) refl

closed_left-spine : (l : Parse) (o : Operator) (fs : List Frame) → IsGood l → FitsLeft o l → Guards fs o.priority → closed_left o (close o.priority (spine l ++ fs) (edge l)) ≡ Some (fs, l)
closed_left-spine l o fs good fits guards =
    ap (closed_left o) (close-spine o.priority l fs good (omega (arith, left_y-le o.kind, fits.bound)) ∙ close-guarded fs o.priority l guards)
    ∙ ap (λ b. when b (Some (fs, l))) (lt-ltb (weight l) (left_weight o) fits.bound)

within-spine : (max : ℕ) (e : Parse) → IsGood e → priority e ≤ max → within max (close_all (spine e ++ []) (edge e)) ≡ Some e
within-spine max e good fits =
    ap (within max) (close_all-spine e [] good) ∙ ap (λ b. when b (Some e)) (le-leb (priority e) max fits)

-- arguments but for the last, and the last
abbrev init : Arguments → List Parse
init (one e) = []
init (more e es) = e ∷ init es

abbrev last : Arguments → Parse
last (one e) = e
last (more e es) = last es

with_front-init : (es : Arguments) → with_front (init es) (one (last es)) ≡ es
with_front-init (one e) = refl
with_front-init (more e es) = ap (more e) (with_front-init es)

last-good : (es : Arguments) → AreGood es → (priority (last es) ≤ argument_priority) × IsGood (last es)
last-good (one e) good = good
last-good (more e es) good = last-good es good.2

left_guard : (l : Parse) (o : Operator) (fs : List Frame) → FitsLeft o l → Guards fs o.priority → Guards fs (priority l)
left_guard l o fs fits guards = Guards-below fs (priority l) o.priority guards (omega (arith, priority-le l, left_y-le o.kind, fits.bound))

-- A comma outside arguments.
pub data IsPlain : List Context → Type 0 where
  at_top : IsPlain []
  at_round : {saved : List Frame} {cs : List Context} → IsPlain ((in_round, saved) ∷ cs)
  at_curly : {saved : List Frame} {cs : List Context} → IsPlain ((in_curly, saved) ∷ cs)

-- what the machine allows at a comma of the term itself
abbrev Allows : List Context → ℕ → Type 0
Allows cs p = (p ≤ argument_priority) ⊎ IsPlain cs

Allows-below : (cs : List Context) (p q : ℕ) → Allows cs q → p ≤ q → Allows cs p
Allows-below cs p q (inl h) le = inl (omega arith)
Allows-below cs p q (inr h) le = inr h

comma-plain : (cs : List Context) (fs : List Frame) (e : Parse) → IsPlain cs → after_comma cs fs e ≡ waits_right cs (closed_left comma_op (close comma_op.priority fs e))
comma-plain [] fs e at_top = refl
comma-plain (c ∷ cs) fs e at_round = refl
comma-plain (c ∷ cs) fs e at_curly = refl

abbrev resumed : Option State → List Item → Option Parse
resumed s is = elim s [ None ↦ None | Some p ↦ run p.0 p.1 None is ]

abbrev went_on : List Context → List Frame → Option Parse → List Item → Option Parse
went_on cs saved r is = elim r [ None ↦ None | Some x ↦ run cs saved (Some x) is ]

right_le : (o : Operator) (r : Parse) (p : ℕ) → FitsRight o r → o.priority ≤ p → priority r ≤ p
right_le o r p fits le = omega (arith, right_y-le o.kind, fits.bound)

left_le : (o : Operator) (l : Parse) (p : ℕ) → FitsLeft o l → o.priority ≤ p → priority l ≤ p
left_le o l p fits le = omega (arith, priority-le l, left_y-le o.kind, fits.bound)

mutual
  pub run-yield : (e : Parse) (cs : List Context) (fs : List Frame) (rest : List Item) → IsGood e → Guards fs (priority e) → Allows cs (priority e) → run cs fs None (yield e ++ rest) ≡ run cs (spine e ++ fs) (Some (edge e)) rest
  run-yield (leaf t) cs fs rest good guards allows = refl
  run-yield (grouped e) cs fs rest good guards allows =
      ap (run ((in_round, fs) ∷ cs) [] None) (append_assoc (yield e) (closes round ∷ []) rest)
      ∙ run-yield e ((in_round, fs) ∷ cs) [] (closes round ∷ rest) good.1 tt (inr at_round)
      ∙ ap (λ r. went_on cs fs (built grouped r) rest) (within-spine max_priority e good.1 good.0)
  run-yield (braced e) cs fs rest good guards allows =
      ap (run ((in_curly, fs) ∷ cs) [] None) (append_assoc (yield e) (closes curly ∷ []) rest)
      ∙ run-yield e ((in_curly, fs) ∷ cs) [] (closes curly ∷ rest) good.1 tt (inr at_curly)
      ∙ ap (λ r. went_on cs fs (built braced r) rest) (within-spine max_priority e good.1 good.0)
  run-yield (called s es) cs fs rest good guards allows =
      ap (run ((in_arguments (of_call s) [], fs) ∷ cs) [] None) (append_assoc (all_yield es) (closes round ∷ []) rest)
      ∙ run-all_yield es (of_call s) [] fs cs (closes round ∷ rest) good.1
      ∙ ap (λ r. went_on cs fs (call_of s (init es) r) rest) (within-spine argument_priority (last es) (last-good es good.1).1 (last-good es good.1).0)
      ∙ ap (λ a. went_on cs fs (when (nat_le (arity a) max_arity) (Some (called s a))) rest) (with_front-init es)
      ∙ ap (λ b. went_on cs fs (when b (Some (called s es))) rest) (le-leb (arity es) max_arity good.0)
  run-yield (listed es) cs fs rest good guards allows =
      ap (run ((in_arguments of_list [], fs) ∷ cs) [] None) (append_assoc (all_yield es) (closes square ∷ []) rest)
      ∙ run-all_yield es of_list [] fs cs (closes square ∷ rest) good
      ∙ ap (λ r. went_on cs fs (built (λ e. listed (with_front (init es) (one e))) r) rest) (within-spine argument_priority (last es) (last-good es good).1 (last-good es good).0)
      ∙ ap (λ a. run cs fs (Some (listed a)) rest) (with_front-init es)
  run-yield (listed_to es e) cs fs rest good guards allows =
      ap (run ((in_arguments of_list [], fs) ∷ cs) [] None) (append_assoc (all_yield es) (bar ∷ (yield e ++ closes square ∷ [])) rest)
      ∙ run-all_yield es of_list [] fs cs (bar ∷ ((yield e ++ closes square ∷ []) ++ rest)) good.0
      ∙ ap (λ r. resumed (next_tail (init es) fs cs r) ((yield e ++ closes square ∷ []) ++ rest)) (within-spine argument_priority (last es) (last-good es good.0).1 (last-good es good.0).0)
      ∙ ap (run ((in_tail (init es) (last es), fs) ∷ cs) [] None) (append_assoc (yield e) (closes square ∷ []) rest)
      ∙ run-yield e ((in_tail (init es) (last es), fs) ∷ cs) [] (closes square ∷ rest) good.2 tt (inl good.1)
      ∙ ap (λ r. went_on cs fs (built (λ x. listed_to (with_front (init es) (one (last es))) x) r) rest) (within-spine argument_priority e good.2 good.1)
      ∙ ap (λ a. run cs fs (Some (listed_to a e)) rest) (with_front-init es)
  run-yield (prefixed o s e) cs fs rest good guards allows =
      run-yield e cs (waits_prefix o s ∷ fs) rest good.1 good.0.bound (Allows-below cs (priority e) o.priority allows (right_le o e o.priority good.0 (omega arith)))
      ∙ ap (λ l. run cs l (Some (edge e)) rest) (sym (append_assoc (spine e) (waits_prefix o s ∷ []) fs))
  run-yield (joined l o s r) cs fs rest good guards allows =
      ap (run cs fs None) (append_assoc (yield l) (between o s ∷ yield r) rest)
      ∙ run-yield l cs fs (between o s ∷ (yield r ++ rest)) good.2 (left_guard l o fs good.0 guards) (Allows-below cs (priority l) o.priority allows (left_le o l o.priority good.0 (omega arith)))
      ∙ ap (λ p. elim p as (λ _. Option Parse) [ None ↦ None | Some p ↦ run cs (waits_joined p.1 o s ∷ p.0) None (yield r ++ rest) ]) (closed_left-spine l o fs good.2 good.0 guards)
      ∙ run-yield r cs (waits_joined l o s ∷ fs) rest good.3 good.1.bound (Allows-below cs (priority r) o.priority allows (right_le o r o.priority good.1 (omega arith)))
      ∙ ap (λ x. run cs x (Some (edge r)) rest) (sym (append_assoc (spine r) (waits_joined l o s ∷ []) fs))
  run-yield (conjoined l r) cs fs rest good guards (inl low) = absurd (omega arith)
  run-yield (conjoined l r) cs fs rest good guards (inr plain) =
      ap (run cs fs None) (append_assoc (yield l) (comma ∷ yield r) rest)
      ∙ run-yield l cs fs (comma ∷ (yield r ++ rest)) good.2 (left_guard l comma_op fs good.0 guards) (inr plain)
      ∙ ap (λ p. resumed p (yield r ++ rest)) (comma-plain cs (spine l ++ fs) (edge l) plain ∙ ap (waits_right cs) (closed_left-spine l comma_op fs good.2 good.0 guards))
      ∙ run-yield r cs (waits_conjoined l ∷ fs) rest good.3 good.1.bound (inr plain)
      ∙ ap (λ x. run cs x (Some (edge r)) rest) (sym (append_assoc (spine r) (waits_conjoined l ∷ []) fs))
  run-yield (postfixed l o s) cs fs rest good guards allows =
      ap (run cs fs None) (append_assoc (yield l) (after o s ∷ []) rest)
      ∙ run-yield l cs fs (after o s ∷ rest) good.1 (left_guard l o fs good.0 guards) (Allows-below cs (priority l) o.priority allows (left_le o l o.priority good.0 (omega arith)))
      ∙ ap (λ p. elim p as (λ _. Option Parse) [ None ↦ None | Some p ↦ run cs p.0 (Some (postfixed p.1 o s)) rest ]) (closed_left-spine l o fs good.1 good.0 guards)

  run-all_yield : (es : Arguments) (h : Head) (done : List Parse) (saved : List Frame) (cs : List Context) (rest : List Item) → AreGood es → run ((in_arguments h done, saved) ∷ cs) [] None (all_yield es ++ rest) ≡ run ((in_arguments h (done ++ init es), saved) ∷ cs) (spine (last es) ++ []) (Some (edge (last es))) rest
  run-all_yield (one e) h done saved cs rest good =
      run-yield e ((in_arguments h done, saved) ∷ cs) [] rest good.1 tt (inl good.0)
      ∙ ap (λ d. run ((in_arguments h d, saved) ∷ cs) (spine e ++ []) (Some (edge e)) rest) (sym (append-nil done))
  run-all_yield (more e es) h done saved cs rest good =
      ap (run ((in_arguments h done, saved) ∷ cs) [] None) (append_assoc (yield e) (comma ∷ all_yield es) rest)
      ∙ run-yield e ((in_arguments h done, saved) ∷ cs) [] (comma ∷ (all_yield es ++ rest)) good.1 tt (inl good.0)
      ∙ ap (λ r. resumed (next_argument h done saved cs r) (all_yield es ++ rest)) (within-spine argument_priority e good.1 good.0)
      ∙ run-all_yield es h (done ++ e ∷ []) saved cs rest good.2
      ∙ ap (λ d. run ((in_arguments h d, saved) ∷ cs) (spine (last es) ++ []) (Some (edge (last es))) rest) (append_assoc done (e ∷ []) (init es))

pub parsed-yield : (e : Parse) → IsGood e → priority e ≤ max_priority → parsed (yield e) ≡ Some e
parsed-yield e good fits =
    ap parsed (sym (append-nil (yield e))) ∙ run-yield e [] [] [] good tt (inr at_top) ∙ within-spine max_priority e good fits

some-same : {A : Type 0} (x y : A) → Some x ≡ Some y → x ≡ y
some-same x y h = cc

-- a list of items has one way to be read
pub one_parse : (d e : Parse) → IsGood d → IsGood e → priority d ≤ max_priority → priority e ≤ max_priority → yield d ≡ yield e → d ≡ e
one_parse d e gd ge wd we same = some-same d e (sym (parsed-yield d gd wd) ∙ ap parsed same ∙ parsed-yield e ge we)

pub OneTree-holds : OneTree
OneTree-holds items t u r q =
    sym r.tree ∙ ap meaning (one_parse r.parse q.parse r.good q.good r.within q.within (r.spelled ∙ sym q.spelled)) ∙ q.tree
