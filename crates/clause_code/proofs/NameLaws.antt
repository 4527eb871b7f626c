-- The names of replacements.
use Rattle.std.proofs.Common.{◌≡◌, ℕ, List, [], ◌∷◌, ◌++◌, sym, subst, Bool, true, false, Option, Some, None, nat_eq, if◌then◌else◌}
use Rattle.pl_terms.specs.Trees.{Tree, Trees, var, int, atom, comp, nil, cons}
use Rattle.pl_terms.specs.NameBounds.{NamesBelow, AllNamesBelow}
use Rattle.unifier_model.specs.Substitution.{apply, raise, raise_all, replace, replace_all}
use Rattle.unifier_model.specs.Unifier.{Solved, replaced, binding, pairs}
use Rattle.unifier_model.specs.Unifier.Solved.{solved, same, higher_left, higher_right, left, right, left_inside, right_inside, parts, clash}
use Rattle.unifier_model.specs.Mgu.{mgu}
use Rattle.unifier_model.proofs.MguProofs.{Solved-mgu}
use Rattle.clause_code.specs.Names.{EquationsNamed, BoundNamed}
use Rattle.pl_unify.specs.State.{State, tree_at, bound}
use Rattle.clause_code.specs.Heads.{Took}
use Rattle.clause_code.specs.HeadNames.{NamesStay}

mutual
  NamesBelow-replace : (k n : ℕ) (r t : Tree ℕ) → NamesBelow k r → NamesBelow k t → NamesBelow k (replace n r t)
  NamesBelow-replace k n r (var m) a h = go (nat_eq n m)
    where
      go : (b : Bool) → NamesBelow k (if b then r else var m)
      go true = a
      go false = tt
  NamesBelow-replace k n r (int z) a h = tt
  NamesBelow-replace k n r (atom s) a h = h
  NamesBelow-replace k n r (comp s ts) a h = (h.0, NamesBelow-replace_all k n r ts a h.1)

  NamesBelow-replace_all : (k n : ℕ) (r : Tree ℕ) (ts : Trees ℕ) → NamesBelow k r → AllNamesBelow k ts → AllNamesBelow k (replace_all n r ts)
  NamesBelow-replace_all k n r nil a h = tt
  NamesBelow-replace_all k n r (cons t ts) a h = (NamesBelow-replace k n r t a h.0, NamesBelow-replace_all k n r ts a h.1)

mutual
  pub NamesBelow-raise : (k b : ℕ) (t : Tree ℕ) → NamesBelow k t → NamesBelow k (raise b t)
  NamesBelow-raise k b (var m) h = tt
  NamesBelow-raise k b (int z) h = tt
  NamesBelow-raise k b (atom s) h = h
  NamesBelow-raise k b (comp s ts) h = (h.0, NamesBelow-raise_all k b ts h.1)

  pub NamesBelow-raise_all : (k b : ℕ) (ts : Trees ℕ) → AllNamesBelow k ts → AllNamesBelow k (raise_all b ts)
  NamesBelow-raise_all k b nil h = tt
  NamesBelow-raise_all k b (cons t ts) h = (NamesBelow-raise k b t h.0, NamesBelow-raise_all k b ts h.1)

pub NamesBelow-apply : (k : ℕ) (bs : List (ℕ × Tree ℕ)) (t : Tree ℕ) → BoundNamed k bs → NamesBelow k t → NamesBelow k (apply bs t)
NamesBelow-apply k [] t a h = h
NamesBelow-apply k (b ∷ bs) t a h = NamesBelow-apply k bs (replace b.0 b.1 t) a.1 (NamesBelow-replace k b.0 b.1 t a.0 h)

pub BoundNamed-append : (k : ℕ) (bs cs : List (ℕ × Tree ℕ)) → BoundNamed k bs → BoundNamed k cs → BoundNamed k (bs ++ cs)
BoundNamed-append k [] cs a h = h
BoundNamed-append k (b ∷ bs) cs a h = (a.0, BoundNamed-append k bs cs a.1 h)

EquationsNamed-replaced : (k n : ℕ) (r : Tree ℕ) (es : List (Tree ℕ × Tree ℕ)) → NamesBelow k r → EquationsNamed k es → EquationsNamed k (replaced n r es)
EquationsNamed-replaced k n r [] a h = tt
EquationsNamed-replaced k n r (e ∷ es) a h = (NamesBelow-replace k n r e.0 a h.0, NamesBelow-replace k n r e.1 a h.1, EquationsNamed-replaced k n r es a h.2)

EquationsNamed-pairs : (k : ℕ) (ts us : Trees ℕ) (es : List (Tree ℕ × Tree ℕ)) → AllNamesBelow k ts → AllNamesBelow k us → EquationsNamed k es → EquationsNamed k (pairs ts us es)
EquationsNamed-pairs k nil us es a b h = h
EquationsNamed-pairs k (cons t ts) nil es a b h = h
EquationsNamed-pairs k (cons t ts) (cons u us) es a b h = (a.0, b.0, EquationsNamed-pairs k ts us es a.1 b.1 h)

-- where there is an answer, it has names below the limit alone
abbrev pub AnswerNamed : ℕ → Option (List (ℕ × Tree ℕ)) → Type 0
AnswerNamed k None = Unit {0}
AnswerNamed k (Some bs) = BoundNamed k bs

AnswerNamed-binding : (k n : ℕ) (t : Tree ℕ) (a : Option (List (ℕ × Tree ℕ))) → NamesBelow k t → AnswerNamed k a → AnswerNamed k (binding n t a)
AnswerNamed-binding k n t None a h = tt
AnswerNamed-binding k n t (Some bs) a h = (a, h)

pub Solved-named : {es : List (Tree ℕ × Tree ℕ)} {a : Option (List (ℕ × Tree ℕ))} → (k : ℕ) → Solved es a → EquationsNamed k es → AnswerNamed k a
Solved-named k solved e = tt
Solved-named k (same h) e = Solved-named k h e.2
Solved-named k (higher_left {n} {m} {es} {r} lt h) e = AnswerNamed-binding k n (var m) r tt (Solved-named k h (EquationsNamed-replaced k n (var m) es tt e.2))
Solved-named k (higher_right {n} {m} {es} {r} lt h) e = AnswerNamed-binding k m (var n) r tt (Solved-named k h (EquationsNamed-replaced k m (var n) es tt e.2))
Solved-named k (left {n} {t} {es} {r} other o h) e = AnswerNamed-binding k n t r e.1 (Solved-named k h (EquationsNamed-replaced k n t es e.1 e.2))
Solved-named k (right {n} {t} {es} {r} other o h) e = AnswerNamed-binding k n t r e.0 (Solved-named k h (EquationsNamed-replaced k n t es e.0 e.2))
Solved-named k (left_inside other o) e = tt
Solved-named k (right_inside other o) e = tt
Solved-named k (parts {f} {ts} {us} {es} {r} c h) e = Solved-named k h (EquationsNamed-pairs k ts us es e.0.1 e.1.1 e.2)
Solved-named k (clash c) e = tt

pub mgu-named : (k : ℕ) (es : List (Tree ℕ × Tree ℕ)) (bs : List (ℕ × Tree ℕ)) → EquationsNamed k es → mgu es ≡ Some bs → BoundNamed k bs
mgu-named k es bs h e = subst (AnswerNamed k) e (Solved-named k (Solved-mgu es) h)

pub took-named : (k : ℕ) (old new : State) (goal head : Tree ℕ) (width : ℕ) → Took old new goal head width → NamesBelow k goal → NamesBelow k head → NamesStay k old new
took-named k old new goal head width t g h =
    let u : BoundNamed k t.unifier = mgu-named k ((goal, raise old.next head) ∷ []) t.unifier (g, NamesBelow-raise k old.next head h, tt) t.solved in
    record {
      bindings = λ b. subst (BoundNamed k) (sym t.bound) (BoundNamed-append k (bound old) t.unifier b u);
      places = λ r i n. subst (NamesBelow k) (sym (t.places r i)) (NamesBelow-apply k t.unifier (tree_at old r) u n);
      variables = λ m n. subst (NamesBelow k) (sym (t.variables m)) (NamesBelow-apply k t.unifier (apply (bound old) (var m)) u n);
    }
