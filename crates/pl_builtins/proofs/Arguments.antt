-- What `arg` finds.
use Rattle.std.proofs.Common.{◌≡◌, ℕ, ℤ, zero, suc, pos, negsuc, ◌<◌, ◌≤◌, nat_lt, Bool, true, false, if◌then◌else◌, refl, ap, sym, subst, arith}
use Rattle.pl_atoms.specs.declared.names.NameId.{NameId}
use Rattle.pl_terms.specs.Trees.{Tree, Trees, var, int, atom, comp, nil, cons, count}
use Rattle.pl_unify.specs.declared.word.Ref.{Ref}
use Rattle.pl_unify.specs.declared.word.View.TheVariants as V
use Rattle.pl_unify.specs.Shape.{root, nth_tree}
use Rattle.pl_unify.specs.State.{State, tree_at, IsRef}
use Rattle.builtin_model.specs.declared.error.Domain.TheVariants as O
use Rattle.builtin_model.specs.Faults.{domain_fault}
use Rattle.builtin_model.specs.Lists.{listed}
use Rattle.builtin_model.specs.Deeds.{no, raise, unify, nth, arg_deed}
use Rattle.pl_builtin_ends.specs.declared.done.Done.TheVariants as D
use Rattle.pl_builtins.specs.declared.argument.ArgTurn.TheVariants.{End, Unify}
use Rattle.pl_builtins.specs.Argument.{place_turn, IsTurn}
use Rattle.pl_builtin_ends.specs.Meets.{Fails}

nth-in : (ts : Trees ℕ) (k : ℕ) (a : Tree ℕ) → k < count ts → unify a (nth_tree ts k) ≡ nth (listed ts) (suc k) a
nth-in nil k a h = absurd (omega arith)
nth-in (cons t ts) zero a h = refl
nth-in (cons t ts) (suc k) a h = nth-in ts k a (omega arith)

nth-out : (ts : Trees ℕ) (k : ℕ) (a : Tree ℕ) → count ts ≤ k → nth (listed ts) (suc k) a ≡ no
nth-out nil k a h = refl
nth-out (cons t ts) zero a h = absurd (omega arith)
nth-out (cons t ts) (suc k) a h = nth-out ts k a (omega arith)

nth-zero : (ts : Trees ℕ) (a : Tree ℕ) → nth (listed ts) zero a ≡ no
nth-zero nil a = refl
nth-zero (cons t ts) a = refl

pub is-below : (k n : ℕ) → nat_lt k n ≡ true → k < n
is-below k n e = grind arith

pub is-not-below : (k n : ℕ) → nat_lt k n ≡ false → n ≤ k
is-not-below k n e = grind arith

module _ (s : State) (f : ℕ) (ts : Trees ℕ) (a : Tree ℕ) where
  turn-above : (k : ℕ) (b : Bool) → nat_lt k (count ts) ≡ b → IsTurn s (comp f ts) a (nth (listed ts) (suc k) a) (if b then Unify k else End D.No)
  turn-above k true e = (is-below k (count ts) e, nth-in ts k a (is-below k (count ts) e))
  turn-above k false e = (refl, subst Fails (sym (nth-out ts k a (is-not-below k (count ts) e))) tt)

  turn-place : (place : Ref) (z : ℤ) → IsRef s place → tree_at s place ≡ int z → IsTurn s (comp f ts) a (arg_deed (int z) (comp f ts) a) (place_turn place z (count ts))
  turn-place place (negsuc k) r e = (refl, ap (λ u. raise (domain_fault O.NotLessThanZero u)) e, r)
  turn-place place (pos zero) r e = (refl, subst Fails (sym (nth-zero ts a)) tt)
  turn-place place (pos (suc k)) r e = turn-above k (nat_lt k (count ts)) refl

-- a number and a compound term
pub turn-at : (s : State) (place : Ref) (u t : Tree ℕ) (z : ℤ) (f : NameId) (k : ℕ) (a : Tree ℕ) → IsRef s place → V.Int z ≡ root u → tree_at s place ≡ u → V.Comp f k ≡ root t
    → IsTurn s t a (arg_deed u t a) (place_turn place z k)
turn-at s place (int y) (comp g ts) z f k a r eu e et =
    let ez : z ≡ y = cc in
    let ek : k ≡ count ts = cc in
    subst (λ x. IsTurn s (comp g ts) a (arg_deed (int y) (comp g ts) a) (place_turn place x k)) (sym ez)
    (subst (λ x. IsTurn s (comp g ts) a (arg_deed (int y) (comp g ts) a) (place_turn place y x)) (sym ek) (turn-place s g ts a place y r e))
turn-at s place (int y) (var m) z f k a r eu e et = absurd (cc)
turn-at s place (int y) (int m) z f k a r eu e et = absurd (cc)
turn-at s place (int y) (atom m) z f k a r eu e et = absurd (cc)
turn-at s place (var m) t z f k a r eu e et = absurd (cc)
turn-at s place (atom m) t z f k a r eu e et = absurd (cc)
turn-at s place (comp g ts) t z f k a r eu e et = absurd (cc)
