-- Variables that a store does not have yet.
use Rattle.std.proofs.Common.{◌≡◌, ◌∙◌, ℕ, suc, ◌+◌, ◌<◌, ◌≤◌, List, [], ◌∷◌, length, get_or, nat_eq, false, refl, ap, arith}
use Rattle.pl_terms.specs.Trees.{Tree, Trees, var, int, atom, comp, nil, cons}
use Rattle.unifier_model.specs.Substitution.{apply, apply_all, raise, raise_all}
use Rattle.unifier_model.proofs.Replaced.{apply-int, apply-atom, apply-comp, apply_all-none, apply_all-tree}
use Rattle.pl_unify.specs.Words.{Link, no_link, place_of}
use Rattle.pl_unify.specs.State.{State, IsStore, bound, base}
use Rattle.pl_unify.proofs.Linked.{apply-free}

unlinked : (ls : List Link) (next n : ℕ) → ((i : ℕ) → i < length ls → (get_or ls i no_link).var < next) → next ≤ n → place_of n ls ≡ length ls
unlinked [] next n h low = refl
unlinked (l ∷ ls) next n h low =
    let ne : nat_eq l.var n ≡ false = other l.var n (omega (arith, h 0 (omega arith))) in
    rw ne (omega (arith, unlinked ls next n (λ i k. h (suc i) (omega arith)) low))
  where
    other : (a b : ℕ) → a < b → nat_eq a b ≡ false
    other a b k = grind arith

module _ (s : State) (st : IsStore s) where
  unbound : (n : ℕ) → s.next ≤ n → apply (bound s) (var n) ≡ var n
  unbound n low = apply-free (base s) [] s.links n refl (unlinked s.links s.next n (λ i h. (st.links_in i h).number) low)

  mutual
    pub apply-raised : (t : Tree ℕ) → apply (bound s) (raise s.next t) ≡ raise s.next t
    apply-raised (var n) = unbound (n + s.next) (omega arith)
    apply-raised (int z) = apply-int (bound s) z
    apply-raised (atom a) = apply-atom (bound s) a
    apply-raised (comp f ts) = apply-comp (bound s) f (raise_all s.next ts) ∙ ap (comp f) (apply_all-raised ts)

    apply_all-raised : (ts : Trees ℕ) → apply_all (bound s) (raise_all s.next ts) ≡ raise_all s.next ts
    apply_all-raised nil = apply_all-none (bound s)
    apply_all-raised (cons t ts) =
        apply_all-tree (bound s) (raise s.next t) (raise_all s.next ts)
        ∙ (ap (λ u. cons u (apply_all (bound s) (raise_all s.next ts))) (apply-raised t) ∙ ap (cons (raise s.next t)) (apply_all-raised ts))
