-- Terms whose variables are 0, 1, 2 and so on.
use Rattle.std.proofs.Common.{◌≡◌, ℕ, zero, suc, ◌+◌, List, [], ◌∷◌, ◌++◌, Bool, true, false, refl, sym, ap, ◌∙◌, arith, subst, ◌⊎◌, inl, inr, nat_eq, length}
use Rattle.std.proofs.lemmas.Bool.{eq-eqb, eqb-true, or_cases, or_left, or_right}
use Rattle.pl_terms.specs.Trees.{Tree, var, int, atom, comp, Trees, nil, cons}
use Rattle.pl_terms.specs.Cells.{cells}
use Rattle.pl_terms.specs.Occurrence.{occurrences, all_occurrences, is_in, unless_seen, first_after, variables, from_to, place_of, numbered_by, all_numbered_by, canon}
use Rattle.unifier_model.specs.Substitution.{raise}
use Rattle.pl_unify.specs.Load.{NewInOrder, next_after}
use Rattle.pl_builtin_terms.proofs.Copies.{order-canon, next-canon}

is_in-left : (n : ℕ) (ms ns : List ℕ) → is_in n ms ≡ true → is_in n (ms ++ ns) ≡ true
is_in-left n [] ns h = absurd (cc)
is_in-left n (m ∷ ms) ns h = elim (or_cases (nat_eq n m) (is_in n ms) h) [
  | inl e ↦ or_left _ _ e
  | inr e ↦ or_right (nat_eq n m) _ (is_in-left n ms ns e)
]

is_in-right : (n : ℕ) (ms ns : List ℕ) → is_in n ns ≡ true → is_in n (ms ++ ns) ≡ true
is_in-right n [] ns h = h
is_in-right n (m ∷ ms) ns h = or_right (nat_eq n m) _ (is_in-right n ms ns h)

module _ (f : ℕ → ℕ) where
  mutual
    numbered_by-same : (t : Tree ℕ) → ((m : ℕ) → is_in m (occurrences t) ≡ true → f m ≡ m) → numbered_by f t ≡ t
    numbered_by-same (var n) h = ap var (h n (or_left _ _ (eq-eqb n n refl)))
    numbered_by-same (int z) h = refl
    numbered_by-same (atom s) h = refl
    numbered_by-same (comp s ts) h = ap (comp s) (all_numbered_by-same ts h)

    all_numbered_by-same : (ts : Trees ℕ) → ((m : ℕ) → is_in m (all_occurrences ts) ≡ true → f m ≡ m) → all_numbered_by f ts ≡ ts
    all_numbered_by-same nil h = refl
    all_numbered_by-same (cons t ts) h =
        ap (λ u. cons u (all_numbered_by f ts)) (numbered_by-same t (λ m k. h m (is_in-left m (occurrences t) _ k)))
        ∙ ap (cons t) (all_numbered_by-same ts (λ m k. h m (is_in-right m (occurrences t) _ k)))

-- no number is raised
pub raise-none : (t : Tree ℕ) → raise 0 t ≡ t
raise-none t = numbered_by-same (λ n. n + 0) t (λ m k. omega arith)

-- what is in the list is kept, unless it was seen
kept_step : (m n : ℕ) (b : Bool) (rest : List ℕ) → (is_in m rest ≡ true) ⊎ ((nat_eq m n ≡ true) × (b ≡ false)) → is_in m (unless_seen b n rest) ≡ true
kept_step m n true rest (inl h) = h
kept_step m n true rest (inr h) = absurd (cc)
kept_step m n false rest (inl h) = or_right (nat_eq m n) _ h
kept_step m n false rest (inr h) = or_left _ _ h.0

bool_cases : (b : Bool) → (b ≡ true) ⊎ (b ≡ false)
bool_cases true = inl refl
bool_cases false = inr refl

first_after-keeps : (seen ns : List ℕ) (m : ℕ) → is_in m ns ≡ true → (is_in m seen ≡ true) ⊎ (is_in m (first_after seen ns) ≡ true)
first_after-keeps seen [] m h = absurd (cc)
first_after-keeps seen (n ∷ ns) m h = elim (bool_cases (is_in m seen)) [
  | inl was ↦ inl was
  | inr new ↦ inr (kept_step m n (is_in n seen) (first_after (n ∷ seen) ns) (elim (bool_cases (nat_eq m n)) [
    | inl e ↦ inr (e, ap (λ x. is_in x seen) (sym (eqb-true m n e)) ∙ new)
    | inr e ↦ inl (elim (or_cases (nat_eq m n) (is_in m ns) h) [
      | inl e2 ↦ cc
      | inr later ↦ elim (first_after-keeps (n ∷ seen) ns m later) [
        | inl among ↦ elim (or_cases (nat_eq m n) (is_in m seen) among) [ inl e2 ↦ cc | inr e2 ↦ cc ]
        | inr k ↦ k
      ]
    ])
  ]))
]

place_of-from_to : (k n m : ℕ) → is_in m (from_to k n) ≡ true → k + place_of m (from_to k n) ≡ m
place_of-from_to k zero m h = absurd (cc)
place_of-from_to k (suc n) m h = elim (bool_cases (nat_eq m k)) [
  | inl e ↦ rw e (omega (arith, eqb-true m k e))
  | inr e ↦
      let later : is_in m (from_to (suc k) n) ≡ true = elim (or_cases (nat_eq m k) (is_in m (from_to (suc k) n)) h) [ inl e2 ↦ cc | inr l ↦ l ] in
      rw e (omega (arith, place_of-from_to (suc k) n m later))
]

occurs : (ns : List ℕ) (m : ℕ) → is_in m ns ≡ true → is_in m (first_after [] ns) ≡ true
occurs ns m h = elim (first_after-keeps [] ns m h) [ inl e ↦ cc | inr k ↦ k ]

place_in : (vs : List ℕ) (n m : ℕ) → vs ≡ from_to 0 n → is_in m vs ≡ true → place_of m vs ≡ m
place_in vs n m e h = ap (place_of m) e ∙ omega (arith, place_of-from_to 0 n m (subst (λ l. is_in m l ≡ true) e h))

module _ (t : Tree ℕ) (numbered : variables t ≡ from_to 0 (length (variables t))) where
  canon-same : canon t ≡ t
  canon-same = numbered_by-same (λ n. place_of n (variables t)) t (λ m k. place_in (variables t) _ m numbered (occurs (occurrences t) m k))

  -- it may be put into a store without variables, where its variables keep their numbers
  pub order-numbered : NewInOrder 0 0 (cells t)
  order-numbered = subst (λ u. NewInOrder 0 0 (cells u)) canon-same (order-canon 0 t)

  pub next-numbered : next_after 0 0 (cells t) ≡ length (variables t)
  next-numbered = ap (λ u. next_after 0 0 (cells u)) (sym canon-same) ∙ next-canon 0 t ∙ omega arith
