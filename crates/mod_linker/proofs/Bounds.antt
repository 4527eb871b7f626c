-- The names that a linked program brings are in its table.
use Rattle.std.proofs.Common.{◌≡◌, ℕ, zero, suc, ◌<◌, List, [], ◌∷◌, length, map, filter, get_or, Bool, true, false, cond, nat_eq, eqb-true, inl, inr, refl, subst, arith, Option, Some, None}
use Rattle.std.specs.List.{All, list_any}
use Rattle.std.specs.Option.{option_map}
use Rattle.std.proofs.lemmas.Bool.{false≢true, or_cases}
use Rattle.std.proofs.lemmas.Option.{same_Some}
use Rattle.pl_terms.specs.NameBounds.{NamesBelow}
use Rattle.unit_model.specs.Facts.{Indicator}
use Rattle.goal_model.specs.Program.{Clause}
use Rattle.naming_laws.specs.SameRun.{IsNamedBelow}
use Rattle.pl_store.specs.Linked.{Linked, StoredClause, is_system, is_module, procedure_at, no_clause, visible_in}
use Rattle.pl_store.specs.Rules.{IsExisting}
use Rattle.pl_store.specs.Facts.{IsLinked}
use Rattle.pl_store.specs.Runs.{number_of, clauses_from, program_of}
use Rattle.pl_store.proofs.WalkLaws.{visible-there}

system-below : (names : List (List ℕ)) (m : ℕ) → is_system names m ≡ true → m < length names
system-below [] m h = absurd (false≢true h)
system-below (x ∷ xs) zero h = omega arith
system-below (x ∷ xs) (suc m) h = omega (arith, system-below xs m h)

pub module-below : (n : ℕ) (ms : List ℕ) → ((k : ℕ) → k < length ms → get_or ms k 0 < n) → (m : ℕ) → list_any (nat_eq m) ms ≡ true → m < n
module-below n [] h m e = absurd cc
module-below n (x ∷ ms) h m e = elim (or_cases (nat_eq m x) (list_any (nat_eq m) ms) e) [
  | inl a ↦ let first : x < n = h 0 (omega arith) in let same = eqb-true m x a in omega (arith, first, same)
  | inr b ↦ module-below n ms (λ k lt. h (suc k) (omega arith)) m b
]

pub existing-below : (l : Linked) → IsLinked l → (m : ℕ) → IsExisting l m → m < length l.names
existing-below l h m e = elim (or_cases (is_system l.names m) (is_module l m) e) [
  | inl a ↦ system-below l.names m a
  | inr b ↦ module-below (length l.names) l.modules h.modules m b
]

abbrev pub BelowNames : ℕ → Clause ℕ → Type 0
BelowNames n c = NamesBelow n c.head × NamesBelow n c.body

each-below : (n q : ℕ) (cs : List StoredClause) → ((k : ℕ) → k < length cs → BelowNames n (get_or cs k no_clause).clause) → (k : ℕ) (d : Clause ℕ) → k < length (map (λ c. c.clause) (filter (λ c. nat_eq q c.procedure) cs))
    → BelowNames n (get_or (map (λ c. c.clause) (filter (λ c. nat_eq q c.procedure) cs)) k d)
each-below n q [] h k d lt = absurd (omega arith)
each-below n q (c ∷ cs) h k d lt = go (nat_eq q c.procedure) (h 0 (omega arith)) (each-below n q cs (λ j less. h (suc j) (omega arith))) k d lt
  where
    go : (b : Bool) → BelowNames n c.clause → ((k : ℕ) (d : Clause ℕ) → k < length (map (λ e. e.clause) (filter (λ e. nat_eq q e.procedure) cs)) → BelowNames n (get_or (map (λ e. e.clause) (filter (λ e. nat_eq q e.procedure) cs)) k d))
        → (k : ℕ) (d : Clause ℕ) → k < length (map (λ e. e.clause) (cond b (c ∷ filter (λ e. nat_eq q e.procedure) cs) (filter (λ e. nat_eq q e.procedure) cs)))
        → BelowNames n (get_or (map (λ e. e.clause) (cond b (c ∷ filter (λ e. nat_eq q e.procedure) cs) (filter (λ e. nat_eq q e.procedure) cs))) k d)
    go true first rest zero d lt = first
    go true first rest (suc k) d lt = rest k d (omega arith)
    go false first rest k d lt = rest k d lt

module _ (l : Linked) (linked : IsLinked l) where
  definer-below : (m : ℕ) (i : Indicator ℕ) (d : ℕ) (o : Option ℕ) → visible_in l.rows m i ≡ o → option_map (λ p. (procedure_at l p).home) o ≡ Some d → d < length l.names
  definer-below m i d None e f = absurd cc
  definer-below m i d (Some p) e f =
      let there = visible-there l m i p linked e in
      subst (λ k. k < length l.names) (same_Some (procedure_at l p).home d f) (existing-below l linked (procedure_at l p).home (linked.procedures p there.0).home)

  clauses-below : (o : Option ℕ) → All (BelowNames (length l.names)) (clauses_from l o)
  clauses-below None = λ k d lt. absurd (omega arith)
  clauses-below (Some p) = λ k d lt. each-below (length l.names) p l.clauses (λ j less. ((linked.clauses j less).clause.head_names, (linked.clauses j less).clause.body_names)) k d lt

  pub named-below : IsNamedBelow (length l.names) (program_of l)
  named-below = record {
    definers = λ m i d hm hi e. definer-below m i d (visible_in l.rows m i) refl e;
    clauses = λ d i hd hi. clauses-below (number_of l d i);
  }
