-- What `next_place` passes over, and the clauses of a procedure of a linked program.
use Rattle.std.proofs.Common.{◌≡◌, ℕ, zero, suc, ◌+◌, ◌-◌, ◌<◌, Bool, true, false, cond, ◌&&◌, ◌||◌, not, List, [], ◌∷◌, ◌++◌, map, filter, length, take, drop, get_or, nat_eq, nat_lt, Option, None, Some, position, find, refl, sym, ap, subst, ◌∙◌, arith}
use Rattle.std.specs.List.{position_or_len}
use Rattle.std.specs.Option.{option_map}
use Rattle.std.proofs.lemmas.Option.{same_Some}
use Rattle.std.proofs.Math.Seq.{drop-cons}
use Rattle.std.proofs.lemmas.Bool.{false≢true, eqb-true}
use Rattle.std.proofs.lemmas.Bool.Decides.{nat_tests}
use Rattle.std.proofs.lemmas.List.{take-append-drop, drop-drop, get_or-drop, get_or-take, map-append, length-take, length-drop}
use Rattle.std.proofs.lemmas.List.Elements.{filter-append}
use Rattle.unit_model.specs.Facts.{Indicator}
use Rattle.goal_model.specs.Choices.{Key, fits}
use Rattle.pl_store.specs.Linked.{Linked, StoredClause, no_clause, Row, no_procedure, procedure_at, may_match, is_procedure, same_indicator, is_row, visible_in}
use Rattle.pl_store.specs.Places.{next_place}
use Rattle.pl_store.specs.Facts.{IsLinked, no_row}
use Rattle.pl_store.specs.Runs.{number_of, clauses_from, modes_from}
use Rattle.pl_store.specs.Walks.{clauses_of, clauses_from_place, any_fits, clause_of, StopsAt, Stops, WalksClauses, ProceduresFound, VisibleThere}
use Rattle.pl_store.proofs.PlaceLaws.{next_place-none, next_place-some, Next}
use Rattle.pl_store.proofs.FactLaws.{same-is}

both : (a b : Bool) → a && b ≡ true → (a ≡ true) × (b ≡ true)
both true b h = (refl, h)
both false b h = absurd (false≢true h)

one-more : (i : ℕ) → suc i ≡ i + 1
one-more i = omega arith

-- ---- what is passed over

module _ (p : ℕ) (key : Key ℕ) where
  none-fits : (xs : List StoredClause) → ((m : ℕ) → m < length xs → may_match p key (get_or xs m no_clause) ≡ true → ⊥) → any_fits key (clauses_of p xs) ≡ false
  none-fits [] h = refl
  none-fits (x ∷ xs) h = go (nat_eq p x.procedure) (fits nat_eq key x.clause.head) refl (h 0 (omega arith)) (none-fits xs (λ m lt. h (suc m) (omega (arith, lt))))
    where
      go : (a b : Bool) → fits nat_eq key x.clause.head ≡ b → (a && b ≡ true → ⊥) → any_fits key (clauses_of p xs) ≡ false
          → any_fits key (map (λ c. c.clause) (cond a (x ∷ filter (λ c. nat_eq p c.procedure) xs) (filter (λ c. nat_eq p c.procedure) xs))) ≡ false
      go true true e never rest = absurd (never refl)
      go true false e never rest = ap (λ c. c || any_fits key (clauses_of p xs)) e ∙ rest
      go false b e never rest = rest

  clauses-append : (xs ys : List StoredClause) → clauses_of p (xs ++ ys) ≡ clauses_of p xs ++ clauses_of p ys
  clauses-append xs ys =
      ap (map (λ c. c.clause)) (filter-append (λ c. nat_eq p c.procedure) xs ys)
      ∙ map-append (λ c. c.clause) (filter (λ c. nat_eq p c.procedure) xs) (filter (λ c. nat_eq p c.procedure) ys)

  clauses-first : (x : StoredClause) (xs : List StoredClause) → nat_eq p x.procedure ≡ true → clauses_of p (x ∷ xs) ≡ x.clause ∷ clauses_of p xs
  clauses-first x xs e = ap (λ b. map (λ c. c.clause) (cond b (x ∷ filter (λ c. nat_eq p c.procedure) xs) (filter (λ c. nat_eq p c.procedure) xs))) e

  module _ (cs : List StoredClause) (k : ℕ) where
    none-left : next_place (may_match p key) k cs ≡ None → any_fits key (clauses_from_place cs p k) ≡ false
    none-left e = none-fits (drop k cs) (λ m lt t.
        next_place-none (may_match p key) k cs e (k + m) no_clause (omega arith) (omega (arith, lt, length-drop k cs)) (ap (may_match p key) (sym (get_or-drop k cs m no_clause)) ∙ t))

    module _ (i : ℕ) (next : Next (may_match p key) k cs i) where
      reached : k + (i - k) ≡ i
      reached = omega (arith, next.from)

      rest : drop k cs ≡ take (i - k) (drop k cs) ++ get_or cs i no_clause ∷ drop (i + 1) cs
      rest =
          sym (take-append-drop (i - k) (drop k cs))
          ∙ ap (λ ds. take (i - k) (drop k cs) ++ ds) (drop-drop (i - k) k cs ∙ ap (λ n. drop n cs) reached ∙ drop-cons cs i no_clause next.within ∙ ap (λ n. get_or cs i no_clause ∷ drop n cs) (one-more i))

      passes : (m : ℕ) → m < length (take (i - k) (drop k cs)) → may_match p key (get_or (take (i - k) (drop k cs)) m no_clause) ≡ true → ⊥
      passes m lt t =
          let few = length-take (i - k) (drop k cs) in
          let short : m < i - k = omega (arith, few, lt) in
          next.before (k + m) no_clause (omega arith) (omega (arith, short, next.from))
          (ap (may_match p key) (sym (get_or-take (i - k) (drop k cs) m no_clause short ∙ get_or-drop k cs m no_clause)) ∙ t)

      stops-at : StopsAt cs p key k i
      stops-at =
          let found = both (nat_eq p (get_or cs i no_clause).procedure) (fits nat_eq key (clause_of cs i).head) (next.holds no_clause) in
          record {
            skipped = clauses_of p (take (i - k) (drop k cs));
            from = next.from;
            within = next.within;
            split = ap (clauses_of p) rest ∙ clauses-append (take (i - k) (drop k cs)) (get_or cs i no_clause ∷ drop (i + 1) cs)
                ∙ ap (λ l. clauses_of p (take (i - k) (drop k cs)) ++ l) (clauses-first (get_or cs i no_clause) (drop (i + 1) cs) found.0);
            unfit = none-fits (take (i - k) (drop k cs)) passes;
            fit = found.1;
          }

    stops : (o : Option ℕ) → next_place (may_match p key) k cs ≡ o → Stops cs p key k o
    stops None e = none-left e
    stops (Some i) e = stops-at i (next_place-some (may_match p key) k cs i e)

pub walks : WalksClauses
walks cs p key k = stops p key cs k (next_place (may_match p key) k cs) refl

-- ---- a procedure by its module and indicator

place-len : {X : Type 0} (t : X → Bool) (d : X) (xs : List X) (k : ℕ) → k < length xs → t (get_or xs k d) ≡ true → ((m : ℕ) → m < k → t (get_or xs m d) ≡ true → ⊥) → position_or_len t xs ≡ k
place-len t d [] k lt h none = absurd (omega arith)
place-len t d (x ∷ xs) zero lt h none = ap (λ b. cond (not b) (1 + position_or_len t xs) 0) h
place-len t d (x ∷ xs) (suc k) lt h none = go (t x) refl (place-len t d xs k (omega (arith, lt)) h (λ m less e. none (suc m) (omega (arith, less)) e))
  where
    go : (b : Bool) → t x ≡ b → position_or_len t xs ≡ k → cond (not b) (1 + position_or_len t xs) 0 ≡ suc k
    go true e r = absurd (none 0 (omega arith) e)
    go false e r = omega (arith, r)

lt_yes : (a b : ℕ) → a < b → nat_lt a b ≡ true
lt_yes a b h = grind (arith, nat_tests)

position-is : {X : Type 0} (t : X → Bool) (d : X) (xs : List X) (k : ℕ) → k < length xs → t (get_or xs k d) ≡ true → ((m : ℕ) → m < k → t (get_or xs m d) ≡ true → ⊥) → position t xs ≡ Some k
position-is t d xs k lt h none =
    ap (λ n. cond (nat_lt n (length xs)) (Some n) None) (place-len t d xs k lt h none)
    ∙ ap (λ b. cond b (Some k) None) (lt_yes k (length xs) lt)

indicators : (i j : Indicator ℕ) → i.name ≡ j.name → i.arity ≡ j.arity → i ≡ j
indicators i j e f = ap (λ n. let r : Indicator ℕ = record { name = n; arity = i.arity } in r) e ∙ ap (λ k. let r : Indicator ℕ = record { name = j.name; arity = k } in r) f

same-indicators : (i j : Indicator ℕ) → same_indicator i j ≡ true → i ≡ j
same-indicators i j t = let parts = both (nat_eq i.name j.name) (nat_eq i.arity j.arity) t in indicators i j (eqb-true i.name j.name parts.0) (eqb-true i.arity j.arity parts.1)

pub number-is : (l : Linked) (p : ℕ) → IsLinked l → p < length l.procedures → number_of l (procedure_at l p).home (procedure_at l p).indicator ≡ Some p
number-is l p h lt =
    let q = procedure_at l p in
    position-is (is_procedure q.home q.indicator) no_procedure l.procedures p lt (same-is q.home q.indicator q refl refl) (λ m less t.
    let parts = both (nat_eq q.home (procedure_at l m).home) (same_indicator q.indicator (procedure_at l m).indicator) t in
    let alike = same-indicators q.indicator (procedure_at l m).indicator parts.1 in
    let same : m ≡ p = h.apart m p (omega (arith, less, lt)) lt (sym (eqb-true q.home (procedure_at l m).home parts.0), sym alike) in
    omega (arith, same, less))

pub procedures-found : ProceduresFound
procedures-found l p h lt = record {
  clauses = ap (clauses_from l) (number-is l p h lt);
  modes = ap (modes_from l) (number-is l p h lt);
}

-- ---- rows

record Stands (rows : List Row) (m : ℕ) (i : Indicator ℕ) (p : ℕ) : Type 0 where
  place : ℕ
  within : place < length rows
  leads : (get_or rows place no_row).procedure ≡ p
  test : is_row m i (get_or rows place no_row) ≡ true

row-stands : (rows : List Row) (m : ℕ) (i : Indicator ℕ) (p : ℕ) → visible_in rows m i ≡ Some p → Stands rows m i p
row-stands [] m i p e = absurd (cc)
row-stands (r ∷ rs) m i p e = go (is_row m i r) refl e (row-stands rs m i p)
  where
    go : (b : Bool) → is_row m i r ≡ b → option_map (λ (x : Row). x.procedure) (cond b (Some r) (find (is_row m i) rs)) ≡ Some p
        → (visible_in rs m i ≡ Some p → Stands rs m i p) → Stands (r ∷ rs) m i p
    go true t e rest = record { place = 0; within = omega arith; leads = same_Some r.procedure p e; test = t }
    go false t e rest = let s = rest e in record { place = suc s.place; within = omega (arith, s.within); leads = s.leads; test = s.test }

pub visible-there : VisibleThere
visible-there l m i p h e =
    let s = row-stands l.rows m i p e in
    let r = get_or l.rows s.place no_row in
    let v = h.rows s.place s.within in
    let parts = both (nat_eq m r.lookup) (same_indicator i r.indicator) s.test in
    (subst (λ q. q < length l.procedures) s.leads v.procedure, ap (λ q. (procedure_at l q).indicator) (sym s.leads) ∙ (v.indicator ∙ sym (same-indicators i r.indicator parts.1)))
