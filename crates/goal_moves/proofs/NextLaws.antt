-- Which clauses are tried after a clause.
use Rattle.std.proofs.Common.{◌≡◌, ℕ, suc, ◌+◌, ◌<◌, Bool, true, false, ◌&&◌, List, [], ◌∷◌, ◌++◌, Some, None, refl, sym, ap, ◌∙◌, subst, arith, length, get_or, nat_eq, cond, find}
use Rattle.std.specs.Prelude.{nat_le}
use Rattle.std.proofs.lemmas.Bool.{eqb-true}
use Rattle.pl_unify.specs.State.{tree_at}
use Rattle.goal_model.specs.Choices.{Key, key_of, fits}
use Rattle.pl_store.specs.Linked.{StoredClause, no_clause, clause_at, may_match}
use Rattle.pl_store.specs.Places.{places_from, next_place}
use Rattle.pl_store.specs.Walks.{clauses_from_place, any_fits, Stops, StopsAt}
use Rattle.pl_store.proofs.WalkLaws.{walks}
use Rattle.goal_state.specs.declared.compiled.CompiledProgram.{CompiledProgram}
use Rattle.goal_state.specs.declared.path.Path.{Path}
use Rattle.goal_state.specs.Denotation.{linked, clauses_on, state_of}
use Rattle.goal_moves.specs.declared.procedures.Attempt.{Attempt}
use Rattle.goal_state.proofs.OpenRecords.{from_here}
use Rattle.goal_moves.specs.Clauses.{clauses_after, NothingFits, FitsNext}

-- what holds of each place at which a test holds does so of the one that is found
found : {X : Type 0} (t : ℕ → Bool) (test : X → Bool) (d : X) (xs : List X) (o i : ℕ) (P : ℕ → Type 0) → find t (places_from test o xs) ≡ Some i
    → ((j : ℕ) → j < length xs → test (get_or xs j d) ≡ true → P (o + j)) → P i
found t test d [] o i P is h = cc
found {X = X} t test d (x ∷ xs) o i P is h = go (test x) refl is (found t test d xs (o + 1) i P)
  where
    later : (j : ℕ) → j < length xs → test (get_or xs j d) ≡ true → P ((o + 1) + j)
    later j lt e = subst P (let s : o + suc j ≡ (o + 1) + j = omega arith in s) (h (suc j) (omega (arith, lt)) e)

    hit : (b c : Bool) → test x ≡ true → cond b (Some o) (find t (places_from test (o + 1) xs)) ≡ Some i
        → (find t (places_from test (o + 1) xs) ≡ Some i → ((j : ℕ) → j < length xs → test (get_or xs j d) ≡ true → P ((o + 1) + j)) → P i) → P i
    hit true c e k ih = subst P (let s : o ≡ i = cc in (let z : o + 0 ≡ o = omega arith in z) ∙ s) (h 0 (omega arith) e)
    hit false c e k ih = ih k later

    go : (b : Bool) → test x ≡ b → find t (cond b (o ∷ places_from test (o + 1) xs) (places_from test (o + 1) xs)) ≡ Some i
        → (find t (places_from test (o + 1) xs) ≡ Some i → ((j : ℕ) → j < length xs → test (get_or xs j d) ≡ true → P ((o + 1) + j)) → P i) → P i
    go true e k ih = hit (t o) true e k ih
    go false e k ih = ih k later

both : (a b : Bool) → a && b ≡ true → a ≡ true
both true b h = refl
both false b h = h

pub procedure_of : (cs : List StoredClause) (p : ℕ) (key : Key ℕ) (k n : ℕ) → next_place (may_match p key) k cs ≡ Some n → (get_or cs n no_clause).procedure ≡ p
procedure_of cs p key k n is =
    found (nat_le k) (may_match p key) no_clause cs 0 n (λ j. (get_or cs j no_clause).procedure ≡ p) is
    (λ j lt e. subst (λ i. (get_or cs i no_clause).procedure ≡ p) (let s : j ≡ 0 + j = omega arith in s) (sym (eqb-true p (get_or cs j no_clause).procedure (both (nat_eq p (get_or cs j no_clause).procedure) (fits nat_eq key (get_or cs j no_clause).clause.head) e))))

pub clauses_first : (b : CompiledProgram) (c : ℕ) → c < length (linked b).clauses → clauses_on (linked b) c ≡ (clause_at (linked b) c).clause ∷ clauses_after b c
clauses_first b c lt = from_here (linked b).clauses (clause_at (linked b) c).procedure c lt refl

-- ---- what a look-up of the next clause says

pub stops_none : (cs : List StoredClause) (p : ℕ) (key : Key ℕ) (k : ℕ) → None ≡ next_place (may_match p key) k cs → any_fits key (clauses_from_place cs p k) ≡ false
stops_none cs p key k is = subst (Stops cs p key k) (sym is) (walks cs p key k)

pub stops_some : (cs : List StoredClause) (p : ℕ) (key : Key ℕ) (k n : ℕ) → Some n ≡ next_place (may_match p key) k cs → StopsAt cs p key k n
stops_some cs p key k n is = subst (Stops cs p key k) (sym is) (walks cs p key k)

pub nothing_fits : (b : CompiledProgram) (p : Path) (a : Attempt) (c : ℕ) (key : Key ℕ) → key ≡ key_of (tree_at (state_of p) a.goal)
    → None ≡ next_place (may_match (clause_at (linked b) c).procedure key) (c + 1) (linked b).clauses → NothingFits b p a c
nothing_fits b p a c key same is = subst (λ k. any_fits k (clauses_after b c) ≡ false) same (stops_none (linked b).clauses (clause_at (linked b) c).procedure key (c + 1) is)

pub fits_next : (b : CompiledProgram) (p : Path) (a : Attempt) (c n : ℕ) (key : Key ℕ) → key ≡ key_of (tree_at (state_of p) a.goal)
    → Some n ≡ next_place (may_match (clause_at (linked b) c).procedure key) (c + 1) (linked b).clauses → FitsNext b p a c n
fits_next b p a c n key same is =
    let cs : List StoredClause = (linked b).clauses in
    let q : ℕ = (clause_at (linked b) c).procedure in
    let stop = stops_some (linked b).clauses (clause_at (linked b) c).procedure key (c + 1) n is in
    let proc = procedure_of (linked b).clauses (clause_at (linked b) c).procedure key (c + 1) n (sym is) in
    record {
      later = let from = stop.from in omega (arith, from);
      within = stop.within;
      same = proc;
      skipped = stop.skipped;
      split = stop.split ∙ ap (λ l. stop.skipped ++ l)
          (sym (from_here (linked b).clauses (clause_at (linked b) c).procedure n stop.within proc)
          ∙ ap (λ r. clauses_from_place (linked b).clauses r n) (sym proc));
      unfit = subst (λ k. any_fits k stop.skipped ≡ false) same stop.unfit;
      fit = subst (λ k. fits nat_eq k (clause_at (linked b) n).clause.head ≡ true) same stop.fit;
    }
