-- A program that gets the procedures and clauses of entries, one after another.
use Rattle.std.proofs.Common.{◌≡◌, ℕ, suc, ◌<◌, List, [], ◌∷◌, ◌++◌, length, length-append, map, filter, get_or, Bool, true, false, ◌&&◌, cond, nat_eq, ltb, ltb-true, ltb-false, eqb, eqb-true, eq-eqb, refl, sym, ap, subst, ◌∙◌, arith, Option, Some, None}
use Rattle.std.specs.List.{cons_option}
use Rattle.std.specs.Option.{option_or}
use Rattle.std.proofs.lemmas.Bool.{and_parts, and_from}
use Rattle.std.proofs.lemmas.List.{append-nil}
use Rattle.std.proofs.lemmas.List.Quantifiers.{position-Some}
use Rattle.unit_model.specs.Facts.{Indicator, clause}
use Rattle.goal_model.specs.Program.{Clause}
use Rattle.pl_store.specs.Linked.{Linked, Procedure, StoredClause, is_procedure, procedure_at, no_procedure, no_clause, with_procedure, with_clause}
use Rattle.pl_store.specs.Runs.{number_of, clauses_from}
use Rattle.pl_store.specs.Facts.{IsLinked}
use Rattle.pl_store.proofs.WalkLaws.{number-is}
use Rattle.program_model.specs.Saying.{Said, said_of, head_indicator, is_its, clause_in, clauses_said, modes_said}
use Rattle.mod_linker.specs.Entering.{Enters}
use Rattle.mod_linker.proofs.Positions.{position-push, get_or-left, get_or-last}
use Rattle.mod_linker.proofs.Saying.{clauses-push}

-- ---- procedures by their home and indicator

made : ℕ → ℕ → Indicator ℕ
made n a = record { name = n; arity = a }

pub its : (d : ℕ) (i : Indicator ℕ) (p : Procedure) → is_procedure d i p ≡ true → (d ≡ p.home) × (i ≡ p.indicator)
unfolding made
its d i p h =
    let x = and_parts (eqb d p.home) (eqb i.name p.indicator.name && eqb i.arity p.indicator.arity) h in
    let y = and_parts (eqb i.name p.indicator.name) (eqb i.arity p.indicator.arity) x.1 in
    (eqb-true d p.home x.0, ap (λ n. made n i.arity) (eqb-true i.name p.indicator.name y.0) ∙ ap (made p.indicator.name) (eqb-true i.arity p.indicator.arity y.1))

pub itself : (p : Procedure) → is_procedure p.home p.indicator p ≡ true
itself p = and_from (eqb p.home p.home) (eqb p.indicator.name p.indicator.name && eqb p.indicator.arity p.indicator.arity) (eq-eqb p.home p.home refl)
    (and_from (eqb p.indicator.name p.indicator.name) (eqb p.indicator.arity p.indicator.arity) (eq-eqb p.indicator.name p.indicator.name refl) (eq-eqb p.indicator.arity p.indicator.arity refl))

pub found-is : (l : Linked) (d : ℕ) (i : Indicator ℕ) (p : ℕ) → number_of l d i ≡ Some p → (p < length l.procedures) × (is_procedure d i (procedure_at l p) ≡ true)
found-is l d i p e = let h = position-Some (is_procedure d i) l.procedures p no_procedure e in (h.0, h.1)

-- ---- a new procedure

if_new : (b : Bool) (o : Option ℕ) (n : ℕ) → (b ≡ true → o ≡ None) → option_or o (cond b (Some n) None) ≡ cond b (Some n) o
if_new true o n h = ap (λ x. option_or x (Some n)) (h refl)
if_new false None n h = refl
if_new false (Some k) n h = refl

none_of : (cs : List StoredClause) (n : ℕ) → ((c : ℕ) → c < length cs → (get_or cs c no_clause).procedure < n) → filter (λ c. nat_eq n c.procedure) cs ≡ []
none_of [] n h = refl
none_of (c ∷ cs) n h = go (nat_eq n c.procedure) refl (none_of cs n (λ k lt. h (suc k) (omega arith)))
  where
    go : (b : Bool) → nat_eq n c.procedure ≡ b → filter (λ x. nat_eq n x.procedure) cs ≡ [] → cond b (c ∷ filter (λ x. nat_eq n x.procedure) cs) (filter (λ x. nat_eq n x.procedure) cs) ≡ []
    go true e r = let first = h 0 (omega arith) in let same = eqb-true n c.procedure e in absurd (omega arith)
    go false e r = r

module _ (l : Linked) (linked : IsLinked l) (p : Procedure) (new : number_of l p.home p.indicator ≡ None) where
  pub number-new : (d : ℕ) (i : Indicator ℕ) → number_of (with_procedure l p) d i ≡ cond (is_procedure d i p) (Some (length l.procedures)) (number_of l d i)
  number-new d i =
      position-push (is_procedure d i) l.procedures p
      ∙ if_new (is_procedure d i p) (number_of l d i) (length l.procedures) (λ e. let same = its d i p e in ap (λ x. number_of l x i) same.0 ∙ ap (number_of l p.home) same.1 ∙ new)

  no_clauses : clauses_from (with_procedure l p) (Some (length l.procedures)) ≡ []
  no_clauses = ap (map (λ (c : StoredClause). c.clause)) (none_of l.clauses (length l.procedures) (λ c lt. (linked.clauses c lt).procedure))

  module _ (all done : List (Said ℕ)) (modes : p.modes ≡ modes_said nat_eq all p.home p.indicator) (h : Enters all done l) where
    kept : (d : ℕ) (i : Indicator ℕ) (b : Bool) → is_procedure d i p ≡ b → clauses_from (with_procedure l p) (cond b (Some (length l.procedures)) (number_of l d i)) ≡ clauses_said nat_eq done d i
    kept d i true e =
        let same = its d i p e in
        let none : number_of l d i ≡ None = ap (λ x. number_of l x i) same.0 ∙ ap (number_of l p.home) same.1 ∙ new in
        no_clauses ∙ sym (ap (clauses_from l) none) ∙ h.clauses d i
    kept d i false e = by (number_of l d i) refl
      where
        by : (o : Option ℕ) → number_of l d i ≡ o → clauses_from (with_procedure l p) o ≡ clauses_said nat_eq done d i
        by None f = sym (ap (clauses_from l) f) ∙ h.clauses d i
        by (Some q) f = sym (ap (clauses_from l) f) ∙ h.clauses d i

    abbrev HasModes : Procedure → Type 0
    HasModes q = q.modes ≡ modes_said nat_eq all q.home q.indicator

    modes_at : (k : ℕ) → k < length (l.procedures ++ p ∷ []) → HasModes (get_or (l.procedures ++ p ∷ []) k no_procedure)
    modes_at k lt = go (ltb k (length l.procedures)) refl
      where
        go : (b : Bool) → ltb k (length l.procedures) ≡ b → (get_or (l.procedures ++ p ∷ []) k no_procedure).modes ≡ modes_said nat_eq all (get_or (l.procedures ++ p ∷ []) k no_procedure).home (get_or (l.procedures ++ p ∷ []) k no_procedure).indicator
        go true e = let lt' = ltb-true k (length l.procedures) e in subst (λ (q : Procedure). q.modes ≡ modes_said nat_eq all q.home q.indicator) (sym (get_or-left l.procedures (p ∷ []) k no_procedure lt')) (h.modes k lt')
        go false e =
            let ge = ltb-false k (length l.procedures) e in
            let last : k ≡ length l.procedures = omega (arith, length-append l.procedures (p ∷ [])) in
            subst (λ (q : Procedure). q.modes ≡ modes_said nat_eq all q.home q.indicator) (sym (ap (λ n. get_or (l.procedures ++ p ∷ []) n no_procedure) last ∙ get_or-last l.procedures p no_procedure)) modes

    pub enters-new : Enters all done (with_procedure l p)
    enters-new = record {
      clauses = λ d i. ap (clauses_from (with_procedure l p)) (number-new d i) ∙ kept d i (is_procedure d i p) refl;
      modes = modes_at;
    }

-- ---- one more clause

clauses-more : (cs : List StoredClause) (e : StoredClause) (q : ℕ) → map (λ c. c.clause) (filter (λ c. nat_eq q c.procedure) (cs ++ e ∷ [])) ≡ map (λ c. c.clause) (filter (λ c. nat_eq q c.procedure) cs) ++ cond (nat_eq q e.procedure) (e.clause ∷ []) []
clauses-more [] e q = go (nat_eq q e.procedure)
  where
    go : (b : Bool) → map (λ c. c.clause) (cond b (e ∷ []) []) ≡ cond b (e.clause ∷ []) []
    go true = refl
    go false = refl
clauses-more (c ∷ cs) e q = go (nat_eq q c.procedure) (clauses-more cs e q)
  where
    go : (b : Bool) → map (λ c. c.clause) (filter (λ c. nat_eq q c.procedure) (cs ++ e ∷ [])) ≡ map (λ c. c.clause) (filter (λ c. nat_eq q c.procedure) cs) ++ cond (nat_eq q e.procedure) (e.clause ∷ []) []
        → map (λ c. c.clause) (cond b (c ∷ filter (λ c. nat_eq q c.procedure) (cs ++ e ∷ [])) (filter (λ c. nat_eq q c.procedure) (cs ++ e ∷ [])))
        ≡ map (λ c. c.clause) (cond b (c ∷ filter (λ c. nat_eq q c.procedure) cs) (filter (λ c. nat_eq q c.procedure) cs)) ++ cond (nat_eq q e.procedure) (e.clause ∷ []) []
    go true ih = ap (λ (r : List (Clause ℕ)). c.clause ∷ r) ih
    go false ih = ih

opt-list : (b : Bool) (c : Clause ℕ) → cond b (c ∷ []) [] ≡ cons_option (cond b (Some c) None) []
opt-list true c = refl
opt-list false c = refl

module _ (l : Linked) (linked : IsLinked l) (p : ℕ) (within : p < length l.procedures) (c : Clause ℕ) (m : ℕ) (home : m ≡ (procedure_at l p).home) (head : head_indicator c.head ≡ Some (procedure_at l p).indicator) where
  number-here : number_of l (procedure_at l p).home (procedure_at l p).indicator ≡ Some p
  number-here = number-is l p linked within

  test_is : (d : ℕ) (i : Indicator ℕ) → (eqb d m && is_its nat_eq i (head_indicator c.head)) ≡ is_procedure d i (procedure_at l p)
  test_is d i = ap (λ x. eqb d x && is_its nat_eq i (head_indicator c.head)) home ∙ ap (λ o. eqb d (procedure_at l p).home && is_its nat_eq i o) head

  is_here : (d : ℕ) (i : Indicator ℕ) → is_procedure d i (procedure_at l p) ≡ true → number_of l d i ≡ Some p
  is_here d i e = let same = its d i (procedure_at l p) e in ap (λ x. number_of l x i) same.0 ∙ ap (number_of l (procedure_at l p).home) same.1 ∙ number-here

  none_here : (d : ℕ) (i : Indicator ℕ) → number_of l d i ≡ None → (b : Bool) → is_procedure d i (procedure_at l p) ≡ b → b ≡ false
  none_here d i e true f = absurd (let g = is_here d i f in cc)
  none_here d i e false f = refl

  some_here : (d : ℕ) (i : Indicator ℕ) (q : ℕ) → number_of l d i ≡ Some q → (a : Bool) → nat_eq q p ≡ a → (b : Bool) → is_procedure d i (procedure_at l p) ≡ b → a ≡ b
  some_here d i q e true f true g = refl
  some_here d i q e false f false g = refl
  some_here d i q e true f false g =
      absurd (let there = (found-is l d i q e).1 in let same : is_procedure d i (procedure_at l p) ≡ true = subst (λ k. is_procedure d i (procedure_at l k) ≡ true) (eqb-true q p f) there in cc)
  some_here d i q e false f true g =
      absurd (let h = is_here d i g in let same : q ≡ p = cc in let t : eqb q p ≡ true = eq-eqb q p same in cc)

  grown : Linked
  grown = with_clause l (record { procedure = p; clause = c })

  module _ (all done : List (Said ℕ)) (h : Enters all done l) where
    abbrev entry : Said ℕ
    entry = said_of m (clause c.width c.head c.body)

    more : (d : ℕ) (i : Indicator ℕ) (o : Option ℕ) → number_of l d i ≡ o → clauses_from (with_clause l (record { procedure = p; clause = c })) o ≡ clauses_said nat_eq (done ++ entry ∷ []) d i
    more d i None e =
        sym (ap (clauses_from l) e) ∙ h.clauses d i ∙ sym (append-nil (clauses_said nat_eq done d i))
        ∙ ap (λ b. clauses_said nat_eq done d i ++ cons_option (cond b (Some c) None) []) (sym (test_is d i ∙ none_here d i e (is_procedure d i (procedure_at l p)) refl))
        ∙ sym (clauses-push nat_eq d i done entry)
    more d i (Some q) e =
        clauses-more l.clauses (record { procedure = p; clause = c }) q
        ∙ ap (λ l. l ++ cond (nat_eq q p) (c ∷ []) []) (sym (ap (clauses_from l) e) ∙ h.clauses d i)
        ∙ ap (λ b. clauses_said nat_eq done d i ++ cond b (c ∷ []) []) (some_here d i q e (nat_eq q p) refl (is_procedure d i (procedure_at l p)) refl ∙ sym (test_is d i))
        ∙ ap (λ r. clauses_said nat_eq done d i ++ r) (opt-list (eqb d m && is_its nat_eq i (head_indicator c.head)) c)
        ∙ sym (clauses-push nat_eq d i done entry)

    pub enters-clause : Enters all (done ++ entry ∷ []) (with_clause l (record { procedure = p; clause = c }))
    enters-clause = record {
      clauses = λ d i. more d i (number_of l d i) refl;
      modes = h.modes;
    }

-- an entry that is no clause
pub enters-other : (l : Linked) (all done : List (Said ℕ)) (x : Said ℕ) → ((d : ℕ) (i : Indicator ℕ) → clause_in nat_eq d i x.of x.what ≡ None) → Enters all done l → Enters all (done ++ x ∷ []) l
enters-other l all done x none h = record {
  clauses = λ d i. h.clauses d i ∙ sym (append-nil (clauses_said nat_eq done d i)) ∙ ap (λ o. clauses_said nat_eq done d i ++ cons_option o []) (sym (none d i)) ∙ sym (clauses-push nat_eq d i done x);
  modes = h.modes;
}
