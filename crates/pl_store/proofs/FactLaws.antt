-- A linked program stays in order as it grows.
use Rattle.std.proofs.Common.{◌≡◌, ℕ, zero, suc, ◌+◌, ◌<◌, ◌≤◌, ◌⊎◌, inl, inr, Bool, true, false, cond, ◌&&◌, ◌||◌, List, [], ◌∷◌, ◌++◌, length, get_or, nat_eq, None, Some, find, refl, sym, ap, subst, ◌∙◌, arith, eq-eqb}
use Rattle.std.specs.List.{list_any, IsDistinct}
use Rattle.std.specs.Option.{option_map}
use Rattle.std.specs.Prelude.{codes}
use Rattle.std.proofs.lemmas.Bool.{false≢true}
use Rattle.std.proofs.lemmas.Cmp.{nat_list_eq_equiv}
use Rattle.std.proofs.lemmas.List.{length_push, get_or_append_left}
use Rattle.std.proofs.lemmas.List.Folds.{list_any_at, list_any-append}
use Rattle.std.proofs.lemmas.Map.Keys.{IsDistinct-push}
use Rattle.std.proofs.Math.Seq.{get_or-append_seam}
use Rattle.pl_atoms.specs.Names.{same_text, with_text, AreDistinct, IsFront}
use Rattle.pl_atoms.proofs.Numbers.{length-front, get_or-front, IsFront-with_text}
use Rattle.pl_terms.specs.Order.{texts_of}
use Rattle.unit_model.specs.Facts.{Indicator}
use Rattle.unit_model.specs.Validity.{is_converted}
use Rattle.goal_model.specs.Program.{Clause}
use Rattle.term_walk.proofs.NameBounds.{texts_of-front, NamesBelow-more}
use Rattle.pl_store.specs.Linked.{Linked, Procedure, StoredClause, Row, empty, same_indicator, is_row, is_procedure, is_system, is_module, visible_in, procedure_at, no_procedure, no_clause, with_number, with_names, with_module, with_procedure, with_clause, with_row}
use Rattle.pl_store.specs.Rules.{IsExisting, IsNewProcedure, HasArity, IsClauseOf, IsUnseen}
use Rattle.pl_store.specs.Facts.{EachAt, AreApart, no_row, SameProcedure, SameLookup, IsDefined, IsEntered, IsVisible, IsLinked}

-- ---- one more item

last-or-before : (n i : ℕ) → i < n + 1 → (i < n) ⊎ (i ≡ n)
last-or-before n i h = go n i h
  where
    go : (n i : ℕ) → i < n + 1 → (i < n) ⊎ (i ≡ n)
    go zero zero h = inr refl
    go zero (suc i) h = absurd (omega arith)
    go (suc n) zero h = inl (omega arith)
    go (suc n) (suc i) h = elim (go n i (omega arith)) [
      | inl lt ↦ inl (omega (arith, lt))
      | inr e ↦ inr (ap suc e)
    ]

module _ {X : Type 0} (d : X) (xs : List X) (y : X) where
  before : (i : ℕ) → i < length xs → get_or (xs ++ y ∷ []) i d ≡ get_or xs i d
  before i h = get_or_append_left xs (y ∷ []) d i h

  at-end : (i : ℕ) → i ≡ length xs → get_or (xs ++ y ∷ []) i d ≡ y
  at-end i e = ap (λ k. get_or (xs ++ y ∷ []) k d) e ∙ get_or-append_seam xs y [] d

  which : (i : ℕ) → i < length (xs ++ y ∷ []) → (i < length xs) ⊎ (i ≡ length xs)
  which i h = last-or-before (length xs) i (omega (arith, h, length_push xs y))

  each-push : (P : X → Type 0) → EachAt P d xs → P y → EachAt P d (xs ++ y ∷ [])
  each-push P old new i h = elim (which i h) [
    | inl lt ↦ subst P (sym (before i lt)) (old i lt)
    | inr e ↦ subst P (sym (at-end i e)) new
  ]

  apart-push : (Alike : X → X → Type 0) → ((a b : X) → Alike a b → Alike b a) → AreApart Alike d xs
      → ((i : ℕ) → i < length xs → Alike (get_or xs i d) y → ⊥) → AreApart Alike d (xs ++ y ∷ [])
  apart-push Alike back old none i j hi hj same = elim (which i hi) [
    | inl li ↦ elim (which j hj) [
      | inl lj ↦ old i j li lj (subst (λ a. Alike a (get_or xs j d)) (before i li) (subst (Alike (get_or (xs ++ y ∷ []) i d)) (before j lj) same))
      | inr ej ↦ absurd (none i li (subst (λ a. Alike a y) (before i li) (subst (Alike (get_or (xs ++ y ∷ []) i d)) (at-end j ej) same)))
    ]
    | inr ei ↦ elim (which j hj) [
      | inl lj ↦ absurd (none j lj (back y (get_or xs j d) (subst (λ a. Alike a (get_or xs j d)) (at-end i ei) (subst (Alike (get_or (xs ++ y ∷ []) i d)) (before j lj) same))))
      | inr ej ↦ ei ∙ sym ej
    ]
  ]

each-more : {X : Type 0} (P Q : X → Type 0) (d : X) (xs : List X) → ((x : X) → P x → Q x) → EachAt P d xs → EachAt Q d xs
each-more P Q d xs f h i lt = f (get_or xs i d) (h i lt)

-- ---- names and modules

pub distinct-with_text : (texts : List (List ℕ)) (t : List ℕ) → AreDistinct texts → AreDistinct (with_text texts t)
distinct-with_text texts t h = go (list_any (same_text t) texts) refl
  where
    go : (b : Bool) → list_any (same_text t) texts ≡ b → AreDistinct (cond b texts (texts ++ t ∷ []))
    go true e = h
    go false e = IsDistinct-push nat_list_eq_equiv texts t h e

system-below : (names : List (List ℕ)) (m : ℕ) → is_system names m ≡ true → m < length names
system-below [] m h = absurd (false≢true h)
system-below (x ∷ xs) zero h = omega arith
system-below (x ∷ xs) (suc m) h = omega (arith, system-below xs m h)

existing-more : (old new : List (List ℕ)) (ms ns : List ℕ) (m : ℕ) → IsFront old new → (list_any (nat_eq m) ms ≡ true → list_any (nat_eq m) ns ≡ true)
    → (is_system old m || list_any (nat_eq m) ms) ≡ true → (is_system new m || list_any (nat_eq m) ns) ≡ true
existing-more old new ms ns m front more h = go (is_system old m) refl h
  where
    either : (b : Bool) → b ≡ true → (b || list_any (nat_eq m) ns) ≡ true
    either b e = ap (λ c. c || list_any (nat_eq m) ns) e

    other : (b : Bool) → list_any (nat_eq m) ns ≡ true → (b || list_any (nat_eq m) ns) ≡ true
    other true e = refl
    other false e = e

    go : (b : Bool) → is_system old m ≡ b → (b || list_any (nat_eq m) ms) ≡ true → (is_system new m || list_any (nat_eq m) ns) ≡ true
    go true e h = either (is_system new m) (ap (λ t. same_text t (codes "system")) (get_or-front old new front m (system-below old m e)) ∙ e)
    go false e h = other (is_system new m) (more h)

-- ---- a program whose names and modules grow

module _ (l : Linked) (h : IsLinked l) (names : List (List ℕ)) (modules : List ℕ) (front : IsFront l.names names) (distinct : AreDistinct names)
    (below : EachAt (λ m. m < length names) 0 modules) (more : (m : ℕ) → is_module l m ≡ true → list_any (nat_eq m) modules ≡ true) where
  abbrev grown : Linked
  grown = record l { names = names; modules = modules }

  exists : (m : ℕ) → IsExisting l m → IsExisting grown m
  exists m = existing-more l.names names l.modules modules m front (more m)

  le : length l.names ≤ length names
  le = length-front l.names names front

  clause-kept : (p : ℕ) (c : Clause ℕ) → IsClauseOf l p c → IsClauseOf grown p c
  clause-kept p c k = record {
    head = k.head;
    head_names = NamesBelow-more (length l.names) (length names) le c.head k.head_names;
    body_names = NamesBelow-more (length l.names) (length names) le c.body k.body_names;
    converted = ap is_converted (texts_of-front l.names names front c.body k.body_names) ∙ k.converted;
    numbered = k.numbered;
    width = k.width;
  }

  grows : IsLinked grown
  grows = record {
    names = distinct;
    modules = below;
    procedures = each-more (IsDefined l) (IsDefined grown) no_procedure l.procedures (λ p k. record { home = exists p.home k.home; name = omega (arith, le, k.name); modes = k.modes }) h.procedures;
    apart = h.apart;
    clauses = each-more (IsEntered l) (IsEntered grown) no_clause l.clauses (λ c k. record { procedure = k.procedure; clause = clause-kept c.procedure c.clause k.clause }) h.clauses;
    rows = each-more (IsVisible l) (IsVisible grown) no_row l.rows (λ r k. record { lookup = exists r.lookup k.lookup; procedure = k.procedure; indicator = k.indicator }) h.rows;
    single = h.single;
  }

pub names-grow : (l : Linked) (names : List (List ℕ)) → IsLinked l → IsFront l.names names → AreDistinct names → IsLinked (with_names l names)
names-grow l names h front distinct =
    let le = length-front l.names names front in
    grows l h names l.modules front distinct (each-more (λ m. m < length l.names) (λ m. m < length names) 0 l.modules (λ m k. omega (arith, le, k)) h.modules) (λ m e. e)

pub name-added : (l : Linked) (t : List ℕ) → IsLinked l → IsLinked (with_names l (with_text l.names t))
name-added l t h = names-grow l (with_text l.names t) h (IsFront-with_text l.names t) (distinct-with_text l.names t h.names)

more-modules : (ms : List ℕ) (k m : ℕ) → list_any (nat_eq m) ms ≡ true → list_any (nat_eq m) (with_number ms k) ≡ true
more-modules ms k m e = go (list_any (nat_eq k) ms)
  where
    go : (b : Bool) → list_any (nat_eq m) (cond b ms (ms ++ k ∷ [])) ≡ true
    go true = e
    go false = list_any-append (nat_eq m) ms (k ∷ []) ∙ ap (λ b. b || list_any (nat_eq m) (k ∷ [])) e

below-modules : (n : ℕ) (ms : List ℕ) (k : ℕ) → EachAt (λ m. m < n) 0 ms → k < n → EachAt (λ m. m < n) 0 (with_number ms k)
below-modules n ms k h lt = go (list_any (nat_eq k) ms)
  where
    go : (b : Bool) → EachAt (λ m. m < n) 0 (cond b ms (ms ++ k ∷ []))
    go true = h
    go false = each-push 0 ms k (λ m. m < n) h lt

pub module-added : (l : Linked) (t : List ℕ) (k : ℕ) → IsLinked l → k < length (with_text l.names t) → IsLinked (with_module l t k)
module-added l t k h lt = go (same_text t (codes "system"))
  where
    go : (b : Bool) → IsLinked (record l { names = with_text l.names t; modules = cond b l.modules (with_number l.modules k) })
    go true = name-added l t h
    go false =
        let front = IsFront-with_text l.names t in
        let le = length-front l.names (with_text l.names t) front in
        grows l h (with_text l.names t) (with_number l.modules k) front (distinct-with_text l.names t h.names)
        (below-modules (length (with_text l.names t)) l.modules k (each-more (λ m. m < length l.names) (λ m. m < length (with_text l.names t)) 0 l.modules (λ m j. omega (arith, le, j)) h.modules) lt)
        (more-modules l.modules k)

-- ---- procedures

procedure-kept : (l : Linked) (p : Procedure) (k : ℕ) → k < length l.procedures → procedure_at l k ≡ procedure_at (with_procedure l p) k
procedure-kept l p k lt = sym (before no_procedure l.procedures p k lt)

pub same-is : (m : ℕ) (i : Indicator ℕ) (p : Procedure) → p.home ≡ m → p.indicator ≡ i → is_procedure m i p ≡ true
same-is m i p e f =
    ap (λ b. b && same_indicator i p.indicator) (eq-eqb m p.home (sym e))
    ∙ ap (λ b. b && nat_eq i.arity p.indicator.arity) (eq-eqb i.name p.indicator.name (ap (λ (x : Indicator ℕ). x.name) (sym f)))
    ∙ eq-eqb i.arity p.indicator.arity (ap (λ (x : Indicator ℕ). x.arity) (sym f))

pub procedure-added : (l : Linked) (p : Procedure) → IsLinked l → IsExisting l p.home → IsNewProcedure l p.home p.indicator → p.indicator.name < length l.names → HasArity p.indicator.arity p.modes → IsLinked (with_procedure l p)
procedure-added l p h home new name modes =
    let longer = length_push l.procedures p in
    record {
      names = h.names;
      modules = h.modules;
      procedures = each-push no_procedure l.procedures p (IsDefined (with_procedure l p))
          (each-more (IsDefined l) (IsDefined (with_procedure l p)) no_procedure l.procedures (λ q k. record { home = k.home; name = k.name; modes = k.modes }) h.procedures)
          (record { home = home; name = name; modes = modes });
      apart = apart-push no_procedure l.procedures p SameProcedure (λ a b e. (sym e.0, sym e.1)) h.apart
          (λ i lt e. false≢true (sym new ∙ list_any_at (is_procedure p.home p.indicator) l.procedures i no_procedure lt (same-is p.home p.indicator (procedure_at l i) e.0 e.1)));
      clauses = each-more (IsEntered l) (IsEntered (with_procedure l p)) no_clause l.clauses (λ c k. record {
        procedure = omega (arith, longer, k.procedure);
        clause = record {
          head = k.clause.head ∙ ap (λ (q : Procedure). Some q.indicator) (procedure-kept l p c.procedure k.procedure);
          head_names = k.clause.head_names;
          body_names = k.clause.body_names;
          converted = k.clause.converted;
          numbered = k.clause.numbered;
          width = k.clause.width;
        };
      }) h.clauses;
      rows = each-more (IsVisible l) (IsVisible (with_procedure l p)) no_row l.rows (λ r k. record {
        lookup = k.lookup;
        procedure = omega (arith, longer, k.procedure);
        indicator = ap (λ (q : Procedure). q.indicator) (sym (procedure-kept l p r.procedure k.procedure)) ∙ k.indicator;
      }) h.rows;
      single = h.single;
    }

-- ---- clauses and rows

clause-same : (l : Linked) (e : StoredClause) (p : ℕ) (c : Clause ℕ) → IsClauseOf l p c → IsClauseOf (with_clause l e) p c
clause-same l e p c k = record { head = k.head; head_names = k.head_names; body_names = k.body_names; converted = k.converted; numbered = k.numbered; width = k.width }

pub clause-added : (l : Linked) (p : ℕ) (c : Clause ℕ) → IsLinked l → p < length l.procedures → IsClauseOf l p c → IsLinked (with_clause l (record { procedure = p; clause = c }))
clause-added l p c h lt k =
    let e : StoredClause = record { procedure = p; clause = c } in
    record {
      names = h.names;
      modules = h.modules;
      procedures = each-more (IsDefined l) (IsDefined (with_clause l e)) no_procedure l.procedures (λ q k. record { home = k.home; name = k.name; modes = k.modes }) h.procedures;
      apart = h.apart;
      clauses = each-push no_clause l.clauses e (IsEntered (with_clause l e))
          (each-more (IsEntered l) (IsEntered (with_clause l e)) no_clause l.clauses (λ d j. record { procedure = j.procedure; clause = clause-same l e d.procedure d.clause j.clause }) h.clauses)
          (record { procedure = lt; clause = clause-same l e p c k });
      rows = each-more (IsVisible l) (IsVisible (with_clause l e)) no_row l.rows (λ r k. record { lookup = k.lookup; procedure = k.procedure; indicator = k.indicator }) h.rows;
      single = h.single;
    }

row-same : (m : ℕ) (i : Indicator ℕ) (r : Row) → r.lookup ≡ m → r.indicator ≡ i → is_row m i r ≡ true
row-same m i r e f =
    ap (λ b. b && same_indicator i r.indicator) (eq-eqb m r.lookup (sym e))
    ∙ ap (λ b. b && nat_eq i.arity r.indicator.arity) (eq-eqb i.name r.indicator.name (ap (λ (x : Indicator ℕ). x.name) (sym f)))
    ∙ eq-eqb i.arity r.indicator.arity (ap (λ (x : Indicator ℕ). x.arity) (sym f))

none-seen : (rows : List Row) (m : ℕ) (i : Indicator ℕ) → visible_in rows m i ≡ None → (k : ℕ) → k < length rows → is_row m i (get_or rows k no_row) ≡ true → ⊥
none-seen [] m i e k lt t = absurd (omega arith)
none-seen (r ∷ rs) m i e k lt t = go (is_row m i r) refl e (none-seen rs m i) k lt t
  where
    go : (b : Bool) → is_row m i r ≡ b → option_map (λ (x : Row). x.procedure) (cond b (Some r) (find (is_row m i) rs)) ≡ None
        → (visible_in rs m i ≡ None → (k : ℕ) → k < length rs → is_row m i (get_or rs k no_row) ≡ true → ⊥)
        → (k : ℕ) → k < length (r ∷ rs) → is_row m i (get_or (r ∷ rs) k no_row) ≡ true → ⊥
    go true e f rest k lt t = absurd (cc)
    go false e f rest zero lt t = false≢true (sym e ∙ t)
    go false e f rest (suc k) lt t = rest f k (omega arith) t

pub row-added : (l : Linked) (r : Row) → IsLinked l → IsExisting l r.lookup → r.procedure < length l.procedures → (procedure_at l r.procedure).indicator ≡ r.indicator → IsUnseen l r.lookup r.indicator → IsLinked (with_row l r)
row-added l r h lookup lt is none = record {
  names = h.names;
  modules = h.modules;
  procedures = each-more (IsDefined l) (IsDefined (with_row l r)) no_procedure l.procedures (λ q k. record { home = k.home; name = k.name; modes = k.modes }) h.procedures;
  apart = h.apart;
  clauses = each-more (IsEntered l) (IsEntered (with_row l r)) no_clause l.clauses (λ c k. record {
    procedure = k.procedure;
    clause = record { head = k.clause.head; head_names = k.clause.head_names; body_names = k.clause.body_names; converted = k.clause.converted; numbered = k.clause.numbered; width = k.clause.width };
  }) h.clauses;
  rows = each-push no_row l.rows r (IsVisible (with_row l r))
      (each-more (IsVisible l) (IsVisible (with_row l r)) no_row l.rows (λ s k. record { lookup = k.lookup; procedure = k.procedure; indicator = k.indicator }) h.rows)
      (record { lookup = lookup; procedure = lt; indicator = is });
  single = apart-push no_row l.rows r SameLookup (λ a b e. (sym e.0, sym e.1)) h.single
      (λ i at e. none-seen l.rows r.lookup r.indicator none i at (row-same r.lookup r.indicator (get_or l.rows i no_row) e.0 e.1));
}

-- ---- nothing

none-distinct : AreDistinct []
unfolding IsDistinct
none-distinct = tt

pub empty-linked : IsLinked empty
empty-linked = record {
  names = none-distinct;
  modules = λ i lt. absurd (omega arith);
  procedures = λ i lt. absurd (omega arith);
  apart = λ i j lt more same. absurd (omega arith);
  clauses = λ i lt. absurd (omega arith);
  rows = λ i lt. absurd (omega arith);
  single = λ i j lt more same. absurd (omega arith);
}
