-- Programs that get visible procedures, one after another.
use Rattle.std.proofs.Common.{◌≡◌, ℕ, List, [], ◌∷◌, ◌++◌, Bool, true, false, ◌&&◌, cond, eqb, eqb-true, refl, sym, ap, subst, ◌∙◌, append_assoc, Option, Some, None, find}
use Rattle.std.specs.Prelude.{is_some}
use Rattle.std.specs.Option.{option_map, option_or}
use Rattle.std.proofs.lemmas.Bool.{and_parts}
use Rattle.std.proofs.lemmas.List.{append-nil}
use Rattle.unit_model.specs.Facts.{Indicator}
use Rattle.pl_store.specs.Linked.{Linked, Row, is_row, procedure_at, visible_in, with_row}
use Rattle.mod_linker.specs.Rowing.{Shown, is_shown, definer_shown, Shows, ShowsMore}
use Rattle.mod_linker.proofs.Positions.{find-push}

abbrev row_of : Shown → ℕ → Row
row_of r p = record { lookup = r.of; indicator = r.ind; procedure = p }

made : ℕ → ℕ → Indicator ℕ
made n a = record { name = n; arity = a }

shown-is : (m : ℕ) (i : Indicator ℕ) (r : Shown) → is_shown m i r ≡ true → (m ≡ r.of) × (i ≡ r.ind)
unfolding made
shown-is m i r h =
    let x = and_parts (eqb m r.of) (eqb i.name r.ind.name && eqb i.arity r.ind.arity) h in
    let y = and_parts (eqb i.name r.ind.name) (eqb i.arity r.ind.arity) x.1 in
    (eqb-true m r.of x.0, ap (λ n. made n i.arity) (eqb-true i.name r.ind.name y.0) ∙ ap (made r.ind.name) (eqb-true i.arity r.ind.arity y.1))

module _ {A : Type 0} where
  or-none : (o : Option A) → option_or o None ≡ o
  or-none None = refl
  or-none (Some x) = refl

  kept : {B : Type 0} (f : A → B) (o p : Option A) (b : B) → option_map f o ≡ Some b → option_or o p ≡ o
  kept f None p b e = absurd cc
  kept f (Some x) p b e = refl

  gone : {B : Type 0} (f : A → B) (o : Option A) → option_map f o ≡ None → o ≡ None
  gone f None e = refl
  gone f (Some x) e = absurd cc

some-is : {A : Type 0} (o : Option A) → is_some o ≡ true → (x : A) × (o ≡ Some x)
some-is None e = absurd cc
some-is (Some x) e = (x, refl)

pub shows-none : (l : Linked) → ShowsMore [] l l
shows-none l = record { names = refl; modules = refl; procedures = refl; clauses = refl; shows = λ done h. subst (λ rs. Shows rs l) (sym (append-nil done)) h }

pub shows-more : (xs ys : List Shown) (l m k : Linked) → ShowsMore xs l m → ShowsMore ys m k → ShowsMore (xs ++ ys) l k
shows-more xs ys l m k p q = record {
  names = q.names ∙ p.names;
  modules = q.modules ∙ p.modules;
  procedures = q.procedures ∙ p.procedures;
  clauses = q.clauses ∙ p.clauses;
  shows = λ done h. subst (λ rs. Shows rs k) (append_assoc done xs ys) (q.shows (done ++ xs) (p.shows done h));
}

-- a row whose module has one for the indicator already
pub shows-seen : (l : Linked) (r : Shown) → is_some (visible_in l.rows r.of r.ind) ≡ true → ShowsMore (r ∷ []) l l
shows-seen l r seen = record { names = refl; modules = refl; procedures = refl; clauses = refl; shows = λ done h m i. h m i ∙ go done h m i (is_shown m i r) refl }
  where
    go : (done : List Shown) → Shows done l → (m : ℕ) (i : Indicator ℕ) (b : Bool) → is_shown m i r ≡ b → definer_shown done m i ≡ definer_shown (done ++ r ∷ []) m i
    go done h m i false e =
        ap (option_map (λ (x : Shown). x.definer)) (sym (find-push (is_shown m i) done r ∙ ap (λ b. option_or (find (is_shown m i) done) (cond b (Some r) None)) e ∙ or-none (find (is_shown m i) done)))
    go done h m i true e =
        let same = shown-is m i r e in
        let there = some-is (visible_in l.rows r.of r.ind) seen in
        let here : visible_in l.rows m i ≡ Some there.0 = ap (λ x. visible_in l.rows x i) same.0 ∙ ap (visible_in l.rows r.of) same.1 ∙ there.1 in
        let definer : definer_shown done m i ≡ Some (procedure_at l there.0).home = sym (h m i) ∙ ap (option_map (λ p. (procedure_at l p).home)) here in
        ap (option_map (λ (x : Shown). x.definer)) (sym (find-push (is_shown m i) done r ∙ kept (λ (x : Shown). x.definer) (find (is_shown m i) done) (cond (is_shown m i r) (Some r) None) (procedure_at l there.0).home definer))

-- a row that is the first one
pub shows-first : (l : Linked) (r : Shown) (p : ℕ) → visible_in l.rows r.of r.ind ≡ None → r.definer ≡ (procedure_at l p).home → ShowsMore (r ∷ []) l (with_row l (row_of r p))
shows-first l r p unseen home = record { names = refl; modules = refl; procedures = refl; clauses = refl; shows = λ done h m i. go done h m i (is_shown m i r) refl }
  where
    found : (m : ℕ) (i : Indicator ℕ) → visible_in (l.rows ++ row_of r p ∷ []) m i ≡ option_map (λ x. x.procedure) (option_or (find (is_row m i) l.rows) (cond (is_shown m i r) (Some (row_of r p)) None))
    found m i = ap (option_map (λ (x : Row). x.procedure)) (find-push (is_row m i) l.rows (row_of r p))

    shown : (done : List Shown) (m : ℕ) (i : Indicator ℕ) → definer_shown (done ++ r ∷ []) m i ≡ option_map (λ x. x.definer) (option_or (find (is_shown m i) done) (cond (is_shown m i r) (Some r) None))
    shown done m i = ap (option_map (λ (x : Shown). x.definer)) (find-push (is_shown m i) done r)

    go : (done : List Shown) → Shows done l → (m : ℕ) (i : Indicator ℕ) (b : Bool) → is_shown m i r ≡ b
        → option_map (λ q. (procedure_at l q).home) (visible_in (l.rows ++ row_of r p ∷ []) m i) ≡ definer_shown (done ++ r ∷ []) m i
    go done h m i false e =
        ap (option_map (λ q. (procedure_at l q).home)) (found m i ∙ ap (λ b. option_map (λ (x : Row). x.procedure) (option_or (find (is_row m i) l.rows) (cond b (Some (row_of r p)) None))) e ∙ ap (option_map (λ (x : Row). x.procedure)) (or-none (find (is_row m i) l.rows)))
        ∙ h m i
        ∙ sym (shown done m i ∙ ap (λ b. option_map (λ (x : Shown). x.definer) (option_or (find (is_shown m i) done) (cond b (Some r) None))) e ∙ ap (option_map (λ (x : Shown). x.definer)) (or-none (find (is_shown m i) done)))
    go done h m i true e =
        let same = shown-is m i r e in
        let none : visible_in l.rows m i ≡ None = ap (λ x. visible_in l.rows x i) same.0 ∙ ap (visible_in l.rows r.of) same.1 ∙ unseen in
        let no_row = gone (λ (x : Row). x.procedure) (find (is_row m i) l.rows) none in
        let no_shown = gone (λ (x : Shown). x.definer) (find (is_shown m i) done) (sym (h m i) ∙ ap (option_map (λ q. (procedure_at l q).home)) none) in
        ap (option_map (λ q. (procedure_at l q).home)) (found m i ∙ ap (λ b. option_map (λ (x : Row). x.procedure) (option_or (find (is_row m i) l.rows) (cond b (Some (row_of r p)) None))) e ∙ ap (λ o. option_map (λ (x : Row). x.procedure) (option_or o (Some (row_of r p)))) no_row)
        ∙ ap Some (sym home)
        ∙ sym (shown done m i ∙ ap (λ b. option_map (λ (x : Shown). x.definer) (option_or (find (is_shown m i) done) (cond b (Some r) None))) e ∙ ap (λ o. option_map (λ (x : Shown). x.definer) (option_or o (Some r))) no_shown)
