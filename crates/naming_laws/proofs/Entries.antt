-- The numbers of a table as names: each comes with the proof that it is in the table.
use Rattle.std.proofs.Common.{◌≡◌, ◌∙◌, ℕ, suc, ◌<◌, List, [], ◌∷◌, map, Option, Some, None, refl, ap, arith}
use Rattle.std.specs.Prelude.{option_map}
use Rattle.std.specs.List.{All}
use Rattle.pl_terms.specs.Trees.{Tree, Trees, var, int, atom, comp, nil, cons, renamed, all_renamed}
use Rattle.pl_terms.specs.NameBounds.{NamesBelow, AllNamesBelow}
use Rattle.solver_model.specs.Search.{Event, Out, Ans, End, Failed, CutTo, Thrown, Halted, Spent}
use Rattle.goal_model.specs.Program.{Clause}
use Rattle.naming_laws.specs.Translation.{clause_by}
use Rattle.naming_laws.specs.SameRun.{event_by, end_by}

-- a number below a limit
pub record Entry (limit : ℕ) : Type 0 where
  pub number : ℕ
  pub within : number < limit

module _ (limit : ℕ) where
  abbrev pub number_of : Entry limit → ℕ
  number_of e = e.number

  abbrev mutual
    pub placed : (t : Tree ℕ) → NamesBelow limit t → Tree (Entry limit)
    placed (var v) h = var v
    placed (int z) h = int z
    placed (atom s) h = atom (record { number = s; within = h })
    placed (comp s ts) h = comp (record { number = s; within = h.0 }) (all_placed ts h.1)

    pub all_placed : (ts : Trees ℕ) → AllNamesBelow limit ts → Trees (Entry limit)
    all_placed nil h = nil
    all_placed (cons t ts) h = cons (placed t h.0) (all_placed ts h.1)

  mutual
    pub placed-number : (t : Tree ℕ) (h : NamesBelow limit t) → renamed number_of (placed t h) ≡ t
    placed-number (var v) h = refl
    placed-number (int z) h = refl
    placed-number (atom s) h = refl
    placed-number (comp s ts) h = ap (comp s) (all_placed-number ts h.1)

    all_placed-number : (ts : Trees ℕ) (h : AllNamesBelow limit ts) → all_renamed number_of (all_placed ts h) ≡ ts
    all_placed-number nil h = refl
    all_placed-number (cons t ts) h = ap (λ u. cons u (all_renamed number_of (all_placed ts h.1))) (placed-number t h.0) ∙ ap (cons t) (all_placed-number ts h.1)

  abbrev pub placed_option : (o : Option ℕ) → ((d : ℕ) → o ≡ Some d → d < limit) → Option (Entry limit)
  placed_option None h = None
  placed_option (Some d) h = Some (record { number = d; within = h d refl })

  pub placed_option-number : (o : Option ℕ) (h : (d : ℕ) → o ≡ Some d → d < limit) → option_map number_of (placed_option o h) ≡ o
  placed_option-number None h = refl
  placed_option-number (Some d) h = refl

  abbrev pub HasPlaces : Clause ℕ → Type 0
  HasPlaces c = NamesBelow limit c.head × NamesBelow limit c.body

  abbrev placed_clause : (c : Clause ℕ) → HasPlaces c → Clause (Entry limit)
  placed_clause c h = record { width = c.width; head = placed c.head h.0; body = placed c.body h.1 }

  placed_clause-number : (c : Clause ℕ) (h : HasPlaces c) → clause_by number_of (placed_clause c h) ≡ c
  placed_clause-number c h =
      let made : Tree ℕ → Tree ℕ → Clause ℕ = λ head body. record { width = c.width; head = head; body = body } in
      ap (λ t. made t (renamed number_of (placed c.body h.1))) (placed-number c.head h.0) ∙ ap (made c.head) (placed-number c.body h.1)

  pub here : (c : Clause ℕ) (cs : List (Clause ℕ)) → All HasPlaces (c ∷ cs) → HasPlaces c
  here c cs h = h 0 c (omega arith)

  pub others : (c : Clause ℕ) (cs : List (Clause ℕ)) → All HasPlaces (c ∷ cs) → All HasPlaces cs
  others c cs h = λ k d l. h (suc k) d (omega (arith, l))

  abbrev pub placed_clauses : (cs : List (Clause ℕ)) → All HasPlaces cs → List (Clause (Entry limit))
  placed_clauses [] h = []
  placed_clauses (c ∷ cs) h = placed_clause c (here c cs h) ∷ placed_clauses cs (others c cs h)

  pub placed_clauses-number : (cs : List (Clause ℕ)) (h : All HasPlaces cs) → map (clause_by number_of) (placed_clauses cs h) ≡ cs
  placed_clauses-number [] h = refl
  placed_clauses-number (c ∷ cs) h =
      ap (λ x. x ∷ map (clause_by number_of) (placed_clauses cs (others c cs h))) (placed_clause-number c (here c cs h)) ∙ ap (λ l. c ∷ l) (placed_clauses-number cs (others c cs h))

-- other names of other names
module _ {N M K : Type 0} (f : N → M) (g : M → K) where
  abbrev both : N → K
  both a = g (f a)

  mutual
    pub renamed-renamed : (t : Tree N) → renamed g (renamed f t) ≡ renamed both t
    renamed-renamed (var v) = refl
    renamed-renamed (int z) = refl
    renamed-renamed (atom s) = refl
    renamed-renamed (comp s ts) = ap (comp (both s)) (all_renamed-renamed ts)

    all_renamed-renamed : (ts : Trees N) → all_renamed g (all_renamed f ts) ≡ all_renamed both ts
    all_renamed-renamed nil = refl
    all_renamed-renamed (cons t ts) = ap (λ u. cons u (all_renamed g (all_renamed f ts))) (renamed-renamed t) ∙ ap (cons (renamed both t)) (all_renamed-renamed ts)

  terms-renamed : (ts : List (Tree N)) → map (renamed g) (map (renamed f) ts) ≡ map (renamed both) ts
  terms-renamed [] = refl
  terms-renamed (t ∷ ts) = ap (λ u. u ∷ map (renamed g) (map (renamed f) ts)) (renamed-renamed t) ∙ ap (λ l. renamed both t ∷ l) (terms-renamed ts)

  pub events-renamed : (events : List (Event (List (Tree N)))) → map (event_by g) (map (event_by f) events) ≡ map (event_by both) events
  events-renamed [] = refl
  events-renamed (Out bytes ∷ events) = ap (λ l. Out bytes ∷ l) (events-renamed events)
  events-renamed (Ans ts ∷ events) = ap (λ us. Ans us ∷ map (event_by g) (map (event_by f) events)) (terms-renamed ts) ∙ ap (λ l. Ans (map (renamed both) ts) ∷ l) (events-renamed events)

  pub end-renamed : (e : End (Tree N)) → end_by g (end_by f e) ≡ end_by both e
  end-renamed Failed = refl
  end-renamed (CutTo c) = refl
  end-renamed (Thrown ball active) = ap (λ b. Thrown b active) (renamed-renamed ball)
  end-renamed (Halted z) = refl
  end-renamed Spent = refl

  pub option-renamed : (o : Option N) → option_map g (option_map f o) ≡ option_map both o
  option-renamed None = refl
  option-renamed (Some a) = refl

  pub clauses-renamed : (cs : List (Clause N)) → map (clause_by g) (map (clause_by f) cs) ≡ map (clause_by both) cs
  clauses-renamed [] = refl
  clauses-renamed (c ∷ cs) =
      let made : Tree K → Tree K → Clause K = λ head body. record { width = c.width; head = head; body = body } in
      ap (λ t. made t (renamed g (renamed f c.body)) ∷ map (clause_by g) (map (clause_by f) cs)) (renamed-renamed c.head)
      ∙ ap (λ t. made (renamed both c.head) t ∷ map (clause_by g) (map (clause_by f) cs)) (renamed-renamed c.body)
      ∙ ap (λ l. clause_by both c ∷ l) (clauses-renamed cs)
