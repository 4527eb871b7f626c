-- What entries say by the numbers of names and by their texts, and entry by entry.
use Rattle.std.proofs.Common.{◌≡◌, ℕ, suc, ◌<◌, List, [], ◌∷◌, ◌++◌, length, map, Bool, true, false, ◌&&◌, cond, nat_eq, eqb, refl, sym, ap, ◌∙◌, Option, Some, None}
use Rattle.std.specs.List.{AllByRecursion, cons_option}
use Rattle.std.specs.Option.{option_map, option_or}
use Rattle.std.proofs.lemmas.List.Elements.{filter_map-append}
use Rattle.pl_atoms.specs.Names.{AreDistinct}
use Rattle.pl_ops.specs.Tables.{same_text}
use Rattle.pl_terms.specs.Trees.{Tree, var, int, atom, comp, Trees, nil, cons, count, renamed, all_renamed}
use Rattle.unit_model.specs.Facts.{Indicator, What, exports, reexports_all, reexports, has_modes, declares, imports_all, imports, clause, tree_names, what_names, indicator_by, what_by}
use Rattle.unit_model.specs.Directives.{Text}
use Rattle.unit_model.specs.Encoding.{text_at}
use Rattle.unit_format.proofs.Renaming.{AllBy-parts}
use Rattle.goal_model.specs.Program.{Clause}
use Rattle.naming_laws.specs.Translation.{clause_by}
use Rattle.mod_visible.specs.Placing.{AllBelow}
use Rattle.program_model.specs.Saying.{Said, said_by, head_indicator, same_indicator, is_its, clause_in, clauses_said, modes_in, modes_said}
use Rattle.mod_faults.proofs.Lookups.{same_number}
use Rattle.mod_linker.specs.Holding.{SaidBelow}

pub count-all_renamed : {N M : Type 0} (f : N → M) (ts : Trees N) → count (all_renamed f ts) ≡ count ts
count-all_renamed f nil = refl
count-all_renamed f (cons t ts) = ap suc (count-all_renamed f ts)

pub cons-map : {A B : Type 0} (f : A → B) (o : Option A) (xs : List A) → cons_option (option_map f o) (map f xs) ≡ map f (cons_option o xs)
cons-map f None xs = refl
cons-map f (Some x) xs = refl

module _ (names : List Text) (distinct : AreDistinct names) where
  abbrev T : ℕ → Text
  T = text_at names

  ind_same : (i j : Indicator ℕ) → i.name < length names → j.name < length names → same_indicator same_text (indicator_by T i) (indicator_by T j) ≡ same_indicator nat_eq i j
  ind_same i j hi hj = ap (λ b. b && eqb i.arity j.arity) (same_number names distinct i.name j.name hi hj)

  head_same : (i : Indicator ℕ) → i.name < length names → (h : Tree ℕ) → AllBelow (length names) (tree_names h) → is_its same_text (indicator_by T i) (head_indicator (renamed T h)) ≡ is_its nat_eq i (head_indicator h)
  head_same i hi (var n) b = refl
  head_same i hi (int z) b = refl
  head_same i hi (atom s) b = ap (λ x. x && eqb i.arity 0) (same_number names distinct i.name s hi b.0)
  head_same i hi (comp s ts) b =
      ap (λ k. same_text (T i.name) (T s) && eqb i.arity k) (count-all_renamed T ts)
      ∙ ap (λ x. x && eqb i.arity (count ts)) (same_number names distinct i.name s hi b.0)

  clause_if : (b c : Bool) → b ≡ c → (k : Clause ℕ) → cond b (Some (clause_by T k)) None ≡ option_map (clause_by T) (cond c (Some k) None)
  clause_if b true e k = ap (λ x. cond x (Some (clause_by T k)) None) e
  clause_if b false e k = ap (λ x. cond x (Some (clause_by T k)) None) e

  module _ (d : ℕ) (i : Indicator ℕ) (hd : d < length names) (hi : i.name < length names) where
    clause_same : (m : ℕ) → m < length names → (w : What ℕ) → AllBelow (length names) (what_names w) → clause_in same_text (T d) (indicator_by T i) (T m) (what_by T w) ≡ option_map (clause_by T) (clause_in nat_eq d i m w)
    clause_same m hm (exports j) b = refl
    clause_same m hm (reexports_all n) b = refl
    clause_same m hm (reexports n j) b = refl
    clause_same m hm (has_modes s ms) b = refl
    clause_same m hm (declares o) b = refl
    clause_same m hm (imports_all n) b = refl
    clause_same m hm (imports n j) b = refl
    clause_same m hm (clause n h t) b =
        let parts = AllBy-parts (λ k. k < length names) (tree_names h) (tree_names t) b in
        let test : (same_text (T d) (T m) && is_its same_text (indicator_by T i) (head_indicator (renamed T h))) ≡ (eqb d m && is_its nat_eq i (head_indicator h)) =
        ap (λ x. x && is_its same_text (indicator_by T i) (head_indicator (renamed T h))) (same_number names distinct d m hd hm) ∙ ap (λ x. eqb d m && x) (head_same i hi h parts.0) in
        clause_if (same_text (T d) (T m) && is_its same_text (indicator_by T i) (head_indicator (renamed T h))) (eqb d m && is_its nat_eq i (head_indicator h)) test (record { width = n; head = h; body = t })

    pub clauses_same : (xs : List (Said ℕ)) → AllByRecursion (SaidBelow (length names)) xs → clauses_said same_text (map (said_by T) xs) (T d) (indicator_by T i) ≡ map (clause_by T) (clauses_said nat_eq xs d i)
    clauses_same [] b = refl
    clauses_same (x ∷ xs) b =
        ap (λ o. cons_option o (clauses_said same_text (map (said_by T) xs) (T d) (indicator_by T i))) (clause_same x.of b.0.0 x.what b.0.1)
        ∙ ap (cons_option (option_map (clause_by T) (clause_in nat_eq d i x.of x.what))) (clauses_same xs b.1)
        ∙ cons-map (clause_by T) (clause_in nat_eq d i x.of x.what) (clauses_said nat_eq xs d i)

    modes_same_at : (m : ℕ) → m < length names → (w : What ℕ) → AllBelow (length names) (what_names w) → modes_in same_text (T d) (indicator_by T i) (T m) (what_by T w) ≡ modes_in nat_eq d i m w
    modes_same_at m hm (exports j) b = refl
    modes_same_at m hm (reexports_all n) b = refl
    modes_same_at m hm (reexports n j) b = refl
    modes_same_at m hm (has_modes s ms) b =
        ap (λ x. cond (x && same_indicator same_text (indicator_by T i) (record { name = T s; arity = length ms })) (Some ms) None) (same_number names distinct d m hd hm)
        ∙ ap (λ x. cond (eqb d m && x) (Some ms) None) (ind_same i (record { name = s; arity = length ms }) hi b.0)
    modes_same_at m hm (declares o) b = refl
    modes_same_at m hm (imports_all n) b = refl
    modes_same_at m hm (imports n j) b = refl
    modes_same_at m hm (clause n h t) b = refl

    pub modes_same : (xs : List (Said ℕ)) → AllByRecursion (SaidBelow (length names)) xs → modes_said same_text (map (said_by T) xs) (T d) (indicator_by T i) ≡ modes_said nat_eq xs d i
    modes_same [] b = refl
    modes_same (x ∷ xs) b =
        ap (λ o. option_or o (modes_in same_text (T d) (indicator_by T i) (T x.of) (what_by T x.what))) (modes_same xs b.1)
        ∙ ap (option_or (modes_said nat_eq xs d i)) (modes_same_at x.of b.0.0 x.what b.0.1)

-- ---- one more entry

module _ {N : Type 0} (same : N → N → Bool) (d : N) (i : Indicator N) where
  pub clauses-push : (xs : List (Said N)) (x : Said N) → clauses_said same (xs ++ x ∷ []) d i ≡ clauses_said same xs d i ++ cons_option (clause_in same d i x.of x.what) []
  clauses-push xs x = filter_map-append (λ (y : Said N). clause_in same d i y.of y.what) xs (x ∷ [])

  or-assoc : (o p q : Option (List Bool)) → option_or (option_or o p) q ≡ option_or o (option_or p q)
  or-assoc None p q = refl
  or-assoc (Some ms) p q = refl

  or-none : (o : Option (List Bool)) → option_or o None ≡ o
  or-none None = refl
  or-none (Some ms) = refl

  pub modes-push : (xs : List (Said N)) (x : Said N) → modes_said same (xs ++ x ∷ []) d i ≡ option_or (modes_in same d i x.of x.what) (modes_said same xs d i)
  modes-push [] x = sym (or-none (modes_in same d i x.of x.what))
  modes-push (y ∷ xs) x =
      ap (λ o. option_or o (modes_in same d i y.of y.what)) (modes-push xs x)
      ∙ or-assoc (modes_in same d i x.of x.what) (modes_said same xs d i) (modes_in same d i y.of y.what)
