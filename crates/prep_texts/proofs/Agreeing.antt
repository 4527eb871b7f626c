-- Facts by number have the same texts in tables that agree on their numbers.
use Rattle.std.proofs.Common.{◌≡◌, ℕ, ◌<◌, ◌≤◌, List, [], ◌∷◌, ◌++◌, map, length, refl, ap, ◌∙◌, arith}
use Rattle.std.specs.List.{flat_map, AllByRecursion}
use Rattle.pl_atoms.specs.Names.{IsFront}
use Rattle.pl_atoms.proofs.Numbers.{get_or-front}
use Rattle.pl_terms.specs.Trees.{Tree, var, int, atom, comp, Trees, nil, cons, renamed, all_renamed}
use Rattle.unit_model.specs.Facts.{Indicator, OperatorOf, Need, What, exports, reexports_all, reexports, has_modes, declares, imports_all, imports, clause, Entry, SectionKind, Section, tree_names, trees_names, need_names, what_names, section_names, indicator_by, operator_by, need_by, what_by, entry_by, section_by}
use Rattle.unit_model.specs.Directives.{Text}
use Rattle.unit_model.specs.Encoding.{text_at}
use Rattle.prep_texts.specs.Interfaces.{IsBelow}

pub parts : (P : ℕ → Type 0) (xs ys : List ℕ) → AllByRecursion P (xs ++ ys) → AllByRecursion P xs × AllByRecursion P ys
parts P [] ys h = (tt, h)
parts P (x ∷ xs) ys h = let r = parts P xs ys h.1 in ((h.0, r.0), r.1)

pub whole : (P : ℕ → Type 0) (xs ys : List ℕ) → AllByRecursion P xs → AllByRecursion P ys → AllByRecursion P (xs ++ ys)
whole P [] ys h k = k
whole P (x ∷ xs) ys h k = (h.0, whole P xs ys h.1 k)

pub higher : (n m : ℕ) → n ≤ m → (xs : List ℕ) → AllByRecursion (IsBelow n) xs → AllByRecursion (IsBelow m) xs
higher n m le [] h = tt
higher n m le (x ∷ xs) h = let lt = h.0 in (omega (arith, lt), higher n m le xs h.1)

module _ (f g : ℕ → Text) (n : ℕ) (agree : (k : ℕ) → k < n → f k ≡ g k) where
  abbrev Below : List ℕ → Type 0
  Below = AllByRecursion (IsBelow n)

  mutual
    pub tree-same : (t : Tree ℕ) → Below (tree_names t) → renamed f t ≡ renamed g t
    tree-same (var v) h = refl
    tree-same (int z) h = refl
    tree-same (atom s) h = ap atom (agree s h.0)
    tree-same (comp s ts) h = ap (λ x. comp x (all_renamed f ts)) (agree s h.0) ∙ ap (comp (g s)) (trees-same ts h.1)

    trees-same : (ts : Trees ℕ) → Below (trees_names ts) → all_renamed f ts ≡ all_renamed g ts
    trees-same nil h = refl
    trees-same (cons t ts) h =
        let p = parts (IsBelow n) (tree_names t) (trees_names ts) h in
        ap (λ x. cons x (all_renamed f ts)) (tree-same t p.0) ∙ ap (cons (renamed g t)) (trees-same ts p.1)

  abbrev indicator : ℕ → Text → Indicator Text
  indicator a s = record { name = s; arity = a }

  indicator-same : (i : Indicator ℕ) → i.name < n → indicator_by f i ≡ indicator_by g i
  indicator-same i h = ap (indicator i.arity) (agree i.name h)

  abbrev an_operator : OperatorOf ℕ → Text → OperatorOf Text
  an_operator o s = record { op = o.op; name = s }

  operator-same : (o : OperatorOf ℕ) → o.name < n → operator_by f o ≡ operator_by g o
  operator-same o h = ap (an_operator o) (agree o.name h)

  pub operators-same : (os : List (OperatorOf ℕ)) → Below (map (λ o. o.name) os) → map (operator_by f) os ≡ map (operator_by g) os
  operators-same [] h = refl
  operators-same (o ∷ os) h = ap (λ x. x ∷ map (operator_by f) os) (operator-same o h.0) ∙ ap (λ (l : List (OperatorOf Text)). operator_by g o ∷ l) (operators-same os h.1)

  abbrev a_need : ℕ → Text → List (OperatorOf Text) → Need Text
  a_need b m os = record { byte = b; of = m; operators = os }

  need-same : (d : Need ℕ) → Below (need_names d) → need_by f d ≡ need_by g d
  need-same d h = ap (λ m. a_need d.byte m (map (operator_by f) d.operators)) (agree d.of h.0) ∙ ap (a_need d.byte (g d.of)) (operators-same d.operators h.1)

  pub needs-same : (ds : List (Need ℕ)) → Below (flat_map need_names ds) → map (need_by f) ds ≡ map (need_by g) ds
  needs-same [] h = refl
  needs-same (d ∷ ds) h =
      let p = parts (IsBelow n) (need_names d) (flat_map need_names ds) h in
      ap (λ x. x ∷ map (need_by f) ds) (need-same d p.0) ∙ ap (λ (l : List (Need Text)). need_by g d ∷ l) (needs-same ds p.1)

  what-same : (w : What ℕ) → Below (what_names w) → what_by f w ≡ what_by g w
  what-same (exports i) h = ap exports (indicator-same i h.0)
  what-same (reexports_all m) h = ap reexports_all (agree m h.0)
  what-same (reexports m i) h = ap (λ x. reexports x (indicator_by f i)) (agree m h.0) ∙ ap (reexports (g m)) (indicator-same i h.1.0)
  what-same (has_modes s ms) h = ap (λ x. has_modes x ms) (agree s h.0)
  what-same (declares o) h = ap declares (operator-same o h.0)
  what-same (imports_all m) h = ap imports_all (agree m h.0)
  what-same (imports m i) h = ap (λ x. imports x (indicator_by f i)) (agree m h.0) ∙ ap (imports (g m)) (indicator-same i h.1.0)
  what-same (clause v t u) h =
      let p = parts (IsBelow n) (tree_names t) (tree_names u) h in
      ap (λ x. clause v x (renamed f u)) (tree-same t p.0) ∙ ap (clause v (renamed g t)) (tree-same u p.1)

  abbrev an_entry : ℕ → What Text → Entry Text
  an_entry b w = record { byte = b; what = w }

  pub entries-same : (es : List (Entry ℕ)) → Below (flat_map (λ e. what_names e.what) es) → map (entry_by f) es ≡ map (entry_by g) es
  entries-same [] h = refl
  entries-same (e ∷ es) h =
      let p = parts (IsBelow n) (what_names e.what) (flat_map (λ e. what_names e.what) es) h in
      ap (λ x. an_entry e.byte x ∷ map (entry_by f) es) (what-same e.what p.0) ∙ ap (λ (l : List (Entry Text)). entry_by g e ∷ l) (entries-same es p.1)

  abbrev a_section : SectionKind → ℕ → Text → List (Entry Text) → Section Text
  a_section c b m es = record { kind = c; byte = b; of = m; entries = es }

  section-same : (s : Section ℕ) → Below (section_names s) → section_by f s ≡ section_by g s
  section-same s h = ap (λ m. a_section s.kind s.byte m (map (entry_by f) s.entries)) (agree s.of h.0) ∙ ap (a_section s.kind s.byte (g s.of)) (entries-same s.entries h.1)

  pub sections-same : (ss : List (Section ℕ)) → Below (flat_map section_names ss) → map (section_by f) ss ≡ map (section_by g) ss
  sections-same [] h = refl
  sections-same (s ∷ ss) h =
      let p = parts (IsBelow n) (section_names s) (flat_map section_names ss) h in
      ap (λ x. x ∷ map (section_by f) ss) (section-same s p.0) ∙ ap (λ (l : List (Section Text)). section_by g s ∷ l) (sections-same ss p.1)

-- a table that grew agrees with what it was
pub front-agrees : (old new : List Text) → IsFront old new → (k : ℕ) → k < length old → text_at new k ≡ text_at old k
front-agrees old new front k lt = get_or-front old new front k lt
