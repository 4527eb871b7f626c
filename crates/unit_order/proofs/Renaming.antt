-- Facts under other names twice.
use Rattle.std.proofs.Common.{◌≡◌, ℕ, List, [], ◌∷◌, map, refl, ap, ◌∙◌}
use Rattle.std.specs.List.{flat_map, AllByRecursion}
use Rattle.pl_terms.specs.Trees.{Tree, var, int, atom, comp, Trees, nil, cons, renamed, all_renamed}
use Rattle.unit_model.specs.Facts.{Indicator, OperatorOf, Need, What, exports, reexports_all, reexports, has_modes, declares, imports_all, imports, clause, Entry, SectionKind, Section, Facts, tree_names, trees_names, need_names, what_names, section_names, names_of, indicator_by, operator_by, need_by, what_by, entry_by, section_by, facts_by}
use Rattle.unit_format.proofs.Renaming.{AllBy-parts}

-- k after g is h on the names
module _ {N M L : Type 0} (g : N → M) (k : M → L) (h : N → L) where
  abbrev pub Over : N → Type 0
  Over x = k (g x) ≡ h x

  abbrev AllOver : List N → Type 0
  AllOver = AllByRecursion Over

  mutual
    tree_over : (t : Tree N) → AllOver (tree_names t) → renamed k (renamed g t) ≡ renamed h t
    tree_over (var n) o = refl
    tree_over (int z) o = refl
    tree_over (atom s) o = ap atom o.0
    tree_over (comp s ts) o = ap (λ x. comp x (all_renamed k (all_renamed g ts))) o.0 ∙ ap (comp (h s)) (trees_over ts o.1)

    trees_over : (ts : Trees N) → AllOver (trees_names ts) → all_renamed k (all_renamed g ts) ≡ all_renamed h ts
    trees_over nil o = refl
    trees_over (cons t ts) o =
        let p = AllBy-parts Over (tree_names t) (trees_names ts) o in
        ap (λ x. cons x (all_renamed k (all_renamed g ts))) (tree_over t p.0) ∙ ap (cons (renamed h t)) (trees_over ts p.1)

  abbrev indicator : ℕ → L → Indicator L
  indicator a s = record { name = s; arity = a }

  indicator_over : (i : Indicator N) → Over i.name → indicator_by k (indicator_by g i) ≡ indicator_by h i
  indicator_over i o = ap (indicator i.arity) o

  abbrev an_operator : OperatorOf N → L → OperatorOf L
  an_operator x s = record { op = x.op; name = s }

  operators_over : (os : List (OperatorOf N)) → AllOver (map (λ x. x.name) os) → map (operator_by k) (map (operator_by g) os) ≡ map (operator_by h) os
  operators_over [] o = refl
  operators_over (x ∷ os) o = ap (λ y. y ∷ map (operator_by k) (map (operator_by g) os)) (ap (an_operator x) o.0) ∙ ap (λ (l : List (OperatorOf L)). operator_by h x ∷ l) (operators_over os o.1)

  abbrev a_need : ℕ → L → List (OperatorOf L) → Need L
  a_need b m os = record { byte = b; of = m; operators = os }

  need_over : (n : Need N) → AllOver (need_names n) → need_by k (need_by g n) ≡ need_by h n
  need_over n o = ap (λ m. a_need n.byte m (map (operator_by k) (map (operator_by g) n.operators))) o.0 ∙ ap (a_need n.byte (h n.of)) (operators_over n.operators o.1)

  needs_over : (ns : List (Need N)) → AllOver (flat_map need_names ns) → map (need_by k) (map (need_by g) ns) ≡ map (need_by h) ns
  needs_over [] o = refl
  needs_over (n ∷ ns) o =
      let p = AllBy-parts Over (need_names n) (flat_map need_names ns) o in
      ap (λ x. x ∷ map (need_by k) (map (need_by g) ns)) (need_over n p.0) ∙ ap (λ (l : List (Need L)). need_by h n ∷ l) (needs_over ns p.1)

  what_over : (w : What N) → AllOver (what_names w) → what_by k (what_by g w) ≡ what_by h w
  what_over (exports i) o = ap exports (indicator_over i o.0)
  what_over (reexports_all m) o = ap reexports_all o.0
  what_over (reexports m i) o = ap (λ x. reexports x (indicator_by k (indicator_by g i))) o.0 ∙ ap (reexports (h m)) (indicator_over i o.1.0)
  what_over (has_modes s ms) o = ap (λ x. has_modes x ms) o.0
  what_over (declares x) o = ap declares (ap (an_operator x) o.0)
  what_over (imports_all m) o = ap imports_all o.0
  what_over (imports m i) o = ap (λ x. imports x (indicator_by k (indicator_by g i))) o.0 ∙ ap (imports (h m)) (indicator_over i o.1.0)
  what_over (clause n t u) o =
      let p = AllBy-parts Over (tree_names t) (tree_names u) o in
      ap (λ x. clause n x (renamed k (renamed g u))) (tree_over t p.0) ∙ ap (clause n (renamed h t)) (tree_over u p.1)

  abbrev an_entry : ℕ → What L → Entry L
  an_entry b w = record { byte = b; what = w }

  entries_over : (es : List (Entry N)) → AllOver (flat_map (λ e. what_names e.what) es) → map (entry_by k) (map (entry_by g) es) ≡ map (entry_by h) es
  entries_over [] o = refl
  entries_over (e ∷ es) o =
      let p = AllBy-parts Over (what_names e.what) (flat_map (λ e. what_names e.what) es) o in
      ap (λ x. an_entry e.byte x ∷ map (entry_by k) (map (entry_by g) es)) (what_over e.what p.0) ∙ ap (λ (l : List (Entry L)). entry_by h e ∷ l) (entries_over es p.1)

  abbrev a_section : SectionKind → ℕ → L → List (Entry L) → Section L
  a_section c b m es = record { kind = c; byte = b; of = m; entries = es }

  section_over : (s : Section N) → AllOver (section_names s) → section_by k (section_by g s) ≡ section_by h s
  section_over s o = ap (λ m. a_section s.kind s.byte m (map (entry_by k) (map (entry_by g) s.entries))) o.0 ∙ ap (a_section s.kind s.byte (h s.of)) (entries_over s.entries o.1)

  sections_over : (ss : List (Section N)) → AllOver (flat_map section_names ss) → map (section_by k) (map (section_by g) ss) ≡ map (section_by h) ss
  sections_over [] o = refl
  sections_over (s ∷ ss) o =
      let p = AllBy-parts Over (section_names s) (flat_map section_names ss) o in
      ap (λ x. x ∷ map (section_by k) (map (section_by g) ss)) (section_over s p.0) ∙ ap (λ (l : List (Section L)). section_by h s ∷ l) (sections_over ss p.1)

  abbrev some_facts : List (Need L) → List (Section L) → Facts L
  some_facts ns ss = record { needs = ns; sections = ss }

  pub facts_over : (f : Facts N) → AllByRecursion Over (names_of f) → facts_by k (facts_by g f) ≡ facts_by h f
  facts_over f o =
      let p = AllBy-parts Over (flat_map need_names f.needs) (flat_map section_names f.sections) o in
      ap (λ x. some_facts x (map (section_by k) (map (section_by g) f.sections))) (needs_over f.needs p.0) ∙ ap (some_facts (map (need_by h) f.needs)) (sections_over f.sections p.1)
