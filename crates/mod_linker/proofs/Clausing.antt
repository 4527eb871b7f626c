-- What a clause of a unit keeps.
use Rattle.std.proofs.Common.{◌≡◌, ℕ, ◌<◌, ◌≤◌, ◌^◌, subst, List, [], ◌++◌, length, true, ◌&&◌, refl, sym, ap, ◌∙◌, arith, lit≤, Some}
use Rattle.std.proofs.lemmas.Bool.{and_parts}
use Rattle.pl_atoms.proofs.Texts.{same_text-is}
use Rattle.pl_ops.specs.Tables.{same_text}
use Rattle.pl_terms.specs.Trees.{Tree, var, int, atom, comp, Trees, nil, cons, renamed, all_renamed}
use Rattle.pl_terms.specs.Order.{texts_of}
use Rattle.pl_terms.specs.Occurrence.{occurrences, all_occurrences, first_after, from_to}
use Rattle.pl_terms.specs.NameBounds.{NamesBelow, AllNamesBelow}
use Rattle.unit_model.specs.Facts.{Indicator, clause, tree_names, trees_names, what_by}
use Rattle.unit_model.specs.Directives.{Text}
use Rattle.unit_model.specs.Encoding.{text_at}
use Rattle.unit_model.specs.Validity.{is_head, is_converted, is_clause}
use Rattle.unit_format.proofs.Renaming.{AllBy-parts}
use Rattle.mod_visible.specs.Placing.{AllBelow}
use Rattle.pl_store.specs.Linked.{Linked, procedure_at}
use Rattle.pl_store.specs.Rules.{indicator_of, IsClauseOf}
use Rattle.program_model.specs.Saying.{head_indicator}

mutual
  tree_below : (n : ℕ) (t : Tree ℕ) → AllBelow n (tree_names t) → NamesBelow n t
  tree_below n (var v) h = tt
  tree_below n (int z) h = tt
  tree_below n (atom s) h = h.0
  tree_below n (comp s ts) h = (h.0, trees_below n ts h.1)

  trees_below : (n : ℕ) (ts : Trees ℕ) → AllBelow n (trees_names ts) → AllNamesBelow n ts
  trees_below n nil h = tt
  trees_below n (cons t ts) h = let p = AllBy-parts (λ (k : ℕ). k < n) (tree_names t) (trees_names ts) h in (tree_below n t p.0, trees_below n ts p.1)

module _ {N M : Type 0} (f : N → M) where
  mutual
    occurrences-renamed : (t : Tree N) → occurrences (renamed f t) ≡ occurrences t
    occurrences-renamed (var n) = refl
    occurrences-renamed (int z) = refl
    occurrences-renamed (atom s) = refl
    occurrences-renamed (comp s ts) = all_occurrences-renamed ts

    all_occurrences-renamed : (ts : Trees N) → all_occurrences (all_renamed f ts) ≡ all_occurrences ts
    all_occurrences-renamed nil = refl
    all_occurrences-renamed (cons t ts) = ap (λ l. l ++ all_occurrences (all_renamed f ts)) (occurrences-renamed t) ∙ ap (λ l. occurrences t ++ l) (all_occurrences-renamed ts)

  head-renamed : (t : Tree N) → is_head (renamed f t) ≡ is_head t
  head-renamed (var n) = refl
  head-renamed (int z) = refl
  head-renamed (atom s) = refl
  head-renamed (comp s ts) = refl

heads_same : (t : Tree ℕ) → indicator_of t ≡ head_indicator t
heads_same (var n) = refl
heads_same (int z) = refl
heads_same (atom s) = refl
heads_same (comp s ts) = refl

module _ (names : List Text) (n : ℕ) (h b : Tree ℕ) (rules : is_clause (what_by (text_at names) (clause n h b)) ≡ true) where
  parts : (is_head (renamed (text_at names) h) ≡ true) × ((is_converted (renamed (text_at names) b) && same_text (first_after [] (occurrences (renamed (text_at names) h) ++ occurrences (renamed (text_at names) b))) (from_to 0 n)) ≡ true)
  parts = let p = and_parts (is_head (renamed (text_at names) h)) _ rules in (p.0, p.1)

  pub callable : is_head h ≡ true
  callable = sym (head-renamed (text_at names) h) ∙ parts.0

  pub clause_is : (l : Linked) (p : ℕ) (i : Indicator ℕ) → l.names ≡ names → AllBelow (length names) (tree_names h ++ tree_names b) → n < 2 ^ 32 → head_indicator h ≡ Some i → i ≡ (procedure_at l p).indicator
      → IsClauseOf l p (record { width = n; head = h; body = b })
  clause_is l p i same below narrow head is =
      let q = and_parts (is_converted (renamed (text_at names) b)) _ parts.1 in
      let bounds = AllBy-parts (λ (k : ℕ). k < length names) (tree_names h) (tree_names b) below in
      let wide : 2 ^ 32 ≤ 2 ^ 63 = lit≤ tt in
      record {
        head = heads_same h ∙ head ∙ ap Some is;
        head_names = subst (λ (ns : List Text). NamesBelow (length ns) h) (sym same) (tree_below (length names) h bounds.0);
        body_names = subst (λ (ns : List Text). NamesBelow (length ns) b) (sym same) (tree_below (length names) b bounds.1);
        converted = ap (λ (ns : List Text). is_converted (texts_of ns b)) same ∙ q.0;
        numbered = ap (first_after []) (sym (ap (λ l. l ++ occurrences (renamed (text_at names) b)) (occurrences-renamed (text_at names) h) ∙ ap (λ l. occurrences h ++ l) (occurrences-renamed (text_at names) b))) ∙ same_text-is (first_after [] (occurrences (renamed (text_at names) h) ++ occurrences (renamed (text_at names) b))) (from_to 0 n) q.1;
        width = omega (arith, narrow, wide);
      }
