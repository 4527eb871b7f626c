-- What a term is, by its first cell.
use Rattle.std.proofs.Common.{◌≡◌, ℕ, suc, List, codes, nat_eq, Bool, true, false, ◌&&◌, if◌then◌else◌, refl, sym, ap, ◌∙◌, arith}
use Rattle.std.proofs.lemmas.Bool.{eqb-true}
use Rattle.pl_ops.specs.Tables.{same_text}
use Rattle.pl_terms.specs.Trees.{var, int, atom, comp, Trees, nil, cons, count, renamed}
use Rattle.pl_terms.specs.Cells.{first}
use Rattle.unit_model.specs.Directives.{directive_of}
use Rattle.unit_model.specs.Preparing.{a_directive, a_query, a_clause, sort_of}
use Rattle.term_walk.specs.Walks.{entered, is_functor}

module _ (f : ℕ → List ℕ) where
  pub sort-directive : (ts : Trees ℕ) (b : Bool) → b ≡ is_functor f (codes ":-") 1 ts → b ≡ true → sort_of (renamed f (first ts)) ≡ a_directive (directive_of (renamed f (first (entered ts))))
  sort-directive nil b e h = absurd (cc)
  sort-directive (cons (var n) ts) b e h = absurd (cc)
  sort-directive (cons (int z) ts) b e h = absurd (cc)
  sort-directive (cons (atom s) ts) b e h = absurd (cc)
  sort-directive (cons (comp s nil) ts) b e h = absurd (cc)
  sort-directive (cons (comp s (cons d nil)) ts) b e h =
      let test : same_text (f s) (codes ":-") ≡ true = sym e ∙ h in
      ap (λ (c : Bool). if c then a_directive (directive_of (renamed f d)) else if same_text (f s) (codes "?-") then a_query else a_clause) test
  sort-directive (cons (comp s (cons d (cons u us))) ts) b e h =
      let test : nat_eq (suc (suc (count us))) 1 && same_text (f s) (codes ":-") ≡ true = sym e ∙ h in
      let wrong : suc (suc (count us)) ≡ 1 = eqb-true (suc (suc (count us))) 1 (left (nat_eq (suc (suc (count us))) 1) (same_text (f s) (codes ":-")) test) in absurd (omega arith)
    where
      left : (a b : Bool) → a && b ≡ true → a ≡ true
      left true b h = refl
      left false b h = h

  pub sort-query : (ts : Trees ℕ) (a b : Bool) → a ≡ is_functor f (codes ":-") 1 ts → a ≡ false → b ≡ is_functor f (codes "?-") 1 ts → b ≡ true → sort_of (renamed f (first ts)) ≡ a_query
  sort-query nil a b d g e h = absurd (cc)
  sort-query (cons (var n) ts) a b d g e h = absurd (cc)
  sort-query (cons (int z) ts) a b d g e h = absurd (cc)
  sort-query (cons (atom s) ts) a b d g e h = absurd (cc)
  sort-query (cons (comp s nil) ts) a b d g e h = absurd (cc)
  sort-query (cons (comp s (cons t nil)) ts) a b d g e h =
      let fails : same_text (f s) (codes ":-") ≡ false = sym d ∙ g in
      let holds : same_text (f s) (codes "?-") ≡ true = sym e ∙ h in
      ap (λ (c : Bool). if c then a_directive (directive_of (renamed f t)) else if same_text (f s) (codes "?-") then a_query else a_clause) fails
      ∙ ap (λ (c : Bool). if c then a_query else a_clause) holds
  sort-query (cons (comp s (cons t (cons u us))) ts) a b d g e h =
      let test : nat_eq (suc (suc (count us))) 1 && same_text (f s) (codes "?-") ≡ true = sym e ∙ h in
      let wrong : suc (suc (count us)) ≡ 1 = eqb-true (suc (suc (count us))) 1 (left (nat_eq (suc (suc (count us))) 1) (same_text (f s) (codes "?-")) test) in absurd (omega arith)
    where
      left : (a b : Bool) → a && b ≡ true → a ≡ true
      left true b h = refl
      left false b h = h

  pub sort-clause : (ts : Trees ℕ) (a b : Bool) → a ≡ is_functor f (codes ":-") 1 ts → a ≡ false → b ≡ is_functor f (codes "?-") 1 ts → b ≡ false → sort_of (renamed f (first ts)) ≡ a_clause
  sort-clause nil a b d g e h = refl
  sort-clause (cons (var n) ts) a b d g e h = refl
  sort-clause (cons (int z) ts) a b d g e h = refl
  sort-clause (cons (atom s) ts) a b d g e h = refl
  sort-clause (cons (comp s nil) ts) a b d g e h = refl
  sort-clause (cons (comp s (cons t nil)) ts) a b d g e h =
      let fails : same_text (f s) (codes ":-") ≡ false = sym d ∙ g in
      let none : same_text (f s) (codes "?-") ≡ false = sym e ∙ h in
      ap (λ (c : Bool). if c then a_directive (directive_of (renamed f t)) else if same_text (f s) (codes "?-") then a_query else a_clause) fails
      ∙ ap (λ (c : Bool). if c then a_query else a_clause) none
  sort-clause (cons (comp s (cons t (cons u us))) ts) a b d g e h = refl
