-- One more code.
use Rattle.std.proofs.Common.{◌≡◌, ℕ, zero, suc, ◌+◌, ◌<◌, ◌⊎◌, inl, inr, List, [], ◌∷◌, ◌++◌, length, get_or, refl, sym, ap, subst, ◌∙◌, arith}
use Rattle.std.proofs.lemmas.List.{get_or_append_left}
use Rattle.std.proofs.Math.Seq.{get_or-append_seam}
use Rattle.pl_terms.specs.Trees.{Tree}
use Rattle.goal_model.specs.Program.{Clause}
use Rattle.goal_code.specs.declared.shape.ControlNames.{ControlNames}
use Rattle.pl_store.specs.Linked.{StoredClause, no_clause}
use Rattle.clause_code.specs.declared.codes.ClauseCode.{ClauseCode}
use Rattle.clause_code.specs.Codes.{IsCoded, no_code, code_at}

last-or-before : (n i : ℕ) → i < n + 1 → (i < n) ⊎ (i ≡ n)
last-or-before zero zero h = inr refl
last-or-before zero (suc i) h = absurd (omega (arith, h))
last-or-before (suc n) zero h = inl (omega arith)
last-or-before (suc n) (suc i) h = elim (last-or-before n i (omega (arith, h))) [
  | inl lt ↦ inl (omega (arith, lt))
  | inr e ↦ inr (ap suc e)
]

module _ (s : ControlNames) (cs : List StoredClause) (ks : List ClauseCode) (n : ℕ) (k : ClauseCode) (count : length ks ≡ n)
    (each : (c : ℕ) → c < n → IsCoded s (get_or cs c no_clause).clause (code_at ks c)) (last : IsCoded s (get_or cs n no_clause).clause k) where
  at-end : (c : ℕ) → c ≡ n → code_at (ks ++ k ∷ []) c ≡ k
  at-end c e = ap (code_at (ks ++ k ∷ [])) (e ∙ sym count) ∙ get_or-append_seam ks k [] no_code

  pub coded-push : (c : ℕ) → c < n + 1 → IsCoded s (get_or cs c no_clause).clause (code_at (ks ++ k ∷ []) c)
  coded-push c h = elim (last-or-before n c h) [
    | inl lt ↦ subst (IsCoded s (get_or cs c no_clause).clause) (sym (get_or_append_left ks (k ∷ []) no_code c (omega (arith, lt, count)))) (each c lt)
    | inr e ↦ subst (IsCoded s (get_or cs c no_clause).clause) (sym (at-end c e)) (subst (λ m. IsCoded s (get_or cs m no_clause).clause k) (sym e) last)
  ]

-- a clause by its parts
pub parts-are : (c : Clause ℕ) (w : ℕ) (h b : Tree ℕ) → w ≡ c.width → h ≡ c.head → b ≡ c.body → (s : ControlNames) (k : ClauseCode) → IsCoded s (record { width = w; head = h; body = b }) k → IsCoded s c k
parts-are c w h b e f g s k is =
    subst (λ v. IsCoded s (record { width = v; head = c.head; body = c.body }) k) e
    (subst (λ t. IsCoded s (record { width = w; head = t; body = c.body }) k) f
    (subst (λ t. IsCoded s (record { width = w; head = h; body = t }) k) g is))
