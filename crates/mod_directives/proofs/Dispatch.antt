-- The forms of directives, from the cells of their terms.
use Rattle.std.proofs.Common.{◌≡◌, ℕ, List, codes, Bool, true, false, Option, Some, Err, if◌then◌else◌, refl, sym, ap, ◌∙◌, arith}
use Rattle.pl_atoms.specs.declared.names.NameId.{NameId}
use Rattle.pl_ops.specs.Tables.{same_text}
use Rattle.pl_terms.specs.Trees.{Tree, var, int, atom, comp, Trees, nil, cons, count, back, renamed}
use Rattle.pl_terms.specs.Cells.{first}
use Rattle.pl_terms.specs.declared.cell.Cell.{Cell}
use Rattle.pl_terms.specs.declared.cell.Cell.TheVariants.{Comp}
use Rattle.unit_model.specs.Directives.{directive_of, unary_form, binary_form, operator_form}
use Rattle.term_walk.specs.Walks.{first_cell, entered, trees-nil}

module _ (f : ℕ → List ℕ) where
  -- a compound term that stands alone
  pub record IsApplied (t : Tree ℕ) (s : NameId) (k : ℕ) (us : Trees ℕ) : Type 0 where
    pub number : count us ≡ k
    pub term : t ≡ comp s.0 us

  pub applied : (ts us : Trees ℕ) (c : Option Cell) (s : NameId) (k : ℕ) → count ts ≡ 1 → c ≡ first_cell ts → c ≡ Some (Comp s k) → us ≡ entered ts → IsApplied (first ts) s k us
  applied nil us c s k one e is next = absurd (omega arith)
  applied (cons (var n) nil) us c s k one e is next = absurd (cc)
  applied (cons (int z) nil) us c s k one e is next = absurd (cc)
  applied (cons (atom r) nil) us c s k one e is next = absurd (cc)
  applied (cons (comp r vs) nil) us c s k one e is next =
      let same : us ≡ vs = next ∙ trees-nil vs in
      let name : r ≡ s.0 = cc in
      let number : count vs ≡ k = cc in
      record { number = ap count same ∙ number; term = ap (λ m. comp m vs) name ∙ ap (comp s.0) (sym same) }
  applied (cons t (cons u vs)) us c s k one e is next = absurd (omega arith)

  -- no compound term is no directive
  pub no_term : (ts : Trees ℕ) (c : Option Cell) → c ≡ first_cell ts → ((s : NameId) (k : ℕ) → c ≡ Some (Comp s k) → ⊥) → directive_of (renamed f (first ts)) ≡ Err 8
  no_term nil c e absent = refl
  no_term (cons (var n) ts) c e absent = refl
  no_term (cons (int z) ts) c e absent = refl
  no_term (cons (atom r) ts) c e absent = refl
  no_term (cons (comp r vs) ts) c e absent = absurd (absent (record { 0 = r }) (count vs) e)

  one-form : (s : ℕ) (us : Trees ℕ) → count us ≡ 1 → directive_of (renamed f (comp s us)) ≡ unary_form (f s) (renamed f (first us))
  one-form s nil h = absurd (omega arith)
  one-form s (cons t nil) h = refl
  one-form s (cons t (cons u us)) h = absurd (omega arith)

  two-form : (s : ℕ) (us : Trees ℕ) → count us ≡ 2 → directive_of (renamed f (comp s us)) ≡ binary_form (f s) (renamed f (first us)) (renamed f (first (back 1 us)))
  two-form s nil h = absurd (omega arith)
  two-form s (cons t nil) h = absurd (omega arith)
  two-form s (cons t (cons u nil)) h = refl
  two-form s (cons t (cons u (cons v us))) h = absurd (omega arith)

  three-form : (s : ℕ) (us : Trees ℕ) → count us ≡ 3 → directive_of (renamed f (comp s us)) ≡ (if same_text (f s) (codes "op") then operator_form (renamed f (first us)) (renamed f (first (back 1 us))) (renamed f (first (back 2 us))) else Err 8)
  three-form s nil h = absurd (omega arith)
  three-form s (cons t nil) h = absurd (omega arith)
  three-form s (cons t (cons u nil)) h = absurd (omega arith)
  three-form s (cons t (cons u (cons v nil))) h = refl
  three-form s (cons t (cons u (cons v (cons w us)))) h = absurd (omega arith)

  other-form : (s : ℕ) (us : Trees ℕ) → (count us ≡ 1 → ⊥) → (count us ≡ 2 → ⊥) → (count us ≡ 3 → ⊥) → directive_of (renamed f (comp s us)) ≡ Err 8
  other-form s nil a b c = refl
  other-form s (cons t nil) a b c = absurd (a refl)
  other-form s (cons t (cons u nil)) a b c = absurd (b refl)
  other-form s (cons t (cons u (cons v nil))) a b c = absurd (c refl)
  other-form s (cons t (cons u (cons v (cons w us)))) a b c = refl

  module _ (t : Tree ℕ) (s : NameId) (k : ℕ) (us : Trees ℕ) (a : IsApplied t s k us) where
    at : directive_of (renamed f t) ≡ directive_of (renamed f (comp s.0 us))
    at = ap (λ x. directive_of (renamed f x)) a.term

    pub unary-at : k ≡ 1 → directive_of (renamed f t) ≡ unary_form (f s.0) (renamed f (first us))
    unary-at e = at ∙ one-form s.0 us (a.number ∙ e)

    pub binary-at : k ≡ 2 → directive_of (renamed f t) ≡ binary_form (f s.0) (renamed f (first us)) (renamed f (first (back 1 us)))
    binary-at e = at ∙ two-form s.0 us (a.number ∙ e)

    pub op-at : k ≡ 3 → same_text (f s.0) (codes "op") ≡ true → directive_of (renamed f t) ≡ operator_form (renamed f (first us)) (renamed f (first (back 1 us))) (renamed f (first (back 2 us)))
    op-at e h = at ∙ three-form s.0 us (a.number ∙ e) ∙ ap (λ (b : Bool). if b then operator_form (renamed f (first us)) (renamed f (first (back 1 us))) (renamed f (first (back 2 us))) else Err 8) h

    pub no_op-at : k ≡ 3 → same_text (f s.0) (codes "op") ≡ false → directive_of (renamed f t) ≡ Err 8
    no_op-at e h = at ∙ three-form s.0 us (a.number ∙ e) ∙ ap (λ (b : Bool). if b then operator_form (renamed f (first us)) (renamed f (first (back 1 us))) (renamed f (first (back 2 us))) else Err 8) h

    pub none-at : (k ≡ 1 → ⊥) → (k ≡ 2 → ⊥) → (k ≡ 3 → ⊥) → directive_of (renamed f t) ≡ Err 8
    none-at x y z = at ∙ other-form s.0 us (λ h. x (sym a.number ∙ h)) (λ h. y (sym a.number ∙ h)) (λ h. z (sym a.number ∙ h))
