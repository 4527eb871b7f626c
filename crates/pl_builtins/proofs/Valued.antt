-- Ends of expressions.
use Rattle.std.proofs.Common.{◌≡◌, ◌∙◌, ℕ, ℤ, List, ap, sym, subst, Bool, Result, Ok, Err}
use Rattle.pl_terms.specs.Trees.{Tree}
use Rattle.pl_unify.specs.State.{State}
use Rattle.value_model.specs.declared.EvalFault.{EvalFault}
use Rattle.value_model.specs.declared.EvalFault.TheVariants.{NoMemory}
use Rattle.value_model.specs.Value.{value as value_of}
use Rattle.builtin_model.specs.declared.row.Relation.{Relation}
use Rattle.builtin_model.specs.Naming.{by_numbers}
use Rattle.builtin_model.specs.Values.{Valued, value, eval_fault, as_valued}
use Rattle.builtin_model.specs.Deeds.{raise, whether, assigned, related, holds}
use Rattle.builtin_model.proofs.ValueLaw.{value-numbers}
use Rattle.pl_builtin_ends.specs.declared.done.Done.{Done}
use Rattle.pl_builtins.specs.Evaluated.{IsRaised}
use Rattle.pl_builtin_ends.specs.Meets.{Meets}

module _ (names : List (List ℕ)) (t : Tree ℕ) where
  pub valued-ok : (z : ℤ) → ((◌≡◌ {A = Result ℤ EvalFault} (Ok z) (Err NoMemory) → ⊥) → Ok z ≡ value_of names t) → value (by_numbers names) t ≡ Ok z
  valued-ok z h = value-numbers names t ∙ ap as_valued (sym (h (λ e. absurd (cc))))

  pub valued-err : (fault : EvalFault) → ((◌≡◌ {A = Result ℤ EvalFault} (Err fault) (Err NoMemory) → ⊥) → Err fault ≡ value_of names t) → (fault ≡ NoMemory → ⊥) → value (by_numbers names) t ≡ Err (eval_fault fault)
  valued-err fault h n = value-numbers names t ∙ ap as_valued (sym (h (λ e. n (cc))))

module _ (s : State) (r : Relation) (v w : Valued ℕ) (done : Done) where
  pub related-ok : (x y : ℤ) (b : Bool) → v ≡ Ok x → w ≡ Ok y → b ≡ holds r x y → Meets s s (whether b) done → Meets s s (related r v w) done
  related-ok x y b ev ew eb h =
      let e : related r v w ≡ whether b = ap (λ u. related r u w) ev ∙ ap (related r (Ok x)) ew ∙ ap whether (sym eb) in
      subst (λ d. Meets s s d done) (sym e) h

  pub related-left : (fault : EvalFault) → v ≡ Err (eval_fault fault) → IsRaised fault done → Meets s s (related r v w) done
  related-left fault ev h =
      let e : related r v w ≡ raise (eval_fault fault) = ap (λ u. related r u w) ev in
      subst (λ d. Meets s s d done) (sym e) (h.meets s)

  pub related-right : (x : ℤ) (fault : EvalFault) → v ≡ Ok x → w ≡ Err (eval_fault fault) → IsRaised fault done → Meets s s (related r v w) done
  related-right x fault ev ew h =
      let e : related r v w ≡ raise (eval_fault fault) = ap (λ u. related r u w) ev ∙ ap (related r (Ok x)) ew in
      subst (λ d. Meets s s d done) (sym e) (h.meets s)

pub assigned-err : (s : State) (t : Tree ℕ) (v : Valued ℕ) (fault : EvalFault) (done : Done) → v ≡ Err (eval_fault fault) → IsRaised fault done → Meets s s (assigned t v) done
assigned-err s t v fault done e h = subst (λ d. Meets s s d done) (sym (ap (assigned t) e)) (h.meets s)
