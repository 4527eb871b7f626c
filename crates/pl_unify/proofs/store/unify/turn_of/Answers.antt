use Rattle.std.proofs.Common.{refl, ap, sym, ◌∙◌, not}
use Rattle.std.proofs.lemmas.Bool.{eqb-false, eq-eqb, false≢true}
use Rattle.pl_atoms.specs.declared.names.NameId.{NameId}
use Rattle.pl_unify.proofs.Solving.{clash_int, clash_name, clash_comp, clash_ints, clash_names, clash_functors, clash_counts, words_clash_at}
use Rattle.pl_unify.proofs.store.unify.turn_of.Goals as goal

pub returns-else-x-y : goal.returns-else-x-y
returns-else-x-y c = words_clash_at _ _ _ _ c.in-Int.is c.in-Int-right.is (clash_ints _ _ (λ e. c.if-x-y.false (rw e)))

pub returns-in_default-right : goal.returns-in_default-right
returns-in_default-right c = words_clash_at _ _ _ _ c.in-Int.is refl (clash_int _ _ c.in_default-right.not-Var c.in_default-right.not-Int)

pub returns-else-eq : goal.returns-else-eq
returns-else-eq c = words_clash_at _ _ _ _ c.in-Name.is c.in-Name-right.is (clash_names _ _ (λ e. eqb-false c.in-Name.a.0 c.in-Name-right.b.0 (sym c.eq.ensures ∙ c.if-eq.false) (ap (λ (n : NameId). n.0) e)))

pub returns-in_default-right-2 : goal.returns-in_default-right-2
returns-in_default-right-2 c = words_clash_at _ _ _ _ c.in-Name.is refl (clash_name _ _ c.in_default-right-2.not-Var c.in_default-right-2.not-Name)

pub returns-then-ne : goal.returns-then-ne
returns-then-ne c = words_clash_at _ _ _ _ c.in-Comp.is c.in-Comp-right.is (clash_functors _ _ _ _ _ _ (λ e. false≢true (ap not (sym (eq-eqb c.in-Comp.f.0 c.in-Comp-right.g.0 (ap (λ (n : NameId). n.0) e))) ∙ (sym c.ne.ensures ∙ c.if-ne.true))))

pub returns-then-j-k : goal.returns-then-j-k
returns-then-j-k c = words_clash_at _ _ _ _ c.in-Comp.is c.in-Comp-right.is (clash_counts _ _ _ _ _ _ c.if-j-k.true)

pub returns-in_default-right-3 : goal.returns-in_default-right-3
returns-in_default-right-3 c = words_clash_at _ _ _ _ c.in-Comp.is refl (clash_comp _ _ _ _ c.in_default-right-3.not-Var c.in_default-right-3.not-Comp)
