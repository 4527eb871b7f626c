use Rattle.std.proofs.Common.{◌≡◌, ◌∙◌, ap, subst, refl, rules}
use Rattle.std.specs.Int.{w64, cast_unsigned}
use Rattle.std.proofs.lemmas.Int.{to_z-of_z}
use Rattle.pl_terms.specs.Trees.{int}
use Rattle.unifier_model.specs.Unifier.IsClash.{ints}
use Rattle.pl_unify.specs.State.{Binds}
use Rattle.pl_unify.proofs.Matching.{tree-same, tree-clash, constant-bound, not_int}
use Rattle.pl_unify.proofs.store.Store.match_int.Goals as goal

pub returns-then-other-value-clause-answer : goal.returns-then-other-value-clause-answer
returns-then-other-value-clause-answer c =
    let same : c.in-Int.other ≡ c.args.value = search rules in
    tree-same _ _ _ (c.in-Int.ensures.shape ∙ ap int same)

pub returns-else-other-value-clause-answer : goal.returns-else-other-value-clause-answer
returns-else-other-value-clause-answer c = tree-clash _ _ _ c.in-Int.ensures.shape (ints (λ e. c.if-other-value.false (ap (cast_unsigned w64) e)))

pub returns-in_ok-bind_int-in-Var-clause-answer : goal.returns-in_ok-bind_int-in-Var-clause-answer
returns-in_ok-bind_int-in-Var-clause-answer c =
    constant-bound c.args.self.now.state c.bind_int.new.self.state _ (int c.args.value) c.in-Var.n c.in-Var.ensures.shape tt refl
    (subst (λ z. Binds c.args.self.now.state c.bind_int.new.self.state c.in-Var.n (int z)) (to_z-of_z w64 c.args.value c.ranges.value) c.in_ok-bind_int-in-Var.ensures.binds)

pub returns-in_default-clause-answer : goal.returns-in_default-clause-answer
returns-in_default-clause-answer c =
    tree-clash _ _ _ c.word_at.ensures.shape (not_int c.args.self.now.state c.word_at.result c.args.value c.in_default.not-Var c.in_default.not-Int)
