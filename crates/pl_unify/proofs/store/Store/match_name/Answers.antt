use Rattle.std.proofs.Common.{◌∙◌, ap, refl, sym}
use Rattle.std.proofs.lemmas.Bool.{eqb-true, eqb-false}
use Rattle.pl_terms.specs.Trees.{atom}
use Rattle.unifier_model.specs.Unifier.IsClash.{atoms}
use Rattle.pl_unify.proofs.Matching.{tree-same, tree-clash, constant-bound, not_name}
use Rattle.pl_unify.proofs.store.Store.match_name.Goals as goal

pub returns-then-eq-clause-answer : goal.returns-then-eq-clause-answer
returns-then-eq-clause-answer c = tree-same _ _ _ (c.in-Name.ensures.shape ∙ ap atom (eqb-true c.in-Name.other.0 c.args.name.0 (sym c.eq.ensures ∙ c.if-eq.true)))

pub returns-else-eq-clause-answer : goal.returns-else-eq-clause-answer
returns-else-eq-clause-answer c = tree-clash _ _ _ c.in-Name.ensures.shape (atoms (eqb-false c.in-Name.other.0 c.args.name.0 (sym c.eq.ensures ∙ c.if-eq.false)))

pub returns-in_ok-bind_name-in-Var-clause-answer : goal.returns-in_ok-bind_name-in-Var-clause-answer
returns-in_ok-bind_name-in-Var-clause-answer c =
    constant-bound c.args.self.now.state c.bind_name.new.self.state _ (atom c.args.name.0) c.in-Var.n c.in-Var.ensures.shape tt refl c.in_ok-bind_name-in-Var.ensures.binds

pub returns-in_default-clause-answer : goal.returns-in_default-clause-answer
returns-in_default-clause-answer c =
    tree-clash _ _ _ c.word_at.ensures.shape (not_name c.args.self.now.state c.word_at.result c.args.name.0 c.in_default.not-Var c.in_default.not-Name)
