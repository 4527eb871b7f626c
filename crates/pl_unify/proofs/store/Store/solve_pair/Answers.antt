use Rattle.std.proofs.Common.{◌≡◌, ◌∙◌, ◌++◌, ◌∷◌, [], ap, subst, true, false, Bool, None}
use Rattle.std.specs.Prelude.{MatchBool}
use Rattle.pl_unify.specs.State.{State}
use Rattle.pl_unify.specs.Steps.{Unified, NotUnified, equations}
use Rattle.unifier_model.specs.Unifier.{Solved}
use Rattle.unifier_model.proofs.Only.{mgu-Solved}
use Rattle.pl_unify.proofs.Unifying.{progress_unified, only-moved}
use Rattle.pl_unify.proofs.Matching.{Answer, IfOk-one, answer-moved}
use Rattle.pl_unify.proofs.store.Store.solve_pair.Goals as goal
use Rattle.pl_unify.proofs.store.Store.solve_pair.Goals.{After-solve-solved}

start : (c : After-solve-solved) → c.push.new.list.items ≡ (c.args.a.0, c.args.b.0) ∷ []
start c = c.in_ok-push.ensures.ok ∙ ap (λ w. w ++ (c.args.a.0, c.args.b.0) ∷ []) c.take_equations-work.ensures.empty

go : (c : After-solve-solved) (s : State) (ok : Bool) → s ≡ c.solve-solved.new.self.state → Answer c.args.self.now.state s (equations c.args.self.now.state c.push.new.list.items) ok
    → MatchBool ok (Unified c.args.self.now.state s c.args.a c.args.b) (NotUnified c.args.self.now.state c.args.a c.args.b)
go c s true e d =
    progress_unified c.args.self.now.state s c.args.a c.args.b c.push.new.list.items (start c) (only-moved _ _ _ _ c.take_equations-work.ensures.state e c.solve-solved.ensures.only) d
go c s false e d = mgu-Solved _ None (subst (λ w. Solved (equations c.args.self.now.state w) None) (start c) d)

pub returns-clause-answer : goal.returns-clause-answer
returns-clause-answer c =
    IfOk-one c.solve-solved.result _ _
    (λ ok d. go (goal.at.returns-clause-answer c).After-solve-solved c.keep_equations.new.self.state ok c.keep_equations.ensures
    (answer-moved c.args.self.now.state c.take_equations-work.new.self.state c.solve-solved.new.self.state c.keep_equations.new.self.state c.push.new.list.items ok c.take_equations-work.ensures.state c.keep_equations.ensures d))
    c.solve-solved.ensures.answer
