use Rattle.std.proofs.Common.{◌∙◌, ◌+◌, ◌≤◌, ap, sym, subst, reverse, length, arith}
use Rattle.pl_unify.specs.Words.{WordIn}
use Rattle.unifier_model.specs.Substitution.{occurs}
use Rattle.pl_unify.specs.State.{shape, tree_of_word}
use Rattle.pl_unify.proofs.Shapes.{tree_of_word-shape}
use Rattle.pl_unify.proofs.Walk.{occurs_plain}
use Rattle.pl_unify.proofs.Grounds.{Walking, walk_begin}
use Rattle.pl_unify.proofs.Matching.{IfOk-one}
use Rattle.pl_unify.proofs.store.Store.occurs.Goals as goal
use Rattle.pl_unify.proofs.store.Store.occurs.Goals.{In_ok-push_visits}

pub returns-in-Var-clause-answer : goal.returns-in-Var-clause-answer
returns-in-Var-clause-answer c = sym (ap (occurs c.args.n) (tree_of_word-shape c.args.self.now.state c.args.word c.requires.free ∙ ap (shape c.args.self.now.state) c.in-Var.is))

pub returns-in_default-clause-answer : goal.returns-in_default-clause-answer
returns-in_default-clause-answer c =
    sym (ap (occurs c.args.n) (tree_of_word-shape c.args.self.now.state c.args.word c.requires.free)
    ∙ occurs_plain c.args.self.now.state c.args.n c.args.word c.in_default.not-Var c.in_default.not-Comp)

pub push_visits-requires : goal.push_visits-requires
push_visits-requires c =
    let h : c.in-Comp.first + c.in-Comp.arity ≤ length c.args.self.now.state.cells = (subst (WordIn (length c.args.self.now.state.cells) c.args.self.now.state.next) c.in-Comp.is c.requires.within).0 in
    omega (arith, h, c.next_var-next.ensures.few)

begun : (c : In_ok-push_visits) → Walking c.take_steps-steps.new.self.state c.args.n 0 (reverse c.push_visits.new.work.items) (occurs c.args.n (tree_of_word c.args.self.now.state c.args.word))
begun c =
    walk_begin c.args.self.now.state c.take_steps-steps.new.self.state c.args.n c.in-Comp.arity c.in-Comp.first c.in-Comp.field-1 c.args.word (reverse c.push_visits.new.work.items) c.take_steps-steps.result.items
    c.take_steps-steps.ensures.state c.in-Comp.is c.requires.within c.requires.free c.in_ok-push_visits.ensures c.take_steps-steps.ensures.empty

pub walk-found-requires-clause-below : goal.walk-found-requires-clause-below
walk-found-requires-clause-below c = (begun (goal.at.walk-found-requires-clause-below c).In_ok-push_visits).below

pub walk-found-requires-clause-honest : goal.walk-found-requires-clause-honest
walk-found-requires-clause-honest c = (begun (goal.at.walk-found-requires-clause-honest c).In_ok-push_visits).honest

pub returns-clause-answer : goal.returns-clause-answer
returns-clause-answer c =
    let b = begun (goal.at.returns-clause-answer c).In_ok-push_visits in
    IfOk-one c.walk-found.result _ _ (λ ok d. d ∙ b.rest) c.walk-found.ensures.answer

pub returns-in-Some-clause-answer : goal.returns-in-Some-clause-answer
returns-in-Some-clause-answer c = c.in-Some.ensures ∙ sym (ap (occurs c.args.n) (tree_of_word-shape c.args.self.now.state c.args.word c.requires.free ∙ ap (shape c.args.self.now.state) c.in-Comp.is))

pub walk-found-requires-clause-clears : goal.walk-found-requires-clause-clears
walk-found-requires-clause-clears c = (begun (goal.at.walk-found-requires-clause-clears c).In_ok-push_visits).clears
