use Rattle.std.proofs.Common.{◌≡◌, ℕ, ◌∷◌, [], List, Option, subst, true, false, rules, arith}
use Rattle.pl_terms.specs.Trees.{Tree}
use Rattle.unifier_model.specs.Substitution.{raise}
use Rattle.unifier_model.specs.Unifier.{Solved}
use Rattle.pl_unify.specs.State.{State, tree_at}
use Rattle.pl_unify.specs.Code.{last_tree}
use Rattle.pl_unify.specs.Arguments.{arguments_of, argument_equations}
use Rattle.clause_code.proofs.HeadLaws.{head-solved, heads-unify, heads-differ, took}
use Rattle.clause_code.proofs.head.try_head.Goals as goal
use Rattle.clause_code.proofs.head.try_head.Goals.{In_ok-head_of}

abbrev old : (c : In_ok-head_of) → State
old c = c.args.store.now.state

abbrev goal_tree : (c : In_ok-head_of) → Tree ℕ
goal_tree c = tree_at c.args.store.now.state c.args.goal

abbrev head_tree : (c : In_ok-head_of) → Tree ℕ
head_tree c = last_tree c.args.head.now.words

abbrev equations : (c : In_ok-head_of) → ℕ → List (Tree ℕ × Tree ℕ)
equations c b = argument_equations (old c) b c.args.head.now.words c.first_argument-first.result (arguments_of (goal_tree c))

lift : (c : In_ok-head_of) → (r : Option (List (ℕ × Tree ℕ))) → Solved (equations c c.next_var-base.result) r → Solved ((goal_tree c, raise (old c).next (head_tree c)) ∷ []) r
lift c r h =
    subst (λ b. Solved ((goal_tree c, raise b (head_tree c)) ∷ []) r) c.next_var-base.ensures.next
    (head-solved (old c) c.next_var-base.result c.args.head.now.words c.first_argument-first.result (goal_tree c) (head_tree c) c.next_var-base.ensures.store (omega arith)
    c.requires.same c.requires.named c.first_argument-first.ensures.trees r h)

pub returns-then-not-branch-clause-no : goal.returns-then-not-branch-clause-no
returns-then-not-branch-clause-no c = λ e.
    let at = (goal.at.returns-then-not-branch-clause-no c).In_ok-head_of in
    let bad : c.in_ok-head_of.field-0 ≡ false = search rules in
    heads-differ (old at) c.head_of.new.self.state (goal_tree at) (head_tree at) (equations at c.next_var-base.result) c.in_ok-head_of.field-0 bad c.in_ok-head_of.ensures.answer (lift at)

pub returns-clause-yes : goal.returns-clause-yes
returns-clause-yes c = λ e.
    let at = (goal.at.returns-clause-yes c).In_ok-head_of in
    let ok : c.in_ok-head_of.field-0 ≡ true = search rules in
    took (old at) c.head_of.new.self.state c.make_below.new.self.state (goal_tree at) (head_tree at) c.args.head.now.vars (equations at c.next_var-base.result) c.next_var-base.ensures.store
    (heads-unify (old at) c.head_of.new.self.state (equations at c.next_var-base.result) c.in_ok-head_of.field-0 ok c.in_ok-head_of.ensures.answer)
    (lift at) (omega (arith, c.head_of.ensures.next, c.next_var-base.ensures.next)) c.make_below.ensures.grows
    (omega (arith, c.in_ok-make_below.ensures.next, c.next_var-base.ensures.next, c.vars.ensures.vars)) c.in_ok-make_below.ensures.store
