use Rattle.std.proofs.Common.{◌∙◌, sym, ap, Err, ℕ}
use Rattle.pl_terms.specs.Trees.{Tree, atom}
use Rattle.goal_constructs.specs.declared.names.GoalNames.{GoalNames}
use Rattle.goal_constructs.specs.Balls.{error_by, two}
use Rattle.pl_unify.specs.State.{tree_at}
use Rattle.goal_constructs.proofs.ListLaws.{no-fault, fault}
use Rattle.goal_constructs.proofs.constructs.Constructs.list_ball.Goals as goal

pub returns-then-may_be_list-clause-ball : goal.returns-then-may_be_list-clause-ball
returns-then-may_be_list-clause-ball c = λ n are.
    no-fault n c.args.self.now.names are.names (tree_at c.args.store.now.state c.args.term) c.args.name.0 c.args.arity (sym c.may_be_list.ensures ∙ c.if-may_be_list.true)

pub returns-clause-ball : goal.returns-clause-ball
returns-clause-ball c = λ n are.
    let t : Tree ℕ = tree_at c.args.store.now.state c.args.term in
    let by : GoalNames → ℕ → Tree ℕ = λ g word. error_by g (two g.type_error.0 (atom word) t) c.args.name.0 c.args.arity in (
      c.in_ok-ball.ensures.place,
      fault n c.args.self.now.names are.names t c.args.name.0 c.args.arity (sym c.may_be_list.ensures ∙ c.if-may_be_list.false)
          ∙ ap Err (ap (λ g. by c.args.self.now.names g.list_word.0) (sym c.names.ensures) ∙ sym c.in_ok-ball.ensures.tree),
    )
