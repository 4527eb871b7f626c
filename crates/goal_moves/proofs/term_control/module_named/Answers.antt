use Rattle.pl_store.specs.Runs.{program_of}
use Rattle.pl_unify.specs.State.{tree_at}
use Rattle.goal_model.specs.Table.{no_module}
use Rattle.goal_state.specs.Denotation.{linked, naming}
use Rattle.goal_moves.proofs.ModuleNames.{no_module_err}
use Rattle.goal_moves.proofs.term_control.module_named.Goals as goal

pub returns-clause-named : goal.returns-clause-named
returns-clause-named c = λ f k.
    let b = c.args.compiled.now in (
      c.in_ok-ball.ensures.place,
      no_module_err ((program_of (linked b)).exists c.args.home.0) c.is_module-exists.result c.args.home.0 (no_module (naming b) c.args.home.0 c.args.lookup.0) (tree_at c.no_module.new.store.state c.in_ok-ball.ball) c.is_module-exists.ensures c.if-exists.false (c.in_ok-ball.ensures.tree (naming b) c.requires.compiled.constructs),
    )
