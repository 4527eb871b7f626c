use Rattle.pl_unify.specs.State.{tree_at}
use Rattle.goal_state.specs.Denotation.{naming, state_of}
use Rattle.goal_moves.proofs.CallLaws.{procedure_seen}
use Rattle.goal_moves.proofs.GoalLaws.{user_named}
use Rattle.goal_moves.proofs.procedures.call_procedure.Goals as goal

pub name_and_arity-arity-requires-clause-named : goal.name_and_arity-arity-requires-clause-named
name_and_arity-arity-requires-clause-named c = user_named (naming c.args.compiled.now) (tree_at (state_of c.args.path.now) c.args.active.goal) _ _ c.requires.row

pub call_clauses-requires-clause-seen : goal.call_clauses-requires-clause-seen
call_clauses-requires-clause-seen c = procedure_seen c.args.compiled.now c.args.path.now c.args.active _ c.in-Some.proc.0 c.requires.compiled c.name_and_arity-arity.ensures c.in-Some.ensures
