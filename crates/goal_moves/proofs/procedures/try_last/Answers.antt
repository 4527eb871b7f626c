use Rattle.goal_moves.proofs.TryLaws.{gone}
use Rattle.goal_moves.proofs.TakeLaws.{taken_last}
use Rattle.goal_moves.proofs.UntriedClauses.{last_taken_leaves, last_fails_leaves}
use Rattle.goal_moves.proofs.procedures.try_last.Goals as goal

pub returns-then-not-branch-clause-moved : goal.returns-then-not-branch-clause-moved
returns-then-not-branch-clause-moved c =
    gone c.args.compiled.now c.args.path.now c.try_clause_head.new.path c.args.attempt.now c.args.clause.0 c.in_ok-try_clause_head.ensures.others c.in_ok-try_clause_head.ensures.extends c.in_ok-try_clause_head.ensures.store c.requires.trying
    (c.in_ok-try_clause_head.ensures.no c.if-not-branch.true) c.requires.last

pub returns-clause-moved : goal.returns-clause-moved
returns-clause-moved c =
    taken_last c.args.compiled.now c.requires.compiled c.args.path.now c.try_clause_head.new.path c.args.attempt.now c.args.clause.0 c.next_var-base.result c.next_var-base.ensures.next c.in_ok-try_clause_head.ensures.others c.requires.trying
    (c.in_ok-try_clause_head.ensures.yes c.if-not-branch.false) c.take.new.path c.requires.last c.in_ok-take.ensures

pub returns-then-not-branch-clause-untried : goal.returns-then-not-branch-clause-untried
returns-then-not-branch-clause-untried c =
    last_fails_leaves c.args.compiled.now c.args.path.now c.args.attempt.now c.args.clause.0 c.requires.trying c.try_clause_head.new.path c.in_ok-try_clause_head.ensures.others (c.in_ok-try_clause_head.ensures.no c.if-not-branch.true) c.requires.last

pub returns-clause-untried : goal.returns-clause-untried
returns-clause-untried c =
    let took = c.in_ok-try_clause_head.ensures.yes c.if-not-branch.false in
    last_taken_leaves c.args.compiled.now c.args.path.now c.args.attempt.now c.args.clause.0 c.requires.trying c.try_clause_head.new.path c.take.new.path took.unifier c.in_ok-try_clause_head.ensures.others c.in_ok-take.ensures.others took.solved c.requires.last
