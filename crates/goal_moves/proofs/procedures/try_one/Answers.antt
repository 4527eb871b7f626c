use Rattle.goal_state.specs.Denotation.{state_of}
use Rattle.goal_moves.proofs.TryLaws.{was_skipped}
use Rattle.goal_moves.proofs.OpenLaws.{with_store, undone_others, undone_state, taken_one}
use Rattle.goal_moves.proofs.UntriedClauses.{one_taken_leaves, one_fails_leaves}
use Rattle.goal_moves.proofs.procedures.try_one.Goals as goal

pub returns-then-not-branch-clause-moved : goal.returns-then-not-branch-clause-moved
returns-then-not-branch-clause-moved c =
    was_skipped c.args.compiled.now c.args.path.now (with_store c.undo.new.self c.try_clause_head.new.path) c.args.attempt.now c.args.clause.0 c.args.next.0
    (undone_others c.args.path.now c.try_clause_head.new.path c.undo.new.self c.in_ok-try_clause_head.ensures.others)
    (undone_state (state_of c.args.path.now) (state_of c.try_clause_head.new.path) c.mark-mark.result c.undo.new.self.state c.mark-mark.ensures.valid c.in_ok-try_clause_head.ensures.extends c.undo.ensures.state c.mark-mark.ensures.state)
    c.requires.trying c.requires.next (c.in_ok-try_clause_head.ensures.no c.if-not-branch.true)

pub returns-clause-moved : goal.returns-clause-moved
returns-clause-moved c =
    taken_one c.args.compiled.now c.requires.compiled c.args.path.now c.try_clause_head.new.path c.args.attempt.now c.args.clause.0 c.next_var-base.result c.next_var-base.ensures.next c.in_ok-try_clause_head.ensures.others c.requires.trying
    (c.in_ok-try_clause_head.ensures.yes c.if-not-branch.false)
    c.open_record.new.self c.args.next c.mark-mark.result c.mark-mark.ensures.valid c.mark-mark.ensures.state c.requires.next c.in_ok-open_record.ensures c.take.new.path c.in_ok-take.ensures

pub returns-then-not-branch-clause-untried : goal.returns-then-not-branch-clause-untried
returns-then-not-branch-clause-untried c =
    one_fails_leaves c.args.compiled.now c.args.path.now c.args.attempt.now c.args.clause.0 c.requires.trying (with_store c.undo.new.self c.try_clause_head.new.path) c.args.next.0
    (undone_others c.args.path.now c.try_clause_head.new.path c.undo.new.self c.in_ok-try_clause_head.ensures.others)
    (undone_state (state_of c.args.path.now) (state_of c.try_clause_head.new.path) c.mark-mark.result c.undo.new.self.state c.mark-mark.ensures.valid c.in_ok-try_clause_head.ensures.extends c.undo.ensures.state c.mark-mark.ensures.state)
    (c.in_ok-try_clause_head.ensures.no c.if-not-branch.true) c.requires.next

pub returns-clause-untried : goal.returns-clause-untried
returns-clause-untried c =
    let took = c.in_ok-try_clause_head.ensures.yes c.if-not-branch.false in
    one_taken_leaves c.args.compiled.now c.args.path.now c.args.attempt.now c.args.clause.0 c.requires.trying c.try_clause_head.new.path c.open_record.new.self c.take.new.path c.args.next c.mark-mark.result took.unifier
    c.in_ok-try_clause_head.ensures.others c.in_ok-open_record.ensures c.in_ok-take.ensures.others took.solved c.requires.next
