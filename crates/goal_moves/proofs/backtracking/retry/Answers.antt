use Rattle.std.proofs.Common.{◌∙◌, sym, ap}
use Rattle.goal_state.specs.declared.choice.ChoiceKind.TheVariants.{Clauses}
use Rattle.goal_moves.proofs.RetryLaws.{catch_left, retried_branch, retried_clauses, retried_trying, inside_branch, inside_clauses, IfOk-then}
use Rattle.goal_moves.proofs.backtracking.retry.Goals as goal

pub try_clauses-requires-clause-trying : goal.try_clauses-requires-clause-trying
try_clauses-requires-clause-trying c =
    let a = c.attempt_of-attempt.ensures in
    let is = c.in-Clauses.is ∙ ap (Clauses c.in-Clauses.clause) (sym a.goal) in
    retried_trying c.args.compiled.now c.args.path.now c.go_back-in-Clauses.new.self c.args.choice (inside_clauses c.args.path.now c.args.choice _ _ c.in-Clauses.is) c.requires.well
    c.go_back-in-Clauses.ensures.state c.go_back-in-Clauses.ensures.frames c.go_back-in-Clauses.ensures.others c.attempt_of-attempt.result c.in-Clauses.clause is a.depth a.env a.base a.within a.rest

pub returns-in-Branch-clause-moved : goal.returns-in-Branch-clause-moved
returns-in-Branch-clause-moved c =
    retried_branch c.args.compiled.now c.args.path.now c.go_back.new.self c.args.choice (inside_branch c.args.path.now c.args.choice c.in-Branch.is) c.requires.well
    c.go_back.ensures.state c.go_back.ensures.frames c.go_back.ensures.others c.after-f.result.0 c.after-f.result.1 c.in-Branch.is c.after-f.ensures.items

pub returns-in-Clauses-clause-moved : goal.returns-in-Clauses-clause-moved
returns-in-Clauses-clause-moved c =
    let a = c.attempt_of-attempt.ensures in
    let is = c.in-Clauses.is ∙ ap (Clauses c.in-Clauses.clause) (sym a.goal) in
    IfOk-then c.try_clauses.result c.try_clauses.ensures.moved (λ g h.
    retried_clauses c.args.compiled.now c.args.path.now c.go_back-in-Clauses.new.self c.args.choice (inside_clauses c.args.path.now c.args.choice _ _ c.in-Clauses.is) c.requires.well
    c.go_back-in-Clauses.ensures.state c.go_back-in-Clauses.ensures.frames c.go_back-in-Clauses.ensures.others c.attempt_of-attempt.result c.in-Clauses.clause is a.depth a.env a.base a.within a.rest c.try_clauses.new.path g h)

pub returns-in-Catch-clause-moved : goal.returns-in-Catch-clause-moved
returns-in-Catch-clause-moved c = catch_left c.args.compiled.now c.args.path.now c.args.choice _ _ _ c.in-Catch.is c.requires.well
