use Rattle.std.proofs.Common.{◌∙◌, ap, subst, refl, arith}
use Rattle.pl_unify.specs.State.{tree_at}
use Rattle.goal_state.specs.Denotation.{state_of}
use Rattle.goal_state.specs.declared.path.Path.{Path}
use Rattle.goal_constructs.specs.Balls.{IsFault}
use Rattle.goal_constructs.specs.Calling.{IsCalled}
use Rattle.goal_moves.proofs.RetryLaws.{IfOk-then}
use Rattle.goal_moves.proofs.RowMoves.{steady_well}
use Rattle.goal_moves.proofs.Turning.{stack_of}
use Rattle.goal_moves.proofs.TakenMoves.{grown_steady, grown_ball, grew_then}
use Rattle.goal_moves.proofs.ArgumentMoves.{taken_at}
use Rattle.goal_moves.proofs.CollectMoves.{collect_goal, list_raised, goal_raised, goal_opened, taken_after, listed_at}
use Rattle.goal_moves.proofs.UntriedLaws.{same_taken_off, opened_more}
use Rattle.goal_moves.proofs.UntriedRows.{raised_leaves, opened_leaves}
use Rattle.goal_moves.proofs.collecting.collecting.Goals as goal

pub raise-requires-clause-well : goal.raise-requires-clause-well
raise-requires-clause-well c =
    let b = c.args.compiled.now in
    steady_well b c.args.path.now c.list_fault.new.path c.args.active (stack_of b c.args.path.now) c.args.active.node c.requires.ready (omega arith) (grown_steady b c.args.path.now c.list_fault.new.path c.args.active c.requires.ready c.in_ok-ball.ensures.grew)

pub returns-in-Some-clause-moved : goal.returns-in-Some-clause-moved
returns-in-Some-clause-moved c =
    let b = c.args.compiled.now in
    let old : Path = c.args.path.now in
    let fault = subst (IsFault (state_of c.list_fault.new.path) (listed_at b old c.args.active c.args.template c.args.goal c.args.list) (tree_at (state_of old) c.args.list)) c.in-Some.is c.in_ok-ball.ensures.ball in
    IfOk-then c.raise.result c.raise.ensures.moved (λ r m.
    grown_ball b old c.list_fault.new.path c.args.active c.requires.ready c.in_ok-ball.ensures.grew c.raise.new.path c.in-Some.ball (tree_at (state_of c.list_fault.new.path) c.in-Some.ball) r refl
    (list_raised b old c.args.active c.args.template c.args.goal c.args.list (tree_at (state_of c.list_fault.new.path) c.in-Some.ball) c.requires.row.3 fault.1) m)

pub raise-requires-in-Ball-clause-well : goal.raise-requires-in-Ball-clause-well
raise-requires-in-Ball-clause-well c =
    let b = c.args.compiled.now in
    let old : Path = c.args.path.now in
    let p : Path = c.taken_for_goal.new.path in
    let g = grew_then old c.list_fault.new.path p c.in_ok-ball.ensures.grew c.in_ok-taken.ensures.grew in
    steady_well b old p c.args.active (stack_of b old) c.args.active.node c.requires.ready (omega arith) (grown_steady b old p c.args.active c.requires.ready g)

pub returns-in_ok-enter_goals-in-Goal-clause-moved : goal.returns-in_ok-enter_goals-in-Goal-clause-moved
returns-in_ok-enter_goals-in-Goal-clause-moved c =
    let b = c.args.compiled.now in
    let a = c.args.active in
    let old : Path = c.args.path.now in
    let first : Path = c.list_fault.new.path in
    let p : Path = c.taken_for_goal.new.path in
    let g = grew_then old first p c.in_ok-ball.ensures.grew c.in_ok-taken.ensures.grew in
    let fault = subst (IsFault (state_of first) (listed_at b old a c.args.template c.args.goal c.args.list) (tree_at (state_of old) c.args.list)) c.in_default.is c.in_ok-ball.ensures.ball in
    let taken = subst (IsCalled (state_of p) (taken_at b old a c.args.goal)) c.in-Goal.is (taken_after b old first p a c.requires.ready c.in_ok-ball.ensures.grew c.args.goal c.requires.row.1 c.in_ok-taken.taken c.in_ok-taken.ensures.goal) in
    collect_goal b old p a c.requires.ready g c.args.template c.args.goal c.args.list c.requires.row.0 c.requires.row.2 c.open_here.new.path c.in_ok-open_here-in-Goal.ensures c.push.new.list c.new.result c.new.ensures.items c.in_ok-push-in-Goal.ensures.ok
    c.enter_goals.new.path c.in-Goal.body c.argument_setting-inner.result first.depth (ap (λ x. x.depth) c.in_ok-ball.ensures.grew.others ∙ c.requires.ready.depth) c.argument_setting-inner.ensures
    (goal_opened b old a c.args.template c.args.goal c.args.list (tree_at (state_of p) c.in-Goal.body) c.requires.row.3 fault taken.1) c.in_ok-enter_goals-in-Goal.ensures

pub returns-in-Ball-clause-moved : goal.returns-in-Ball-clause-moved
returns-in-Ball-clause-moved c =
    let b = c.args.compiled.now in
    let a = c.args.active in
    let old : Path = c.args.path.now in
    let first : Path = c.list_fault.new.path in
    let p : Path = c.taken_for_goal.new.path in
    let g = grew_then old first p c.in_ok-ball.ensures.grew c.in_ok-taken.ensures.grew in
    let fault = subst (IsFault (state_of first) (listed_at b old a c.args.template c.args.goal c.args.list) (tree_at (state_of old) c.args.list)) c.in_default.is c.in_ok-ball.ensures.ball in
    let taken = subst (IsCalled (state_of p) (taken_at b old a c.args.goal)) c.in-Ball.is (taken_after b old first p a c.requires.ready c.in_ok-ball.ensures.grew c.args.goal c.requires.row.1 c.in_ok-taken.taken c.in_ok-taken.ensures.goal) in
    IfOk-then c.raise-in-Ball.result c.raise-in-Ball.ensures.moved (λ r m.
    grown_ball b old p a c.requires.ready g c.raise-in-Ball.new.path c.in-Ball.ball (tree_at (state_of p) c.in-Ball.ball) r refl
    (goal_raised b old a c.args.template c.args.goal c.args.list (tree_at (state_of p) c.in-Ball.ball) c.requires.row.3 fault taken.1) m)

-- ---- what is left untried

pub returns-in-Some-clause-untried : goal.returns-in-Some-clause-untried
returns-in-Some-clause-untried c =
    let b = c.args.compiled.now in
    let old : Path = c.args.path.now in
    let first : Path = c.list_fault.new.path in
    let fault = subst (IsFault (state_of first) (listed_at b old c.args.active c.args.template c.args.goal c.args.list) (tree_at (state_of old) c.args.list)) c.in-Some.is c.in_ok-ball.ensures.ball in
    IfOk-then c.raise.result c.raise.ensures.fewer (λ r off.
    raised_leaves b old c.args.active c.raise.new.path (tree_at (state_of first) c.in-Some.ball) (list_raised b old c.args.active c.args.template c.args.goal c.args.list (tree_at (state_of first) c.in-Some.ball) c.requires.row.3 fault.1)
    (same_taken_off old first c.raise.new.path (ap (λ x. x.choices) c.in_ok-ball.ensures.grew.others) off))

pub returns-in-Ball-clause-untried : goal.returns-in-Ball-clause-untried
returns-in-Ball-clause-untried c =
    let b = c.args.compiled.now in
    let a = c.args.active in
    let old : Path = c.args.path.now in
    let first : Path = c.list_fault.new.path in
    let p : Path = c.taken_for_goal.new.path in
    let g = grew_then old first p c.in_ok-ball.ensures.grew c.in_ok-taken.ensures.grew in
    let fault = subst (IsFault (state_of first) (listed_at b old a c.args.template c.args.goal c.args.list) (tree_at (state_of old) c.args.list)) c.in_default.is c.in_ok-ball.ensures.ball in
    let taken = subst (IsCalled (state_of p) (taken_at b old a c.args.goal)) c.in-Ball.is (taken_after b old first p a c.requires.ready c.in_ok-ball.ensures.grew c.args.goal c.requires.row.1 c.in_ok-taken.taken c.in_ok-taken.ensures.goal) in
    IfOk-then c.raise-in-Ball.result c.raise-in-Ball.ensures.fewer (λ r off.
    raised_leaves b old a c.raise-in-Ball.new.path (tree_at (state_of p) c.in-Ball.ball) (goal_raised b old a c.args.template c.args.goal c.args.list (tree_at (state_of p) c.in-Ball.ball) c.requires.row.3 fault taken.1)
    (same_taken_off old p c.raise-in-Ball.new.path (ap (λ x. x.choices) g.others) off))

pub returns-in_ok-enter_goals-in-Goal-clause-untried : goal.returns-in_ok-enter_goals-in-Goal-clause-untried
returns-in_ok-enter_goals-in-Goal-clause-untried c =
    let b = c.args.compiled.now in
    let a = c.args.active in
    let old : Path = c.args.path.now in
    let first : Path = c.list_fault.new.path in
    let p : Path = c.taken_for_goal.new.path in
    let g = grew_then old first p c.in_ok-ball.ensures.grew c.in_ok-taken.ensures.grew in
    let fault = subst (IsFault (state_of first) (listed_at b old a c.args.template c.args.goal c.args.list) (tree_at (state_of old) c.args.list)) c.in_default.is c.in_ok-ball.ensures.ball in
    let taken = subst (IsCalled (state_of p) (taken_at b old a c.args.goal)) c.in-Goal.is (taken_after b old first p a c.requires.ready c.in_ok-ball.ensures.grew c.args.goal c.requires.row.1 c.in_ok-taken.taken c.in_ok-taken.ensures.goal) in
    opened_leaves b old a c.enter_goals.new.path _ _ (goal_opened b old a c.args.template c.args.goal c.args.list (tree_at (state_of p) c.in-Goal.body) c.requires.row.3 fault taken.1) refl
    (opened_more old p c.open_here.new.path c.enter_goals.new.path _ _ _ _ _ (ap (λ x. x.choices) g.others) c.in_ok-open_here-in-Goal.ensures (ap (λ x. x.choices) c.in_ok-enter_goals-in-Goal.ensures.others))
