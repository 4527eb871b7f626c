use Rattle.std.proofs.Common.{[]}
use Rattle.pl_unify.specs.State.{tree_at}
use Rattle.goal_code.specs.Shapes.{conjuncts}
use Rattle.goal_constructs.specs.Conjuncts.{Appends}
use Rattle.goal_state.specs.Denotation.{state_of}
use Rattle.goal_moves.proofs.EnterLaws.{goals_refs, entered_goals, appends_alone}
use Rattle.goal_moves.proofs.enter.enter_goals.Goals as goal

pub enter_all-requires-clause-goals : goal.enter_all-requires-clause-goals
enter_all-requires-clause-goals c =
    goals_refs (state_of c.args.path.now) c.deref.result.now (conjuncts c.args.compiled.now.constructs.names.control (tree_at (state_of c.args.path.now) c.args.term))
    (appends_alone (state_of c.args.path.now) _ _ c.deref.result.now _ c.new-goals.ensures.items c.deref.ensures.value c.in_ok-conjuncts.ensures)

pub returns : goal.returns
returns c =
    let made : Appends (state_of c.args.path.now) [] c.deref.result.now (conjuncts c.args.compiled.now.constructs.names.control (tree_at (state_of c.args.path.now) c.args.term))
    = appends_alone (state_of c.args.path.now) _ _ c.deref.result.now _ c.new-goals.ensures.items c.deref.ensures.value c.in_ok-conjuncts.ensures in
    entered_goals c.args.compiled.now c.args.path.now c.enter_all.new.path c.args.term c.args.setting c.args.rest c.in_ok-at.at.f c.in_ok-at.at.pc c.deref.result.now c.requires.compiled.constructs made (c.in_ok-at.ensures c.args.compiled.now)
