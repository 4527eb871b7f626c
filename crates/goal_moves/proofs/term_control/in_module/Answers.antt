use Rattle.std.proofs.Common.{◌∙◌, false}
use Rattle.goal_moves.proofs.Committing.{IfOk-then}
use Rattle.goal_moves.proofs.TakenMoves.{grown_ready, grown_well, grown_steady, grew_then, moved_grown}
use Rattle.goal_moves.proofs.ArgumentMoves.{module_ball_ref, in_module_runs, in_module_ball}
use Rattle.goal_model.specs.Rows.{in_module}
use Rattle.pl_unify.specs.State.{tree_at}
use Rattle.goal_state.specs.Denotation.{state_of}
use Rattle.goal_moves.proofs.UntriedLaws.{grew_records, same_taken_off}
use Rattle.goal_moves.proofs.UntriedRows.{leaves_row, leaves_grown, quiet_in_module}
use Rattle.goal_moves.proofs.term_control.in_module.Goals as goal

pub run_taken-requires-clause-ready : goal.run_taken-requires-clause-ready
run_taken-requires-clause-ready c =
    grown_ready c.args.compiled.now c.args.path.now c.taken_for_goal.new.path c.args.active c.requires.ready (grew_then c.args.path.now c.module_of.new.path c.taken_for_goal.new.path c.in_ok-named.ensures.grew c.in_ok-taken-in-Module.ensures.grew)

pub run_taken-requires-clause-runs : goal.run_taken-requires-clause-runs
run_taken-requires-clause-runs c =
    let b = c.args.compiled.now in
    let s = grown_steady b c.args.path.now c.module_of.new.path c.args.active c.requires.ready c.in_ok-named.ensures.grew in
    in_module_runs b c.args.path.now c.module_of.new.path c.taken_for_goal.new.path c.args.active c.requires.ready c.in_ok-named.ensures.grew c.in_ok-taken-in-Module.ensures.grew c.args.goal c.args.home c.requires.row.1
    c.in_ok-taken-in-Module.taken c.in-Module.home c.in_ok-named.named c.module_of.new.path.depth (s.depth ∙ c.requires.ready.depth) c.requires.row.2 c.in_ok-named.ensures.named c.in-Module.is c.in_ok-taken-in-Module.ensures.goal

pub returns-in_ok-taken-in-Module-clause-moved : goal.returns-in_ok-taken-in-Module-clause-moved
returns-in_ok-taken-in-Module-clause-moved c =
    IfOk-then c.run_taken.result c.run_taken.ensures.moved (λ g m. moved_grown c.args.compiled.now c.args.path.now c.taken_for_goal.new.path c.args.active c.requires.ready (grew_then c.args.path.now c.module_of.new.path c.taken_for_goal.new.path c.in_ok-named.ensures.grew c.in_ok-taken-in-Module.ensures.grew) c.run_taken.new.path g m)

pub raise-requires-clause-well : goal.raise-requires-clause-well
raise-requires-clause-well c = grown_well c.args.compiled.now c.args.path.now c.module_of.new.path c.args.active c.requires.ready c.in_ok-named.ensures.grew

pub raise-requires-clause-ball : goal.raise-requires-clause-ball
raise-requires-clause-ball c = module_ball_ref c.args.compiled.now c.args.path.now c.module_of.new.path c.args.active c.requires.ready c.in_ok-named.ensures.grew c.args.goal c.args.home c.in-Ball.ball c.in_ok-named.named c.in_ok-named.ensures.named c.in-Ball.is

pub returns-in-Ball-clause-moved : goal.returns-in-Ball-clause-moved
returns-in-Ball-clause-moved c =
    IfOk-then c.raise.result c.raise.ensures.moved (λ g m. in_module_ball c.args.compiled.now c.args.path.now c.module_of.new.path c.args.active c.requires.ready c.in_ok-named.ensures.grew c.args.goal c.args.home c.raise.new.path c.in-Ball.ball c.in_ok-named.named g c.requires.row.2 c.in_ok-named.ensures.named c.in-Ball.is m)

pub returns-in_ok-taken-in-Module-clause-untried : goal.returns-in_ok-taken-in-Module-clause-untried
returns-in_ok-taken-in-Module-clause-untried c =
    IfOk-then c.run_taken.result c.run_taken.ensures.untried (λ g h. leaves_grown c.args.compiled.now c.args.path.now c.taken_for_goal.new.path c.args.active c.requires.ready (grew_then c.args.path.now c.module_of.new.path c.taken_for_goal.new.path c.in_ok-named.ensures.grew c.in_ok-taken-in-Module.ensures.grew) c.run_taken.new.path h)

pub returns-in-Ball-clause-untried : goal.returns-in-Ball-clause-untried
returns-in-Ball-clause-untried c =
    let b = c.args.compiled.now in
    let p = c.args.path.now in
    let q = c.module_of.new.path in
    IfOk-then c.raise.result c.raise.ensures.fewer (λ g off.
    leaves_row b p c.raise.new.path c.args.active (in_module (tree_at (state_of p) c.args.home) (tree_at (state_of p) c.args.goal)) false c.requires.row.2 (quiet_in_module b p c.args.active (tree_at (state_of p) c.args.home) (tree_at (state_of p) c.args.goal))
    (same_taken_off p q c.raise.new.path (grew_records p q c.in_ok-named.ensures.grew) off))
