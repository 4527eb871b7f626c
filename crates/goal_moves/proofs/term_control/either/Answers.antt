use Rattle.std.proofs.Common.{◌≤◌, length, sym, refl, subst, true}
use Rattle.goal_state.specs.Denotation.{items_here, state_of}
use Rattle.goal_state.specs.declared.choice.ChoiceKind.TheVariants.{Branch}
use Rattle.goal_moves.specs.Control.{OpenedHere}
use Rattle.goal_moves.specs.Moves.{here}
use Rattle.goal_moves.proofs.Steady.{floor_fits}
use Rattle.goal_moves.proofs.Committing.{entered_items, after_floor}
use Rattle.goal_moves.proofs.RowMoves.{branch_well, branch_ref, branch_base, branch_within, moved_either}
use Rattle.goal_model.specs.Rows.{either}
use Rattle.pl_unify.specs.State.{tree_at}
use Rattle.goal_moves.proofs.UntriedLaws.{entered_records, opened_more}
use Rattle.goal_moves.proofs.UntriedRows.{leaves_row}
use Rattle.goal_moves.proofs.term_control.either.Goals as goal

pub enter_goals-requires-clause-floor : goal.enter_goals-requires-clause-floor
enter_goals-requires-clause-floor c = floor_fits c.args.compiled.now c.args.path.now c.args.active.node c.requires.ready.well

pub open_here-requires-clause-place : goal.open_here-requires-clause-place
open_here-requires-clause-place c = subst (λ r. r.f ≤ length c.enter_goals.new.path.frames) (sym c.stand_of-other.ensures) c.in_ok-enter_goals.ensures.at_within

pub open_here-requires-clause-floor : goal.open_here-requires-clause-floor
open_here-requires-clause-floor c =
    let b = c.args.compiled.now in
    after_floor b c.args.path.now c.enter_goals.new.path c.args.active.rest (here c.enter_goals.new.path) (entered_items b c.args.path.now c.args.right c.args.active.setting (items_here b c.args.path.now c.args.active.rest.f c.args.active.rest.pc)) c.in_ok-enter_goals.ensures c.args.active.node c.requires.ready.well

pub enter_goals-requires-2-clause-term : goal.enter_goals-requires-2-clause-term
enter_goals-requires-2-clause-term c =
    let b = c.args.compiled.now in
    branch_ref b c.args.path.now c.args.active c.requires.ready c.enter_goals.new.path c.open_here.new.path (here c.enter_goals.new.path) (entered_items b c.args.path.now c.args.right c.args.active.setting (items_here b c.args.path.now c.args.active.rest.f c.args.active.rest.pc)) c.in_ok-enter_goals.ensures (subst (λ r. OpenedHere c.enter_goals.new.path c.open_here.new.path Branch r.f r.pc c.args.active.setting c.args.active.node) c.stand_of-other.ensures c.in_ok-open_here.ensures) c.args.left c.requires.row.0

pub enter_goals-requires-2-clause-rest : goal.enter_goals-requires-2-clause-rest
enter_goals-requires-2-clause-rest c =
    let b = c.args.compiled.now in
    branch_within b c.args.path.now c.args.active c.requires.ready c.enter_goals.new.path c.open_here.new.path (here c.enter_goals.new.path) (entered_items b c.args.path.now c.args.right c.args.active.setting (items_here b c.args.path.now c.args.active.rest.f c.args.active.rest.pc)) c.in_ok-enter_goals.ensures (subst (λ r. OpenedHere c.enter_goals.new.path c.open_here.new.path Branch r.f r.pc c.args.active.setting c.args.active.node) c.stand_of-other.ensures c.in_ok-open_here.ensures)

pub enter_goals-requires-2-clause-floor : goal.enter_goals-requires-2-clause-floor
enter_goals-requires-2-clause-floor c =
    let b = c.args.compiled.now in
    floor_fits b c.open_here.new.path c.open_here.new.path.depth (branch_well b c.args.path.now c.args.active c.requires.ready c.enter_goals.new.path c.open_here.new.path (here c.enter_goals.new.path) (entered_items b c.args.path.now c.args.right c.args.active.setting (items_here b c.args.path.now c.args.active.rest.f c.args.active.rest.pc)) c.in_ok-enter_goals.ensures (subst (λ r. OpenedHere c.enter_goals.new.path c.open_here.new.path Branch r.f r.pc c.args.active.setting c.args.active.node) c.stand_of-other.ensures c.in_ok-open_here.ensures))

pub enter_goals-requires-2-clause-base : goal.enter_goals-requires-2-clause-base
enter_goals-requires-2-clause-base c =
    let b = c.args.compiled.now in
    branch_base b c.args.path.now c.args.active c.requires.ready c.enter_goals.new.path c.open_here.new.path (here c.enter_goals.new.path) (entered_items b c.args.path.now c.args.right c.args.active.setting (items_here b c.args.path.now c.args.active.rest.f c.args.active.rest.pc)) c.in_ok-enter_goals.ensures (subst (λ r. OpenedHere c.enter_goals.new.path c.open_here.new.path Branch r.f r.pc c.args.active.setting c.args.active.node) c.stand_of-other.ensures c.in_ok-open_here.ensures)

pub returns-clause-moved : goal.returns-clause-moved
returns-clause-moved c =
    let b = c.args.compiled.now in
    moved_either b c.args.path.now c.args.active c.requires.ready c.enter_goals.new.path c.open_here.new.path (here c.enter_goals.new.path) (entered_items b c.args.path.now c.args.right c.args.active.setting (items_here b c.args.path.now c.args.active.rest.f c.args.active.rest.pc)) c.in_ok-enter_goals.ensures (subst (λ r. OpenedHere c.enter_goals.new.path c.open_here.new.path Branch r.f r.pc c.args.active.setting c.args.active.node) c.stand_of-other.ensures c.in_ok-open_here.ensures) c.enter_goals-2.new.path c.args.left (tree_at (state_of c.args.path.now) c.args.right) c.requires.row.2 refl c.in_ok-enter_goals-2.ensures

pub returns-clause-untried : goal.returns-clause-untried
returns-clause-untried c =
    let b = c.args.compiled.now in
    let p = c.args.path.now in
    let a = c.args.active in
    let q = c.enter_goals.new.path in
    let r = c.open_here.new.path in
    let s = c.enter_goals-2.new.path in
    leaves_row b p s a (either (tree_at (state_of p) c.args.left) (tree_at (state_of p) c.args.right)) true c.requires.row.2 refl
    (opened_more p q r s Branch c.stand_of-other.result.f c.stand_of-other.result.pc a.setting a.node
    (entered_records b p q a.rest (here q) (entered_items b p c.args.right a.setting (items_here b p a.rest.f a.rest.pc)) c.in_ok-enter_goals.ensures)
    c.in_ok-open_here.ensures
    (entered_records b r s a.rest (here s) (entered_items b r c.args.left a.setting (items_here b r a.rest.f a.rest.pc)) c.in_ok-enter_goals-2.ensures))
