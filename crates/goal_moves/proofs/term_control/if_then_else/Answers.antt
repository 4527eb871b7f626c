use Rattle.std.proofs.Common.{◌≤◌, length, sym, ◌∙◌, refl, subst, true}
use Rattle.goal_state.specs.Denotation.{items_here, state_of}
use Rattle.goal_state.specs.declared.choice.ChoiceKind.TheVariants.{Branch}
use Rattle.goal_moves.specs.Control.{OpenedHere, condition_items}
use Rattle.goal_moves.specs.Moves.{here}
use Rattle.goal_moves.proofs.Steady.{floor_fits}
use Rattle.goal_moves.proofs.Committing.{entered_items, after_floor}
use Rattle.goal_moves.proofs.RowMoves.{branch_well, branch_ref, branch_base, branch_within, branch_steady, moved_if_then_else}
use Rattle.goal_model.specs.Rows.{if_then_else}
use Rattle.pl_unify.specs.State.{tree_at}
use Rattle.goal_moves.proofs.UntriedLaws.{entered_records, opened_more}
use Rattle.goal_moves.proofs.UntriedRows.{leaves_row}
use Rattle.goal_moves.proofs.term_control.if_then_else.Goals as goal

pub enter_goals-requires-clause-floor : goal.enter_goals-requires-clause-floor
enter_goals-requires-clause-floor c = floor_fits c.args.compiled.now c.args.path.now c.args.active.node c.requires.ready.well

pub open_here-requires-clause-place : goal.open_here-requires-clause-place
open_here-requires-clause-place c = subst (λ r. r.f ≤ length c.enter_goals.new.path.frames) (sym c.stand_of-other.ensures) c.in_ok-enter_goals.ensures.at_within

pub open_here-requires-clause-floor : goal.open_here-requires-clause-floor
open_here-requires-clause-floor c =
    let b = c.args.compiled.now in
    after_floor b c.args.path.now c.enter_goals.new.path c.args.active.rest (here c.enter_goals.new.path) (entered_items b c.args.path.now c.args.otherwise c.args.active.setting (items_here b c.args.path.now c.args.active.rest.f c.args.active.rest.pc)) c.in_ok-enter_goals.ensures c.args.active.node c.requires.ready.well

pub enter_condition-requires-clause-places : goal.enter_condition-requires-clause-places
enter_condition-requires-clause-places c =
    let b = c.args.compiled.now in
    (branch_ref b c.args.path.now c.args.active c.requires.ready c.enter_goals.new.path c.open_here.new.path (here c.enter_goals.new.path) (entered_items b c.args.path.now c.args.otherwise c.args.active.setting (items_here b c.args.path.now c.args.active.rest.f c.args.active.rest.pc)) c.in_ok-enter_goals.ensures (subst (λ r. OpenedHere c.enter_goals.new.path c.open_here.new.path Branch r.f r.pc c.args.active.setting c.args.active.node) c.stand_of-other.ensures c.in_ok-open_here.ensures) c.args.condition c.requires.row.0, branch_ref b c.args.path.now c.args.active c.requires.ready c.enter_goals.new.path c.open_here.new.path (here c.enter_goals.new.path) (entered_items b c.args.path.now c.args.otherwise c.args.active.setting (items_here b c.args.path.now c.args.active.rest.f c.args.active.rest.pc)) c.in_ok-enter_goals.ensures (subst (λ r. OpenedHere c.enter_goals.new.path c.open_here.new.path Branch r.f r.pc c.args.active.setting c.args.active.node) c.stand_of-other.ensures c.in_ok-open_here.ensures) c.args.«then» c.requires.row.1)

pub enter_condition-requires-clause-depth : goal.enter_condition-requires-clause-depth
enter_condition-requires-clause-depth c =
    let b = c.args.compiled.now in
    (branch_steady b c.args.path.now c.args.active c.requires.ready c.enter_goals.new.path c.open_here.new.path (here c.enter_goals.new.path) (entered_items b c.args.path.now c.args.otherwise c.args.active.setting (items_here b c.args.path.now c.args.active.rest.f c.args.active.rest.pc)) c.in_ok-enter_goals.ensures (subst (λ r. OpenedHere c.enter_goals.new.path c.open_here.new.path Branch r.f r.pc c.args.active.setting c.args.active.node) c.stand_of-other.ensures c.in_ok-open_here.ensures)).depth ∙ c.requires.ready.depth

pub enter_condition-requires-clause-rest : goal.enter_condition-requires-clause-rest
enter_condition-requires-clause-rest c =
    let b = c.args.compiled.now in
    branch_within b c.args.path.now c.args.active c.requires.ready c.enter_goals.new.path c.open_here.new.path (here c.enter_goals.new.path) (entered_items b c.args.path.now c.args.otherwise c.args.active.setting (items_here b c.args.path.now c.args.active.rest.f c.args.active.rest.pc)) c.in_ok-enter_goals.ensures (subst (λ r. OpenedHere c.enter_goals.new.path c.open_here.new.path Branch r.f r.pc c.args.active.setting c.args.active.node) c.stand_of-other.ensures c.in_ok-open_here.ensures)

pub enter_condition-requires-clause-well : goal.enter_condition-requires-clause-well
enter_condition-requires-clause-well c =
    let b = c.args.compiled.now in
    branch_well b c.args.path.now c.args.active c.requires.ready c.enter_goals.new.path c.open_here.new.path (here c.enter_goals.new.path) (entered_items b c.args.path.now c.args.otherwise c.args.active.setting (items_here b c.args.path.now c.args.active.rest.f c.args.active.rest.pc)) c.in_ok-enter_goals.ensures (subst (λ r. OpenedHere c.enter_goals.new.path c.open_here.new.path Branch r.f r.pc c.args.active.setting c.args.active.node) c.stand_of-other.ensures c.in_ok-open_here.ensures)

pub enter_condition-requires-clause-base : goal.enter_condition-requires-clause-base
enter_condition-requires-clause-base c =
    let b = c.args.compiled.now in
    branch_base b c.args.path.now c.args.active c.requires.ready c.enter_goals.new.path c.open_here.new.path (here c.enter_goals.new.path) (entered_items b c.args.path.now c.args.otherwise c.args.active.setting (items_here b c.args.path.now c.args.active.rest.f c.args.active.rest.pc)) c.in_ok-enter_goals.ensures (subst (λ r. OpenedHere c.enter_goals.new.path c.open_here.new.path Branch r.f r.pc c.args.active.setting c.args.active.node) c.stand_of-other.ensures c.in_ok-open_here.ensures)

pub returns-clause-moved : goal.returns-clause-moved
returns-clause-moved c =
    let b = c.args.compiled.now in
    moved_if_then_else b c.args.path.now c.args.active c.requires.ready c.enter_goals.new.path c.open_here.new.path (here c.enter_goals.new.path) (entered_items b c.args.path.now c.args.otherwise c.args.active.setting (items_here b c.args.path.now c.args.active.rest.f c.args.active.rest.pc)) c.in_ok-enter_goals.ensures (subst (λ r. OpenedHere c.enter_goals.new.path c.open_here.new.path Branch r.f r.pc c.args.active.setting c.args.active.node) c.stand_of-other.ensures c.in_ok-open_here.ensures) c.enter_condition.new.path c.args.condition c.args.«then» (tree_at (state_of c.args.path.now) c.args.otherwise) c.requires.row.3 refl c.in_ok-enter_condition.ensures

pub returns-clause-untried : goal.returns-clause-untried
returns-clause-untried c =
    let b = c.args.compiled.now in
    let p = c.args.path.now in
    let a = c.args.active in
    let q = c.enter_goals.new.path in
    let r = c.open_here.new.path in
    let s = c.enter_condition.new.path in
    leaves_row b p s a (if_then_else (tree_at (state_of p) c.args.condition) (tree_at (state_of p) c.args.«then») (tree_at (state_of p) c.args.otherwise)) true c.requires.row.3 refl
    (opened_more p q r s Branch c.stand_of-other.result.f c.stand_of-other.result.pc a.setting a.node
    (entered_records b p q a.rest (here q) (entered_items b p c.args.otherwise a.setting (items_here b p a.rest.f a.rest.pc)) c.in_ok-enter_goals.ensures)
    c.in_ok-open_here.ensures
    (entered_records b r s a.rest (here s) (condition_items b r a c.args.condition c.args.«then» (items_here b r a.rest.f a.rest.pc)) c.in_ok-enter_condition.ensures))
