use Rattle.std.proofs.Common.{◌≤◌, ◌∷◌, length, sym, subst}
use Rattle.solver_model.specs.Search.{Cut}
use Rattle.goal_state.specs.Denotation.{state_of, items_here}
use Rattle.goal_moves.specs.Moves.{here}
use Rattle.goal_moves.proofs.Steady.{floor_fits}
use Rattle.goal_moves.proofs.Committing.{OnOk-then, Cutting, entered_items, after_floor, after_ref, after_base, entered_condition}
use Rattle.goal_moves.proofs.term_control.enter_condition.Goals as goal

pub enter_goals-requires-clause-floor : goal.enter_goals-requires-clause-floor
enter_goals-requires-clause-floor c = floor_fits c.args.compiled.now c.args.path.now c.args.path.now.depth c.requires.well

pub enter_part-requires-clause-rest : goal.enter_part-requires-clause-rest
enter_part-requires-clause-rest c = subst (λ r. r.f ≤ length c.enter_goals.new.path.frames) (sym c.stand_of-after.ensures) c.in_ok-enter_goals.ensures.at_within

pub enter_part-requires-clause-floor : goal.enter_part-requires-clause-floor
enter_part-requires-clause-floor c =
    let b = c.args.compiled.now in
    after_floor b c.args.path.now c.enter_goals.new.path c.args.active.rest (here c.enter_goals.new.path) (entered_items b c.args.path.now c.args.«then» c.args.active.setting (items_here b c.args.path.now c.args.active.rest.f c.args.active.rest.pc)) c.in_ok-enter_goals.ensures c.args.path.now.depth c.requires.well

pub enter_part-requires-clause-base : goal.enter_part-requires-clause-base
enter_part-requires-clause-base c =
    let b = c.args.compiled.now in
    subst (λ st. st.base ≤ (state_of c.enter_goals.new.path).next) (sym c.reaching-outer.ensures)
    (after_base b c.args.path.now c.enter_goals.new.path c.args.active.rest (here c.enter_goals.new.path) (entered_items b c.args.path.now c.args.«then» c.args.active.setting (items_here b c.args.path.now c.args.active.rest.f c.args.active.rest.pc)) c.in_ok-enter_goals.ensures c.args.active.setting.base c.requires.base)

pub enter_goals-requires-2-clause-term : goal.enter_goals-requires-2-clause-term
enter_goals-requires-2-clause-term c =
    let b = c.args.compiled.now in
    let p = c.enter_goals.new.path in
    let first = c.in_ok-enter_goals.ensures in
    let cut = c.in_ok-cut.ensures b in
    after_ref b p c.enter_part.new.path c.stand_of-after.result c.in_ok-cut.cut (Cut c.reaching-outer.result.depth ∷ items_here b p c.stand_of-after.result.f c.stand_of-after.result.pc) cut c.args.condition
    (after_ref b c.args.path.now p c.args.active.rest (here p) (entered_items b c.args.path.now c.args.«then» c.args.active.setting (items_here b c.args.path.now c.args.active.rest.f c.args.active.rest.pc)) first c.args.condition c.requires.places.0)

pub enter_goals-requires-2-clause-rest : goal.enter_goals-requires-2-clause-rest
enter_goals-requires-2-clause-rest c = (c.in_ok-cut.ensures c.args.compiled.now).at_within

pub enter_goals-requires-2-clause-floor : goal.enter_goals-requires-2-clause-floor
enter_goals-requires-2-clause-floor c =
    let b = c.args.compiled.now in
    let p = c.enter_goals.new.path in
    let first = c.in_ok-enter_goals.ensures in
    after_floor b p c.enter_part.new.path c.stand_of-after.result c.in_ok-cut.cut (Cut c.reaching-outer.result.depth ∷ items_here b p c.stand_of-after.result.f c.stand_of-after.result.pc) (c.in_ok-cut.ensures b) c.args.path.now.depth (first.well c.args.path.now.depth c.requires.well)

pub enter_goals-requires-2-clause-base : goal.enter_goals-requires-2-clause-base
enter_goals-requires-2-clause-base c =
    let b = c.args.compiled.now in
    let p = c.enter_goals.new.path in
    subst (λ st. st.base ≤ (state_of c.enter_part.new.path).next) (sym c.reaching-inner.ensures)
    (after_base b p c.enter_part.new.path c.stand_of-after.result c.in_ok-cut.cut (Cut c.reaching-outer.result.depth ∷ items_here b p c.stand_of-after.result.f c.stand_of-after.result.pc) (c.in_ok-cut.ensures b) c.args.active.setting.base
    (after_base b c.args.path.now p c.args.active.rest (here p) (entered_items b c.args.path.now c.args.«then» c.args.active.setting (items_here b c.args.path.now c.args.active.rest.f c.args.active.rest.pc)) c.in_ok-enter_goals.ensures c.args.active.setting.base c.requires.base))

pub returns : goal.returns
returns c =
    let b = c.args.compiled.now in
    let p = c.enter_goals.new.path in
    OnOk-then c.enter_goals-2.result c.enter_goals-2.ensures (λ h. entered_condition b c.args.path.now p c.enter_part.new.path c.enter_goals-2.new.path c.args.active c.args.condition c.args.«then» c.in_ok-cut.cut c.args.path.now.depth c.reaching-inner.result c.reaching-outer.result c.requires.depth c.reaching-inner.ensures c.reaching-outer.ensures c.in_ok-enter_goals.ensures (subst (λ r. Cutting b p c.enter_part.new.path r c.in_ok-cut.cut c.reaching-outer.result) c.stand_of-after.ensures (c.in_ok-cut.ensures b)) h)
