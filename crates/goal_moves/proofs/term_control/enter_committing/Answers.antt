use Rattle.std.proofs.Common.{◌≤◌, ◌∷◌, sym, subst}
use Rattle.solver_model.specs.Search.{Cut}
use Rattle.goal_state.specs.Denotation.{state_of, items_here}
use Rattle.goal_moves.proofs.Committing.{OnOk-then, after_floor, after_ref, after_base, entered_committing}
use Rattle.goal_moves.proofs.term_control.enter_committing.Goals as goal

pub enter_goals-requires-clause-term : goal.enter_goals-requires-clause-term
enter_goals-requires-clause-term c =
    let b = c.args.compiled.now in
    after_ref b c.args.path.now c.enter_part.new.path c.args.after c.in_ok-cut.cut (Cut c.reaching-outer.result.depth ∷ items_here b c.args.path.now c.args.after.f c.args.after.pc) (c.in_ok-cut.ensures b) c.args.body c.requires.place

pub enter_goals-requires-clause-rest : goal.enter_goals-requires-clause-rest
enter_goals-requires-clause-rest c = (c.in_ok-cut.ensures c.args.compiled.now).at_within

pub enter_goals-requires-clause-floor : goal.enter_goals-requires-clause-floor
enter_goals-requires-clause-floor c =
    let b = c.args.compiled.now in
    after_floor b c.args.path.now c.enter_part.new.path c.args.after c.in_ok-cut.cut (Cut c.reaching-outer.result.depth ∷ items_here b c.args.path.now c.args.after.f c.args.after.pc) (c.in_ok-cut.ensures b) c.args.path.now.depth c.requires.well

pub enter_goals-requires-clause-base : goal.enter_goals-requires-clause-base
enter_goals-requires-clause-base c =
    let b = c.args.compiled.now in
    subst (λ st. st.base ≤ (state_of c.enter_part.new.path).next) (sym c.argument_setting-inner.ensures)
    (after_base b c.args.path.now c.enter_part.new.path c.args.after c.in_ok-cut.cut (Cut c.reaching-outer.result.depth ∷ items_here b c.args.path.now c.args.after.f c.args.after.pc) (c.in_ok-cut.ensures b) c.args.active.setting.base c.requires.base)

pub returns : goal.returns
returns c =
    let b = c.args.compiled.now in
    OnOk-then c.enter_goals.result c.enter_goals.ensures (λ h. entered_committing b c.args.path.now c.enter_part.new.path c.enter_goals.new.path c.args.active c.args.body c.args.after c.in_ok-cut.cut c.args.path.now.depth c.argument_setting-inner.result c.reaching-outer.result c.requires.depth c.argument_setting-inner.ensures c.reaching-outer.ensures (c.in_ok-cut.ensures b) h)
