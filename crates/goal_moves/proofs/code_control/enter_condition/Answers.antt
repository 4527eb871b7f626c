use Rattle.std.proofs.Common.{◌≤◌, length, sym, subst}
use Rattle.goal_code.specs.Continuations.{items_from}
use Rattle.goal_state.specs.Frames.{running}
use Rattle.goal_state.specs.Denotation.{bodies, state_of, items_here}
use Rattle.goal_moves.specs.Moves.{Entered, here}
use Rattle.goal_moves.proofs.Committing.{OnOk-then}
use Rattle.goal_moves.proofs.code_control.enter_condition.Goals as goal

pub enter_body-requires-clause-rest : goal.enter_body-requires-clause-rest
enter_body-requires-clause-rest c = subst (λ r. r.f ≤ length c.args.path.now.frames) (sym c.at_place-after.ensures) c.requires.first

pub enter_body-requires-clause-base : goal.enter_body-requires-clause-base
enter_body-requires-clause-base c = subst (λ st. st.base ≤ (state_of c.args.path.now).next) (sym c.reaching-inner.ensures) c.requires.base

pub returns : goal.returns
returns c =
    let p = c.args.path.now in
    let q = c.enter_body.new.path in
    OnOk-then c.enter_body.result c.enter_body.ensures (λ h b.
    subst (λ st. Entered b p q (record { f = p.f; pc = c.args.next }) (here q) (items_from (running (bodies b) (state_of p) st) (items_here b p p.f c.args.next) (items_here b p p.f) c.args.condition)) c.reaching-inner.ensures
    (subst (λ r. Entered b p q r (here q) (items_from (running (bodies b) (state_of p) c.reaching-inner.result) (items_here b p r.f r.pc) (items_here b p r.f) c.args.condition)) c.at_place-after.ensures (h b)))
