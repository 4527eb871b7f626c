use Rattle.std.proofs.Common.{sym, ap, ◌∙◌}
use Rattle.std.specs.Prelude.{reverse}
use Rattle.goal_state.specs.Frames.{place_get}
use Rattle.goal_state.proofs.FramePlaces.{place_at, place_zero}
use Rattle.goal_state.proofs.frames.Frames.get.Goals as goal

pub returns-then-place-eq0-clause-frame : goal.returns-then-place-eq0-clause-frame
returns-then-place-eq0-clause-frame c = sym (ap (place_get (reverse c.args.self.now)) c.if-place-eq0.true ∙ place_zero (reverse c.args.self.now))

pub returns-clause-frame : goal.returns-clause-frame
returns-clause-frame c = c.at.ensures ∙ place_at c.args.self.now c.args.place c.if-place-eq0.false
