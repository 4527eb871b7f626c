use Rattle.std.proofs.Common.{subst, sym}
use Rattle.goal_state.specs.Frames.{IsLinked}
use Rattle.goal_state.proofs.FrameLaws.{linked-take}
use Rattle.goal_state.proofs.frames.Frames.truncate.Goals as goal

pub invariant_of-self : goal.invariant_of-self
invariant_of-self c = subst IsLinked (sym c.truncate.ensures.items) (linked-take c.self.inside.list.items c.args.keep c.self.invariant)
