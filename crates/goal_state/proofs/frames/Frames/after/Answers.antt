use Rattle.std.proofs.Common.{◌<◌, sym, ◌∙◌, arith}
use Rattle.goal_state.proofs.FrameLaws.{passed, parent_low}
use Rattle.goal_state.proofs.frames.Frames.after.Goals as goal

pub returns-then-has_ended-clause-items : goal.returns-then-has_ended-clause-items
returns-then-has_ended-clause-items c =
    λ p s. passed p s c.args.self.now c.args.f c.args.pc c.in-Some.frame c.get.ensures.linked (sym c.has_ended.ensures ∙ c.if-has_ended.true) (sym c.in-Some.ensures.frame)

pub returns-then-has_ended-clause-within : goal.returns-then-has_ended-clause-within
returns-then-has_ended-clause-within c =
    let l : c.in-Some.frame.parent < c.args.f = parent_low c.args.self.now c.args.f c.in-Some.frame c.get.ensures.linked (sym c.in-Some.ensures.frame) in
    omega (arith, l)
