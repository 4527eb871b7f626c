use Rattle.std.proofs.Common.{◌≤◌, IfOk, length, subst, sym}
use Rattle.goal_state.specs.Frames.{IsPut}
use Rattle.goal_state.proofs.FrameLaws.{put_linked, was_put}
use Rattle.goal_state.proofs.frames.Frames.put.Goals as goal

pub invariant_of-self : goal.invariant_of-self
invariant_of-self c =
    put_linked c.self.inside.list.items c.put_above.new.list.items c.args.keep c.args.frame c.self.invariant c.requires.above (subst (λ l. c.args.keep ≤ length l) (sym c.self.view_is) c.requires.within)
    c.put_above.result c.put_above.ensures.ok c.put_above.ensures.err

pub returns-clause-put : goal.returns-clause-put
returns-clause-put c =
    subst (λ l. IfOk c.put_above.result (λ at. IsPut l c.put_above.new.list.items c.args.keep c.args.frame at)) c.self.view_is
    (was_put c.self.inside.list.items c.put_above.new.list.items c.args.keep c.args.frame c.self.invariant c.requires.above (subst (λ l. c.args.keep ≤ length l) (sym c.self.view_is) c.requires.within)
    c.put_above.result c.put_above.ensures.ok c.put_above.ensures.place)
