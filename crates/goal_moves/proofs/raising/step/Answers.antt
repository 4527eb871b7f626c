use Rattle.std.proofs.Common.{sym, arith, inl, inr}
use Rattle.goal_state.specs.declared.frames.Part.TheVariants as P
use Rattle.goal_moves.proofs.ExitLaws.{wends_none, wends_quiet, wends_body, wends_over, wends_above, wends_exit, wends_past}
use Rattle.goal_moves.proofs.raising.step.Goals as goal

pub returns-in_default : goal.returns-in_default
returns-in_default c = wends_none c.args.compiled.now c.args.path.now c.args.at c.args.depth (sym c.in_default.ensures.frame)

pub returns-in-Body : goal.returns-in-Body
returns-in-Body c = wends_body c.args.compiled.now c.args.path.now c.args.at c.args.depth c.in-Some.frame c.in-Some.ensures.linked (sym c.in-Some.ensures.frame) c.body_end-pc.result c.in-Body.is c.body_end-pc.ensures

pub returns-in-Goal : goal.returns-in-Goal
returns-in-Goal c = wends_quiet c.args.compiled.now c.args.path.now c.args.at c.args.depth c.in-Some.frame c.in-Some.ensures.linked (sym c.in-Some.ensures.frame) (P.Goal c.in-Goal.field-0) c.in-Goal.is tt

pub returns-in-Cut : goal.returns-in-Cut
returns-in-Cut c = wends_quiet c.args.compiled.now c.args.path.now c.args.at c.args.depth c.in-Some.frame c.in-Some.ensures.linked (sym c.in-Some.ensures.frame) P.Cut c.in-Cut.is tt

pub returns-in-Fail : goal.returns-in-Fail
returns-in-Fail c = wends_quiet c.args.compiled.now c.args.path.now c.args.at c.args.depth c.in-Some.frame c.in-Some.ensures.linked (sym c.in-Some.ensures.frame) P.Fail c.in-Fail.is tt

pub returns-in-Link : goal.returns-in-Link
returns-in-Link c = wends_quiet c.args.compiled.now c.args.path.now c.args.at c.args.depth c.in-Some.frame c.in-Some.ensures.linked (sym c.in-Some.ensures.frame) P.Link c.in-Link.is tt

pub returns-then-depth-frame : goal.returns-then-depth-frame
returns-then-depth-frame c =
    elim c.if-depth-frame.either [
      | inl z ↦ wends_over c.args.compiled.now c.args.path.now c.args.at c.args.depth c.in-Some.frame c.in-Some.ensures.linked (sym c.in-Some.ensures.frame) c.in-Exit.is z
      | inr h ↦ wends_above c.args.compiled.now c.args.path.now c.args.at c.args.depth c.in-Some.frame c.in-Some.ensures.linked (sym c.in-Some.ensures.frame) c.in-Exit.is h.0 h.1
    ]

pub returns-then-frame-depth : goal.returns-then-frame-depth
returns-then-frame-depth c = wends_exit c.args.compiled.now c.args.path.now c.args.at c.args.depth c.in-Some.frame c.in-Some.ensures.linked (sym c.in-Some.ensures.frame) c.in-Exit.is c.if-depth-frame.false.0 c.if-frame-depth.true

pub returns-else-frame-depth : goal.returns-else-frame-depth
returns-else-frame-depth c = wends_past c.args.compiled.now c.args.path.now c.args.at c.args.depth c.in-Some.frame c.in-Some.ensures.linked (sym c.in-Some.ensures.frame) c.in-Exit.is c.if-depth-frame.false.0 (omega arith)
