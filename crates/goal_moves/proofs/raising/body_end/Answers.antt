use Rattle.std.proofs.Common.{◌<◌, ◌∙◌, Some, sym, ap, subst}
use Rattle.solver_model.specs.Search.{pops}
use Rattle.goal_code.specs.Continuations.{items_from}
use Rattle.goal_state.specs.Frames.{running}
use Rattle.goal_state.specs.Denotation.{bodies}
use Rattle.goal_moves.proofs.ExitLaws.{body_on, body_over, body_out, next_low}
use Rattle.goal_moves.proofs.raising.body_end.Goals as goal

pub loop-found-smaller : goal.loop-found-smaller
loop-found-smaller c =
    subst (λ n. n < c.loop-found.pc) (sym c.next_of-pc.ensures) (next_low c.args.compiled.now c.requires.compiled c.args.setting.clause c.loop-found.pc c.in-Some.found (sym c.instruction.ensures ∙ c.in-Some.is))

pub loop-found-preserved : goal.loop-found-preserved
loop-found-preserved c = λ s outer.
    c.loop-found.invariant s outer
    ∙ body_on c.args.compiled.now c.requires.compiled s c.args.setting outer (outer c.args.after) c.loop-found.pc c.in-Some.found (sym c.instruction.ensures ∙ c.in-Some.is) c.in_default-found.not-EndIf
    ∙ ap (λ n. pops (items_from (running (bodies c.args.compiled.now) s c.args.setting) (outer c.args.after) outer n)) (sym c.next_of-pc.ensures)

pub returns-in_default : goal.returns-in_default
returns-in_default c = λ s outer.
    c.loop-found.invariant s outer
    ∙ body_over (running (bodies c.args.compiled.now) s c.args.setting) outer (outer c.args.after) c.loop-found.pc (sym c.instruction.ensures ∙ c.in_default.is)

pub returns-in-EndIf : goal.returns-in-EndIf
returns-in-EndIf c = λ s outer.
    c.loop-found.invariant s outer
    ∙ body_out (running (bodies c.args.compiled.now) s c.args.setting) outer (outer c.args.after) c.loop-found.pc c.in-EndIf.next (sym c.instruction.ensures ∙ c.in-Some.is ∙ ap Some c.in-EndIf.is)
