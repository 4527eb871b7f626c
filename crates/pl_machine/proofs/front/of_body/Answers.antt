use Rattle.std.proofs.Common.{Some, ◌∙◌, ap, subst, sym}
use Rattle.goal_moves.specs.declared.active.Rest.{Rest}
use Rattle.pl_machine.specs.declared.front.Front.TheVariants as F
use Rattle.pl_machine.specs.Fronts.{HasFront}
use Rattle.pl_machine.proofs.FrontLaws.{body_none, end_front, code_front, goal_instruction}
use Rattle.pl_machine.proofs.front.of_body.Goals as goal

pub returns-in-None-clause-none : goal.returns-in-None-clause-none
returns-in-None-clause-none c = body_none c.args.compiled.now c.args.path.now c.requires.linked c.args.frame c.requires.frame c.requires.part (sym c.instruction.ensures ∙ c.in-None.is)

pub returns-in-EndIf-clause-front : goal.returns-in-EndIf-clause-front
returns-in-EndIf-clause-front c =
    let rest : Rest = record { f = c.args.frame.parent; pc = c.in-EndIf.next } in
    subst (λ d. HasFront c.args.compiled.now c.args.path.now (F.Cut d rest)) (sym c.saturating_sub.ensures)
    (end_front c.args.compiled.now c.args.path.now c.requires.linked c.args.frame c.requires.frame c.in-EndIf.next c.requires.part (sym c.instruction.ensures ∙ c.in-Some.is ∙ ap Some c.in-EndIf.is))

pub returns-in_default-clause-front : goal.returns-in_default-clause-front
returns-in_default-clause-front c =
    code_front c.args.compiled.now c.args.path.now c.requires.linked c.args.frame c.requires.frame c.requires.compiled c.in-Some.instruction c.requires.part (sym c.instruction.ensures ∙ c.in-Some.is)
    (goal_instruction c.in-Some.instruction c.in_default.not-EndIf)
