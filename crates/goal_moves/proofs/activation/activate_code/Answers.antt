use Rattle.std.proofs.Common.{◌≡◌, refl, sym, subst}
use Rattle.goal_code.specs.declared.instruction.Instruction.{Instruction}
use Rattle.goal_code.specs.declared.instruction.Instruction.TheVariants.{Goal}
use Rattle.goal_code.specs.Runs.{goal_of, next_of}
use Rattle.goal_state.specs.Denotation.{items_here}
use Rattle.goal_moves.specs.Moves.{called}
use Rattle.goal_moves.proofs.Committing.{IfOk-then}
use Rattle.goal_moves.proofs.ActivationMoves.{activated}
use Rattle.goal_moves.proofs.activation.activate_code.Goals as goal

pub goal_from_code-requires-clause-plain : goal.goal_from_code-requires-clause-plain
goal_from_code-requires-clause-plain c = subst (λ (i : Instruction). i ≡ Goal (goal_of i) (next_of i)) (sym c.in-Goal.is) refl

pub returns-in-Cut-clause-activated : goal.returns-in-Cut-clause-activated
returns-in-Cut-clause-activated c =
    let b = c.args.compiled.now in
    let p = c.args.path.now in
    activated b p c.cut_from_code.new.path (called b p c.args.node (items_here b p p.f p.pc)) c.args.text.now c.cut_from_code.result c.cut_from_code.ensures.moved

pub returns-in-Either-clause-activated : goal.returns-in-Either-clause-activated
returns-in-Either-clause-activated c =
    let b = c.args.compiled.now in
    let p = c.args.path.now in
    IfOk-then c.either_from_code.result c.either_from_code.ensures.moved (λ g m. activated b p c.either_from_code.new.path (called b p c.args.node (items_here b p p.f p.pc)) c.args.text.now g m)

pub returns-in-If-clause-activated : goal.returns-in-If-clause-activated
returns-in-If-clause-activated c =
    let b = c.args.compiled.now in
    let p = c.args.path.now in
    IfOk-then c.if_from_code.result c.if_from_code.ensures.moved (λ g m. activated b p c.if_from_code.new.path (called b p c.args.node (items_here b p p.f p.pc)) c.args.text.now g m)
