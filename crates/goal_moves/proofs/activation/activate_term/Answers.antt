use Rattle.std.proofs.Common.{subst}
use Rattle.goal_constructs.specs.Goals.{IsRow}
use Rattle.goal_state.specs.Denotation.{naming, state_of}
use Rattle.goal_moves.specs.Moves.{called, goal_items}
use Rattle.goal_moves.proofs.Committing.{IfOk-then}
use Rattle.goal_moves.proofs.ActivationMoves.{activated}
use Rattle.goal_moves.proofs.activation.activate_term.Goals as goal

pub commit-requires-clause-row : goal.commit-requires-clause-row
commit-requires-clause-row c =
    let b = c.args.compiled.now in
    subst (IsRow (naming b) (state_of c.args.path.now) c.args.active.goal) c.in-Commit.is (c.row.ensures.row (naming b) c.requires.compiled.constructs)

pub returns-in-Commit-clause-activated : goal.returns-in-Commit-clause-activated
returns-in-Commit-clause-activated c =
    let b = c.args.compiled.now in
    let p = c.args.path.now in
    activated b p c.commit.new.path (called b p c.args.active.node (goal_items b p c.args.active)) c.args.text.now c.commit.result c.commit.ensures.moved

pub if_then_else-requires-clause-row : goal.if_then_else-requires-clause-row
if_then_else-requires-clause-row c =
    let b = c.args.compiled.now in
    subst (IsRow (naming b) (state_of c.args.path.now) c.args.active.goal) c.in-IfThenElse.is (c.row.ensures.row (naming b) c.requires.compiled.constructs)

pub returns-in-IfThenElse-clause-activated : goal.returns-in-IfThenElse-clause-activated
returns-in-IfThenElse-clause-activated c =
    let b = c.args.compiled.now in
    let p = c.args.path.now in
    IfOk-then c.if_then_else.result c.if_then_else.ensures.moved (λ g m. activated b p c.if_then_else.new.path (called b p c.args.active.node (goal_items b p c.args.active)) c.args.text.now g m)

pub if_then-requires-clause-row : goal.if_then-requires-clause-row
if_then-requires-clause-row c =
    let b = c.args.compiled.now in
    subst (IsRow (naming b) (state_of c.args.path.now) c.args.active.goal) c.in-IfThen.is (c.row.ensures.row (naming b) c.requires.compiled.constructs)

pub returns-in-IfThen-clause-activated : goal.returns-in-IfThen-clause-activated
returns-in-IfThen-clause-activated c =
    let b = c.args.compiled.now in
    let p = c.args.path.now in
    IfOk-then c.if_then.result c.if_then.ensures.moved (λ g m. activated b p c.if_then.new.path (called b p c.args.active.node (goal_items b p c.args.active)) c.args.text.now g m)

pub either-requires-clause-row : goal.either-requires-clause-row
either-requires-clause-row c =
    let b = c.args.compiled.now in
    subst (IsRow (naming b) (state_of c.args.path.now) c.args.active.goal) c.in-Either.is (c.row.ensures.row (naming b) c.requires.compiled.constructs)

pub returns-in-Either-clause-activated : goal.returns-in-Either-clause-activated
returns-in-Either-clause-activated c =
    let b = c.args.compiled.now in
    let p = c.args.path.now in
    IfOk-then c.either.result c.either.ensures.moved (λ g m. activated b p c.either.new.path (called b p c.args.active.node (goal_items b p c.args.active)) c.args.text.now g m)

pub negation-requires-clause-row : goal.negation-requires-clause-row
negation-requires-clause-row c =
    let b = c.args.compiled.now in
    subst (IsRow (naming b) (state_of c.args.path.now) c.args.active.goal) c.in-Negation.is (c.row.ensures.row (naming b) c.requires.compiled.constructs)

pub returns-in-Negation-clause-activated : goal.returns-in-Negation-clause-activated
returns-in-Negation-clause-activated c =
    let b = c.args.compiled.now in
    let p = c.args.path.now in
    IfOk-then c.negation.result c.negation.ensures.moved (λ g m. activated b p c.negation.new.path (called b p c.args.active.node (goal_items b p c.args.active)) c.args.text.now g m)

pub once-requires-clause-row : goal.once-requires-clause-row
once-requires-clause-row c =
    let b = c.args.compiled.now in
    subst (IsRow (naming b) (state_of c.args.path.now) c.args.active.goal) c.in-Once.is (c.row.ensures.row (naming b) c.requires.compiled.constructs)

pub returns-in-Once-clause-activated : goal.returns-in-Once-clause-activated
returns-in-Once-clause-activated c =
    let b = c.args.compiled.now in
    let p = c.args.path.now in
    IfOk-then c.once.result c.once.ensures.moved (λ g m. activated b p c.once.new.path (called b p c.args.active.node (goal_items b p c.args.active)) c.args.text.now g m)

pub calling-requires-clause-row : goal.calling-requires-clause-row
calling-requires-clause-row c =
    let b = c.args.compiled.now in
    subst (IsRow (naming b) (state_of c.args.path.now) c.args.active.goal) c.in-Calling.is (c.row.ensures.row (naming b) c.requires.compiled.constructs)

pub returns-in-Calling-clause-activated : goal.returns-in-Calling-clause-activated
returns-in-Calling-clause-activated c =
    let b = c.args.compiled.now in
    let p = c.args.path.now in
    IfOk-then c.calling.result c.calling.ensures.moved (λ g m. activated b p c.calling.new.path (called b p c.args.active.node (goal_items b p c.args.active)) c.args.text.now g m)

pub in_module-requires-clause-row : goal.in_module-requires-clause-row
in_module-requires-clause-row c =
    let b = c.args.compiled.now in
    subst (IsRow (naming b) (state_of c.args.path.now) c.args.active.goal) c.in-InModule.is (c.row.ensures.row (naming b) c.requires.compiled.constructs)

pub returns-in-InModule-clause-activated : goal.returns-in-InModule-clause-activated
returns-in-InModule-clause-activated c =
    let b = c.args.compiled.now in
    let p = c.args.path.now in
    IfOk-then c.in_module.result c.in_module.ensures.moved (λ g m. activated b p c.in_module.new.path (called b p c.args.active.node (goal_items b p c.args.active)) c.args.text.now g m)

pub from_context-requires-clause-row : goal.from_context-requires-clause-row
from_context-requires-clause-row c =
    let b = c.args.compiled.now in
    subst (IsRow (naming b) (state_of c.args.path.now) c.args.active.goal) c.in-FromContext.is (c.row.ensures.row (naming b) c.requires.compiled.constructs)

pub returns-in-FromContext-clause-activated : goal.returns-in-FromContext-clause-activated
returns-in-FromContext-clause-activated c =
    let b = c.args.compiled.now in
    let p = c.args.path.now in
    IfOk-then c.from_context.result c.from_context.ensures.moved (λ g m. activated b p c.from_context.new.path (called b p c.args.active.node (goal_items b p c.args.active)) c.args.text.now g m)

pub repeat-requires-clause-row : goal.repeat-requires-clause-row
repeat-requires-clause-row c =
    let b = c.args.compiled.now in
    subst (IsRow (naming b) (state_of c.args.path.now) c.args.active.goal) c.in-Repeat.is (c.row.ensures.row (naming b) c.requires.compiled.constructs)

pub returns-in-Repeat-clause-activated : goal.returns-in-Repeat-clause-activated
returns-in-Repeat-clause-activated c =
    let b = c.args.compiled.now in
    let p = c.args.path.now in
    IfOk-then c.repeat.result c.repeat.ensures.moved (λ g m. activated b p c.repeat.new.path (called b p c.args.active.node (goal_items b p c.args.active)) c.args.text.now g m)

pub throwing-requires-clause-row : goal.throwing-requires-clause-row
throwing-requires-clause-row c =
    let b = c.args.compiled.now in
    subst (IsRow (naming b) (state_of c.args.path.now) c.args.active.goal) c.in-Throwing.is (c.row.ensures.row (naming b) c.requires.compiled.constructs)

pub returns-in-Throwing-clause-activated : goal.returns-in-Throwing-clause-activated
returns-in-Throwing-clause-activated c =
    let b = c.args.compiled.now in
    let p = c.args.path.now in
    IfOk-then c.throwing.result c.throwing.ensures.moved (λ g m. activated b p c.throwing.new.path (called b p c.args.active.node (goal_items b p c.args.active)) c.args.text.now g m)

pub catching-requires-clause-row : goal.catching-requires-clause-row
catching-requires-clause-row c =
    let b = c.args.compiled.now in
    subst (IsRow (naming b) (state_of c.args.path.now) c.args.active.goal) c.in-Catching.is (c.row.ensures.row (naming b) c.requires.compiled.constructs)

pub returns-in-Catching-clause-activated : goal.returns-in-Catching-clause-activated
returns-in-Catching-clause-activated c =
    let b = c.args.compiled.now in
    let p = c.args.path.now in
    IfOk-then c.catching.result c.catching.ensures.moved (λ g m. activated b p c.catching.new.path (called b p c.args.active.node (goal_items b p c.args.active)) c.args.text.now g m)

pub collecting-requires-clause-row : goal.collecting-requires-clause-row
collecting-requires-clause-row c =
    let b = c.args.compiled.now in
    subst (IsRow (naming b) (state_of c.args.path.now) c.args.active.goal) c.in-Collecting.is (c.row.ensures.row (naming b) c.requires.compiled.constructs)

pub returns-in-Collecting-clause-activated : goal.returns-in-Collecting-clause-activated
returns-in-Collecting-clause-activated c =
    let b = c.args.compiled.now in
    let p = c.args.path.now in
    IfOk-then c.collecting.result c.collecting.ensures.moved (λ g m. activated b p c.collecting.new.path (called b p c.args.active.node (goal_items b p c.args.active)) c.args.text.now g m)

pub call_procedure-requires-clause-row : goal.call_procedure-requires-clause-row
call_procedure-requires-clause-row c =
    let b = c.args.compiled.now in
    subst (IsRow (naming b) (state_of c.args.path.now) c.args.active.goal) c.in-User.is (c.row.ensures.row (naming b) c.requires.compiled.constructs)

pub returns-in-User-clause-activated : goal.returns-in-User-clause-activated
returns-in-User-clause-activated c =
    let b = c.args.compiled.now in
    let p = c.args.path.now in
    IfOk-then c.call_procedure.result c.call_procedure.ensures.moved (λ g m. activated b p c.call_procedure.new.path (called b p c.args.active.node (goal_items b p c.args.active)) c.args.text.now g m)

pub do_row-requires-clause-row : goal.do_row-requires-clause-row
do_row-requires-clause-row c =
    let b = c.args.compiled.now in
    subst (IsRow (naming b) (state_of c.args.path.now) c.args.active.goal) c.in-Plain.is (c.row.ensures.row (naming b) c.requires.compiled.constructs)
