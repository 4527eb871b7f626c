use Rattle.std.proofs.Common.{sym, ◌∙◌, ap, refl, [], ◌∷◌, ◌++◌}
use Rattle.pl_unify.specs.Code.{code_tree}
use Rattle.goal_code.specs.Shapes.{body_goals}
use Rattle.goal_code.specs.declared.work.Task.TheVariants.{Goals}
use Rattle.goal_code.proofs.Compiling.{starts_true, starts_goals, from_empty}
use Rattle.goal_code.proofs.SettledWork.{starts_settled, nothing_left, goals_left}
use Rattle.goal_code.proofs.work.Work.begin.Goals as goal

pub returns-then-not-is_truth-clause-under_way : goal.returns-then-not-is_truth-clause-under_way
returns-then-not-is_truth-clause-under_way c =
    from_empty c.args.names c.args.code.now.words (body_goals c.args.names (code_tree c.args.code.now.words c.args.p)) c.new-instructions.result.items 0 c.push.new.list.items (Goals c.args.p ∷ [])
    c.new-instructions.ensures.items refl (c.in_ok-push.ensures.ok ∙ ap (λ l. l ++ Goals c.args.p ∷ []) c.new-tasks.ensures.items)
    (starts_goals c.args.names c.args.code.now.words c.args.p c.requires (sym c.is_truth.ensures ∙ c.if-not-is_truth.true))

pub returns-then-not-is_truth-clause-settled : goal.returns-then-not-is_truth-clause-settled
returns-then-not-is_truth-clause-settled c = λ h.
    starts_settled c.args.names c.args.code.now.words c.new-instructions.result.items c.push.new.list.items (Goals c.args.p ∷ [])
    c.new-instructions.ensures.items (c.in_ok-push.ensures.ok ∙ ap (λ l. l ++ Goals c.args.p ∷ []) c.new-tasks.ensures.items)
    (goals_left c.args.names c.args.code.now.words c.args.p h)

pub returns-clause-under_way : goal.returns-clause-under_way
returns-clause-under_way c =
    from_empty c.args.names c.args.code.now.words (body_goals c.args.names (code_tree c.args.code.now.words c.args.p)) c.new-instructions.result.items 0 c.new-tasks.result.items []
    c.new-instructions.ensures.items refl c.new-tasks.ensures.items
    (starts_true c.args.names c.args.code.now.words (code_tree c.args.code.now.words c.args.p) (sym c.is_truth.ensures ∙ c.if-not-is_truth.false))

pub returns-clause-settled : goal.returns-clause-settled
returns-clause-settled c = λ h.
    starts_settled c.args.names c.args.code.now.words c.new-instructions.result.items c.new-tasks.result.items []
    c.new-instructions.ensures.items c.new-tasks.ensures.items (nothing_left c.args.names c.args.code.now.words)
