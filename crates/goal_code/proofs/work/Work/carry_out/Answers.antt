use Rattle.std.proofs.Common.{◌≡◌, true, false, ◌∷◌, subst, reverse, Some}
use Rattle.goal_code.specs.declared.instruction.Instruction.TheVariants.{Either, If, EndIf}
use Rattle.goal_code.specs.declared.work.Task.TheVariants as T
use Rattle.goal_code.specs.Tasks.{UnderWay, WorkSettled}
use Rattle.goal_code.proofs.Compiling.{OnOk-then, led, was_added, left_goes, disjunction_goes, then_goes, condition_done, conditional_goes}
use Rattle.goal_code.proofs.SettledWork.{leads_on, adds_on, adds_and_leads}
use Rattle.goal_code.proofs.work.Work.carry_out.Goals as goal

pub returns-in-Left-clause-goes : goal.returns-in-Left-clause-goes
returns-in-Left-clause-goes c =
    OnOk-then c.go_back.result (λ l final u. led c.args.names c.args.code.now.words final c.args.self.now c.go_back.new.self (T.Disjunction c.in-Left.goal c.args.self.now.at c.in-Left.next) c.in-Left.left c.in-Left.next l
    (left_goes c.args.names c.args.code.now.words final c.args.self.now.instructions.items c.args.self.now.at (reverse c.args.self.now.tasks.items) c.in-Left.goal c.in-Left.left c.in-Left.next
    (subst (λ t. UnderWay c.args.names c.args.code.now.words final c.args.self.now.instructions.items c.args.self.now.at (t ∷ reverse c.args.self.now.tasks.items)) c.in-Left.is u)))
    c.go_back.ensures

pub returns-in-Disjunction-clause-goes : goal.returns-in-Disjunction-clause-goes
returns-in-Disjunction-clause-goes c =
    OnOk-then c.add.result (λ l final u. was_added c.args.names c.args.code.now.words final c.args.self.now c.add.new.self (Either c.in-Disjunction.goal c.args.self.now.at c.in-Disjunction.right c.in-Disjunction.next) l
    (disjunction_goes c.args.names c.args.code.now.words final c.args.self.now.instructions.items c.args.self.now.at (reverse c.args.self.now.tasks.items) c.in-Disjunction.goal c.in-Disjunction.right c.in-Disjunction.next
    (subst (λ t. UnderWay c.args.names c.args.code.now.words final c.args.self.now.instructions.items c.args.self.now.at (t ∷ reverse c.args.self.now.tasks.items)) c.in-Disjunction.is u)))
    c.add.ensures

pub returns-in-Then-clause-goes : goal.returns-in-Then-clause-goes
returns-in-Then-clause-goes c =
    OnOk-then c.go_back-in-Then.result (λ l final u. led c.args.names c.args.code.now.words final c.args.self.now c.go_back-in-Then.new.self (T.Condition c.in-Then.goal c.in-Then.condition (Some c.args.self.now.at) c.in-Then.next) c.in-Then.then c.in-Then.next l
    (then_goes c.args.names c.args.code.now.words final c.args.self.now.instructions.items c.args.self.now.at (reverse c.args.self.now.tasks.items) c.in-Then.goal c.in-Then.condition c.in-Then.then c.in-Then.next
    (subst (λ t. UnderWay c.args.names c.args.code.now.words final c.args.self.now.instructions.items c.args.self.now.at (t ∷ reverse c.args.self.now.tasks.items)) c.in-Then.is u)))
    c.go_back-in-Then.ensures

pub returns-in_ok-add-in-Condition-clause-goes : goal.returns-in_ok-add-in-Condition-clause-goes
returns-in_ok-add-in-Condition-clause-goes c =
    OnOk-then c.go_back-in-Condition.result (λ l final u. condition_done c.args.names c.args.code.now.words final c.args.self.now c.add-in-Condition.new.self c.go_back-in-Condition.new.self c.in-Condition.goal c.in-Condition.condition c.in-Condition.otherwise c.in-Condition.next c.in_ok-add-in-Condition.ensures l
    (subst (λ t. UnderWay c.args.names c.args.code.now.words final c.args.self.now.instructions.items c.args.self.now.at (t ∷ reverse c.args.self.now.tasks.items)) c.in-Condition.is u))
    c.go_back-in-Condition.ensures

pub returns-in-Conditional-clause-goes : goal.returns-in-Conditional-clause-goes
returns-in-Conditional-clause-goes c =
    OnOk-then c.add-in-Conditional.result (λ l final u. was_added c.args.names c.args.code.now.words final c.args.self.now c.add-in-Conditional.new.self (If c.in-Conditional.goal c.args.self.now.at c.in-Conditional.end c.in-Conditional.otherwise c.in-Conditional.next) l
    (conditional_goes c.args.names c.args.code.now.words final c.args.self.now.instructions.items c.args.self.now.at (reverse c.args.self.now.tasks.items) c.in-Conditional.goal c.in-Conditional.end c.in-Conditional.otherwise c.in-Conditional.next
    (subst (λ t. UnderWay c.args.names c.args.code.now.words final c.args.self.now.instructions.items c.args.self.now.at (t ∷ reverse c.args.self.now.tasks.items)) c.in-Conditional.is u)))
    c.add-in-Conditional.ensures

pub returns-in-Left-clause-settled : goal.returns-in-Left-clause-settled
returns-in-Left-clause-settled c =
    OnOk-then c.go_back.result (λ l w. leads_on c.args.names c.args.code.now.words c.args.self.now (T.Left c.in-Left.goal c.in-Left.left c.in-Left.next) (subst (λ t. WorkSettled c.args.names c.args.code.now.words c.args.self.now.instructions.items (t ∷ reverse c.args.self.now.tasks.items)) c.in-Left.is w) c.go_back.new.self (T.Disjunction c.in-Left.goal c.args.self.now.at c.in-Left.next) c.in-Left.left c.in-Left.next l (λ z. (z.1, z.0)))
    c.go_back.ensures

pub returns-in-Disjunction-clause-settled : goal.returns-in-Disjunction-clause-settled
returns-in-Disjunction-clause-settled c =
    OnOk-then c.add.result (λ l w. adds_on c.args.names c.args.code.now.words c.args.self.now (T.Disjunction c.in-Disjunction.goal c.in-Disjunction.right c.in-Disjunction.next) (subst (λ t. WorkSettled c.args.names c.args.code.now.words c.args.self.now.instructions.items (t ∷ reverse c.args.self.now.tasks.items)) c.in-Disjunction.is w) c.add.new.self (Either c.in-Disjunction.goal c.args.self.now.at c.in-Disjunction.right c.in-Disjunction.next) l (λ z g. z))
    c.add.ensures

pub returns-in-Then-clause-settled : goal.returns-in-Then-clause-settled
returns-in-Then-clause-settled c =
    OnOk-then c.go_back-in-Then.result (λ l w. leads_on c.args.names c.args.code.now.words c.args.self.now (T.Then c.in-Then.goal c.in-Then.condition c.in-Then.then c.in-Then.next) (subst (λ t. WorkSettled c.args.names c.args.code.now.words c.args.self.now.instructions.items (t ∷ reverse c.args.self.now.tasks.items)) c.in-Then.is w) c.go_back-in-Then.new.self (T.Condition c.in-Then.goal c.in-Then.condition (Some c.args.self.now.at) c.in-Then.next) c.in-Then.then c.in-Then.next l (λ z. (z.2, (z.0, z.1))))
    c.go_back-in-Then.ensures

pub returns-in_ok-add-in-Condition-clause-settled : goal.returns-in_ok-add-in-Condition-clause-settled
returns-in_ok-add-in-Condition-clause-settled c =
    OnOk-then c.go_back-in-Condition.result (λ l w. adds_and_leads c.args.names c.args.code.now.words c.args.self.now (T.Condition c.in-Condition.goal c.in-Condition.condition c.in-Condition.otherwise c.in-Condition.next) (subst (λ t. WorkSettled c.args.names c.args.code.now.words c.args.self.now.instructions.items (t ∷ reverse c.args.self.now.tasks.items)) c.in-Condition.is w) c.add-in-Condition.new.self c.go_back-in-Condition.new.self (EndIf c.args.self.now.at) (T.Conditional c.in-Condition.goal c.add-in-Condition.new.self.at c.in-Condition.otherwise c.in-Condition.next) c.in-Condition.condition c.add-in-Condition.new.self.at c.in_ok-add-in-Condition.ensures l (λ z g. let e : false ≡ true = g in cc) (λ z. (z.1, z.0)))
    c.go_back-in-Condition.ensures

pub returns-in-Conditional-clause-settled : goal.returns-in-Conditional-clause-settled
returns-in-Conditional-clause-settled c =
    OnOk-then c.add-in-Conditional.result (λ l w. adds_on c.args.names c.args.code.now.words c.args.self.now (T.Conditional c.in-Conditional.goal c.in-Conditional.end c.in-Conditional.otherwise c.in-Conditional.next) (subst (λ t. WorkSettled c.args.names c.args.code.now.words c.args.self.now.instructions.items (t ∷ reverse c.args.self.now.tasks.items)) c.in-Conditional.is w) c.add-in-Conditional.new.self (If c.in-Conditional.goal c.args.self.now.at c.in-Conditional.end c.in-Conditional.otherwise c.in-Conditional.next) l (λ z g. z))
    c.add-in-Conditional.ensures
