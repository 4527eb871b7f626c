use Rattle.std.proofs.Common.{reverse, None}
use Rattle.goal_code.specs.declared.instruction.Instruction.TheVariants.{Goal, Cut}
use Rattle.goal_code.specs.declared.work.Task.TheVariants.{Goals, Left, Then, Condition}
use Rattle.goal_code.proofs.Compiling.{OnOk-then, led, was_added, conjunction_splits, disjunction_splits, if_then_else_splits, if_then_splits, cut_added, goal_added}
use Rattle.goal_code.proofs.SettledWork.{conjunction_settled, disjunction_settled, if_then_else_settled, if_then_settled, leads_on, adds_on}
use Rattle.goal_code.proofs.work.Work.compile.Goals as goal

pub returns-in-Conjunction-clause-goes : goal.returns-in-Conjunction-clause-goes
returns-in-Conjunction-clause-goes c =
    OnOk-then c.go_back.result (λ l final u. led c.args.names c.args.code.now.words final c.args.self.now c.go_back.new.self (Goals c.in-Conjunction.left) c.in-Conjunction.right c.args.self.now.at l
    (conjunction_splits c.args.names c.args.code.now.words final c.args.self.now.instructions.items c.args.self.now.at (reverse c.args.self.now.tasks.items) c.args.p u c.in-Conjunction.left c.in-Conjunction.right c.in-Conjunction.ensures))
    c.go_back.ensures

pub returns-in-Disjunction-clause-goes : goal.returns-in-Disjunction-clause-goes
returns-in-Disjunction-clause-goes c =
    OnOk-then c.go_back-in-Disjunction.result (λ l final u. led c.args.names c.args.code.now.words final c.args.self.now c.go_back-in-Disjunction.new.self (Left c.args.p c.in-Disjunction.left c.args.self.now.at) c.in-Disjunction.right c.args.self.now.at l
    (disjunction_splits c.args.names c.args.code.now.words final c.args.self.now.instructions.items c.args.self.now.at (reverse c.args.self.now.tasks.items) c.args.p u c.in-Disjunction.left c.in-Disjunction.right c.in-Disjunction.ensures))
    c.go_back-in-Disjunction.ensures

pub returns-in-IfThenElse-clause-goes : goal.returns-in-IfThenElse-clause-goes
returns-in-IfThenElse-clause-goes c =
    OnOk-then c.go_back-in-IfThenElse.result (λ l final u. led c.args.names c.args.code.now.words final c.args.self.now c.go_back-in-IfThenElse.new.self (Then c.args.p c.in-IfThenElse.condition c.in-IfThenElse.then c.args.self.now.at) c.in-IfThenElse.otherwise c.args.self.now.at l
    (if_then_else_splits c.args.names c.args.code.now.words final c.args.self.now.instructions.items c.args.self.now.at (reverse c.args.self.now.tasks.items) c.args.p u c.in-IfThenElse.condition c.in-IfThenElse.then c.in-IfThenElse.otherwise c.in-IfThenElse.ensures))
    c.go_back-in-IfThenElse.ensures

pub returns-in-IfThen-clause-goes : goal.returns-in-IfThen-clause-goes
returns-in-IfThen-clause-goes c =
    OnOk-then c.go_back-in-IfThen.result (λ l final u. led c.args.names c.args.code.now.words final c.args.self.now c.go_back-in-IfThen.new.self (Condition c.args.p c.in-IfThen.condition None c.args.self.now.at) c.in-IfThen.then c.args.self.now.at l
    (if_then_splits c.args.names c.args.code.now.words final c.args.self.now.instructions.items c.args.self.now.at (reverse c.args.self.now.tasks.items) c.args.p u c.in-IfThen.condition c.in-IfThen.then c.in-IfThen.ensures))
    c.go_back-in-IfThen.ensures

pub returns-in-Cut-clause-goes : goal.returns-in-Cut-clause-goes
returns-in-Cut-clause-goes c =
    OnOk-then c.add.result (λ l final u. was_added c.args.names c.args.code.now.words final c.args.self.now c.add.new.self (Cut c.args.p c.args.self.now.at) l
    (cut_added c.args.names c.args.code.now.words final c.args.self.now.instructions.items c.args.self.now.at (reverse c.args.self.now.tasks.items) c.args.p u c.in-Cut.ensures))
    c.add.ensures

pub returns-in-Other-clause-goes : goal.returns-in-Other-clause-goes
returns-in-Other-clause-goes c =
    OnOk-then c.add-in-Other.result (λ l final u. was_added c.args.names c.args.code.now.words final c.args.self.now c.add-in-Other.new.self (Goal c.args.p c.args.self.now.at) l
    (goal_added c.args.names c.args.code.now.words final c.args.self.now.instructions.items c.args.self.now.at (reverse c.args.self.now.tasks.items) c.args.p u c.in-Other.ensures))
    c.add-in-Other.ensures

pub returns-in-Conjunction-clause-settled : goal.returns-in-Conjunction-clause-settled
returns-in-Conjunction-clause-settled c =
    OnOk-then c.go_back.result (λ l w. leads_on c.args.names c.args.code.now.words c.args.self.now (Goals c.args.p) w c.go_back.new.self (Goals c.in-Conjunction.left) c.in-Conjunction.right c.args.self.now.at l (λ z. let k = conjunction_settled c.args.names c.args.code.now.words c.args.p c.in-Conjunction.left c.in-Conjunction.right c.in-Conjunction.ensures z in (k.1, k.0)))
    c.go_back.ensures

pub returns-in-Disjunction-clause-settled : goal.returns-in-Disjunction-clause-settled
returns-in-Disjunction-clause-settled c =
    OnOk-then c.go_back-in-Disjunction.result (λ l w. leads_on c.args.names c.args.code.now.words c.args.self.now (Goals c.args.p) w c.go_back-in-Disjunction.new.self (Left c.args.p c.in-Disjunction.left c.args.self.now.at) c.in-Disjunction.right c.args.self.now.at l (λ z. let k = disjunction_settled c.args.names c.args.code.now.words c.args.p c.in-Disjunction.left c.in-Disjunction.right c.in-Disjunction.ensures z in (k.1, (z, k.0))))
    c.go_back-in-Disjunction.ensures

pub returns-in-IfThenElse-clause-settled : goal.returns-in-IfThenElse-clause-settled
returns-in-IfThenElse-clause-settled c =
    OnOk-then c.go_back-in-IfThenElse.result (λ l w. leads_on c.args.names c.args.code.now.words c.args.self.now (Goals c.args.p) w c.go_back-in-IfThenElse.new.self (Then c.args.p c.in-IfThenElse.condition c.in-IfThenElse.then c.args.self.now.at) c.in-IfThenElse.otherwise c.args.self.now.at l (λ z. let k = if_then_else_settled c.args.names c.args.code.now.words c.args.p c.in-IfThenElse.condition c.in-IfThenElse.then c.in-IfThenElse.otherwise c.in-IfThenElse.ensures z in (k.2, (z, k.0, k.1))))
    c.go_back-in-IfThenElse.ensures

pub returns-in-IfThen-clause-settled : goal.returns-in-IfThen-clause-settled
returns-in-IfThen-clause-settled c =
    OnOk-then c.go_back-in-IfThen.result (λ l w. leads_on c.args.names c.args.code.now.words c.args.self.now (Goals c.args.p) w c.go_back-in-IfThen.new.self (Condition c.args.p c.in-IfThen.condition None c.args.self.now.at) c.in-IfThen.then c.args.self.now.at l (λ z. let k = if_then_settled c.args.names c.args.code.now.words c.args.p c.in-IfThen.condition c.in-IfThen.then c.in-IfThen.ensures z in (k.1, (z, k.0))))
    c.go_back-in-IfThen.ensures

pub returns-in-Cut-clause-settled : goal.returns-in-Cut-clause-settled
returns-in-Cut-clause-settled c =
    OnOk-then c.add.result (λ l w. adds_on c.args.names c.args.code.now.words c.args.self.now (Goals c.args.p) w c.add.new.self (Cut c.args.p c.args.self.now.at) l (λ z g. z))
    c.add.ensures

pub returns-in-Other-clause-settled : goal.returns-in-Other-clause-settled
returns-in-Other-clause-settled c =
    OnOk-then c.add-in-Other.result (λ l w. adds_on c.args.names c.args.code.now.words c.args.self.now (Goals c.args.p) w c.add-in-Other.new.self (Goal c.args.p c.args.self.now.at) l (λ z g. z))
    c.add-in-Other.ensures
