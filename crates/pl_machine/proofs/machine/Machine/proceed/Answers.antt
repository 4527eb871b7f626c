use Rattle.std.proofs.Common.{◌≡◌, List, ℕ, refl, ap, subst}
use Rattle.prep_report.specs.declared.end.End2.TheVariants as E
use Rattle.pl_machine.specs.declared.machine.Machine.{Machine}
use Rattle.pl_machine.specs.declared.moves.Part.TheVariants as P
use Rattle.pl_machine.specs.Machine.{IsWaiting}
use Rattle.pl_machine.specs.Running.{Remains, with_left}
use Rattle.pl_machine.specs.Parts.{Did}
use Rattle.pl_machine.specs.Further.{Does}
use Rattle.pl_machine.proofs.EndLaws.{ended_spent}
use Rattle.pl_machine.proofs.FurtherSteps.{further_answer, further_shown, further_quiet}
use Rattle.pl_machine.proofs.WentLaws.{gives_goal, gives_ended, gives_shown, gives_quiet}
use Rattle.pl_machine.proofs.machine.Machine.proceed.Goals as goal

pub returns-then-is_spent-clause-gives : goal.returns-then-is_spent-clause-gives
returns-then-is_spent-clause-gives c =
    let m : Machine = c.args.self.now in
    let n : Machine = c.settle.new.self in
    let t : List ℕ = c.args.text.now in
    let u : List ℕ = c.settle.new.text in
    let d : Did (Remains m) m n t u (P.Waits c.in-Waits.stand) = subst (Did (Remains m) m n t u) c.in-Waits.is c.in_ok-settle.ensures.did in
    let first : IsWaiting n (P.Waits c.in-Waits.stand) = subst (IsWaiting n) c.in-Waits.is c.in_ok-settle.ensures.waits in
    gives_ended m n t u E.Spent
    (d.0, λ r h. ended_spent n n.compiled n.path r n.left c.in-Waits.stand c.in_ok-settle.ensures.machine.compiled c.is_spent.ensures.linked first.1.0 refl (c.is_spent.ensures.spent c.if-is_spent.true) (d.1 r h))

pub returns-in-Quiet-clause-gives : goal.returns-in-Quiet-clause-gives
returns-in-Quiet-clause-gives c =
    let m : Machine = c.args.self.now in
    let n : Machine = c.settle.new.self in
    let t : List ℕ = c.args.text.now in
    let u : List ℕ = c.settle.new.text in
    gives_goal m n t u c.requires.answers (subst (Did (Remains m) m n t u) c.in-Quiet.is c.in_ok-settle.ensures.did)

pub returns-then-branch-clause-gives : goal.returns-then-branch-clause-gives
returns-then-branch-clause-gives c =
    let m : Machine = c.args.self.now in
    let l : Machine = c.settle.new.self in
    let t : List ℕ = c.args.text.now in
    let u : List ℕ = c.settle.new.text in
    let d : Did (Remains m) m l t u (P.Waits c.in-Waits.stand) = subst (Did (Remains m) m l t u) c.in-Waits.is c.in_ok-settle.ensures.did in
    gives_shown m l c.activate.new.self t u c.activate.new.text c.in-Waits.stand d c.in_ok-activate-in-Waits.ensures.acted

pub returns-else-branch-clause-gives : goal.returns-else-branch-clause-gives
returns-else-branch-clause-gives c =
    let m : Machine = c.args.self.now in
    let l : Machine = c.settle.new.self in
    let t : List ℕ = c.args.text.now in
    let u : List ℕ = c.settle.new.text in
    let d : Did (Remains m) m l t u (P.Waits c.in-Waits.stand) = subst (Did (Remains m) m l t u) c.in-Waits.is c.in_ok-settle.ensures.did in
    gives_quiet m l c.activate.new.self t u c.activate.new.text c.in-Waits.stand d c.in_ok-activate-in-Waits.ensures.acted (c.in_ok-activate-in-Waits.ensures.quiet c.if-branch.false)

-- ---- the same whatever the number of steps left

pub returns-in-Shown-clause-further : goal.returns-in-Shown-clause-further
returns-in-Shown-clause-further c =
    let m : Machine = c.args.self.now in
    let l : Machine = c.settle.new.self in
    let t : List ℕ = c.args.text.now in
    let u : List ℕ = c.settle.new.text in
    let d = λ (left : ℕ). subst (Does (Remains (with_left m left)) (with_left m left) (with_left l left) t u) c.in-Shown.is (c.in_ok-settle.ensures.further left) in
    let same : l.left ≡ m.left = ap (λ (x : Machine). x.left) c.in_ok-settle.ensures.others in
    further_answer m l t u same d

pub returns-in-Quiet-clause-further : goal.returns-in-Quiet-clause-further
returns-in-Quiet-clause-further c = absurd (c.in_ok-settle.ensures.settled c.in-Quiet.is)

pub returns-then-branch-clause-further : goal.returns-then-branch-clause-further
returns-then-branch-clause-further c =
    let m : Machine = c.args.self.now in
    let l : Machine = c.settle.new.self in
    let t : List ℕ = c.args.text.now in
    let u : List ℕ = c.settle.new.text in
    let d = λ (left : ℕ). subst (Does (Remains (with_left m left)) (with_left m left) (with_left l left) t u) c.in-Waits.is (c.in_ok-settle.ensures.further left) in
    let same : l.left ≡ m.left = ap (λ (x : Machine). x.left) c.in_ok-settle.ensures.others in
    let first : IsWaiting l (P.Waits c.in-Waits.stand) = subst (IsWaiting l) c.in-Waits.is c.in_ok-settle.ensures.waits in
    further_shown m l c.activate.new.self t u c.activate.new.text c.in-Waits.stand d c.in_ok-activate-in-Waits.ensures.further c.in_ok-settle.ensures.machine.compiled c.is_spent.ensures.linked first.1.0
    same c.in_ok-activate-in-Waits.ensures.step (c.in_ok-activate-in-Waits.ensures.grew c.if-branch.true)

pub returns-else-branch-clause-further : goal.returns-else-branch-clause-further
returns-else-branch-clause-further c =
    let m : Machine = c.args.self.now in
    let l : Machine = c.settle.new.self in
    let t : List ℕ = c.args.text.now in
    let u : List ℕ = c.settle.new.text in
    let d = λ (left : ℕ). subst (Does (Remains (with_left m left)) (with_left m left) (with_left l left) t u) c.in-Waits.is (c.in_ok-settle.ensures.further left) in
    let same : l.left ≡ m.left = ap (λ (x : Machine). x.left) c.in_ok-settle.ensures.others in
    let first : IsWaiting l (P.Waits c.in-Waits.stand) = subst (IsWaiting l) c.in-Waits.is c.in_ok-settle.ensures.waits in
    further_quiet m l c.activate.new.self t u c.activate.new.text c.in-Waits.stand d c.in_ok-activate-in-Waits.ensures.further c.in_ok-settle.ensures.machine.compiled c.is_spent.ensures.linked first.1.0
    same c.in_ok-activate-in-Waits.ensures.step (c.in_ok-activate-in-Waits.ensures.quiet c.if-branch.false)
