use Rattle.std.proofs.Common.{◌≡◌, ◌∙◌, ap, arith, List, ℕ, length}
use Rattle.goal_moves.proofs.Committing.{IfOk-then}
use Rattle.pl_machine.specs.declared.machine.Machine.{Machine}
use Rattle.pl_machine.specs.Moving.{Activates}
use Rattle.pl_machine.proofs.WentLaws.{placed_kept, gives_after, stepped_from, stepped_none, peaked_from, peaked_none}
use Rattle.pl_machine.proofs.machine.Machine.step.Goals as goal

pub returns-in-Some-clause-gives : goal.returns-in-Some-clause-gives
returns-in-Some-clause-gives c =
    let m : Machine = c.args.self.now in
    let l : Machine = c.goal_first.new.self in
    let n : Machine = c.act.new.self in
    let t : List ℕ = c.args.text.now in
    IfOk-then c.act.result c.act.ensures.gives (λ p g. gives_after m l n t t c.act.new.text p (placed_kept m l _ t c.goal_first.ensures.others) c.goal_first.ensures.remains g)

pub returns-in-Some-clause-step : goal.returns-in-Some-clause-step
returns-in-Some-clause-step c =
    let m : Machine = c.args.self.now in
    let l : Machine = c.goal_first.new.self in
    let n : Machine = c.act.new.self in
    let same : l.left ≡ m.left = ap (λ (x : Machine). x.left) c.goal_first.ensures.others in
    let w = c.in-Some.ensures.waits in
    let there : Activates m → Activates l = λ a. let some = a.1 in ((w.0, w.1.1), omega (arith, some, same)) in
    let back : Activates l → Activates m = λ a. let some = a.1 in (c.in-Some.ensures.some, omega (arith, some, same)) in
    IfOk-then c.act.result c.act.ensures.step (λ p s. stepped_from m l n same there back s)

pub returns-in-Some-clause-peak : goal.returns-in-Some-clause-peak
returns-in-Some-clause-peak c =
    let m : Machine = c.args.self.now in
    let l : Machine = c.goal_first.new.self in
    let n : Machine = c.act.new.self in
    let same : l.left ≡ m.left = ap (λ (x : Machine). x.left) c.goal_first.ensures.others in
    let w = c.in-Some.ensures.waits in
    let there : Activates m → Activates l = λ a. let some = a.1 in ((w.0, w.1.1), omega (arith, some, same)) in
    let back : Activates l → Activates m = λ a. let some = a.1 in (c.in-Some.ensures.some, omega (arith, some, same)) in
    IfOk-then c.act.result c.act.ensures.peak (λ p s. peaked_from m l n (ap (λ (x : Machine). x.peak) c.goal_first.ensures.others) (ap (λ (x : Machine). length x.path.choices.items) c.goal_first.ensures.others) c.goal_first.ensures.leaves there back s)

pub returns-in_default-clause-gives : goal.returns-in_default-clause-gives
returns-in_default-clause-gives c =
    let m : Machine = c.args.self.now in
    let l : Machine = c.goal_first.new.self in
    let n : Machine = c.go_on_quietly.new.self in
    let t : List ℕ = c.args.text.now in
    IfOk-then c.go_on_quietly.result c.go_on_quietly.ensures.gives (λ p g. gives_after m l n t t c.go_on_quietly.new.text p (placed_kept m l _ t c.goal_first.ensures.others) c.goal_first.ensures.remains g)

pub returns-in_default-clause-step : goal.returns-in_default-clause-step
returns-in_default-clause-step c =
    let m : Machine = c.args.self.now in
    let n : Machine = c.go_on_quietly.new.self in
    IfOk-then c.go_on_quietly.result c.go_on_quietly.ensures.others (λ p o.
    stepped_none m n (λ a. c.in_default.ensures.none a.0) (ap (λ (x : Machine). x.left) o ∙ ap (λ (x : Machine). x.left) c.goal_first.ensures.others))

pub returns-in_default-clause-peak : goal.returns-in_default-clause-peak
returns-in_default-clause-peak c =
    let m : Machine = c.args.self.now in
    let n : Machine = c.go_on_quietly.new.self in
    IfOk-then c.go_on_quietly.result c.go_on_quietly.ensures.others (λ p o.
    peaked_none m n (λ a. c.in_default.ensures.none a.0) (ap (λ (x : Machine). x.peak) o ∙ ap (λ (x : Machine). x.peak) c.goal_first.ensures.others))
