use Rattle.std.proofs.Common.{◌≡◌, ◌∙◌, refl, arith, List, ℕ, true}
use Rattle.goal_moves.proofs.Committing.{IfOk-then}
use Rattle.prep_report.specs.declared.end.End2.TheVariants as E
use Rattle.pl_machine.specs.declared.machine.Machine.{Machine}
use Rattle.pl_machine.specs.Moving.{Activates}
use Rattle.pl_machine.specs.Parts.{Acted}
use Rattle.pl_machine.proofs.EndLaws.{ended_spent}
use Rattle.pl_machine.proofs.MachineLaws.{over_machine}
use Rattle.pl_machine.proofs.MoveLaws.{remains_waiting}
use Rattle.pl_machine.proofs.WentLaws.{kept_none, gives_ended, gives_over, gives_acted, gives_after, quiet_kept, quiet_remains, quiet_left, quiet_peak, stepped_one, stepped_none, first_noted, peaked_one, peaked_none, stopped_after}
use Rattle.pl_machine.proofs.machine.Machine.act.Goals as goal

pub returns-then-is_spent : goal.returns-then-is_spent
returns-then-is_spent c =
    let m : Machine = c.args.self.now in
    let t : List ℕ = c.args.text.now in
    let spent : Activates m → ⊥ = λ a. let some = a.1 in let none = (c.is_spent.ensures.spent c.if-is_spent.true) in omega (arith, some, none) in
    record {
      machine = over_machine m c.requires.machine;
      gives = gives_over m m t t E.Spent (gives_ended m m t t E.Spent (
        kept_none m t,
        λ r h.
            ended_spent m m.compiled m.path r m.left c.args.stand c.requires.machine.compiled c.is_spent.ensures.linked c.requires.waits.1.0 refl (c.is_spent.ensures.spent c.if-is_spent.true) (remains_waiting m c.args.stand r c.requires.waits h),
      ));
      step = stepped_none m (record m { over = true }) spent refl;
      peak = peaked_none m (record m { over = true }) spent refl;
      stops = refl;
    }

pub returns-then-branch : goal.returns-then-branch
returns-then-branch c =
    let m : Machine = c.args.self.now in
    let l : Machine = c.activate.new.self in
    let acts : Activates m = ((c.requires.waits.0, c.requires.waits.1.1), c.is_spent.ensures.left c.if-is_spent.false) in
    record {
      machine = c.in_ok-activate.ensures.machine;
      gives = gives_acted m l c.args.text.now c.activate.new.text c.args.stand c.requires.waits c.in_ok-activate.ensures.acted;
      step = stepped_one m l acts c.in_ok-activate.ensures.step;
      peak = peaked_one m l acts (first_noted m c.args.stand l.peak c.requires.waits.1.2 c.in_ok-activate.ensures.peak);
      stops = (c.in_ok-activate.ensures.grew c.if-branch.true, c.in_ok-activate.ensures.over ∙ c.requires.over);
    }

pub returns-clause-gives : goal.returns-clause-gives
returns-clause-gives c =
    let m : Machine = c.args.self.now in
    let l : Machine = c.activate.new.self in
    let n : Machine = c.go_on_quietly.new.self in
    let t : List ℕ = c.args.text.now in
    let u : List ℕ = c.activate.new.text in
    let acted : Acted m c.args.stand l t u = c.in_ok-activate.ensures.acted in
    let none : u ≡ t = c.in_ok-activate.ensures.quiet c.if-branch.false in
    IfOk-then c.go_on_quietly.result c.go_on_quietly.ensures.gives (λ p g.
    gives_after m l n t u c.go_on_quietly.new.text p (quiet_kept m l c.args.stand t u acted none)
    (λ r h. quiet_remains m l c.args.stand t u acted none r (remains_waiting m c.args.stand r c.requires.waits h)) g)

pub returns-clause-step : goal.returns-clause-step
returns-clause-step c =
    let m : Machine = c.args.self.now in
    let l : Machine = c.activate.new.self in
    let n : Machine = c.go_on_quietly.new.self in
    let acts : Activates m = ((c.requires.waits.0, c.requires.waits.1.1), c.is_spent.ensures.left c.if-is_spent.false) in
    IfOk-then c.go_on_quietly.result c.go_on_quietly.ensures.others (λ p o. stepped_one m n acts (quiet_left m l n o c.in_ok-activate.ensures.step))

pub returns-clause-peak : goal.returns-clause-peak
returns-clause-peak c =
    let m : Machine = c.args.self.now in
    let l : Machine = c.activate.new.self in
    let n : Machine = c.go_on_quietly.new.self in
    let acts : Activates m = ((c.requires.waits.0, c.requires.waits.1.1), c.is_spent.ensures.left c.if-is_spent.false) in
    IfOk-then c.go_on_quietly.result c.go_on_quietly.ensures.others (λ p o. peaked_one m n acts (quiet_peak m l n o _ (first_noted m c.args.stand l.peak c.requires.waits.1.2 c.in_ok-activate.ensures.peak)))

pub returns-clause-stops : goal.returns-clause-stops
returns-clause-stops c =
    IfOk-then c.go_on_quietly.result c.go_on_quietly.ensures.stops (λ p s.
    stopped_after c.go_on_quietly.new.self c.args.text.now c.activate.new.text c.go_on_quietly.new.text p (c.in_ok-activate.ensures.quiet c.if-branch.false) s)
