use Rattle.std.proofs.Common.{◌∙◌, refl, ap, subst, List, ℕ}
use Rattle.prep_report.specs.declared.end.End2.TheVariants as E
use Rattle.pl_machine.specs.declared.machine.Machine.{Machine}
use Rattle.pl_machine.specs.declared.moves.Part.TheVariants as P
use Rattle.pl_machine.specs.Machine.{IsWaiting}
use Rattle.pl_machine.specs.Running.{Remains}
use Rattle.pl_machine.specs.Parts.{Did}
use Rattle.pl_machine.proofs.EndLaws.{ended_spent}
use Rattle.pl_machine.proofs.MachineLaws.{over_machine}
use Rattle.pl_machine.proofs.WentLaws.{gives_ended, gives_over, gives_waiting, quiet_others, over_others}
use Rattle.pl_machine.proofs.machine.Machine.go_on_quietly.Goals as goal

pub returns-in-Shown : goal.returns-in-Shown
returns-in-Shown c =
    let m : Machine = c.args.self.now in
    let n : Machine = c.settle.new.self in
    let t : List ℕ = c.args.text.now in
    let u : List ℕ = c.settle.new.text in
    let d : Did (Remains m) m n t u P.Shown = subst (Did (Remains m) m n t u) c.in-Shown.is c.in_ok-settle.ensures.did in
    record {
      machine = c.in_ok-settle.ensures.machine;
      gives = d;
      others = quiet_others m n c.in_ok-settle.ensures.others;
      stops = (c.in_ok-settle.ensures.grew c.in-Shown.is, ap (λ (x : Machine). x.over) c.in_ok-settle.ensures.others ∙ c.requires.over);
    }

pub returns-in-Ended : goal.returns-in-Ended
returns-in-Ended c =
    let m : Machine = c.args.self.now in
    let n : Machine = c.settle.new.self in
    let t : List ℕ = c.args.text.now in
    let u : List ℕ = c.settle.new.text in
    record {
      machine = over_machine n c.in_ok-settle.ensures.machine;
      gives = gives_over m n t u c.in-Ended.end (gives_ended m n t u c.in-Ended.end (subst (Did (Remains m) m n t u) c.in-Ended.is c.in_ok-settle.ensures.did));
      others = over_others m n c.in_ok-settle.ensures.others;
      stops = refl;
    }

pub returns-then-is_spent : goal.returns-then-is_spent
returns-then-is_spent c =
    let m : Machine = c.args.self.now in
    let n : Machine = c.settle.new.self in
    let t : List ℕ = c.args.text.now in
    let u : List ℕ = c.settle.new.text in
    let d : Did (Remains m) m n t u (P.Waits c.in-Waits.field-0) = subst (Did (Remains m) m n t u) c.in-Waits.is c.in_ok-settle.ensures.did in
    let first : IsWaiting n (P.Waits c.in-Waits.field-0) = subst (IsWaiting n) c.in-Waits.is c.in_ok-settle.ensures.waits in
    record {
      machine = over_machine n c.in_ok-settle.ensures.machine;
      gives = gives_over m n t u E.Spent (gives_ended m n t u E.Spent (
        d.0,
        λ r h.
            ended_spent n n.compiled n.path r n.left c.in-Waits.field-0 c.in_ok-settle.ensures.machine.compiled c.is_spent.ensures.linked first.1.0 refl (c.is_spent.ensures.spent c.if-is_spent.true) (d.1 r h),
      ));
      others = over_others m n c.in_ok-settle.ensures.others;
      stops = refl;
    }

pub returns-else-is_spent : goal.returns-else-is_spent
returns-else-is_spent c =
    let m : Machine = c.args.self.now in
    let n : Machine = c.settle.new.self in
    let t : List ℕ = c.args.text.now in
    let u : List ℕ = c.settle.new.text in
    let d : Did (Remains m) m n t u (P.Waits c.in-Waits.field-0) = subst (Did (Remains m) m n t u) c.in-Waits.is c.in_ok-settle.ensures.did in
    let first : IsWaiting n (P.Waits c.in-Waits.field-0) = subst (IsWaiting n) c.in-Waits.is c.in_ok-settle.ensures.waits in
    record {
      machine = c.in_ok-settle.ensures.machine;
      gives = gives_waiting m n t u c.in-Waits.field-0 c.requires.machine.answers first d;
      others = quiet_others m n c.in_ok-settle.ensures.others;
      stops = (((first.0, first.1.1), c.is_spent.ensures.left c.if-is_spent.false), ap (λ (x : Machine). x.over) c.in_ok-settle.ensures.others ∙ c.requires.over);
    }
