use Rattle.std.proofs.Common.{refl, sym, subst, rules}
use Rattle.std.specs.Int.{w64}
use Rattle.std.specs.Int.RustNames.{FitsSigned as SFits}
use Rattle.std.proofs.lemmas.Int.{to_z-of_z}
use Rattle.goal_moves.specs.declared.going.Going.TheVariants.{On, Fails, Halts}
use Rattle.goal_moves.proofs.Committing.{IfOk-then}
use Rattle.prep_report.specs.declared.end.End2.TheVariants as E
use Rattle.pl_machine.specs.declared.machine.Machine.{Machine}
use Rattle.pl_machine.specs.Running.{Remains, Ended, with_left}
use Rattle.pl_machine.specs.Parts.{Failing, Searching}
use Rattle.pl_machine.proofs.EndLaws.{ended_halted}
use Rattle.pl_machine.proofs.FurtherLaws.{does_then}
use Rattle.pl_machine.proofs.WentLaws.{did_then}
use Rattle.pl_machine.proofs.MoveLaws.{remains_at}
use Rattle.pl_machine.proofs.machine.Machine.part.Goals as goal

pub returns-in-Halts-clause-further : goal.returns-in-Halts-clause-further
returns-in-Halts-clause-further c left =
    let m : Machine = with_left c.args.self.now left in
    let new : Machine = record m { going = c.replace.new.dest } in
    let fits : SFits w64 c.in-Halts.status = search rules in (
      record { text = refl; same = (refl, refl, refl); answers = refl },
      λ r h. subst (λ z. Ended new (E.Halted z) r) (sym (to_z-of_z w64 c.in-Halts.status fits))
          (ended_halted new m.compiled m.path r left c.in-Halts.status refl (remains_at m (Halts c.in-Halts.status) r (sym c.in-Halts.ensures.value) h)),
    )

pub returns-in-Halts-clause-did : goal.returns-in-Halts-clause-did
returns-in-Halts-clause-did c = returns-in-Halts-clause-further c c.args.self.now.left

pub returns-in-Fails-clause-did : goal.returns-in-Fails-clause-did
returns-in-Fails-clause-did c =
    let m : Machine = c.args.self.now in
    let mid : Machine = record m { going = c.replace.new.dest } in
    IfOk-then c.go_back.result c.go_back.ensures.did (λ part d.
    did_then (Remains m) (Failing mid) m mid c.go_back.new.self c.args.text.now c.args.text.now c.args.text.now part
    (record { text = refl; same = (refl, refl, refl); answers = refl })
    (λ r h. remains_at m Fails r (sym c.in-Fails.ensures.value) h)
    (d c.args.text.now))

pub returns-in-On-clause-did : goal.returns-in-On-clause-did
returns-in-On-clause-did c =
    let m : Machine = c.args.self.now in
    let mid : Machine = record m { going = c.replace.new.dest } in
    IfOk-then c.go_on.result c.go_on.ensures.did (λ part d.
    did_then (Remains m) (Searching mid) m mid c.go_on.new.self c.args.text.now c.args.text.now c.go_on.new.text part
    (record { text = refl; same = (refl, refl, refl); answers = refl })
    (λ r h. remains_at m On r (sym c.in-On.ensures.value) h)
    d)

pub returns-in-Fails-clause-further : goal.returns-in-Fails-clause-further
returns-in-Fails-clause-further c =
    IfOk-then c.go_back.result c.go_back.ensures.further (λ part d left.
    let m : Machine = with_left c.args.self.now left in
    let mid : Machine = record m { going = c.replace.new.dest } in
    does_then (Remains m) (Failing mid) m mid (with_left c.go_back.new.self left) c.args.text.now c.args.text.now c.args.text.now part
    (record { text = refl; same = (refl, refl, refl); answers = refl })
    (λ r h. remains_at m Fails r (sym c.in-Fails.ensures.value) h)
    (d left c.args.text.now))

pub returns-in-On-clause-further : goal.returns-in-On-clause-further
returns-in-On-clause-further c =
    IfOk-then c.go_on.result c.go_on.ensures.further (λ part d left.
    let m : Machine = with_left c.args.self.now left in
    let mid : Machine = record m { going = c.replace.new.dest } in
    does_then (Remains m) (Searching mid) m mid (with_left c.go_on.new.self left) c.args.text.now c.args.text.now c.go_on.new.text part
    (record { text = refl; same = (refl, refl, refl); answers = refl })
    (λ r h. remains_at m On r (sym c.in-On.ensures.value) h)
    (d left))
