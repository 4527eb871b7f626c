use Rattle.std.proofs.Common.{◌≡◌, ◌+◌, ◌∙◌, ap, sym, subst, arith, length}
use Rattle.std.specs.Prelude.{nat_lt}
use Rattle.pl_machine.specs.declared.machine.Machine.{Machine}
use Rattle.pl_machine.specs.Moving.{noted}
use Rattle.pl_machine.specs.Parts.{Acted}
use Rattle.pl_machine.specs.Running.{with_left}
use Rattle.pl_machine.proofs.MoveLaws.{acted_noted}
use Rattle.pl_machine.proofs.QuietLaws.{quiet_text}
use Rattle.pl_machine.proofs.machine.Machine.activate.Goals as goal

pub returns-clause-acted : goal.returns-clause-acted
returns-clause-acted c =
    let m : Machine = c.args.self.now in
    let new : Machine = record c.enter.new.self { going = c.in_ok-going.going } in
    subst (λ n. Acted m c.args.stand n c.args.text.now c.enter.new.text) (sym c.note.ensures.others)
    (acted_noted m new c.args.stand c.args.text.now c.enter.new.text c.note.new.self.peak c.in_ok-going.ensures.acted)

pub returns-clause-further : goal.returns-clause-further
returns-clause-further c left =
    let m : Machine = with_left c.args.self.now (left + 1) in
    let new : Machine = record c.enter.new.self { going = c.in_ok-going.going } in
    subst (λ n. Acted m c.args.stand (with_left n left) c.args.text.now c.enter.new.text) (sym c.note.ensures.others)
    (acted_noted m (with_left new left) c.args.stand c.args.text.now c.enter.new.text c.note.new.self.peak (c.in_ok-going.ensures.further left))

pub returns-clause-peak : goal.returns-clause-peak
returns-clause-peak c =
    let m : Machine = c.args.self.now in
    let more = length c.enter.new.self.path.choices.items in
    let records : c.len-records.result ≡ length m.path.choices.items = omega (arith, c.len-records.ensures, m.path.choices.ok) in
    c.note.ensures.peak
    ∙ ap (λ p. noted p c.len-records.result (nat_lt c.len-records.result more)) c.in_ok-going.ensures.peak
    ∙ ap (λ k. noted m.peak k (nat_lt k more)) records
    ∙ ap (noted m.peak (length m.path.choices.items)) c.in_ok-going.ensures.untried

pub returns-clause-quiet : goal.returns-clause-quiet
returns-clause-quiet c e =
    quiet_text c.args.text.now c.enter.new.text c.as_slice-before.result.now c.as_slice.result.now c.in_ok-going.ensures.acted.bytes c.as_slice-before.ensures c.as_slice.ensures c.in_ok-going.ensures.acted.text e
