use Rattle.std.proofs.Common.{◌∙◌, ◌≤◌, ◌+◌, ℕ, List, [], Option, sym, subst, rules, arith}
use Rattle.std.specs.Io.KnownBytes.{Appends}
use Rattle.plm_io.specs.Causes.{AppendsFront}
use Rattle.pl_machine.specs.declared.machine.Machine.{Machine}
use Rattle.pl_machine.specs.declared.moves.Progress.TheVariants as P
use Rattle.pl_machine.specs.Running.{Gives, bytes_by}
use Rattle.pl_machine.proofs.RunLaws.{SoFar, none_put, on_err, gives_fresh, later_then, rose_later, front_so_far, front_moved, more_put, none_more, ran, all_put}
use Rattle.pl_machine.proofs.BreakLaws.{Far, far_none, far_quiet, far_shown, far_broken, goes_fresh}
use Rattle.pl_machine.specs.Further.{Further}
use Rattle.pl_machine.proofs.WentLaws.{ran_over, same_then}
use Rattle.pl_machine.proofs.machine.Machine.run.Goals as goal
use Rattle.pl_machine.proofs.machine.Machine.run.Goals.{in-Goal, in-Shown+in_ok-put-in-Shown}

pub moves-init : goal.moves-init
moves-init g c = record { machine = c.requires.machine; over = c.requires.over; so_far = none_put c.args.self.now c.args.show (g.O.Sink.written c.args.out.now) c.requires.machine.answers; far = λ outcome whole. (0, far_none c.args.self.now c.args.show (g.O.Sink.written c.args.out.now) outcome c.requires.machine.answers whole); later = omega arith }

pub returns-in_err-put-in-Shown-clause-front : goal.returns-in_err-put-in-Shown-clause-front
returns-in_err-put-in-Shown-clause-front g c =
    let m : Machine = c.args.self.now in
    let l : Machine = c.moves.self in
    let n : Machine = c.proceed.new.self in
    let t : List ℕ = c.proceed.new.text in
    let gives : Gives l n [] t P.Shown = gives_fresh l n c.new-text.result t c.in_ok-proceed.field-0 P.Shown c.new-text.ensures c.in-Shown.is c.in_ok-proceed.ensures.gives in
    let front : AppendsFront (g.O.Sink.written c.moves.out) (g.O.Sink.written c.put.new.out) (bytes_by c.args.show t) =
    subst (λ b. AppendsFront (g.O.Sink.written c.moves.out) (g.O.Sink.written c.put.new.out) (bytes_by c.args.show b)) c.as_slice.ensures c.in_err-put-in-Shown.ensures.front in
    on_err c.from_residual-in_err-put-in-Shown.result
    (front_moved m l c.args.show (g.O.Sink.written c.args.out.now) (g.O.Sink.written c.moves.out) c.moves.invariant.so_far n t gives.1 (g.O.Sink.written c.put.new.out) front)

pub returns-in_err-put-in-Shown-clause-cause : goal.returns-in_err-put-in-Shown-clause-cause
returns-in_err-put-in-Shown-clause-cause g c =
    λ h. rose_later (g.O.Sink.faults c.args.out.now) (g.O.Sink.faults c.moves.out) (g.O.Sink.faults c.put.new.out) c.moves.invariant.later (c.put.ensures.cause (search rules))

pub returns-in_err-put-in-Shown-clause-broke : goal.returns-in_err-put-in-Shown-clause-broke
returns-in_err-put-in-Shown-clause-broke g c h =
    let m : Machine = c.args.self.now in
    let l : Machine = c.moves.self in
    let n : Machine = c.proceed.new.self in
    let t : List ℕ = c.proceed.new.text in
    let gives : Gives l n [] t P.Shown = gives_fresh l n c.new-text.result t c.in_ok-proceed.field-0 P.Shown c.new-text.ensures c.in-Shown.is c.in_ok-proceed.ensures.gives in
    let further : Further l n [] t P.Shown = goes_fresh l n c.new-text.result t c.in_ok-proceed.field-0 P.Shown c.new-text.ensures c.in-Shown.is c.in_ok-proceed.ensures.further in
    let front : AppendsFront (g.O.Sink.written c.moves.out) (g.O.Sink.written c.put.new.out) (bytes_by c.args.show t) =
    subst (λ b. AppendsFront (g.O.Sink.written c.moves.out) (g.O.Sink.written c.put.new.out) (bytes_by c.args.show b)) c.as_slice.ensures c.in_err-put-in-Shown.ensures.front in (
      c.in_ok-proceed.ensures.machine,
      same_then m l n c.moves.invariant.so_far.same gives.0,
      λ outcome whole.
          let was = c.moves.invariant.far outcome whole in
          far_broken m l n c.args.show (g.O.Sink.written c.args.out.now) (g.O.Sink.written c.moves.out) t outcome was.0 was.1 c.moves.invariant.so_far.same (c.put.ensures.lines (search rules)) further (omega (arith, c.in_ok-proceed.ensures.grew c.in-Shown.is)) (g.O.Sink.written c.put.new.out) front,
    )

pub returns-in-Ended-clause-ran : goal.returns-in-Ended-clause-ran
returns-in-Ended-clause-ran g c =
    let m : Machine = c.args.self.now in
    let l : Machine = c.moves.self in
    let n : Machine = c.proceed.new.self in
    let t : List ℕ = c.proceed.new.text in
    let gives : Gives l n [] t (P.Ended c.in-Ended.end) = gives_fresh l n c.new-text.result t c.in_ok-proceed.field-0 (P.Ended c.in-Ended.end) c.new-text.ensures c.in-Ended.is c.in_ok-proceed.ensures.gives in
    λ r h.
    ran_over m n c.in-Ended.end r
    (ran m l c.args.show (g.O.Sink.written c.args.out.now) (g.O.Sink.written c.moves.out) c.moves.invariant.so_far n c.in-Ended.end gives.1 gives.2 gives.3 r h)

pub returns-in-Ended-clause-all : goal.returns-in-Ended-clause-all
returns-in-Ended-clause-all g c =
    let m : Machine = c.args.self.now in
    let l : Machine = c.moves.self in
    let n : Machine = c.proceed.new.self in
    let t : List ℕ = c.proceed.new.text in
    let gives : Gives l n [] t (P.Ended c.in-Ended.end) = gives_fresh l n c.new-text.result t c.in_ok-proceed.field-0 (P.Ended c.in-Ended.end) c.new-text.ensures c.in-Ended.is c.in_ok-proceed.ensures.gives in
    all_put m l c.args.show (g.O.Sink.written c.args.out.now) (g.O.Sink.written c.moves.out) c.moves.invariant.so_far n c.in-Ended.end gives.1 gives.2 gives.3

pub moves-preserved : goal.moves-preserved
moves-preserved g c =
    let m : Machine = c.args.self.now in
    let l : Machine = c.moves.self in
    let n : Machine = c.proceed.new.self in
    let t : List ℕ = c.proceed.new.text in
    let u : Option (List ℕ) = g.O.Sink.written c.args.out.now in
    let v : Option (List ℕ) = g.O.Sink.written c.moves.out in
    elim c.match-branch-2.branch [
      | in-Goal w ↦
          let gives : Gives l n [] t P.Goal = gives_fresh l n c.new-text.result t c.in_ok-proceed.field-0 P.Goal c.new-text.ensures w.in-Goal.is c.in_ok-proceed.ensures.gives in
          record {
            machine = c.in_ok-proceed.ensures.machine;
            over = c.in_ok-proceed.ensures.over ∙ c.moves.invariant.over;
            so_far = subst (λ o. SoFar m n c.args.show u (g.O.Sink.written o)) (sym w.out-is) (none_more m l c.args.show u v c.moves.invariant.so_far n t gives.1.1 gives.1.0 gives.0);
            far = λ outcome whole.
                let was = c.moves.invariant.far outcome whole in
                (was.0 + 0, subst (λ o. Far m n c.args.show u (g.O.Sink.written o) outcome (was.0 + 0)) (sym w.out-is) (far_quiet m l n c.args.show u v t outcome was.0 was.1 c.moves.invariant.so_far.same (goes_fresh l n c.new-text.result t c.in_ok-proceed.field-0 P.Goal c.new-text.ensures w.in-Goal.is c.in_ok-proceed.ensures.further) gives.0));
            later = subst (λ o. g.O.Sink.faults c.args.out.now ≤ g.O.Sink.faults o) (sym w.out-is) c.moves.invariant.later;
          }
      | in-Shown+in_ok-put-in-Shown w ↦
          let gives : Gives l n [] t P.Shown = gives_fresh l n c.new-text.result t c.in_ok-proceed.field-0 P.Shown c.new-text.ensures w.in-Shown.is c.in_ok-proceed.ensures.gives in
          let put : Appends v (g.O.Sink.written w.put.new.out) (bytes_by c.args.show t) =
          subst (λ b. Appends v (g.O.Sink.written w.put.new.out) (bytes_by c.args.show b)) w.as_slice.ensures w.in_ok-put-in-Shown.ensures.all in
          record {
            machine = c.in_ok-proceed.ensures.machine;
            over = c.in_ok-proceed.ensures.over ∙ c.moves.invariant.over;
            so_far = subst (λ o. SoFar m n c.args.show u (g.O.Sink.written o)) (sym w.out-is) (more_put m l c.args.show u v c.moves.invariant.so_far n t gives.1 (g.O.Sink.written w.put.new.out) gives.0 put);
            far = λ outcome whole.
                let was = c.moves.invariant.far outcome whole in
                (was.0 + 1, subst (λ o. Far m n c.args.show u (g.O.Sink.written o) outcome (was.0 + 1)) (sym w.out-is) (far_shown m l n c.args.show u v t outcome was.0 was.1 c.moves.invariant.so_far.same (goes_fresh l n c.new-text.result t c.in_ok-proceed.field-0 P.Shown c.new-text.ensures w.in-Shown.is c.in_ok-proceed.ensures.further) (omega (arith, c.in_ok-proceed.ensures.grew w.in-Shown.is)) (g.O.Sink.written w.put.new.out) put));
            later = subst (λ o. g.O.Sink.faults c.args.out.now ≤ g.O.Sink.faults o) (sym w.out-is)
                (later_then (g.O.Sink.faults c.args.out.now) (g.O.Sink.faults c.moves.out) (g.O.Sink.faults w.put.new.out) c.moves.invariant.later w.put.ensures.later);
          }
    ]

pub returns-clause-front : goal.returns-clause-front
returns-clause-front g c = front_so_far c.args.self.now c.moves.self c.args.show (g.O.Sink.written c.args.out.now) (g.O.Sink.written c.moves.out) c.moves.invariant.so_far

pub returns-in_err-proceed-clause-front : goal.returns-in_err-proceed-clause-front
returns-in_err-proceed-clause-front g c =
    on_err c.from_residual.result
    (front_so_far c.args.self.now c.moves.self c.args.show (g.O.Sink.written c.args.out.now) (g.O.Sink.written c.moves.out) c.moves.invariant.so_far)
