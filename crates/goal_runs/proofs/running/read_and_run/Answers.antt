use Rattle.std.proofs.Common.{subst, sym, length}
use Rattle.std.specs.Io.KnownBytes.{Appends}
use Rattle.std.proofs.KnownBytes.{Keeps-refl}
use Rattle.plm_io.specs.Causes.{AppendsFront}
use Rattle.pl_terms.specs.NameBounds.{NamesBelow}
use Rattle.pl_store.specs.Facts.{IsLinked}
use Rattle.pl_store.specs.Linked.{with_names}
use Rattle.program_model.specs.Linking.{program_of_facts}
use Rattle.pl_machine.specs.declared.fault.RunFault.TheVariants.{WriteFault}
use Rattle.goal_runs.specs.Runs.{Says}
use Rattle.goal_runs.proofs.Joining.{nothing-put, on-err, handed-on}
use Rattle.goal_runs.proofs.Goals.{says-read, ends-so, front-so, finished-under, put-under, fault-of}
use Rattle.goal_runs.proofs.running.read_and_run.Goals as goal

pub from_parts-requires : goal.from_parts-requires
from_parts-requires g c =
    c.facts_stay.ensures (with_names c.into_parts-old.result.1 c.into_parts-old.result.0) c.read_goal.new.names
    (subst IsLinked (sym c.into_parts-old.ensures.whole) c.into_parts-old.ensures.linked) c.in-Ok.ensures.front c.each_once.ensures

pub run_term-requires-clause-below : goal.run_term-requires-clause-below
run_term-requires-clause-below g c = subst (λ l. NamesBelow (length l.names) c.in-Ok.term.term) (sym c.from_parts.ensures) c.in-Ok.ensures.below

pub run_term-requires-clause-linked : goal.run_term-requires-clause-linked
run_term-requires-clause-linked g c =
    subst IsLinked (sym c.from_parts.ensures)
    (c.facts_stay.ensures (with_names c.into_parts-old.result.1 c.into_parts-old.result.0) c.read_goal.new.names
    (subst IsLinked (sym c.into_parts-old.ensures.whole) c.into_parts-old.ensures.linked) c.in-Ok.ensures.front c.each_once.ensures)

pub returns-in_err-finished-in-Ok-clause-front : goal.returns-in_err-finished-in-Ok-clause-front
returns-in_err-finished-in-Ok-clause-front g c =
    on-err c.from_residual.result _
    (λ us h.
    let says : Says (with_names c.into_parts-old.result.1 c.read_goal.new.names) (program_of_facts us)
    = says-read c.requires.further c.into_parts-old.result.1 c.args.program c.into_parts-old.result.0 c.read_goal.new.names (program_of_facts us)
    c.into_parts-old.ensures.whole c.into_parts-old.ensures.linked c.in-Ok.ensures.front c.each_once.ensures (h.says_same, h.apart) in
    front-so us c.args.budget c.args.goal.now c.args.show c.in-Ok.term c.read_goal.new.names c.in-Ok.ensures.goal c.requires.decided
    (g.O.Sink.written c.args.out.now) (g.O.Sink.written c.run_term.new.out)
    (put-under c.from_parts.result (with_names c.into_parts-old.result.1 c.read_goal.new.names) c.from_parts.ensures c.in-Ok.term c.args.budget c.args.show
    (AppendsFront (g.O.Sink.written c.args.out.now) (g.O.Sink.written c.run_term.new.out)) c.in_err-finished-in-Ok.ensures.front (program_of_facts us) says))

pub returns-in_err-finished-in-Ok-clause-cause : goal.returns-in_err-finished-in-Ok-clause-cause
returns-in_err-finished-in-Ok-clause-cause g c =
    handed-on c.from_residual.result c.in_err-finished-in-Ok.field-0.0 WriteFault _ c.from_residual.ensures.1 c.in_err-finished-in-Ok.ensures.cause

pub returns-in-Ok-clause-ends : goal.returns-in-Ok-clause-ends
returns-in-Ok-clause-ends g c =
    λ us h.
    let says : Says (with_names c.into_parts-old.result.1 c.read_goal.new.names) (program_of_facts us)
    = says-read c.requires.further c.into_parts-old.result.1 c.args.program c.into_parts-old.result.0 c.read_goal.new.names (program_of_facts us)
    c.into_parts-old.ensures.whole c.into_parts-old.ensures.linked c.in-Ok.ensures.front c.each_once.ensures (h.says_same, h.apart) in
    ends-so us c.args.budget c.args.goal.now c.args.show c.in-Ok.term c.read_goal.new.names c.in-Ok.ensures.goal
    (g.O.Sink.written c.args.out.now) (g.O.Sink.written c.run_term.new.out) c.in_ok-finished-in-Ok.finished
    (put-under c.from_parts.result (with_names c.into_parts-old.result.1 c.read_goal.new.names) c.from_parts.ensures c.in-Ok.term c.args.budget c.args.show
    (Appends (g.O.Sink.written c.args.out.now) (g.O.Sink.written c.run_term.new.out)) c.in_ok-finished-in-Ok.ensures.shown (program_of_facts us) says)
    (finished-under c.from_parts.result (with_names c.into_parts-old.result.1 c.read_goal.new.names) c.from_parts.ensures c.in-Ok.term c.args.budget
    c.in_ok-finished-in-Ok.finished c.in_ok-finished-in-Ok.ensures.finished (program_of_facts us) says)

pub returns-in-Err-Fault-clause-ends : goal.returns-in-Err-Fault-clause-ends
returns-in-Err-Fault-clause-ends g c =
    λ us h. (
      fault-of c.args.goal.now c.read_goal.result _ _ c.read_goal.ensures.fault
          (cc (c.in-Err-Fault.is, c.in-Err-Fault.field-0-is, c.in-Err-Fault.number-is, c.in-Err-Fault.byte-is)),
      Keeps-refl (g.O.Sink.written c.args.out.now),
    )

pub returns-clause-front : goal.returns-clause-front
returns-clause-front g c = λ us h bytes s. nothing-put _ bytes
